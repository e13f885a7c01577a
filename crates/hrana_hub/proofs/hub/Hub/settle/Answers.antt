use Rattle.std.proofs.Common.{◌≡◌, ◌∙◌, refl, sym, ap, subst}
use Rattle.stream_task.specs.declared.task.Poll.{Poll}
use Rattle.stream_task.specs.declared.task.Poll.TheVariants.{Ready, Pending}
use Rattle.stream_task.specs.declared.task.Stepped.{Stepped}
use Rattle.stream_task.specs.declared.task.Stepped.TheVariants.{Replied, Broke, Ran, Idle}
use Rattle.hrana_hub.specs.Polled.{FellShort, reply_in}
use Rattle.hrana_hub.proofs.Adding.{alike, adds_none, adds_as}
use Rattle.hrana_hub.proofs.Polling.{Known, both_known, falls_put, put_agrees, put_token, put_adds, Settled, settle_fell, settle_quiet}
use Rattle.hrana_hub.proofs.hub.Hub.settle.Goals as goal

pub returns-in-Ready-Replied-clause-adds : goal.returns-in-Ready-Replied-clause-adds
returns-in-Ready-Replied-clause-adds g c =
    let is : c.args.polled ≡ Ready (Replied c.in-Ready-Replied.reply) = c.in-Ready-Replied.is ∙ ap Ready c.in-Ready-Replied.field-0-is in
    adds_as _ _ c.args.self.now c.reply.new.self (Settled c.args.self.now c.args.stream c.args.conn (Ready (Replied c.in-Ready-Replied.reply)) c.reply.result c.reply.new.self.state) (Settled c.args.self.now c.args.stream c.args.conn c.args.polled c.reply.result c.reply.new.self.state)
    (λ added h. subst (λ r. Settled c.args.self.now c.args.stream c.args.conn r c.reply.result c.reply.new.self.state added) (sym is) h) c.reply.ensures.adds

pub returns-in-Ready-Broke-clause-adds : goal.returns-in-Ready-Broke-clause-adds
returns-in-Ready-Broke-clause-adds g c =
    let is : c.args.polled ≡ Ready Broke = c.in-Ready-Broke.is ∙ ap Ready c.in-Ready-Broke.field-0-is in
    let known : Known c.args.self.now c.args.stream c.args.conn = both_known _ _ _ c.requires.connection c.requires.stream in
    put_adds _ c.args.self.now c.fall.new.self c.args.stream c.args.conn (Settled c.args.self.now c.args.stream c.args.conn c.args.polled c.fall.result c.fall.new.self.state) (falls_put _ _ _ _ known c.fall.ensures.hub)
    (settle_fell c.args.self.now c.fall.new.self c.args.stream c.args.conn c.args.polled c.fall.result (subst FellShort (sym is) tt) c.fall.ensures.given c.fall.ensures.hub)

pub returns-in-Ready-Broke-clause-agrees : goal.returns-in-Ready-Broke-clause-agrees
returns-in-Ready-Broke-clause-agrees g c =
    let known : Known c.args.self.now c.args.stream c.args.conn = both_known _ _ _ c.requires.connection c.requires.stream in
    put_agrees _ _ _ _ _ _ c.args.stream c.args.conn (falls_put _ _ _ _ known c.fall.ensures.hub) c.requires.agrees

pub returns-in-Ready-Broke-clause-token : goal.returns-in-Ready-Broke-clause-token
returns-in-Ready-Broke-clause-token g c =
    let known : Known c.args.self.now c.args.stream c.args.conn = both_known _ _ _ c.requires.connection c.requires.stream in
    put_token _ _ c.args.stream c.args.conn (falls_put _ _ _ _ known c.fall.ensures.hub)

pub returns-in-Ready-Ran-clause-adds : goal.returns-in-Ready-Ran-clause-adds
returns-in-Ready-Ran-clause-adds g c =
    let is : c.args.polled ≡ Ready Ran = c.in-Ready-Ran.is ∙ ap Ready c.in-Ready-Ran.field-0-is in
    adds_none _ c.args.self.now c.args.self.now (Settled c.args.self.now c.args.stream c.args.conn c.args.polled c.nothing.result c.args.self.now.state) refl (alike c.args.self.now c.args.self.now refl refl refl)
    (settle_quiet c.args.self.now c.args.stream c.args.conn c.args.polled c.nothing.result (ap reply_in is) (λ e. let no : ◌≡◌ {A = Poll Stepped} (Ready Ran) (Ready Broke) = sym is ∙ e in cc) c.nothing.ensures)

pub returns-in-Ready-Idle-clause-adds : goal.returns-in-Ready-Idle-clause-adds
returns-in-Ready-Idle-clause-adds g c =
    let is : c.args.polled ≡ Ready Idle = c.in-Ready-Idle.is ∙ ap Ready c.in-Ready-Idle.field-0-is in
    adds_none _ c.args.self.now c.args.self.now (Settled c.args.self.now c.args.stream c.args.conn c.args.polled c.nothing-in-Ready-Idle.result c.args.self.now.state) refl (alike c.args.self.now c.args.self.now refl refl refl)
    (settle_quiet c.args.self.now c.args.stream c.args.conn c.args.polled c.nothing-in-Ready-Idle.result (ap reply_in is) (λ e. let no : ◌≡◌ {A = Poll Stepped} (Ready Idle) (Ready Broke) = sym is ∙ e in cc) c.nothing-in-Ready-Idle.ensures)

pub returns-in-Pending-clause-adds : goal.returns-in-Pending-clause-adds
returns-in-Pending-clause-adds g c =
    adds_none _ c.args.self.now c.args.self.now (Settled c.args.self.now c.args.stream c.args.conn c.args.polled c.nothing-in-Pending.result c.args.self.now.state) refl (alike c.args.self.now c.args.self.now refl refl refl)
    (settle_quiet c.args.self.now c.args.stream c.args.conn c.args.polled c.nothing-in-Pending.result (ap reply_in c.in-Pending.is) (λ e. let no : ◌≡◌ {A = Poll Stepped} Pending (Ready Broke) = sym c.in-Pending.is ∙ e in cc) c.nothing-in-Pending.ensures)

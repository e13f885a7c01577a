use Rattle.std.proofs.Common.{◌≡◌, ◌∙◌, sym, ap, subst, is_some}
use Rattle.stream_task.specs.declared.task.Poll.{Poll}
use Rattle.stream_task.specs.declared.task.Poll.TheVariants.{Ready, Pending}
use Rattle.stream_task.specs.declared.task.Stepped.{Stepped}
use Rattle.stream_task.specs.declared.task.Stepped.TheVariants.{Replied, Broke, Ran, Idle}
use Rattle.hrana_hub.specs.Polled.{FellShort, reply_in}
use Rattle.hrana_hub.proofs.Adding.{adds_as}
use Rattle.hrana_hub.proofs.Polling.{some_of}
use Rattle.hrana_hub.proofs.ExchangePolling.{gives_agree_running, gives_token, gives_running, settled_as, quiet_adds, SettlesRunning}
use Rattle.hrana_hub.proofs.hub.Hub.settle_exchange.Goals as goal

pub note_reply-requires-clause-runs : goal.note_reply-requires-clause-runs
note_reply-requires-clause-runs g c = λ x known. ap is_some (c.requires.runs x known).runs

pub returns-in-Ready-Replied-clause-adds : goal.returns-in-Ready-Replied-clause-adds
returns-in-Ready-Replied-clause-adds g c =
    let is : c.args.polled ≡ Ready (Replied c.in-Ready-Replied.reply) = c.in-Ready-Replied.is ∙ ap Ready c.in-Ready-Replied.field-0-is in
    adds_as _ _ c.args.self.now c.note_reply.new.self (SettlesRunning c.args.self.now c.args.stream (Ready (Replied c.in-Ready-Replied.reply)) c.note_reply.result c.note_reply.new.self.state) (SettlesRunning c.args.self.now c.args.stream c.args.polled c.note_reply.result c.note_reply.new.self.state)
    (λ added h. settled_as c.args.self.now c.args.stream _ _ c.note_reply.result c.note_reply.new.self.state added (sym is) h) c.note_reply.ensures.adds

pub returns-in-Ready-Broke-clause-adds : goal.returns-in-Ready-Broke-clause-adds
returns-in-Ready-Broke-clause-adds g c =
    let is : c.args.polled ≡ Ready Broke = c.in-Ready-Broke.is ∙ ap Ready c.in-Ready-Broke.field-0-is in
    gives_running _ c.args.self.now c.give_up.new.self c.args.stream c.requires.stream c.args.conn c.args.close c.args.polled c.give_up.result (subst FellShort (sym is) tt) c.requires.runs c.give_up.ensures.given c.give_up.ensures.hub

pub returns-in-Ready-Broke-clause-agrees : goal.returns-in-Ready-Broke-clause-agrees
returns-in-Ready-Broke-clause-agrees g c =
    let x = some_of _ c.requires.stream in
    let r = c.requires.runs x.0 x.1 in
    gives_agree_running _ _ _ _ c.args.self.now c.give_up.new.self c.args.stream c.args.conn r.e x.0 c.requires.agrees x.1 r.runs c.give_up.ensures.hub

pub returns-in-Ready-Broke-clause-token : goal.returns-in-Ready-Broke-clause-token
returns-in-Ready-Broke-clause-token g c = gives_token c.args.self.now c.give_up.new.self c.args.stream c.args.conn c.requires.stream c.give_up.ensures.hub

pub returns-in-Ready-Ran-clause-adds : goal.returns-in-Ready-Ran-clause-adds
returns-in-Ready-Ran-clause-adds g c =
    let is : c.args.polled ≡ Ready Ran = c.in-Ready-Ran.is ∙ ap Ready c.in-Ready-Ran.field-0-is in
    quiet_adds _ c.args.self.now c.args.stream c.args.polled c.nothing.result (ap reply_in is) (λ e. let no : ◌≡◌ {A = Poll Stepped} (Ready Ran) (Ready Broke) = sym is ∙ e in cc) c.nothing.ensures

pub returns-in-Ready-Idle-clause-adds : goal.returns-in-Ready-Idle-clause-adds
returns-in-Ready-Idle-clause-adds g c =
    let is : c.args.polled ≡ Ready Idle = c.in-Ready-Idle.is ∙ ap Ready c.in-Ready-Idle.field-0-is in
    quiet_adds _ c.args.self.now c.args.stream c.args.polled c.nothing-in-Ready-Idle.result (ap reply_in is) (λ e. let no : ◌≡◌ {A = Poll Stepped} (Ready Idle) (Ready Broke) = sym is ∙ e in cc) c.nothing-in-Ready-Idle.ensures

pub returns-in-Pending-clause-adds : goal.returns-in-Pending-clause-adds
returns-in-Pending-clause-adds g c =
    quiet_adds _ c.args.self.now c.args.stream c.args.polled c.nothing-in-Pending.result (ap reply_in c.in-Pending.is) (λ e. let no : ◌≡◌ {A = Poll Stepped} Pending (Ready Broke) = sym c.in-Pending.is ∙ e in cc) c.nothing-in-Pending.ensures

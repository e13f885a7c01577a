use Rattle.std.proofs.Common.{◌≡◌, ◌∙◌, sym, ap, subst}
use Rattle.std.specs.Option.{IsSome}
use Rattle.std.specs.Prelude.{is_err}
use Rattle.pipeline_body.specs.Exchanges.{answered, is_over}
use Rattle.hrana_hub.specs.Maps.{at}
use Rattle.hrana_hub.specs.Exchanges.{in_session}
use Rattle.hrana_hub.specs.State.{Seen}
use Rattle.hrana_hub.specs.declared.sessions.Session.TheVariants.{Running}
use Rattle.hrana_hub.proofs.Adding.{adds_until}
use Rattle.hrana_hub.proofs.ExchangePolling.{gives_adds, gives_agree, gives_token, runs_adds, runs_on_agree, runs_token, on_ok_at, with_put, short_settles, gives_list, gives_alike}
use Rattle.hrana_hub.proofs.hub.Hub.proceed.Goals as goal

pub returns-then-is_err-clause-adds : goal.returns-then-is_err-clause-adds
returns-then-is_err-clause-adds g c =
    gives_adds _ c.args.self.now c.give_up.new.self c.args.stream c.requires.stream c.args.running _ c.give_up.result tt c.give_up.ensures.given c.give_up.ensures.hub

pub returns-then-is_err-clause-agrees : goal.returns-then-is_err-clause-agrees
returns-then-is_err-clause-agrees g c = gives_agree _ _ _ _ c.args.self.now c.give_up.new.self c.args.stream c.args.running.conn c.requires.agrees c.requires.stream c.requires.rests c.give_up.ensures.hub

pub returns-then-is_err-clause-token : goal.returns-then-is_err-clause-token
returns-then-is_err-clause-token g c = gives_token c.args.self.now c.give_up.new.self c.args.stream c.args.running.conn c.requires.stream c.give_up.ensures.hub

pub returns-then-not-is_over-clause-adds : goal.returns-then-not-is_over-clause-adds
returns-then-not-is_over-clause-adds g c =
    let e = c.args.running in
    let noted : c.answered.new.self ≡ answered c.args.reply e.exchange = on_ok_at c.answered.result (sym c.is_err.ensures.value ∙ c.if-is_err.false) c.answered.ensures in
    runs_adds _ c.args.self.now c.run_on.new.self c.args.stream c.requires.stream e c.args.reply c.nothing.result (ap is_over (sym noted) ∙ sym c.if-not-is_over.ensures) c.nothing.ensures
    (λ x known. c.run_on.ensures x known ∙ ap (λ p. with_put c.args.stream (in_session (Running (record { conn = e.conn; words = e.words; close = e.close; exchange = p })) x) c.args.self.now.state.exchanges c.args.self.now) noted)

pub returns-then-not-is_over-clause-agrees : goal.returns-then-not-is_over-clause-agrees
returns-then-not-is_over-clause-agrees g c = runs_on_agree _ _ _ _ c.args.self.now c.run_on.new.self c.args.stream _ c.requires.agrees c.requires.stream c.requires.rests c.run_on.ensures

pub returns-then-not-is_over-clause-token : goal.returns-then-not-is_over-clause-token
returns-then-not-is_over-clause-token g c = runs_token c.args.self.now c.run_on.new.self c.args.stream _ c.requires.stream c.run_on.ensures

pub returns-in-Err-clause-adds : goal.returns-in-Err-clause-adds
returns-in-Err-clause-adds g c =
    let old = c.args.self.now in
    let mid = c.conclude.new.self in
    let new = c.give_up-in-Err.new.self in
    let same : mid ≡ old = c.in-Err.ensures.err in
    let stream = subst (λ (s : Seen). IsSome (at c.args.stream s.state.streams)) (sym same) c.requires.stream in
    adds_until _ _ old mid new _ _ (gives_list mid new c.args.stream c.args.running.conn stream c.give_up-in-Err.ensures.hub) (gives_alike mid new c.args.stream c.args.running.conn stream c.give_up-in-Err.ensures.hub)
    (λ added p. short_settles old mid new c.args.stream c.args.running _ c.args.reply c.give_up-in-Err.result c.conclude.result added (ap is_err c.in-Err.is) same c.give_up-in-Err.ensures.given c.give_up-in-Err.ensures.hub p) c.conclude.ensures.adds

pub returns-in-Err-clause-agrees : goal.returns-in-Err-clause-agrees
returns-in-Err-clause-agrees g c =
    let same = c.in-Err.ensures.err in
    gives_agree _ _ _ _ c.conclude.new.self c.give_up-in-Err.new.self c.args.stream c.args.running.conn c.conclude.ensures.agrees (subst (λ (s : Seen). IsSome (at c.args.stream s.state.streams)) (sym same) c.requires.stream)
    (λ x known. c.requires.rests x (ap (λ (s : Seen). at c.args.stream s.state.streams) (sym same) ∙ known)) c.give_up-in-Err.ensures.hub

pub returns-in-Err-clause-token : goal.returns-in-Err-clause-token
returns-in-Err-clause-token g c =
    let same = c.in-Err.ensures.err in
    gives_token c.conclude.new.self c.give_up-in-Err.new.self c.args.stream c.args.running.conn (subst (λ (s : Seen). IsSome (at c.args.stream s.state.streams)) (sym same) c.requires.stream) c.give_up-in-Err.ensures.hub ∙ c.conclude.ensures.token

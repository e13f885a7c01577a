use Rattle.std.proofs.Common.{◌∙◌, refl, sym, ap, subst}
use Rattle.std.specs.Option.{IsSome}
use Rattle.hrana_hub.specs.Maps.{at, without}
use Rattle.hrana_hub.specs.ExchangeSettled.{Ends, given_up}
use Rattle.hrana_hub.specs.State.{State}
use Rattle.hrana_hub.specs.Step.{PollSteps}
use Rattle.hrana_hub.proofs.Adding.{alike, adds_from}
use Rattle.hrana_hub.proofs.Agreeing.{places_agrees}
use Rattle.hrana_hub.proofs.Polling.{some_of, polls_session}
use Rattle.hrana_hub.proofs.ExchangePolling.{running_session, is_running, put_adds_none, gives_agree_running, gives_token, gives_left, gives_answer, early_gives}
use Rattle.hrana_hub.proofs.hub.Hub.poll_session.Given as given
use Rattle.hrana_hub.proofs.hub.Hub.poll_session.Goals as goal

still : (g : given.Over) (c : goal.After-give_up g) → IsSome (at c.args.stream c.make_places.new.self.state.streams)
still g c = subst (λ (s : State). IsSome (at c.args.stream s.streams)) (sym c.make_places.ensures.rest.state) c.requires.stream

pub returns-then-is_err-clause-adds : goal.returns-then-is_err-clause-adds
returns-then-is_err-clause-adds g c =
    let old = c.args.self.now in
    let mid = c.make_places.new.self in
    let new = c.give_up.new.self in
    let rest = c.make_places.ensures.rest in
    let x = some_of _ c.requires.stream in
    let r = c.requires.runs x.0 x.1 in
    let waits = c.requires.waits x.0 x.1 in
    let there = ap (λ (s : State). at c.args.stream s.streams) rest.state ∙ x.1 in
    adds_from _ _ old mid new _ _ rest.list (alike old mid (ap (λ (s : State). s.streams) rest.state) rest.turns rest.next) (λ added h. h)
    (put_adds_none _ mid new c.args.stream (still g c) (given_up mid.state.now) (without c.args.conn mid.state.exchanges) (λ added. PollSteps g.E.Engine.SHARED old.state c.args.stream added c.give_up.result new.state) (λ y. refl) c.give_up.ensures.hub
    (polls_session g.E.Engine.SHARED old.state c.args.stream x.0 r.e _ c.give_up.result new.state x.1 waits (running_session x.0 r.e r.runs)
    (early_gives g.E.Engine.SHARED old c.args.stream x.0 r.e c.give_up.result new.state (c.streams_agree.ensures.turn _ _ _ _ _ c.requires.agrees.together) waits (gives_answer c.give_up.result c.args.conn c.args.close x.0 r c.give_up.ensures.given)
    (gives_left old mid new c.args.stream c.args.conn c.args.close x.0 r rest.state (c.give_up.ensures.hub x.0 there)))))

pub returns-then-is_err-clause-agrees : goal.returns-then-is_err-clause-agrees
returns-then-is_err-clause-agrees g c =
    let mid = c.make_places.new.self in
    let x = some_of _ c.requires.stream in
    let r = c.requires.runs x.0 x.1 in
    gives_agree_running _ _ _ _ mid c.give_up.new.self c.args.stream c.args.conn r.e x.0 (places_agrees _ _ _ _ c.args.self.now mid c.requires.agrees c.make_places.ensures.rest)
    (ap (λ (s : State). at c.args.stream s.streams) c.make_places.ensures.rest.state ∙ x.1) r.runs c.give_up.ensures.hub

pub returns-then-is_err-clause-token : goal.returns-then-is_err-clause-token
returns-then-is_err-clause-token g c = gives_token c.make_places.new.self c.give_up.new.self c.args.stream c.args.conn (still g c) c.give_up.ensures.hub ∙ c.make_places.ensures.rest.token

pub returns-clause-adds : goal.returns-clause-adds
returns-clause-adds g c =
    let old = c.args.self.now in
    let mid = c.make_places.new.self in
    let new = c.poll_exchange.new.self in
    let rest = c.make_places.ensures.rest in
    let x = some_of _ c.requires.stream in
    let r = c.requires.runs x.0 x.1 in
    let there = ap (λ (s : State). at c.args.stream s.streams) rest.state ∙ x.1 in
    adds_from _ _ old mid new _ _ rest.list (alike old mid (ap (λ (s : State). s.streams) rest.state) rest.turns rest.next)
    (λ added h. polls_session g.E.Engine.SHARED old.state c.args.stream x.0 r.e added c.poll_exchange.result new.state x.1 (c.requires.waits x.0 x.1) (running_session x.0 r.e r.runs)
    (subst (λ s. Ends g.E.Engine.SHARED s c.args.stream x.0 r.e added c.poll_exchange.result new.state) rest.state (h x.0 r.e (is_running mid.state c.args.stream x.0 r.e there r.runs)))) c.poll_exchange.ensures.adds

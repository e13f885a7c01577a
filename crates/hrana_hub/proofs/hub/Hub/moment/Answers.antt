use Rattle.std.proofs.Common.{◌≡◌, ◌∙◌, true, false, nat_lt, refl, sym, ap, subst, arith}
use Rattle.std.proofs.lemmas.Bool.{lt-ltb, le-ltb}
use Rattle.hrana_hub.specs.Adds.{Adds}
use Rattle.hrana_hub.specs.Maps.{Numbered, at}
use Rattle.hrana_hub.specs.Moments.{Expire}
use Rattle.hrana_hub.specs.State.{State, Stream, Seen}
use Rattle.hrana_hub.specs.Step.{MomentAt}
use Rattle.hrana_hub.specs.contracts.hub.Hub.{the_view}
use Rattle.hrana_hub.proofs.Adding.{alike, adds_none, adds_until}
use Rattle.hrana_hub.proofs.Expiring.{moment_rests, moment_comes}
use Rattle.hrana_hub.proofs.hub.Hub.moment.Given as given
use Rattle.hrana_hub.proofs.hub.Hub.moment.Goals as goal

pub returns-then-moment-self-clause-adds : goal.returns-then-moment-self-clause-adds
returns-then-moment-self-clause-adds g c =
    let early : nat_lt c.args.moment c.args.self.now.state.now ≡ true = lt-ltb c.args.moment c.args.self.now.state.now (let same = ap (λ (h : Seen). h.state.now) c.self.view_is in omega (arith, same, c.if-moment-self.true)) in
    adds_none _ c.args.self.now c.args.self.now _ refl (alike c.args.self.now c.args.self.now refl refl refl) (moment_rests c.args.self.now.state c.args.moment c.nothing.result early c.nothing.ensures)

abbrev left : (g : given.Over) → goal.After-nothing-2 g → Numbered Stream → Seen
left g c streams = the_view (record { alloc = c.self-2.inside.alloc; token = c.self-2.inside.token; conns = c.self-2.inside.conns; streams = streams; exchanges = c.self-2.inside.exchanges; issued = c.self-2.inside.issued; opened = c.self-2.inside.opened; events = c.self-2.inside.events; moment = c.args.moment; stopped = c.self-2.inside.stopped; turns = c.self-2.inside.turns; store = c.self-2.inside.store; entries = c.self-2.inside.entries })

pub returns-clause-adds : goal.returns-clause-adds
returns-clause-adds g c =
    let old = c.args.self.now in
    let comes : nat_lt c.args.moment old.state.now ≡ false = le-ltb c.args.moment old.state.now (let same = ap (λ (h : Seen). h.state.now) c.self.view_is in omega (arith, same, c.if-moment-self.false)) in
    let state = ap (λ (h : Seen). h.state) c.self-2.view_is ∙ c.expire_due.ensures.state in
    subst (λ es. Adds g.E.Engine.told g.E.Engine.SHARED g.E.Engine.meaning g.E.Engine.db g.E.Engine.live g.E.Engine.faults c.args.engine.now c.expire_due.new.engine old (left g c es) (λ added. MomentAt old.state c.args.moment added c.nothing-2.result (left g c es).state)) (sym c.look_ahead.ensures)
    (adds_until _ _ old c.expire_due.new.self (left g c c.self-2.inside.streams) _ _ (ap (λ (h : Seen). h.noted.list) c.self-2.view_is)
    (alike c.expire_due.new.self (left g c c.self-2.inside.streams) (ap (λ (h : Seen). h.state.streams) c.self-2.view_is) (ap (λ (h : Seen). h.turns) c.self-2.view_is) (ap (λ (h : Seen). h.noted.next) c.self-2.view_is))
    (λ added ends. moment_comes old.state c.args.moment added _ (left g c c.self-2.inside.streams).state comes ends c.nothing-2.ensures
    (ap (λ (s : State). record s { now = c.args.moment }) state)) c.expire_due.ensures.adds)

pub returns-clause-freed : goal.returns-clause-freed
returns-clause-freed g c = λ comes n x known due.
    let freed = subst (λ (h : Seen). Expire c.args.moment c.args.self.now h) (sym c.self-2.view_is) c.expire_due.ensures.freed n x known due in
    record { stream = ap (at n) c.look_ahead.ensures ∙ freed.stream; turn = freed.turn; waits = freed.waits }

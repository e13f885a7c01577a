use Rattle.std.proofs.Common.{◌≡◌, ◌∙◌, Some, refl, sym, ap, subst}
use Rattle.txn_table.specs.Turns.{has}
use Rattle.stream_task.specs.Together.{numbered}
use Rattle.hrana_hub.specs.Maps.{at, put}
use Rattle.hrana_hub.specs.Adds.{Adds}
use Rattle.hrana_hub.specs.Agrees.{HubAgrees, IsTied}
use Rattle.hrana_hub.specs.Ended.{end_of}
use Rattle.hrana_hub.specs.Moments.{expired}
use Rattle.hrana_hub.specs.Polled.{with_streams}
use Rattle.hrana_hub.specs.State.{Seen}
use Rattle.hrana_hub.specs.contracts.hub.Hub.{the_view}
use Rattle.engine_core.specs.declared.entries.Undo.TheVariants.{Expired}
use Rattle.hrana_hub.proofs.Adding.{alike, adds_none}
use Rattle.hrana_hub.proofs.Agreeing.{state_is}
use Rattle.hrana_hub.proofs.Ending.{EndDid, may_poll, end_room, end_adds, end_agrees, end_leaves, end_waits, same_next, same_version}
use Rattle.hrana_hub.proofs.Expiring.{dead_of}
use Rattle.hrana_hub.proofs.MapLemmas.{some_one}
use Rattle.hrana_hub.proofs.Tied.{tied_put}
use Rattle.hrana_hub.proofs.hub.Hub.deaden.Given as given
use Rattle.hrana_hub.proofs.hub.Hub.deaden.Goals as goal

abbrev after : (g : given.Over) → goal.After-self-in-Some-1 g → Seen
after g c = the_view (record { alloc = c.self.inside.alloc; token = c.self.inside.token; conns = c.self.inside.conns; streams = put c.args.stream c.expire.new.self c.self.inside.streams; exchanges = c.self.inside.exchanges; issued = c.self.inside.issued; opened = c.self.inside.opened; events = c.self.inside.events; moment = c.self.inside.moment; stopped = c.self.inside.stopped; turns = c.expire.new.turns; store = c.self.inside.store; entries = c.expire.new.entries })

did : (g : given.Over) (c : goal.After-self-in-Some-1 g) → EndDid g.E.Engine.told g.E.Engine.SHARED g.E.Engine.meaning g.E.Engine.db g.E.Engine.live g.E.Engine.faults c.args.engine.now c.expire.new.engine Expired c.args.stream c.in-Some.slot.now (Some (expired c.in-Some.slot.now).task.session.state) (the_view c.self.inside) (after g c)
did g c =
    let agrees = subst (λ h. HubAgrees g.E.Engine.told g.E.Engine.SHARED (g.E.Engine.db c.args.engine.now) (g.E.Engine.live c.args.engine.now) h) (sym c.self.view_is) c.requires in
    let known = sym c.in-Some.ensures.value in
    let streams = ap (λ x. put c.args.stream x c.self.inside.streams) c.expire.ensures.slot in
    let dead = dead_of c.args.stream c.in-Some.slot.now (the_view c.self.inside).state (after g c).state agrees.numbers known streams refl in
    record {
      agrees = agrees;
      known = known;
      ended = c.expire.ensures.ended;
      spare = c.expire.ensures.spare;
      shut = refl;
      states = dead.states;
      others = dead.others;
      numbers = dead.numbers;
      units = dead.units;
      opened = refl;
      next = refl;
      version = refl;
      events = refl;
      issued = refl;
      stopped = refl;
      store_issued = refl;
      ties = λ t. subst (λ es. IsTied es c.self.inside.store) (sym streams) (tied_put c.args.stream c.in-Some.slot.now (expired c.in-Some.slot.now) c.self.inside.streams c.self.inside.store known refl t);
    }

pub expire-requires-clause-may : goal.expire-requires-clause-may
expire-requires-clause-may g c = may_poll _ _ _ _ (the_view c.self.inside) c.args.stream c.in-Some.slot.now c.streams_agree.ensures.polls (subst (λ h. HubAgrees g.E.Engine.told g.E.Engine.SHARED (g.E.Engine.db c.args.engine.now) (g.E.Engine.live c.args.engine.now) h) (sym c.self.view_is) c.requires) (sym c.in-Some.ensures.value)

pub expire-requires-clause-room : goal.expire-requires-clause-room
expire-requires-clause-room g c = end_room g.E.Engine.told g.E.Engine.SHARED (g.E.Engine.db c.args.engine.now) (g.E.Engine.live c.args.engine.now) (the_view c.self.inside) c.args.stream c.in-Some.slot.now (subst (λ h. HubAgrees g.E.Engine.told g.E.Engine.SHARED (g.E.Engine.db c.args.engine.now) (g.E.Engine.live c.args.engine.now) h) (sym c.self.view_is) c.requires) (sym c.in-Some.ensures.value)

pub returns-in-Some-clause-adds : goal.returns-in-Some-clause-adds
returns-in-Some-clause-adds g c =
    subst (λ h. Adds g.E.Engine.told g.E.Engine.SHARED g.E.Engine.meaning g.E.Engine.db g.E.Engine.live g.E.Engine.faults c.args.engine.now c.expire.new.engine h (after g c) (λ added. added ≡ end_of Expired (at c.args.stream h.state.streams))) c.self.view_is
    (end_adds _ _ _ _ _ _ _ _ _ _ _ _ _ _ (did g c) c.ends_lead_on.ensures)

pub returns-in-Some-clause-agrees : goal.returns-in-Some-clause-agrees
returns-in-Some-clause-agrees g c = end_agrees _ _ _ _ _ _ _ _ _ _ _ _ _ _ (did g c) c.ends_keep_agreement.ensures

pub returns-in-Some-clause-table : goal.returns-in-Some-clause-table
returns-in-Some-clause-table g c = λ some. end_leaves _ _ _ _ _ _ _ _ _ _ _ _ _ _ (did g c) (returns-in-Some-clause-agrees g c)

pub returns-in-Some-clause-others : goal.returns-in-Some-clause-others
returns-in-Some-clause-others g c = λ n w. sym (ap (λ (h : Seen). has (numbered n) h.turns.waiters) c.self.view_is) ∙ (end_waits _ _ _ _ _ _ _ _ _ _ _ _ _ _ (did g c) n w).1

pub returns-in-Some-clause-state : goal.returns-in-Some-clause-state
returns-in-Some-clause-state g c = λ x known.
    let old = the_view c.self.inside in
    let same : c.in-Some.slot.now ≡ x = some_one (c.in-Some.ensures.value ∙ (ap (λ (h : Seen). at c.args.stream h.state.streams) c.self.view_is ∙ known)) in
    let streams = ap (λ y. put c.args.stream y c.self.inside.streams) (c.expire.ensures.slot ∙ ap expired same) in
    subst (λ (h : Seen). (after g c).state ≡ with_streams (put c.args.stream (expired x) h.state.streams) h.state) c.self.view_is
    (state_is (after g c).state (with_streams (put c.args.stream (expired x) old.state.streams) old.state) refl streams refl refl refl (same_next _ _ _ _ _ _ _ _ _ _ _ _ _ _ (did g c)) (same_version _ _ _ _ _ _ _ _ _ _ _ _ _ _ (did g c)) refl refl refl)

pub returns-in_default-clause-adds : goal.returns-in_default-clause-adds
returns-in_default-clause-adds g c =
    let old = the_view c.self.inside in
    let left : Seen = the_view (record { alloc = c.self.inside.alloc; token = c.self.inside.token; conns = c.self.inside.conns; streams = c.self.inside.streams; exchanges = c.self.inside.exchanges; issued = c.self.inside.issued; opened = c.self.inside.opened; events = c.self.inside.events; moment = c.self.inside.moment; stopped = c.self.inside.stopped; turns = c.self.inside.turns; store = c.self.inside.store; entries = c.self.inside.entries }) in
    subst (λ h. Adds g.E.Engine.told g.E.Engine.SHARED g.E.Engine.meaning g.E.Engine.db g.E.Engine.live g.E.Engine.faults c.args.engine.now c.args.engine.now h left (λ added. added ≡ end_of Expired (at c.args.stream h.state.streams))) c.self.view_is
    (adds_none c.args.engine.now old left _ refl (alike old left refl refl refl) (sym (ap (end_of Expired) (sym c.in_default.ensures.value))))

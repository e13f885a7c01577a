use Rattle.std.proofs.Common.{◌≡◌, ◌∙◌, None, refl, sym, ap, subst}
use Rattle.txn_table.specs.Turns.{has}
use Rattle.stream_task.specs.Together.{numbered}
use Rattle.hrana_hub.specs.Maps.{at}
use Rattle.hrana_hub.specs.State.{Seen}
use Rattle.hrana_hub.specs.Adds.{Adds}
use Rattle.baton_store.specs.Batons.{Batons}
use Rattle.hrana_hub.specs.Agrees.{HubAgrees, IsTied, forgets}
use Rattle.hrana_hub.specs.Ended.{end_of}
use Rattle.hrana_hub.specs.contracts.hub.Hub.{the_view}
use Rattle.hrana_hub.proofs.Adding.{alike, adds_none}
use Rattle.hrana_hub.proofs.EntryLemmas.{without_unknown}
use Rattle.hrana_hub.proofs.Ending.{EndDid, forgets_issued, let_go_of, may_poll, end_room, end_adds, end_agrees, end_leaves, end_waits}
use Rattle.hrana_hub.proofs.Tied.{tied_without}
use Rattle.hrana_hub.proofs.hub.Hub.end_stream.Given as given
use Rattle.hrana_hub.proofs.hub.Hub.end_stream.Goals as goal

abbrev after : (g : given.Over) → goal.After-end g → Seen
after g c = the_view (record { alloc = c.self.inside.alloc; token = c.self.inside.token; conns = c.self.inside.conns; streams = c.remove.new.self; exchanges = c.self.inside.exchanges; issued = c.self.inside.issued; opened = c.self.inside.opened; events = c.self.inside.events; moment = c.self.inside.moment; stopped = c.self.inside.stopped; turns = c.end.new.turns; store = c.forget_session.new.store; entries = c.end.new.entries })

did : (g : given.Over) (c : goal.After-end g) → EndDid g.E.Engine.told g.E.Engine.SHARED g.E.Engine.meaning g.E.Engine.db g.E.Engine.live g.E.Engine.faults c.args.engine.now c.end.new.engine c.args.why c.args.stream c.in-Some.slot None (the_view c.self.inside) (after g c)
did g c =
    let agrees = subst (λ h. HubAgrees g.E.Engine.told g.E.Engine.SHARED (g.E.Engine.db c.args.engine.now) (g.E.Engine.live c.args.engine.now) h) (sym c.self.view_is) c.requires in
    let known = sym c.in-Some.ensures.value in
    let gone = let_go_of c.args.stream c.in-Some.slot (the_view c.self.inside).state (after g c).state agrees.numbers known (c.remove.ensures.entries) refl in
    record {
      agrees = agrees;
      known = known;
      ended = c.end.ensures.ended;
      spare = c.end.ensures.spare;
      shut = refl;
      states = gone.states;
      others = gone.others;
      numbers = gone.numbers;
      units = gone.units;
      opened = refl;
      next = refl;
      version = refl;
      events = refl;
      issued = refl;
      stopped = refl;
      store_issued = ap (λ (b : Batons). b.issued) c.forget_session.ensures ∙ forgets_issued c.in-Some.slot c.args.stream c.self.inside.store;
      ties = λ t. subst (IsTied c.remove.new.self) (sym c.forget_session.ensures) (subst (λ es. IsTied es (forgets c.in-Some.slot c.args.stream c.self.inside.store)) (sym (c.remove.ensures.entries)) (tied_without c.args.stream c.in-Some.slot c.self.inside.streams c.self.inside.store agrees.numbers.rising known t));
    }

pub end-requires-clause-may : goal.end-requires-clause-may
end-requires-clause-may g c = may_poll _ _ _ _ (the_view c.self.inside) c.args.stream c.in-Some.slot c.streams_agree.ensures.polls (subst (λ h. HubAgrees g.E.Engine.told g.E.Engine.SHARED (g.E.Engine.db c.args.engine.now) (g.E.Engine.live c.args.engine.now) h) (sym c.self.view_is) c.requires) (sym c.in-Some.ensures.value)

pub end-requires-clause-room : goal.end-requires-clause-room
end-requires-clause-room g c = end_room g.E.Engine.told g.E.Engine.SHARED (g.E.Engine.db c.args.engine.now) (g.E.Engine.live c.args.engine.now) (the_view c.self.inside) c.args.stream c.in-Some.slot (subst (λ h. HubAgrees g.E.Engine.told g.E.Engine.SHARED (g.E.Engine.db c.args.engine.now) (g.E.Engine.live c.args.engine.now) h) (sym c.self.view_is) c.requires) (sym c.in-Some.ensures.value)

pub returns-in-Some-clause-adds : goal.returns-in-Some-clause-adds
returns-in-Some-clause-adds g c =
    subst (λ h. Adds g.E.Engine.told g.E.Engine.SHARED g.E.Engine.meaning g.E.Engine.db g.E.Engine.live g.E.Engine.faults c.args.engine.now c.end.new.engine h (after g c) (λ added. added ≡ end_of c.args.why (at c.args.stream h.state.streams))) c.self.view_is
    (end_adds g.E.Engine.told g.E.Engine.SHARED g.E.Engine.meaning g.E.Engine.db g.E.Engine.live g.E.Engine.faults c.args.engine.now c.end.new.engine c.args.why c.args.stream c.in-Some.slot None (the_view c.self.inside) (after g c) (did g c) c.ends_lead_on.ensures)

pub returns-in-Some-clause-agrees : goal.returns-in-Some-clause-agrees
returns-in-Some-clause-agrees g c = end_agrees g.E.Engine.told g.E.Engine.SHARED g.E.Engine.meaning g.E.Engine.db g.E.Engine.live g.E.Engine.faults c.args.engine.now c.end.new.engine c.args.why c.args.stream c.in-Some.slot None (the_view c.self.inside) (after g c) (did g c) c.ends_keep_agreement.ensures

pub returns-in-Some-clause-table : goal.returns-in-Some-clause-table
returns-in-Some-clause-table g c = λ some. end_leaves g.E.Engine.told g.E.Engine.SHARED g.E.Engine.meaning g.E.Engine.db g.E.Engine.live g.E.Engine.faults c.args.engine.now c.end.new.engine c.args.why c.args.stream c.in-Some.slot None (the_view c.self.inside) (after g c) (did g c) (returns-in-Some-clause-agrees g c)

pub returns-in-Some-clause-others : goal.returns-in-Some-clause-others
returns-in-Some-clause-others g c = λ n w. sym (ap (λ (h : Seen). has (numbered n) h.turns.waiters) c.self.view_is) ∙ (end_waits _ _ _ _ _ _ _ _ _ _ _ _ _ _ (did g c) n w).1

pub returns-in_default-clause-agrees : goal.returns-in_default-clause-agrees
returns-in_default-clause-agrees g c =
    let h = c.self.inside in
    let same = c.remove.ensures.entries ∙ without_unknown c.args.stream h.streams (sym c.in_default.ensures.value) in
    subst (λ es. HubAgrees g.E.Engine.told g.E.Engine.SHARED (g.E.Engine.db c.args.engine.now) (g.E.Engine.live c.args.engine.now) (the_view (record { alloc = h.alloc; token = h.token; conns = h.conns; streams = es; exchanges = h.exchanges; issued = h.issued; opened = h.opened; events = h.events; moment = h.moment; stopped = h.stopped; turns = h.turns; store = h.store; entries = h.entries }))) (sym same)
    (subst (λ h. HubAgrees g.E.Engine.told g.E.Engine.SHARED (g.E.Engine.db c.args.engine.now) (g.E.Engine.live c.args.engine.now) h) (sym c.self.view_is) c.requires)

pub returns-in_default-clause-adds : goal.returns-in_default-clause-adds
returns-in_default-clause-adds g c =
    let old = the_view c.self.inside in
    let left : Seen = the_view (record { alloc = c.self.inside.alloc; token = c.self.inside.token; conns = c.self.inside.conns; streams = c.remove.new.self; exchanges = c.self.inside.exchanges; issued = c.self.inside.issued; opened = c.self.inside.opened; events = c.self.inside.events; moment = c.self.inside.moment; stopped = c.self.inside.stopped; turns = c.self.inside.turns; store = c.self.inside.store; entries = c.self.inside.entries }) in
    let unknown : at c.args.stream old.state.streams ≡ None = sym c.in_default.ensures.value in
    let same = c.remove.ensures.entries ∙ without_unknown c.args.stream old.state.streams unknown in
    subst (λ h. Adds g.E.Engine.told g.E.Engine.SHARED g.E.Engine.meaning g.E.Engine.db g.E.Engine.live g.E.Engine.faults c.args.engine.now c.args.engine.now h left (λ added. added ≡ end_of c.args.why (at c.args.stream h.state.streams))) c.self.view_is
    (adds_none c.args.engine.now old left _ refl (alike old left same refl refl) (sym (ap (end_of c.args.why) unknown)))

use Rattle.std.proofs.Common.{◌≡◌, ◌≤◌, ◌+◌, ◌∙◌, Some, refl, sym, ap, subst, length}
use Rattle.stream_task.specs.declared.task.Poll.TheVariants.{Ready}
use Rattle.stream_task.specs.declared.task.Stepped.TheVariants.{Idle}
use Rattle.hrana_hub.specs.Maps.{at, put}
use Rattle.hrana_hub.specs.State.{Stream, Seen}
use Rattle.hrana_hub.specs.Adds.{Adds}
use Rattle.hrana_hub.specs.Agrees.{HubAgrees, IsAhead}
use Rattle.hrana_hub.specs.Settled.{PollsStream}
use Rattle.hrana_hub.specs.contracts.hub.Hub.{the_view}
use Rattle.hrana_hub.proofs.MapLemmas.{none_some}
use Rattle.hrana_hub.proofs.Adding.{alike, adds_none}
use Rattle.hrana_hub.proofs.Ending.{may_poll}
use Rattle.hrana_hub.proofs.Polling.{PollDid, poll_adds, poll_agrees}
use Rattle.hrana_hub.proofs.hub.Hub.poll_stream.Given as given
use Rattle.hrana_hub.proofs.hub.Hub.poll_stream.Goals as goal

abbrev after : (g : given.Over) → goal.After-self-in-Some-1 g → Seen
after g c = the_view (record { alloc = c.self.inside.alloc; token = c.self.inside.token; conns = c.self.inside.conns; streams = put c.args.stream c.poll.new.self c.self.inside.streams; exchanges = c.self.inside.exchanges; issued = c.self.inside.issued; opened = c.self.inside.opened; events = c.self.inside.events; moment = c.self.inside.moment; stopped = c.self.inside.stopped; turns = c.poll.new.turns; store = c.self.inside.store; entries = c.poll.new.entries })

pub poll-requires-clause-may : goal.poll-requires-clause-may
poll-requires-clause-may g c = may_poll _ _ _ _ (the_view c.self.inside) c.args.stream c.in-Some.slot.now c.streams_agree.ensures.polls
    (subst (λ h. HubAgrees g.E.Engine.told g.E.Engine.SHARED (g.E.Engine.db c.args.engine.now) (g.E.Engine.live c.args.engine.now) h) (sym c.self.view_is) c.requires.agrees) (sym c.in-Some.ensures.value)

did : (g : given.Over) (c : goal.After-self-in-Some-1 g) → PollDid g.E.Engine.told g.E.Engine.SHARED g.E.Engine.meaning g.E.Engine.db g.E.Engine.live g.E.Engine.faults c.args.engine.now c.poll.new.engine c.args.stream c.in-Some.slot.now c.poll.new.self.task c.poll.result (the_view c.self.inside) (after g c)
did g c = record {
  agrees = subst (λ h. HubAgrees g.E.Engine.told g.E.Engine.SHARED (g.E.Engine.db c.args.engine.now) (g.E.Engine.live c.args.engine.now) h) (sym c.self.view_is) c.requires.agrees;
  ahead = subst (λ (h : Seen). IsAhead h.state) (sym c.self.view_is) c.requires.ahead;
  room = subst (λ (h : Seen). length h.state.streams + 2 ≤ h.noted.spare) (sym c.self.view_is) c.requires.room;
  known = sym c.in-Some.ensures.value;
  did = c.poll.ensures.polled;
  spare = c.poll.ensures.spare;
  conns = refl;
  exchanges = refl;
  issued = refl;
  store = refl;
  streams = ap (λ x. put c.args.stream x c.self.inside.streams) c.poll.ensures.slot;
  opened = refl;
  next = refl;
  version = refl;
  events = refl;
  now = refl;
  stopped = refl;
}

pub returns-in-Some-clause-adds : goal.returns-in-Some-clause-adds
returns-in-Some-clause-adds g c =
    subst (λ h. Adds g.E.Engine.told g.E.Engine.SHARED g.E.Engine.meaning g.E.Engine.db g.E.Engine.live g.E.Engine.faults c.args.engine.now c.poll.new.engine h (after g c) (λ added. (x : Stream) → at c.args.stream h.state.streams ≡ Some x → PollsStream g.E.Engine.SHARED h.state c.args.stream x added c.poll.result (after g c).state)) c.self.view_is
    (poll_adds g.E.Engine.told g.E.Engine.SHARED g.E.Engine.meaning g.E.Engine.db g.E.Engine.live g.E.Engine.faults c.args.engine.now c.poll.new.engine c.args.stream c.in-Some.slot.now c.poll.new.self.task c.poll.result (the_view c.self.inside) (after g c) (did g c)
    (c.streams_agree.ensures.turn _ _ _ _ _ (did g c).agrees.together) c.polls_lead_on.ensures)

pub returns-in-Some-clause-agrees : goal.returns-in-Some-clause-agrees
returns-in-Some-clause-agrees g c = poll_agrees g.E.Engine.told g.E.Engine.SHARED g.E.Engine.meaning g.E.Engine.db g.E.Engine.live g.E.Engine.faults c.args.engine.now c.poll.new.engine c.args.stream c.in-Some.slot.now c.poll.new.self.task c.poll.result (the_view c.self.inside) (after g c) (did g c) c.polls_keep_agreement.ensures

pub returns-in-None-clause-adds : goal.returns-in-None-clause-adds
returns-in-None-clause-adds g c =
    let old = the_view c.self.inside in
    let left : Seen = the_view (record { alloc = c.self.inside.alloc; token = c.self.inside.token; conns = c.self.inside.conns; streams = c.self.inside.streams; exchanges = c.self.inside.exchanges; issued = c.self.inside.issued; opened = c.self.inside.opened; events = c.self.inside.events; moment = c.self.inside.moment; stopped = c.self.inside.stopped; turns = c.self.inside.turns; store = c.self.inside.store; entries = c.self.inside.entries }) in
    subst (λ h. Adds g.E.Engine.told g.E.Engine.SHARED g.E.Engine.meaning g.E.Engine.db g.E.Engine.live g.E.Engine.faults c.args.engine.now c.args.engine.now h left (λ added. (x : Stream) → at c.args.stream h.state.streams ≡ Some x → PollsStream g.E.Engine.SHARED h.state c.args.stream x added (Ready Idle) left.state)) c.self.view_is
    (adds_none c.args.engine.now old left _ refl (alike old left refl refl refl) (λ x e. absurd (none_some (c.in-None.ensures.value ∙ e))))

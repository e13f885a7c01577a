use Rattle.std.proofs.Common.{◌≡◌, ◌∙◌, Some, None, refl, sym, ap}
use Rattle.hrana_hub.specs.Maps.{at}
use Rattle.hrana_hub.specs.State.{Seen}
use Rattle.hrana_hub.proofs.Adding.{alike, adds_none}
use Rattle.hrana_hub.proofs.ExchangePolling.{nobody_rests}
use Rattle.hrana_hub.proofs.Polling.{polls_unknown, polls_idle, polls_nobody}
use Rattle.hrana_hub.proofs.hub.Hub.poll.Goals as goal

pub returns-in_default-clause-adds : goal.returns-in_default-clause-adds
returns-in_default-clause-adds g c =
    let h = c.args.self.now in
    let none : at c.args.stream.0 h.state.streams ≡ None = ap (λ (s : Seen). at c.args.stream.0 s.state.streams) (sym c.self.view_is) ∙ sym c.in_default.ensures.value in
    adds_none _ h h _ refl (alike h h refl refl refl) (polls_unknown g.E.Engine.SHARED h.state c.args.stream.0 c.nothing.result c.nothing.ensures none)

pub returns-then-not-is_waiting-clause-adds : goal.returns-then-not-is_waiting-clause-adds
returns-then-not-is_waiting-clause-adds g c =
    let h = c.args.self.now in
    let known : at c.args.stream.0 h.state.streams ≡ Some c.in-Some.slot.now = ap (λ (s : Seen). at c.args.stream.0 s.state.streams) (sym c.self.view_is) ∙ sym c.in-Some.ensures.value in
    adds_none _ h h _ refl (alike h h refl refl refl)
    (polls_idle g.E.Engine.SHARED h.state c.args.stream.0 c.in-Some.slot.now c.nothing-then-not-is_waiting.result c.nothing-then-not-is_waiting.ensures known (sym c.if-not-is_waiting.ensures))

pub returns-in-Nobody-clause-adds : goal.returns-in-Nobody-clause-adds
returns-in-Nobody-clause-adds g c =
    let h = c.args.self.now in
    let x = c.in-Some.slot.now in
    let known : at c.args.stream.0 h.state.streams ≡ Some x = ap (λ (s : Seen). at c.args.stream.0 s.state.streams) (sym c.self.view_is) ∙ sym c.in-Some.ensures.value in
    let rests = nobody_rests x (sym c.asker.ensures ∙ c.in-Nobody.is) in
    adds_none _ h h _ refl (alike h h refl refl refl) (polls_nobody g.E.Engine.SHARED h.state c.args.stream.0 x rests.0 c.nothing-in-Nobody.result c.nothing-in-Nobody.ensures known (sym c.if-not-is_waiting.ensures) rests.1)

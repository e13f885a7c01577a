use Rattle.std.proofs.Common.{◌≡◌, ◌+◌, ◌∙◌, ℕ, None, refl, sym, ap}
use Rattle.txn_table.specs.Turns.{with_place}
use Rattle.stream_task.specs.Together.{numbered}
use Rattle.hrana_hub.specs.Maps.{Numbered, at, without}
use Rattle.hrana_hub.specs.State.{Stream, Seen}
use Rattle.hrana_hub.specs.contracts.hub.Hub.{the_view}
use Rattle.hrana_hub.proofs.ArrivalLemmas.{on_err_at}
use Rattle.hrana_hub.proofs.Entering.{only_turn}
use Rattle.hrana_hub.proofs.MapLemmas.{without_placed}
use Rattle.hrana_hub.proofs.hub.Hub.make_session.Goals as goal

pub returns-then-is_err-clause-err : goal.returns-then-is_err-clause-err
returns-then-is_err-clause-err c =
    let h = c.self.inside in
    let n = c.args.number in
    let next : n ≡ h.opened + 1 = c.requires.next ∙ sym (ap (λ (s : Seen). s.state.opened + 1) c.self.view_is) in
    let free : at n h.streams ≡ None = ap (λ (s : Seen). at n s.state.streams) c.self.view_is ∙ c.requires.fresh in
    let streams : c.remove-slot.new.self ≡ h.streams =
    c.remove-slot.ensures.entries ∙ (ap (λ (es : Numbered Stream). without n es) c.in_ok-add.ensures.ok ∙ without_placed n c.in_ok-slot.slot h.streams free) in
    let turns = c.in_ok-reserve_stream.ensures.ok ∙ ap (λ (k : ℕ). with_place h.turns (numbered k)) next in
    let store : c.reserve_stream-2.new.self ≡ h.store = on_err_at c.reserve_stream-2.result (sym c.if-is_err.ensures.value) c.reserve_stream-2.ensures.err in
    only_turn c.remove-slot.new.self c.reserve_stream.new.self c.reserve_stream-2.new.self (the_view h) c.args.self.now c.self.view_is refl streams turns store

use Rattle.std.proofs.Common.{◌≡◌, ◌+◌, ◌∙◌, refl, sym, ap}
use Rattle.hrana_hub.specs.Maps.{Numbered, at, without}
use Rattle.hrana_hub.specs.State.{Stream, Seen}
use Rattle.hrana_hub.specs.contracts.hub.Hub.{the_view}
use Rattle.hrana_hub.proofs.ArrivalLemmas.{only_place, on_err_at}
use Rattle.hrana_hub.proofs.MapLemmas.{without_placed}
use Rattle.hrana_hub.proofs.hub.Hub.join.Goals as goal

pub returns-then-is_err-clause-err : goal.returns-then-is_err-clause-err
returns-then-is_err-clause-err c =
    let h = c.self.inside in
    let n = h.opened + 1 in
    let conns : c.join.new.self ≡ h.conns = on_err_at c.join.result (sym c.if-is_err.ensures.value) c.join.ensures.err in
    let free = ap (λ (s : Seen). at (s.state.opened + 1) s.state.streams) c.self.view_is ∙ c.requires.fresh in
    let streams : c.remove-slot.new.self ≡ h.streams =
    c.remove-slot.ensures.entries ∙ (ap (λ (es : Numbered Stream). without n es) c.in_ok-add.ensures.ok ∙ without_placed n c.in_ok-slot.slot h.streams free) in
    only_place c.join.new.self c.remove-slot.new.self c.reserve_stream.new.self (the_view h) c.args.self.now c.self.view_is refl conns streams c.in_ok-reserve_stream.ensures.ok

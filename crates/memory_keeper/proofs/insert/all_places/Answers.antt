use Rattle.std.proofs.Common.{◌++◌, ◌∷◌, [], sym, ap, ◌∙◌, arith}
use Rattle.std.specs.List.{range_with_len}
use Rattle.memory_keeper.proofs.TableLemmas.{range_with_len_more}
use Rattle.memory_keeper.proofs.insert.all_places.Goals as goal

pub loop-place-preserved : goal.loop-place-preserved
loop-place-preserved c =
    rw c.in_ok-push.ensures.items
    (ap (λ l. l ++ c.loop-place.place ∷ []) c.loop-place.invariant ∙ ap (λ k. range_with_len 0 c.loop-place.place ++ k ∷ []) (omega arith) ∙ sym (range_with_len_more 0 c.loop-place.place))

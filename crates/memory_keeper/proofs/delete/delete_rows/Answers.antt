use Rattle.std.proofs.Common.{◌≡◌, Ok, sym, ap, ◌∙◌, arith}
use Rattle.keeper_rows.proofs.NarrowLemmas.{none_chosen}
use Rattle.memory_keeper.proofs.delete.delete_rows.Goals as goal

pub returns-else-count-gt0-clause-rows : goal.returns-else-count-gt0-clause-rows
returns-else-count-gt0-clause-rows c =
    let zero : c.in_ok-count.count ≡ 0 = omega arith in
    sym (none_chosen c.args.condition.now c.args.rows.now (sym c.candidates.ensures.count ∙ sym c.in_ok-count.ensures.count ∙ ap (λ n. Ok n) zero))

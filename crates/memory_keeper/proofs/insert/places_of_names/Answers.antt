use Rattle.std.proofs.Common.{ℕ, List, sym, ap, ◌∙◌, arith}
use Rattle.keeper_formulas.specs.Formulas.{known, place_of}
use Rattle.keeper_formulas.specs.Each.{each}
use Rattle.keeper_formulas.proofs.EachLemmas.{each_more, each_refused, err_refusal}
use Rattle.memory_keeper.proofs.insert.places_of_names.Goals as goal

pub returns-in_err-place-clause-err : goal.returns-in_err-place-clause-err
returns-in_err-place-clause-err c =
    let f = λ (name : List ℕ). known (place_of c.args.columns.now name) in
    err_refusal (each f c.args.names.now) _ _ c.from_residual.ensures.1
    (each_refused f c.args.names.now c.loop-name.name-index c.name-item.result _ _ c.loop-name.invariant (omega arith) c.name-item.is
    (ap f (sym c.as_str.ensures) ∙ sym c.in_err-place.ensures))

pub loop-name-preserved : goal.loop-name-preserved
loop-name-preserved c =
    let f = λ (name : List ℕ). known (place_of c.args.columns.now name) in
    rw c.in_ok-push.ensures.items
    (each_more f c.args.names.now c.loop-name.name-index c.name-item.result _ _ c.loop-name.invariant (omega arith) c.name-item.is
    (ap f (sym c.as_str.ensures) ∙ sym c.in_ok-place.ensures))

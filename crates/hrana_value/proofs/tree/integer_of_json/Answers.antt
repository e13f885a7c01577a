use Rattle.std.proofs.Common.{sym, ap, subst}
use Rattle.std.proofs.lemmas.Int.{to_z-of_z}
use Rattle.std.specs.Prelude.{Ok, Err, FitsSigned}
use Rattle.std.specs.Int.{w64}
use Rattle.hrana_value.specs.Declines.{Reads}
use Rattle.hrana_value.specs.Tree.{ValueTree, ValueStands}
use Rattle.serde_json.specs.View.{view}
use Rattle.hrana_value.specs.declared.value.Value.TheVariants.{Integer}
use Rattle.hrana_value.proofs.TreeLemmas.{value_read, integer_declined}
use Rattle.hrana_value.proofs.tree.integer_of_json.Goals as goal

pub returns-in-Ok : goal.returns-in-Ok
returns-in-Ok c =
    let spelled = c.in-Ok.ensures.ok in
    let fits : FitsSigned w64 c.in-Ok.number = subst (FitsSigned w64) (sym spelled.1) spelled.0.1 in
    subst (λ z. Reads (λ v. ValueTree v (view c.args.json.now)) (ValueStands (view c.args.json.now)) (Ok (Integer z))) (sym (to_z-of_z w64 c.in-Ok.number fits))
    (value_read (Integer c.in-Ok.number) (view c.args.json.now) (c.requires, (c.in-Some.digits.now, sym c.in-Some.ensures, spelled)))

pub returns-in-Err : goal.returns-in-Err
returns-in-Err c =
    integer_declined (view c.args.json.now) c.in-Some.digits.now c.in-Err.kind c.requires (sym c.in-Some.ensures) c.in-Err.ensures.kinds (λ e. c.in-Err.ensures.shape.0 (ap Err e))
    (λ e. c.in-Err.ensures.range.0 (ap Err e))

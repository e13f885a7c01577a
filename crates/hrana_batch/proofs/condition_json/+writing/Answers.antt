use Rattle.std.proofs.Common.{ℕ, List, ◌≡◌, ◌+◌, ◌∙◌, ap, sym, subst, take, codes, map}
use Rattle.serde_json.specs.Data.{Data, array, object, member}
use Rattle.serde_json.specs.View.{view, items_of}
use Rattle.serde_json.specs.declared.value.Value.TheVariants.{Array}
use Rattle.serde_json.proofs.Views.{view-Array}
use Rattle.hrana_batch.specs.Tree.{CondTree}
use Rattle.hrana_batch.specs.Written.{cond_data, type_member, step_cond, not_cond}
use Rattle.hrana_batch.proofs.WrittenItems.{ItemsWritten, ItemsWritten-more, IfOk-weaken}
use Rattle.hrana_batch.proofs.CondWritten.{ok_written, error_written, not_written, all_written, any_written, autocommit_written, ok_back, error_back, not_back, all_back, any_back, autocommit_back}
use Rattle.hrana_batch.proofs.condition_json.+writing.Goals as goal

pub cond_to_json-returns-in-StepOk : goal.cond_to_json-returns-in-StepOk
cond_to_json-returns-in-StepOk t c =
    let cond = c.args.cond.now in let n = c.in-StepOk.step in let made = c.step_to_json in
    record {
      written = IfOk-weaken made.result (λ json. view json ≡ step_cond (codes "ok") n) (λ json. view json ≡ cond_data cond) (λ json is. is ∙ ok_written cond n c.in-StepOk.is) made.ensures.written;
      reads_back = IfOk-weaken made.result (λ json. view json ≡ step_cond (codes "ok") n) (λ json. CondTree cond (view json)) (λ json is. ok_back cond n (view json) c.in-StepOk.is made.ensures.fits is) made.ensures.written;
    }

pub cond_to_json-returns-in-StepError : goal.cond_to_json-returns-in-StepError
cond_to_json-returns-in-StepError t c =
    let cond = c.args.cond.now in let n = c.in-StepError.step in let made = c.step_to_json-in-StepError in
    record {
      written = IfOk-weaken made.result (λ json. view json ≡ step_cond (codes "error") n) (λ json. view json ≡ cond_data cond) (λ json is. is ∙ error_written cond n c.in-StepError.is) made.ensures.written;
      reads_back = IfOk-weaken made.result (λ json. view json ≡ step_cond (codes "error") n) (λ json. CondTree cond (view json)) (λ json is. error_back cond n (view json) c.in-StepError.is made.ensures.fits is) made.ensures.written;
    }

pub cond_to_json-returns-in_ok-part-in-Not : goal.cond_to_json-returns-in_ok-part-in-Not
cond_to_json-returns-in_ok-part-in-Not t c =
    let cond = c.args.cond.now in let part = c.get.result.now in let given = c.in_ok-part-in-Not in let made = c.object_of_kind in
    record {
      written = IfOk-weaken made.result (λ json. view json ≡ not_cond (view given.part)) (λ json. view json ≡ cond_data cond)
          (λ json is. is ∙ ap not_cond given.ensures.written ∙ not_written cond c.in-Not.part part c.in-Not.is c.get.ensures) made.ensures;
      reads_back = IfOk-weaken made.result (λ json. view json ≡ not_cond (view given.part)) (λ json. CondTree cond (view json))
          (λ json is. not_back cond c.in-Not.part part (view given.part) (view json) c.in-Not.is c.get.ensures given.ensures.reads_back is) made.ensures;
    }

abbrev joined : List ℕ → Data → Data
joined kind parts = object (member (codes "conds") parts (type_member kind))

pub cond_to_json-returns-in_ok-parts-in-All : goal.cond_to_json-returns-in_ok-parts-in-All
cond_to_json-returns-in_ok-parts-in-All t c =
    let cond = c.args.cond.now in let parts = c.as_slice.result.now in let given = c.in_ok-parts-in-All in let made = c.object_of_kind-in-All in
    record {
      written = IfOk-weaken made.result (λ json. view json ≡ joined (codes "and") (view (Array given.parts))) (λ json. view json ≡ cond_data cond)
          (λ json is. is ∙ ap (joined (codes "and")) (view-Array given.parts ∙ ap (λ l. array (items_of l)) given.ensures.written) ∙ all_written cond c.in-All.parts parts c.in-All.is c.as_slice.ensures) made.ensures;
      reads_back = IfOk-weaken made.result (λ json. view json ≡ joined (codes "and") (view (Array given.parts))) (λ json. CondTree cond (view json))
          (λ json is. all_back cond c.in-All.parts parts (map view given.parts.items) (view json) c.in-All.is c.as_slice.ensures given.ensures.reads_back (is ∙ ap (joined (codes "and")) (view-Array given.parts))) made.ensures;
    }

pub cond_to_json-returns-in_ok-parts-in-Any : goal.cond_to_json-returns-in_ok-parts-in-Any
cond_to_json-returns-in_ok-parts-in-Any t c =
    let cond = c.args.cond.now in let parts = c.as_slice-in-Any.result.now in let given = c.in_ok-parts-in-Any in let made = c.object_of_kind-in-Any in
    record {
      written = IfOk-weaken made.result (λ json. view json ≡ joined (codes "or") (view (Array given.parts))) (λ json. view json ≡ cond_data cond)
          (λ json is. is ∙ ap (joined (codes "or")) (view-Array given.parts ∙ ap (λ l. array (items_of l)) given.ensures.written) ∙ any_written cond c.in-Any.parts parts c.in-Any.is c.as_slice-in-Any.ensures) made.ensures;
      reads_back = IfOk-weaken made.result (λ json. view json ≡ joined (codes "or") (view (Array given.parts))) (λ json. CondTree cond (view json))
          (λ json is. any_back cond c.in-Any.parts parts (map view given.parts.items) (view json) c.in-Any.is c.as_slice-in-Any.ensures given.ensures.reads_back (is ∙ ap (joined (codes "or")) (view-Array given.parts))) made.ensures;
    }

pub cond_to_json-returns-in-Autocommit : goal.cond_to_json-returns-in-Autocommit
cond_to_json-returns-in-Autocommit t c =
    let cond = c.args.cond.now in let made = c.kind_to_json in
    record {
      written = IfOk-weaken made.result (λ json. view json ≡ object (type_member (codes "is_autocommit"))) (λ json. view json ≡ cond_data cond) (λ json is. is ∙ autocommit_written cond c.in-Autocommit.is) made.ensures;
      reads_back = IfOk-weaken made.result (λ json. view json ≡ object (type_member (codes "is_autocommit"))) (λ json. CondTree cond (view json)) (λ json is. autocommit_back cond (view json) c.in-Autocommit.is is) made.ensures;
    }

pub conds_to_json-loop-cond-preserved : goal.conds_to_json-loop-cond-preserved
conds_to_json-loop-cond-preserved t c =
    subst (ItemsWritten CondTree cond_data (take (c.loop-cond.cond-index + 1) c.args.conds.now)) (sym c.in_ok-push.ensures.items)
    (ItemsWritten-more CondTree cond_data c.args.conds.now c.loop-cond.cond-index c.cond-item.result c.loop-cond.items.items c.in_ok-cond_to_json.field-0 c.loop-cond-test.true c.cond-item.is
    c.loop-cond.invariant c.in_ok-cond_to_json.ensures.written c.in_ok-cond_to_json.ensures.reads_back)

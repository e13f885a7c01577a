use Rattle.std.proofs.Common.{sym, arith, codes, subst, take, ◌+◌, ◌≡◌, ◌≤◌, ◌<◌, suc}
use Rattle.serde_json.specs.Data.{depth, items_depth}
use Rattle.serde_json.specs.View.{view, items_view}
use Rattle.hrana_value.specs.Declines.{items_of_reading}
use Rattle.hrana_value.specs.Trees.{ItemsTree, ItemsStand}
use Rattle.hrana_value.proofs.DeclineLemmas.{Reads-with_item}
use Rattle.hrana_value.proofs.ItemsLemmas.{ItemsReads-more}
use Rattle.hrana_batch.specs.Tree.{CondTree, StandsWithin}
use Rattle.hrana_batch.proofs.CondReadings.{CondReads, ListReads, has_kind, autocommit_read, kind_unknown, kind_missing}
use Rattle.hrana_batch.proofs.WithinLemmas.{row_of_six, none_matched}
use Rattle.hrana_batch.proofs.DepthLemmas.{member_depth, item_depth, array_depth}
use Rattle.hrana_batch.proofs.condition_json.+conditions.Goals as goal
use Rattle.hrana_batch.proofs.condition_json.+conditions.Goals.{cond_of_tree-in_default-index_of-via-in-Some+in_default, cond_of_tree-in_default-index_of-via-in_default}

pub cond_of_tree-returns-in_default : goal.cond_of_tree-returns-in_default
cond_of_tree-returns-in_default t c = kind_missing c.args.step (view c.args.json.now) (sym c.in_default.ensures)

pub cond_of_tree-cond_of_tree-part-requires : goal.cond_of_tree-cond_of_tree-part-requires
cond_of_tree-cond_of_tree-part-requires t c =
    let less : depth (view c.member_or_null.result.now) < depth (view c.args.json.now) = member_depth (view c.args.json.now) (view c.member_or_null.result.now) c.in-Some.kind.now (codes "cond") (sym c.in-Some.ensures) c.member_or_null.ensures in (omega arith, tt)

pub cond_of_tree-conds_of_tree-parts-requires : goal.cond_of_tree-conds_of_tree-parts-requires
cond_of_tree-conds_of_tree-parts-requires t c =
    let less : depth (view c.member_or_null-in-Some-eq3.result.now) < depth (view c.args.json.now) = member_depth (view c.args.json.now) (view c.member_or_null-in-Some-eq3.result.now) c.in-Some.kind.now (codes "conds") (sym c.in-Some.ensures) c.member_or_null-in-Some-eq3.ensures in (omega arith, tt)

pub cond_of_tree-conds_of_tree-parts-requires-in-Some-eq4 : goal.cond_of_tree-conds_of_tree-parts-requires-in-Some-eq4
cond_of_tree-conds_of_tree-parts-requires-in-Some-eq4 t c =
    let less : depth (view c.member_or_null-in-Some-eq4.result.now) < depth (view c.args.json.now) = member_depth (view c.args.json.now) (view c.member_or_null-in-Some-eq4.result.now) c.in-Some.kind.now (codes "conds") (sym c.in-Some.ensures) c.member_or_null-in-Some-eq4.ensures in (omega arith, tt)

pub cond_of_tree-returns-in-Some-eq5 : goal.cond_of_tree-returns-in-Some-eq5
cond_of_tree-returns-in-Some-eq5 t c = autocommit_read c.args.step (view c.args.json.now) (has_kind (view c.args.json.now) c.in-Some.kind.now c.in-Some-eq5.field-0 5 c.in-Some.ensures c.in-Some-eq5.field-0-test c.in-Some-eq5.ensures.1)

pub cond_of_tree-returns-in_default-index_of : goal.cond_of_tree-returns-in_default-index_of
cond_of_tree-returns-in_default-index_of t c = elim c.in_default-index_of.branch [
  | cond_of_tree-in_default-index_of-via-in-Some+in_default w ↦
      let others = w.in_default-index_of.field-0-test in
      absurd (row_of_six _ w.in_default-index_of.ensures.0 others.0.0.0.0.0.1 others.0.0.0.0.1 others.0.0.0.1 others.0.0.1 others.0.1 others.1)
  | cond_of_tree-in_default-index_of-via-in_default w ↦
      kind_unknown c.args.step (view c.args.json.now) c.in-Some.kind.now (sym c.in-Some.ensures) (none_matched _ _ _ w.in_default-index_of.is c.index_of.ensures)
]

pub conds_of_items-cond_of_tree-requires : goal.conds_of_items-cond_of_tree-requires
conds_of_items-cond_of_tree-requires t c =
    let less : depth (view c.item-item.result) ≤ items_depth (items_view c.args.items.now) = item_depth c.args.items.now c.loop-item.item-index c.item-item.result c.loop-item-test.true c.item-item.is in (omega arith, tt)

pub conds_of_items-loop-item-preserved : goal.conds_of_items-loop-item-preserved
conds_of_items-loop-item-preserved t c =
    let js = c.args.items.now in let i = c.loop-item.item-index in
    Reads-with_item (λ cs. ItemsTree CondTree cs (items_view (take (i + 1) js))) (ItemsStand (StandsWithin c.args.step) (items_view (take (i + 1) js))) (items_of_reading c.loop-item.conds) c.cond_of_tree.result c.with_item-conds.result
    c.with_item-conds.ensures.ok c.with_item-conds.ensures.declined
    (ItemsReads-more CondTree (StandsWithin c.args.step) js i c.item-item.result (items_of_reading c.loop-item.conds) c.cond_of_tree.result c.loop-item-test.true c.item-item.is c.loop-item.invariant c.cond_of_tree.ensures)

pub conds_of_tree-conds_of_items-requires : goal.conds_of_tree-conds_of_items-requires
conds_of_tree-conds_of_items-requires t c =
    let same : depth (view c.args.json.now) ≡ suc (items_depth (items_view c.as_slice.result.now)) = array_depth c.args.json.now c.in-Array.items c.as_slice.result.now c.in-Array.is c.as_slice.ensures.value in (omega arith, tt)

pub cond_of_tree-step_ok_of_json-requires : goal.cond_of_tree-step_ok_of_json-requires
cond_of_tree-step_ok_of_json-requires t c = has_kind (view c.args.json.now) c.in-Some.kind.now c.in-Some-eq0.field-0 0 c.in-Some.ensures c.in-Some-eq0.field-0-test c.in-Some-eq0.ensures.1

pub cond_of_tree-step_error_of_json-requires : goal.cond_of_tree-step_error_of_json-requires
cond_of_tree-step_error_of_json-requires t c = has_kind (view c.args.json.now) c.in-Some.kind.now c.in-Some-eq1.field-0 1 c.in-Some.ensures c.in-Some-eq1.field-0-test c.in-Some-eq1.ensures.1

pub cond_of_tree-negated-requires : goal.cond_of_tree-negated-requires
cond_of_tree-negated-requires t c = record {
  kind = has_kind (view c.args.json.now) c.in-Some.kind.now c.in-Some-eq2.field-0 2 c.in-Some.ensures c.in-Some-eq2.field-0-test c.in-Some-eq2.ensures.1;
  part = subst (λ d. CondReads c.args.step d c.cond_of_tree-part.result) c.member_or_null.ensures c.cond_of_tree-part.ensures;
}

pub cond_of_tree-all_of-requires : goal.cond_of_tree-all_of-requires
cond_of_tree-all_of-requires t c = record {
  kind = has_kind (view c.args.json.now) c.in-Some.kind.now c.in-Some-eq3.field-0 3 c.in-Some.ensures c.in-Some-eq3.field-0-test c.in-Some-eq3.ensures.1;
  parts = subst (λ d. ListReads c.args.step d c.conds_of_tree-parts.result) c.member_or_null-in-Some-eq3.ensures c.conds_of_tree-parts.ensures;
}

pub cond_of_tree-any_of-requires : goal.cond_of_tree-any_of-requires
cond_of_tree-any_of-requires t c = record {
  kind = has_kind (view c.args.json.now) c.in-Some.kind.now c.in-Some-eq4.field-0 4 c.in-Some.ensures c.in-Some-eq4.field-0-test c.in-Some-eq4.ensures.1;
  parts = subst (λ d. ListReads c.args.step d c.conds_of_tree-parts-in-Some-eq4.result) c.member_or_null-in-Some-eq4.ensures c.conds_of_tree-parts-in-Some-eq4.ensures;
}

-- How deep what is written nests.
use Rattle.std.proofs.Common.{◌≡◌, ℕ, suc, ◌+◌, ◌≤◌, List, [], ◌∷◌, map, Option, None, Some, codes, subst, ap, arith, slice_get}
use Rattle.std.specs.Prelude.{IfSome}
use Rattle.serde_json.specs.Data.{Data, array, Items, no_items, item, depth, items_depth}
use Rattle.serde_json.specs.View.{items_of}
use Rattle.hrana_value.specs.Members.{part_at}
use Rattle.hrana_value.specs.Trees.{ItemsTree, ArrayTree, OptionalTree}
use Rattle.hrana_value.proofs.Depths.{items_depth-map}
use Rattle.hrana_stmt.specs.Written.{stmt_data}
use Rattle.hrana_stmt.proofs.Depths.{depth-stmt_data, depth-result_data, depth-error_data}
use Rattle.hrana_batch.specs.declared.conditions.Cond.{Cond}
use Rattle.hrana_batch.specs.declared.batches.Step.{Step}
use Rattle.hrana_batch.specs.declared.batches.Batch.{Batch}
use Rattle.hrana_batch.specs.declared.outcomes.Outcome.{Outcome}
use Rattle.hrana_batch.specs.declared.outcomes.Outcome.TheVariants.{Skipped, Done, Failed}
use Rattle.hrana_batch.specs.declared.outcomes.BatchResult.{BatchResult}
use Rattle.hrana_batch.specs.Conditions.{depth_of, greatest}
use Rattle.hrana_batch.specs.Tree.{CondTree, CondsTree, step_ok, step_error, negation, conjunction, disjunction, autocommit, no_conds, more_conds, CondFits, StepTree, StepFits, BatchTree, BatchFits}
use Rattle.hrana_batch.specs.Written.{cond_data, optional_cond, step_object, step_data, batch_data, result_entry, error_entry, batch_result_data}
use Rattle.hrana_batch.proofs.CondWritten.{written-StepOk, written-StepError, written-Not, written-All, written-Any, written-Autocommit}
use Rattle.hrana_batch.proofs.CondLemmas.{depth-StepOk, depth-StepError, depth-Not, depth-All, depth-Any, depth-Autocommit}

-- what is written for a condition is at most twice as deep
mutual
  cond_depth : (c : Cond) (t : Data) → CondTree c t → depth (cond_data c) ≤ depth_of c + depth_of c
  cond_depth _ _ (step_ok n t kind u) = let written = ap depth (written-StepOk n) in let deep = depth-StepOk n in omega (arith, written, deep)
  cond_depth _ _ (step_error n t kind u) = let written = ap depth (written-StepError n) in let deep = depth-StepError n in omega (arith, written, deep)
  cond_depth _ _ (negation c t kind u) =
      let written = ap depth (written-Not c) in let deep = depth-Not c in let part = cond_depth c (part_at (codes "cond") t) u in omega (arith, written, deep, part)
  cond_depth _ _ (conjunction cs t ds kind e u) = let written = ap depth (written-All cs) in let deep = depth-All cs in let parts = conds_depth cs ds u in omega (arith, written, deep, parts)
  cond_depth _ _ (disjunction cs t ds kind e u) = let written = ap depth (written-Any cs) in let deep = depth-Any cs in let parts = conds_depth cs ds u in omega (arith, written, deep, parts)
  cond_depth _ _ (autocommit t kind) = let written = ap depth written-Autocommit in let deep = depth-Autocommit in omega (arith, written, deep)

  conds_depth : (cs : List Cond) (ds : Items) → CondsTree cs ds → items_depth (items_of (map cond_data cs)) ≤ greatest (map depth_of cs) + greatest (map depth_of cs)
  conds_depth _ _ no_conds = omega arith
  conds_depth _ _ (more_conds c cs d ds p q) = let first = cond_depth c d p in let rest = conds_depth cs ds q in omega (arith, first, rest)

-- ---- batches

next_place : (n i : ℕ) → n + suc i ≡ suc n + i
next_place n i = omega arith

first_place : (i : ℕ) → i ≡ 0 + i
first_place i = omega arith

condition_depth : (i : ℕ) (o : Option Cond) (d stmt : Data) → OptionalTree CondTree o d → IfSome o (CondFits i) → depth stmt ≤ 4 → depth (step_object (optional_cond o) stmt) ≤ 65
condition_depth i None d stmt q fits h = omega (arith, h)
condition_depth i (Some c) d stmt q fits h = let deep = cond_depth c d q.1 in let within = fits.depth in omega (arith, h, deep, within)

steps_depth : (n : ℕ) (ss : List Step) (ds : Items) → ItemsTree StepTree ss ds → ((i : ℕ) → IfSome (slice_get ss i) (StepFits (n + i))) → items_depth (items_of (map step_data ss)) ≤ 65
steps_depth n [] no_items p fits = omega arith
steps_depth n [] (item d ds) p fits = absurd p
steps_depth n (s ∷ ss) no_items p fits = absurd p
steps_depth n (s ∷ ss) (item d ds) p fits =
    let first = condition_depth (n + 0) s.condition (part_at (codes "condition") d) (stmt_data s.stmt) p.0.condition (fits 0).condition (depth-stmt_data s.stmt) in
    let rest = steps_depth (suc n) ss ds p.1 (λ i. subst (λ k. IfSome (slice_get ss i) (StepFits k)) (next_place n i) (fits (suc i))) in
    omega (arith, first, rest)

array_depth : (ss : List Step) (d : Data) → ArrayTree StepTree ss d → ((i : ℕ) → IfSome (slice_get ss i) (StepFits i)) → items_depth (items_of (map step_data ss)) ≤ 65
array_depth ss (array ds) p fits = steps_depth 0 ss ds p (λ i. subst (λ k. IfSome (slice_get ss i) (StepFits k)) (first_place i) (fits i))
array_depth ss d p fits = absurd p

pub depth-batch_data : (b : Batch) (t : Data) → BatchTree b t → BatchFits b → depth (batch_data b) ≤ 70
depth-batch_data b t p fits = omega (arith, array_depth b.steps (part_at (codes "steps") t) p fits.each)

-- ---- results of batches

depth_result : (o : Outcome) → depth (result_entry o) ≤ 4
depth_result Skipped = omega arith
depth_result (Done r) = depth-result_data r
depth_result (Failed e) = omega arith

depth_error : (o : Outcome) → depth (error_entry o) ≤ 4
depth_error Skipped = omega arith
depth_error (Done r) = omega arith
depth_error (Failed e) = omega (arith, depth-error_data e)

pub depth-batch_result_data : (r : BatchResult) → depth (batch_result_data r) ≤ 6
depth-batch_result_data r = omega (arith, items_depth-map error_entry 4 depth_error r.outcomes, items_depth-map result_entry 4 depth_result r.outcomes)

-- What is written for a batch is a form of it.
use Rattle.std.proofs.Common.{◌≡◌, ℕ, List, codes, Option, None, Some, refl, subst, sym, ◌∙◌, ap}
use Rattle.serde_json.specs.Data.{Data, null}
use Rattle.serde_json.specs.Find.{as_str}
use Rattle.hrana_value.specs.Members.{part_at}
use Rattle.hrana_value.specs.Trees.{ArrayTree, OptionalTree}
use Rattle.hrana_stmt.specs.Tree.{StmtTree}
use Rattle.hrana_stmt.specs.Written.{stmt_data}
use Rattle.hrana_batch.specs.declared.conditions.Cond.{Cond}
use Rattle.hrana_batch.specs.declared.batches.Step.{Step}
use Rattle.hrana_batch.specs.declared.batches.Batch.{Batch}
use Rattle.hrana_batch.specs.Parts.{CondReadsBack}
use Rattle.hrana_batch.specs.Tree.{HasKind, CondTree, step_ok, step_error, negation, conjunction, disjunction, autocommit, StepTree, BatchTree}
use Rattle.hrana_batch.specs.Written.{step_object, optional_cond, step_data, batch_object}

no_kind_in_null : (kind : List ℕ) (d : Data) → HasKind d kind → d ≡ null → ⊥
no_kind_in_null kind d h e = let none : as_str (part_at (codes "type") null) ≡ Some kind = subst (λ x. HasKind x kind) e h in cc none

no_cond_is_null : (c : Cond) (d : Data) → CondTree c d → d ≡ null → ⊥
no_cond_is_null _ _ (step_ok n t kind u) e = no_kind_in_null _ t kind e
no_cond_is_null _ _ (step_error n t kind u) e = no_kind_in_null _ t kind e
no_cond_is_null _ _ (negation c t kind u) e = no_kind_in_null _ t kind e
no_cond_is_null _ _ (conjunction cs t ds kind e' u) e = no_kind_in_null _ t kind e
no_cond_is_null _ _ (disjunction cs t ds kind e' u) e = no_kind_in_null _ t kind e
no_cond_is_null _ _ (autocommit t kind) e = no_kind_in_null _ t kind e

pub step_written : (s : Step) (d : Data) (condition : Option Data) (stmt : Data) → d ≡ step_object condition stmt → condition ≡ optional_cond s.condition → stmt ≡ stmt_data s.stmt → d ≡ step_data s
step_written s d condition stmt is p q = is ∙ ap (λ c. step_object c stmt) p ∙ ap (step_object (optional_cond s.condition)) q

object_back : (s : Step) (condition : Option Cond) (part : Option Data) (stmt : Data) → s.condition ≡ condition → CondReadsBack condition part → StmtTree s.stmt stmt → StepTree s (step_object part stmt)
object_back s None None stmt e p q = record { condition = subst (λ c. OptionalTree CondTree c null) (sym e) refl; stmt = q }
object_back s None (Some d) stmt e p q = absurd p
object_back s (Some c) None stmt e p q = absurd p
object_back s (Some c) (Some d) stmt e p q = record { condition = subst (λ o. OptionalTree CondTree o d) (sym e) (no_cond_is_null c d p, p); stmt = q }

pub step_back : (s : Step) (d : Data) (part : Option Data) (stmt : Data) → d ≡ step_object part stmt → CondReadsBack s.condition part → StmtTree s.stmt stmt → StepTree s d
step_back s d part stmt is p q = subst (StepTree s) (sym is) (object_back s s.condition part stmt refl p q)

pub batch_back : (b : Batch) (d steps : Data) → d ≡ batch_object steps → ArrayTree StepTree b.steps steps → BatchTree b d
batch_back b d steps is tree = subst (BatchTree b) (sym is) tree

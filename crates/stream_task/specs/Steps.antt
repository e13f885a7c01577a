-- The steps of a batch or a sequence, and how far they have come.
use Rattle.std.specs.Prelude.{◌≡◌, Bool, true, false, not, List, [], ◌∷◌, ◌++◌, drop, length, Option, Some, None, if◌then◌else◌}
use Rattle.hrana_stmt.specs.declared.statements.Stmt.{Stmt}
use Rattle.hrana_batch.specs.Conditions.{holds_on}
use Rattle.hrana_batch.specs.Progress.{Progress}
use Rattle.hrana_batch.specs.declared.conditions.Cond.{Cond}
use Rattle.hrana_batch.specs.declared.batches.Step.{Step}
use Rattle.hrana_batch.specs.declared.outcomes.Outcome.{Outcome}
use Rattle.hrana_batch.specs.declared.outcomes.Outcome.TheVariants.{Skipped}
use Rattle.hrana_batch.specs.declared.running.Next.{Next}
use Rattle.hrana_batch.specs.declared.running.Next.TheVariants as next

-- the steps that are left, and the outcomes of those before them
pub record Steps : Type 0 where
  pub left : List Step
  pub done : List Outcome

-- the same of a run of a batch
abbrev pub steps_in : Progress → Steps
steps_in p = record { left = drop (length p.outcomes) p.batch.steps; done = p.outcomes }

abbrev pub later_steps : List Step → List Step
later_steps [] = []
later_steps (x ∷ xs) = xs

-- the statement of the first step
abbrev pub first_of : List Step → Option Stmt
first_of [] = None
first_of (x ∷ xs) = Some x.stmt

-- the first of the steps that are left has this outcome
abbrev pub noted : Steps → Outcome → Steps
noted r o = record { left = later_steps r.left; done = r.done ++ o ∷ [] }

-- a step is skipped exactly where it has a condition that is false on the outcomes before it
abbrev pub is_skipped : Option Cond → List Outcome → Bool → Bool
is_skipped None done auto = false
is_skipped (Some c) done auto = not (holds_on done auto c)

-- the first steps whose condition is false are skipped
abbrev pub pass_over : Bool → List Step → List Outcome → Steps
pass_over auto [] done = record { left = []; done = done }
pass_over auto (x ∷ xs) done = if is_skipped x.condition done auto then pass_over auto xs (done ++ Skipped ∷ []) else record { left = x ∷ xs; done = done }

abbrev pub passed : Bool → Steps → Steps
passed auto r = pass_over auto r.left r.done

-- what is next: the statement of the first step that is left, which isn't skipped, or to skip it, or nothing more
abbrev pub NextIn : Bool → List Step → List Outcome → Next → Type 0
NextIn auto [] done n = n ≡ next.Finished
NextIn auto (x ∷ xs) done (next.Run stmt) = (is_skipped x.condition done auto ≡ false) × (stmt.now ≡ x.stmt)
NextIn auto (x ∷ xs) done next.Skip = is_skipped x.condition done auto ≡ true
NextIn auto (x ∷ xs) done next.Finished = ⊥

-- the first step that is left, if there is one, isn't skipped
abbrev pub StartsAt : Bool → List Step → List Outcome → Type 0
StartsAt auto [] done = Unit {0}
StartsAt auto (x ∷ xs) done = is_skipped x.condition done auto ≡ false

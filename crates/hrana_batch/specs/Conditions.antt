-- When a condition holds, which steps it names, and how deep it is.
use Rattle.std.specs.Prelude.{ℕ, suc, ◌≤◌, Bool, true, false, not, List, [], ◌∷◌, map, Option, Some, slice_get, nat_lt, max, IsTrue}
use Rattle.std.specs.List.{list_all, list_any}
use Rattle.hrana_batch.specs.declared.conditions.Cond.{Cond, fold-Cond}
use Rattle.hrana_batch.specs.declared.conditions.Cond.TheOpen.{Cond-F}
use Rattle.hrana_batch.specs.declared.limits.TheConstants.{MAX_CONDITION_DEPTH}
use Rattle.hrana_batch.specs.declared.outcomes.Outcome.{Outcome}
use Rattle.hrana_batch.specs.declared.outcomes.Outcome.TheVariants.{Done, Failed}

-- ---- when it holds

-- the step was done; one that was skipped wasn't
abbrev pub is_done : Option Outcome → Bool
is_done (Some (Done r)) = true
is_done o = false

-- the step failed; one that was skipped didn't
abbrev pub is_failed : Option Outcome → Bool
is_failed (Some (Failed e)) = true
is_failed o = false

-- one level, with each part already judged
abbrev pub holds_step : List Outcome → Bool → Cond-F Bool → Bool
holds_step outcomes auto (Cond-F.StepOk step) = is_done (slice_get outcomes step)
holds_step outcomes auto (Cond-F.StepError step) = is_failed (slice_get outcomes step)
holds_step outcomes auto (Cond-F.Not part) = not part
holds_step outcomes auto (Cond-F.All parts) = list_all (λ b. b) parts
holds_step outcomes auto (Cond-F.Any parts) = list_any (λ b. b) parts
holds_step outcomes auto Cond-F.Autocommit = auto

-- whether the condition holds after these outcomes, in a session that is or isn't in autocommit
abbrev pub holds_on : List Outcome → Bool → Cond → Bool
holds_on outcomes auto = fold-Cond Bool (holds_step outcomes auto)

-- ---- the steps that it names

abbrev pub names_step : ℕ → Cond-F Bool → Bool
names_step n (Cond-F.StepOk step) = nat_lt step n
names_step n (Cond-F.StepError step) = nat_lt step n
names_step n (Cond-F.Not part) = part
names_step n (Cond-F.All parts) = list_all (λ b. b) parts
names_step n (Cond-F.Any parts) = list_all (λ b. b) parts
names_step n Cond-F.Autocommit = true

abbrev pub names_below : ℕ → Cond → Bool
names_below n = fold-Cond Bool (names_step n)

-- each step that the condition names is below n
abbrev pub NamesBelow : ℕ → Cond → Type 0
NamesBelow n c = IsTrue (names_below n c)

abbrev pub AllNameBelow : ℕ → List Cond → Type 0
AllNameBelow n cs = IsTrue (list_all (λ b. b) (map (names_below n) cs))

-- ---- its depth

abbrev pub greatest : List ℕ → ℕ
greatest [] = 0
greatest (n ∷ ns) = max n (greatest ns)

abbrev pub depth_step : Cond-F ℕ → ℕ
depth_step (Cond-F.StepOk step) = 1
depth_step (Cond-F.StepError step) = 1
depth_step (Cond-F.Not part) = suc part
depth_step (Cond-F.All parts) = suc (greatest parts)
depth_step (Cond-F.Any parts) = suc (greatest parts)
depth_step Cond-F.Autocommit = 1

-- one more than the deepest part, and 1 where there is none
abbrev pub depth_of : Cond → ℕ
depth_of = fold-Cond ℕ depth_step

abbrev pub IsWithinDepth : Cond → Type 0
IsWithinDepth c = depth_of c ≤ MAX_CONDITION_DEPTH

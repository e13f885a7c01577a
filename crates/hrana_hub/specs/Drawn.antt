-- What a call of the hub draws from the tokens.
use Rattle.std.specs.Prelude.{◌≡◌, ◌≤◌, ◌+◌, ◌^◌, ℕ, List, [], ◌∷◌, ◌++◌, length, Option, Some}
use Rattle.engine_core.specs.Causes.{RoseBy}
use Rattle.engine_core.specs.Draws.{Draw, words, failed}

-- 1 for a draw that failed
abbrev pub failure_of : Draw → ℕ
failure_of (words given) = 0
failure_of failed = 1

abbrev pub failures : List Draw → ℕ
failures [] = 0
failures (draw ∷ draws) = failure_of draw + failures draws

-- These were drawn, and told where those before were: tokens may stop telling after 2 ^ 63 draws. The tokens' count rose at least
-- as often as a draw failed. P holds of them.
pub record DrawsFrom {T : Type 0} (drawn : T → Option (List Draw)) (faults : T → ℕ) (tokens tokens' : T) (P : List Draw → Type 0) : Type 0 where
  pub draws : List Draw
  pub told : (before : List Draw) → drawn tokens ≡ Some before → length before + length draws ≤ 2 ^ 63 → drawn tokens' ≡ Some (before ++ draws)
  pub cause : RoseBy (failures draws) (faults tokens) (faults tokens')
  pub holds : P draws

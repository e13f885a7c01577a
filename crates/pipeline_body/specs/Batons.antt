-- Batons in answers.
use Rattle.std.specs.Prelude.{◌≤◌, ◌≢◌, ℕ, List, codes}

-- what stands in an answer until its baton is known
abbrev pub blank : List ℕ
blank = codes "AAAAAAAAAAAAAAAAAAAAAAAAAAAAAAAA"

-- a character of ASCII that JSON writes as it stands: no control character, neither `"` nor `\`
abbrev pub IsPlain : ℕ → Type 0
IsPlain byte = (32 ≤ byte) × (byte ≤ 126) × (byte ≢ 34) × (byte ≢ 92)

-- Stored texts: how many there may be, and what is left of them.
use Rattle.std.specs.Prelude.{◌+◌, ℕ, ℤ, Bool, true, false, not, ◌||◌, nat_lt, nat_le, List, [], ◌∷◌, Option, None, Some, length, filter}
use Rattle.std.specs.Ordering.{int_eq}
use Rattle.hrana_stmt.specs.declared.codes.Code.{Code}
use Rattle.hrana_stmt.specs.declared.codes.Code.TheVariants as code
use Rattle.stream_task.specs.Checks.{stored_text}
use Rattle.stream_task.specs.declared.limits.TheConstants.{MAX_STORED_TEXTS, MAX_STORED_BYTES}
use Rattle.stream_task.specs.declared.texts.StoredText.{StoredText}

-- how many bytes they have together
abbrev pub stored_bytes : List StoredText → ℕ
stored_bytes [] = 0
stored_bytes (text ∷ texts) = length text.sql + stored_bytes texts

-- one more would be too many, or pass the limit of their bytes
abbrev pub is_full : List StoredText → List ℕ → Bool
is_full texts sql = nat_le MAX_STORED_TEXTS (length texts) || nat_lt MAX_STORED_BYTES (stored_bytes texts + length sql)

abbrev pub without_text : ℤ → List StoredText → List StoredText
without_text id texts = filter (λ text. not (int_eq text.id id)) texts

-- by whether a text of its number is there, and whether there is no room
abbrev pub refusal_of : Option (List ℕ) → Bool → Option Code
refusal_of (Some sql) full = Some code.SqlIdInUse
refusal_of None true = Some code.TooManyTexts
refusal_of None false = None

-- why a text isn't stored
abbrev pub store_refusal : List StoredText → StoredText → Option Code
store_refusal texts text = refusal_of (stored_text text.id texts) (is_full texts text.sql)

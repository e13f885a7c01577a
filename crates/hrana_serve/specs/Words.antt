-- The words of a run.
use Rattle.std.specs.Prelude.{◌≡◌, ◌<◌, ◌≤◌, ℕ, List, [], ◌∷◌, Option, None, Some, codes, length, map}
use Rattle.std.specs.Borrow.{Bor}
use Rattle.hrana_serve.specs.declared.words.TheConstants.{MAX_TOKEN_BYTES}

-- the words as texts
abbrev pub texts_of : List (Bor (List ℕ)) → List (List ℕ)
texts_of words = map (λ word. word.now) words

-- a token has a byte, and no more than so many
abbrev pub IsToken : List ℕ → Type 0
IsToken word = (0 < length word) × (length word ≤ MAX_TOKEN_BYTES)

-- the words are those of a replay that requires this token, or none
abbrev pub IsReplay : List (List ℕ) → Option (List ℕ) → Type 0
IsReplay words None = words ≡ codes "replay" ∷ []
IsReplay words (Some token) = (words ≡ codes "replay" ∷ token ∷ []) × IsToken token

-- the token that the words of a replay require
abbrev pub token_in : List (List ℕ) → Option (List ℕ)
token_in [] = None
token_in (command ∷ []) = None
token_in (command ∷ token ∷ words) = Some token

-- the words are those of a replay
abbrev pub AsksReplay : List (List ℕ) → Type 0
AsksReplay words = IsReplay words (token_in words)

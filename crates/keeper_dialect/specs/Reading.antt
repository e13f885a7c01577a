-- Readings: what the front of some tokens is, and what follows it, or where the token starts that can't follow.
use Rattle.std.specs.Prelude.{◌==◌, ◌≡◌, ◌≤◌, ℕ, zero, suc, Bool, false, List, [], ◌∷◌, ◌++◌, drop, length, Option, Some, None, Result, Ok, Err, if◌then◌else◌}
use Rattle.keeper_dialect.specs.declared.tokens.Keyword.{Keyword}
use Rattle.keeper_dialect.specs.declared.tokens.Keyword.TheVariants as keyword
use Rattle.keeper_dialect.specs.declared.tokens.Symbol.{Symbol}
use Rattle.keeper_dialect.specs.declared.tokens.Symbol.TheVariants as symbol
use Rattle.keeper_dialect.specs.declared.query.DialectFail.{DialectFail}
use Rattle.keeper_dialect.specs.declared.query.DialectFail.TheVariants as fail
use Rattle.keeper_dialect.specs.Tokens.{Token}

abbrev pub Reading : Type 0 → Type 0
Reading A = Result (A × List Token) ℕ

-- what is read after something else
unfoldable pub and_then : {A B : Type 0} → Reading A → (A → List Token → Reading B) → Reading B
and_then (Ok read) next = next read.0 read.1
and_then (Err at) next = Err at

abbrev pub symbol_at : List Token → Symbol
symbol_at [] = symbol.End
symbol_at (t ∷ ts) = t.symbol

abbrev pub text_at : List Token → List ℕ
text_at [] = []
text_at (t ∷ ts) = t.text

abbrev pub before_at : List Token → List ℕ
before_at [] = []
before_at (t ∷ ts) = t.before

-- where the next token starts
abbrev pub place_at : List Token → ℕ
place_at [] = 0
place_at (t ∷ ts) = t.start

abbrev pub rank_of : Keyword → ℕ
rank_of keyword.Count = 0
rank_of keyword.Create = 1
rank_of keyword.Delete = 2
rank_of keyword.From = 3
rank_of keyword.Insert = 4
rank_of keyword.Into = 5
rank_of keyword.Key = 6
rank_of keyword.Null = 7
rank_of keyword.Primary = 8
rank_of keyword.Select = 9
rank_of keyword.Set = 10
rank_of keyword.Table = 11
rank_of keyword.Update = 12
rank_of keyword.Values = 13
rank_of keyword.Where = 14

abbrev pub is_keyword : Keyword → Symbol → Bool
is_keyword k (symbol.Keyword j) = rank_of j == rank_of k
is_keyword k _ = false

abbrev pub is_sign : ℕ → Symbol → Bool
is_sign sign (symbol.Sign b) = b == sign
is_sign sign _ = false

-- a reserved word
unfoldable pub keyword_at : Keyword → List Token → Reading Unit
keyword_at k ts = if is_keyword k (symbol_at ts) then Ok (tt, drop 1 ts) else Err (place_at ts)

-- a sign
unfoldable pub sign_at : ℕ → List Token → Reading Unit
sign_at sign ts = if is_sign sign (symbol_at ts) then Ok (tt, drop 1 ts) else Err (place_at ts)

-- what is read of one production after others of a list, where the list goes on
abbrev pub continued : {A : Type 0} → List A → List Token → Option (Reading A) → (A → List Token → Reading (List A)) → Reading (List A)
continued done ts None again = Ok (done, ts)
continued done ts (Some reading) again = and_then reading again

-- What is read as often as a list goes on, at most so many times, behind what was read before. The next one may depend on
-- those, and is None where the list doesn't go on.
module _ {A : Type 0} (next_at : List A → List Token → Option (Reading A)) where
  unfoldable pub repeated : ℕ → List A → List Token → Reading (List A)
  repeated zero done ts = Ok (done, ts)
  repeated (suc n) done ts = continued done ts (next_at done ts) (λ x rest. repeated n (done ++ x ∷ []) rest)

-- behind a comma the list goes on
abbrev pub behind_comma : {A : Type 0} → (List A → List Token → Reading A) → List A → List Token → Option (Reading A)
behind_comma read done ts = if is_sign 44 (symbol_at ts) then Some (read done (drop 1 ts)) else None

-- One, and more behind commas. Each may depend on those before it.
unfoldable pub separated : {A : Type 0} → (List A → List Token → Reading A) → List Token → Reading (List A)
separated read ts = and_then (read [] ts) (λ x rest. repeated (behind_comma read) (length rest) (x ∷ []) rest)

-- The same with what comes before it: those that are read, behind which the next one has to be.
abbrev pub separated_behind : {A : Type 0} → (List A → List Token → Reading A) → List A → List Token → Reading (List A)
separated_behind read done ts = and_then (read done ts) (λ x rest. repeated (behind_comma read) (length rest) (done ++ x ∷ []) rest)

-- what stands in brackets
abbrev pub bracketed_at : {A : Type 0} → (List Token → Reading A) → List Token → Reading A
bracketed_at read ts =
    and_then (sign_at 40 ts) (λ _ inner.
    and_then (read inner) (λ x after.
    and_then (sign_at 41 after) (λ _ rest. Ok (x, rest))))

-- parts of a list leave no more tokens than there were, and none takes a name before the first
pub record Shrinks {A : Type 0} (read : List A → List Token → Reading A) (is_taken_by : List A → List ℕ → Bool) : Type 0 where
  pub less : (done : List A) (ts : List Token) (x : A) (rest : List Token) → read done ts ≡ Ok (x, rest) → length rest ≤ length ts
  pub free : (name : List ℕ) → is_taken_by [] name ≡ false

-- an answer is what is read, unless memory ran out
abbrev pub StopsAs : {A : Type 0} → Reading A → DialectFail → Type 0
StopsAs reading (fail.Syntax at) = reading ≡ Err at
StopsAs reading fail.NoMemory = Unit {0}

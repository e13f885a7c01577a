-- The rows of a table differ where a test over the table, computed once, says so.
use Rattle.std.proofs.Common.{◌≡◌, ℕ, zero, suc, ◌<◌, List, [], ◌∷◌, length, get_or, Bool, true, false, ◌||◌, ◌&&◌, not, nat_eq, sym, refl, ap, arith}
use Rattle.std.specs.Cmp.Lexicographic.{pointwise}
use Rattle.std.proofs.lemmas.Bool.Decides.{Decides-eqb}
use Rattle.std.proofs.lemmas.Slice.Eq.{slice_eq-Decides}
use Rattle.hrana_value.specs.Names.{RowsDiffer}

abbrev pub has : List ℕ → List (List ℕ) → Bool
has x [] = false
has x (y ∷ ys) = pointwise nat_eq x y || has x ys

-- each text differs from those after it
abbrev pub all_differ : List (List ℕ) → Bool
all_differ [] = true
all_differ (x ∷ xs) = not (has x xs) && all_differ xs

same_true : (x y : List ℕ) → x ≡ y → pointwise nat_eq x y ≡ true
same_true x y e = (slice_eq-Decides Decides-eqb x y (pointwise nat_eq x y) refl).1 e

right : (a b : Bool) → b ≡ true → (a || b) ≡ true
right true b h = refl
right false b h = h

left : (a b : Bool) → a ≡ true → (a || b) ≡ true
left a b h = rw h refl

has-get_or : (x : List ℕ) (xs : List (List ℕ)) (j : ℕ) → j < length xs → x ≡ get_or xs j [] → has x xs ≡ true
has-get_or x [] j h e = absurd (omega arith)
has-get_or x (y ∷ ys) zero h e = left (pointwise nat_eq x y) (has x ys) (same_true x y e)
has-get_or x (y ∷ ys) (suc j) h e = right (pointwise nat_eq x y) (has x ys) (has-get_or x ys j (omega arith) e)

first_differs : (a b : Bool) → (not a && b) ≡ true → a ≡ true → ⊥
first_differs true b h e = cc h
first_differs false b h e = cc e

rest_differs : (a b : Bool) → (not a && b) ≡ true → b ≡ true
rest_differs true b h = cc h
rest_differs false b h = h

pub all_differ-get_or : (xs : List (List ℕ)) → all_differ xs ≡ true → (i j : ℕ) → i < length xs → j < length xs → get_or xs i [] ≡ get_or xs j [] → i ≡ j
all_differ-get_or [] d i j p q e = absurd (omega arith)
all_differ-get_or (x ∷ xs) d zero zero p q e = refl
all_differ-get_or (x ∷ xs) d zero (suc j) p q e = absurd (first_differs (has x xs) (all_differ xs) d (has-get_or x xs j (omega arith) e))
all_differ-get_or (x ∷ xs) d (suc i) zero p q e = absurd (first_differs (has x xs) (all_differ xs) d (has-get_or x xs i (omega arith) (sym e)))
all_differ-get_or (x ∷ xs) d (suc i) (suc j) p q e = ap suc (all_differ-get_or xs (rest_differs (has x xs) (all_differ xs) d) i j (omega arith) (omega arith) e)

pub RowsDiffer-tested : (rows : List (List ℕ)) → all_differ rows ≡ true → RowsDiffer rows
RowsDiffer-tested rows d = all_differ-get_or rows d

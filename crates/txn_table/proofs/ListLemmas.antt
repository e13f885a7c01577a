-- Lists into which elements are put, and of which elements are taken.
use Rattle.std.proofs.Common.{◌≡◌, ◌≢◌, ℕ, zero, suc, ◌+◌, ◌-◌, ◌<◌, ◌≤◌, List, [], ◌∷◌, length, get_or, take, drop, slice_get, sym, ap, ◌∙◌, arith, inl, inr}
use Rattle.std.specs.Option.{IsSomeAnd}
use Rattle.std.specs.List.{All, AllPairs, Contains, insert, remove}
use Rattle.std.proofs.lemmas.Bool.{cases_order}
use Rattle.std.proofs.lemmas.List.{get_or_default}
use Rattle.std.proofs.lemmas.List.Elements.{All-append, All-cons, All-take, All-drop}
use Rattle.std.proofs.lemmas.List.Edits.{length-remove, get_or-remove_below, get_or-remove_above}

pub within : {X : Type 0} (P : X → Type 0) (xs : List X) (i : ℕ) → IsSomeAnd (slice_get xs i) P → i < length xs
within P [] i h = absurd h
within P (x ∷ xs) zero h = omega arith
within P (x ∷ xs) (suc i) h = let r = within P xs i h in omega arith

pub holds_at : {X : Type 0} (P : X → Type 0) (xs : List X) (i : ℕ) (d : X) → IsSomeAnd (slice_get xs i) P → P (get_or xs i d)
holds_at P [] i d h = absurd h
holds_at P (x ∷ xs) zero d h = h
holds_at P (x ∷ xs) (suc i) d h = holds_at P xs i d h

pub AllPairs-cons : {X : Type 0} (R : X → X → Type 0) (x : X) (xs : List X) → All (R x) xs → AllPairs R xs → AllPairs R (x ∷ xs)
AllPairs-cons R x xs all pairs zero zero d lt inside = absurd (omega arith)
AllPairs-cons R x xs all pairs zero (suc j) d lt inside = all j d (omega arith)
AllPairs-cons R x xs all pairs (suc i) zero d lt inside = absurd (omega arith)
AllPairs-cons R x xs all pairs (suc i) (suc j) d lt inside = pairs i j d (omega arith) (omega arith)

pub AllPairs-tail : {X : Type 0} (R : X → X → Type 0) (x : X) (xs : List X) → AllPairs R (x ∷ xs) → AllPairs R xs
AllPairs-tail R x xs pairs i j d lt inside = pairs (suc i) (suc j) d (omega arith) (omega arith)

pub AllPairs-head : {X : Type 0} (R : X → X → Type 0) (x : X) (xs : List X) → AllPairs R (x ∷ xs) → All (R x) xs
AllPairs-head R x xs pairs k d lt = pairs 0 (suc k) d (omega arith) (omega arith)

pub All-insert : {X : Type 0} (P : X → Type 0) (xs : List X) (i : ℕ) (y : X) → All P xs → P y → All P (insert xs i y)
All-insert P xs i y all one = All-append P (take i xs) (y ∷ drop i xs) (All-take P i xs all) (All-cons P y (drop i xs) one (All-drop P i xs all))

pub AllPairs-insert : {X : Type 0} (R : X → X → Type 0) (xs : List X) (i : ℕ) (y : X) → AllPairs R xs → i ≤ length xs
    → ((k : ℕ) (d : X) → k < i → R (get_or xs k d) y) → ((k : ℕ) (d : X) → i ≤ k → k < length xs → R y (get_or xs k d)) → AllPairs R (insert xs i y)
AllPairs-insert R [] zero y pairs bound below above = AllPairs-cons R y [] (λ k d lt. absurd (omega arith)) pairs
AllPairs-insert R [] (suc i) y pairs bound below above = absurd (omega arith)
AllPairs-insert R (x ∷ xs) zero y pairs bound below above = AllPairs-cons R y (x ∷ xs) (λ k d lt. above k d (omega arith) lt) pairs
AllPairs-insert R (x ∷ xs) (suc i) y pairs bound below above =
    AllPairs-cons R x (insert xs i y) (All-insert (R x) xs i y (AllPairs-head R x xs pairs) (below 0 x (omega arith)))
    (AllPairs-insert R xs i y (AllPairs-tail R x xs pairs) (omega arith) (λ k d lt. below (suc k) d (omega arith)) (λ k d le lt. above (suc k) d (omega arith) (omega arith)))

pub Contains-insert : {X : Type 0} (xs : List X) (i : ℕ) (x y : X) → i ≤ length xs → Contains xs x → Contains (insert xs i y) x
Contains-insert [] i x y bound has = absurd (omega (arith, has.1))
Contains-insert (z ∷ zs) zero x y bound (k, lt, at) = (suc k, omega arith, at)
Contains-insert (z ∷ zs) (suc i) x y bound (zero, lt, at) = (0, omega arith, at)
Contains-insert (z ∷ zs) (suc i) x y bound (suc k, lt, at) = let r = Contains-insert zs i x y (omega arith) (k, omega arith, at) in (suc r.0, omega (arith, r.1), r.2)

pub All-remove : {X : Type 0} (P : X → Type 0) (xs : List X) (i : ℕ) → All P xs → All P (remove xs i)
All-remove P xs i all = All-append P (take i xs) (drop (suc i) xs) (All-take P i xs all) (All-drop P (suc i) xs all)

-- what stands in a list stands in it after another element was taken away
pub Contains-remove : {X : Type 0} (ys : List X) (i : ℕ) (x y : X) → i < length ys → get_or ys i x ≡ x → x ≢ y → Contains ys y → Contains (remove ys i) y
Contains-remove ys i x y il at apart has = elim (cases_order has.0 i) [
  | inl same ↦ absurd (apart (sym at ∙ (get_or_default ys i x y il ∙ (ap (λ k. get_or ys k y) (sym same) ∙ has.2))))
  | inr order ↦ elim order [
    | inl below ↦ (has.0, omega (arith, length-remove ys i il), get_or-remove_below ys i y has.0 below il ∙ has.2)
    | inr above ↦
        let back : has.0 - 1 + 1 ≡ has.0 = omega arith in
        (has.0 - 1, omega (arith, length-remove ys i il, has.1), get_or-remove_above ys i y (has.0 - 1) (omega arith) il ∙ (ap (λ k. get_or ys k y) back ∙ has.2))
  ]
]

-- distinct elements that all stand in a list are no more than that list has
pub length-contained : {X : Type 0} (xs ys : List X) → AllPairs (λ a b. a ≢ b) xs → All (Contains ys) xs → length xs ≤ length ys
length-contained [] ys apart inside = omega arith
length-contained (x ∷ xs) ys apart inside =
    let has = inside 0 x (omega arith) in
    let rest : All (Contains (remove ys has.0)) xs = λ k d lt. Contains-remove ys has.0 x (get_or xs k d) has.1 has.2 (apart 0 (suc k) d (omega arith) (omega arith)) (inside (suc k) d (omega arith)) in
    let h : length xs ≤ length (remove ys has.0) = length-contained xs (remove ys has.0) (λ i j d a b. apart (suc i) (suc j) d (omega arith) (omega arith)) rest in
    omega (arith, h, length-remove ys has.0 has.1)

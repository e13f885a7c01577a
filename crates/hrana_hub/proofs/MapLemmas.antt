-- Maps by number: what is placed in them, and where an entry stands in the list.
use Rattle.std.proofs.Common.{◌≡◌, ◌≢◌, ℕ, zero, suc, ◌<◌, ◌≤◌, Bool, true, false, cond, [], ◌∷◌, length, get_or, set, Option, None, Some, refl, sym, ap, ◌∙◌, subst, arith, inl, inr}
use Rattle.std.specs.Prelude.{Result, Ok, Err}
use Rattle.std.specs.Ordering.{nat_cmp, ordering_index}
use Rattle.std.specs.declared.cmp.Ordering.TheVariants.{Less, Equal, Greater}
use Rattle.std.specs.List.{insert, remove, AllByRecursion}
use Rattle.std.specs.List.Sorted.{IsStrictlySortedBy, IsNonDecreasingBy, IsSearchInRange, IsBinarySearchResult}
use Rattle.std.specs.Map.{keys_of}
use Rattle.std.specs.BTreeMap.{is_at}
use Rattle.std.proofs.lemmas.Bool.{cases_order, cases_eq}
use Rattle.std.proofs.lemmas.Bool.Decides.{nat_tests}
use Rattle.std.proofs.lemmas.Cmp.{ranked}
use Rattle.std.proofs.lemmas.Map.{keys-set_value}
use Rattle.std.proofs.lemmas.Map.Keys.{sorted_head, sorted_tail}
use Rattle.hrana_hub.specs.Maps.{Numbered, at, put, placed, without, IsPlaceOf, IsGapFor, IsSearched}
use Rattle.hrana_hub.proofs.EntryLemmas.{put_same}

pub none_some : {A : Type 0} {x : A} → ◌≡◌ {A = Option A} None (Some x) → ⊥
none_some e = cc

pub some_one : {A : Type 0} {x y : A} → ◌≡◌ {A = Option A} (Some x) (Some y) → x ≡ y
some_one e = cc

-- ---- numbers compared

less : (a b : ℕ) → a < b → nat_cmp a b ≡ Less
less a b h = grind (arith, nat_tests)

equal : (a b : ℕ) → a ≡ b → nat_cmp a b ≡ Equal
equal a b h = grind (arith, nat_tests)

more : (a b : ℕ) → b < a → nat_cmp a b ≡ Greater
more a b h = grind (arith, nat_tests)

hit : (n m : ℕ) → n ≡ m → is_at (nat_cmp n) m ≡ true
hit n m h = grind (arith, nat_tests)

miss : (n m : ℕ) → n ≢ m → is_at (nat_cmp n) m ≡ false
miss n m h = grind (arith, nat_tests)

-- ---- the first entry, and the others

pub at_first : {A : Type 0} (n : ℕ) (e : ℕ × A) (es : Numbered A) → n ≡ e.0 → at n (e ∷ es) ≡ Some e.1
at_first n e es h = rw (hit n e.0 h) refl

pub at_later : {A : Type 0} (n : ℕ) (e : ℕ × A) (es : Numbered A) → n ≢ e.0 → at n (e ∷ es) ≡ at n es
at_later n e es h = rw (miss n e.0 h) refl

pub put_first : {A : Type 0} (n : ℕ) (x : A) (e : ℕ × A) (es : Numbered A) → n ≡ e.0 → put n x (e ∷ es) ≡ (e.0, x) ∷ es
put_first n x e es h = rw (hit n e.0 h) refl

pub put_later : {A : Type 0} (n : ℕ) (x : A) (e : ℕ × A) (es : Numbered A) → n ≢ e.0 → put n x (e ∷ es) ≡ e ∷ put n x es
put_later n x e es h = rw (miss n e.0 h) refl

without_first : {A : Type 0} (n : ℕ) (e : ℕ × A) (es : Numbered A) → n ≡ e.0 → without n (e ∷ es) ≡ es
without_first n e es h = rw (hit n e.0 h) refl

without_later : {A : Type 0} (n : ℕ) (e : ℕ × A) (es : Numbered A) → n ≢ e.0 → without n (e ∷ es) ≡ e ∷ without n es
without_later n e es h = rw (miss n e.0 h) refl

pub placed_less : {A : Type 0} (n : ℕ) (x : A) (e : ℕ × A) (es : Numbered A) → n < e.0 → placed n x (e ∷ es) ≡ (n, x) ∷ e ∷ es
placed_less n x e es h = rw (less n e.0 h) refl

pub placed_more : {A : Type 0} (n : ℕ) (x : A) (e : ℕ × A) (es : Numbered A) → e.0 < n → placed n x (e ∷ es) ≡ e ∷ placed n x es
placed_more n x e es h = rw (more n e.0 h) refl

pub placed_same : {A : Type 0} (n : ℕ) (x : A) (e : ℕ × A) (es : Numbered A) → n ≡ e.0 → placed n x (e ∷ es) ≡ (e.0, x) ∷ es
placed_same n x e es h = rw (equal n e.0 h) refl

-- ---- what was placed

pub at_placed : {A : Type 0} (n : ℕ) (x : A) (es : Numbered A) → at n (placed n x es) ≡ Some x
at_placed n x [] = at_first n (n, x) [] refl
at_placed n x (e ∷ es) = elim (cases_order n e.0) [
  | inl same ↦ rw (placed_same n x e es same) (at_first n (e.0, x) es same)
  | inr order ↦ elim order [
    | inl below ↦ rw (placed_less n x e es below) (at_first n (n, x) (e ∷ es) refl)
    | inr above ↦ rw (placed_more n x e es above, at_later n e (placed n x es) (λ h. omega arith)) (at_placed n x es)
  ]
]

pub at_placed_other : {A : Type 0} (n k : ℕ) (x : A) (es : Numbered A) → k ≢ n → at k (placed n x es) ≡ at k es
at_placed_other n k x [] ne = at_later k (n, x) [] ne
at_placed_other n k x (e ∷ es) ne = elim (cases_order n e.0) [
  | inl same ↦ rw (placed_same n x e es same, at_later k (e.0, x) es (λ h. ne (h ∙ sym same)), at_later k e es (λ h. ne (h ∙ sym same))) refl
  | inr order ↦ elim order [
    | inl below ↦ rw (placed_less n x e es below) (at_later k (n, x) (e ∷ es) ne)
    | inr above ↦ elim (cases_eq k e.0) [
      | inl here ↦ rw (placed_more n x e es above, at_first k e (placed n x es) here, at_first k e es here) refl
      | inr there ↦ rw (placed_more n x e es above, at_later k e (placed n x es) there, at_later k e es there) (at_placed_other n k x es ne)
    ]
  ]
]

-- ---- numbers that rise

-- each of these is above the number
abbrev pub AllAbove : {A : Type 0} → ℕ → Numbered A → Type 0
AllAbove n [] = Unit {0}
AllAbove n (e ∷ es) = (n < e.0) × AllAbove n es

cmp_less : (a b : ℕ) → nat_cmp a b ≡ Less → a < b
cmp_less a b h = grind (arith, nat_tests)

all_above : {A : Type 0} (n : ℕ) (es : Numbered A) → AllByRecursion (λ m. nat_cmp n m ≡ Less) (keys_of es) → AllAbove n es
all_above n [] h = tt
all_above n (e ∷ es) h = (cmp_less n e.0 h.0, all_above n es h.1)

above_all : {A : Type 0} (n : ℕ) (es : Numbered A) → AllAbove n es → AllByRecursion (λ m. nat_cmp n m ≡ Less) (keys_of es)
above_all n [] h = tt
above_all n (e ∷ es) h = (less n e.0 h.0, above_all n es h.1)

abbrev pub Rises : {A : Type 0} → Numbered A → Type 0
Rises es = IsStrictlySortedBy nat_cmp (keys_of es)

pub rises_head : {A : Type 0} (e : ℕ × A) (es : Numbered A) → Rises (e ∷ es) → AllAbove e.0 es
rises_head e es h = all_above e.0 es (sorted_head nat_cmp e.0 (keys_of es) h)

pub rises_tail : {A : Type 0} (e : ℕ × A) (es : Numbered A) → Rises (e ∷ es) → Rises es
rises_tail e es h = sorted_tail nat_cmp e.0 (keys_of es) h

pub rises_nil : (A : Type 0) → Rises {A = A} []
unfolding IsStrictlySortedBy
rises_nil A = tt

rises_cons : {A : Type 0} (e : ℕ × A) (es : Numbered A) → AllAbove e.0 es → Rises es → Rises (e ∷ es)
unfolding IsStrictlySortedBy
rises_cons e es h r = (above_all e.0 es h, r)

above_trans : {A : Type 0} (m n : ℕ) (es : Numbered A) → m ≤ n → AllAbove n es → AllAbove m es
above_trans m n [] le h = tt
above_trans m n (e ∷ es) le h = (omega (arith, h.0), above_trans m n es le h.1)

pub none_above : {A : Type 0} (n : ℕ) (es : Numbered A) → AllAbove n es → at n es ≡ None
none_above n [] h = refl
none_above n (e ∷ es) h = at_later n e es (λ same. omega (arith, h.0)) ∙ none_above n es h.1

pub rises_put : {A : Type 0} (n : ℕ) (x : A) (es : Numbered A) → Rises es → Rises (put n x es)
rises_put n x es r = subst (λ ks. IsStrictlySortedBy nat_cmp ks) (sym (keys-set_value (is_at (nat_cmp n)) es x)) r

above_placed : {A : Type 0} (m n : ℕ) (x : A) (es : Numbered A) → m < n → AllAbove m es → AllAbove m (placed n x es)
above_placed m n x [] lt h = (lt, tt)
above_placed m n x (e ∷ es) lt h = elim (cases_order n e.0) [
  | inl same ↦ rw (placed_same n x e es same) h
  | inr order ↦ elim order [
    | inl below ↦ rw (placed_less n x e es below) (lt, h)
    | inr above ↦ rw (placed_more n x e es above) (h.0, above_placed m n x es lt h.1)
  ]
]

pub rises_placed : {A : Type 0} (n : ℕ) (x : A) (es : Numbered A) → Rises es → Rises (placed n x es)
rises_placed {A} n x [] r = rises_cons (n, x) [] tt (rises_nil A)
rises_placed {A} n x (e ∷ es) r = elim (cases_order n e.0) [
  | inl same ↦ rw (placed_same n x e es same) (rises_cons (e.0, x) es (rises_head e es r) (rises_tail e es r))
  | inr order ↦ elim order [
    | inl below ↦ rw (placed_less n x e es below) (rises_cons (n, x) (e ∷ es) (below, above_trans n e.0 es (omega arith) (rises_head e es r)) r)
    | inr above ↦ rw (placed_more n x e es above) (rises_cons e (placed n x es) (above_placed e.0 n x es above (rises_head e es r)) (rises_placed n x es (rises_tail e es r)))
  ]
]

-- ---- places in the list

module _ {A : Type 0} (n : ℕ) where
  place_head : (e : ℕ × A) (es : Numbered A) → IsPlaceOf n (e ∷ es) 0 → n ≡ e.0
  place_head e es p = sym (p.here e)

  place_skips : (e : ℕ × A) (es : Numbered A) (i : ℕ) → IsPlaceOf n (e ∷ es) (suc i) → n ≢ e.0
  place_skips e es i p same = let h : e.0 < n = p.below 0 e (omega arith) in omega arith

  place_tail : (e : ℕ × A) (es : Numbered A) (i : ℕ) → IsPlaceOf n (e ∷ es) (suc i) → IsPlaceOf n es i
  place_tail e es i p = record { within = omega (arith, p.within); below = λ j d lt. p.below (suc j) d (omega arith); here = p.here }

  pub at_place : (es : Numbered A) (i : ℕ) (d : ℕ × A) → IsPlaceOf n es i → at n es ≡ Some (get_or es i d).1
  at_place [] i d p = absurd (omega (arith, p.within))
  at_place (e ∷ es) zero d p = at_first n e es (place_head e es p)
  at_place (e ∷ es) (suc i) d p = at_later n e es (place_skips e es i p) ∙ at_place es i d (place_tail e es i p)

  set_place : (x : A) (es : Numbered A) (i : ℕ) → IsPlaceOf n es i → set es i (n, x) ≡ put n x es
  set_place x [] i p = absurd (omega (arith, p.within))
  set_place x (e ∷ es) zero p = rw (put_first n x e es (place_head e es p)) (ap (λ (m : ℕ). let fs : Numbered A = (m, x) ∷ es in fs) (place_head e es p))
  set_place x (e ∷ es) (suc i) p = rw (put_later n x e es (place_skips e es i p)) (ap (λ fs. e ∷ fs) (set_place x es i (place_tail e es i p)))

  pub remove_place : (es : Numbered A) (i : ℕ) → IsPlaceOf n es i → remove es i ≡ without n es
  remove_place [] i p = absurd (omega (arith, p.within))
  remove_place (e ∷ es) zero p = sym (without_first n e es (place_head e es p))
  remove_place (e ∷ es) (suc i) p = rw (without_later n e es (place_skips e es i p)) (ap (λ fs. e ∷ fs) (remove_place es i (place_tail e es i p)))

  gap_tail : (e : ℕ × A) (es : Numbered A) (i : ℕ) → IsGapFor n (e ∷ es) (suc i) → IsGapFor n es i
  gap_tail e es i g = record {
    within = omega (arith, g.within);
    below = λ j d lt. g.below (suc j) d (omega arith);
    above = λ j d le lt. g.above (suc j) d (omega arith) (omega arith);
  }

  gap_first : (e : ℕ × A) (es : Numbered A) (i : ℕ) → IsGapFor n (e ∷ es) (suc i) → e.0 < n
  gap_first e es i g = g.below 0 e (omega arith)

  gap_above : (es : Numbered A) → IsGapFor n es 0 → AllAbove n es
  gap_above [] g = tt
  gap_above (e ∷ es) g =
      (g.above 0 e (omega arith) (omega arith), gap_above es (record { within = omega arith; below = λ j d lt. absurd (omega arith); above = λ j d le lt. g.above (suc j) d (omega arith) (omega arith) }))

  pub at_gap : (es : Numbered A) (i : ℕ) → IsGapFor n es i → at n es ≡ None
  at_gap es zero g = none_above n es (gap_above es g)
  at_gap [] (suc i) g = refl
  at_gap (e ∷ es) (suc i) g = let h = gap_first e es i g in at_later n e es (λ same. omega arith) ∙ at_gap es i (gap_tail e es i g)

  insert_gap : (x : A) (es : Numbered A) (i : ℕ) → IsGapFor n es i → insert es i (n, x) ≡ placed n x es
  insert_gap x [] zero g = refl
  insert_gap x [] (suc i) g = absurd (omega (arith, g.within))
  insert_gap x (e ∷ es) zero g = sym (placed_less n x e es (gap_above (e ∷ es) g).0)
  insert_gap x (e ∷ es) (suc i) g = rw (placed_more n x e es (gap_first e es i g)) (ap (λ fs. e ∷ fs) (insert_gap x es i (gap_tail e es i g)))

-- ---- a binary search

above_at : {A : Type 0} (n : ℕ) (es : Numbered A) (i : ℕ) (d : ℕ × A) → AllAbove n es → i < length es → n < (get_or es i d).0
above_at n [] i d h lt = absurd (omega arith)
above_at n (e ∷ es) zero d h lt = h.0
above_at n (e ∷ es) (suc i) d h lt = above_at n es i d h.1 (omega arith)

rises_at : {A : Type 0} (es : Numbered A) (i j : ℕ) (d : ℕ × A) → Rises es → i < j → j < length es → (get_or es i d).0 < (get_or es j d).0
rises_at [] i j d r lt inside = absurd (omega arith)
rises_at (e ∷ es) i zero d r lt inside = absurd (omega arith)
rises_at (e ∷ es) zero (suc j) d r lt inside = above_at e.0 es j d (rises_head e es r) (omega arith)
rises_at (e ∷ es) (suc i) (suc j) d r lt inside = rises_at es i j d (rises_tail e es r) (omega arith) (omega arith)

abbrev rank : {A : Type 0} → ℕ → ℕ × A → ℕ
rank n e = ordering_index (nat_cmp e.0 n)

rank_rises : (n a b : ℕ) → a ≤ b → ordering_index (nat_cmp a n) ≤ ordering_index (nat_cmp b n)
rank_rises n a b le = grind (arith, nat_tests)

ranks_rise : {A : Type 0} (n : ℕ) (es : Numbered A) → Rises es → IsNonDecreasingBy (λ (e : ℕ × A). rank n e) es
ranks_rise n es r i j d le inside = elim (cases_order i j) [
  | inl same ↦ rw same (omega arith)
  | inr order ↦ elim order [
    | inl less ↦ let h : (get_or es i d).0 < (get_or es j d).0 = rises_at es i j d r less inside in rank_rises n (get_or es i d).0 (get_or es j d).0 (omega arith)
    | inr more ↦ absurd (omega arith)
  ]
]

-- what the search of a number finds among entries that rise
pub searched : {A : Type 0} (n : ℕ) (es : Numbered A) (r : Result ℕ ℕ) → Rises es → IsSearchInRange r (length es) → IsBinarySearchResult (λ (e : ℕ × A). nat_cmp e.0 n) es r → IsSearched n es r
searched n es (Ok i) r within is = record {
  within = within;
  below = λ j d lt. let h : (get_or es j d).0 < (get_or es i d).0 = rises_at es j i d r lt within in let e : (get_or es i d).0 ≡ n = ranked _ n _ (sym (is d)) in omega arith;
  here = λ d. ranked _ n _ (sym (is d));
}
searched n es (Err i) r within is =
    let parted = is (ranks_rise n es r) in
    record {
      within = within;
      below = λ j d lt. ranked _ n _ (sym (parted.0 j d (omega arith) lt));
      above = λ j d le lt. ranked _ n _ (sym (parted.1 j d le lt));
    }

-- ---- no change

pub put_kept : {A : Type 0} (n : ℕ) (x y : A) (es : Numbered A) → at n es ≡ Some x → y ≡ x → put n y es ≡ es
put_kept n x y es h same = ap (λ z. put n z es) same ∙ put_same n x es h

-- ---- the entry at a place is changed

pub set_known : {A : Type 0} (n : ℕ) (x : A) (es fs : Numbered A) (i : ℕ) (e : ℕ × A) → IsPlaceOf n es i → fs ≡ es → e ≡ get_or fs i e → set fs i (e.0, x) ≡ put n x es
set_known {A} n x es fs i e p same is =
    let number : e.0 ≡ n = ap (λ (f : ℕ × A). f.0) is ∙ (ap (λ (gs : Numbered A). (get_or gs i e).0) same ∙ p.here e) in
    ap (λ (m : ℕ). set fs i (m, x)) number ∙ (ap (λ (gs : Numbered A). set gs i (n, x)) same ∙ set_place n x es i p)

-- one more entry, where there is room for it
pub insert_room : {A : Type 0} (n : ℕ) (x y : A) (es fs gs : Numbered A) (i : ℕ) (put : Bool) → IsGapFor n es i → fs ≡ es → y ≡ x → put ≡ true → gs ≡ cond put (insert fs i (n, y)) fs → gs ≡ placed n x es
insert_room {A} n x y es fs gs i put g same is room left =
    let full : gs ≡ insert fs i (n, y) = left ∙ ap (λ b. cond b (insert fs i (n, y)) fs) room in
    full ∙ (ap (λ (z : A). insert fs i (n, z)) is ∙ (ap (λ (hs : Numbered A). insert hs i (n, x)) same ∙ insert_gap n x es i g))

-- what was put where nothing stood, and is taken away again
pub without_placed : {A : Type 0} (n : ℕ) (x : A) (es : Numbered A) → at n es ≡ None → without n (placed n x es) ≡ es
without_placed n x [] h = without_first n (n, x) [] refl
without_placed n x (e ∷ es) h = elim (cases_order n e.0) [
  | inl same ↦ absurd (none_some (sym h ∙ at_first n e es same))
  | inr order ↦ elim order [
    | inl below ↦ rw (placed_less n x e es below) (without_first n (n, x) (e ∷ es) refl)
    | inr above ↦
        let apart : n ≢ e.0 = λ same. omega arith in
        rw (placed_more n x e es above, without_later n e (placed n x es) apart) (ap (λ fs. e ∷ fs) (without_placed n x es (sym (at_later n e es apart) ∙ h)))
  ]
]

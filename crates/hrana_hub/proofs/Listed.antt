-- Lists of numbers, and entries of maps, after a change: what stands at a number now stood there before, or was put there.
use Rattle.std.proofs.Common.{◌≡◌, ◌≢◌, ◌≤◌, ◌+◌, ◌⊎◌, ℕ, Bool, true, false, not, cond, nat_eq, List, [], ◌∷◌, length, None, Some, Contains, refl, sym, ap, ◌∙◌, subst, arith, inl, inr, nat_cmp}
use Rattle.std.proofs.lemmas.Bool.{cases_eq, cases_order, eqb-true, eqb-false}
use Rattle.std.proofs.lemmas.List.Elements.{Contains-append_left, Contains-append_right, Contains-push, Contains-append_cases, Contains-push_cases}
use Rattle.std.specs.BTreeMap.{is_at}
use Rattle.hrana_hub.specs.Maps.{Numbered, at, put, placed, without}
use Rattle.hrana_hub.specs.State.{Stream}
use Rattle.hrana_hub.specs.Ended.{let_go}
use Rattle.hrana_hub.specs.Polled.{without_stream}
use Rattle.hrana_hub.proofs.EntryLemmas.{at_put, at_put_other, at_without, at_without_other, rising_without}
use Rattle.hrana_hub.proofs.MapLemmas.{none_some, some_one, at_placed, at_placed_other, at_first, at_later, placed_less, placed_more, Rises}

-- ---- numbers in a list

pub contains_none : {A : Type 0} (x : A) → Contains [] x → ⊥
contains_none x h = omega (arith, h.1)

pub contains_here : (n : ℕ) (ns : List ℕ) → Contains (n ∷ ns) n
contains_here n ns = Contains-append_left (n ∷ []) ns n (Contains-push [] n)

pub contains_later : (n m : ℕ) (ns : List ℕ) → Contains ns m → Contains (n ∷ ns) m
contains_later n m ns h = Contains-append_right (n ∷ []) ns m h

pub contains_cases : (n m : ℕ) (ns : List ℕ) → Contains (n ∷ ns) m → (n ≡ m) ⊎ Contains ns m
contains_cases n m ns h = elim (Contains-append_cases (n ∷ []) ns m h) [
  | inl one ↦ elim (Contains-push_cases [] n m one) [ inl none ↦ absurd (contains_none m none) | inr same ↦ inl same ]
  | inr later ↦ inr later
]

pub without_contains : (n m : ℕ) (ns : List ℕ) → m ≢ n → Contains ns m → Contains (without_stream n ns) m
without_contains n m [] ne h = h
without_contains n m (k ∷ ns) ne h = by (nat_eq k n) refl (without_contains n m ns ne) (contains_cases k m ns h)
  where
    by : (b : Bool) → nat_eq k n ≡ b → (Contains ns m → Contains (without_stream n ns) m) → (k ≡ m) ⊎ Contains ns m → Contains (cond (not b) (k ∷ without_stream n ns) (without_stream n ns)) m
    by true e more (inl same) = absurd (ne (sym same ∙ eqb-true k n e))
    by true e more (inr later) = more later
    by false e more (inl same) = subst (λ j. Contains (k ∷ without_stream n ns) j) same (contains_here k (without_stream n ns))
    by false e more (inr later) = contains_later k m (without_stream n ns) (more later)

pub contains_without : (n m : ℕ) (ns : List ℕ) → Contains (without_stream n ns) m → (m ≢ n) × Contains ns m
contains_without n m [] h = absurd (contains_none m h)
contains_without n m (k ∷ ns) h = by (nat_eq k n) refl (contains_without n m ns) h
  where
    by : (b : Bool) → nat_eq k n ≡ b → (Contains (without_stream n ns) m → (m ≢ n) × Contains ns m) → Contains (cond (not b) (k ∷ without_stream n ns) (without_stream n ns)) m → (m ≢ n) × Contains (k ∷ ns) m
    by true e more g = (let r = more g in (r.0, contains_later k m ns r.1))
    by false e more g = elim (contains_cases k m (without_stream n ns) g) [
      | inl same ↦ ((λ f. eqb-false k n e (same ∙ f)), subst (λ j. Contains (k ∷ ns) j) same (contains_here k ns))
      | inr later ↦ (let r = more later in (r.0, contains_later k m ns r.1))
    ]

-- ---- what stands at a number

-- it was put there, or stood there before
abbrev pub PutOrOld : {A : Type 0} → ℕ → A → Numbered A → ℕ → A → Type 0
PutOrOld n y es m z = ((m ≡ n) × (z ≡ y)) ⊎ ((m ≢ n) × (at m es ≡ Some z))

pub put_cases : {A : Type 0} (n m : ℕ) (x y z : A) (es : Numbered A) → at n es ≡ Some x → at m (put n y es) ≡ Some z → PutOrOld n y es m z
put_cases n m x y z es there e = elim (cases_eq m n) [
  | inl same ↦ inl (same, sym (some_one (sym (at_put n x y es there) ∙ ap (λ k. at k (put n y es)) (sym same) ∙ e)))
  | inr other ↦ inr (other, sym (at_put_other n m x y es there other) ∙ e)
]

pub placed_cases : {A : Type 0} (n m : ℕ) (y z : A) (es : Numbered A) → at m (placed n y es) ≡ Some z → PutOrOld n y es m z
placed_cases n m y z es e = elim (cases_eq m n) [
  | inl same ↦ inl (same, sym (some_one (sym (at_placed n y es) ∙ ap (λ k. at k (placed n y es)) (sym same) ∙ e)))
  | inr other ↦ inr (other, sym (at_placed_other n m y es other) ∙ e)
]

pub without_cases : {A : Type 0} (n m : ℕ) (z : A) (es : Numbered A) → Rises es → at m (without n es) ≡ Some z → (m ≢ n) × (at m es ≡ Some z)
without_cases n m z es r e = elim (cases_eq m n) [
  | inl same ↦ absurd (none_some (sym (at_without n es r) ∙ ap (λ k. at k (without n es)) (sym same) ∙ e))
  | inr other ↦ (other, sym (at_without_other n m es r other) ∙ e)
]

-- two different things stand at different numbers
pub apart_none : {A : Type 0} (n m : ℕ) (z : A) (es : Numbered A) → at n es ≡ None → at m es ≡ Some z → m ≢ n
apart_none n m z es none some same = none_some (sym none ∙ ap (λ k. at k es) (sym same) ∙ some)

pub length_placed : {A : Type 0} (n : ℕ) (y : A) (es : Numbered A) → at n es ≡ None → length (placed n y es) ≡ length es + 1
length_placed n y [] none = omega arith
length_placed n y (e ∷ es) none = elim (cases_order n e.0) [
  | inl same ↦ absurd (none_some (sym none ∙ at_first n e es same))
  | inr order ↦ elim order [
    | inl below ↦ rw (placed_less n y e es below) (omega arith)
    | inr above ↦ rw (placed_more n y e es above) (omega (arith, length_placed n y es (sym (at_later n e es (λ same. omega arith)) ∙ none)))
  ]
]

-- ---- streams that are let go of

pub rises_let_go : (ns : List ℕ) (es : Numbered Stream) → Rises es → Rises (let_go ns es)
rises_let_go [] es r = r
rises_let_go (n ∷ ns) es r = rises_let_go ns (without n es) (rising_without n es r)

pub let_go_cases : (ns : List ℕ) (m : ℕ) (z : Stream) (es : Numbered Stream) → Rises es → at m (let_go ns es) ≡ Some z → (Contains ns m → ⊥) × (at m es ≡ Some z)
let_go_cases [] m z es r e = (contains_none m, e)
let_go_cases (n ∷ ns) m z es r e =
    let later = let_go_cases ns m z (without n es) (rising_without n es r) e in
    let here = without_cases n m z es r later.1 in
    ((λ h. elim (contains_cases n m ns h) [ inl same ↦ here.0 (sym same) | inr more ↦ later.0 more ]), here.1)

pub let_go_other : (ns : List ℕ) (m : ℕ) (es : Numbered Stream) → Rises es → (Contains ns m → ⊥) → at m (let_go ns es) ≡ at m es
let_go_other [] m es r out = refl
let_go_other (n ∷ ns) m es r out =
    let_go_other ns m (without n es) (rising_without n es r) (λ h. out (contains_later n m ns h))
    ∙ at_without_other n m es r (λ same. out (subst (λ j. Contains (n ∷ ns) j) (sym same) (contains_here n ns)))

pub let_go_none : (ns : List ℕ) (m : ℕ) (es : Numbered Stream) → Rises es → at m es ≡ None → at m (let_go ns es) ≡ None
let_go_none [] m es r none = none
let_go_none (n ∷ ns) m es r none = let_go_none ns m (without n es) (rising_without n es r) (elim (cases_eq m n) [
  | inl same ↦ ap (λ k. at k (without n es)) same ∙ at_without n es r
  | inr other ↦ at_without_other n m es r other ∙ none
])

pub length_without : {A : Type 0} (n : ℕ) (es : Numbered A) → length (without n es) ≤ length es
length_without n [] = omega arith
length_without n (e ∷ es) = by (is_at (nat_cmp n) e.0) (length_without n es)
  where
    by : (b : Bool) → length (without n es) ≤ length es → length (cond b es (e ∷ without n es)) ≤ length (e ∷ es)
    by true l = omega arith
    by false l = omega (arith, l)

-- Where each entry of a map has become another, or is gone; and what a moment leaves of the streams.
use Rattle.std.proofs.Common.{◌≡◌, ◌≢◌, ◌≤◌, ◌+◌, ℕ, Bool, true, false, cond, [], ◌∷◌, Option, None, Some, refl, sym, ap, ◌∙◌, subst, arith, inl, inr, nat_cmp}
use Rattle.std.specs.declared.cmp.Ordering.TheVariants.{Less}
use Rattle.std.specs.List.{AllByRecursion}
use Rattle.std.specs.List.Sorted.{IsStrictlySortedBy}
use Rattle.std.specs.Map.{keys_of}
use Rattle.std.proofs.lemmas.Bool.{cases_eq}
use Rattle.hrana_hub.specs.Maps.{Numbered, at, and_left, those_left}
use Rattle.hrana_hub.specs.State.{Stream, of_exchanges}
use Rattle.hrana_hub.specs.Exchanges.{sessions_in}
use Rattle.hrana_hub.specs.Laws.{waits_of}
use Rattle.hrana_hub.specs.Moments.{is_due, expired, left_of, after}
use Rattle.hrana_hub.proofs.EntryLemmas.{at_without, without_first}
use Rattle.hrana_hub.proofs.MapLemmas.{none_some, at_first, at_later, Rises, rises_tail}
use Rattle.hrana_hub.proofs.WaitSums.{share, share_idle}

-- ---- numbers that rise

pub none_behind : {A : Type 0} (e : ℕ × A) (es : Numbered A) → Rises (e ∷ es) → at e.0 es ≡ None
none_behind e es r = ap (λ fs. at e.0 fs) (sym (without_first e es)) ∙ at_without e.0 (e ∷ es) r

pub at_behind : {A : Type 0} (e : ℕ × A) (es : Numbered A) (n : ℕ) (x : A) → Rises (e ∷ es) → at n es ≡ Some x → at n (e ∷ es) ≡ Some x
at_behind e es n x r k = at_later n e es (λ same. none_some (sym (none_behind e es r) ∙ ap (λ m. at m es) (sym same) ∙ k)) ∙ k

-- ---- those left

-- what has become of what stood there
abbrev pub become : {A : Type 0} → (A → Option A) → Option A → Option A
become f None = None
become f (Some x) = f x

module _ {A : Type 0} (f : A → Option A) where
  at_left_other : (n : ℕ) (e : ℕ × A) (o : Option A) (fs : Numbered A) → n ≢ e.0 → at n (and_left e.0 o fs) ≡ at n fs
  at_left_other n e None fs other = refl
  at_left_other n e (Some y) fs other = at_later n (e.0, y) fs other

  at_left_own : (n : ℕ) (e : ℕ × A) (o : Option A) (fs : Numbered A) → n ≡ e.0 → at n fs ≡ None → at n (and_left e.0 o fs) ≡ o
  at_left_own n e None fs own none = none
  at_left_own n e (Some y) fs own none = at_first n (e.0, y) fs own

  pub at_left_none : (n : ℕ) (es : Numbered A) → at n es ≡ None → at n (those_left f es) ≡ None
  at_left_none n [] k = refl
  at_left_none n (e ∷ es) k = elim (cases_eq n e.0) [
    | inl own ↦ absurd (none_some (sym k ∙ at_first n e es own))
    | inr other ↦ at_left_other n e (f e.1) (those_left f es) other ∙ at_left_none n es (sym (at_later n e es other) ∙ k)
  ]

  pub at_left : (n : ℕ) (es : Numbered A) → Rises es → at n (those_left f es) ≡ become f (at n es)
  at_left n [] r = refl
  at_left n (e ∷ es) r = elim (cases_eq n e.0) [
    | inl own ↦ at_left_own n e (f e.1) (those_left f es) own (at_left_none n es (ap (λ m. at m es) own ∙ none_behind e es r)) ∙ ap (become f) (sym (at_first n e es own))
    | inr other ↦ at_left_other n e (f e.1) (those_left f es) other ∙ at_left n es (rises_tail e es r) ∙ ap (become f) (sym (at_later n e es other))
  ]

  pub at_left_some : (n : ℕ) (x : A) (es : Numbered A) → Rises es → at n es ≡ Some x → at n (those_left f es) ≡ f x
  at_left_some n x es r k = at_left n es r ∙ ap (become f) k

  -- what stands there now is what has become of what stood there
  pub left_cases : (n : ℕ) (z : A) (es : Numbered A) → Rises es → at n (those_left f es) ≡ Some z → (x : A) × (at n es ≡ Some x) × (f x ≡ Some z)
  left_cases n z es r k = by (at n es) refl
    where
      by : (o : Option A) → at n es ≡ o → (x : A) × (at n es ≡ Some x) × (f x ≡ Some z)
      by None e = absurd (none_some (sym (at_left_none n es e) ∙ k))
      by (Some x) e = (x, e, sym (at_left_some n x es r e) ∙ k)

  below_left : (P : ℕ → Type 0) (es : Numbered A) → AllByRecursion P (keys_of es) → AllByRecursion P (keys_of (those_left f es))
  below_left P [] a = a
  below_left P (e ∷ es) a = by (below_left P es a.1) (f e.1)
    where
      by : AllByRecursion P (keys_of (those_left f es)) → (o : Option A) → AllByRecursion P (keys_of (and_left e.0 o (those_left f es)))
      by later None = later
      by later (Some y) = (a.0, later)

  pub rises_left : (es : Numbered A) → Rises es → Rises (those_left f es)
  unfolding IsStrictlySortedBy
  rises_left [] r = r
  rises_left (e ∷ es) r = by (rises_left es r.1) (f e.1)
    where
      by : Rises (those_left f es) → (o : Option A) → Rises (and_left e.0 o (those_left f es))
      by later None = later
      by later (Some y) = (below_left (λ k. nat_cmp e.0 k ≡ Less) es r.0, later)

-- ---- what a moment leaves

-- the stream as it was, or dead where it is one of a connection, or nothing
pub after_cases : (P : Option Stream → Type 0) (now : ℕ) (x : Stream) → (is_due now x ≡ false → P (Some x)) → (is_due now x ≡ true → of_exchanges x ≡ false → P (Some (expired x))) → (is_due now x ≡ true → of_exchanges x ≡ true → P None) → P (after now x)
after_cases P now x stays dies goes = by (is_due now x) refl
  where
    due : is_due now x ≡ true → (b : Bool) → of_exchanges x ≡ b → P (cond b None (Some (expired x)))
    due d true e = goes d e
    due d false e = dies d e

    by : (b : Bool) → is_due now x ≡ b → P (cond b (left_of x) (Some x))
    by true d = due d (of_exchanges x) refl
    by false d = stays d

pub after_other : (now : ℕ) (x : Stream) → is_due now x ≡ false → after now x ≡ Some x
after_other now x e = ap (λ b. cond b (left_of x) (Some x)) e

pub after_due : (now : ℕ) (x : Stream) → is_due now x ≡ true → after now x ≡ left_of x
after_due now x e = ap (λ b. cond b (left_of x) (Some x)) e

pub left_dead : (x : Stream) → of_exchanges x ≡ false → left_of x ≡ Some (expired x)
left_dead x e = ap (λ b. cond b None (Some (expired x))) e

pub left_gone : (x : Stream) → of_exchanges x ≡ true → left_of x ≡ None
left_gone x e = ap (λ b. cond b None (Some (expired x))) e

-- what is left is of the same connection, and as much one of exchanges
pub record IsSame (x z : Stream) : Type 0 where
  pub conn : z.conn ≡ x.conn
  pub exchanges : of_exchanges z ≡ of_exchanges x

abbrev SameIf : Stream → Option Stream → Type 0
SameIf x None = Unit {0}
SameIf x (Some z) = IsSame x z

pub after_same : (now : ℕ) (x z : Stream) → after now x ≡ Some z → IsSame x z
after_same now x z e = subst (SameIf x) e (after_cases (SameIf x) now x (λ d. record { conn = refl; exchanges = refl }) (λ d o. record { conn = refl; exchanges = refl }) (λ d o. tt))

-- a stream of a connection is still there
pub after_stands : (now : ℕ) (x : Stream) → of_exchanges x ≡ false → (z : Stream) × (after now x ≡ Some z) × IsSame x z
after_stands now x own = after_cases (λ o. (z : Stream) × (o ≡ Some z) × IsSame x z) now x (λ d. (x, refl, record { conn = refl; exchanges = refl })) (λ d o. (expired x, refl, record { conn = refl; exchanges = refl })) (λ d o. absurd (cc))

-- what is gone had no request that waits with an id, and what is left keeps its ids
pub sum_left : (c now : ℕ) (es : Numbered Stream) → Rises es → ((n : ℕ) (x : Stream) → at n es ≡ Some x → of_exchanges x ≡ true → x.waits ≡ []) → waits_of c (those_left (after now) es) ≡ waits_of c es
sum_left c now [] r h = refl
sum_left c now (e ∷ es) r h =
    let later : waits_of c (those_left (after now) es) ≡ waits_of c es = sum_left c now es (rises_tail e es r) (λ n x k. h n x (at_behind e es n x r k)) in
    after_cases (λ o. waits_of c (and_left e.0 o (those_left (after now) es)) ≡ share c e.1 + waits_of c es) now e.1
    (λ d. ap (λ w. share c e.1 + w) later)
    (λ d o. ap (λ w. share c e.1 + w) later)
    (λ d o. omega (arith, later, share_idle c e.1 (h e.0 e.1 (at_first e.0 e es refl) o)))

pub sessions_left : (now : ℕ) (es : Numbered Stream) → sessions_in (those_left (after now) es) ≤ sessions_in es
sessions_left now [] = omega arith
sessions_left now (e ∷ es) =
    let later : sessions_in (those_left (after now) es) ≤ sessions_in es = sessions_left now es in
    after_cases (λ o. sessions_in (and_left e.0 o (those_left (after now) es)) ≤ cond (of_exchanges e.1) 1 0 + sessions_in es) now e.1
    (λ d. omega (arith, later))
    (λ d o. omega (arith, later))
    (λ d o. omega (arith, later))

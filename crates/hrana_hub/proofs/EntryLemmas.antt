-- A map by number after a change at one number.
use Rattle.std.proofs.Common.{◌≡◌, ◌≢◌, ℕ, Bool, true, false, cond, [], ◌∷◌, length, None, Some, refl, sym, ap, ◌∙◌, true≢false, inl, inr, nat_cmp, Ordering, Less, Equal, Greater}
use Rattle.std.specs.Option.{IsSome}
use Rattle.std.specs.Ordering.{eq_by_cmp, is_eq}
use Rattle.std.specs.List.{AllByRecursion}
use Rattle.std.specs.List.Sorted.{IsStrictlySortedBy}
use Rattle.std.specs.Map.{keys_of}
use Rattle.std.specs.BTreeMap.{is_at}
use Rattle.std.specs.Cmp.{IsEquivalence, eq_by_cmp_equiv}
use Rattle.std.proofs.lemmas.Bool.{cases_Bool}
use Rattle.std.proofs.lemmas.Cmp.{nat_cmp_total}
use Rattle.std.proofs.lemmas.Map.{lookup-set_value, lookup-remove_entry, keys-set_value, length-set_value}
use Rattle.std.proofs.lemmas.Map.Keys.{IsDistinct-from_sorted}
use Rattle.std.proofs.lemmas.Map.Lookups.{exact_unsigned}
use Rattle.std.proofs.lemmas.Map.Steps.{set_value_same}
use Rattle.hrana_hub.specs.Maps.{Numbered, at, put, without}

-- ---- numbers

laws : IsEquivalence (eq_by_cmp nat_cmp)
laws = eq_by_cmp_equiv nat_cmp_total

one_number : (n x y : ℕ) → is_at (nat_cmp n) x ≡ true → is_at (nat_cmp n) y ≡ eq_by_cmp nat_cmp x y
one_number n x y e = laws.congr n x y e

pub is_here : (n : ℕ) → is_at (nat_cmp n) n ≡ true
is_here n = laws.refl n

equal_of : (r : Ordering) → is_eq r ≡ true → r ≡ Equal
equal_of Less e = absurd (true≢false (sym e))
equal_of Equal e = refl
equal_of Greater e = absurd (true≢false (sym e))

is_equal : (k n : ℕ) → is_at (nat_cmp k) n ≡ true → k ≡ n
is_equal k n e = exact_unsigned k n (equal_of (nat_cmp k n) e)

pub is_apart : (k n : ℕ) → k ≢ n → is_at (nat_cmp k) n ≡ false
is_apart k n ne = elim (cases_Bool (is_at (nat_cmp k) n)) [
  | inl e ↦ absurd (ne (is_equal k n e))
  | inr e ↦ e
]

cond_yes : {A : Type 0} (b : Bool) (x y : A) → b ≡ true → cond b x y ≡ x
cond_yes b x y e = ap (λ c. cond c x y) e

cond_no : {A : Type 0} (b : Bool) (x y : A) → b ≡ false → cond b x y ≡ y
cond_no b x y e = ap (λ c. cond c x y) e

module _ {A : Type 0} where
  abbrev IsRising : Numbered A → Type 0
  IsRising es = IsStrictlySortedBy nat_cmp (keys_of es)

  known : (n : ℕ) (x : A) (es : Numbered A) → at n es ≡ Some x → IsSome (at n es)
  known n x es e = rw e refl

  -- ---- where something else is put

  pub at_put : (n : ℕ) (x y : A) (es : Numbered A) → at n es ≡ Some x → at n (put n y es) ≡ Some y
  at_put n x y es e = lookup-set_value laws (is_at (nat_cmp n)) (one_number n) n y es (known n x es e) ∙ cond_yes (is_at (nat_cmp n) n) (Some y) (at n es) (is_here n)

  pub at_put_other : (n k : ℕ) (x y : A) (es : Numbered A) → at n es ≡ Some x → k ≢ n → at k (put n y es) ≡ at k es
  at_put_other n k x y es e ne = lookup-set_value laws (is_at (nat_cmp n)) (one_number n) k y es (known n x es e) ∙ cond_no (is_at (nat_cmp n) k) (Some y) (at k es) (is_apart n k (λ i. ne (sym i)))

  pub keys_put : (n : ℕ) (y : A) (es : Numbered A) → keys_of (put n y es) ≡ keys_of es
  keys_put n y es = keys-set_value (is_at (nat_cmp n)) es y

  pub length_put : (n : ℕ) (y : A) (es : Numbered A) → length (put n y es) ≡ length es
  length_put n y es = length-set_value (is_at (nat_cmp n)) es y

  -- what stands there, put there again, changes nothing
  pub put_same : (n : ℕ) (x : A) (es : Numbered A) → at n es ≡ Some x → put n x es ≡ es
  put_same n x es e = set_value_same (is_at (nat_cmp n)) es x e

  -- of two that are put at one number the last one stands
  pub put_put : (n : ℕ) (x y : A) (es : Numbered A) → put n y (put n x es) ≡ put n y es
  put_put n x y [] = refl
  put_put n x y (e ∷ es) = by (put_put n x y es) (is_at (nat_cmp n) e.0) refl
    where
      by : put n y (put n x es) ≡ put n y es → (b : Bool) → is_at (nat_cmp n) e.0 ≡ b → put n y (cond b ((e.0, x) ∷ es) (e ∷ put n x es)) ≡ cond b ((e.0, y) ∷ es) (e ∷ put n y es)
      by later true t = cond_yes (is_at (nat_cmp n) e.0) ((e.0, y) ∷ es) ((e.0, x) ∷ put n y es) t
      by later false t = cond_no (is_at (nat_cmp n) e.0) ((e.0, y) ∷ put n x es) (e ∷ put n y (put n x es)) t ∙ ap (λ l. e ∷ l) later

  pub without_put : (n : ℕ) (x : A) (es : Numbered A) → without n (put n x es) ≡ without n es
  without_put n x [] = refl
  without_put n x (e ∷ es) = by (without_put n x es) (is_at (nat_cmp n) e.0) refl
    where
      by : without n (put n x es) ≡ without n es → (b : Bool) → is_at (nat_cmp n) e.0 ≡ b → without n (cond b ((e.0, x) ∷ es) (e ∷ put n x es)) ≡ cond b es (e ∷ without n es)
      by later true t = cond_yes (is_at (nat_cmp n) e.0) es ((e.0, x) ∷ without n es) t
      by later false t = cond_no (is_at (nat_cmp n) e.0) (put n x es) (e ∷ without n (put n x es)) t ∙ ap (λ l. e ∷ l) later

  -- where nothing stands, nothing is put
  pub put_unknown : (n : ℕ) (y : A) (es : Numbered A) → at n es ≡ None → put n y es ≡ es
  put_unknown n y [] e = refl
  put_unknown n y (x ∷ es) e = by (put_unknown n y es) (is_at (nat_cmp n) x.0) e
    where
      by : (at n es ≡ None → put n y es ≡ es) → (b : Bool) → cond b (Some x.1) (at n es) ≡ None → cond b ((x.0, y) ∷ es) (x ∷ put n y es) ≡ x ∷ es
      by later true f = absurd (cc)
      by later false f = ap (λ l. x ∷ l) (later f)

  -- ---- where something is taken away

  pub at_without : (n : ℕ) (es : Numbered A) → IsRising es → at n (without n es) ≡ None
  at_without n es r = lookup-remove_entry laws (is_at (nat_cmp n)) (one_number n) n es (IsDistinct-from_sorted nat_cmp (keys_of es) r) ∙ cond_yes (is_at (nat_cmp n) n) None (at n es) (is_here n)

  pub at_without_other : (n k : ℕ) (es : Numbered A) → IsRising es → k ≢ n → at k (without n es) ≡ at k es
  at_without_other n k es r ne = lookup-remove_entry laws (is_at (nat_cmp n)) (one_number n) k es (IsDistinct-from_sorted nat_cmp (keys_of es) r) ∙ cond_no (is_at (nat_cmp n) k) None (at k es) (is_apart n k (λ i. ne (sym i)))

  below_without : (P : ℕ → Type 0) (n : ℕ) (es : Numbered A) → AllByRecursion P (keys_of es) → AllByRecursion P (keys_of (without n es))
  below_without P n [] a = a
  below_without P n (e ∷ es) a = by (below_without P n es a.1) (is_at (nat_cmp n) e.0)
    where
      by : AllByRecursion P (keys_of (without n es)) → (b : Bool) → AllByRecursion P (keys_of (cond b es (e ∷ without n es)))
      by later true = a.1
      by later false = (a.0, later)

  pub rising_without : (n : ℕ) (es : Numbered A) → IsRising es → IsRising (without n es)
  unfolding IsStrictlySortedBy
  rising_without n [] r = r
  rising_without n (e ∷ es) r = by (rising_without n es r.1) (is_at (nat_cmp n) e.0)
    where
      by : IsRising (without n es) → (b : Bool) → IsRising (cond b es (e ∷ without n es))
      by later true = r.1
      by later false = (below_without (λ k. nat_cmp e.0 k ≡ Less) n es r.0, later)

  pub without_unknown : (n : ℕ) (es : Numbered A) → at n es ≡ None → without n es ≡ es
  without_unknown n [] e = refl
  without_unknown n (x ∷ es) e = by (without_unknown n es) (is_at (nat_cmp n) x.0) e
    where
      by : (at n es ≡ None → without n es ≡ es) → (b : Bool) → cond b (Some x.1) (at n es) ≡ None → cond b es (x ∷ without n es) ≡ x ∷ es
      by later true f = absurd (cc)
      by later false f = ap (λ l. x ∷ l) (later f)

  -- ---- the first of them

  pub at_first : (e : ℕ × A) (es : Numbered A) → at e.0 (e ∷ es) ≡ Some e.1
  at_first e es = cond_yes (is_at (nat_cmp e.0) e.0) (Some e.1) (at e.0 es) (is_here e.0)

  pub without_first : (e : ℕ × A) (es : Numbered A) → without e.0 (e ∷ es) ≡ es
  without_first e es = cond_yes (is_at (nat_cmp e.0) e.0) es (e ∷ without e.0 es) (is_here e.0)

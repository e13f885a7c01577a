-- The first stream of a range that passes a test.
use Rattle.std.proofs.Common.{◌≡◌, ◌∙◌, ℕ, Bool, true, false, ◌&&◌, cond, [], ◌∷◌, Option, None, Some, refl, ap, inl, inr, nat_lt, nat_le, arith}
use Rattle.std.specs.Ordering.{nat_cmp, is_lt, is_le}
use Rattle.std.specs.List.{filter}
use Rattle.std.proofs.lemmas.Bool.{cases_Bool}
use Rattle.std.proofs.lemmas.Bool.Decides.{nat_tests}
use Rattle.hrana_hub.specs.Maps.{Numbered, first_that}
use Rattle.hrana_hub.specs.State.{Stream}

module _ (test : Stream → Bool) where
  -- the first of these that passes
  abbrev pub first_in : Numbered Stream → Option ℕ
  first_in [] = None
  first_in (entry ∷ entries) = cond (test entry.1) (Some entry.0) (first_in entries)

  -- those that a range leaves out are passed over
  pub first_inside : (passes within : ℕ → Bool) → ((n : ℕ) → passes n ≡ within n) → (streams : Numbered Stream) → first_in (filter (λ entry. passes entry.0) streams) ≡ first_that within test streams
  first_inside passes within same [] = refl
  first_inside passes within same (entry ∷ entries) =
      ap (λ b. first_in (cond b (entry ∷ filter (λ e. passes e.0) entries) (filter (λ e. passes e.0) entries))) (same entry.0) ∙ by (within entry.0) (first_inside passes within same entries)
    where
      by : (b : Bool) → first_in (filter (λ e. passes e.0) entries) ≡ first_that within test entries
          → first_in (cond b (entry ∷ filter (λ e. passes e.0) entries) (filter (λ e. passes e.0) entries)) ≡ cond (b && test entry.1) (Some entry.0) (first_that within test entries)
      by true later = ap (λ o. cond (test entry.1) (Some entry.0) o) later
      by false later = later

  pub first_here : (entry : ℕ × Stream) (entries rest : Numbered Stream) → entries ≡ entry ∷ rest → test entry.1 ≡ true → first_in entries ≡ Some entry.0
  first_here entry entries rest is passes = rw (is, passes) refl

  pub first_later : (entry : ℕ × Stream) (entries rest : Numbered Stream) → entries ≡ entry ∷ rest → test entry.1 ≡ false → first_in rest ≡ first_in entries
  first_later entry entries rest is fails = rw (is, fails) refl

  pub first_none : (entries : Numbered Stream) → entries ≡ [] → first_in entries ≡ None
  first_none entries is = rw is refl

-- ---- the ranges

pub is_above : (after n : ℕ) → (is_lt (nat_cmp after n) && true) ≡ nat_lt after n
is_above after n = elim (cases_Bool (nat_lt after n)) [ inl e ↦ rw e refl | inr e ↦ grind (arith, nat_tests) ]

pub is_from : (from n : ℕ) → (is_le (nat_cmp from n) && true) ≡ nat_le from n
is_from from n = grind (arith, nat_tests)

-- The decimal text of an integer reads as that integer.
use Rattle.std.proofs.Common.{◌≡◌, ℕ, suc, ◌<◌, List, ◌∷◌, false, cond, sym, ◌∙◌, ap, subst, arith, ℤ, pos, negsuc}
use Rattle.std.specs.Prelude.{FitsSigned, neg_ℤ, slice_index, ◌==◌}
use Rattle.std.specs.Int.{w64}
use Rattle.std.specs.Fmt.{decimal, signed_decimal}
use Rattle.std.specs.Str.Parse.{IsNumeral, digits_value, without_leading_sign, without_leading_plus, starts_with_minus, signed_digits_value}
use Rattle.std.proofs.lemmas.Fmt.{decimal_is_IsNumeral}
use Rattle.std.proofs.lemmas.Str.Parse.{digit_at, without_leading_plus_none}
use Rattle.std.proofs.lemmas.Bool.Decides.{nat_tests}
use Rattle.std.proofs.lemmas.Int.{ints}
use Rattle.hrana_value.specs.Tree.{SpellsI64}

is_not : (x y : ℕ) → y < x → (x == y) ≡ false
is_not x y h = grind (arith, nat_tests)

no_minus : (s : List ℕ) → IsNumeral 10 s → starts_with_minus s ≡ false
no_minus s n = let first = digit_at s 0 n.1 n.0 in is_not (slice_index s 0) 45 (omega (arith, first))

no_plus : (s : List ℕ) → IsNumeral 10 s → without_leading_plus s ≡ s
no_plus s n = let first = digit_at s 0 n.1 n.0 in without_leading_plus_none s (λ e. omega (arith, first, e))

no_sign : (s : List ℕ) → IsNumeral 10 s → without_leading_sign s ≡ s
no_sign s n = rw (no_minus s n) (no_plus s n)

no_sign_value : (s : List ℕ) → IsNumeral 10 s → signed_digits_value 10 s ≡ pos (digits_value 10 s)
no_sign_value s n = ap (λ b. cond b (neg_ℤ (pos (digits_value 10 (without_leading_sign s)))) (pos (digits_value 10 (without_leading_sign s)))) (no_minus s n) ∙ ap (λ r. pos (digits_value 10 r)) (no_sign s n)

pub SpellsI64-signed_decimal : (z : ℤ) → FitsSigned w64 z → SpellsI64 (signed_decimal z) z
SpellsI64-signed_decimal (pos n) fits =
    let text = decimal_is_IsNumeral n (omega (arith, ints)) in
    let value : pos n ≡ signed_digits_value 10 (decimal n) = sym (no_sign_value (decimal n) text.0 ∙ ap pos text.1) in
    ((subst (IsNumeral 10) (sym (no_sign (decimal n) text.0)) text.0, subst (FitsSigned w64) value fits), value)
SpellsI64-signed_decimal (negsuc n) fits =
    let text = decimal_is_IsNumeral (suc n) (omega (arith, ints)) in
    let value : negsuc n ≡ signed_digits_value 10 (45 ∷ decimal (suc n)) = sym (ap (λ k. neg_ℤ (pos k)) text.1) in
    ((text.0, subst (FitsSigned w64) value fits), value)

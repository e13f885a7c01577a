-- Quoted runs: doubled quotes made single, step by step.
use Rattle.std.proofs.Common.{◌≡◌, ◌≤◌, ◌<◌, ◌+◌, ◌-◌, ℕ, suc, Bool, true, false, cond, List, [], ◌∷◌, ◌++◌, length, get_or, take, drop, refl, sym, ap, ◌∙◌, arith, append_assoc, eqb-true, IsUtf8}
use Rattle.std.specs.Prelude.{slice_range, ◌==◌, ◌&&◌}
use Rattle.std.specs.Str.{IsCharBoundary}
use Rattle.std.proofs.Math.Seq.{drop-cons}
use Rattle.std.proofs.lemmas.List.Folds.{drop_split}
use Rattle.std.proofs.lemmas.List.{length-drop}
use Rattle.std.proofs.lemmas.Bool.{and_parts}
use Rattle.std.proofs.lemmas.Str.{IsCharBoundary-before_ascii, IsCharBoundary-after_ascii}
use Rattle.keeper_dialect.specs.Terms.{undoubled}
use Rattle.keeper_dialect.proofs.TokenLemmas.{slices_meet, slice_none}

drop_more : (xs : List ℕ) (at : ℕ) → at < length xs → drop at xs ≡ get_or xs at 0 ∷ drop (at + 1) xs
drop_more xs at within = let e : suc at ≡ at + 1 = omega arith in drop-cons xs at 0 within ∙ ap (λ n. get_or xs at 0 ∷ drop n xs) e

slice_one : (xs : List ℕ) (at : ℕ) → at < length xs → slice_range xs at (at + 1) ≡ get_or xs at 0 ∷ []
slice_one xs at within =
    let one : at + 1 - at ≡ 1 = omega arith in
    (λ i. take (one i) (drop_more xs at within i))

pub slice_more : (xs : List ℕ) (from at : ℕ) → from ≤ at → at < length xs → slice_range xs from (at + 1) ≡ slice_range xs from at ++ get_or xs at 0 ∷ []
slice_more xs from at low within = sym (slices_meet xs from at (at + 1) low (omega arith)) ∙ ap (λ ys. slice_range xs from at ++ ys) (slice_one xs at within)

by_test : (test : Bool) (a b c : List ℕ) → test ≡ true → cond test a b ≡ a
by_test true a b c is = refl
by_test false a b c is = cc is

by_other : (test : Bool) (a b c : List ℕ) → test ≡ false → cond test a b ≡ b
by_other true a b c is = cc is
by_other false a b c is = refl

two_more : (xs : List ℕ) (at : ℕ) → at + 1 < length xs → drop at xs ≡ get_or xs at 0 ∷ get_or xs (at + 1) 0 ∷ drop (at + 2) xs
two_more xs at within =
    let e : at + 1 + 1 ≡ at + 2 = omega arith in
    drop_more xs at (omega arith) ∙ ap (λ ys. get_or xs at 0 ∷ ys) (drop_more xs (at + 1) within ∙ ap (λ n. get_or xs (at + 1) 0 ∷ drop n xs) e)

-- a doubled quote
pub undoubled-doubled : (q : ℕ) (xs : List ℕ) (at : ℕ) → at + 1 < length xs → (get_or xs at 0 == q && get_or xs (at + 1) 0 == q) ≡ true → undoubled q (drop at xs) ≡ get_or xs at 0 ∷ undoubled q (drop (at + 2) xs)
undoubled-doubled q xs at within is =
    ap (undoubled q) (two_more xs at within) ∙ by_test (get_or xs at 0 == q && get_or xs (at + 1) 0 == q) _ _ [] is

-- another byte
pub undoubled-single : (q : ℕ) (xs : List ℕ) (at : ℕ) → at + 1 < length xs → (get_or xs at 0 == q && get_or xs (at + 1) 0 == q) ≡ false → undoubled q (drop at xs) ≡ get_or xs at 0 ∷ undoubled q (drop (at + 1) xs)
undoubled-single q xs at within is =
    let e : at + 1 + 1 ≡ at + 2 = omega arith in
    ap (undoubled q) (two_more xs at within) ∙ by_other (get_or xs at 0 == q && get_or xs (at + 1) 0 == q) _ _ [] is ∙ ap (λ ys. get_or xs at 0 ∷ undoubled q ys) (sym (drop_more xs (at + 1) within ∙ ap (λ n. get_or xs (at + 1) 0 ∷ drop n xs) e))

short_same : (q : ℕ) (ys : List ℕ) → length ys ≤ 1 → undoubled q ys ≡ ys
short_same q [] short = refl
short_same q (b ∷ []) short = refl
short_same q (b ∷ c ∷ bs) short = absurd (omega arith)

-- the last byte
pub undoubled-end : (q : ℕ) (xs : List ℕ) (at : ℕ) → length xs ≤ at + 1 → undoubled q (drop at xs) ≡ drop at xs
undoubled-end q xs at short = short_same q (drop at xs) (omega (arith, length-drop at xs))

regroup : (a b c : List ℕ) (x : ℕ) → (a ++ (b ++ x ∷ [])) ++ c ≡ (a ++ b) ++ x ∷ c
regroup a b c x = simp append_assoc

-- what was made so far, at a doubled quote
pub doubled_step : (q : ℕ) (xs : List ℕ) (from at : ℕ) (single next all : List ℕ) → from ≤ at → at + 1 < length xs → (get_or xs at 0 == q && get_or xs (at + 1) 0 == q) ≡ true → next ≡ single ++ slice_range xs from (at + 1) → single ++ slice_range xs from at ++ undoubled q (drop at xs) ≡ all → next ++ slice_range xs (at + 2) (at + 2) ++ undoubled q (drop (at + 2) xs) ≡ all
doubled_step q xs from at single next all low within is pushed before =
    (λ i. (pushed i ++ slice_none xs (at + 2) i) ++ undoubled q (drop (at + 2) xs)) ∙ simp append_assoc (
    ap (λ ys. single ++ (ys ++ undoubled q (drop (at + 2) xs))) (slice_more xs from at low (omega arith)) ∙ sym (append_assoc single (slice_range xs from at ++ get_or xs at 0 ∷ []) (undoubled q (drop (at + 2) xs))) ∙ regroup single (slice_range xs from at) (undoubled q (drop (at + 2) xs)) (get_or xs at 0) ∙ ap (λ ys. (single ++ slice_range xs from at) ++ ys) (sym (undoubled-doubled q xs at within is)) ∙ before)

-- and at another byte
pub single_step : (q : ℕ) (xs : List ℕ) (from at : ℕ) (single all : List ℕ) → from ≤ at → at + 1 < length xs → (get_or xs at 0 == q && get_or xs (at + 1) 0 == q) ≡ false → single ++ slice_range xs from at ++ undoubled q (drop at xs) ≡ all → single ++ slice_range xs from (at + 1) ++ undoubled q (drop (at + 1) xs) ≡ all
single_step q xs from at single all low within is before =
    ap (λ ys. (single ++ ys) ++ undoubled q (drop (at + 1) xs)) (slice_more xs from at low (omega arith)) ∙ regroup single (slice_range xs from at) (undoubled q (drop (at + 1) xs)) (get_or xs at 0) ∙ ap (λ ys. (single ++ slice_range xs from at) ++ ys) (sym (undoubled-single q xs at within is)) ∙ before

-- a quote stands between characters
pub quote_starts : (q : ℕ) (xs : List ℕ) (at : ℕ) → q < 128 → at < length xs → get_or xs at 0 ≡ q → IsCharBoundary xs at
quote_starts q xs at small within is = IsCharBoundary-before_ascii xs at within (omega arith)

pub quote_ends : (q : ℕ) (xs : List ℕ) (at : ℕ) → IsUtf8 xs → q < 128 → at < length xs → get_or xs at 0 ≡ q → IsCharBoundary xs (at + 1)
quote_ends q xs at utf8 small within is = IsCharBoundary-after_ascii xs at utf8 within (omega arith)

pub both_quotes : (q a b : ℕ) → (a == q && b == q) ≡ true → (a ≡ q) × (b ≡ q)
both_quotes q a b is = let parts = and_parts (a == q) (b == q) is in (eqb-true a q parts.0, eqb-true b q parts.1)

-- and at the end
pub last_step : (q : ℕ) (xs : List ℕ) (from at : ℕ) (single rest all : List ℕ) → from ≤ at → length xs ≤ at + 1 → rest ≡ drop from xs → single ++ slice_range xs from at ++ undoubled q (drop at xs) ≡ all → single ++ rest ≡ all
last_step q xs from at single rest all low short is before =
    ap (λ ys. single ++ ys) (is ∙ drop_split xs from at low) ∙ sym (append_assoc single (slice_range xs from at) (drop at xs)) ∙ ap (λ ys. (single ++ slice_range xs from at) ++ ys) (sym (undoubled-end q xs at short)) ∙ before

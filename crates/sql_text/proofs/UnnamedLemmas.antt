-- Parameters that are a `?` and nothing else.
use Rattle.std.proofs.Common.{◌≡◌, ◌<◌, ◌≤◌, ◌+◌, ℕ, suc, zero, max, Bool, true, false, List, [], ◌∷◌, Option, None, Box, refl, sym, ap, ◌∙◌, arith}
use Rattle.std.specs.Prelude.{All, nat_lt, nat_le, ◌==◌, ◌||◌}
use Rattle.std.proofs.lemmas.Bool.{cond-false, or_from, le-ltb, ne_eqb, leb-true, leb-false}
use Rattle.std.proofs.lemmas.Bool.Decides.{nat_tests}
use Rattle.std.proofs.lemmas.List.Elements.{All-nil, All-cons}
use Rattle.std.specs.declared.alloc.Global.{Global}
use Rattle.sql_text.specs.Parameters.{Numbered, greatest_from, greatest, has_number, numbered, inserted, with_number, unnamed_from, unnamed, listed}

greatest_from-unnamed : (m n count : ℕ) → n ≡ m + 1 → greatest_from m (unnamed_from n count) ≡ m + count
greatest_from-unnamed m n zero next = omega arith
greatest_from-unnamed m n (suc count) next =
    let above : max m n ≡ n = omega arith in
    let sum : n + count ≡ m + suc count = omega arith in
    ap (λ k. greatest_from k (unnamed_from (n + 1) count)) above ∙ greatest_from-unnamed n (n + 1) count refl ∙ sum

pub greatest-unnamed : (count : ℕ) → greatest (unnamed count) ≡ count
greatest-unnamed count = let sum : 0 + count ≡ count = omega arith in greatest_from-unnamed 0 1 count refl ∙ sum

has_none : (k n count : ℕ) → k < n → has_number (unnamed_from n count) k ≡ false
has_none k n zero below = refl
has_none k n (suc count) below = or_from (n == k) (has_number (unnamed_from (n + 1) count) k) (ne_eqb n k (λ same. omega (arith, same))) (has_none k (n + 1) count (omega arith))

has_past : (k n count : ℕ) → n + count ≤ k → has_number (unnamed_from n count) k ≡ false
has_past k n zero past = refl
has_past k n (suc count) past = or_from (n == k) (has_number (unnamed_from (n + 1) count) k) (ne_eqb n k (λ same. omega (arith, same))) (has_past k (n + 1) count (omega arith))

has_step : (v : Bool) (k n : ℕ) (ps : List Numbered) → (n == k) ≡ v → (n + 1 ≤ k → has_number ps k ≡ true) → n ≤ k → (v || has_number ps k) ≡ true
has_step true k n ps is later least = refl
has_step false k n ps is later least = later (grind (arith, nat_tests, is))

has_within : (k n count : ℕ) → n ≤ k → k < n + count → has_number (unnamed_from n count) k ≡ true
has_within k n zero least below = absurd (omega arith)
has_within k n (suc count) least below = has_step (n == k) k n (unnamed_from (n + 1) count) refl (λ later. has_within k (n + 1) count later (omega arith)) least

has_number-within : (count k : ℕ) → 0 < k → k ≤ count → has_number (unnamed count) k ≡ true
has_number-within count k least most = has_within k 1 count least (omega arith)

has_number-past : (count k : ℕ) → count < k → has_number (unnamed count) k ≡ false
has_number-past count k past = has_past k 1 count (omega arith)

has_tested : (v : Bool) (count k : ℕ) → nat_le k count ≡ v → 0 < k → v ≡ has_number (unnamed count) k
has_tested true count k is least = sym (has_number-within count k least (leb-true k count is))
has_tested false count k is least = sym (has_number-past count k (leb-false k count is))

pub has_number-unnamed : (count k : ℕ) → 0 < k → nat_le k count ≡ has_number (unnamed count) k
has_number-unnamed count k least = has_tested (nat_le k count) count k refl least

pub has_number-none : (count k : ℕ) → k ≤ 0 → nat_lt 0 k ≡ has_number (unnamed count) k
has_number-none count k none = le-ltb 0 k none ∙ sym (has_none k 1 count (omega arith))

-- without a table the parameters are unnamed
pub listed_none : (count : ℕ) (table : Option (Box (List Numbered) Global)) (ps : List Numbered) → table ≡ None → listed count table ≡ ps → unnamed count ≡ ps
listed_none count table ps is all = ap (listed count) (sym is) ∙ all

unnamed_all : (n count : ℕ) → All (λ p. p.prefix ≡ 63) (unnamed_from n count)
unnamed_all n zero = All-nil _
unnamed_all n (suc count) = All-cons (λ p. p.prefix ≡ 63) (numbered n (63 ∷ [])) (unnamed_from (n + 1) count) refl (unnamed_all (n + 1) count)

inserted_last : (k n count : ℕ) → k ≡ n + count → inserted (numbered k (63 ∷ [])) (unnamed_from n count) ≡ unnamed_from n (suc count)
inserted_last k n zero last = let same : k ≡ n = omega arith in ap (λ i. numbered i (63 ∷ []) ∷ []) same
inserted_last k n (suc count) last =
    let p : Numbered = numbered k (63 ∷ []) in
    let q : Numbered = numbered n (63 ∷ []) in
    let rest : List Numbered = unnamed_from (n + 1) count in
    cond-false (nat_lt k n) (p ∷ q ∷ rest) (q ∷ inserted p rest) (le-ltb k n (omega arith))
    ∙ ap (λ ps. q ∷ ps) (inserted_last k (n + 1) count (omega arith))

-- a `?` takes the number behind the last
pub unnamed_more : (count k : ℕ) (text : List ℕ) → k ≡ count + 1 → text ≡ 63 ∷ [] → unnamed k ≡ with_number (unnamed count) k text
unnamed_more count k text next is =
    let same : k ≡ suc count = omega arith in
    ap unnamed same
    ∙ sym (inserted_last k 1 count (omega arith))
    ∙ sym (cond-false (has_number (unnamed count) k) (unnamed count) (inserted (numbered k (63 ∷ [])) (unnamed count)) (has_number-past count k (omega arith)))
    ∙ ap (with_number (unnamed count) k) (sym is)

pub unnamed_all_unnamed : (count : ℕ) → All (λ p. p.prefix ≡ 63) (unnamed count)
unnamed_all_unnamed count = unnamed_all 1 count

-- What an update makes of rows is what it makes of those that its condition may choose.
use Rattle.std.proofs.Common.{◌≡◌, ◌+◌, Bool, true, cond, ℕ, length, List, [], ◌∷◌, ◌++◌, Option, None, Some, Result, Ok, Err, refl, sym, ap, subst, ◌∙◌, zero-add, add-zero, length-append, arith}
use Rattle.std.proofs.lemmas.Bool.{and_parts}
use Rattle.std.specs.List.{list_all}
use Rattle.keeper_formulas.specs.declared.fail.Refusal.{Refusal}
use Rattle.keeper_formulas.specs.declared.formulas.Equation.{Equation}
use Rattle.keeper_rows.specs.declared.row.Row.{Row}
use Rattle.keeper_formulas.specs.Each.{and_then, map_ok, each, somes, Refuses}
use Rattle.hrana_value.specs.declared.value.Value.{Value}
use Rattle.keeper_formulas.specs.declared.fail.Fail.{Fail}
use Rattle.keeper_formulas.specs.declared.fail.Fail.TheVariants.{Refused, NoMemory}
use Rattle.keeper_formulas.specs.declared.fail.Refusal.TheVariants.{Constraint}
use Rattle.keeper_rows.specs.Constraint.{keeps_key}
use Rattle.keeper_formulas.specs.Formulas.{assigned}
use Rattle.keeper_rows.specs.Spans.{is_passed}
use Rattle.keeper_rows.specs.Chosen.{on_chosen}
use Rattle.memory_keeper.specs.Tables.{renewal, renewed_row, renewed, all_renewed, all_updated}
use Rattle.keeper_formulas.proofs.EachLemmas.{joined, each-append, map_ok-Ok, refuses_then}
use Rattle.keeper_rows.proofs.NarrowLemmas.{passed}
use Rattle.memory_keeper.proofs.RowLemmas.{length-each}

passed_renewal : (condition : Option Equation) (sets : List Equation) (row : Row) → is_passed condition row ≡ true → renewal condition sets row ≡ Ok None
passed_renewal condition sets row p = ap (λ b. on_chosen b (assigned row.values row.values sets)) (passed condition row p)

-- rows that aren't chosen stay
renewed_passed : (condition : Option Equation) (sets : List Equation) (rows : List Row) → list_all (is_passed condition) rows ≡ true → all_renewed condition sets rows ≡ Ok (rows, 0)
renewed_passed condition sets rows p =
    ap (map_ok (λ news. (renewed rows news, length (somes news)))) (each_none rows p)
    ∙ ap (λ l. Ok (l, length (somes (nones rows)))) (renewed_nones rows)
    ∙ ap (λ n. Ok (rows, n)) (ap length (somes_nones rows))
  where
    nones : List Row → List (Option (List Value))
    nones [] = []
    nones (row ∷ rows) = None ∷ nones rows

    each_none : (rows : List Row) → list_all (is_passed condition) rows ≡ true → each (renewal condition sets) rows ≡ Ok (nones rows)
    each_none [] p = refl
    each_none (row ∷ rows) p =
        let q = and_parts (is_passed condition row) (list_all (is_passed condition) rows) p in
        ap (λ r. and_then r (λ y. map_ok (λ ys. y ∷ ys) (each (renewal condition sets) rows))) (passed_renewal condition sets row q.0)
        ∙ ap (map_ok (λ ys. None ∷ ys)) (each_none rows q.1)

    renewed_nones : (rows : List Row) → renewed rows (nones rows) ≡ rows
    renewed_nones [] = refl
    renewed_nones (row ∷ rows) = ap (λ l. row ∷ l) (renewed_nones rows)

    somes_nones : (rows : List Row) → somes (nones rows) ≡ []
    somes_nones [] = refl
    somes_nones (row ∷ rows) = somes_nones rows

-- new rows behind others
renewed_both : (condition : Option Equation) (sets : List Equation) (xs ys made more : List Row) (m n : ℕ) → all_renewed condition sets xs ≡ Ok (made, m) → all_renewed condition sets ys ≡ Ok (more, n) → all_renewed condition sets (xs ++ ys) ≡ Ok (made ++ more, m + n)
renewed_both condition sets xs ys made more m n p q =
    let f = renewal condition sets in
    let a = map_ok-Ok (λ news. (renewed xs news, length (somes news))) (each f xs) (made, m) p in
    let b = map_ok-Ok (λ news. (renewed ys news, length (somes news))) (each f ys) (more, n) q in
    ap (map_ok (λ news. (renewed (xs ++ ys) news, length (somes news)))) (each-append f xs ys ∙ ap (λ r. joined r (each f ys)) a.1 ∙ ap (joined (Ok a.0)) b.1)
    ∙ ap (λ l. Ok (l, length (somes (a.0 ++ b.0)))) (renewed-append xs ys a.0 b.0 (length-each f xs a.0 a.1) ∙ ap (λ l. l ++ renewed ys b.0) (ap (λ (r : List Row × ℕ). r.0) a.2) ∙ ap (λ l. made ++ l) (ap (λ (r : List Row × ℕ). r.0) b.2))
    ∙ ap (λ k. Ok (made ++ more, k)) (ap length (somes-append a.0 b.0) ∙ length-append (somes a.0) (somes b.0) ∙ ap (λ k. k + length (somes b.0)) (ap (λ (r : List Row × ℕ). r.1) a.2) ∙ ap (λ k. m + k) (ap (λ (r : List Row × ℕ). r.1) b.2))
  where
    renewed-append : (xs ys : List Row) (news more : List (Option (List Value))) → length news ≡ length xs → renewed (xs ++ ys) (news ++ more) ≡ renewed xs news ++ renewed ys more
    renewed-append [] ys [] more h = refl
    renewed-append [] ys (n ∷ news) more h = absurd (omega arith)
    renewed-append (x ∷ xs) ys [] more h = absurd (omega arith)
    renewed-append (x ∷ xs) ys (n ∷ news) more h = ap (λ l. renewed_row x n ∷ l) (renewed-append xs ys news more (omega arith))

    somes-append : {A : Type 0} (xs ys : List (Option A)) → somes (xs ++ ys) ≡ somes xs ++ somes ys
    somes-append [] ys = refl
    somes-append (None ∷ xs) ys = somes-append xs ys
    somes-append (Some x ∷ xs) ys = ap (λ l. x ∷ l) (somes-append xs ys)

-- an update makes new rows of those that its condition may choose, and the others stay
renewed_narrowed : (condition : Option Equation) (sets : List Equation) (before some after made : List Row) (n : ℕ) → list_all (is_passed condition) before ≡ true → list_all (is_passed condition) after ≡ true → all_renewed condition sets some ≡ Ok (made, n) → all_renewed condition sets (before ++ some ++ after) ≡ Ok (before ++ made ++ after, n)
renewed_narrowed condition sets before some after made n p q is =
    renewed_both condition sets (before ++ some) after (before ++ made) after n 0
    (renewed_both condition sets before some before made 0 n (renewed_passed condition sets before p) is ∙ ap (λ k. Ok (before ++ made, k)) (zero-add n))
    (renewed_passed condition sets after q)
    ∙ ap (λ k. Ok (before ++ made ++ after, k)) (add-zero n)

refuses_narrowed : (condition : Option Equation) (sets : List Equation) (before some after : List Row) (fail : Fail) → list_all (is_passed condition) before ≡ true → Refuses (all_renewed condition sets some) fail → Refuses (all_renewed condition sets (before ++ some ++ after)) fail
refuses_narrowed condition sets before some after NoMemory p h = tt
refuses_narrowed condition sets before some after (Refused refusal) p h =
    let f = renewal condition sets in
    let a = map_ok-Ok (λ news. (renewed before news, length (somes news))) (each f before) (before, 0) (renewed_passed condition sets before p) in
    let e = map_ok-Err (λ news. (renewed some news, length (somes news))) (each f some) refusal h in
    ap (map_ok (λ news. (renewed (before ++ some ++ after) news, length (somes news))))
    (each-append f (before ++ some) after
    ∙ ap (λ r. joined r (each f after)) (each-append f before some ∙ ap (λ r. joined r (each f some)) a.1 ∙ ap (joined (Ok a.0)) e)
    ∙ refl)
  where
    map_ok-Err : {A B : Type 0} (g : A → B) (r : Result A Refusal) (refusal : Refusal) → map_ok g r ≡ Err refusal → r ≡ Err refusal
    map_ok-Err g (Ok x) refusal p = absurd (cc)
    map_ok-Err g (Err other) refusal p = let e : other ≡ refusal = cc in ap (λ r. Err r) e

-- where the others stay, the new rows are kept by the constraint of them all
pub updated_narrowed : (key : Option ℕ) (condition : Option Equation) (sets : List Equation) (before some after made : List Row) (n : ℕ) (kept : Bool) → list_all (is_passed condition) before ≡ true → list_all (is_passed condition) after ≡ true → all_renewed condition sets some ≡ Ok (made, n) → kept ≡ keeps_key key [] (before ++ made ++ after) → all_updated key condition sets (before ++ some ++ after) ≡ cond kept (Ok (before ++ made ++ after, n)) (Err Constraint)
updated_narrowed key condition sets before some after made n kept p q is keeps =
    ap (λ r. and_then r (λ new. cond (keeps_key key [] new.0) (Ok new) (Err Constraint))) (renewed_narrowed condition sets before some after made n p q is)
    ∙ ap (λ b. cond b (Ok (before ++ made ++ after, n)) (Err Constraint)) (sym keeps)

pub refuses_updated : (key : Option ℕ) (condition : Option Equation) (sets : List Equation) (rows before some after : List Row) (fail : Fail) → rows ≡ before ++ some ++ after → list_all (is_passed condition) before ≡ true → Refuses (all_renewed condition sets some) fail → Refuses (all_updated key condition sets rows) fail
refuses_updated key condition sets rows before some after fail whole p h =
    subst (λ l. Refuses (all_updated key condition sets l) fail) (sym whole) (refuses_then (all_renewed condition sets (before ++ some ++ after)) _ fail (refuses_narrowed condition sets before some after fail p h))

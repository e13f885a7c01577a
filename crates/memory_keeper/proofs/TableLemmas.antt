-- Lemmas on rows that are added to a table.
use Rattle.std.proofs.Common.{◌≡◌, ℕ, ◌+◌, ◌<◌, ◌≤◌, List, [], ◌∷◌, ◌++◌, length, get_or, take, drop, Option, Some, None, Result, Ok, Err, refl, sym, ap, subst, ◌∙◌, append_assoc, length-append, add_assoc, add_comm, add-one, suc, zero, arith}
use Rattle.std.specs.List.{range_with_len, zip}
use Rattle.std.proofs.lemmas.List.{take_more, drop_more, get_or_default}
use Rattle.std.proofs.lemmas.Slice.Zip.{get_or-zip, length-zip}
use Rattle.std.proofs.lemmas.Bool.{eq-eqb}
use Rattle.keeper_formulas.specs.declared.fail.Refusal.{Refusal}
use Rattle.hrana_value.specs.declared.value.Value.{Value}
use Rattle.keeper_dialect.specs.declared.query.Expr.{Expr}
use Rattle.keeper_formulas.specs.declared.fail.Fail.{Fail}
use Rattle.keeper_formulas.specs.declared.fail.Fail.TheVariants.{Refused, NoMemory}
use Rattle.keeper_formulas.specs.declared.formulas.Equation.{Equation}
use Rattle.memory_keeper.specs.declared.tables.Table.{Table}
use Rattle.keeper_formulas.specs.Each.{and_then, each, Refuses}
use Rattle.memory_keeper.specs.Tables.{tuple_equation, tuple_of, tuple_added, tuples_added}

-- ---- places

range_with_len-suc : (a n : ℕ) → range_with_len a (suc n) ≡ range_with_len a n ++ (a + n) ∷ []
range_with_len-suc a zero = let e : a ≡ a + 0 = omega arith in ap (λ k. k ∷ []) e
range_with_len-suc a (suc n) =
    let e : (a + 1) + n ≡ a + suc n = omega arith in
    ap (λ l. a ∷ l) (range_with_len-suc (a + 1) n ∙ ap (λ k. range_with_len (a + 1) n ++ k ∷ []) e)

pub range_with_len_more : (a n : ℕ) → range_with_len a (n + 1) ≡ range_with_len a n ++ (a + n) ∷ []
range_with_len_more a n = ap (range_with_len a) (add-one n) ∙ range_with_len-suc a n

-- ---- tuples

-- a tuple with an expression for each place
pub tuple_of_even : (bound : List Value) (places : List ℕ) (exprs : List Expr) → length places ≡ length exprs → tuple_of bound places exprs ≡ each (tuple_equation bound) (zip places exprs)
tuple_of_even bound places exprs h = rw (eq-eqb (length places) (length exprs) h)

pub pair_at : (places : List ℕ) (exprs : List Expr) (i : ℕ) (expr : Expr) → i < length places → i < length exprs → expr ≡ get_or exprs i expr → (get_or places i 0, expr) ≡ get_or (zip places exprs) i (get_or places i 0, expr)
pair_at places exprs i expr h k is =
    ap (λ p. (p, expr)) (get_or_default places i 0 (get_or places i 0) h) ∙ ap (λ e. (get_or places i (get_or places i 0), e)) is ∙ sym (get_or-zip places exprs i (get_or places i 0, expr) h k)

pub length_of_zip : (places : List ℕ) (exprs : List Expr) → length places ≡ length exprs → length (zip places exprs) ≡ length exprs
length_of_zip places exprs h = length-zip places exprs ∙ omega arith

-- ---- rows

tuples_added-append : (table : Table) (xs ys : List (List Equation)) → tuples_added table (xs ++ ys) ≡ and_then (tuples_added table xs) (λ next. tuples_added next ys)
tuples_added-append table [] ys = refl
tuples_added-append table (x ∷ xs) ys =
    elim (tuple_added table x) as (λ r. and_then r (λ next. tuples_added next (xs ++ ys)) ≡ and_then (and_then r (λ next. tuples_added next xs)) (λ next. tuples_added next ys))
    [ Ok next ↦ tuples_added-append next xs ys | Err refusal ↦ refl ]

one_added : (table : Table) (x : List Equation) (ys : List (List Equation)) (r : Result Table Refusal) → tuple_added table x ≡ r → tuples_added table (x ∷ ys) ≡ and_then r (λ next. tuples_added next ys)
one_added table x ys r p = ap (λ r. and_then r (λ next. tuples_added next ys)) p

pub tuples_added_more : (table : Table) (xs : List (List Equation)) (i : ℕ) (x : List Equation) (made next : Table) → tuples_added table (take i xs) ≡ Ok made → i < length xs → x ≡ get_or xs i x → tuple_added made x ≡ Ok next → tuples_added table (take (i + 1) xs) ≡ Ok next
tuples_added_more table xs i x made next done h is p =
    let whole : take (i + 1) xs ≡ take i xs ++ x ∷ [] = take_more xs i x h ∙ ap (λ z. take i xs ++ z ∷ []) (sym is) in
    ap (tuples_added table) whole ∙ tuples_added-append table (take i xs) (x ∷ []) ∙ ap (λ r. and_then r (λ next. tuples_added next (x ∷ []))) done ∙ one_added made x [] (Ok next) p

tuples_added_refused : (table : Table) (xs : List (List Equation)) (i : ℕ) (x : List Equation) (made : Table) (refusal : Refusal) → tuples_added table (take i xs) ≡ Ok made → i < length xs → x ≡ get_or xs i x → tuple_added made x ≡ Err refusal → tuples_added table xs ≡ Err refusal
tuples_added_refused table xs i x made refusal done h is p =
    let rest = drop (i + 1) xs in
    let whole : xs ≡ take i xs ++ x ∷ rest = sym (Rattle.std.proofs.Common.take-append-drop i xs) ∙ ap (λ r. take i xs ++ r) (drop_more xs i x h ∙ ap (λ z. z ∷ rest) (sym is)) in
    ap (tuples_added table) whole ∙ tuples_added-append table (take i xs) (x ∷ rest) ∙ ap (λ r. and_then r (λ next. tuples_added next (x ∷ rest))) done ∙ one_added made x rest (Err refusal) p

pub refuses_tuples : (table : Table) (xs : List (List Equation)) (i : ℕ) (x : List Equation) (made : Table) (fail : Fail) → tuples_added table (take i xs) ≡ Ok made → i < length xs → x ≡ get_or xs i x → Refuses (tuple_added made x) fail → Refuses (tuples_added table xs) fail
refuses_tuples table xs i x made (Refused refusal) done h is p = tuples_added_refused table xs i x made refusal done h is p
refuses_tuples table xs i x made NoMemory done h is p = tt

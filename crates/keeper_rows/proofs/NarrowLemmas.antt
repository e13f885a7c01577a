-- What is shown of rows is what is shown of those that a condition may choose.
use Rattle.std.proofs.Common.{◌≡◌, ◌+◌, Bool, true, false, cond, not, ◌&&◌, true≢false, ℕ, List, [], ◌∷◌, ◌++◌, append-nil, take, drop, get_or, Option, None, Some, is_some, Result, Ok, Err, refl, sym, ap, ◌∙◌, arith}
use Rattle.std.proofs.lemmas.Bool.{and_parts}
use Rattle.std.proofs.lemmas.List.Sums.{sum_by-cons}
use Rattle.std.proofs.lemmas.List.{take-append-drop, drop_more}
use Rattle.std.proofs.lemmas.List.Elements.{filter-append}
use Rattle.std.specs.Prelude.{count_by, filter, pos}
use Rattle.std.specs.List.{list_any, list_all}
use Rattle.hrana_value.specs.declared.value.Value.{Value}
use Rattle.hrana_value.specs.declared.value.Value.TheVariants.{Integer}
use Rattle.keeper_formulas.specs.declared.fail.Refusal.{Refusal}
use Rattle.keeper_formulas.specs.declared.formulas.Equation.{Equation}
use Rattle.keeper_formulas.specs.declared.formulas.Picture.{Picture}
use Rattle.keeper_formulas.specs.declared.formulas.Picture.TheVariants as picture
use Rattle.keeper_formulas.specs.Each.{and_then, map_ok, each, somes}
use Rattle.keeper_formulas.specs.Formulas.{names_no_column, formula_value}
use Rattle.keeper_formulas.specs.Values.{value_at, is_equal}
use Rattle.keeper_formulas.proofs.FormulaLemmas.{constant_formula}
use Rattle.keeper_rows.specs.declared.row.Row.{Row}
use Rattle.keeper_rows.specs.declared.spans.PlaceSpan.{PlaceSpan}
use Rattle.keeper_rows.specs.Spans.{Encloses, is_ok_false, is_passed, Spans}
use Rattle.keeper_rows.specs.Chosen.{is_chosen, on_chosen, shown_values, row_shown, chosen_rows, chosen_count, shown_rows, is_ok_true, stays}
use Rattle.keeper_rows.proofs.KeyLemmas.{neither}

-- g gathers what the steps give, one after another, and nothing of what a step gives where the test passes
module _ {A B C : Type 0} (g : List B → C) (step : B → C → C) (gathers : (y : B) (ys : List B) → g (y ∷ ys) ≡ step y (g ys)) (f : A → Result B Refusal) (test : A → Bool) (nothing : B) (passes : (x : A) → test x ≡ true → f x ≡ Ok nothing) (skips : (c : C) → step nothing c ≡ c) where
  gathered : (y : B) (r : Result (List B) Refusal) → map_ok g (map_ok (λ ys. y ∷ ys) r) ≡ map_ok (step y) (map_ok g r)
  gathered y (Ok ys) = ap (λ c. Ok c) (gathers y ys)
  gathered y (Err refusal) = refl

  stepped : (r : Result B Refusal) (s : Result (List B) Refusal) → map_ok g (and_then r (λ y. map_ok (λ ys. y ∷ ys) s)) ≡ and_then r (λ y. map_ok (step y) (map_ok g s))
  stepped (Ok y) s = gathered y s
  stepped (Err refusal) s = refl

  skipped : (r : Result C Refusal) → map_ok (step nothing) r ≡ r
  skipped (Ok c) = ap (λ c. Ok c) (skips c)
  skipped (Err refusal) = refl

  one : (x : A) (xs : List A) → map_ok g (each f (x ∷ xs)) ≡ and_then (f x) (λ y. map_ok (step y) (map_ok g (each f xs)))
  one x xs = stepped (f x) (each f xs)

  behind : (before xs : List A) → list_all test before ≡ true → map_ok g (each f (before ++ xs)) ≡ map_ok g (each f xs)
  behind [] xs p = refl
  behind (x ∷ before) xs p =
      let q = and_parts (test x) (list_all test before) p in
      one x (before ++ xs)
      ∙ ap (λ r. and_then r (λ y. map_ok (step y) (map_ok g (each f (before ++ xs))))) (passes x q.0)
      ∙ skipped (map_ok g (each f (before ++ xs)))
      ∙ behind before xs q.1

  ahead : (xs after : List A) → list_all test after ≡ true → map_ok g (each f (xs ++ after)) ≡ map_ok g (each f xs)
  ahead [] after p = ap (λ l. map_ok g (each f l)) (sym (append-nil after)) ∙ behind after [] p
  ahead (x ∷ xs) after p =
      one x (xs ++ after)
      ∙ ap (λ r. and_then (f x) (λ y. map_ok (step y) r)) (ahead xs after p)
      ∙ sym (one x xs)

  pub narrowed : (before xs after : List A) → list_all test before ≡ true → list_all test after ≡ true → map_ok g (each f (before ++ xs ++ after)) ≡ map_ok g (each f xs)
  narrowed before xs after p q = ahead (before ++ xs) after q ∙ behind before xs p

somes-step : {A : Type 0} (x : Option A) (xs : List (Option A)) → somes (x ∷ xs) ≡ somes (x ∷ []) ++ somes xs
somes-step None xs = refl
somes-step (Some x) xs = refl

unshown : (picture : Picture) (condition : Option Equation) (row : Row) → is_chosen condition row ≡ Ok false → row_shown picture condition row ≡ Ok None
unshown picture condition row p = ap (λ b. on_chosen b (shown_values picture row.values)) p

pub passed : (condition : Option Equation) (row : Row) → is_passed condition row ≡ true → is_chosen condition row ≡ Ok false
passed condition row = refused (is_chosen condition row)
  where
    refused : (r : Result Bool Refusal) → is_ok_false r ≡ true → r ≡ Ok false
    refused (Ok true) p = absurd (true≢false (sym p))
    refused (Ok false) p = refl
    refused (Err refusal) p = absurd (true≢false (sym p))

rows_narrowed : (picture : Picture) (condition : Option Equation) (before some after : List Row) → list_all (is_passed condition) before ≡ true → list_all (is_passed condition) after ≡ true → chosen_rows picture condition (before ++ some ++ after) ≡ chosen_rows picture condition some
rows_narrowed picture condition before some after p q =
    narrowed somes (λ x xs. somes (x ∷ []) ++ xs) somes-step (row_shown picture condition) (is_passed condition) None (λ row passes. unshown picture condition row (passed condition row passes)) (λ xs. refl) before some after p q

pub count_narrowed : (condition : Option Equation) (before some after : List Row) → list_all (is_passed condition) before ≡ true → list_all (is_passed condition) after ≡ true → chosen_count condition (before ++ some ++ after) ≡ chosen_count condition some
count_narrowed condition before some after p q =
    narrowed (count_by (λ b. b)) (λ b n. cond b 1 0 + n) (λ b bs. sum_by-cons (λ c. cond c 1 0) b bs) (is_chosen condition) (is_passed condition) false (passed condition) (λ n. omega arith) before some after p q

pub shown_narrowed : (condition : Option Equation) (before some after : List Row) → list_all (is_passed condition) before ≡ true → list_all (is_passed condition) after ≡ true → (picture : Picture) → shown_rows picture condition (before ++ some ++ after) ≡ shown_rows picture condition some
shown_narrowed condition before some after p q picture.Count = ap (map_ok (λ count. (Integer (pos count) ∷ []) ∷ [])) (count_narrowed condition before some after p q)
shown_narrowed condition before some after p q picture.All = rows_narrowed picture.All condition before some after p q
shown_narrowed condition before some after p q (picture.List formulas) = rows_narrowed (picture.List formulas) condition before some after p q

-- ---- a delete

count_step : (r : Result Bool Refusal) (s : Result (List Bool) Refusal) → map_ok (count_by (λ b. b)) (and_then r (λ y. map_ok (λ ys. y ∷ ys) s)) ≡ and_then r (λ b. map_ok (λ n. cond b 1 0 + n) (map_ok (count_by (λ b. b)) s))
count_step (Ok b) (Ok bs) = ap (λ n. Ok n) (sum_by-cons (λ c. cond c 1 0) b bs)
count_step (Ok b) (Err refusal) = refl
count_step (Err refusal) s = refl

zero_step : (r : Result Bool Refusal) (s : Result ℕ Refusal) → and_then r (λ b. map_ok (λ n. cond b 1 0 + n) s) ≡ Ok 0 → (r ≡ Ok false) × (s ≡ Ok 0)
zero_step (Ok true) (Ok n) p = let e : 1 + n ≡ 0 = cc in absurd (omega arith)
zero_step (Ok false) (Ok n) p = let e : 0 + n ≡ 0 = cc in (refl, let z : n ≡ 0 = omega arith in ap (λ k. Ok k) z)
zero_step (Ok b) (Err refusal) p = absurd (cc)
zero_step (Err refusal) s p = absurd (cc)

-- where no row is chosen, all stay
pub none_chosen : (condition : Option Equation) (rows : List Row) → chosen_count condition rows ≡ Ok 0 → filter (stays condition) rows ≡ rows
none_chosen condition [] p = refl
none_chosen condition (row ∷ rows) p =
    let q = zero_step (is_chosen condition row) (chosen_count condition rows) (sym (count_step (is_chosen condition row) (each (is_chosen condition) rows)) ∙ p) in
    ap (λ r. cond (not (is_ok_true r)) (row ∷ filter (stays condition) rows) (filter (stays condition) rows)) q.0 ∙ ap (λ l. row ∷ l) (none_chosen condition rows q.1)

pub is_none_from : (condition : Option Equation) → is_some condition ≡ false → condition ≡ None
is_none_from None p = refl
is_none_from (Some equation) p = absurd (true≢false p)

-- without a condition none stays
pub all_removed : (condition : Option Equation) (rows : List Row) → condition ≡ None → filter (stays condition) rows ≡ []
all_removed condition [] none = refl
all_removed condition (row ∷ rows) none = ap (λ o. cond (stays o row) (row ∷ filter (stays condition) rows) (filter (stays condition) rows)) none ∙ all_removed condition rows none

passed_stay : (condition : Option Equation) (rows : List Row) → list_all (is_passed condition) rows ≡ true → filter (stays condition) rows ≡ rows
passed_stay condition [] p = refl
passed_stay condition (row ∷ rows) p =
    let q = and_parts (is_passed condition row) (list_all (is_passed condition) rows) p in
    ap (λ r. cond (not (is_ok_true r)) (row ∷ filter (stays condition) rows) (filter (stays condition) rows)) (passed condition row q.0) ∙ ap (λ l. row ∷ l) (passed_stay condition rows q.1)

-- what is left of rows of which one alone may be chosen
pub only_removed : (condition : Option Equation) (rows : List Row) (span : PlaceSpan) (row : Row) → Spans condition span rows → span.from + 1 ≡ span.to → row ≡ get_or rows span.from row → filter (stays condition) rows ≡ take span.from rows ++ cond (stays condition row) (row ∷ drop (span.from + 1) rows) (drop (span.from + 1) rows)
only_removed condition rows span row spans one is =
    let test = stays condition in
    let from = span.from in
    let within = spans.within in
    let ahead = passed_stay condition (take from rows) spans.before in
    let behind = passed_stay condition (drop (from + 1) rows) (ap (λ n. list_all (is_passed condition) (drop n rows)) one ∙ spans.behind) in
    ap (filter test) (sym (take-append-drop from rows) ∙ ap (λ l. take from rows ++ l) (drop_more rows from row (omega (arith, one, within)) ∙ ap (λ r. r ∷ drop (from + 1) rows) (sym is)))
    ∙ filter-append test (take from rows) (row ∷ drop (from + 1) rows)
    ∙ ap (λ l. l ++ cond (test row) (row ∷ filter test (drop (from + 1) rows)) (filter test (drop (from + 1) rows))) ahead
    ∙ ap (λ l. take from rows ++ cond (test row) (row ∷ l) l) behind

-- ---- where the condition is a test

passes_unmet : (condition : Option Equation) (test : Row → Bool) → ((row : Row) → is_chosen condition row ≡ Ok (test row)) → (rows : List Row) → list_any test rows ≡ false → list_all (is_passed condition) rows ≡ true
passes_unmet condition test chosen [] p = refl
passes_unmet condition test chosen (row ∷ rows) p =
    let q = neither (test row) (list_any test rows) p in
    ap (λ r. is_ok_false r && list_all (is_passed condition) rows) (chosen row ∙ ap (λ b. Ok b) q.0) ∙ passes_unmet condition test chosen rows q.1

pub spans_by_test : (condition : Option Equation) (test : Row → Bool) (span : PlaceSpan) (rows : List Row) → ((row : Row) → is_chosen condition row ≡ Ok (test row)) → Encloses test span rows → Spans condition span rows
spans_by_test condition test span rows chosen encloses = record {
  ordered = encloses.ordered;
  within = encloses.within;
  before = passes_unmet condition test chosen (take span.from rows) encloses.before;
  behind = passes_unmet condition test chosen (drop span.to rows) encloses.behind;
}

-- a condition by an expression with one value on all rows
pub chosen_by_value : (equation : Equation) (place : ℕ) (value : Value) → equation.place ≡ place → names_no_column equation.formula ≡ true → formula_value [] equation.formula ≡ Ok value → (row : Row) → is_chosen (Some equation) row ≡ Ok (is_equal (value_at row.values place) value)
chosen_by_value equation place value at constant is row =
    ap (map_ok (is_equal (value_at row.values equation.place))) (constant_formula row.values [] equation.formula constant ∙ is)
    ∙ ap (λ p. Ok (is_equal (value_at row.values p) value)) at

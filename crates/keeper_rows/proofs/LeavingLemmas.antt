-- Lemmas on rows that leave an index.
use Rattle.std.proofs.Common.{◌≡◌, ℕ, ◌+◌, ◌-◌, ◌<◌, ◌≤◌, true≢false, length-append, arith, Bool, true, false, cond, not, ◌&&◌, is_some, length, get_or, take, drop, filter, List, [], ◌∷◌, ◌++◌, Option, Some, None, suc, zero, refl, sym, ap, subst, ◌∙◌, ⊎_elim, option_and_then, slice_get}
use Rattle.std.specs.List.{list_all}
use Rattle.std.proofs.lemmas.Bool.{cases_Bool, cases_lt, cases_eq, cond-true, cond-false, and_parts}
use Rattle.std.proofs.lemmas.List.{length-take-le, length-drop, get_or-take, get_or-drop, get_or_append_left, get_or-append-add}
use Rattle.hrana_value.specs.declared.value.Value.{Value}
use Rattle.hrana_value.specs.declared.value.Value.TheVariants.{Null}
use Rattle.keeper_formulas.specs.declared.formulas.Equation.{Equation}
use Rattle.keeper_formulas.specs.Values.{is_null, is_equal}
use Rattle.keeper_rows.specs.declared.keys.KeyIndex.{KeyIndex}
use Rattle.keeper_rows.specs.declared.row.Row.{Row}
use Rattle.keeper_rows.specs.declared.spans.PlaceSpan.{PlaceSpan}
use Rattle.keeper_rows.specs.Chosen.{is_ok_true, stays}
use Rattle.keeper_rows.specs.Constraint.{keeps_key}
use Rattle.keeper_rows.specs.Keys.{rowid_of_key, keys_of, keys_at, HasKeys, Indexes, Leaves, changed_up_to}
use Rattle.keeper_rows.specs.Spans.{is_passed, Spans}
use Rattle.keeper_rows.proofs.KeyLemmas.{equal_not_null, keys_sound}
use Rattle.keeper_rows.proofs.IndexLemmas.{keys_same, vacated_at, some_place, no_place, place_within, indexed, keys_at_past}
use Rattle.keeper_rows.proofs.NarrowLemmas.{passed}
use Rattle.keeper_rows.proofs.RekeyLemmas.{changed_below, changed_above, changed_other, moves_replaced}

-- ---- one row, and all

pub leaves_one : (index new_index : KeyIndex) (old left : ℕ → Value) (p : ℕ) (staying : Bool) (was : Value) → old p ≡ was → left p ≡ cond staying (old p) Null → ((key : Value) → rowid_of_key new_index key ≡ cond (not staying && is_equal was key) None (rowid_of_key index key)) → HasKeys index (changed_up_to p old left) → HasKeys new_index (changed_up_to (p + 1) old left)
leaves_one index new_index old left p true was was_at left_at takes has =
    keys_same index new_index (changed_up_to p old left) (changed_up_to (p + 1) old left)
    (λ q. ⊎_elim
    (λ e. subst (λ n. changed_up_to (p + 1) old left n ≡ changed_up_to p old left n) (sym e) (changed_below (p + 1) old left p (omega arith) ∙ left_at ∙ sym (changed_above p old left p (omega arith))))
    (changed_other p old left q)
    (cases_eq q p))
    takes has
leaves_one index new_index old left p false was was_at left_at takes has =
    vacated_at index new_index (changed_up_to p old left) (changed_up_to (p + 1) old left) p (changed_other p old left) (changed_below (p + 1) old left p (omega arith) ∙ left_at)
    (λ key. takes key ∙ ap (λ v. cond (is_equal v key) None (rowid_of_key index key)) (sym (changed_above p old left p (omega arith) ∙ was_at)))
    has

pub leaves_start : (index : KeyIndex) (condition : Option Equation) (column from : ℕ) (rows : List Row) (old left : ℕ → Value) → Leaves condition column from rows old left → HasKeys index old → HasKeys index (changed_up_to (from + 0) old left)
leaves_start index condition column from rows old left leaves has =
    keys_same index index old (changed_up_to (from + 0) old left)
    (λ q.
    ⊎_elim
    (λ less. changed_below (from + 0) old left q (omega (arith, less)) ∙ leaves.ahead q less)
    (λ most. changed_above (from + 0) old left q (omega (arith, most)))
    (cases_lt q from))
    (λ key. refl)
    has

pub leaves_end : (index : KeyIndex) (condition : Option Equation) (column from count : ℕ) (rows : List Row) (old left : ℕ → Value) → Leaves condition column from rows old left → length rows ≤ count → HasKeys index (changed_up_to (from + count) old left) → HasKeys index left
leaves_end index condition column from count rows old left leaves all has =
    keys_same index index (changed_up_to (from + count) old left) left
    (λ q.
    ⊎_elim
    (λ less. sym (changed_below (from + count) old left q less))
    (λ most. leaves.behind q (omega (arith, most, all)) ∙ sym (changed_above (from + count) old left q most))
    (cases_lt q (from + count)))
    (λ key. refl)
    has

-- ---- the places of the rows that pass a test

-- the new places of rows, from one on: none of a row that fails the test
abbrev new_places : (Row → Bool) → ℕ → List Row → List (Option ℕ)
new_places test next [] = []
new_places test next (row ∷ rows) = cond (test row) (Some next ∷ new_places test (next + 1) rows) (None ∷ new_places test next rows)

at_places : List (Option ℕ) → ℕ → Option ℕ
at_places places place = option_and_then (λ new. new) (slice_get places place)

-- a row that stays has its key at its new place
stands_at : (column : ℕ) (test : Row → Bool) (n : ℕ) (rows : List Row) (p q : ℕ) → at_places (new_places test n rows) p ≡ Some q → (j : ℕ) × (q ≡ n + j) × (keys_at column (filter test rows) j ≡ keys_at column rows p)
unfolding at_places
stands_at column test n [] p q e = absurd (no_place q e)
stands_at column test n (row ∷ rows) p q e = step (λ m k h. stands_at column test m rows k q h) (test row) p e
  where
    step : ((m k : ℕ) → at_places (new_places test m rows) k ≡ Some q → (j : ℕ) × (q ≡ m + j) × (keys_at column (filter test rows) j ≡ keys_at column rows k)) → (b : Bool) (p : ℕ) → at_places (cond b (Some n ∷ new_places test (n + 1) rows) (None ∷ new_places test n rows)) p ≡ Some q → (j : ℕ) × (q ≡ n + j) × (keys_at column (cond b (row ∷ filter test rows) (filter test rows)) j ≡ keys_at column (row ∷ rows) p)
    step known true zero e = let same : n ≡ q = cc in (zero, omega (arith, same), refl)
    step known false zero e = absurd (no_place q e)
    step known true (suc p) e = let more = known (n + 1) p e in (suc more.0, let is = more.1 in omega (arith, is), more.2)
    step known false (suc p) e = known n p e

-- each place behind the removal is that of a row that stays
comes_from : (test : Row → Bool) (n : ℕ) (rows : List Row) (j : ℕ) → j < length (filter test rows) → (p : ℕ) × (at_places (new_places test n rows) p ≡ Some (n + j))
unfolding at_places
comes_from test n [] j h = absurd (omega arith)
comes_from test n (row ∷ rows) j h = step (λ m k less. comes_from test m rows k less) (test row) j h
  where
    step : ((m k : ℕ) → k < length (filter test rows) → (p : ℕ) × (at_places (new_places test m rows) p ≡ Some (m + k))) → (b : Bool) (j : ℕ) → j < length (cond b (row ∷ filter test rows) (filter test rows)) → (p : ℕ) × (at_places (cond b (Some n ∷ new_places test (n + 1) rows) (None ∷ new_places test n rows)) p ≡ Some (n + j))
    step known true zero h = let e : n ≡ n + 0 = omega arith in (zero, ap (λ k. Some k) e)
    step known true (suc j) h = let more = known (n + 1) j (omega arith) in let e : (n + 1) + j ≡ n + suc j = omega arith in (suc more.0, more.1 ∙ ap (λ k. Some k) e)
    step known false j h = let more = known n j h in (suc more.0, more.1)

place_less : (places : List (Option ℕ)) (p q : ℕ) → at_places places p ≡ Some q → p < length places
unfolding at_places
place_less [] p q e = absurd (no_place q e)
place_less (o ∷ places) zero q e = omega arith
place_less (o ∷ places) (suc p) q e = let less = place_less places p q e in omega (arith, less)

places_long : (test : Row → Bool) (n : ℕ) (rows : List Row) → length (new_places test n rows) ≡ length rows
places_long test n [] = refl
places_long test n (row ∷ rows) = step (test row) (places_long test (n + 1) rows) (places_long test n rows)
  where
    step : (b : Bool) → length (new_places test (n + 1) rows) ≡ length rows → length (new_places test n rows) ≡ length rows → length (cond b (Some n ∷ new_places test (n + 1) rows) (None ∷ new_places test n rows)) ≡ suc (length rows)
    step true more same = ap suc more
    step false more same = ap suc same

at_first : (b : Bool) (n : ℕ) (xs ys : List (Option ℕ)) → is_some (at_places (cond b (Some n ∷ xs) (None ∷ ys)) zero) ≡ b
unfolding at_places
at_first true n xs ys = refl
at_first false n xs ys = refl

at_later : (b c : Bool) (n p : ℕ) (xs ys : List (Option ℕ)) → is_some (at_places xs p) ≡ c → is_some (at_places ys p) ≡ c → is_some (at_places (cond b (Some n ∷ xs) (None ∷ ys)) (suc p)) ≡ c
unfolding at_places
at_later true c n p xs ys x y = x
at_later false c n p xs ys x y = y

-- a row has a new place exactly where it passes
at_test : (test : Row → Bool) (n : ℕ) (rows : List Row) (p : ℕ) (row : Row) → p < length rows → row ≡ get_or rows p row → is_some (at_places (new_places test n rows) p) ≡ test row
at_test test n [] p row h is = absurd (omega arith)
at_test test n (r ∷ rows) zero row h is = at_first (test r) n (new_places test (n + 1) rows) (new_places test n rows) ∙ ap test (sym is)
at_test test n (r ∷ rows) (suc p) row h is =
    at_later (test r) (test row) n p (new_places test (n + 1) rows) (new_places test n rows) (at_test test (n + 1) rows p row (omega arith) is) (at_test test n rows p row (omega arith) is)

-- ---- the keys of the rows that pass, at their old places

pub left_keys : ℕ → (Row → Bool) → List Row → ℕ → Value
left_keys column test rows p = cond (is_some (at_places (new_places test 0 rows) p)) (keys_at column rows p) Null

found_place : (o : Option ℕ) → is_some o ≡ true → (q : ℕ) × (o ≡ Some q)
found_place None p = absurd (true≢false (sym p))
found_place (Some q) p = (q, refl)

-- an index of these keys is one of the rows that pass
filtered : (index : KeyIndex) (column : ℕ) (test : Row → Bool) (rows : List Row) → HasKeys index (left_keys column test rows) → HasKeys index (keys_at column (filter test rows))
unfolding left_keys
filtered index column test rows has = record {
  has = λ key q holds. let was = back key q holds in has.has key was.0 (left key q holds);
  finds = λ key there.
      let found = has.finds key there in
      let placed = found_place (places found.0) (is_placed found.0 key found.1) in
      let stands = stands_at column test 0 rows found.0 placed.0 placed.1 in
      (stands.0, ap (λ k. is_equal k key) (stands.2 ∙ sym (cond-true (is_some (places found.0)) (keys_at column rows found.0) Null (is_placed found.0 key found.1))) ∙ found.1);
  apart = λ key q r x y.
      let p = back key q x in
      let s = back key r y in
      let same = has.apart key p.0 s.0 (left key q x) (left key r y) in
      let e : 0 + q ≡ 0 + r = some_place (0 + q) (0 + r) (sym p.1 ∙ ap places same ∙ s.1) in
      omega (arith, e);
}
  where
    places : ℕ → Option ℕ
    places p = at_places (new_places test 0 rows) p

    back : (key : Value) (q : ℕ) → is_equal (keys_at column (filter test rows) q) key ≡ true → (p : ℕ) × (places p ≡ Some (0 + q))
    back key q holds = comes_from test 0 rows q (place_within column (filter test rows) q (equal_not_null (keys_at column (filter test rows) q) key holds))

    left : (key : Value) (q : ℕ) (holds : is_equal (keys_at column (filter test rows) q) key ≡ true) → is_equal (cond (is_some (places (back key q holds).0)) (keys_at column rows (back key q holds).0) Null) key ≡ true
    left key q holds =
        let was = back key q holds in
        let stands = stands_at column test 0 rows was.0 (0 + q) was.1 in
        let e : q ≡ stands.0 = let is = stands.1 in omega (arith, is) in
        ap (λ k. is_equal k key) (cond-true (is_some (places was.0)) (keys_at column rows was.0) Null (ap is_some was.1) ∙ sym stands.2 ∙ ap (keys_at column (filter test rows)) (sym e)) ∙ holds

    is_placed : (p : ℕ) (key : Value) → is_equal (cond (is_some (places p)) (keys_at column rows p) Null) key ≡ true → is_some (places p) ≡ true
    is_placed p key holds =
        ⊎_elim
        (λ there. there)
        (λ gone. absurd (true≢false (sym holds ∙ ap (λ k. is_equal k key) (cond-false (is_some (places p)) (keys_at column rows p) Null gone))))
        (cases_Bool (is_some (places p)))

-- ---- the rows of a table

row_at : (rows : List Row) (p : ℕ) → p < length rows → (row : Row) × (row ≡ get_or rows p row)
row_at [] p h = absurd (omega arith)
row_at (row ∷ rows) zero h = (row, refl)
row_at (row ∷ rows) (suc p) h = row_at rows p (omega arith)

all_at : (test : Row → Bool) (rows : List Row) (p : ℕ) (row : Row) → list_all test rows ≡ true → p < length rows → row ≡ get_or rows p row → test row ≡ true
all_at test [] p row all h is = absurd (omega arith)
all_at test (r ∷ rows) zero row all h is = ap test is ∙ (and_parts (test r) (list_all test rows) all).0
all_at test (r ∷ rows) (suc p) row all h is = all_at test rows p row (and_parts (test r) (list_all test rows) all).1 (omega arith) is

passed_stays : (condition : Option Equation) (row : Row) → is_passed condition row ≡ true → stays condition row ≡ true
passed_stays condition row p = ap (λ r. not (is_ok_true r)) (passed condition row p)

same_either : (b : Bool) → cond b Null Null ≡ Null
same_either true = refl
same_either false = refl

pub leaves_rows : (condition : Option Equation) (column : ℕ) (rows some : List Row) (span : PlaceSpan) → Spans condition span rows → rows ≡ take span.from rows ++ some ++ drop span.to rows → span.from + length some ≡ span.to → Leaves condition column span.from some (keys_at column rows) (left_keys column (stays condition) rows)
unfolding left_keys
leaves_rows condition column rows some span spans whole many = record {
  ahead = λ p less.
      let within = spans.within in
      let found = row_at rows p (omega (arith, less, many, within)) in
      let long = length-take-le span.from rows (omega (arith, many, within)) in
      stays_at p found.0 (omega (arith, less, many, within)) found.1 (all_at (is_passed condition) (take span.from rows) p found.0 spans.before (omega (arith, less, long)) (found.1 ∙ sym (get_or-take span.from rows p found.0 less)));
  was = λ i row less is. moves.was i row less is;
  is = λ i row less is.
      let within = spans.within in
      let there : span.from + i < length rows = omega (arith, less, many, within) in
      ap (λ b. cond b (keys_at column rows (span.from + i)) Null) (at_test (stays condition) 0 rows (span.from + i) row there (is ∙ sym (at_mid i row less)));
  behind = λ p past.
      ⊎_elim
      (λ less.
      let found = row_at rows p less in
      let e : span.to + (p - span.to) ≡ p = omega (arith, past, many) in
      let long = length-drop span.to rows in
      stays_at p found.0 less found.1 (all_at (is_passed condition) (drop span.to rows) (p - span.to) found.0 spans.behind (omega (arith, less, long, e)) (found.1 ∙ ap (λ n. get_or rows n found.0) (sym e) ∙ sym (get_or-drop span.to rows (p - span.to) found.0))))
      (λ most.
      let null = keys_at_past column rows p most in
      ap (λ v. cond (is_some (at_places (new_places (stays condition) 0 rows) p)) v Null) null ∙ same_either (is_some (at_places (new_places (stays condition) 0 rows) p)) ∙ sym null)
      (cases_lt p (length rows));
}
  where
    moves : Rattle.keeper_rows.specs.Keys.Moves column span.from some some (keys_at column rows) (keys_at column (Rattle.keeper_rows.specs.Spans.replaced rows span some))
    moves = moves_replaced column rows some some span whole many many spans.within

    stays_at : (p : ℕ) (row : Row) → p < length rows → row ≡ get_or rows p row → is_passed condition row ≡ true → cond (is_some (at_places (new_places (stays condition) 0 rows) p)) (keys_at column rows p) Null ≡ keys_at column rows p
    stays_at p row less is passes = cond-true (is_some (at_places (new_places (stays condition) 0 rows) p)) (keys_at column rows p) Null (at_test (stays condition) 0 rows p row less is ∙ passed_stays condition row passes)

    at_mid : (i : ℕ) (row : Row) → i < length some → get_or rows (span.from + i) row ≡ get_or some i row
    at_mid i row less =
        let within = spans.within in
        let long = length-take-le span.from rows (omega (arith, many, within)) in
        let front = length-append (take span.from rows) some in
        ap (λ l. get_or l (span.from + i) row) whole
        ∙ get_or_append_left (take span.from rows ++ some) (drop span.to rows) row (span.from + i) (omega (arith, front, long, less))
        ∙ ap (λ n. get_or (take span.from rows ++ some) (n + i) row) (sym long)
        ∙ get_or-append-add (take span.from rows) some i row

pub index_left : (index new : KeyIndex) (condition : Option Equation) (rows : List Row) → new.column ≡ index.column → keeps_key (Some index.column) [] rows ≡ true → HasKeys new (left_keys index.column (stays condition) rows) → Indexes (Some new) (filter (stays condition) rows)
index_left index new condition rows is kept has =
    let column = index.column in
    let test = stays condition in
    indexed new column (filter test rows) is (filtered new column test rows has)
    (λ q less.
    let was = comes_from test 0 rows q less in
    let stands = stands_at column test 0 rows was.0 (0 + q) was.1 in
    let e : q ≡ stands.0 = let same = stands.1 in omega (arith, same) in
    let there = place_less (new_places test 0 rows) was.0 (0 + q) was.1 in
    let long = places_long test 0 rows in
    ap is_null (ap (keys_at column (filter test rows)) e ∙ stands.2) ∙ keys_sound column rows kept was.0 (omega (arith, there, long)))

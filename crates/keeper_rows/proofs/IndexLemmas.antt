-- Lemmas on an index that has keys.
use Rattle.std.proofs.Common.{◌≡◌, ◌≢◌, ℕ, ◌+◌, ◌<◌, ◌≤◌, true≢false, length-append, arith, Bool, true, false, cond, not, ◌&&◌, ◌||◌, is_some, length, get_or, take, drop, List, [], ◌∷◌, ◌++◌, Some, None, suc, zero, refl, sym, ap, subst, ◌∙◌, ⊎_elim}
use Rattle.std.specs.List.{list_any}
use Rattle.std.proofs.lemmas.Bool.{cases_Bool, cases_eq, cases_lt, cond-true, cond-false}
use Rattle.std.proofs.lemmas.List.{append_assoc, get_or_append_left, get_or_at, get_or_past, get_or-take, get_or-drop, get_or-append-add, length-take-le, take-map, drop-map, length-map, drop_more}
use Rattle.hrana_value.specs.declared.value.Value.{Value}
use Rattle.hrana_value.specs.declared.value.Value.TheVariants.{Null}
use Rattle.keeper_formulas.specs.Values.{value_at, is_null, is_equal}
use Rattle.keeper_rows.specs.declared.keys.KeyIndex.{KeyIndex}
use Rattle.keeper_rows.specs.declared.row.Row.{Row}
use Rattle.keeper_rows.specs.declared.spans.PlaceSpan.{PlaceSpan}
use Rattle.keeper_rows.specs.Constraint.{has_key, keeps_key}
use Rattle.keeper_rows.specs.Keys.{rowid_of_key, keys_of, keys_at, HasKeys, Indexes}
use Rattle.keeper_rows.specs.Spans.{Encloses}
use Rattle.keeper_rows.proofs.KeyLemmas.{same_key, equal_not_null, equal_self, not_true, any_from_place, none_from_places, any_key, keys_kept, keeps_key-keys, keys_of-append, row_behind}

-- ---- one key

pub some_place : (p q : ℕ) → Some p ≡ Some q → p ≡ q
some_place p q e = cc

pub no_place : (p : ℕ) → None ≡ Some p → ⊥
no_place p e = true≢false (sym (ap is_some e))

-- a key that stands somewhere is one that the index has
at_none : (index : KeyIndex) (keys : ℕ → Value) (key : Value) (p : ℕ) → HasKeys index keys → is_some (rowid_of_key index key) ≡ false → is_equal (keys p) key ≡ false
at_none index keys key p has none = not_true (is_equal (keys p) key) (λ holds. true≢false (sym (has.has key p holds) ∙ none))

-- a key stands at one place alone
pub at_other : (index : KeyIndex) (keys : ℕ → Value) (key : Value) (p q : ℕ) → HasKeys index keys → is_equal (keys p) key ≡ true → q ≢ p → is_equal (keys q) key ≡ false
at_other index keys key p q has here differ = not_true (is_equal (keys q) key) (λ holds. differ (has.apart key q p holds here))

-- ---- changes at one place

pub keys_same : (index new : KeyIndex) (keys others : ℕ → Value) → ((p : ℕ) → others p ≡ keys p) → ((key : Value) → rowid_of_key new key ≡ rowid_of_key index key) → HasKeys index keys → HasKeys new others
keys_same index new keys others same found has = record {
  has = λ key p holds. ap is_some (found key) ∙ has.has key p (at p key holds);
  finds = λ key there. let was = has.finds key (sym (ap is_some (found key)) ∙ there) in (was.0, ap (λ k. is_equal k key) (same was.0) ∙ was.1);
  apart = λ key p q x y. has.apart key p q (at p key x) (at q key y);
}
  where
    at : (p : ℕ) (key : Value) → is_equal (others p) key ≡ true → is_equal (keys p) key ≡ true
    at p key holds = ap (λ k. is_equal k key) (sym (same p)) ∙ holds

-- the key at a place is taken out
pub vacated_at : (index new : KeyIndex) (keys others : ℕ → Value) (p : ℕ) → ((q : ℕ) → q ≢ p → others q ≡ keys q) → others p ≡ Null → ((key : Value) → rowid_of_key new key ≡ cond (is_equal (keys p) key) None (rowid_of_key index key)) → HasKeys index keys → HasKeys new others
vacated_at index new keys others p same gone takes has = record {
  has = λ key q holds.
      let here = at q key holds in
      let other = at_other index keys key q p has here (λ e. elsewhere q key holds (sym e)) in
      ap is_some (takes key ∙ cond-false (is_equal (keys p) key) None (rowid_of_key index key) other) ∙ has.has key q here;
  finds = λ key there.
      ⊎_elim
      (λ holds. absurd (true≢false (sym there ∙ ap is_some (takes key ∙ cond-true (is_equal (keys p) key) None (rowid_of_key index key) holds))))
      (λ differs.
      let was = has.finds key (sym (ap is_some (takes key ∙ cond-false (is_equal (keys p) key) None (rowid_of_key index key) differs)) ∙ there) in
      (was.0, ap (λ k. is_equal k key) (same was.0 (λ e. true≢false (sym was.1 ∙ ap (λ n. is_equal (keys n) key) e ∙ differs))) ∙ was.1))
      (cases_Bool (is_equal (keys p) key));
  apart = λ key q r x y. has.apart key q r (at q key x) (at r key y);
}
  where
    elsewhere : (q : ℕ) (key : Value) → is_equal (others q) key ≡ true → q ≢ p
    elsewhere q key holds e = true≢false (sym holds ∙ ap (λ n. is_equal (others n) key) e ∙ ap (λ k. is_equal k key) gone)

    at : (q : ℕ) (key : Value) → is_equal (others q) key ≡ true → is_equal (keys q) key ≡ true
    at q key holds = ap (λ k. is_equal k key) (sym (same q (λ e. true≢false (sym holds ∙ ap (λ n. is_equal (others n) key) e ∙ ap (λ k. is_equal k key) gone)))) ∙ holds

-- a key that the index doesn't have is put in at a place that has none
pub filled_at : (index new : KeyIndex) (keys others : ℕ → Value) (p rowid : ℕ) → ((q : ℕ) → q ≢ p → others q ≡ keys q) → keys p ≡ Null → is_some (rowid_of_key index (others p)) ≡ false → ((key : Value) → rowid_of_key new key ≡ cond (is_equal (others p) key) (Some rowid) (rowid_of_key index key)) → HasKeys index keys → HasKeys new others
filled_at index new keys others p rowid same empty free puts has = record {
  has = λ key q holds.
      ⊎_elim
      (λ yes_p. ap is_some (puts key ∙ cond-true (is_equal (others p) key) (Some rowid) (rowid_of_key index key) yes_p))
      (λ differs. ap is_some (puts key ∙ cond-false (is_equal (others p) key) (Some rowid) (rowid_of_key index key) differs) ∙ has.has key q (at q key (λ e. true≢false (sym holds ∙ ap (λ n. is_equal (others n) key) e ∙ differs)) holds))
      (cases_Bool (is_equal (others p) key));
  finds = λ key there.
      ⊎_elim
      (λ yes_p. (p, yes_p))
      (λ differs.
      let was = has.finds key (sym (ap is_some (puts key ∙ cond-false (is_equal (others p) key) (Some rowid) (rowid_of_key index key) differs)) ∙ there) in
      (was.0, ap (λ k. is_equal k key) (same was.0 (λ e. true≢false (sym was.1 ∙ ap (λ n. is_equal (keys n) key) e ∙ ap (λ k. is_equal k key) empty))) ∙ was.1))
      (cases_Bool (is_equal (others p) key));
  apart = λ key q r x y.
      ⊎_elim
      (λ q_is.
      ⊎_elim
      (λ r_is. q_is ∙ sym r_is)
      (λ r_not. absurd (fresh key r (subst (λ n. is_equal (others n) key ≡ true) q_is x) (at r key r_not y)))
      (cases_eq r p))
      (λ q_not.
      ⊎_elim
      (λ r_is. absurd (fresh key q (subst (λ n. is_equal (others n) key ≡ true) r_is y) (at q key q_not x)))
      (λ r_not. has.apart key q r (at q key q_not x) (at r key r_not y))
      (cases_eq r p))
      (cases_eq q p);
}
  where
    at : (q : ℕ) (key : Value) → q ≢ p → is_equal (others q) key ≡ true → is_equal (keys q) key ≡ true
    at q key differ holds = ap (λ k. is_equal k key) (sym (same q differ)) ∙ holds

    fresh : (key : Value) (q : ℕ) → is_equal (others p) key ≡ true → is_equal (keys q) key ≡ true → ⊥
    fresh key q holds there = true≢false (sym (ap (λ k. is_some (rowid_of_key index k)) (same_key (others p) key holds) ∙ has.has key q there) ∙ free)

-- ---- the keys of rows

key_long : (column : ℕ) (rows : List Row) → length (keys_of column rows) ≡ length rows
key_long column rows = length-map rows (λ row. value_at row.values column)

pub keys_at_past : (column : ℕ) (rows : List Row) (p : ℕ) → length rows ≤ p → keys_at column rows p ≡ Null
keys_at_past column rows p h = get_or_past (keys_of column rows) p Null (let long = key_long column rows in omega (arith, h, long))

pub keys_at_row : (column : ℕ) (rows : List Row) (p : ℕ) (row : Row) → p < length rows → row ≡ get_or rows p row → keys_at column rows p ≡ value_at row.values column
keys_at_row column [] p row h is = absurd (omega arith)
keys_at_row column (r ∷ rows) zero row h is = ap (λ (r : Row). value_at r.values column) (sym is)
keys_at_row column (r ∷ rows) (suc p) row h is = keys_at_row column rows p row (omega arith) is

-- a place with a key is that of a row
pub place_within : (column : ℕ) (rows : List Row) (p : ℕ) → is_null (keys_at column rows p) ≡ false → p < length rows
place_within column rows p sound =
    ⊎_elim
    (λ less. less)
    (λ past. absurd (true≢false (sym (ap is_null (keys_at_past column rows p past)) ∙ sound)))
    (cases_lt p (length rows))

-- the index has the keys of the rows, and no others
pub has_rows : (index : KeyIndex) (column : ℕ) (rows : List Row) → HasKeys index (keys_at column rows) → (key : Value) → is_some (rowid_of_key index key) ≡ has_key column rows key
has_rows index column rows has key =
    ⊎_elim
    (λ there. let found = has.finds key there in there ∙ sym (any_from_place (λ k. is_equal k key) (keys_of column rows) found.0 refl found.1) ∙ sym (any_key column rows key))
    (λ none. none ∙ sym (none_from_places (λ k. is_equal k key) (keys_of column rows) (λ p. at_none index (keys_at column rows) key p has none)) ∙ sym (any_key column rows key))
    (cases_Bool (is_some (rowid_of_key index key)))

-- no row has a key that the index doesn't have
pub encloses_none : (index : KeyIndex) (column : ℕ) (rows : List Row) (key : Value) (span : PlaceSpan) → HasKeys index (keys_at column rows) → is_some (rowid_of_key index key) ≡ false → span.from ≡ 0 → span.to ≡ 0 → Encloses (λ row. is_equal (value_at row.values column) key) span rows
encloses_none index column rows key span has none from to =
    let test = λ (row : Row). is_equal (value_at row.values column) key in
    record {
      ordered = omega (arith, from, to);
      within = omega (arith, from, to);
      before = ap (λ n. list_any test (take n rows)) from;
      behind = ap (λ n. list_any test (drop n rows)) to ∙ sym (has_rows index column rows has key) ∙ none;
    }

-- a row that has the key is the only one
pub encloses_one : (index : KeyIndex) (column : ℕ) (rows : List Row) (key : Value) (p : ℕ) (span : PlaceSpan) → HasKeys index (keys_at column rows) → is_equal (keys_at column rows p) key ≡ true → span.from ≡ p → span.to ≡ p + 1 → Encloses (λ row. is_equal (value_at row.values column) key) span rows
encloses_one index column rows key p span has here from to =
    let test = λ (row : Row). is_equal (value_at row.values column) key in
    let keys = keys_of column rows in
    let is_key = λ (k : Value). is_equal k key in
    let less = place_within column rows p (equal_not_null (keys_at column rows p) key here) in
    let key_of = λ (row : Row). value_at row.values column in
    record {
      ordered = omega (arith, from, to);
      within = omega (arith, less, from, to);
      before = ap (λ n. list_any test (take n rows)) from
          ∙ any_key column (take p rows) key
          ∙ ap (list_any is_key) (sym (take-map key_of p rows))
          ∙ none_from_places is_key (take p keys) (λ q.
          ⊎_elim
          (λ below. ap is_key (get_or-take p keys q Null below) ∙ at_other index (keys_at column rows) key p q has here (λ e. omega (arith, below, e)))
          (λ past. ap is_key (get_or_past (take p keys) q Null (let long = length-take-le p keys (let l = key_long column rows in omega (arith, l, less)) in omega (arith, long, past))))
          (cases_lt q p));
      behind = ap (λ n. list_any test (drop n rows)) to
          ∙ any_key column (drop (p + 1) rows) key
          ∙ ap (list_any is_key) (sym (drop-map key_of (p + 1) rows))
          ∙ none_from_places is_key (drop (p + 1) keys) (λ q. ap is_key (get_or-drop (p + 1) keys q Null) ∙ at_other index (keys_at column rows) key p ((p + 1) + q) has here (λ e. omega (arith, e)));
    }

-- ---- the constraint

kept_behind : (index : KeyIndex) (before rest keys : List Value) → keys ≡ before ++ rest → HasKeys index (λ p. get_or keys p Null) → ((p : ℕ) → p < length keys → is_null (get_or keys p Null) ≡ false) → keys_kept before rest ≡ true
kept_behind index before [] keys is has sound = refl
kept_behind index before (key ∷ rest) keys is has sound =
    let at : get_or keys (length before) Null ≡ key = ap (λ l. get_or l (length before) Null) is ∙ get_or_at before key rest Null (length before) refl in
    let long = ap length is ∙ length-append before (key ∷ rest) in
    let there = sym (ap is_null at) ∙ sound (length before) (omega (arith, long)) in
    let fresh = none_from_places (λ k. is_equal k key) before (λ q.
    ⊎_elim
    (λ below. not_true (is_equal (get_or before q Null) key) (λ holds.
    let same = has.apart key q (length before) (ap (λ l. is_equal (get_or l q Null) key) is ∙ ap (λ k. is_equal k key) (get_or_append_left before (key ∷ rest) Null q below) ∙ holds) (ap (λ k. is_equal k key) at ∙ equal_self key there) in
    omega (arith, below, same)))
    (λ past. ap (λ k. is_equal k key) (get_or_past before q Null past))
    (cases_lt q (length before))) in
    ap (λ b. not (b || list_any (λ k. is_equal k key) before) && keys_kept (before ++ key ∷ []) rest) there
    ∙ ap (λ b. not b && keys_kept (before ++ key ∷ []) rest) fresh
    ∙ kept_behind index (before ++ key ∷ []) rest keys (is ∙ sym (append_assoc before (key ∷ []) rest)) has sound

-- rows with an index of their keys, none of which is null, keep the constraint
pub indexed : (index : KeyIndex) (column : ℕ) (rows : List Row) → index.column ≡ column → HasKeys index (keys_at column rows) → ((p : ℕ) → p < length rows → is_null (keys_at column rows p) ≡ false) → Indexes (Some index) rows
indexed index column rows is has sound = subst (λ c. HasKeys index (keys_at c rows) × (keeps_key (Some c) [] rows ≡ true)) (sym is) (has, kept)
  where
    kept : keeps_key (Some column) [] rows ≡ true
    kept = keeps_key-keys column [] rows ∙ kept_behind index [] (keys_of column rows) (keys_of column rows) refl has (λ p h. sound p (let long = key_long column rows in omega (arith, h, long)))

-- ---- one row more

pub keys_at_left : (column : ℕ) (xs ys : List Row) (p : ℕ) → p < length xs → keys_at column (xs ++ ys) p ≡ keys_at column xs p
keys_at_left column xs ys p h =
    let long = key_long column xs in
    ap (λ l. get_or l p Null) (keys_of-append column xs ys) ∙ get_or_append_left (keys_of column xs) (keys_of column ys) Null p (omega (arith, h, long))

pub keys_at_right : (column : ℕ) (xs ys : List Row) (n p : ℕ) → length xs ≡ n → keys_at column (xs ++ ys) (n + p) ≡ keys_at column ys p
keys_at_right column xs ys n p is =
    ap (λ l. get_or l (n + p) Null) (keys_of-append column xs ys)
    ∙ ap (λ m. get_or (keys_of column xs ++ keys_of column ys) (m + p) Null) (sym (key_long column xs ∙ is))
    ∙ get_or-append-add (keys_of column xs) (keys_of column ys) p Null

keys_push : (index new : KeyIndex) (column : ℕ) (rows : List Row) (row : Row) (rowid : ℕ) → is_some (rowid_of_key index (value_at row.values column)) ≡ false → ((key : Value) → rowid_of_key new key ≡ cond (is_equal (value_at row.values column) key) (Some rowid) (rowid_of_key index key)) → HasKeys index (keys_at column rows) → HasKeys new (keys_at column (rows ++ row ∷ []))
keys_push index new column rows row rowid free puts has =
    filled_at index new (keys_at column rows) others n rowid
    (λ q differ.
    ⊎_elim
    (λ less. keys_at_left column rows (row ∷ []) q less)
    (λ most. let long = length-append rows (row ∷ []) in keys_at_past column (rows ++ row ∷ []) q (omega (arith, most, differ, long)) ∙ sym (keys_at_past column rows q most))
    (cases_lt q n))
    (keys_at_past column rows n (omega arith))
    (ap (λ k. is_some (rowid_of_key index k)) at ∙ free)
    (λ key. puts key ∙ ap (λ v. cond (is_equal v key) (Some rowid) (rowid_of_key index key)) (sym at))
    has
  where
    n : ℕ
    n = length rows

    others : ℕ → Value
    others = keys_at column (rows ++ row ∷ [])

    at : others n ≡ value_at row.values column
    at = let e : n + 0 ≡ n = omega arith in ap others (sym e) ∙ keys_at_right column rows (row ∷ []) n 0 refl

free_part : (null there : Bool) → true ≡ not (null || there) → there ≡ false
free_part true there p = absurd (true≢false p)
free_part false true p = absurd (true≢false p)
free_part false false p = refl

pub keys_more : (index new : KeyIndex) (column : ℕ) (before rows : List Row) (i : ℕ) (row : Row) (key : Value) (rowid : ℕ) → i < length rows → row ≡ get_or rows i row → key ≡ value_at row.values column → true ≡ not (is_null key || is_some (rowid_of_key index key)) → ((value : Value) → rowid_of_key new value ≡ cond (is_equal key value) (Some rowid) (rowid_of_key index value)) → HasKeys index (keys_at column (before ++ take i rows)) → HasKeys new (keys_at column (before ++ take (i + 1) rows))
keys_more index new column before rows i row key rowid h is key_is free puts has =
    subst (λ l. HasKeys new (keys_at column l)) (sym (row_behind before rows i row h is))
    (keys_push index new column (before ++ take i rows) row rowid
    (ap (λ k. is_some (rowid_of_key index k)) (sym key_is) ∙ free_part (is_null key) (is_some (rowid_of_key index key)) free)
    (λ value. puts value ∙ ap (λ v. cond (is_equal v value) (Some rowid) (rowid_of_key index value)) key_is)
    has)

-- one more row, whose key may be new
pub keeps_key_more : (index : KeyIndex) (column : ℕ) (before rows : List Row) (i : ℕ) (row : Row) (key : Value) (added : Bool) → i < length rows → row ≡ get_or rows i row → key ≡ value_at row.values column → HasKeys index (keys_at column (before ++ take i rows)) → added ≡ not (is_null key || is_some (rowid_of_key index key)) → keeps_key (Some column) (before ++ take i rows) (drop i rows) ≡ (added && keeps_key (Some column) (before ++ take (i + 1) rows) (drop (i + 1) rows))
keeps_key_more index column before rows i row key added h is key_is has added_is =
    ap (keeps_key (Some column) (before ++ take i rows)) (drop_more rows i row h ∙ ap (λ z. z ∷ drop (i + 1) rows) (sym is))
    ∙ ap (λ b. not (is_null (value_at row.values column) || has_key column (before ++ take i rows) (value_at row.values column)) && keeps_key (Some column) b (drop (i + 1) rows)) (sym (row_behind before rows i row h is))
    ∙ ap (λ v. not (is_null v || has_key column (before ++ take i rows) v) && keeps_key (Some column) (before ++ take (i + 1) rows) (drop (i + 1) rows)) (sym key_is)
    ∙ ap (λ b. not (is_null key || b) && keeps_key (Some column) (before ++ take (i + 1) rows) (drop (i + 1) rows)) (sym (has_rows index column (before ++ take i rows) has key))
    ∙ ap (λ b. b && keeps_key (Some column) (before ++ take (i + 1) rows) (drop (i + 1) rows)) (sym added_is)

-- Lemmas on new keys of rows in an index.
use Rattle.std.proofs.Common.{◌≡◌, ◌≢◌, ℕ, ◌+◌, ◌-◌, ◌<◌, ◌≤◌, true≢false, length-append, arith, Bool, true, false, cond, not, ◌&&◌, ◌||◌, is_some, length, get_or, take, drop, List, ◌++◌, Option, Some, None, IfSome, [], refl, sym, ap, subst, ◌∙◌, ⊎_elim}
use Rattle.std.proofs.lemmas.Bool.{cases_Bool, cases_lt, cases_eq, cond-true, cond-false, cond_below, cond_above, or_cases}
use Rattle.std.proofs.lemmas.List.{get_or-take, length-take-le, length-drop}
use Rattle.hrana_value.specs.declared.value.Value.{Value}
use Rattle.hrana_value.specs.declared.value.Value.TheVariants.{Null}
use Rattle.keeper_formulas.specs.Values.{is_null, is_equal}
use Rattle.keeper_rows.specs.declared.keys.KeyIndex.{KeyIndex}
use Rattle.keeper_rows.specs.declared.row.Row.{Row}
use Rattle.keeper_rows.specs.declared.spans.PlaceSpan.{PlaceSpan}
use Rattle.keeper_rows.specs.Constraint.{keeps_key}
use Rattle.keeper_rows.specs.Keys.{rowid_of_key, keys_at, HasKeys, Indexes, stay, Moves, changed_up_to}
use Rattle.keeper_rows.specs.Spans.{replaced}
use Rattle.keeper_rows.proofs.KeyLemmas.{null_is, same_key, equal_not_null, equal_self, not_true, neither, keys_sound, keys_apart}
use Rattle.keeper_rows.proofs.IndexLemmas.{keys_same, vacated_at, filled_at, place_within, indexed, keys_at_row, keys_at_left, keys_at_right}

-- ---- keys that stay

pub stay_same : (key : Value) → stay key key ≡ key
stay_same key =
    ⊎_elim
    (λ null. cond-false (is_equal key key) key Null (not_true (is_equal key key) (λ holds. true≢false (sym null ∙ equal_not_null key key holds))) ∙ sym (null_is key null))
    (λ sound. cond-true (is_equal key key) key Null (equal_self key sound))
    (cases_Bool (is_null key))

pub stay_equal : (old new : Value) → new ≡ old → stay old new ≡ old
stay_equal old new same = ap (stay old) same ∙ stay_same old

equal_sym : (a b : Value) → is_equal a b ≡ true → is_equal b a ≡ true
equal_sym a b holds = let same = same_key a b holds in ap (λ v. is_equal v a) (sym same) ∙ equal_self a (equal_not_null a b holds)

stay_swap : (a b : Value) → stay a b ≡ stay b a
stay_swap a b =
    ⊎_elim
    (λ holds. cond-true (is_equal b a) a Null holds ∙ sym (same_key b a holds) ∙ sym (cond-true (is_equal a b) b Null (equal_sym b a holds)))
    (λ fails. cond-false (is_equal b a) a Null fails ∙ sym (cond-false (is_equal a b) b Null (not_true (is_equal a b) (λ holds. true≢false (sym (equal_sym a b holds) ∙ fails)))))
    (cases_Bool (is_equal b a))

-- a key that stays is the new one
stays_new : (old new : Value) → is_null (stay old new) ≡ false → stay old new ≡ new
stays_new old new sound =
    ⊎_elim
    (λ holds. cond-true (is_equal new old) old Null holds ∙ sym (same_key new old holds))
    (λ fails. absurd (true≢false (sym (ap is_null (cond-false (is_equal new old) old Null fails)) ∙ sound)))
    (cases_Bool (is_equal new old))

-- ---- keys that are changed up to a place

pub changed_below : (count : ℕ) (old new : ℕ → Value) (q : ℕ) → q < count → changed_up_to count old new q ≡ new q
changed_below count old new q h = sym (cond_below q count (new q) (old q) h)

pub changed_above : (count : ℕ) (old new : ℕ → Value) (q : ℕ) → count ≤ q → changed_up_to count old new q ≡ old q
changed_above count old new q h = sym (cond_above q count (new q) (old q) (old q) h refl)

pub changed_other : (count : ℕ) (old new : ℕ → Value) (q : ℕ) → q ≢ count → changed_up_to (count + 1) old new q ≡ changed_up_to count old new q
changed_other count old new q differ =
    ⊎_elim
    (λ less. changed_below (count + 1) old new q (omega (arith, less)) ∙ sym (changed_below count old new q less))
    (λ most. changed_above (count + 1) old new q (omega (arith, most, differ)) ∙ sym (changed_above count old new q most))
    (cases_lt q count)

-- ---- one row

-- its old key is taken out where the new one differs
pub vacates_one : (index new_index : KeyIndex) (old new : ℕ → Value) (p : ℕ) (was is : Value) → old p ≡ was → new p ≡ is → ((key : Value) → rowid_of_key new_index key ≡ cond (not (is_equal is was) && is_equal was key) None (rowid_of_key index key)) → HasKeys index (changed_up_to p old (λ q. stay (old q) (new q))) → HasKeys new_index (changed_up_to (p + 1) old (λ q. stay (old q) (new q)))
vacates_one index new_index old new p was is was_at is_at takes has =
    ⊎_elim
    (λ holds. keys_same index new_index f g
    (λ q. ⊎_elim
    (λ e. subst (λ n. g n ≡ f n) (sym e) (g_at ∙ stays_at ∙ cond-true (is_equal is was) was Null holds ∙ sym was_at ∙ sym f_at))
    (changed_other p old s q)
    (cases_eq q p))
    (λ key. takes key ∙ ap (λ b. cond (not b && is_equal was key) None (rowid_of_key index key)) holds)
    has)
    (λ fails. vacated_at index new_index f g p (changed_other p old s) (g_at ∙ stays_at ∙ cond-false (is_equal is was) was Null fails)
    (λ key. takes key ∙ ap (λ b. cond (not b && is_equal was key) None (rowid_of_key index key)) fails ∙ ap (λ v. cond (is_equal v key) None (rowid_of_key index key)) (sym (f_at ∙ was_at)))
    has)
    (cases_Bool (is_equal is was))
  where
    s : ℕ → Value
    s q = stay (old q) (new q)

    f : ℕ → Value
    f = changed_up_to p old s

    g : ℕ → Value
    g = changed_up_to (p + 1) old s

    f_at : f p ≡ old p
    f_at = changed_above p old s p (omega arith)

    g_at : g p ≡ s p
    g_at = changed_below (p + 1) old s p (omega arith)

    stays_at : s p ≡ stay was is
    stays_at = ap (λ v. stay v (new p)) was_at ∙ ap (stay was) is_at

not_not : (b : Bool) → not b ≡ true → b ≡ false
not_not true p = absurd (true≢false (sym p))
not_not false p = refl

free_key : (same null there : Bool) → true ≡ (same || not (null || there)) → same ≡ false → (null ≡ false) × (there ≡ false)
free_key same null there free fails = neither null there (not_not (null || there) (sym (free ∙ ap (λ b. b || not (null || there)) fails)))

-- a new key that is free, or the old one, isn't null
pub sound_when_free : (was is : Value) (there : Bool) → true ≡ (is_equal is was || not (is_null is || there)) → is_null is ≡ false
sound_when_free was is there free =
    ⊎_elim
    (λ holds. equal_not_null is was holds)
    (λ fails. (free_key (is_equal is was) (is_null is) there free fails).0)
    (cases_Bool (is_equal is was))

-- its new key is put in where the old one differs
pub fills_one : (index new_index : KeyIndex) (old new : ℕ → Value) (p rowid : ℕ) (was is : Value) → old p ≡ was → new p ≡ is → true ≡ (is_equal is was || not (is_null is || is_some (rowid_of_key index is))) → ((key : Value) → rowid_of_key new_index key ≡ cond (not (is_equal is was) && is_equal is key) (Some rowid) (rowid_of_key index key)) → HasKeys index (changed_up_to p (λ q. stay (old q) (new q)) new) → HasKeys new_index (changed_up_to (p + 1) (λ q. stay (old q) (new q)) new)
fills_one index new_index old new p rowid was is was_at is_at free puts has =
    ⊎_elim
    (λ holds. keys_same index new_index f g
    (λ q. ⊎_elim
    (λ e. subst (λ n. g n ≡ f n) (sym e) (g_at ∙ is_at ∙ same_key is was holds ∙ sym (cond-true (is_equal is was) was Null holds) ∙ sym stays_at ∙ sym f_at))
    (changed_other p s new q)
    (cases_eq q p))
    (λ key. puts key ∙ ap (λ b. cond (not b && is_equal is key) (Some rowid) (rowid_of_key index key)) holds)
    has)
    (λ fails. filled_at index new_index f g p rowid (changed_other p s new) (f_at ∙ stays_at ∙ cond-false (is_equal is was) was Null fails)
    (ap (λ k. is_some (rowid_of_key index k)) (g_at ∙ is_at) ∙ (free_key (is_equal is was) (is_null is) (is_some (rowid_of_key index is)) free fails).1)
    (λ key. puts key ∙ ap (λ b. cond (not b && is_equal is key) (Some rowid) (rowid_of_key index key)) fails ∙ ap (λ v. cond (is_equal v key) (Some rowid) (rowid_of_key index key)) (sym (g_at ∙ is_at)))
    has)
    (cases_Bool (is_equal is was))
  where
    s : ℕ → Value
    s q = stay (old q) (new q)

    f : ℕ → Value
    f = changed_up_to p s new

    g : ℕ → Value
    g = changed_up_to (p + 1) s new

    f_at : f p ≡ s p
    f_at = changed_above p s new p (omega arith)

    g_at : g p ≡ new p
    g_at = changed_below (p + 1) s new p (omega arith)

    stays_at : s p ≡ stay was is
    stays_at = ap (λ v. stay v (new p)) was_at ∙ ap (stay was) is_at

-- ---- all rows

-- before the first and behind the last nothing is taken out
pub vacates_start : (index : KeyIndex) (column from : ℕ) (olds news : List Row) (old new : ℕ → Value) → Moves column from olds news old new → HasKeys index old → HasKeys index (changed_up_to (from + 0) old (λ q. stay (old q) (new q)))
vacates_start index column from olds news old new moves has =
    let s = λ (q : ℕ). stay (old q) (new q) in
    keys_same index index old (changed_up_to (from + 0) old s)
    (λ q.
    ⊎_elim
    (λ less. changed_below (from + 0) old s q (omega (arith, less)) ∙ stay_equal (old q) (new q) (moves.ahead q less))
    (λ most. changed_above (from + 0) old s q (omega (arith, most)))
    (cases_lt q from))
    (λ key. refl)
    has

pub vacates_end : (index : KeyIndex) (column from count : ℕ) (olds news : List Row) (old new : ℕ → Value) → Moves column from olds news old new → length olds ≤ count → HasKeys index (changed_up_to (from + count) old (λ q. stay (old q) (new q))) → HasKeys index (λ q. stay (old q) (new q))
vacates_end index column from count olds news old new moves all has =
    let s = λ (q : ℕ). stay (old q) (new q) in
    keys_same index index (changed_up_to (from + count) old s) s
    (λ q.
    ⊎_elim
    (λ less. sym (changed_below (from + count) old s q less))
    (λ most. stay_equal (old q) (new q) (moves.behind q (omega (arith, most, all))) ∙ sym (changed_above (from + count) old s q most))
    (cases_lt q (from + count)))
    (λ key. refl)
    has

pub fills_start : (index : KeyIndex) (column from : ℕ) (olds news : List Row) (old new : ℕ → Value) → Moves column from olds news old new → HasKeys index (λ q. stay (old q) (new q)) → HasKeys index (changed_up_to (from + 0) (λ q. stay (old q) (new q)) new)
fills_start index column from olds news old new moves has =
    let s = λ (q : ℕ). stay (old q) (new q) in
    keys_same index index s (changed_up_to (from + 0) s new)
    (λ q.
    ⊎_elim
    (λ less. changed_below (from + 0) s new q (omega (arith, less)) ∙ moves.ahead q less ∙ sym (stay_equal (old q) (new q) (moves.ahead q less)))
    (λ most. changed_above (from + 0) s new q (omega (arith, most)))
    (cases_lt q from))
    (λ key. refl)
    has

pub fills_end : (index : KeyIndex) (column from count : ℕ) (olds news : List Row) (old new : ℕ → Value) → Moves column from olds news old new → length olds ≤ count → HasKeys index (changed_up_to (from + count) (λ q. stay (old q) (new q)) new) → HasKeys index new
fills_end index column from count olds news old new moves all has =
    let s = λ (q : ℕ). stay (old q) (new q) in
    keys_same index index (changed_up_to (from + count) s new) new
    (λ q.
    ⊎_elim
    (λ less. sym (changed_below (from + count) s new q less))
    (λ most. let same = moves.behind q (omega (arith, most, all)) in same ∙ sym (stay_equal (old q) (new q) same) ∙ sym (changed_above (from + count) s new q most))
    (cases_lt q (from + count)))
    (λ key. refl)
    has

-- ---- the rows in the place of others

pub moves_between : (column from : ℕ) (before olds news after : List Row) → length before ≡ from → length news ≡ length olds → Moves column from olds news (keys_at column ((before ++ olds) ++ after)) (keys_at column ((before ++ news) ++ after))
moves_between column from before olds news after is many = record {
  ahead = λ p less. at_left news p less ∙ sym (at_left olds p less);
  was = λ i row less is_row. at_mid olds i less ∙ keys_at_row column olds i row less is_row;
  is = λ i row less is_row. let there : i < length news = omega (arith, less, many) in at_mid news i there ∙ keys_at_row column news i row there is_row;
  behind = λ p past.
      let e : (from + length olds) + (p - (from + length olds)) ≡ p = omega (arith, past) in
      let long = length-append before olds in
      let other = length-append before news in
      ap (keys_at column ((before ++ news) ++ after)) (sym e)
      ∙ keys_at_right column (before ++ news) after (from + length olds) (p - (from + length olds)) (omega (arith, other, is, many))
      ∙ sym (keys_at_right column (before ++ olds) after (from + length olds) (p - (from + length olds)) (omega (arith, long, is)))
      ∙ ap (keys_at column ((before ++ olds) ++ after)) e;
}
  where
    at_left : (some : List Row) (p : ℕ) → p < from → keys_at column ((before ++ some) ++ after) p ≡ keys_at column before p
    at_left some p less =
        let long = length-append before some in
        keys_at_left column (before ++ some) after p (omega (arith, long, is, less)) ∙ keys_at_left column before some p (omega (arith, is, less))

    at_mid : (some : List Row) (i : ℕ) → i < length some → keys_at column ((before ++ some) ++ after) (from + i) ≡ keys_at column some i
    at_mid some i less =
        let long = length-append before some in
        keys_at_left column (before ++ some) after (from + i) (omega (arith, long, is, less)) ∙ keys_at_right column before some from i is

pub moves_back : (column from : ℕ) (olds news : List Row) (old new : ℕ → Value) → length news ≡ length olds → Moves column from olds news old new → Moves column from news olds new old
moves_back column from olds news old new many moves = record {
  ahead = λ p less. sym (moves.ahead p less);
  was = λ i row less is. moves.is i row (omega (arith, less, many)) is;
  is = λ i row less is. moves.was i row (omega (arith, less, many)) is;
  behind = λ p past. sym (moves.behind p (omega (arith, past, many)));
}

-- the rows that were filled in get their old keys
pub moves_undone : (column from count : ℕ) (olds news some others : List Row) (old new : ℕ → Value) → Moves column from olds news old new → count ≤ length olds → length news ≡ length olds → some ≡ take count news → others ≡ take count olds → Moves column from some others (changed_up_to (from + count) (λ q. stay (old q) (new q)) new) (changed_up_to (from + count) (λ q. stay (old q) (new q)) old)
moves_undone column from count olds news some others old new moves within many some_is others_is =
    let s = λ (q : ℕ). stay (old q) (new q) in
    let long = ap length some_is ∙ length-take-le count news (omega (arith, within, many)) in
    record {
      ahead = λ p less. changed_below (from + count) s old p (omega (arith, less)) ∙ sym (moves.ahead p less) ∙ sym (changed_below (from + count) s new p (omega (arith, less)));
      was = λ i row less is.
          let there : i < count = omega (arith, less, long) in
          changed_below (from + count) s new (from + i) (omega (arith, there))
          ∙ moves.is i row (omega (arith, there, within)) (is ∙ ap (λ l. get_or l i row) some_is ∙ get_or-take count news i row there);
      is = λ i row less is.
          let there : i < count = omega (arith, less, long) in
          changed_below (from + count) s old (from + i) (omega (arith, there))
          ∙ moves.was i row (omega (arith, there, within)) (is ∙ ap (λ l. get_or l i row) others_is ∙ get_or-take count olds i row there);
      behind = λ p past. changed_above (from + count) s old p (omega (arith, past, long)) ∙ sym (changed_above (from + count) s new p (omega (arith, past, long)));
    }

pub undone : (index : KeyIndex) (from count : ℕ) (old new : ℕ → Value) → HasKeys index (λ q. stay (changed_up_to (from + count) (λ q. stay (old q) (new q)) new q) (changed_up_to (from + count) (λ q. stay (old q) (new q)) old q)) → HasKeys index (λ q. stay (new q) (old q))
undone index from count old new has =
    let s = λ (q : ℕ). stay (old q) (new q) in
    let n = from + count in
    keys_same index index (λ q. stay (changed_up_to n s new q) (changed_up_to n s old q)) (λ q. stay (new q) (old q))
    (λ q.
    ⊎_elim
    (λ less. sym (ap (λ v. stay v (changed_up_to n s old q)) (changed_below n s new q less) ∙ ap (stay (new q)) (changed_below n s old q less)))
    (λ most. stay_swap (new q) (old q) ∙ sym (ap (λ v. stay v (changed_up_to n s old q)) (changed_above n s new q most) ∙ ap (stay (s q)) (changed_above n s old q most) ∙ stay_same (s q)))
    (cases_lt q n))
    (λ key. refl)
    has

-- ---- the constraint

-- where all new keys are put in, the rows keep the constraint
pub kept_when_filled : (index : KeyIndex) (column from : ℕ) (olds news rows others : List Row) → index.column ≡ column → Moves column from olds news (keys_at column rows) (keys_at column others) → length others ≡ length rows → keeps_key (Some column) [] rows ≡ true → ((i : ℕ) → i < length olds → is_null (keys_at column others (from + i)) ≡ false) → HasKeys index (keys_at column others) → Indexes (Some index) others
kept_when_filled index column from olds news rows others is moves many kept sound has =
    indexed index column others is has (λ p h.
    ⊎_elim
    (λ less. ap is_null (moves.ahead p less) ∙ keys_sound column rows kept p (omega (arith, h, many)))
    (λ most.
    ⊎_elim
    (λ less. let e : from + (p - from) ≡ p = omega (arith, most) in ap (λ n. is_null (keys_at column others n)) (sym e) ∙ sound (p - from) (omega (arith, most, less)))
    (λ past. ap is_null (moves.behind p past) ∙ keys_sound column rows kept p (omega (arith, h, many)))
    (cases_lt p (from + length olds)))
    (cases_lt p from))

-- where one isn't, they don't
pub broken_when_stopped : (index : KeyIndex) (column p : ℕ) (others : List Row) (old : ℕ → Value) → p < length others → is_equal (keys_at column others p) (old p) ≡ false → (is_null (keys_at column others p) || is_some (rowid_of_key index (keys_at column others p))) ≡ true → HasKeys index (changed_up_to p (λ q. stay (old q) (keys_at column others q)) (keys_at column others)) → keeps_key (Some column) [] others ≡ false
broken_when_stopped index column p others old within differs reason has = not_true (keeps_key (Some column) [] others) broken
  where
    new : ℕ → Value
    new = keys_at column others

    s : ℕ → Value
    s q = stay (old q) (new q)

    f : ℕ → Value
    f = changed_up_to p s new

    empty : f p ≡ Null
    empty = changed_above p s new p (omega arith) ∙ cond-false (is_equal (new p) (old p)) (old p) Null differs

    -- what the index has at a place is a new key
    is_new : (q : ℕ) → is_null (f q) ≡ false → f q ≡ new q
    is_new q sound =
        ⊎_elim
        (λ less. changed_below p s new q less)
        (λ most. let at = changed_above p s new q most in at ∙ stays_new (old q) (new q) (sym (ap is_null at) ∙ sound))
        (cases_lt q p)

    twice : keeps_key (Some column) [] others ≡ true → (q : ℕ) → is_equal (f q) (new p) ≡ true → ⊥
    twice kept q here =
        let at = is_new q (equal_not_null (f q) (new p) here) in
        let apart : q ≢ p = λ e. true≢false (sym here ∙ ap (λ n. is_equal (f n) (new p)) e ∙ ap (λ k. is_equal k (new p)) empty) in
        let there = place_within column others q (sym (ap is_null at) ∙ equal_not_null (f q) (new p) here) in
        true≢false (sym here ∙ ap (λ k. is_equal k (new p)) at ∙ keys_apart column others kept q p apart there within)

    broken : keeps_key (Some column) [] others ≡ true → ⊥
    broken kept =
        ⊎_elim
        (λ null. true≢false (sym null ∙ keys_sound column others kept p within))
        (λ there. let found = has.finds (new p) there in twice kept found.0 found.1)
        (or_cases (is_null (new p)) (is_some (rowid_of_key index (new p))) reason)

-- ---- the rows of a table

pub moves_replaced : (column : ℕ) (rows olds news : List Row) (span : PlaceSpan) → rows ≡ take span.from rows ++ olds ++ drop span.to rows → span.from + length olds ≡ span.to → span.from + length news ≡ span.to → span.to ≤ length rows → Moves column span.from olds news (keys_at column rows) (keys_at column (replaced rows span news))
moves_replaced column rows olds news span whole many as_many within =
    subst (λ (l : List Row). Moves column span.from olds news (keys_at column l) (keys_at column (replaced rows span news))) (sym whole)
    (moves_between column span.from (take span.from rows) olds news (drop span.to rows) (length-take-le span.from rows (omega (arith, many, within))) (omega (arith, many, as_many)))

pub replaced_long : (rows news : List Row) (span : PlaceSpan) → span.from + length news ≡ span.to → span.to ≤ length rows → length (replaced rows span news) ≡ length rows
replaced_long rows news span as_many within =
    let ahead = length-take-le span.from rows (omega (arith, as_many, within)) in
    let front = length-append (take span.from rows) news in
    let behind = length-drop span.to rows in
    let all = length-append (take span.from rows ++ news) (drop span.to rows) in
    omega (arith, ahead, front, behind, all, as_many, within)

-- an index of rows whose column is named otherwise
pub indexes_by : (result : Option KeyIndex) (column : ℕ) (rows : List Row) → keeps_key (Some column) [] rows ≡ true → IfSome result (λ index. index.column ≡ column) → IfSome result (λ index. HasKeys index (keys_at column rows)) → Indexes result rows
indexes_by None column rows kept is has = tt
indexes_by (Some index) column rows kept is has = subst (λ c. HasKeys index (keys_at c rows) × (keeps_key (Some c) [] rows ≡ true)) (sym is) (has, kept)

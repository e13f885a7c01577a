-- Lemmas on keys, and on the constraint of a key.
use Rattle.std.proofs.Common.{◌≡◌, ◌≢◌, ℕ, ◌+◌, ◌-◌, ◌<◌, ◌≤◌, true≢false, length-append, arith, Bool, true, false, cond, not, ◌&&◌, ◌||◌, length, get_or, take, drop, List, [], ◌∷◌, ◌++◌, Option, Some, None, suc, zero, refl, sym, ap, subst, ◌∙◌, ⊎_elim}
use Rattle.std.specs.BTreeMap.{BTreeMap, get_by, UpdatesBy}
use Rattle.std.specs.Cmp.Lexicographic.{slice_cmp, bytes_decides, nat_list_cmp_total, nat_list_eq_equiv}
use Rattle.std.specs.Cmp.{eq_by_cmp_equiv, signed_Decides}
use Rattle.std.specs.List.{list_any}
use Rattle.std.specs.Map.{lookup, IsKeyTest, AreApart, KeepsOthers}
use Rattle.std.specs.Ordering.{is_eq, nat_cmp}
use Rattle.std.specs.Str.{bytes_eq}
use Rattle.std.proofs.lemmas.Bool.{cases_Bool, cases_order, cond-true, cond-false, and_parts, and_from}
use Rattle.std.proofs.lemmas.Map.Text.{is_eq-slice_cmp}
use Rattle.std.proofs.lemmas.List.{take_more, append_assoc, take-append-drop, append-nil, drop-drop, get_or_append_left, length-map, length-take-le, take-append-le, take-take, drop_at}
use Rattle.std.specs.Prelude.{slice_range}
use Rattle.hrana_value.specs.declared.value.Value.TheVariants.{Null, Integer, Text, Blob}
use Rattle.hrana_value.specs.declared.value.Value.{Value}
use Rattle.keeper_rows.specs.Keys.{keys_of, keys_at}
use Rattle.keeper_formulas.specs.Values.{value_at, is_null, is_equal}
use Rattle.keeper_rows.specs.declared.row.Row.{Row}
use Rattle.keeper_rows.specs.declared.spans.PlaceSpan.{PlaceSpan}
use Rattle.keeper_rows.specs.Spans.{replaced}
use Rattle.keeper_rows.specs.Constraint.{has_key, breaks_key, keeps_key}

apart : (bs cs ks : List ℕ) → bytes_eq bs cs ≡ false → is_eq (slice_cmp nat_cmp bs ks) ≡ true → is_eq (slice_cmp nat_cmp cs ks) ≡ false
apart bs cs ks n y = is_eq-slice_cmp cs ks ∙ nat_list_eq_equiv.symm cs ks ∙ sym (nat_list_eq_equiv.congr bs ks cs (sym (is_eq-slice_cmp bs ks) ∙ y)) ∙ n

other_entries : {K X : Type 0} (eq : K → K → Bool) (test : K → Bool) (old new : List (K × X)) → KeepsOthers eq test old new → (other : K → Bool) → IsKeyTest eq other → AreApart test other → lookup other new ≡ lookup other old
unfolding KeepsOthers
other_entries eq test old new h = h

-- what a change at some bytes, where f reads the bytes of a key, leaves at any bytes
pub updates_bytes : {K X : Type 0} (f : K → List ℕ) (m n : BTreeMap K X) (bs : List ℕ) (w : Option X) → UpdatesBy (λ x y. slice_cmp nat_cmp (f x) (f y)) (λ x. slice_cmp nat_cmp bs (f x)) m n w → (cs : List ℕ) → get_by (λ x. slice_cmp nat_cmp cs (f x)) n ≡ cond (bytes_eq bs cs) w (get_by (λ x. slice_cmp nat_cmp cs (f x)) m)
updates_bytes f m n bs w h cs =
    ⊎_elim
    (λ y. subst (λ l. get_by (λ x. slice_cmp nat_cmp l (f x)) n ≡ w) ((bytes_decides bs cs).0 y) h.1 ∙ sym (cond-true (bytes_eq bs cs) w (get_by (λ x. slice_cmp nat_cmp cs (f x)) m) y))
    (λ ne. other_entries _ _ _ _ h.3 (λ x. is_eq (slice_cmp nat_cmp cs (f x))) (λ x y. (eq_by_cmp_equiv nat_list_cmp_total).congr cs (f x) (f y)) (λ x. apart bs cs (f x) ne) ∙ sym (cond-false (bytes_eq bs cs) w (get_by (λ x. slice_cmp nat_cmp cs (f x)) m) ne))
    (cases_Bool (bytes_eq bs cs))

-- ---- equal keys

pub same_key : (a b : Value) → is_equal a b ≡ true → a ≡ b
same_key (Integer m) (Integer n) p = ap (λ v. Integer v) ((signed_Decides m n).0 p)
same_key (Text s) (Text t) p = ap (λ v. Text v) ((bytes_decides s t).0 p)
same_key (Blob s) (Blob t) p = ap (λ v. Blob v) ((bytes_decides s t).0 p)
same_key Null b p = absurd (true≢false (sym p))
same_key (Integer m) Null p = absurd (true≢false (sym p))
same_key (Integer m) (Text t) p = absurd (true≢false (sym p))
same_key (Integer m) (Blob t) p = absurd (true≢false (sym p))
same_key (Text s) Null p = absurd (true≢false (sym p))
same_key (Text s) (Integer n) p = absurd (true≢false (sym p))
same_key (Text s) (Blob t) p = absurd (true≢false (sym p))
same_key (Blob s) Null p = absurd (true≢false (sym p))
same_key (Blob s) (Integer n) p = absurd (true≢false (sym p))
same_key (Blob s) (Text t) p = absurd (true≢false (sym p))

pub equal_not_null : (a b : Value) → is_equal a b ≡ true → is_null a ≡ false
equal_not_null Null b p = absurd (true≢false (sym p))
equal_not_null (Integer m) b p = refl
equal_not_null (Text s) b p = refl
equal_not_null (Blob s) b p = refl

pub equal_self : (a : Value) → is_null a ≡ false → is_equal a a ≡ true
equal_self Null p = absurd (true≢false p)
equal_self (Integer m) p = (signed_Decides m m).1 refl
equal_self (Text s) p = (bytes_decides s s).1 refl
equal_self (Blob s) p = (bytes_decides s s).1 refl

pub null_is : (a : Value) → is_null a ≡ true → a ≡ Null
null_is Null p = refl
null_is (Integer m) p = absurd (true≢false (sym p))
null_is (Text s) p = absurd (true≢false (sym p))
null_is (Blob s) p = absurd (true≢false (sym p))

pub not_true : (b : Bool) → (b ≡ true → ⊥) → b ≡ false
not_true true h = absurd (h refl)
not_true false h = refl

pub neither : (a b : Bool) → (a || b) ≡ false → (a ≡ false) × (b ≡ false)
neither true b p = absurd (true≢false p)
neither false b p = (refl, p)

or_true : (a b : Bool) → b ≡ true → (a || b) ≡ true
or_true true b p = refl
or_true false b p = p

pub any_from_place : (test : Value → Bool) (keys : List Value) (p : ℕ) → test Null ≡ false → test (get_or keys p Null) ≡ true → list_any test keys ≡ true
any_from_place test [] p null holds = absurd (true≢false (sym holds ∙ null))
any_from_place test (key ∷ keys) zero null holds = ap (λ b. b || list_any test keys) holds
any_from_place test (key ∷ keys) (suc p) null holds = or_true (test key) (list_any test keys) (any_from_place test keys p null holds)

pub none_from_places : (test : Value → Bool) (keys : List Value) → ((p : ℕ) → test (get_or keys p Null) ≡ false) → list_any test keys ≡ false
none_from_places test [] none = refl
none_from_places test (key ∷ keys) none = ap (λ b. b || list_any test keys) (none zero) ∙ none_from_places test keys (λ p. none (suc p))

none_at_place : (test : Value → Bool) (keys : List Value) (p : ℕ) → list_any test keys ≡ false → p < length keys → test (get_or keys p Null) ≡ false
none_at_place test [] p none h = absurd (omega arith)
none_at_place test (key ∷ keys) zero none h = (neither (test key) (list_any test keys) none).0
none_at_place test (key ∷ keys) (suc p) none h = none_at_place test keys p (neither (test key) (list_any test keys) none).1 (omega arith)

-- ---- the constraint

-- a table without a key keeps it
pub keeps_no_key : (before rows : List Row) → keeps_key None before rows ≡ true
keeps_no_key before [] = refl
keeps_no_key before (row ∷ rows) = keeps_no_key (before ++ row ∷ []) rows

-- the rows before one more
pub row_behind : (before rows : List Row) (i : ℕ) (row : Row) → i < length rows → row ≡ get_or rows i row → before ++ take (i + 1) rows ≡ (before ++ take i rows) ++ row ∷ []
row_behind before rows i row h is = ap (λ l. before ++ l) (take_more rows i row h ∙ ap (λ z. take i rows ++ z ∷ []) (sym is)) ∙ sym (append_assoc before (take i rows) (row ∷ []))

-- rows with these keys keep the constraint, behind rows with those
abbrev pub keys_kept : List Value → List Value → Bool
keys_kept before [] = true
keys_kept before (key ∷ keys) = not (is_null key || list_any (λ k. is_equal k key) before) && keys_kept (before ++ key ∷ []) keys

pub any_key : (place : ℕ) (rows : List Row) (key : Value) → has_key place rows key ≡ list_any (λ k. is_equal k key) (keys_of place rows)
any_key place [] key = refl
any_key place (row ∷ rows) key = ap (λ b. is_equal (value_at row.values place) key || b) (any_key place rows key)

pub keys_of-append : (place : ℕ) (xs ys : List Row) → keys_of place (xs ++ ys) ≡ keys_of place xs ++ keys_of place ys
keys_of-append place [] ys = refl
keys_of-append place (x ∷ xs) ys = ap (λ l. value_at x.values place ∷ l) (keys_of-append place xs ys)

pub keeps_key-keys : (place : ℕ) (before rows : List Row) → keeps_key (Some place) before rows ≡ keys_kept (keys_of place before) (keys_of place rows)
keeps_key-keys place before [] = refl
keeps_key-keys place before (row ∷ rows) =
    let key = value_at row.values place in
    ap (λ b. not (is_null key || b) && keeps_key (Some place) (before ++ row ∷ []) rows) (any_key place before key)
    ∙ ap (λ b. not (is_null key || list_any (λ k. is_equal k key) (keys_of place before)) && b) (keeps_key-keys place (before ++ row ∷ []) rows)
    ∙ ap (λ l. not (is_null key || list_any (λ k. is_equal k key) (keys_of place before)) && keys_kept l (keys_of place rows)) (keys_of-append place before (row ∷ []))

keeps_key-append : (key : Option ℕ) (before xs ys : List Row) → keeps_key key before (xs ++ ys) ≡ (keeps_key key before xs && keeps_key key (before ++ xs) ys)
keeps_key-append key before [] ys = ap (λ l. keeps_key key l ys) (sym (append-nil before))
keeps_key-append key before (x ∷ xs) ys =
    ap (λ b. not (breaks_key key before x.values) && b) (keeps_key-append key (before ++ x ∷ []) xs ys)
    ∙ ap (λ l. not (breaks_key key before x.values) && (keeps_key key (before ++ x ∷ []) xs && keeps_key key l ys)) (append_assoc before (x ∷ []) xs)
    ∙ sym (and_assoc (not (breaks_key key before x.values)) (keeps_key key (before ++ x ∷ []) xs) (keeps_key key (before ++ x ∷ xs) ys))
  where
    and_assoc : (a b c : Bool) → ((a && b) && c) ≡ (a && (b && c))
    and_assoc true b c = refl
    and_assoc false b c = refl

-- rows that keep the constraint, and more that keep it behind them
pub keeps_key_both : (key : Option ℕ) (before rows : List Row) → keeps_key key [] before ≡ true → keeps_key key before rows ≡ true → keeps_key key [] (before ++ rows) ≡ true
keeps_key_both key before rows p q = keeps_key-append key [] before rows ∙ and_from (keeps_key key [] before) (keeps_key key before rows) p q

-- keys that are kept aren't null, and no two are equal
kept_pairs : (before rest : List Value) → keys_kept before rest ≡ true → (q : ℕ) → q < length rest → (is_null (get_or rest q Null) ≡ false) × ((p : ℕ) → p < length before + q → is_equal (get_or (before ++ rest) p Null) (get_or rest q Null) ≡ false)
kept_pairs before [] kept q h = absurd (omega arith)
kept_pairs before (key ∷ rest) kept zero h =
    let fits = not (is_null key || list_any (λ k. is_equal k key) before) in
    let first = and_parts fits (keys_kept (before ++ key ∷ []) rest) kept in
    let apart = neither (is_null key) (list_any (λ k. is_equal k key) before) (not_not (is_null key || list_any (λ k. is_equal k key) before) first.0) in (
      apart.0,
      λ p h. ap (λ k. is_equal k key) (get_or_append_left before (key ∷ rest) Null p (omega (arith, h))) ∙ none_at_place (λ k. is_equal k key) before p apart.1 (omega (arith, h)),
    )
  where
    not_not : (b : Bool) → not b ≡ true → b ≡ false
    not_not true p = absurd (true≢false (sym p))
    not_not false p = refl
kept_pairs before (key ∷ rest) kept (suc q) h =
    let first = and_parts (not (is_null key || list_any (λ k. is_equal k key) before)) (keys_kept (before ++ key ∷ []) rest) kept in
    let more = kept_pairs (before ++ key ∷ []) rest first.1 q (omega arith) in
    let long = length-append before (key ∷ []) in (
      more.0,
      λ p h. ap (λ l. is_equal (get_or l p Null) (get_or rest q Null)) (sym (append_assoc before (key ∷ []) rest)) ∙ more.1 p (omega (arith, h, long)),
    )

pub keys_sound : (column : ℕ) (rows : List Row) → keeps_key (Some column) [] rows ≡ true → (q : ℕ) → q < length rows → is_null (keys_at column rows q) ≡ false
keys_sound column rows kept q h = (kept_pairs [] (keys_of column rows) (sym (keeps_key-keys column [] rows) ∙ kept) q (let long = length-map rows (λ (row : Row). value_at row.values column) in omega (arith, h, long))).0

keys_before : (column : ℕ) (rows : List Row) → keeps_key (Some column) [] rows ≡ true → (p q : ℕ) → p < q → q < length rows → is_equal (keys_at column rows p) (keys_at column rows q) ≡ false
keys_before column rows kept p q less h = (kept_pairs [] (keys_of column rows) (sym (keeps_key-keys column [] rows) ∙ kept) q (let long = length-map rows (λ (row : Row). value_at row.values column) in omega (arith, h, long))).1 p (omega (arith, less))

-- no two rows have one key
pub keys_apart : (column : ℕ) (rows : List Row) → keeps_key (Some column) [] rows ≡ true → (p q : ℕ) → p ≢ q → p < length rows → q < length rows → is_equal (keys_at column rows p) (keys_at column rows q) ≡ false
keys_apart column rows kept p q differ h k =
    ⊎_elim
    (λ same. absurd (differ same))
    (λ cases.
    ⊎_elim
    (λ less. keys_before column rows kept p q less k)
    (λ less. not_true (is_equal (key p) (key q)) (λ equal.
    let same = same_key (key p) (key q) equal in
    true≢false (sym (ap (λ v. is_equal v (key p)) (sym same) ∙ equal_self (key p) (keys_sound column rows kept p h)) ∙ keys_before column rows kept q p less h)))
    cases)
    (cases_order p q)
  where
    key : ℕ → Value
    key place = keys_at column rows place

-- ---- rows and places

-- rows, from those at some places and those about them
pub rows_between : (rows : List Row) (from to : ℕ) → from ≤ to → to ≤ length rows → rows ≡ take from rows ++ slice_range rows from to ++ drop to rows
rows_between rows from to h k =
    let e : from + (to - from) ≡ to = omega arith in
    sym (take-append-drop from rows)
    ∙ ap (λ l. take from rows ++ l) (sym (take-append-drop (to - from) (drop from rows)) ∙ ap (λ l. take (to - from) (drop from rows) ++ l) (drop-drop (to - from) from rows ∙ ap (λ n. drop n rows) e))
    ∙ sym (append_assoc (take from rows) (take (to - from) (drop from rows)) (drop to rows))

pub exchanged_back : (rows news back : List Row) (span : PlaceSpan) → span.from ≤ span.to → span.to ≤ length rows → span.from + length news ≡ span.to → back ≡ slice_range rows span.from span.to → replaced (replaced rows span news) span back ≡ rows
exchanged_back rows news back span ordered within as_many is =
    let ahead = length-take-le span.from rows (omega (arith, ordered, within)) in
    let front = length-append (take span.from rows) news in
    let first : take span.from (replaced rows span news) ≡ take span.from rows =
    take-append-le span.from (take span.from rows ++ news) (drop span.to rows) (omega (arith, front, ahead))
    ∙ take-append-le span.from (take span.from rows) news (omega (arith, ahead))
    ∙ take-take span.from span.from rows (omega arith) in
    let last : drop span.to (replaced rows span news) ≡ drop span.to rows = drop_at (take span.from rows ++ news) (drop span.to rows) span.to (omega (arith, front, ahead, as_many)) in
    ap (λ l. l ++ back ++ drop span.to (replaced rows span news)) first
    ∙ ap (λ l. take span.from rows ++ back ++ l) last
    ∙ ap (λ l. take span.from rows ++ l ++ drop span.to rows) is
    ∙ sym (rows_between rows span.from span.to ordered within)

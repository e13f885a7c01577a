-- Tables of parameters: what stands in them, and what one more changes.
use Rattle.std.proofs.Common.{◌≡◌, ◌<◌, ◌≤◌, ◌+◌, ◌-◌, ◌*◌, ℕ, suc, zero, max, Bool, true, false, not, cond, List, [], ◌∷◌, length, get_or, set, drop, Some, None, refl, sym, ap, ◌∙◌, subst, arith}
use Rattle.std.specs.Prelude.{All, nat_lt, ◌==◌, ◌||◌, ◌&&◌}
use Rattle.std.proofs.lemmas.List.{drop-drop, drop-set-lt, drop_more, get_or-map, map-set, length-map, nil_from_length}
use Rattle.std.proofs.lemmas.List.Elements.{All-cons, All-head, All-tail}
use Rattle.std.proofs.lemmas.Bool.{cond_both, cond-true, cond-false, or_from, or_left, lt-ltb, le-ltb, eq-eqb, ne_eqb, and_left, or_parts, eqb-true, not-false, not_from_false}
use Rattle.std.specs.Str.{bytes_eq}
use Rattle.std.specs.Borrow.{Bor}
use Rattle.sql_text.specs.declared.limits.TheConstants.{MAX_PARAMETERS}
use Rattle.sql_text.specs.Parameters.{Numbered, greatest_from, greatest, has_number, is_named, is_name, number_of_name, digits_value, numbered, inserted, table_from, texts_of, IsKept}

pub digits_value_least : (n : ℕ) (ds : List ℕ) → n ≤ digits_value n ds
digits_value_least n [] = omega arith
digits_value_least n (d ∷ ds) = let more = digits_value_least (n * 10 + (d - 48)) ds in omega arith

-- ---- what stands at a number

-- no number below the first stands in a table
none_below : (n m : ℕ) (texts : List (List ℕ)) → n < m → has_number (table_from m texts) n ≡ false
none_below n m [] below = refl
none_below n m ([] ∷ texts) below = none_below n (m + 1) texts (omega arith)
none_below n m ((b ∷ bs) ∷ texts) below =
    or_from (m == n) (has_number (table_from (m + 1) texts) n) (ne_eqb m n (λ same. omega (arith, same))) (none_below n (m + 1) texts (omega arith))

-- a number stands in a table where its text isn't empty
pub has_at : (k m n : ℕ) (texts : List (List ℕ)) → n ≡ m + k → k < length texts → has_number (table_from m texts) n ≡ not (length (get_or texts k []) == 0)
has_at k m n [] at within = absurd (omega (arith, within))
has_at zero m n ([] ∷ texts) at within = none_below n (m + 1) texts (omega arith)
has_at zero m n ((b ∷ bs) ∷ texts) at within = or_left (m == n) (has_number (table_from (m + 1) texts) n) (eq-eqb m n (omega arith)) ∙ sym (not_from_false (length (b ∷ bs) == 0) (ne_eqb (length (b ∷ bs)) 0 (λ none. omega (arith, none))))
has_at (suc k) m n ([] ∷ texts) at within = has_at k (m + 1) n texts (omega arith) (omega arith)
has_at (suc k) m n ((b ∷ bs) ∷ texts) at within =
    ap (λ t. t || has_number (table_from (m + 1) texts) n) (ne_eqb m n (λ same. omega (arith, same)))
    ∙ has_at k (m + 1) n texts (omega arith) (omega arith)

-- past the end of a table nothing stands
past_more : (j m : ℕ) (texts : List (List ℕ)) → table_from m texts ≡ [] → table_from (m + j) (drop j texts) ≡ []
past_more zero m texts none = let same : m + 0 ≡ m = omega arith in ap (λ n. table_from n texts) same ∙ none
past_more (suc j) m [] none = refl
past_more (suc j) m ([] ∷ texts) none =
    let same : m + suc j ≡ m + 1 + j = omega arith in ap (λ n. table_from n (drop j texts)) same ∙ past_more j (m + 1) texts none
past_more (suc j) m ((b ∷ bs) ∷ texts) none = cc none

-- ---- one more

inserted_first : (p : Numbered) (m : ℕ) (texts : List (List ℕ)) → p.number < m → inserted p (table_from m texts) ≡ p ∷ table_from m texts
inserted_first p m [] below = refl
inserted_first p m ([] ∷ texts) below = inserted_first p (m + 1) texts (omega arith)
inserted_first p m ((b ∷ bs) ∷ texts) below =
    let q : Numbered = numbered m (b ∷ bs) in
    let rest : List Numbered = table_from (m + 1) texts in
    cond-true (nat_lt p.number m) (p ∷ q ∷ rest) (q ∷ inserted p rest) (lt-ltb p.number m below)

-- a text at a number that had none
pub table_set : (k m n : ℕ) (texts : List (List ℕ)) (text : List ℕ) → n ≡ m + k → k < length texts → get_or texts k [] ≡ [] → 0 < length text → table_from m (set texts k text) ≡ inserted (numbered n text) (table_from m texts)
table_set k m n texts [] at within none some = absurd (omega (arith, some))
table_set k m n [] (b ∷ bs) at within none some = absurd (omega (arith, within))
table_set zero m n ([] ∷ texts) (b ∷ bs) at within none some =
    let same : m ≡ n = omega arith in
    ap (λ i. numbered i (b ∷ bs) ∷ table_from (m + 1) texts) same ∙ sym (inserted_first (numbered n (b ∷ bs)) (m + 1) texts (omega arith))
table_set zero m n ((c ∷ cs) ∷ texts) (b ∷ bs) at within none some = cc none
table_set (suc k) m n ([] ∷ texts) (b ∷ bs) at within none some = table_set k (m + 1) n texts (b ∷ bs) (omega arith) (omega arith) none some
table_set (suc k) m n ((c ∷ cs) ∷ texts) (b ∷ bs) at within none some =
    let p : Numbered = numbered n (b ∷ bs) in
    let q : Numbered = numbered m (c ∷ cs) in
    let rest : List Numbered = table_from (m + 1) texts in
    ap (λ ps. q ∷ ps) (table_set k (m + 1) n texts (b ∷ bs) (omega arith) (omega arith) none some)
    ∙ sym (cond-false (nat_lt n m) (p ∷ q ∷ rest) (q ∷ inserted p rest) (le-ltb n m (omega arith)))

greatest_from_max : (a b : ℕ) (ps : List Numbered) → greatest_from (max a b) ps ≡ max (greatest_from a ps) b
greatest_from_max a b [] = refl
greatest_from_max a b (p ∷ ps) =
    let same : max (max a b) p.number ≡ max (max a p.number) b = omega arith in
    ap (λ n. greatest_from n ps) same ∙ greatest_from_max (max a p.number) b ps

greatest_from_inserted : (n : ℕ) (p : Numbered) (ps : List Numbered) → greatest_from n (inserted p ps) ≡ max (greatest_from n ps) p.number
greatest_from_inserted n p [] = refl
greatest_from_inserted n p (q ∷ qs) =
    let same : max (max n p.number) q.number ≡ max (max n q.number) p.number = omega arith in
    cond_both (nat_lt p.number q.number) (p ∷ q ∷ qs) (q ∷ inserted p qs) (λ ps. greatest_from n ps ≡ max (greatest_from n (q ∷ qs)) p.number)
    (λ _. ap (λ i. greatest_from i qs) same ∙ greatest_from_max (max n q.number) p.number qs)
    (λ _. greatest_from_inserted (max n q.number) p qs)

All-inserted : (P : Numbered → Type 0) (p : Numbered) (ps : List Numbered) → P p → All P ps → All P (inserted p ps)
All-inserted P p [] here all = All-cons P p [] here all
All-inserted P p (q ∷ qs) here all =
    cond_both (nat_lt p.number q.number) (p ∷ q ∷ qs) (q ∷ inserted p qs) (All P)
    (λ _. All-cons P p (q ∷ qs) here all)
    (λ _. All-cons P q (inserted p qs) (All-head P q qs all) (All-inserted P p qs here (All-tail P q qs all)))

-- a table with a text more keeps what stands beside it
pub kept_set : (most n : ℕ) (named : Bool) (texts : List (List ℕ)) (text : List ℕ) → IsKept most named texts → n < length texts → n ≤ MAX_PARAMETERS → get_or texts n [] ≡ [] → 0 < length text → IsKept (max most n) (named || not (get_or text 0 0 == 63)) (set texts n text)
kept_set most n named texts text kept within small none some =
    let is = table_set n 0 n texts text (omega arith) within none some in
    let p : Numbered = numbered n text in
    let ps : List Numbered = table_from 0 texts in
    let end : max most n + 1 ≡ most + 1 + (max most n - most) = omega arith in
    record {
      small = omega (arith, kept.small);
      is_greatest = ap (λ m. max m n) kept.is_greatest ∙ sym (ap greatest is ∙ greatest_from_inserted 0 p ps);
      past = ap (table_from (max most n + 1)) (drop-set-lt (max most n + 1) texts n text (omega arith))
          ∙ ap (λ m. table_from m (drop m texts)) end
          ∙ ap (table_from (most + 1 + (max most n - most))) (sym (drop-drop (max most n - most) (most + 1) texts))
          ∙ past_more (max most n - most) (most + 1) (drop (most + 1) texts) kept.past;
      unnamed = λ without.
          let both = or_parts named (not (get_or text 0 0 == 63)) without in
          subst (All (λ q. q.prefix ≡ 63)) (sym is) (All-inserted (λ q. q.prefix ≡ 63) p ps (eqb-true (get_or text 0 0) 63 (not-false (get_or text 0 0 == 63) both.1)) (kept.unnamed both.0));
    }

-- ---- names

-- a name is that of the first text, or of one of the rest
first_name : (prefix : ℕ) (name : List ℕ) (n : ℕ) (text : List ℕ) (texts : List (List ℕ)) → number_of_name prefix name (table_from n (text ∷ texts)) ≡ cond (is_name prefix name text) (Some n) (number_of_name prefix name (table_from (n + 1) texts))
first_name prefix name n [] texts = refl
first_name prefix name n (b ∷ bs) texts =
    let p : Numbered = numbered n (b ∷ bs) in
    ap (λ t. cond (t && is_named prefix name p) (Some n) (number_of_name prefix name (table_from (n + 1) texts))) (sym (lt-ltb 0 (length (b ∷ bs)) (omega arith)))

-- where none has a name, none has this
pub unnamed_none : (prefix : ℕ) (name : List ℕ) (ps : List Numbered) → (prefix ≡ 63 → ⊥) → All (λ p. p.prefix ≡ 63) ps → number_of_name prefix name ps ≡ None
unnamed_none prefix name [] other all = refl
unnamed_none prefix name (p ∷ ps) other all =
    let here : p.prefix ≡ 63 = All-head (λ q. q.prefix ≡ 63) p ps all in
    cond-false (is_named prefix name p) (Some p.number) (number_of_name prefix name ps) (and_left (p.prefix == prefix) (bytes_eq p.name name) (ne_eqb p.prefix prefix (λ same. other (sym same ∙ here))))
    ∙ unnamed_none prefix name ps other (All-tail (λ q. q.prefix ≡ 63) p ps all)

-- ---- tables as they lie in memory

module _ (texts : List (Bor (List ℕ))) (n place : ℕ) (d : Bor (List ℕ)) (same : place ≡ n) (size : length texts ≡ MAX_PARAMETERS + 1) (small : n ≤ MAX_PARAMETERS) where
  abbrev all : List (List ℕ)
  all = texts_of texts

  abbrev text : List ℕ
  text = (get_or texts place d).now

  all_size : length all ≡ MAX_PARAMETERS + 1
  all_size = length-map texts (λ t. t.now) ∙ size

  here : get_or all n [] ≡ text
  here = get_or-map (λ t. t.now) texts n d [] (omega arith) ∙ ap (λ i. (get_or texts i d).now) (sym same)

  none_here : (length text == 0) ≡ true → get_or all n [] ≡ []
  none_here empty = here ∙ nil_from_length text (eqb-true (length text) 0 empty)

  -- whether a number stands in a table
  pub table_has : not (length text == 0) ≡ has_number (table_from 0 all) n
  table_has = ap (λ t. not (length t == 0)) (sym here) ∙ sym (has_at n 0 n all (omega arith) (omega (arith, all_size)))

  -- a text more
  pub table_more : (given : Bor (List ℕ)) → (length text == 0) ≡ true → 0 < length given.now → table_from 0 (texts_of (set texts place given)) ≡ inserted (numbered n given.now) (table_from 0 all)
  table_more given empty some =
      ap (λ i. table_from 0 (texts_of (set texts i given))) same ∙ ap (table_from 0) (map-set (λ t. t.now) texts n given)
      ∙ table_set n 0 n all given.now (omega arith) (omega (arith, all_size)) (none_here empty) some

  pub kept_more : (most next : ℕ) (named : Bool) (given : Bor (List ℕ)) → IsKept most named all → next ≡ max most n → (length text == 0) ≡ true → 0 < length given.now → IsKept next (named || not (get_or given.now 0 0 == 63)) (texts_of (set texts place given))
  kept_more most next named given kept is empty some =
      let more : texts_of (set texts place given) ≡ set all n given.now = ap (λ i. texts_of (set texts i given)) same ∙ map-set (λ t. t.now) texts n given in
      subst (λ m. IsKept m (named || not (get_or given.now 0 0 == 63)) (texts_of (set texts place given))) (sym is)
      (subst (IsKept (max most n) (named || not (get_or given.now 0 0 == 63))) (sym more) (kept_set most n named all given.now kept (omega (arith, all_size)) small (none_here empty) some))

  -- a name is looked up number by number
  name_at : (prefix : ℕ) (name : List ℕ) → number_of_name prefix name (table_from n (drop n all)) ≡ cond (is_name prefix name text) (Some n) (number_of_name prefix name (table_from (n + 1) (drop (n + 1) all)))
  name_at prefix name =
      ap (λ ts. number_of_name prefix name (table_from n ts)) (drop_more all n [] (omega (arith, all_size)) ∙ ap (λ t. t ∷ drop (n + 1) all) here)
      ∙ first_name prefix name n text (drop (n + 1) all)

  pub name_other : (prefix : ℕ) (name : List ℕ) → is_name prefix name text ≡ false → number_of_name prefix name (table_from n (drop n all)) ≡ number_of_name prefix name (table_from (n + 1) (drop (n + 1) all))
  name_other prefix name other = name_at prefix name ∙ cond-false (is_name prefix name text) (Some n) (number_of_name prefix name (table_from (n + 1) (drop (n + 1) all))) other

  pub name_found : (prefix : ℕ) (name : List ℕ) → is_name prefix name text ≡ true → number_of_name prefix name (table_from n (drop n all)) ≡ Some n
  name_found prefix name is = name_at prefix name ∙ cond-true (is_name prefix name text) (Some n) (number_of_name prefix name (table_from (n + 1) (drop (n + 1) all))) is

-- The lists of the dialect are read exactly.
use Rattle.std.proofs.Common.{◌≡◌, ◌-◌, ℕ, Bool, true, false, cond, List, [], ◌∷◌, ◌++◌, length, take, drop, Ok, Err, refl, sym, ap, ◌∙◌, subst, arith}
use Rattle.std.specs.Prelude.{◌&&◌, not, nat_lt}
use Rattle.std.proofs.lemmas.List.{length-append}
use Rattle.keeper_dialect.specs.declared.limits.TheConstants.{MAX_COLUMNS}
use Rattle.keeper_dialect.specs.declared.tokens.Keyword.{Keyword}
use Rattle.keeper_dialect.specs.declared.tokens.Keyword.TheVariants as keyword
use Rattle.keeper_dialect.specs.declared.tokens.Symbol.{Symbol}
use Rattle.keeper_dialect.specs.declared.tokens.Symbol.TheVariants as symbol
use Rattle.keeper_dialect.specs.declared.query.Expr.{Expr}
use Rattle.keeper_dialect.specs.declared.query.ColDef.{ColDef}
use Rattle.keeper_dialect.specs.declared.query.ColExpr.{ColExpr}
use Rattle.keeper_dialect.specs.declared.query.Item.{Item}
use Rattle.keeper_dialect.specs.Tokens.{Token}
use Rattle.keeper_dialect.specs.Reading.{Reading, and_then, symbol_at, place_at, is_keyword, is_sign, keyword_at, sign_at}
use Rattle.keeper_dialect.specs.Terms.{expr_at, name_at, col_expr_at}
use Rattle.keeper_dialect.specs.Lists.{is_among, is_set, is_col, has_key, new_name_at, name_list_at, names_at, exprs_at, tuple_at, tuples_at, setting_at, set_at, sets_at, source_text, front, item_at, items_at, is_plain_word, after_type, key_at, col_name_at, col_def_at, cols_at, col_defs_at}
use Rattle.keeper_dialect.specs.Grammar.{Is, here, Then, both, Either, first, second, Single, one, standing, Keyed, Signed, Name, IsExpr, Unless, unless, Separated, Bracketed, NewName, Equation, IsItem, item, Nothing, TypeName, KeyMark, IsColDef, Names, Tuple}
use Rattle.keeper_dialect.proofs.ReadingLemmas.{then_ok, same_rest}
use Rattle.keeper_dialect.proofs.Shorter.{expr_within, new_name_within, tuple_within, set_within, item_within, col_def_within}
use Rattle.keeper_dialect.proofs.Exact.{Front, Exact, any, split, same_value, exact_is, exact_then, exact_next, exact_same, exact_less, exact_unless}
use Rattle.keeper_dialect.proofs.ExactTerms.{exact_keyword, exact_sign, exact_name}
use Rattle.keeper_dialect.proofs.ExactLists.{closes, closes_list, exact_expr, exact_separated, sign_is, found_some}

-- a value that takes no token is followed by what follows all
pub is_free : {A : Type 0} (z : A) (y : A) (f : Symbol → Bool) (vs rest : List Token) → Is z y vs → f (symbol_at rest) ≡ true → f (symbol_at (vs ++ rest)) ≡ true
is_free z y f vs rest here follows = follows

pub exact_new_name : (is_taken : List ℕ → Bool) → Exact (NewName is_taken) any (new_name_at is_taken)
unfolding new_name_at
exact_new_name is_taken = exact_unless is_taken Name any name_at place_at exact_name

-- the closing bracket follows what stands inside
closed_by : {A : Type 0} (x y : A) (f : Symbol → Bool) (vs rest : List Token) → f (symbol.Sign 41) ≡ true → Then (Signed 41) (λ _. Is x) y vs → f (symbol_at (vs ++ rest)) ≡ true
closed_by x y f vs rest fits (both u z us ws (one t v is) q) = ap f (sign_is 41 t.symbol (found_some (is_sign 41 t.symbol) v is)) ∙ fits

pub exact_brackets : {A : Type 0} (P : A → List Token → Type 0) (f : Symbol → Bool) (at : List Token → Reading A) → f (symbol.Sign 41) ≡ true → Exact P f at → Exact (Bracketed P) any (λ ts. and_then (sign_at 40 ts) (λ _ inner. and_then (at inner) (λ x after. and_then (sign_at 41 after) (λ _ rest. Ok (x, rest)))))
exact_brackets P f at fits exact =
    exact_next (Signed 40) _ any (sign_at 40) _ (exact_sign 40) (λ _.
    exact_then P (λ x. Then (Signed 41) (λ _. Is x)) f any at (λ x after. and_then (sign_at 41 after) (λ _ rest. Ok (x, rest))) exact
    (λ x. exact_next (Signed 41) (λ _. Is x) any (sign_at 41) (λ _ rest. Ok (x, rest)) (exact_sign 41) (λ _. exact_is x any))
    (λ x y vs rest q follows. closed_by x y f vs rest fits q))

pub exact_names : Exact Names any names_at
unfolding names_at name_list_at
exact_names = exact_brackets (Separated (λ done. NewName (is_among done))) closes_list _ refl (exact_separated (λ done. NewName (is_among done)) (λ done. new_name_at (is_among done)) (record { each = λ done. exact_less _ any closes _ (λ s is. refl) (exact_new_name (is_among done)); within = λ done ts. new_name_within (is_among done) ts (length ts) (omega arith) }))

pub exact_tuple : Exact Tuple any tuple_at
unfolding tuple_at exprs_at
exact_tuple = exact_brackets (Separated (λ done. IsExpr)) closes_list _ refl (exact_separated (λ done. IsExpr) (λ done. expr_at) (record { each = λ done. exact_expr; within = λ done ts. expr_within ts (length ts) (omega arith) }))

pub exact_tuples : Exact (Separated (λ done. Tuple)) closes_list tuples_at
unfolding tuples_at
exact_tuples = exact_separated (λ done. Tuple) (λ done. tuple_at) (record { each = λ done. exact_less _ any closes _ (λ s is. refl) exact_tuple; within = λ done ts. tuple_within ts (length ts) (omega arith) })

unfoldable pub equation_at : (List Token → Reading (List ℕ)) → List Token → Reading ColExpr
equation_at n ts = and_then (n ts) (λ name after. and_then (sign_at 61 after) (λ _ right. and_then (expr_at right) (λ e rest. Ok (record { column = name; expr = e }, rest))))

exact_equation : (N : List ℕ → List Token → Type 0) (n : List Token → Reading (List ℕ)) → Exact N any n → Exact (Equation N) closes (equation_at n)
unfolding equation_at
exact_equation N n exact =
    exact_next N _ closes n _ exact (λ name.
    exact_next (Signed 61) _ closes (sign_at 61) _ (exact_sign 61) (λ _.
    exact_then IsExpr (λ e. Is (record { column = name; expr = e })) closes closes expr_at (λ e rest. Ok (record { column = name; expr = e }, rest)) exact_expr (λ e. exact_is (record { column = name; expr = e }) closes)
    (λ e y vs rest q follows. is_free (record { column = name; expr = e }) y closes vs rest q follows)))

pub exact_col_expr : Exact (Equation Name) closes col_expr_at
unfolding equation_at col_expr_at
exact_col_expr = exact_equation Name name_at exact_name

exact_set : (done : List ColExpr) → Exact (Equation (NewName (is_set done))) closes (set_at done)
unfolding equation_at setting_at
exact_set done = exact_equation (NewName (is_set done)) (new_name_at (is_set done)) (exact_new_name (is_set done))

pub exact_sets : Exact (Separated (λ done. Equation (NewName (is_set done)))) closes_list sets_at
unfolding sets_at
exact_sets = exact_separated (λ done. Equation (NewName (is_set done))) set_at (record { each = exact_set; within = λ done ts. set_within done ts (length ts) (omega arith) })

-- the tokens before a rest
pub front_is : (us rest : List Token) → front (us ++ rest) rest ≡ us
front_is us rest =
    let size : length (us ++ rest) - length rest ≡ length us = omega (arith, length-append us rest) in
    ap (λ n. take n (us ++ rest)) size ∙ take_front us rest
  where
    take_front : (vs ws : List Token) → take (length vs) (vs ++ ws) ≡ vs
    take_front [] ws = refl
    take_front (v ∷ vs) ws = ap (λ us. v ∷ us) (take_front vs ws)

exact_item : Exact IsItem closes item_at
unfolding item_at
exact_item = record { sound = sound; complete = complete }
  where
    made : List Token → Expr → List Token → Reading Item
    made ts e rest = Ok (record { text = source_text (front ts rest); expr = e }, rest)

    sound : (ts : List Token) (x : Item) (rest : List Token) → and_then (expr_at ts) (made ts) ≡ Ok (x, rest) → Front IsItem x ts rest
    sound ts x rest is =
        let s = split (expr_at ts) (made ts) x rest is in
        let f = exact_expr.sound ts s.x s.mid s.before in
        let left = same_rest (record { text = source_text (front ts s.mid); expr = s.x }) x s.mid rest _ refl s.behind in
        let text_is : front ts s.mid ≡ f.front = ap (λ us. front us s.mid) f.whole ∙ front_is f.front s.mid in
        let value = same_value (record { text = source_text (front ts s.mid); expr = s.x }) x s.mid rest _ refl s.behind in
        subst (λ y. Front IsItem y ts rest) value (record { front = f.front; is = subst (λ us. IsItem (record { text = source_text us; expr = s.x }) f.front) (sym text_is) (item s.x f.front f.is); whole = f.whole ∙ ap (λ us. f.front ++ us) left })

    complete : (x : Item) (us rest : List Token) → IsItem x us → closes (symbol_at rest) ≡ true → and_then (expr_at (us ++ rest)) (made (us ++ rest)) ≡ Ok (x, rest)
    complete x us rest (item e vs p) follows = then_ok (expr_at (vs ++ rest)) (made (vs ++ rest)) e rest (exact_expr.complete e vs rest p follows) ∙ ap (λ ws. made_of e ws rest) (front_is vs rest)
      where
        made_of : Expr → List Token → List Token → Reading Item
        made_of e ws rest = Ok (record { text = source_text ws; expr = e }, rest)

pub exact_items : Exact (Separated (λ done. IsItem)) closes_list items_at
unfolding items_at
exact_items = exact_separated (λ done. IsItem) (λ done. item_at) (record { each = λ done. exact_item; within = λ done ts. item_within ts (length ts) (omega arith) })

-- what may follow a name of a type
no_word : Symbol → Bool
no_word s = not (is_plain_word s)

closes_word : (s : Symbol) → closes s ≡ true → is_plain_word s ≡ false
closes_word (symbol.Keyword k) is = refl
closes_word symbol.Word is = cc is
closes_word symbol.QuotedName is = refl
closes_word symbol.Text is = refl
closes_word symbol.Number is = refl
closes_word (symbol.Parameter n) is = refl
closes_word (symbol.Sign b) is = refl
closes_word symbol.Stray is = refl
closes_word symbol.End is = refl

closes_primary : (s : Symbol) → closes s ≡ true → is_keyword keyword.Primary s ≡ false
closes_primary (symbol.Keyword keyword.Count) is = refl
closes_primary (symbol.Keyword keyword.Create) is = refl
closes_primary (symbol.Keyword keyword.Delete) is = refl
closes_primary (symbol.Keyword keyword.From) is = refl
closes_primary (symbol.Keyword keyword.Insert) is = refl
closes_primary (symbol.Keyword keyword.Into) is = refl
closes_primary (symbol.Keyword keyword.Key) is = refl
closes_primary (symbol.Keyword keyword.Null) is = refl
closes_primary (symbol.Keyword keyword.Primary) is = cc is
closes_primary (symbol.Keyword keyword.Select) is = refl
closes_primary (symbol.Keyword keyword.Set) is = refl
closes_primary (symbol.Keyword keyword.Table) is = refl
closes_primary (symbol.Keyword keyword.Update) is = refl
closes_primary (symbol.Keyword keyword.Values) is = refl
closes_primary (symbol.Keyword keyword.Where) is = refl
closes_primary symbol.Word is = refl
closes_primary symbol.QuotedName is = refl
closes_primary symbol.Text is = refl
closes_primary symbol.Number is = refl
closes_primary (symbol.Parameter n) is = refl
closes_primary (symbol.Sign b) is = refl
closes_primary symbol.Stray is = refl
closes_primary symbol.End is = refl

-- a token that is tested, and then a part
abbrev pub Led : {A : Type 0} → (Symbol → Bool) → (A → List Token → Type 0) → A → List Token → Type 0
Led test Q = Then (Single (λ t. standing (test t.symbol))) (λ _. Q)

pub led_sound : {A : Type 0} (test : Symbol → Bool) (Q : A → List Token → Type 0) (f : Symbol → Bool) (at : List Token → Reading A) → test symbol.End ≡ false → Exact Q f at → (ts : List Token) (x : A) (rest : List Token) → test (symbol_at ts) ≡ true → at (drop 1 ts) ≡ Ok (x, rest) → Front (Led test Q) x ts rest
led_sound test Q f at ended exact [] x rest tested is = let wrong : false ≡ true = sym ended ∙ tested in cc wrong
led_sound test Q f at ended exact (t ∷ ts) x rest tested is =
    let behind = exact.sound ts x rest is in
    record { front = t ∷ behind.front; is = both tt x (t ∷ []) behind.front (one t tt (ap standing tested)) behind.is; whole = ap (λ us. t ∷ us) behind.whole }

pub record LedBy {A : Type 0} (test : Symbol → Bool) (at : List Token → Reading A) (ts : List Token) (x : A) (rest : List Token) : Type 0 where
  pub tested : test (symbol_at ts) ≡ true
  pub read : at (drop 1 ts) ≡ Ok (x, rest)

pub led_complete : {A : Type 0} (test : Symbol → Bool) (Q : A → List Token → Type 0) (f : Symbol → Bool) (at : List Token → Reading A) → Exact Q f at → (x : A) (us rest : List Token) → Led test Q x us → f (symbol_at rest) ≡ true → LedBy test at (us ++ rest) x rest
led_complete test Q f at exact x us rest (both u y ws vs (one t v is) q) follows = record { tested = found_some (test t.symbol) v is; read = exact.complete x vs rest q follows }

-- a part led by a tested token, or another part
pub exact_perhaps : {A : Type 0} (test : Symbol → Bool) (Q R : A → List Token → Type 0) (f : Symbol → Bool) (at bt : List Token → Reading A) → test symbol.End ≡ false → Exact Q f at → Exact R f bt → ((x : A) (us rest : List Token) → R x us → f (symbol_at rest) ≡ true → test (symbol_at (us ++ rest)) ≡ false) → Exact (Either (Led test Q) R) f (λ ts. cond (test (symbol_at ts)) (at (drop 1 ts)) (bt ts))
exact_perhaps {A = A} test Q R f at bt ended exact other differs = record { sound = λ ts x rest is. sound (test (symbol_at ts)) ts x rest refl is; complete = complete }
  where
    sound : (b : Bool) (ts : List Token) (x : A) (rest : List Token) → test (symbol_at ts) ≡ b → cond b (at (drop 1 ts)) (bt ts) ≡ Ok (x, rest) → Front (Either (Led test Q) R) x ts rest
    sound true ts x rest tested is = let f = led_sound test Q f at ended exact ts x rest tested is in record { front = f.front; is = first x f.front f.is; whole = f.whole }
    sound false ts x rest tested is = let f = other.sound ts x rest is in record { front = f.front; is = second x f.front f.is; whole = f.whole }

    complete : (x : A) (us rest : List Token) → Either (Led test Q) R x us → f (symbol_at rest) ≡ true → cond (test (symbol_at (us ++ rest))) (at (drop 1 (us ++ rest))) (bt (us ++ rest)) ≡ Ok (x, rest)
    complete x us rest (first y vs p) follows = let by = led_complete test Q f at exact x vs rest p follows in ap (λ b. cond b (at (drop 1 (vs ++ rest))) (bt (vs ++ rest))) by.tested ∙ by.read
    complete x us rest (second y vs q) follows = ap (λ b. cond b (at (drop 1 (vs ++ rest))) (bt (vs ++ rest))) (differs x vs rest q follows) ∙ other.complete x vs rest q follows

not_true : (b : Bool) → not b ≡ true → b ≡ false
not_true true wrong = cc wrong
not_true false right = refl

unfoldable pub type_at : List Token → Reading (Unit {0})
type_at ts = cond (is_plain_word (symbol_at ts)) (Ok (tt, drop 1 ts)) (Ok (tt, ts))

exact_type : Exact TypeName no_word type_at
unfolding type_at no_word
exact_type = exact_perhaps is_plain_word Nothing Nothing no_word (λ ts. Ok (tt, ts)) (λ ts. Ok (tt, ts)) refl (exact_is tt no_word) (exact_is tt no_word) differs
  where
    differs : (x : Unit {0}) (us rest : List Token) → Nothing x us → no_word (symbol_at rest) ≡ true → is_plain_word (symbol_at (us ++ rest)) ≡ false
    differs x us rest here follows = not_true (is_plain_word (symbol_at rest)) follows

key_word_at : List Token → Reading Bool
key_word_at ts = and_then (keyword_at keyword.Key ts) (λ _ rest. Ok (true, rest))

abbrev pub KeyWords : Bool → List Token → Type 0
KeyWords = Either (Then (Keyed keyword.Primary) (λ _. Then (Keyed keyword.Key) (λ _. Is true))) (Is false)

exact_key_words : Exact KeyWords closes (λ ts. cond (is_keyword keyword.Primary (symbol_at ts)) (key_word_at (drop 1 ts)) (Ok (false, ts)))
unfolding key_word_at
exact_key_words = exact_perhaps (is_keyword keyword.Primary) (Then (Keyed keyword.Key) (λ _. Is true)) (Is false) closes key_word_at (λ ts. Ok (false, ts)) refl (exact_next (Keyed keyword.Key) (λ _. Is true) closes (keyword_at keyword.Key) (λ _ rest. Ok (true, rest)) (exact_keyword keyword.Key) (λ _. exact_is true closes)) (exact_is false closes) differs
  where
    differs : (x : Bool) (us rest : List Token) → Is false x us → closes (symbol_at rest) ≡ true → is_keyword keyword.Primary (symbol_at (us ++ rest)) ≡ false
    differs x us rest here follows = closes_primary (symbol_at rest) follows

pub and_false : (b : Bool) → (b && false) ≡ false
and_false true = refl
and_false false = refl

exact_key : (had : Bool) → Exact (KeyMark had) closes (key_at had)
unfolding key_at key_word_at
exact_key false = record { sound = sound; complete = complete }
  where
    sound : (ts : List Token) (x : Bool) (rest : List Token) → cond (is_keyword keyword.Primary (symbol_at ts)) (key_word_at (drop 1 ts)) (Ok (false, ts)) ≡ Ok (x, rest) → Front (KeyMark false) x ts rest
    sound ts x rest is = let f = exact_key_words.sound ts x rest is in record { front = f.front; is = unless x f.front f.is (and_false x); whole = f.whole }

    complete : (x : Bool) (us rest : List Token) → KeyMark false x us → closes (symbol_at rest) ≡ true → cond (is_keyword keyword.Primary (symbol_at (us ++ rest))) (key_word_at (drop 1 (us ++ rest))) (Ok (false, us ++ rest)) ≡ Ok (x, rest)
    complete x us rest (unless y vs p fine) follows = exact_key_words.complete x vs rest p follows
exact_key true = record { sound = λ ts x rest is. sound (is_keyword keyword.Primary (symbol_at ts)) ts x rest is; complete = complete }
  where
    marked : Bool → List Token → Reading Bool
    marked b ts = cond b (Err (place_at ts)) (Ok (false, ts))

    sound : (b : Bool) (ts : List Token) (x : Bool) (rest : List Token) → marked b ts ≡ Ok (x, rest) → Front (KeyMark true) x ts rest
    sound true ts x rest is = cc is
    sound false ts x rest is = subst (λ z. Front (KeyMark true) z ts rest) (same_value false x ts rest _ refl is) (record { front = []; is = unless false [] (second false [] here) refl; whole = same_rest false x ts rest _ refl is })

    complete : (x : Bool) (us rest : List Token) → KeyMark true x us → closes (symbol_at rest) ≡ true → marked (is_keyword keyword.Primary (symbol_at (us ++ rest))) (us ++ rest) ≡ Ok (x, rest)
    complete x us rest (unless y vs (second z ws here) fine) follows = ap (λ b. marked b rest) (closes_primary (symbol_at rest) follows)
    complete x us rest (unless y vs (first z ws (both u w os ps p (both v k qs rs q here))) wrong) follows = cc wrong

abbrev pub ColName : List ColDef → List ℕ → List Token → Type 0
ColName done = Unless (λ name. not (nat_lt (length done) MAX_COLUMNS)) (NewName (is_col done))

exact_col_name : (done : List ColDef) → Exact (ColName done) any (col_name_at done)
unfolding col_name_at
exact_col_name done = record { sound = λ ts x rest is. sound (nat_lt (length done) MAX_COLUMNS) ts x rest refl is; complete = complete }
  where
    sound : (b : Bool) (ts : List Token) (x : List ℕ) (rest : List Token) → nat_lt (length done) MAX_COLUMNS ≡ b → cond b (new_name_at (is_col done) ts) (Err (place_at ts)) ≡ Ok (x, rest) → Front (ColName done) x ts rest
    sound true ts x rest few is = let f = (exact_new_name (is_col done)).sound ts x rest is in record { front = f.front; is = unless x f.front f.is (ap not few); whole = f.whole }
    sound false ts x rest few is = cc is

    few_of : (b : Bool) → not b ≡ false → b ≡ true
    few_of true right = refl
    few_of false wrong = cc wrong

    complete : (x : List ℕ) (us rest : List Token) → ColName done x us → true ≡ true → cond (nat_lt (length done) MAX_COLUMNS) (new_name_at (is_col done) (us ++ rest)) (Err (place_at (us ++ rest))) ≡ Ok (x, rest)
    complete x us rest (unless y vs p few) follows = ap (λ b. cond b (new_name_at (is_col done) (vs ++ rest)) (Err (place_at (vs ++ rest)))) (few_of (nat_lt (length done) MAX_COLUMNS) few) ∙ (exact_new_name (is_col done)).complete x vs rest p refl

unfoldable pub col_rest : List ColDef → List ℕ → List Token → Reading ColDef
col_rest done name after = and_then (key_at (has_key done) (after_type (symbol_at after) after)) (λ key rest. Ok (record { name = name; key = key }, rest))

unfoldable pub typed_rest : List ColDef → List ℕ → List Token → Reading ColDef
typed_rest done name after = and_then (type_at after) (λ _ mid. and_then (key_at (has_key done) mid) (λ key rest. Ok (record { name = name; key = key }, rest)))

pub same_typed : (done : List ColDef) (name : List ℕ) (ts : List Token) → col_rest done name ts ≡ typed_rest done name ts
unfolding col_rest typed_rest type_at and_then
same_typed done name ts = by_word (is_plain_word (symbol_at ts))
  where
    made : Bool → List Token → Reading ColDef
    made key rest = Ok (record { name = name; key = key }, rest)

    typed : Bool → Reading (Unit {0})
    typed b = cond b (Ok (tt, drop 1 ts)) (Ok (tt, ts))

    by_word : (b : Bool) → and_then (key_at (has_key done) (cond b (drop 1 ts) ts)) made ≡ and_then (typed b) (λ _ mid. and_then (key_at (has_key done) mid) made)
    by_word true = refl
    by_word false = refl

closes_no_word : (s : Symbol) → closes s ≡ true → no_word s ≡ true
unfolding no_word
closes_no_word s is = ap not (closes_word s is)

keyword_is : (k : Keyword) (s : Symbol) → is_keyword k s ≡ true → is_plain_word s ≡ false
keyword_is k (symbol.Keyword j) is = refl
keyword_is k symbol.Word is = cc is
keyword_is k symbol.QuotedName is = refl
keyword_is k symbol.Text is = refl
keyword_is k symbol.Number is = refl
keyword_is k (symbol.Parameter n) is = refl
keyword_is k (symbol.Sign b) is = refl
keyword_is k symbol.Stray is = refl
keyword_is k symbol.End is = refl

abbrev pub KeyedCol : List ColDef → List ℕ → ColDef → List Token → Type 0
KeyedCol done name = Then (KeyMark (has_key done)) (λ key. Is (record { name = name; key = key }))

key_follows : (done : List ColDef) (name : List ℕ) (y : ColDef) (vs rest : List Token) → KeyedCol done name y vs → closes (symbol_at rest) ≡ true → no_word (symbol_at (vs ++ rest)) ≡ true
unfolding no_word
key_follows done name y vs rest (both key z us ws (unless k as1 (second w bs here) fine) here) follows = closes_no_word (symbol_at rest) follows
key_follows done name y vs rest (both key z us ws (unless k as1 (first w bs (both u v os ps (one t m is) q)) fine) here) follows = ap not (keyword_is keyword.Primary t.symbol (found_some (is_keyword keyword.Primary t.symbol) m is))

exact_col_rest : (done : List ColDef) (name : List ℕ) → Exact (Then TypeName (λ _. KeyedCol done name)) closes (typed_rest done name)
unfolding typed_rest
exact_col_rest done name =
    exact_then TypeName (λ _. KeyedCol done name) no_word closes type_at _ exact_type
    (λ _. exact_then (KeyMark (has_key done)) (λ key. Is (record { name = name; key = key })) closes closes (key_at (has_key done)) (λ key rest. Ok (record { name = name; key = key }, rest)) (exact_key (has_key done)) (λ key. exact_is (record { name = name; key = key }) closes) (λ key y vs rest q follows. is_free (record { name = name; key = key }) y closes vs rest q follows))
    (λ u y vs rest q follows. key_follows done name y vs rest q follows)

pub exact_col_def : (done : List ColDef) → Exact (IsColDef done) closes (col_def_at done)
unfolding col_def_at col_rest
exact_col_def done =
    exact_next (ColName done) (λ name. Then TypeName (λ _. KeyedCol done name)) closes (col_name_at done) (col_rest done) (exact_col_name done) (λ name. exact_same (Then TypeName (λ _. KeyedCol done name)) closes (typed_rest done name) (col_rest done name) (λ ts. same_typed done name ts) (exact_col_rest done name))

pub exact_col_defs : Exact (Bracketed (Separated IsColDef)) any col_defs_at
unfolding col_defs_at cols_at
exact_col_defs = exact_brackets (Separated IsColDef) closes_list _ refl (exact_separated IsColDef col_def_at (record { each = exact_col_def; within = λ done ts. col_def_within done ts (length ts) (omega arith) }))

-- Queries go forward.
use Rattle.std.proofs.Common.{◌≡◌, ℕ, true, List, [], ◌∷◌, ◌++◌, length, Some, None, Ok, Err, refl, sym, ap, ◌∙◌, subst, arith}
use Rattle.keeper_dialect.specs.declared.tokens.Keyword.{Keyword}
use Rattle.keeper_dialect.specs.declared.tokens.Keyword.TheVariants as keyword
use Rattle.keeper_dialect.specs.declared.tokens.Symbol.{Symbol}
use Rattle.keeper_dialect.specs.declared.tokens.Symbol.TheVariants as symbol
use Rattle.keeper_dialect.specs.declared.query.Expr.{Expr}
use Rattle.keeper_dialect.specs.declared.query.ColExpr.{ColExpr}
use Rattle.keeper_dialect.specs.declared.query.Item.{Item}
use Rattle.keeper_dialect.specs.declared.query.Shown.{Shown}
use Rattle.keeper_dialect.specs.declared.query.Shown.TheVariants as shown
use Rattle.keeper_dialect.specs.declared.query.Query.{Query}
use Rattle.keeper_dialect.specs.declared.query.Query.TheVariants as query
use Rattle.keeper_dialect.specs.Tokens.{Token}
use Rattle.keeper_dialect.specs.Reading.{Reading, and_then, is_keyword, is_sign, keyword_at, sign_at}
use Rattle.keeper_dialect.specs.Terms.{name_at, expr_at, col_expr_at}
use Rattle.keeper_dialect.specs.Lists.{is_among, is_set, new_name_at, name_list_at, names_at, exprs_at, tuple_at, tuples_at, setting_at, set_at, sets_at, source_text, front, item_at, items_at, col_defs_at}
use Rattle.keeper_dialect.specs.Query.{filter_at, create_at, some_names_at, insert_at, from_at, count_at, list_at, select_at, update_at, delete_at, statement_by, statement_of, statement_at, is_end}
use Rattle.keeper_dialect.specs.Grammar.{Is, Then, both, Either, one, standing, Keyed, Signed, Name, IsExpr, Separated, Bracketed, NewName, Equation, IsItem, item, Names, Tuple, Filter, Counted, counted, From, IsColDef, IsQuery, create, insert, select, update, delete}
use Rattle.keeper_dialect.specs.Stops.{FullCols, CanBegin, by_query, by_columns}
use Rattle.keeper_dialect.proofs.ReadingLemmas.{then_ok, then_err}
use Rattle.keeper_dialect.proofs.Shorter.{expr_within, new_name_within, tuple_within, set_within, item_within}
use Rattle.keeper_dialect.proofs.ExactParts.{equation_at, front_is}
use Rattle.keeper_dialect.proofs.ExactQueries.{CreateRest, InsertRest, ListRest, Listed, CountOrList, count_or_list_at, SelectRest, UpdateRest, DeleteRest, CountTokens, brackets_at, counted_at, count_made, count_split, statement_at-is}
use Rattle.keeper_dialect.proofs.Forward.{Ended, Outcome, went, stopped, Forward, Begun, begun, Able, Going, head_of, outcome_behind, going_is, going_then, going_either, going_perhaps}
use Rattle.keeper_dialect.proofs.ForwardTerms.{some_token, tail_ended, going_keyword, going_sign, going_name}
use Rattle.keeper_dialect.proofs.ForwardLists.{going_expr, going_separated, going_brackets, going_new_name, fresh_name}
use Rattle.keeper_dialect.proofs.ForwardCols.{able_then, Partly, partly, filled, partly_behind, partly_before, able_col_defs, forward_col_defs}

going_names : Going Names names_at
unfolding names_at name_list_at
going_names = going_brackets (Separated (λ done. NewName (is_among done))) _ (going_separated (λ done. NewName (is_among done)) (λ done. new_name_at (is_among done)) (λ done. going_new_name (is_among done) (fresh_name (λ (name : List ℕ). name) done)) (λ done ts. new_name_within (is_among done) ts (length ts) (omega arith)))

going_tuple : Going Tuple tuple_at
unfolding tuple_at exprs_at
going_tuple = going_brackets (Separated (λ done. IsExpr)) _ (going_separated (λ done. IsExpr) (λ done. expr_at) (λ done. going_expr) (λ done ts. expr_within ts (length ts) (omega arith)))

going_tuples : Going (Separated (λ done. Tuple)) tuples_at
unfolding tuples_at
going_tuples = going_separated (λ done. Tuple) (λ done. tuple_at) (λ done. going_tuple) (λ done ts. tuple_within ts (length ts) (omega arith))

going_equation : (N : List ℕ → List Token → Type 0) (n : List Token → Reading (List ℕ)) → Going N n → Going (Equation N) (equation_at n)
unfolding equation_at
going_equation N n going =
    going_then N _ n _ going (λ name.
    going_then (Signed 61) _ (sign_at 61) _ (going_sign 61 refl) (λ _.
    going_then IsExpr (λ e. Is (record { column = name; expr = e })) expr_at (λ e rest. Ok (record { column = name; expr = e }, rest)) going_expr (λ e. going_is (record { column = name; expr = e }))))

going_col_expr : Going (Equation Name) col_expr_at
unfolding equation_at col_expr_at
going_col_expr = going_equation Name name_at going_name

going_set : (done : List ColExpr) → Going (Equation (NewName (is_set done))) (set_at done)
unfolding equation_at setting_at
going_set done = going_equation (NewName (is_set done)) (new_name_at (is_set done)) (going_new_name (is_set done) (fresh_name (λ (s : ColExpr). s.column) done))

going_sets : Going (Separated (λ done. Equation (NewName (is_set done)))) sets_at
unfolding sets_at
going_sets = going_separated (λ done. Equation (NewName (is_set done))) set_at going_set (λ done ts. set_within done ts (length ts) (omega arith))

going_item : Going IsItem item_at
unfolding item_at
going_item = record { forward = record { outcome = λ ts ended. by_expr ts (going_expr.forward.outcome ts ended) }; able = record { value = record { text = source_text going_expr.able.tokens; expr = going_expr.able.value }; tokens = going_expr.able.tokens; is = item going_expr.able.value going_expr.able.tokens going_expr.able.is } }
  where
    made : List Token → Expr → List Token → Reading Item
    made ts e rest = Ok (record { text = source_text (front ts rest); expr = e }, rest)

    made_of : Expr → List Token → List Token → Reading Item
    made_of e ws rest = Ok (record { text = source_text ws; expr = e }, rest)

    begins : (us : List Token) → Begun IsExpr us → Begun IsItem us
    begins us (begun e vs p) = begun (record { text = source_text (us ++ vs); expr = e }) vs (item e (us ++ vs) p)

    by_expr : (ts : List Token) → Outcome IsExpr (Begun IsExpr) expr_at ts → Outcome IsItem (Begun IsItem) item_at ts
    by_expr ts (went w) = went (record { value = record { text = source_text w.front; expr = w.value }; front = w.front; token = w.token; rest = w.rest; is = item w.value w.front w.is; ended = w.ended; whole = w.whole; goes = λ other. then_ok (expr_at (w.front ++ w.token ∷ other)) (made (w.front ++ w.token ∷ other)) w.value (w.token ∷ other) (w.goes other) ∙ ap (λ ws. made_of w.value ws (w.token ∷ other)) (front_is w.front (w.token ∷ other)) })
    by_expr ts (stopped s) = stopped (record { front = s.front; token = s.token; rest = s.rest; begins = begins s.front s.begins; whole = s.whole; stops = λ other. then_err (expr_at (s.front ++ s.token ∷ other)) (made (s.front ++ s.token ∷ other)) s.token.start (s.stops other) })

going_items : Going (Separated (λ done. IsItem)) items_at
unfolding items_at
going_items = going_separated (λ done. IsItem) (λ done. item_at) (λ done. going_item) (λ done ts. item_within ts (length ts) (omega arith))

going_filter : Going Filter filter_at
unfolding filter_at
going_filter = going_perhaps (is_keyword keyword.Where) (Then (Equation Name) (λ filter. Is (Some filter))) (Is None) (λ ts. and_then (col_expr_at ts) (λ filter rest. Ok (Some filter, rest))) (λ ts. Ok (None, ts)) refl (going_then (Equation Name) (λ filter. Is (Some filter)) col_expr_at (λ filter rest. Ok (Some filter, rest)) going_col_expr (λ filter. going_is (Some filter))) (going_is None)

going_from : (what : Shown) → Going (From what) (from_at what)
unfolding from_at
going_from what =
    going_then (Keyed keyword.From) _ (keyword_at keyword.From) _ (going_keyword keyword.From) (λ _.
    going_then Name _ name_at _ going_name (λ table.
    going_then Filter (λ filter. Is (query.Select what (Some table) filter)) filter_at (λ filter rest. Ok (query.Select what (Some table) filter, rest)) going_filter (λ filter. going_is (query.Select what (Some table) filter))))

abbrev FullRest : Unit {0} → List Token → Type 0
FullRest = Then (Keyed keyword.Table) (λ _. Then Name (λ table. Then (Signed 40) (λ _. FullCols)))

forward_create : Forward CreateRest (Partly CreateRest FullRest) create_at
unfolding create_at
forward_create =
    partly_behind (Keyed keyword.Table) (λ _. Then Name (λ table. Then (Bracketed (Separated IsColDef)) (λ cols. Is (query.Create table cols)))) (Then Name (λ table. Then (Signed 40) (λ _. FullCols))) (keyword_at keyword.Table) _ (going_keyword keyword.Table) (λ _.
    partly_behind Name (λ table. Then (Bracketed (Separated IsColDef)) (λ cols. Is (query.Create table cols))) (Then (Signed 40) (λ _. FullCols)) name_at _ going_name (λ table.
    partly_before (Bracketed (Separated IsColDef)) (λ cols. Is (query.Create table cols)) (Then (Signed 40) (λ _. FullCols)) col_defs_at (λ cols rest. Ok (query.Create table cols, rest)) forward_col_defs (λ cols. going_is (query.Create table cols))) able_table) (λ _. able_then Name _ going_name.able able_table)
  where
    able_table : (table : List ℕ) → Able (Then (Bracketed (Separated IsColDef)) (λ cols. Is (query.Create table cols)))
    able_table table = able_then (Bracketed (Separated IsColDef)) (λ cols. Is (query.Create table cols)) able_col_defs (λ cols. (going_is (query.Create table cols)).able)

going_some_names : Going (Either (Then Names (λ names. Is (Some names))) (Is None)) some_names_at
unfolding some_names_at
going_some_names = going_either (Then Names (λ names. Is (Some names))) (Is None) (is_sign 40) (λ ts. and_then (names_at ts) (λ names rest. Ok (Some names, rest))) (λ ts. Ok (None, ts)) (going_then Names (λ names. Is (Some names)) names_at (λ names rest. Ok (Some names, rest)) going_names (λ names. going_is (Some names))) (going_is None)

going_insert : Going InsertRest insert_at
unfolding insert_at
going_insert =
    going_then (Keyed keyword.Into) _ (keyword_at keyword.Into) _ (going_keyword keyword.Into) (λ _.
    going_then Name _ name_at _ going_name (λ table.
    going_then (Either (Then Names (λ names. Is (Some names))) (Is None)) _ some_names_at _ going_some_names (λ names.
    going_then (Keyed keyword.Values) _ (keyword_at keyword.Values) _ (going_keyword keyword.Values) (λ _.
    going_then (Separated (λ done. Tuple)) (λ tuples. Is (query.Insert table names tuples)) tuples_at (λ tuples rest. Ok (query.Insert table names tuples, rest)) going_tuples (λ tuples. going_is (query.Insert table names tuples))))))

going_counted : Going CountTokens counted_at
unfolding counted_at brackets_at
going_counted = going_then (Keyed keyword.Count) (λ _. Bracketed (Signed 42)) (keyword_at keyword.Count) _ (going_keyword keyword.Count) (λ _. going_brackets (Signed 42) (sign_at 42) (going_sign 42 refl))

going_count : Going Counted count_at
unfolding count_made
going_count = record { forward = record { outcome = λ ts ended. by_tokens ts (going_counted.forward.outcome ts ended) }; able = record { value = shown.Count (source_text going_counted.able.tokens); tokens = going_counted.able.tokens; is = counted going_counted.able.tokens going_counted.able.is } }
  where
    made : List Token → List Token → Reading Shown
    made ws rest = Ok (shown.Count (source_text ws), rest)

    begins : (us : List Token) → Begun CountTokens us → Begun Counted us
    begins us (begun u vs p) = begun (shown.Count (source_text (us ++ vs))) vs (counted (us ++ vs) p)

    by_tokens : (ts : List Token) → Outcome CountTokens (Begun CountTokens) counted_at ts → Outcome Counted (Begun Counted) count_at ts
    by_tokens ts (went w) = went (record { value = shown.Count (source_text w.front); front = w.front; token = w.token; rest = w.rest; is = counted w.front w.is; ended = w.ended; whole = w.whole; goes = λ other. count_split (w.front ++ w.token ∷ other) ∙ then_ok (counted_at (w.front ++ w.token ∷ other)) (count_made (w.front ++ w.token ∷ other)) w.value (w.token ∷ other) (w.goes other) ∙ ap (λ ws. made ws (w.token ∷ other)) (front_is w.front (w.token ∷ other)) })
    by_tokens ts (stopped s) = stopped (record { front = s.front; token = s.token; rest = s.rest; begins = begins s.front s.begins; whole = s.whole; stops = λ other. count_split (s.front ++ s.token ∷ other) ∙ then_err (counted_at (s.front ++ s.token ∷ other)) (count_made (s.front ++ s.token ∷ other)) s.token.start (s.stops other) })

going_listed : Going Listed list_at
unfolding list_at
going_listed =
    going_then (Separated (λ done. IsItem)) ListRest items_at _ going_items (λ items.
    going_either (From (shown.List items)) (Is (query.Select (shown.List items) None None)) (is_keyword keyword.From) (from_at (shown.List items)) (λ ts. Ok (query.Select (shown.List items) None None, ts)) (going_from (shown.List items)) (going_is (query.Select (shown.List items) None None)))

going_count_or_list : Going CountOrList count_or_list_at
unfolding count_or_list_at
going_count_or_list = going_either (Then Counted From) Listed (is_keyword keyword.Count) (λ ts. and_then (count_at ts) from_at) list_at (going_then Counted From count_at from_at going_count going_from) going_listed

going_select : Going SelectRest select_at
unfolding select_at count_or_list_at
going_select = going_perhaps (is_sign 42) (From shown.All) CountOrList (from_at shown.All) count_or_list_at refl (going_from shown.All) going_count_or_list

going_update : Going UpdateRest update_at
unfolding update_at
going_update =
    going_then Name _ name_at _ going_name (λ table.
    going_then (Keyed keyword.Set) _ (keyword_at keyword.Set) _ (going_keyword keyword.Set) (λ _.
    going_then (Separated (λ done. Equation (NewName (is_set done)))) _ sets_at _ going_sets (λ sets.
    going_then Filter (λ filter. Is (query.Update table sets filter)) filter_at (λ filter rest. Ok (query.Update table sets filter, rest)) going_filter (λ filter. going_is (query.Update table sets filter)))))

going_delete : Going DeleteRest delete_at
unfolding delete_at
going_delete =
    going_then (Keyed keyword.From) _ (keyword_at keyword.From) _ (going_keyword keyword.From) (λ _.
    going_then Name _ name_at _ going_name (λ table.
    going_then Filter (λ filter. Is (query.Delete table filter)) filter_at (λ filter rest. Ok (query.Delete table filter, rest)) going_filter (λ filter. going_is (query.Delete table filter))))

-- behind the first word
abbrev LedBy : Keyword → (Query → List Token → Type 0) → Query → List Token → Type 0
LedBy k Q = Then (Keyed k) (λ _. Q)

led : (k : Keyword) (Q : Query → List Token → Type 0) (t : Token) → t.symbol ≡ symbol.Keyword k → is_keyword k (symbol.Keyword k) ≡ true → (x : Query) (us : List Token) → Q x us → LedBy k Q x (t ∷ us)
led k Q t is self x us q = both tt x (t ∷ []) us (one t tt (ap standing (ap (is_keyword k) is ∙ self))) q

led_outcome : (k : Keyword) (Q : Query → List Token → Type 0) (at : List Token → Reading Query) (t : Token) (us : List Token) → t.symbol ≡ symbol.Keyword k → is_keyword k (symbol.Keyword k) ≡ true → Going Q at → Ended us → ((x : Query) (us : List Token) → LedBy k Q x us → IsQuery x us) → ((ws : List Token) → statement_by k (t ∷ ws) ≡ at ws) → Outcome IsQuery CanBegin statement_at (t ∷ us)
led_outcome k Q at t us is self going ended made same = outcome_behind Q IsQuery (Begun Q) CanBegin at statement_at t us (going.forward.outcome us ended) (λ x us q. made x (t ∷ us) (led k Q t is self x us q)) begins (λ ws. statement_at-is k (t ∷ ws) is ∙ same ws)
  where
    begins : (us : List Token) → Begun Q us → CanBegin (t ∷ us)
    begins us (begun x vs q) = by_query x vs (made x (t ∷ (us ++ vs)) (led k Q t is self x (us ++ vs) q))

create_outcome : (t : Token) (us : List Token) → t.symbol ≡ symbol.Keyword keyword.Create → Ended us → Outcome IsQuery CanBegin statement_at (t ∷ us)
create_outcome t us is ended = outcome_behind CreateRest IsQuery (Partly CreateRest FullRest) CanBegin create_at statement_at t us (forward_create.outcome us ended) (λ x us q. create x (t ∷ us) (led keyword.Create CreateRest t is refl x us q)) begins (λ ws. statement_at-is keyword.Create (t ∷ ws) is)
  where
    begins : (us : List Token) → Partly CreateRest FullRest us → CanBegin (t ∷ us)
    begins us (partly (begun x vs q)) = by_query x vs (create x (t ∷ (us ++ vs)) (led keyword.Create CreateRest t is refl x (us ++ vs) q))
    begins us (filled f) = by_columns (both tt tt (t ∷ []) us (one t tt (ap standing (ap (is_keyword keyword.Create) is))) f)

-- some query begins each text
none_begun : CanBegin []
none_begun =
    let t = some_token (symbol.Keyword keyword.Delete) [] in
    by_query going_delete.able.value (t ∷ going_delete.able.tokens) (delete going_delete.able.value (t ∷ going_delete.able.tokens) (led keyword.Delete DeleteRest t refl refl going_delete.able.value going_delete.able.tokens going_delete.able.is))

refused : (t : Token) (us : List Token) → ((ws : List Token) → statement_at (t ∷ ws) ≡ Err t.start) → Outcome IsQuery CanBegin statement_at (t ∷ us)
refused t us is = stopped (record { front = []; token = t; rest = us; begins = none_begun; whole = refl; stops = is })

keyword_outcome : (k : Keyword) (t : Token) (us : List Token) → t.symbol ≡ symbol.Keyword k → Ended us → Outcome IsQuery CanBegin statement_at (t ∷ us)
keyword_outcome keyword.Count t us is ended = refused t us (λ ws. statement_at-is keyword.Count (t ∷ ws) is)
keyword_outcome keyword.Create t us is ended = create_outcome t us is ended
keyword_outcome keyword.Delete t us is ended = led_outcome keyword.Delete DeleteRest delete_at t us is refl going_delete ended delete (λ ws. refl)
keyword_outcome keyword.From t us is ended = refused t us (λ ws. statement_at-is keyword.From (t ∷ ws) is)
keyword_outcome keyword.Insert t us is ended = led_outcome keyword.Insert InsertRest insert_at t us is refl going_insert ended insert (λ ws. refl)
keyword_outcome keyword.Into t us is ended = refused t us (λ ws. statement_at-is keyword.Into (t ∷ ws) is)
keyword_outcome keyword.Key t us is ended = refused t us (λ ws. statement_at-is keyword.Key (t ∷ ws) is)
keyword_outcome keyword.Null t us is ended = refused t us (λ ws. statement_at-is keyword.Null (t ∷ ws) is)
keyword_outcome keyword.Primary t us is ended = refused t us (λ ws. statement_at-is keyword.Primary (t ∷ ws) is)
keyword_outcome keyword.Select t us is ended = led_outcome keyword.Select SelectRest select_at t us is refl going_select ended select (λ ws. refl)
keyword_outcome keyword.Set t us is ended = refused t us (λ ws. statement_at-is keyword.Set (t ∷ ws) is)
keyword_outcome keyword.Table t us is ended = refused t us (λ ws. statement_at-is keyword.Table (t ∷ ws) is)
keyword_outcome keyword.Update t us is ended = led_outcome keyword.Update UpdateRest update_at t us is refl going_update ended update (λ ws. refl)
keyword_outcome keyword.Values t us is ended = refused t us (λ ws. statement_at-is keyword.Values (t ∷ ws) is)
keyword_outcome keyword.Where t us is ended = refused t us (λ ws. statement_at-is keyword.Where (t ∷ ws) is)

statement_at-other : (s : Symbol) (t : Token) (ws : List Token) → t.symbol ≡ s → statement_of s (t ∷ ws) ≡ Err t.start → statement_at (t ∷ ws) ≡ Err t.start
unfolding statement_at
statement_at-other s t ws is stops = ap (λ s. statement_of s (t ∷ ws)) is ∙ stops

symbol_outcome : (s : Symbol) (t : Token) (us : List Token) → t.symbol ≡ s → Ended (t ∷ us) → Outcome IsQuery CanBegin statement_at (t ∷ us)
symbol_outcome (symbol.Keyword k) t us is ended = keyword_outcome k t us is (tail_ended t us ended (ap is_end is))
symbol_outcome symbol.Word t us is ended = refused t us (λ ws. statement_at-other symbol.Word t ws is refl)
symbol_outcome symbol.QuotedName t us is ended = refused t us (λ ws. statement_at-other symbol.QuotedName t ws is refl)
symbol_outcome symbol.Text t us is ended = refused t us (λ ws. statement_at-other symbol.Text t ws is refl)
symbol_outcome symbol.Number t us is ended = refused t us (λ ws. statement_at-other symbol.Number t ws is refl)
symbol_outcome (symbol.Parameter n) t us is ended = refused t us (λ ws. statement_at-other (symbol.Parameter n) t ws is refl)
symbol_outcome (symbol.Sign b) t us is ended = refused t us (λ ws. statement_at-other (symbol.Sign b) t ws is refl)
symbol_outcome symbol.Stray t us is ended = refused t us (λ ws. statement_at-other symbol.Stray t ws is refl)
symbol_outcome symbol.End t us is ended = refused t us (λ ws. statement_at-other symbol.End t ws is refl)

pub statement_outcome : (ts : List Token) → Ended ts → Outcome IsQuery CanBegin statement_at ts
statement_outcome ts ended = let h = head_of ts ended in subst (Outcome IsQuery CanBegin statement_at) (sym h.whole) (symbol_outcome h.token.symbol h.token h.rest refl h.ended)

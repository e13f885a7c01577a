-- Where a text that is refused stops.
use Rattle.std.proofs.Common.{◌≡◌, ◌+◌, ℕ, Bool, true, false, cond, List, [], ◌∷◌, ◌++◌, length, Some, None, Ok, Err, refl, sym, ap, ◌∙◌, subst, append_assoc, append-nil, arith}
use Rattle.std.proofs.lemmas.List.{length-append}
use Rattle.std.specs.Prelude.{nat_lt}
use Rattle.keeper_dialect.specs.declared.limits.TheConstants.{MAX_COLUMNS}
use Rattle.keeper_dialect.specs.declared.tokens.Keyword.TheVariants as keyword
use Rattle.keeper_dialect.specs.declared.tokens.Symbol.TheVariants as symbol
use Rattle.keeper_dialect.specs.declared.query.ColDef.{ColDef}
use Rattle.keeper_dialect.specs.declared.query.Query.{Query}
use Rattle.keeper_dialect.specs.declared.query.Query.TheVariants as query
use Rattle.keeper_dialect.specs.Tokens.{Token, tokens_of}
use Rattle.keeper_dialect.specs.Reading.{Reading, and_then, repeated, behind_comma, separated, symbol_at, place_at, is_keyword, is_sign, keyword_at, sign_at}
use Rattle.keeper_dialect.specs.Terms.{name_at}
use Rattle.keeper_dialect.specs.Lists.{col_def_at, cols_at, col_defs_at}
use Rattle.keeper_dialect.specs.Query.{create_at, statement_at, is_end, whole_at, answer_of, query_of}
use Rattle.keeper_dialect.specs.Grammar.{here, Then, both, Repeated, none, more, one, Keyed, Signed, Name, unless, IsColDef, IsQuery, IsQueryOf, create}
use Rattle.keeper_dialect.specs.Stops.{FullCols, FullTable, CanBegin, by_query, by_columns, StopsAt, NoQueryStops, NoTextStopsAtTwoPlaces}
use Rattle.keeper_dialect.proofs.ReadingLemmas.{same_rest, then_ok, then_err, repeated-goes, repeated-fails}
use Rattle.keeper_dialect.proofs.Shorter.{col_def_within}
use Rattle.keeper_dialect.proofs.Exact.{Exact, ExactNext, any}
use Rattle.keeper_dialect.proofs.ExactTerms.{exact_keyword, exact_sign, exact_name}
use Rattle.keeper_dialect.proofs.ExactLists.{Behind, Parts, closes, closes_list, exact_behind, sign_is, found_some}
use Rattle.keeper_dialect.proofs.ExactParts.{exact_col_def}
use Rattle.keeper_dialect.proofs.ExactQueries.{query_of-complete, same_keyword, statement_at-is, statement_complete}
use Rattle.keeper_dialect.proofs.Forward.{Outcome, went, stopped}
use Rattle.keeper_dialect.proofs.ForwardTerms.{some_token}
use Rattle.keeper_dialect.proofs.ForwardCols.{cols_go_on, col_def_at-full}
use Rattle.keeper_dialect.proofs.ForwardQueries.{statement_outcome}
use Rattle.keeper_dialect.proofs.TokenEnds.{tokens_ended, end_place}

-- what is behind a part is refused
behind_stops : {A B : Type 0} (P : A → List Token → Type 0) (at : List Token → Reading A) (k : A → List Token → Reading B) (x : A) (us vs rest : List Token) (n : ℕ) → Exact P any at → P x us → k x (vs ++ rest) ≡ Err n → and_then (at ((us ++ vs) ++ rest)) k ≡ Err n
behind_stops P at k x us vs rest n exact p stops = ap (λ ws. and_then (at ws) k) (append_assoc us vs rest) ∙ then_ok (at (us ++ (vs ++ rest))) k x (vs ++ rest) (exact.complete x us (vs ++ rest) p refl) ∙ stops

col_parts : Parts IsColDef col_def_at
col_parts = record { each = exact_col_def; within = λ done ts. col_def_within done ts (length ts) (omega arith) }

exact_next_col : ExactNext (Behind IsColDef) closes closes_list (behind_comma col_def_at)
exact_next_col = exact_behind IsColDef col_def_at col_parts

-- a comma may follow a column, and so may what stands behind one
comma_closes : (done xs : List ColDef) (ws : List Token) (comma : Token) (rest : List Token) → Repeated (Behind IsColDef) done xs ws → is_sign 44 comma.symbol ≡ true → closes (symbol_at (ws ++ comma ∷ rest)) ≡ true
comma_closes done xs ws comma rest (none same) is = ap closes (sign_is 44 comma.symbol is)
comma_closes done xs ws comma rest (more same x ys us vs p ps) is = subst (λ ts. closes (symbol_at ts) ≡ true) (sym (append_assoc us vs (comma ∷ rest))) (exact_next_col.goes done x us (vs ++ comma ∷ rest) p)

-- behind all the columns that a table may have, and a comma, any token is refused
full_repeated : (done xs : List ColDef) (ws : List Token) (comma s : Token) (other : List Token) → Repeated (Behind IsColDef) done xs ws → is_sign 44 comma.symbol ≡ true → nat_lt (length (done ++ xs)) MAX_COLUMNS ≡ false → repeated (behind_comma col_def_at) (length (ws ++ comma ∷ s ∷ other)) done (ws ++ comma ∷ s ∷ other) ≡ Err s.start
full_repeated done xs ws comma s other (none same) is full = repeated-fails (behind_comma col_def_at) cols_go_on done (comma ∷ s ∷ other) s.start (ap (λ b. cond b (Some (col_def_at done (s ∷ other))) None) is ∙ ap (λ r. Some r) (col_def_at-full done s other (ap (λ cols. nat_lt (length cols) MAX_COLUMNS) (sym (append-nil done)) ∙ full)))
full_repeated done xs ws comma s other (more same x ys us vs p ps) is full =
    let at = exact_next_col.complete done x us (vs ++ comma ∷ s ∷ other) p (comma_closes (done ++ x ∷ []) ys vs comma (s ∷ other) ps is) in
    ap (λ ts. repeated (behind_comma col_def_at) (length ts) done ts) (append_assoc us vs (comma ∷ s ∷ other)) ∙ repeated-goes (behind_comma col_def_at) cols_go_on done (us ++ (vs ++ comma ∷ s ∷ other)) x (vs ++ comma ∷ s ∷ other) at ∙ full_repeated (done ++ x ∷ []) ys vs comma s other ps is (ap (λ cols. nat_lt (length cols) MAX_COLUMNS) (append_assoc done (x ∷ []) ys) ∙ full)

full_cols : (us : List Token) (s : Token) (other : List Token) → FullCols tt us → cols_at (us ++ s ∷ other) ≡ Err s.start
unfolding cols_at separated
full_cols us s other (both cols u ms bs (unless cs ds (both x zs as1 as2 p (both xs w ws es r here)) full) (one comma v is)) =
    let sign = found_some (is_sign 44 comma.symbol) v is in
    let rest = comma ∷ s ∷ other in
    ap (separated col_def_at) (append_assoc (as1 ++ (ws ++ [])) (comma ∷ []) (s ∷ other) ∙ append_assoc as1 (ws ++ []) rest ∙ ap (λ vs. as1 ++ vs) (append_assoc ws [] rest))
    ∙ then_ok (col_def_at [] (as1 ++ (ws ++ rest))) _ x (ws ++ rest) ((exact_col_def []).complete x as1 (ws ++ rest) p (comma_closes (x ∷ []) xs ws comma (s ∷ other) r sign)) ∙ full_repeated (x ∷ []) xs ws comma s other r sign full

full_brackets : (us : List Token) (s : Token) (other : List Token) → Then (Signed 40) (λ _. FullCols) tt us → col_defs_at (us ++ s ∷ other) ≡ Err s.start
unfolding col_defs_at
full_brackets us s other (both u w ms bs p f) = behind_stops (Signed 40) (sign_at 40) _ u ms bs (s ∷ other) s.start (exact_sign 40) p (then_err (cols_at (bs ++ s ∷ other)) _ s.start (full_cols bs s other f))

full_named : (us : List Token) (s : Token) (other : List Token) → Then (Keyed keyword.Table) (λ _. Then Name (λ table. Then (Signed 40) (λ _. FullCols))) tt us → create_at (us ++ s ∷ other) ≡ Err s.start
unfolding create_at
full_named us s other (both u w ms bs p (both table z cs ds q f)) =
    behind_stops (Keyed keyword.Table) (keyword_at keyword.Table) _ u ms (cs ++ ds) (s ∷ other) s.start (exact_keyword keyword.Table) p
    (behind_stops Name name_at _ table cs ds (s ∷ other) s.start exact_name q (then_err (col_defs_at (ds ++ s ∷ other)) _ s.start (full_brackets ds s other f)))

full_stops : (us : List Token) (s : Token) (other : List Token) → FullTable tt us → statement_at (us ++ s ∷ other) ≡ Err s.start
full_stops us s other (both u w ms bs (one t v is) f) =
    statement_at-is keyword.Create (t ∷ (bs ++ s ∷ other)) (same_keyword keyword.Create t.symbol (found_some (is_keyword keyword.Create t.symbol) v is)) ∙ full_named bs s other f

-- a token that can't follow, whatever follows it
record Refused (ts : List Token) (at : ℕ) : Type 0 where
  before : List Token
  token : Token
  rest : List Token
  whole : ts ≡ before ++ token ∷ rest
  begins : CanBegin before
  stops : (other : List Token) → whole_at (before ++ token ∷ other) ≡ Err token.start
  place : token.start ≡ at

same_place : (r : Reading Query) (m n : ℕ) → r ≡ Err m → r ≡ Err n → m ≡ n
same_place r m n is_first is_second = cc

judged : Bool → Query → List Token → Reading Query
judged b q rest = cond b (Ok (q, rest)) (Err (place_at rest))

refused_by : (ts : List Token) (at : ℕ) → whole_at ts ≡ Err at → Outcome IsQuery CanBegin statement_at ts → Refused ts at
unfolding whole_at judged
refused_by ts at is (stopped s) =
    let stops : (other : List Token) → whole_at (s.front ++ s.token ∷ other) ≡ Err s.token.start = λ other. then_err (statement_at (s.front ++ s.token ∷ other)) _ s.token.start (s.stops other) in
    record { before = s.front; token = s.token; rest = s.rest; whole = s.whole; begins = s.begins; stops = stops; place = same_place (whole_at ts) s.token.start at (ap whole_at s.whole ∙ stops s.rest) is }
refused_by ts at is (went w) = by_end (is_end w.token.symbol) refl
  where
    read : (other : List Token) → whole_at (w.front ++ w.token ∷ other) ≡ judged (is_end w.token.symbol) w.value (w.token ∷ other)
    read other = then_ok (statement_at (w.front ++ w.token ∷ other)) _ w.value (w.token ∷ other) (w.goes other)

    by_end : (b : Bool) → is_end w.token.symbol ≡ b → Refused ts at
    by_end true end = let wrong : Ok (w.value, w.token ∷ w.rest) ≡ Err at = sym (ap whole_at w.whole ∙ read w.rest ∙ ap (λ b. judged b w.value (w.token ∷ w.rest)) end) ∙ is in cc wrong
    by_end false end =
        let stops : (other : List Token) → whole_at (w.front ++ w.token ∷ other) ≡ Err w.token.start = λ other. read other ∙ ap (λ b. judged b w.value (w.token ∷ other)) end in
        record { before = w.front; token = w.token; rest = w.rest; whole = w.whole; begins = by_query w.value [] (subst (IsQuery w.value) (sym (append-nil w.front)) w.is); stops = stops; place = same_place (whole_at ts) w.token.start at (ap whole_at w.whole ∙ stops w.rest) is }

whole_complete : (q : Query) (us rest : List Token) → IsQuery q us → is_end (symbol_at rest) ≡ true → whole_at (us ++ rest) ≡ Ok (q, rest)
unfolding whole_at judged
whole_complete q us rest is end = then_ok (statement_at (us ++ rest)) _ q rest (statement_complete q us rest is end) ∙ ap (λ b. judged b q rest) end

whole_full : (us : List Token) (s : Token) (other : List Token) → FullTable tt us → whole_at (us ++ s ∷ other) ≡ Err s.start
unfolding whole_at
whole_full us s other f = then_err (statement_at (us ++ s ∷ other)) _ s.start (full_stops us s other f)

-- where every text with these tokens is refused, none may begin so
no_more : (before : List Token) (token : Token) → ((other : List Token) → whole_at (before ++ token ∷ other) ≡ Err token.start) → ¬ CanBegin (before ++ token ∷ [])
no_more before token stops (by_query q left is) =
    let end : Token = some_token symbol.End [] in
    let read : whole_at (((before ++ token ∷ []) ++ left) ++ end ∷ []) ≡ Ok (q, end ∷ []) = whole_complete q ((before ++ token ∷ []) ++ left) (end ∷ []) is refl in
    let same : ((before ++ token ∷ []) ++ left) ++ end ∷ [] ≡ before ++ token ∷ (left ++ end ∷ []) = append_assoc (before ++ token ∷ []) left (end ∷ []) ∙ append_assoc before (token ∷ []) (left ++ end ∷ []) in
    let wrong : Ok (q, end ∷ []) ≡ Err token.start = sym read ∙ ap whole_at same ∙ stops (left ++ end ∷ []) in cc wrong
no_more before token stops (by_columns f) =
    let s : Token = record { symbol = symbol.End; before = []; text = []; start = token.start + 1 } in
    let same : (before ++ token ∷ []) ++ s ∷ [] ≡ before ++ token ∷ s ∷ [] = append_assoc before (token ∷ []) (s ∷ []) in
    let later : token.start + 1 ≡ token.start = same_place (whole_at (before ++ token ∷ s ∷ [])) (token.start + 1) token.start (sym (ap whole_at same) ∙ whole_full (before ++ token ∷ []) s [] f) (stops (s ∷ [])) in
    absurd (omega arith)

of_whole : (r : Reading Query) (at : ℕ) → answer_of r ≡ Err at → r ≡ Err at
of_whole (Ok read) at is = cc is
of_whole (Err n) at is = let same : n ≡ at = cc is in ap (λ m. refused m) same
  where
    refused : ℕ → Reading Query
    refused m = Err m

-- a text that is refused is no query
no_query : (sql : List ℕ) (at : ℕ) (q : Query) → query_of sql ≡ Err at → ¬ IsQueryOf q sql
no_query sql at q stops is = let wrong : Err at ≡ Ok q = sym stops ∙ query_of-complete sql q is in cc wrong

-- a text that is refused stops at the place
pub query_of-stops : (sql : List ℕ) (at : ℕ) → query_of sql ≡ Err at → StopsAt sql at
unfolding query_of
query_of-stops sql at is =
    let r = refused_by (tokens_of sql) at (of_whole (whole_at (tokens_of sql)) at is) (statement_outcome (tokens_of sql) (tokens_ended sql)) in
    record { before = r.before; token = r.token; rest = r.rest; whole = r.whole; place = r.place; begins = r.begins; stops = no_more r.before r.token r.stops; ends = λ end. sym r.place ∙ end_place sql r.before r.token r.rest r.whole end; short = λ end q query. no_query sql at q is (record { tokens = r.before; rest = r.token ∷ r.rest; query = query; whole = r.whole; ends = end }) }

-- two tokens of a text: one is the other, or one is before the other
data Placed (us : List Token) (t : Token) (vs : List Token) (u : Token) : Type 0 where
  same : us ≡ vs → t ≡ u → Placed us t vs u
  earlier : (ws : List Token) → vs ≡ (us ++ t ∷ []) ++ ws → Placed us t vs u
  later : (ws : List Token) → us ≡ (vs ++ u ∷ []) ++ ws → Placed us t vs u

placed : (us : List Token) (t : Token) (r vs : List Token) (u : Token) (s : List Token) → us ++ t ∷ r ≡ vs ++ u ∷ s → Placed us t vs u
placed [] t r [] u s is = same refl (cc is)
placed [] t r (v ∷ vs) u s is = let head : v ≡ t = cc is in earlier vs (ap (λ w. w ∷ vs) head)
placed (w ∷ us) t r [] u s is = let head : w ≡ u = cc is in later us (ap (λ v. v ∷ us) head)
placed (w ∷ us) t r (v ∷ vs) u s is =
    let head : w ≡ v = cc is in
    let tail : us ++ t ∷ r ≡ vs ++ u ∷ s = cc is in
    by_tail head (placed us t r vs u s tail)
  where
    by_tail : w ≡ v → Placed us t vs u → Placed (w ∷ us) t (v ∷ vs) u
    by_tail head (same whole is) = same (λ i. head i ∷ whole i) is
    by_tail head (earlier ws is) = earlier ws (λ i. sym head i ∷ is i)
    by_tail head (later ws is) = later ws (λ i. head i ∷ is i)

-- all the columns that a table may have, and a comma, of which a bracket in place of the comma makes a query
record Closable (us : List Token) : Type 0 where
  front : List Token
  comma : Token
  query : Query
  closed : IsQuery query (front ++ some_token (symbol.Sign 41) [] ∷ [])
  whole : us ≡ front ++ comma ∷ []

closable : (us : List Token) → FullTable tt us → Closable us
closable us (both a b ms bs p (both c d cs ds q (both table e es fs n (both f g gs hs o (both cols h ls js (unless cols2 is2 ps full) (one comma v sign)))))) =
    let close : Token = some_token (symbol.Sign 41) [] in
    let made : IsQuery (query.Create table cols) (ms ++ (cs ++ (es ++ ((gs ++ (ls ++ (close ∷ []))) ++ [])))) =
    create (query.Create table cols) (ms ++ (cs ++ (es ++ ((gs ++ (ls ++ (close ∷ []))) ++ [])))) (both a _ ms _ p (both c _ cs _ q (both table _ es _ n (both cols _ (gs ++ (ls ++ close ∷ [])) [] (both f cols gs (ls ++ close ∷ []) o (both cols cols ls (close ∷ []) ps (both tt cols (close ∷ []) [] (one close tt refl) here))) here)))) in
    record {
      front = ms ++ (cs ++ (es ++ (gs ++ ls)));
      comma = comma;
      query = query.Create table cols;
      closed = subst (IsQuery (query.Create table cols)) (simp (append_assoc, append-nil)) made;
      whole = simp append_assoc;
    }

front_within : (us : List Token) (v : Token) (vs fs : List Token) (c : Token) → us ++ v ∷ vs ≡ fs ++ c ∷ [] → (ws : List Token) × (fs ≡ us ++ ws)
front_within [] v vs fs c is = (fs, refl)
front_within (u ∷ []) v vs [] c is = cc is
front_within (u ∷ w ∷ us) v vs [] c is = cc is
front_within (u ∷ us) v vs (f ∷ fs) c is =
    let head : f ≡ u = cc is in
    let tail : us ++ v ∷ vs ≡ fs ++ c ∷ [] = cc is in
    let within = front_within us v vs fs c tail in
    (within.0, λ i. head i ∷ within.1 i)

-- what begins tokens that may begin may begin
begins_front : (us vs : List Token) → CanBegin (us ++ vs) → CanBegin us
begins_front us vs (by_query q left is) = by_query q (vs ++ left) (subst (IsQuery q) (append_assoc us vs left) is)
begins_front us [] (by_columns f) = by_columns (subst (FullTable tt) (append-nil us) f)
begins_front us (v ∷ vs) (by_columns f) =
    let c = closable (us ++ v ∷ vs) f in
    let within = front_within us v vs c.front c.comma c.whole in
    let close : Token = some_token (symbol.Sign 41) [] in
    by_query c.query (within.0 ++ close ∷ []) (subst (IsQuery c.query) (ap (λ fs. fs ++ close ∷ []) within.1 ∙ append_assoc us within.0 (close ∷ [])) c.closed)

-- no text stops at two places
pub one_place : NoTextStopsAtTwoPlaces
one_place sql at other a b = by_places (placed a.before a.token a.rest b.before b.token b.rest (sym a.whole ∙ b.whole))
  where
    by_places : Placed a.before a.token b.before b.token → at ≡ other
    by_places (same whole is) = sym a.place ∙ ap (λ (t : Token). t.start) is ∙ b.place
    by_places (earlier ws is) = absurd (a.stops (begins_front (a.before ++ a.token ∷ []) ws (subst CanBegin is b.begins)))
    by_places (later ws is) = absurd (b.stops (begins_front (b.before ++ b.token ∷ []) ws (subst CanBegin is a.begins)))

-- a query that is read up to the end, whatever follows that one
record Whole (ts : List Token) : Type 0 where
  query : Query
  front : List Token
  token : Token
  rest : List Token
  is : IsQuery query front
  whole : ts ≡ front ++ token ∷ rest
  reads : (other : List Token) → whole_at (front ++ token ∷ other) ≡ Ok (query, token ∷ other)
  ends : is_end token.symbol ≡ true

whole_by : (ts : List Token) (q : Query) (left : List Token) → whole_at ts ≡ Ok (q, left) → Outcome IsQuery CanBegin statement_at ts → Whole ts
unfolding whole_at judged
whole_by ts q left is (stopped s) = let wrong : Err s.token.start ≡ Ok (q, left) = sym (ap whole_at s.whole ∙ then_err (statement_at (s.front ++ s.token ∷ s.rest)) _ s.token.start (s.stops s.rest)) ∙ is in cc wrong
whole_by ts q left is (went w) = by_end (is_end w.token.symbol) refl
  where
    read : (other : List Token) → whole_at (w.front ++ w.token ∷ other) ≡ judged (is_end w.token.symbol) w.value (w.token ∷ other)
    read other = then_ok (statement_at (w.front ++ w.token ∷ other)) _ w.value (w.token ∷ other) (w.goes other)

    by_end : (b : Bool) → is_end w.token.symbol ≡ b → Whole ts
    by_end true end = record { query = w.value; front = w.front; token = w.token; rest = w.rest; is = w.is; whole = w.whole; reads = λ other. read other ∙ ap (λ b. judged b w.value (w.token ∷ other)) end; ends = end }
    by_end false end = let wrong : Err w.token.start ≡ Ok (q, left) = sym (ap whole_at w.whole ∙ read w.rest ∙ ap (λ b. judged b w.value (w.token ∷ w.rest)) end) ∙ is in cc wrong

-- behind a query that is whole the end can't stand for another token
none_behind : (ts : List Token) (w : Whole ts) → ¬ CanBegin (w.front ++ w.token ∷ [])
none_behind ts w (by_query q left is) =
    let end : Token = some_token symbol.End [] in
    let read : whole_at (((w.front ++ w.token ∷ []) ++ left) ++ end ∷ []) ≡ Ok (q, end ∷ []) = whole_complete q ((w.front ++ w.token ∷ []) ++ left) (end ∷ []) is refl in
    let same : ((w.front ++ w.token ∷ []) ++ left) ++ end ∷ [] ≡ w.front ++ w.token ∷ (left ++ end ∷ []) = append_assoc (w.front ++ w.token ∷ []) left (end ∷ []) ∙ append_assoc w.front (w.token ∷ []) (left ++ end ∷ []) in
    let left_is : end ∷ [] ≡ w.token ∷ (left ++ end ∷ []) = same_rest q w.query (end ∷ []) (w.token ∷ (left ++ end ∷ [])) (whole_at (((w.front ++ w.token ∷ []) ++ left) ++ end ∷ [])) read (ap whole_at same ∙ w.reads (left ++ end ∷ [])) in
    absurd (omega (arith, ap length left_is, length-append left (end ∷ [])))
none_behind ts w (by_columns f) =
    let s : Token = some_token symbol.End [] in
    let same : (w.front ++ w.token ∷ []) ++ s ∷ [] ≡ w.front ++ w.token ∷ s ∷ [] = append_assoc w.front (w.token ∷ []) (s ∷ []) in
    let wrong : Ok (w.query, w.token ∷ s ∷ []) ≡ Err s.start = sym (w.reads (s ∷ [])) ∙ sym (ap whole_at same) ∙ whole_full (w.front ++ w.token ∷ []) s [] f in cc wrong

answered : (r : Reading Query) (q : Query) → answer_of r ≡ Ok q → (left : List Token) × (r ≡ Ok (q, left))
answered (Ok read) q is = let same : read.0 ≡ q = cc is in (read.1, ap (λ p. as_read p read.1) same)
  where
    as_read : Query → List Token → Reading Query
    as_read p rest = Ok (p, rest)
answered (Err at) q is = cc is

-- no text that is a query stops
pub no_query_stops : NoQueryStops
unfolding query_of
no_query_stops sql q at is a = by_places (placed a.before a.token a.rest w.front w.token w.rest (sym a.whole ∙ w.whole))
  where
    w : Whole (tokens_of sql)
    w = let r = answered (whole_at (tokens_of sql)) q (query_of-complete sql q is) in whole_by (tokens_of sql) q r.0 r.1 (statement_outcome (tokens_of sql) (tokens_ended sql))

    by_places : Placed a.before a.token w.front w.token → ⊥
    by_places (same whole same_token) = a.short (ap (λ (t : Token). is_end t.symbol) same_token ∙ w.ends) w.query (subst (IsQuery w.query) (sym whole) w.is)
    by_places (earlier ws whole) = a.stops (begins_front (a.before ++ a.token ∷ []) ws (by_query w.query [] (subst (IsQuery w.query) (whole ∙ sym (append-nil ((a.before ++ a.token ∷ []) ++ ws))) w.is)))
    by_places (later ws whole) = none_behind (tokens_of sql) w (begins_front (w.front ++ w.token ∷ []) ws (subst CanBegin whole a.begins))

-- Queries are read exactly.
use Rattle.std.proofs.Common.{◌≡◌, ℕ, Bool, true, false, cond, eqb-true, List, [], ◌++◌, drop, Option, Some, None, Ok, Err, refl, sym, ap, ◌∙◌, subst, append_assoc}
use Rattle.std.specs.Prelude.{Result, ◌==◌}
use Rattle.keeper_dialect.specs.declared.tokens.Keyword.{Keyword}
use Rattle.keeper_dialect.specs.declared.tokens.Keyword.TheVariants as keyword
use Rattle.keeper_dialect.specs.declared.tokens.Symbol.{Symbol}
use Rattle.keeper_dialect.specs.declared.tokens.Symbol.TheVariants as symbol
use Rattle.keeper_dialect.specs.declared.query.Term.{Term}
use Rattle.keeper_dialect.specs.declared.query.Expr.{Expr}
use Rattle.keeper_dialect.specs.declared.query.ColExpr.{ColExpr}
use Rattle.keeper_dialect.specs.declared.query.Item.{Item}
use Rattle.keeper_dialect.specs.declared.query.Shown.{Shown}
use Rattle.keeper_dialect.specs.declared.query.Shown.TheVariants as shown
use Rattle.keeper_dialect.specs.declared.query.Query.{Query}
use Rattle.keeper_dialect.specs.declared.query.Query.TheVariants as query
use Rattle.keeper_dialect.specs.Tokens.{Token, tokens_of}
use Rattle.keeper_dialect.specs.Reading.{Reading, and_then, symbol_at, place_at, rank_of, is_keyword, is_sign, keyword_at, sign_at}
use Rattle.keeper_dialect.specs.Terms.{name_of, name_at, col_expr_at}
use Rattle.keeper_dialect.specs.Lists.{source_text, front, names_at, tuples_at, sets_at, items_at, col_defs_at, is_set}
use Rattle.keeper_dialect.specs.Query.{filter_at, create_at, some_names_at, insert_at, from_at, count_at, list_at, select_at, update_at, delete_at, statement_by, statement_of, statement_at, is_end, whole_at, answer_of, query_of}
use Rattle.keeper_dialect.specs.Grammar.{Is, here, Then, both, Either, first, second, one, Keyed, Signed, Name, IsTerm, number, negative, text, blob, null, parameter, name, IsExpr, Separated, Bracketed, NewName, Equation, IsItem, item, Names, Tuple, Filter, Counted, counted, From, Create, Insert, Select, Update, Delete, IsQuery, create, insert, select, update, delete, IsQueryOf, IsColDef}
use Rattle.keeper_dialect.proofs.ReadingLemmas.{then_ok, same_rest}
use Rattle.keeper_dialect.proofs.Exact.{end_is, Front, Exact, any, split, same_value, exact_is, exact_then, exact_next, exact_either}
use Rattle.keeper_dialect.proofs.ExactTerms.{exact_keyword, exact_sign, exact_name}
use Rattle.keeper_dialect.proofs.ExactLists.{closes, closes_list, found_some}
use Rattle.keeper_dialect.proofs.ExactParts.{is_free, front_is, exact_brackets, exact_names, exact_tuples, exact_sets, exact_items, exact_col_expr, exact_col_defs, Led, led_sound, led_complete, exact_perhaps}

end_closes : (s : Symbol) → is_end s ≡ true → closes s ≡ true
end_closes (symbol.Keyword k) is = cc is
end_closes symbol.Word is = cc is
end_closes symbol.QuotedName is = cc is
end_closes symbol.Text is = cc is
end_closes symbol.Number is = cc is
end_closes (symbol.Parameter n) is = cc is
end_closes (symbol.Sign b) is = cc is
end_closes symbol.Stray is = cc is
end_closes symbol.End is = refl

-- which keyword a tested token is
data IsOne (k : Keyword) (s : Symbol) : Type 0 where
  is_one : (j : Keyword) → s ≡ symbol.Keyword j → is_keyword k (symbol.Keyword j) ≡ true → IsOne k s

is_one_of : (k : Keyword) (s : Symbol) → is_keyword k s ≡ true → IsOne k s
is_one_of k (symbol.Keyword j) is = is_one j refl is
is_one_of k symbol.Word is = cc is
is_one_of k symbol.QuotedName is = cc is
is_one_of k symbol.Text is = cc is
is_one_of k symbol.Number is = cc is
is_one_of k (symbol.Parameter n) is = cc is
is_one_of k (symbol.Sign b) is = cc is
is_one_of k symbol.Stray is = cc is
is_one_of k symbol.End is = cc is

abbrev FilterRest : Option ColExpr → List Token → Type 0
FilterRest = Then (Equation Name) (λ filter. Is (Some filter))

filter_rest_at : List Token → Reading (Option ColExpr)
filter_rest_at ts = and_then (col_expr_at ts) (λ filter rest. Ok (Some filter, rest))

exact_filter_rest : Exact FilterRest is_end filter_rest_at
unfolding filter_rest_at
exact_filter_rest = exact_then (Equation Name) (λ filter. Is (Some filter)) closes is_end col_expr_at (λ filter rest. Ok (Some filter, rest)) exact_col_expr (λ filter. exact_is (Some filter) is_end) (λ filter y vs rest q follows. end_closes (symbol_at (vs ++ rest)) (is_free (Some filter) y is_end vs rest q follows))

end_differs : (k : Keyword) (s : Symbol) → is_end s ≡ true → is_keyword k s ≡ false
end_differs k s is = ap (is_keyword k) (end_is s is)

exact_filter : Exact Filter is_end filter_at
unfolding filter_at filter_rest_at
exact_filter = exact_perhaps (is_keyword keyword.Where) FilterRest (Is None) is_end filter_rest_at (λ ts. Ok (None, ts)) refl exact_filter_rest (exact_is None is_end) differs
  where
    differs : (x : Option ColExpr) (us rest : List Token) → Is None x us → is_end (symbol_at rest) ≡ true → is_keyword keyword.Where (symbol_at (us ++ rest)) ≡ false
    differs x us rest here follows = end_differs keyword.Where (symbol_at rest) follows

-- the end follows a filter and what is made of it
filtered : {A : Type 0} (z : A) (y : A) (vs rest : List Token) → Is z y vs → is_end (symbol_at rest) ≡ true → is_end (symbol_at (vs ++ rest)) ≡ true
filtered z y vs rest q follows = is_free z y is_end vs rest q follows

exact_from : (what : Shown) → Exact (From what) is_end (from_at what)
unfolding from_at
exact_from what =
    exact_next (Keyed keyword.From) _ is_end (keyword_at keyword.From) _ (exact_keyword keyword.From) (λ _.
    exact_next Name _ is_end name_at _ exact_name (λ table.
    exact_then Filter (λ filter. Is (query.Select what (Some table) filter)) is_end is_end filter_at (λ filter rest. Ok (query.Select what (Some table) filter, rest)) exact_filter (λ filter. exact_is (query.Select what (Some table) filter) is_end) (λ filter y vs rest q follows. filtered (query.Select what (Some table) filter) y vs rest q follows)))

abbrev pub CreateRest : Query → List Token → Type 0
CreateRest = Then (Keyed keyword.Table) (λ _. Then Name (λ table. Then (Bracketed (Separated IsColDef)) (λ cols. Is (query.Create table cols))))

exact_create : Exact CreateRest is_end create_at
unfolding create_at
exact_create =
    exact_next (Keyed keyword.Table) _ is_end (keyword_at keyword.Table) _ (exact_keyword keyword.Table) (λ _.
    exact_next Name _ is_end name_at _ exact_name (λ table.
    exact_next (Bracketed (Separated IsColDef)) (λ cols. Is (query.Create table cols)) is_end col_defs_at (λ cols rest. Ok (query.Create table cols, rest)) exact_col_defs (λ cols. exact_is (query.Create table cols) is_end)))

-- `VALUES` follows the names of an insert
abbrev values_next : Symbol → Bool
values_next s = is_keyword keyword.Values s

SomeNames : Option (List (List ℕ)) → List Token → Type 0
SomeNames = Either (Then Names (λ names. Is (Some names))) (Is None)

named_at : List Token → Reading (Option (List (List ℕ)))
named_at ts = and_then (names_at ts) (λ names rest. Ok (Some names, rest))

no_bracket : (s : Symbol) → is_keyword keyword.Values s ≡ true → is_sign 40 s ≡ false
no_bracket (symbol.Keyword k) is = refl
no_bracket symbol.Word is = refl
no_bracket symbol.QuotedName is = refl
no_bracket symbol.Text is = refl
no_bracket symbol.Number is = refl
no_bracket (symbol.Parameter n) is = refl
no_bracket (symbol.Sign b) is = cc is
no_bracket symbol.Stray is = refl
no_bracket symbol.End is = refl

exact_some_names : Exact SomeNames values_next some_names_at
unfolding some_names_at named_at SomeNames
exact_some_names = exact_either (Then Names (λ names. Is (Some names))) (Is None) values_next (is_sign 40) named_at (λ ts. Ok (None, ts)) (exact_next Names (λ names. Is (Some names)) values_next names_at (λ names rest. Ok (Some names, rest)) exact_names (λ names. exact_is (Some names) values_next)) (exact_is None values_next) starts differs
  where
    starts : (x : Option (List (List ℕ))) (us rest : List Token) → Then Names (λ names. Is (Some names)) x us → is_sign 40 (symbol_at (us ++ rest)) ≡ true
    starts x us rest (both names y vs ws (both u z os ps (one t v is) q) r) = found_some (is_sign 40 t.symbol) v is

    differs : (x : Option (List (List ℕ))) (us rest : List Token) → Is None x us → values_next (symbol_at rest) ≡ true → is_sign 40 (symbol_at (us ++ rest)) ≡ false
    differs x us rest here follows = no_bracket (symbol_at rest) follows

abbrev InsertValues : List ℕ → Option (List (List ℕ)) → Query → List Token → Type 0
InsertValues table names = Then (Keyed keyword.Values) (λ _. Then (Separated (λ done. Tuple)) (λ tuples. Is (query.Insert table names tuples)))

abbrev pub InsertRest : Query → List Token → Type 0
InsertRest = Then (Keyed keyword.Into) (λ _. Then Name (λ table. Then (Either (Then Names (λ names. Is (Some names))) (Is None)) (λ names. InsertValues table names)))

end_closes_list : (s : Symbol) → is_end s ≡ true → closes_list s ≡ true
end_closes_list s is = ap closes_list (end_is s is)

exact_insert : Exact InsertRest is_end insert_at
unfolding insert_at SomeNames
exact_insert =
    exact_next (Keyed keyword.Into) _ is_end (keyword_at keyword.Into) _ (exact_keyword keyword.Into) (λ _.
    exact_next Name _ is_end name_at _ exact_name (λ table.
    exact_then SomeNames (λ names. InsertValues table names) values_next is_end some_names_at _ exact_some_names
    (λ names. exact_next (Keyed keyword.Values) _ is_end (keyword_at keyword.Values) _ (exact_keyword keyword.Values) (λ _.
    exact_then (Separated (λ done. Tuple)) (λ tuples. Is (query.Insert table names tuples)) closes_list is_end tuples_at (λ tuples rest. Ok (query.Insert table names tuples, rest)) exact_tuples (λ tuples. exact_is (query.Insert table names tuples) is_end) (λ tuples y vs rest q follows. end_closes_list (symbol_at (vs ++ rest)) (filtered (query.Insert table names tuples) y vs rest q follows))))
    (λ names y vs rest q follows. begins table names y vs rest q)))
  where
    begins : (table : List ℕ) (names : Option (List (List ℕ))) (y : Query) (vs rest : List Token) → InsertValues table names y vs → values_next (symbol_at (vs ++ rest)) ≡ true
    begins table names y vs rest (both u z os ps (one t v is) q) = found_some (is_keyword keyword.Values t.symbol) v is

-- what may follow a list: a filter, or the end
filter_follows : (x : Option ColExpr) (us rest : List Token) → Filter x us → is_end (symbol_at rest) ≡ true → closes_list (symbol_at (us ++ rest)) ≡ true
filter_follows x us rest (second y vs here) follows = end_closes_list (symbol_at rest) follows
filter_follows x us rest (first y vs (both u z os ps (one t v is) q)) follows = where_closes t.symbol (found_some (is_keyword keyword.Where t.symbol) v is)
  where
    by_rank : (j : Keyword) → is_keyword keyword.Where (symbol.Keyword j) ≡ true → closes_list (symbol.Keyword j) ≡ true
    by_rank keyword.Count is = cc is
    by_rank keyword.Create is = cc is
    by_rank keyword.Delete is = cc is
    by_rank keyword.From is = refl
    by_rank keyword.Insert is = cc is
    by_rank keyword.Into is = cc is
    by_rank keyword.Key is = cc is
    by_rank keyword.Null is = cc is
    by_rank keyword.Primary is = cc is
    by_rank keyword.Select is = cc is
    by_rank keyword.Set is = cc is
    by_rank keyword.Table is = cc is
    by_rank keyword.Update is = cc is
    by_rank keyword.Values is = cc is
    by_rank keyword.Where is = refl

    where_closes : (s : Symbol) → is_keyword keyword.Where s ≡ true → closes_list s ≡ true
    where_closes (symbol.Keyword j) is = by_rank j is
    where_closes symbol.Word is = cc is
    where_closes symbol.QuotedName is = cc is
    where_closes symbol.Text is = cc is
    where_closes symbol.Number is = cc is
    where_closes (symbol.Parameter n) is = cc is
    where_closes (symbol.Sign b) is = cc is
    where_closes symbol.Stray is = cc is
    where_closes symbol.End is = cc is

abbrev pub UpdateRest : Query → List Token → Type 0
UpdateRest = Then Name (λ table. Then (Keyed keyword.Set) (λ _. Then (Separated (λ done. Equation (NewName (is_set done)))) (λ sets. Then Filter (λ filter. Is (query.Update table sets filter)))))

exact_update : Exact UpdateRest is_end update_at
unfolding update_at
exact_update =
    exact_next Name _ is_end name_at _ exact_name (λ table.
    exact_next (Keyed keyword.Set) _ is_end (keyword_at keyword.Set) _ (exact_keyword keyword.Set) (λ _.
    exact_then (Separated (λ done. Equation (NewName (is_set done)))) (λ sets. Then Filter (λ filter. Is (query.Update table sets filter))) closes_list is_end sets_at _ exact_sets
    (λ sets. exact_then Filter (λ filter. Is (query.Update table sets filter)) is_end is_end filter_at (λ filter rest. Ok (query.Update table sets filter, rest)) exact_filter (λ filter. exact_is (query.Update table sets filter) is_end) (λ filter y vs rest q follows. filtered (query.Update table sets filter) y vs rest q follows))
    (λ sets y vs rest q follows. begins table sets y vs rest q follows)))
  where
    begins : (table : List ℕ) (sets : List ColExpr) (y : Query) (vs rest : List Token) → Then Filter (λ filter. Is (query.Update table sets filter)) y vs → is_end (symbol_at rest) ≡ true → closes_list (symbol_at (vs ++ rest)) ≡ true
    begins table sets y vs rest (both filter z us ws p here) follows = subst (λ ts. closes_list (symbol_at ts) ≡ true) (sym (append_assoc us [] rest)) (filter_follows filter us rest p follows)

abbrev pub DeleteRest : Query → List Token → Type 0
DeleteRest = Then (Keyed keyword.From) (λ _. Then Name (λ table. Then Filter (λ filter. Is (query.Delete table filter))))

exact_delete : Exact DeleteRest is_end delete_at
unfolding delete_at
exact_delete =
    exact_next (Keyed keyword.From) _ is_end (keyword_at keyword.From) _ (exact_keyword keyword.From) (λ _.
    exact_next Name _ is_end name_at _ exact_name (λ table.
    exact_then Filter (λ filter. Is (query.Delete table filter)) is_end is_end filter_at (λ filter rest. Ok (query.Delete table filter, rest)) exact_filter (λ filter. exact_is (query.Delete table filter) is_end) (λ filter y vs rest q follows. filtered (query.Delete table filter) y vs rest q follows)))

then_assoc : {A B C : Type 0} (r : Reading A) (k : A → List Token → Reading B) (h : B → List Token → Reading C) → and_then (and_then r k) h ≡ and_then r (λ x rest. and_then (k x rest) h)
unfolding and_then
then_assoc (Ok read) k h = refl
then_assoc (Err at) k h = refl

then_same : {A B : Type 0} (r : Reading A) (k h : A → List Token → Reading B) → ((x : A) (ts : List Token) → k x ts ≡ h x ts) → and_then r k ≡ and_then r h
unfolding and_then
then_same (Ok read) k h same = same read.0 read.1
then_same (Err at) k h same = refl

unfoldable pub brackets_at : List Token → Reading (Unit {0})
brackets_at ts = and_then (sign_at 40 ts) (λ _ inner. and_then (sign_at 42 inner) (λ x after. and_then (sign_at 41 after) (λ _ rest. Ok (x, rest))))

unfoldable pub counted_at : List Token → Reading (Unit {0})
counted_at ts = and_then (keyword_at keyword.Count ts) (λ _ inner. brackets_at inner)

abbrev pub CountTokens : Unit {0} → List Token → Type 0
CountTokens = Then (Keyed keyword.Count) (λ _. Bracketed (Signed 42))

exact_counted : Exact CountTokens any counted_at
unfolding counted_at brackets_at
exact_counted = exact_next (Keyed keyword.Count) (λ _. Bracketed (Signed 42)) any (keyword_at keyword.Count) _ (exact_keyword keyword.Count) (λ _. exact_brackets (Signed 42) any (sign_at 42) refl (exact_sign 42))

unfoldable pub count_made : List Token → Unit {0} → List Token → Reading Shown
count_made ts u rest = Ok (shown.Count (source_text (front ts rest)), rest)

count_last : (ts after : List Token) (x : Unit {0}) → and_then (sign_at 41 after) (λ _ rest. count_made ts x rest) ≡ and_then (and_then (sign_at 41 after) (λ _ rest. Ok (x, rest))) (count_made ts)
unfolding and_then
count_last ts after x = by_reading (sign_at 41 after)
  where
    by_reading : (r : Reading (Unit {0})) → and_then r (λ _ rest. count_made ts x rest) ≡ and_then (and_then r (λ _ rest. Ok (x, rest))) (count_made ts)
    by_reading (Ok read) = refl
    by_reading (Err at) = refl

pub count_split : (ts : List Token) → count_at ts ≡ and_then (counted_at ts) (count_made ts)
unfolding count_at counted_at brackets_at count_made
count_split ts =
    then_same (keyword_at keyword.Count ts) _ (λ _ inner. and_then (brackets_at inner) (count_made ts)) (λ _ inner.
    then_same (sign_at 40 inner) _ (λ _ star. and_then (and_then (sign_at 42 star) (λ x after. and_then (sign_at 41 after) (λ _ rest. Ok (x, rest)))) (count_made ts)) (λ _ star.
    then_same (sign_at 42 star) _ (λ x after. and_then (and_then (sign_at 41 after) (λ _ rest. Ok (x, rest))) (count_made ts)) (λ x after. count_last ts after x)
    ∙ sym (then_assoc (sign_at 42 star) (λ x after. and_then (sign_at 41 after) (λ _ rest. Ok (x, rest))) (count_made ts)))
    ∙ sym (then_assoc (sign_at 40 inner) (λ _ star. and_then (sign_at 42 star) (λ x after. and_then (sign_at 41 after) (λ _ rest. Ok (x, rest)))) (count_made ts)))
    ∙ sym (then_assoc (keyword_at keyword.Count ts) (λ _ inner. brackets_at inner) (count_made ts))

exact_count : Exact Counted any count_at
unfolding count_made
exact_count = record { sound = sound; complete = complete }
  where
    sound : (ts : List Token) (x : Shown) (rest : List Token) → count_at ts ≡ Ok (x, rest) → Front Counted x ts rest
    sound ts x rest is =
        let s = split (counted_at ts) (count_made ts) x rest (sym (count_split ts) ∙ is) in
        let f = exact_counted.sound ts s.x s.mid s.before in
        let left = same_rest (shown.Count (source_text (front ts s.mid))) x s.mid rest _ refl s.behind in
        let text_is : front ts s.mid ≡ f.front = ap (λ us. front us s.mid) f.whole ∙ front_is f.front s.mid in
        let value = same_value (shown.Count (source_text (front ts s.mid))) x s.mid rest _ refl s.behind in
        subst (λ y. Front Counted y ts rest) value (record { front = f.front; is = subst (λ us. Counted (shown.Count (source_text us)) f.front) (sym text_is) (counted f.front f.is); whole = f.whole ∙ ap (λ us. f.front ++ us) left })

    complete : (x : Shown) (us rest : List Token) → Counted x us → true ≡ true → count_at (us ++ rest) ≡ Ok (x, rest)
    complete x us rest (counted vs p) follows = count_split (vs ++ rest) ∙ then_ok (counted_at (vs ++ rest)) (count_made (vs ++ rest)) tt rest (exact_counted.complete tt vs rest p refl) ∙ ap (λ ws. made ws rest) (front_is vs rest)
      where
        made : List Token → List Token → Reading Shown
        made ws rest = Ok (shown.Count (source_text ws), rest)

abbrev pub ListRest : List Item → Query → List Token → Type 0
ListRest items = Either (From (shown.List items)) (Is (query.Select (shown.List items) None None))

abbrev pub Listed : Query → List Token → Type 0
Listed = Then (Separated (λ done. IsItem)) (λ items. ListRest items)

list_rest_at : List Item → List Token → Reading Query
list_rest_at items rest = cond (is_keyword keyword.From (symbol_at rest)) (from_at (shown.List items) rest) (Ok (query.Select (shown.List items) None None, rest))

from_starts : (what : Shown) (x : Query) (us rest : List Token) → From what x us → is_keyword keyword.From (symbol_at (us ++ rest)) ≡ true
from_starts what x us rest (both u z os ps (one t v is) q) = found_some (is_keyword keyword.From t.symbol) v is

exact_list_rest : (items : List Item) → Exact (ListRest items) is_end (list_rest_at items)
unfolding list_rest_at
exact_list_rest items = exact_either (From (shown.List items)) (Is (query.Select (shown.List items) None None)) is_end (is_keyword keyword.From) (from_at (shown.List items)) (λ ts. Ok (query.Select (shown.List items) None None, ts)) (exact_from (shown.List items)) (exact_is (query.Select (shown.List items) None None) is_end) (λ x us rest p. from_starts (shown.List items) x us rest p) differs
  where
    differs : (x : Query) (us rest : List Token) → Is (query.Select (shown.List items) None None) x us → is_end (symbol_at rest) ≡ true → is_keyword keyword.From (symbol_at (us ++ rest)) ≡ false
    differs x us rest here follows = end_differs keyword.From (symbol_at rest) follows

from_closes : (s : Symbol) → is_keyword keyword.From s ≡ true → closes_list s ≡ true
from_closes (symbol.Keyword j) is = by_rank j is
  where
    by_rank : (j : Keyword) → is_keyword keyword.From (symbol.Keyword j) ≡ true → closes_list (symbol.Keyword j) ≡ true
    by_rank keyword.Count is = cc is
    by_rank keyword.Create is = cc is
    by_rank keyword.Delete is = cc is
    by_rank keyword.From is = refl
    by_rank keyword.Insert is = cc is
    by_rank keyword.Into is = cc is
    by_rank keyword.Key is = cc is
    by_rank keyword.Null is = cc is
    by_rank keyword.Primary is = cc is
    by_rank keyword.Select is = cc is
    by_rank keyword.Set is = cc is
    by_rank keyword.Table is = cc is
    by_rank keyword.Update is = cc is
    by_rank keyword.Values is = cc is
    by_rank keyword.Where is = refl
from_closes symbol.Word is = cc is
from_closes symbol.QuotedName is = cc is
from_closes symbol.Text is = cc is
from_closes symbol.Number is = cc is
from_closes (symbol.Parameter n) is = cc is
from_closes (symbol.Sign b) is = cc is
from_closes symbol.Stray is = cc is
from_closes symbol.End is = cc is

exact_listed : Exact Listed is_end list_at
unfolding list_at list_rest_at
exact_listed = exact_then (Separated (λ done. IsItem)) (λ items. ListRest items) closes_list is_end items_at (λ items rest. list_rest_at items rest) exact_items exact_list_rest (λ items y vs rest q follows. begins items y vs rest q follows)
  where
    begins : (items : List Item) (y : Query) (vs rest : List Token) → ListRest items y vs → is_end (symbol_at rest) ≡ true → closes_list (symbol_at (vs ++ rest)) ≡ true
    begins items y vs rest (first z us p) follows = from_closes (symbol_at (us ++ rest)) (from_starts (shown.List items) y us rest p)
    begins items y vs rest (second z us here) follows = end_closes_list (symbol_at rest) follows

-- no term begins with `*` or `COUNT`
record Plain (s : Symbol) : Type 0 where
  no_star : is_sign 42 s ≡ false
  no_count : is_keyword keyword.Count s ≡ false

plain : (s t : Symbol) → t ≡ s → Plain s → Plain t
plain s t is p = subst Plain (sym is) p

named_plain : (s : Symbol) (bytes : List ℕ) (word : List ℕ) → name_of s bytes ≡ Some word → Plain s
named_plain (symbol.Keyword k) bytes word is = cc is
named_plain symbol.Word bytes word is = record { no_star = refl; no_count = refl }
named_plain symbol.QuotedName bytes word is = record { no_star = refl; no_count = refl }
named_plain symbol.Text bytes word is = cc is
named_plain symbol.Number bytes word is = cc is
named_plain (symbol.Parameter n) bytes word is = cc is
named_plain (symbol.Sign b) bytes word is = cc is
named_plain symbol.Stray bytes word is = cc is
named_plain symbol.End bytes word is = cc is

term_plain : (x : Term) (us rest : List Token) → IsTerm x us → Plain (symbol_at (us ++ rest))
term_plain x us rest (number t n is value) = plain symbol.Number t.symbol is (record { no_star = refl; no_count = refl })
term_plain x us rest (negative m t n minus is value) = plain (symbol.Sign 45) m.symbol minus (record { no_star = refl; no_count = refl })
term_plain x us rest (text t is) = plain symbol.Text t.symbol is (record { no_star = refl; no_count = refl })
term_plain x us rest (blob w t bytes is word digits at_once decoded) = plain symbol.Word w.symbol is (record { no_star = refl; no_count = refl })
term_plain x us rest (null t is) = plain (symbol.Keyword keyword.Null) t.symbol is (record { no_star = refl; no_count = refl })
term_plain x us rest (parameter t n is) = plain (symbol.Parameter n) t.symbol is (record { no_star = refl; no_count = refl })
term_plain x us rest (name t n named) = named_plain t.symbol t.text n named

expr_plain : (x : Expr) (us rest : List Token) → IsExpr x us → Plain (symbol_at (us ++ rest))
expr_plain x us rest (both t z vs ws p q) = subst (λ ts. Plain (symbol_at ts)) (sym (append_assoc vs ws rest)) (term_plain t vs (ws ++ rest) p)

item_plain : (x : Item) (us rest : List Token) → IsItem x us → Plain (symbol_at (us ++ rest))
item_plain x us rest (item e vs p) = expr_plain e vs rest p

listed_plain : (x : Query) (us rest : List Token) → Listed x us → Plain (symbol_at (us ++ rest))
listed_plain x us rest (both items z vs ws (both i y os ps p q) r) =
    subst (λ ts. Plain (symbol_at ts)) (sym (append_assoc (os ++ ps) ws rest ∙ append_assoc os ps (ws ++ rest))) (item_plain i os (ps ++ (ws ++ rest)) p)

abbrev pub CountOrList : Query → List Token → Type 0
CountOrList = Either (Then Counted From) Listed

unfoldable pub count_or_list_at : List Token → Reading Query
count_or_list_at ts = cond (is_keyword keyword.Count (symbol_at ts)) (and_then (count_at ts) from_at) (list_at ts)

count_starts : (x : Query) (us rest : List Token) → Then Counted From x us → is_keyword keyword.Count (symbol_at (us ++ rest)) ≡ true
count_starts x us rest (both c z vs ws (counted as1 (both u y os ps (one t v is) q)) r) = found_some (is_keyword keyword.Count t.symbol) v is

exact_count_or_list : Exact CountOrList is_end count_or_list_at
unfolding count_or_list_at
exact_count_or_list = exact_either (Then Counted From) Listed is_end (is_keyword keyword.Count) (λ ts. and_then (count_at ts) from_at) list_at (exact_next Counted From is_end count_at from_at exact_count exact_from) exact_listed (λ x us rest p. count_starts x us rest p) (λ x us rest q follows. (listed_plain x us rest q).no_count)

keyword_no_star : (k : Keyword) (s : Symbol) → is_keyword k s ≡ true → is_sign 42 s ≡ false
keyword_no_star k (symbol.Keyword j) is = refl
keyword_no_star k symbol.Word is = refl
keyword_no_star k symbol.QuotedName is = refl
keyword_no_star k symbol.Text is = refl
keyword_no_star k symbol.Number is = refl
keyword_no_star k (symbol.Parameter n) is = refl
keyword_no_star k (symbol.Sign b) is = cc is
keyword_no_star k symbol.Stray is = refl
keyword_no_star k symbol.End is = refl

abbrev pub SelectRest : Query → List Token → Type 0
SelectRest = Either (Then (Signed 42) (λ _. From shown.All)) CountOrList

exact_select : Exact SelectRest is_end select_at
unfolding select_at count_or_list_at
exact_select = exact_perhaps (is_sign 42) (From shown.All) CountOrList is_end (from_at shown.All) count_or_list_at refl (exact_from shown.All) exact_count_or_list differs
  where
    differs : (x : Query) (us rest : List Token) → CountOrList x us → is_end (symbol_at rest) ≡ true → is_sign 42 (symbol_at (us ++ rest)) ≡ false
    differs x us rest (first y vs p) follows = keyword_no_star keyword.Count (symbol_at (vs ++ rest)) (count_starts x vs rest p)
    differs x us rest (second y vs q) follows = (listed_plain x vs rest q).no_star

-- the word of a rank
ranked : ℕ → Keyword
ranked n =
    cond (n == 0) keyword.Count (cond (n == 1) keyword.Create (cond (n == 2) keyword.Delete (cond (n == 3) keyword.From
    (cond (n == 4) keyword.Insert (cond (n == 5) keyword.Into (cond (n == 6) keyword.Key (cond (n == 7) keyword.Null
    (cond (n == 8) keyword.Primary (cond (n == 9) keyword.Select (cond (n == 10) keyword.Set (cond (n == 11) keyword.Table
    (cond (n == 12) keyword.Update (cond (n == 13) keyword.Values keyword.Where)))))))))))))

ranked-rank : (k : Keyword) → ranked (rank_of k) ≡ k
unfolding ranked
ranked-rank keyword.Count = refl
ranked-rank keyword.Create = refl
ranked-rank keyword.Delete = refl
ranked-rank keyword.From = refl
ranked-rank keyword.Insert = refl
ranked-rank keyword.Into = refl
ranked-rank keyword.Key = refl
ranked-rank keyword.Null = refl
ranked-rank keyword.Primary = refl
ranked-rank keyword.Select = refl
ranked-rank keyword.Set = refl
ranked-rank keyword.Table = refl
ranked-rank keyword.Update = refl
ranked-rank keyword.Values = refl
ranked-rank keyword.Where = refl

pub same_keyword : (k : Keyword) (s : Symbol) → is_keyword k s ≡ true → s ≡ symbol.Keyword k
same_keyword k s is = by_one (is_one_of k s is)
  where
    by_one : IsOne k s → s ≡ symbol.Keyword k
    by_one (is_one j at ranks) = at ∙ ap (λ w. symbol.Keyword w) (sym (ranked-rank j) ∙ ap ranked (eqb-true (rank_of j) (rank_of k) ranks) ∙ ranked-rank k)

pub statement_at-is : (k : Keyword) (ts : List Token) → symbol_at ts ≡ symbol.Keyword k → statement_at ts ≡ statement_by k ts
unfolding statement_at
statement_at-is k ts is = ap (λ s. statement_of s ts) is

by_front : (P : Query → List Token → Type 0) (x : Query) (ts rest : List Token) → ((us : List Token) → P x us → IsQuery x us) → Front P x ts rest → Front IsQuery x ts rest
by_front P x ts rest made f = record { front = f.front; is = made f.front f.is; whole = f.whole }

statement_sound_by : (k : Keyword) (ts : List Token) (x : Query) (rest : List Token) → symbol_at ts ≡ symbol.Keyword k → statement_by k ts ≡ Ok (x, rest) → Front IsQuery x ts rest
statement_sound_by keyword.Count ts x rest is read = cc read
statement_sound_by keyword.Create ts x rest is read = by_front Create x ts rest (create x) (led_sound (is_keyword keyword.Create) CreateRest is_end create_at refl exact_create ts x rest (ap (is_keyword keyword.Create) is) read)
statement_sound_by keyword.Delete ts x rest is read = by_front Delete x ts rest (delete x) (led_sound (is_keyword keyword.Delete) DeleteRest is_end delete_at refl exact_delete ts x rest (ap (is_keyword keyword.Delete) is) read)
statement_sound_by keyword.From ts x rest is read = cc read
statement_sound_by keyword.Insert ts x rest is read = by_front Insert x ts rest (insert x) (led_sound (is_keyword keyword.Insert) InsertRest is_end insert_at refl exact_insert ts x rest (ap (is_keyword keyword.Insert) is) read)
statement_sound_by keyword.Into ts x rest is read = cc read
statement_sound_by keyword.Key ts x rest is read = cc read
statement_sound_by keyword.Null ts x rest is read = cc read
statement_sound_by keyword.Primary ts x rest is read = cc read
statement_sound_by keyword.Select ts x rest is read = by_front Select x ts rest (select x) (led_sound (is_keyword keyword.Select) SelectRest is_end select_at refl exact_select ts x rest (ap (is_keyword keyword.Select) is) read)
statement_sound_by keyword.Set ts x rest is read = cc read
statement_sound_by keyword.Table ts x rest is read = cc read
statement_sound_by keyword.Update ts x rest is read = by_front Update x ts rest (update x) (led_sound (is_keyword keyword.Update) UpdateRest is_end update_at refl exact_update ts x rest (ap (is_keyword keyword.Update) is) read)
statement_sound_by keyword.Values ts x rest is read = cc read
statement_sound_by keyword.Where ts x rest is read = cc read

statement_sound_of : (s : Symbol) (ts : List Token) (x : Query) (rest : List Token) → symbol_at ts ≡ s → statement_of s ts ≡ Ok (x, rest) → Front IsQuery x ts rest
statement_sound_of (symbol.Keyword k) ts x rest is read = statement_sound_by k ts x rest is read
statement_sound_of symbol.Word ts x rest is read = cc read
statement_sound_of symbol.QuotedName ts x rest is read = cc read
statement_sound_of symbol.Text ts x rest is read = cc read
statement_sound_of symbol.Number ts x rest is read = cc read
statement_sound_of (symbol.Parameter n) ts x rest is read = cc read
statement_sound_of (symbol.Sign b) ts x rest is read = cc read
statement_sound_of symbol.Stray ts x rest is read = cc read
statement_sound_of symbol.End ts x rest is read = cc read

led_read : (k : Keyword) (Q : Query → List Token → Type 0) (at : List Token → Reading Query) → Exact Q is_end at → (x : Query) (us rest : List Token) → Led (is_keyword k) Q x us → is_end (symbol_at rest) ≡ true → ((ts : List Token) → statement_by k ts ≡ at (drop 1 ts)) → statement_at (us ++ rest) ≡ Ok (x, rest)
led_read k Q at exact x us rest p follows same =
    let by = led_complete (is_keyword k) Q is_end at exact x us rest p follows in
    statement_at-is k (us ++ rest) (same_keyword k (symbol_at (us ++ rest)) by.tested) ∙ same (us ++ rest) ∙ by.read

pub statement_complete : (x : Query) (us rest : List Token) → IsQuery x us → is_end (symbol_at rest) ≡ true → statement_at (us ++ rest) ≡ Ok (x, rest)
statement_complete x us rest (create y vs p) follows = led_read keyword.Create CreateRest create_at exact_create x vs rest p follows (λ ts. refl)
statement_complete x us rest (insert y vs p) follows = led_read keyword.Insert InsertRest insert_at exact_insert x vs rest p follows (λ ts. refl)
statement_complete x us rest (select y vs p) follows = led_read keyword.Select SelectRest select_at exact_select x vs rest p follows (λ ts. refl)
statement_complete x us rest (update y vs p) follows = led_read keyword.Update UpdateRest update_at exact_update x vs rest p follows (λ ts. refl)
statement_complete x us rest (delete y vs p) follows = led_read keyword.Delete DeleteRest delete_at exact_delete x vs rest p follows (λ ts. refl)

pub exact_statement : Exact IsQuery is_end statement_at
unfolding statement_at
exact_statement = record { sound = λ ts x rest is. statement_sound_of (symbol_at ts) ts x rest refl is; complete = statement_complete }

ended : Query → List Token → Reading Query
ended q rest = cond (is_end (symbol_at rest)) (Ok (q, rest)) (Err (place_at rest))

ended_is : (q : Query) (rest : List Token) → is_end (symbol_at rest) ≡ true → ended q rest ≡ Ok (q, rest)
unfolding ended
ended_is q rest is = ap (λ b. judged b) is
  where
    judged : Bool → Reading Query
    judged b = cond b (Ok (q, rest)) (Err (place_at rest))

record Ended (q p : Query) (rest : List Token) : Type 0 where
  end : is_end (symbol_at rest) ≡ true
  same : q ≡ p

ended_if : Bool → Query → List Token → Reading Query
ended_if b q rest = cond b (Ok (q, rest)) (Err (place_at rest))

ended_by : (b : Bool) (q p : Query) (mid rest : List Token) → is_end (symbol_at mid) ≡ b → ended_if b q mid ≡ Ok (p, rest) → Ended q p mid
unfolding ended_if
ended_by true q p mid rest is read = record { end = is; same = same_value q p mid rest _ refl read }
ended_by false q p mid rest is read = cc read

of_whole : (r : Reading Query) (q : Query) → answer_of r ≡ Ok q → (rest : List Token) × (r ≡ Ok (q, rest))
of_whole (Ok read) q is = let same : read.0 ≡ q = cc is in (read.1, ap (λ p. as_read p read.1) same)
  where
    as_read : Query → List Token → Reading Query
    as_read p rest = Ok (p, rest)
of_whole (Err at) q is = cc is

-- what is read of a text is its query
pub query_of-sound : (sql : List ℕ) (q : Query) → query_of sql ≡ Ok q → IsQueryOf q sql
unfolding query_of whole_at ended ended_if
query_of-sound sql q is =
    let r = of_whole (whole_at (tokens_of sql)) q is in
    let s = split (statement_at (tokens_of sql)) ended q r.0 r.1 in
    let e = ended_by (is_end (symbol_at s.mid)) s.x q s.mid r.0 refl s.behind in
    let f = exact_statement.sound (tokens_of sql) s.x s.mid s.before in
    record { tokens = f.front; rest = s.mid; query = subst (λ p. IsQuery p f.front) e.same f.is; whole = f.whole; ends = e.end }

-- and each query of a text is read
pub query_of-complete : (sql : List ℕ) (q : Query) → IsQueryOf q sql → query_of sql ≡ Ok q
unfolding query_of whole_at ended
query_of-complete sql q is =
    ap (λ ts. answer_of (whole_at ts)) is.whole ∙ ap answer_of (then_ok (statement_at (is.tokens ++ is.rest)) ended q is.rest (exact_statement.complete q is.tokens is.rest is.query is.ends) ∙ ended_is q is.rest is.ends)

same_answer : (r : Result Query ℕ) (p q : Query) → r ≡ Ok p → r ≡ Ok q → p ≡ q
same_answer r p q is_first is_second = cc

-- no text is two queries
pub one_query : (sql : List ℕ) (p q : Query) → IsQueryOf p sql → IsQueryOf q sql → p ≡ q
one_query sql p q is_first is_second = same_answer (query_of sql) p q (query_of-complete sql p is_first) (query_of-complete sql q is_second)

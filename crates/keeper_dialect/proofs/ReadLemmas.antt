-- A text whose class is `Read` is no query that writes: the first token of its query and the first word of its class are one piece.
use Rattle.std.proofs.Common.{◌≡◌, ◌+◌, ℕ, Bool, true, false, cond, List, [], ◌∷◌, ◌++◌, length, codes, Option, Some, None, Ok, refl, sym, ap, ◌∙◌, subst}
use Rattle.std.specs.Prelude.{slice_index, ◌==◌}
use Rattle.std.specs.Str.{str_to_ascii_lowercase}
use Rattle.std.proofs.lemmas.Slice.Eq.{bytes_eq-Decides}
use Rattle.sql_text.specs.declared.pieces.PieceKind.{PieceKind}
use Rattle.sql_text.specs.declared.pieces.PieceKind.TheVariants as kind
use Rattle.sql_text.specs.declared.class.Class.{Class}
use Rattle.sql_text.specs.declared.class.Class.TheVariants as class
use Rattle.sql_text.specs.Pieces.{Token as Piece, token as piece, pieces}
use Rattle.sql_text.specs.Class.{transaction_keyword, statement_keyword, class_of_words, class_of_text}
use Rattle.sql_text.specs.Words.{words}
use Rattle.sql_text.specs.Parameters.{Numbered, number_taken, number_within}
use Rattle.sql_text.proofs.ClassLemmas.{class_of_text-words}
use Rattle.keeper_dialect.specs.declared.tokens.Keyword.{Keyword}
use Rattle.keeper_dialect.specs.declared.tokens.Keyword.TheVariants as keyword
use Rattle.keeper_dialect.specs.declared.tokens.Symbol.TheVariants as symbol
use Rattle.keeper_dialect.specs.declared.query.Shown.{Shown}
use Rattle.keeper_dialect.specs.declared.query.Shown.TheVariants as shown
use Rattle.keeper_dialect.specs.declared.query.Query.{Query}
use Rattle.keeper_dialect.specs.Tokens.{Token, early_keyword, late_keyword, keyword_or_word, or_keyword, symbol_of_word, parameter_or_stray, tokens_from, tokens_of, is_same_name}
use Rattle.keeper_dialect.specs.Reading.{symbol_at, is_keyword}
use Rattle.keeper_dialect.specs.Query.{query_of}
use Rattle.keeper_dialect.specs.Grammar.{here, both, first, second, one, From, Select, IsQuery, create, insert, select, update, delete}
use Rattle.keeper_dialect.specs.Reads.{is_select}
use Rattle.keeper_dialect.proofs.ExactLists.{found_some}
use Rattle.keeper_dialect.proofs.ExactParts.{Led}
use Rattle.keeper_dialect.proofs.ExactQueries.{same_keyword, query_of-sound}

-- ---- the first token and the first word

abbrev class_of_pieces : List Piece → Class
class_of_pieces ps = class_of_words (words false ps)

-- some pieces begin with a reserved word behind blanks and comments, which have no part in the class
record BeginsWith (k : Keyword) (ps : List Piece) : Type 0 where
  word : List ℕ
  rest : List Piece
  reserved : symbol_of_word word ≡ symbol.Keyword k
  same : class_of_pieces ps ≡ class_of_pieces (piece kind.Word word ∷ rest)

no_run : (k : Keyword) (double single : Bool) → cond double symbol.QuotedName (cond single symbol.Text symbol.Stray) ≡ symbol.Keyword k → ⊥
no_run k true single is = cc is
no_run k false true is = cc is
no_run k false false is = cc is

no_parameter : (k : Keyword) (o : Option ℕ) → parameter_or_stray o ≡ symbol.Keyword k → ⊥
no_parameter k None is = cc is
no_parameter k (Some n) is = cc is

begins-step : (k : Keyword) (seen : List Numbered) (before : List ℕ) (start : ℕ) (form : PieceKind) (bytes : List ℕ) (ps : List Piece) → ((before : List ℕ) (start : ℕ) → symbol_at (tokens_from seen before start ps) ≡ symbol.Keyword k → BeginsWith k ps) → symbol_at (tokens_from seen before start (piece form bytes ∷ ps)) ≡ symbol.Keyword k → BeginsWith k (piece form bytes ∷ ps)
unfolding tokens_from words
begins-step k seen before start kind.Blank bytes ps later is = let b = later (before ++ bytes) (start + length bytes) is in record { word = b.word; rest = b.rest; reserved = b.reserved; same = b.same }
begins-step k seen before start kind.Comment bytes ps later is = let b = later (before ++ bytes) (start + length bytes) is in record { word = b.word; rest = b.rest; reserved = b.reserved; same = b.same }
begins-step k seen before start kind.Quoted bytes ps later is = absurd (no_run k (slice_index bytes 0 == 34) (slice_index bytes 0 == 39) is)
begins-step k seen before start kind.Parameter bytes ps later is = absurd (no_parameter k (number_within (number_taken seen bytes)) is)
begins-step k seen before start kind.Word bytes ps later is = record { word = bytes; rest = ps; reserved = is; same = refl }
begins-step k seen before start kind.Number bytes ps later is = cc is
begins-step k seen before start (kind.Sign b) bytes ps later is = cc is
begins-step k seen before start kind.Unclosed bytes ps later is = cc is

begins : (k : Keyword) (seen : List Numbered) (before : List ℕ) (start : ℕ) (ps : List Piece) → symbol_at (tokens_from seen before start ps) ≡ symbol.Keyword k → BeginsWith k ps
unfolding tokens_from
begins k seen before start [] is = cc is
begins k seen before start (p ∷ ps) is = begins-step k seen before start p.kind p.bytes ps (λ passed at. begins k seen passed at ps) is

-- ---- the spelling of a reserved word

spelling : Keyword → List ℕ
spelling keyword.Count = codes "COUNT"
spelling keyword.Create = codes "CREATE"
spelling keyword.Delete = codes "DELETE"
spelling keyword.From = codes "FROM"
spelling keyword.Insert = codes "INSERT"
spelling keyword.Into = codes "INTO"
spelling keyword.Key = codes "KEY"
spelling keyword.Null = codes "NULL"
spelling keyword.Primary = codes "PRIMARY"
spelling keyword.Select = codes "SELECT"
spelling keyword.Set = codes "SET"
spelling keyword.Table = codes "TABLE"
spelling keyword.Update = codes "UPDATE"
spelling keyword.Values = codes "VALUES"
spelling keyword.Where = codes "WHERE"

abbrev IsSpelled : List ℕ → Keyword → Type 0
IsSpelled word k = is_same_name word (spelling k) ≡ true

tested : (word : List ℕ) (j k : Keyword) (rest : Option Keyword) (test : Bool) → is_same_name word (spelling j) ≡ test → (rest ≡ Some k → IsSpelled word k) → cond test (Some j) rest ≡ Some k → IsSpelled word k
tested word j k rest true spelled later is = let same : j ≡ k = cc is in subst (IsSpelled word) same spelled
tested word j k rest false spelled later is = later is

at_end : (word : List ℕ) (k : Keyword) → None ≡ Some k → IsSpelled word k
at_end word k is = cc is

early-spelled : (word : List ℕ) (k : Keyword) → early_keyword word ≡ Some k → IsSpelled word k
unfolding early_keyword spelling
early-spelled word k =
    tested word keyword.Count k _ _ refl (tested word keyword.Create k _ _ refl (tested word keyword.Delete k _ _ refl (tested word keyword.From k _ _ refl
    (tested word keyword.Insert k _ _ refl (tested word keyword.Into k _ _ refl (tested word keyword.Key k _ _ refl (tested word keyword.Null k _ _ refl (at_end word k))))))))

late-spelled : (word : List ℕ) (k : Keyword) → late_keyword word ≡ Some k → IsSpelled word k
unfolding late_keyword spelling
late-spelled word k =
    tested word keyword.Primary k _ _ refl (tested word keyword.Select k _ _ refl (tested word keyword.Set k _ _ refl (tested word keyword.Table k _ _ refl
    (tested word keyword.Update k _ _ refl (tested word keyword.Values k _ _ refl (tested word keyword.Where k _ _ refl (at_end word k)))))))

spelled_by : (word : List ℕ) (k : Keyword) (early late : Option Keyword) → (early ≡ Some k → IsSpelled word k) → (late ≡ Some k → IsSpelled word k) → keyword_or_word (or_keyword early late) ≡ symbol.Keyword k → IsSpelled word k
spelled_by word k (Some j) late soon later is = let same : j ≡ k = cc is in soon (ap (λ w. Some w) same)
spelled_by word k None (Some j) soon later is = let same : j ≡ k = cc is in later (ap (λ w. Some w) same)
spelled_by word k None None soon later is = cc is

spelled : (word : List ℕ) (k : Keyword) → symbol_of_word word ≡ symbol.Keyword k → str_to_ascii_lowercase word ≡ str_to_ascii_lowercase (spelling k)
spelled word k is = (bytes_eq-Decides (str_to_ascii_lowercase word) (str_to_ascii_lowercase (spelling k))).0 (spelled_by word k (early_keyword word) (late_keyword word) (early-spelled word k) (late-spelled word k) is)

-- ---- no word of a query that writes begins a text whose class is `Read`

create_writes : (word : List ℕ) (rest : List Piece) → str_to_ascii_lowercase word ≡ str_to_ascii_lowercase (codes "CREATE") → class_of_pieces (piece kind.Word word ∷ rest) ≡ class.Write
unfolding words transaction_keyword statement_keyword
create_writes word rest is = rw is

insert_writes : (word : List ℕ) (rest : List Piece) → str_to_ascii_lowercase word ≡ str_to_ascii_lowercase (codes "INSERT") → class_of_pieces (piece kind.Word word ∷ rest) ≡ class.Write
unfolding words transaction_keyword statement_keyword
insert_writes word rest is = rw is

update_writes : (word : List ℕ) (rest : List Piece) → str_to_ascii_lowercase word ≡ str_to_ascii_lowercase (codes "UPDATE") → class_of_pieces (piece kind.Word word ∷ rest) ≡ class.Write
unfolding words transaction_keyword statement_keyword
update_writes word rest is = rw is

delete_writes : (word : List ℕ) (rest : List Piece) → str_to_ascii_lowercase word ≡ str_to_ascii_lowercase (codes "DELETE") → class_of_pieces (piece kind.Word word ∷ rest) ≡ class.Write
unfolding words transaction_keyword statement_keyword
delete_writes word rest is = rw is

-- a reserved word that begins no text of class `Read`
abbrev Writes : Keyword → Type 0
Writes k = (word : List ℕ) (rest : List Piece) → str_to_ascii_lowercase word ≡ str_to_ascii_lowercase (spelling k) → class_of_pieces (piece kind.Word word ∷ rest) ≡ class.Write

not_read : (k : Keyword) → Writes k → (sql : List ℕ) → symbol_at (tokens_of sql) ≡ symbol.Keyword k → class_of_text sql ≡ class.Read → ⊥
not_read k writes sql at reads =
    let b = begins k [] [] 0 (pieces sql) at in
    let write : class_of_text sql ≡ class.Write = class_of_text-words sql ∙ b.same ∙ writes b.word b.rest (spelled b.word k b.reserved) in
    let wrong : class.Read ≡ class.Write = sym reads ∙ write in cc wrong

-- the first token of a part that a reserved word leads
led_symbol : {Q : Query → List Token → Type 0} (k : Keyword) (q : Query) (us rest : List Token) → Led (is_keyword k) Q q us → symbol_at (us ++ rest) ≡ symbol.Keyword k
led_symbol k q us rest (both u y ws vs (one t v is) p) = same_keyword k t.symbol (found_some (is_keyword k t.symbol) v is)

-- ---- what begins with `SELECT` only reads

from_reads : (what : Shown) (q : Query) (us : List Token) → From what q us → is_select q ≡ true
from_reads what q us (both _ _ _ _ _ (both _ _ _ _ _ (both _ _ _ _ _ here))) = refl

select_reads : (q : Query) (us : List Token) → Select q us → is_select q ≡ true
select_reads q us (both _ _ _ _ _ (first _ _ (both _ y _ vs _ from))) = from_reads shown.All y vs from
select_reads q us (both _ _ _ _ _ (second _ _ (first _ _ (both what y _ vs _ from)))) = from_reads what y vs from
select_reads q us (both _ _ _ _ _ (second _ _ (second _ _ (both items _ _ _ _ (first y vs from))))) = from_reads (shown.List items) y vs from
select_reads q us (both _ _ _ _ _ (second _ _ (second _ _ (both items _ _ _ _ (second _ _ here))))) = refl

-- ---- the law

by_query : (sql : List ℕ) (q : Query) (us rest : List Token) → IsQuery q us → tokens_of sql ≡ us ++ rest → class_of_text sql ≡ class.Read → is_select q ≡ true
unfolding spelling
by_query sql q us rest (create y vs p) whole reads = absurd (not_read keyword.Create create_writes sql (ap symbol_at whole ∙ led_symbol keyword.Create y vs rest p) reads)
by_query sql q us rest (insert y vs p) whole reads = absurd (not_read keyword.Insert insert_writes sql (ap symbol_at whole ∙ led_symbol keyword.Insert y vs rest p) reads)
by_query sql q us rest (select y vs p) whole reads = select_reads y vs p
by_query sql q us rest (update y vs p) whole reads = absurd (not_read keyword.Update update_writes sql (ap symbol_at whole ∙ led_symbol keyword.Update y vs rest p) reads)
by_query sql q us rest (delete y vs p) whole reads = absurd (not_read keyword.Delete delete_writes sql (ap symbol_at whole ∙ led_symbol keyword.Delete y vs rest p) reads)

-- the query of a text whose class is `Read` only reads
pub read_is_a_select : (sql : List ℕ) (q : Query) → query_of sql ≡ Ok q → class_of_text sql ≡ class.Read → is_select q ≡ true
read_is_a_select sql q is reads = let w = query_of-sound sql q is in by_query sql q w.tokens w.rest w.query w.whole reads

-- The tokens of a text end where it ends.
use Rattle.std.proofs.Common.{◌≡◌, ◌+◌, ℕ, Bool, true, false, cond, List, [], ◌∷◌, ◌++◌, length, Option, Some, None, refl, sym, ap, ◌∙◌, arith}
use Rattle.std.specs.Prelude.{◌==◌, slice_index}
use Rattle.std.proofs.lemmas.List.{length-append}
use Rattle.sql_text.specs.declared.pieces.PieceKind.{PieceKind}
use Rattle.sql_text.specs.declared.pieces.PieceKind.TheVariants as kind
use Rattle.sql_text.specs.Pieces.{Token as Piece, pieces, joined}
use Rattle.sql_text.specs.Parameters.{Numbered, number_taken, number_within}
use Rattle.sql_text.proofs.PieceLists.{each_text_has_one_list}
use Rattle.keeper_dialect.specs.declared.tokens.Keyword.{Keyword}
use Rattle.keeper_dialect.specs.declared.tokens.Symbol.TheVariants as symbol
use Rattle.keeper_dialect.specs.Tokens.{Token, tokens_from, tokens_of, token_of, end_token, symbol_of, symbol_of_run, keyword_or_word, or_keyword, early_keyword, late_keyword, parameter_or_stray, seen_after, is_passed}
use Rattle.keeper_dialect.specs.Query.{is_end}
use Rattle.keeper_dialect.proofs.Forward.{Ended, last, next}

run_is_no_end : (quote : ℕ) → is_end (symbol_of_run quote) ≡ false
run_is_no_end quote = by_tests (quote == 34) (quote == 39)
  where
    by_tests : (a b : Bool) → is_end (cond a symbol.QuotedName (cond b symbol.Text symbol.Stray)) ≡ false
    by_tests true b = refl
    by_tests false true = refl
    by_tests false false = refl

parameter_is_no_end : (o : Option ℕ) → is_end (parameter_or_stray o) ≡ false
parameter_is_no_end (Some n) = refl
parameter_is_no_end None = refl

word_is_no_end : (o : Option Keyword) → is_end (keyword_or_word o) ≡ false
word_is_no_end (Some k) = refl
word_is_no_end None = refl

-- no piece is the end
piece_is_no_end : (seen : List Numbered) (k : PieceKind) (bytes : List ℕ) → is_end (symbol_of seen k bytes) ≡ false
piece_is_no_end seen kind.Blank bytes = refl
piece_is_no_end seen kind.Comment bytes = refl
piece_is_no_end seen kind.Quoted bytes = run_is_no_end (slice_index bytes 0)
piece_is_no_end seen kind.Parameter bytes = parameter_is_no_end (number_within (number_taken seen bytes))
piece_is_no_end seen kind.Word bytes = word_is_no_end (or_keyword (early_keyword bytes) (late_keyword bytes))
piece_is_no_end seen kind.Number bytes = refl
piece_is_no_end seen (kind.Sign b) bytes = refl
piece_is_no_end seen kind.Unclosed bytes = refl

ended_either : (b : Bool) (t : Token) (us vs : List Token) → Ended us → Ended vs → Ended (cond b us (t ∷ vs))
ended_either true t us vs passed taken = passed
ended_either false t us vs passed taken = next t vs taken

-- the tokens of pieces have an end
ended_from : (seen : List Numbered) (before : List ℕ) (start : ℕ) (ps : List Piece) → Ended (tokens_from seen before start ps)
unfolding tokens_from
ended_from seen before start [] = last (end_token before start) [] refl
ended_from seen before start (p ∷ ps) = ended_either (is_passed p.kind) (token_of seen before start p.kind p.bytes) _ _ (ended_from seen (before ++ p.bytes) (start + length p.bytes) ps) (ended_from (seen_after seen p.kind p.bytes) [] (start + length p.bytes) ps)

pub tokens_ended : (sql : List ℕ) → Ended (tokens_of sql)
tokens_ended sql = ended_from [] [] 0 (pieces sql)

-- a piece is passed, or it is a token that is no end
end_either : (b : Bool) (u : Token) (passed taken us : List Token) (t : Token) (rest : List Token) (n : ℕ) → is_end u.symbol ≡ false → cond b passed (u ∷ taken) ≡ us ++ t ∷ rest → is_end t.symbol ≡ true → ((vs : List Token) → passed ≡ vs ++ t ∷ rest → t.start ≡ n) → ((vs : List Token) → taken ≡ vs ++ t ∷ rest → t.start ≡ n) → t.start ≡ n
end_either true u passed taken us t rest n differs whole end first_way second_way = first_way us whole
end_either false u passed taken [] t rest n differs whole end first_way second_way =
    let same : u ≡ t = cc whole in
    let wrong : false ≡ true = sym differs ∙ ap (λ (v : Token). is_end v.symbol) same ∙ end in cc wrong
end_either false u passed taken (v ∷ vs) t rest n differs whole end first_way second_way = second_way vs (cc whole)

-- the end stands behind the pieces
end_from : (seen : List Numbered) (before : List ℕ) (start : ℕ) (ps : List Piece) (us : List Token) (t : Token) (rest : List Token) → tokens_from seen before start ps ≡ us ++ t ∷ rest → is_end t.symbol ≡ true → t.start ≡ start + length (joined ps)
unfolding tokens_from
end_from seen before start [] [] t rest whole end = let same : end_token before start ≡ t = cc whole in let at : start ≡ t.start = ap (λ (u : Token). u.start) same in omega arith
end_from seen before start [] (u ∷ []) t rest whole end = cc whole
end_from seen before start [] (u ∷ v ∷ us) t rest whole end = cc whole
end_from seen before start (p ∷ ps) us t rest whole end =
    let size : length (joined (p ∷ ps)) ≡ length p.bytes + length (joined ps) = length-append p.bytes (joined ps) in
    end_either (is_passed p.kind) (token_of seen before start p.kind p.bytes) _ _ us t rest (start + length (joined (p ∷ ps))) (piece_is_no_end seen p.kind p.bytes) whole end
    (λ vs is. let at = end_from seen (before ++ p.bytes) (start + length p.bytes) ps vs t rest is end in omega arith)
    (λ vs is. let at = end_from (seen_after seen p.kind p.bytes) [] (start + length p.bytes) ps vs t rest is end in omega arith)

pub end_place : (sql : List ℕ) (us : List Token) (t : Token) (rest : List Token) → tokens_of sql ≡ us ++ t ∷ rest → is_end t.symbol ≡ true → t.start ≡ length sql
end_place sql us t rest whole end =
    let at = end_from [] [] 0 (pieces sql) us t rest whole end in
    let all : joined (pieces sql) ≡ sql = (each_text_has_one_list.one sql).joined in
    omega (arith, ap length all)

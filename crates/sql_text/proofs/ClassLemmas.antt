-- The words of a part as they come, and the parts of the list of pieces.
use Rattle.std.proofs.Common.{◌≡◌, ℕ, Bool, true, false, cond, List, [], ◌∷◌, map, refl, sym, ap, ◌∙◌}
use Rattle.std.specs.Prelude.{filter, ◌==◌}
use Rattle.sql_text.specs.declared.pieces.PieceKind.{PieceKind}
use Rattle.sql_text.specs.declared.pieces.PieceKind.TheVariants as kind
use Rattle.sql_text.specs.declared.class.Keyword.{Keyword}
use Rattle.sql_text.specs.declared.class.Role.TheVariants as role
use Rattle.sql_text.specs.Pieces.{Token, token, pieces}
use Rattle.sql_text.specs.Parts.{is_solid, with_front, cut, left, parts}
use Rattle.sql_text.specs.Class.{keyword_of_token, first_part, class_of_words, class_of_text}
use Rattle.sql_text.specs.Words.{words, words_by}

abbrev kind_of_token : Token → PieceKind
kind_of_token t = t.kind

abbrev solid : List Token → List Token
solid tokens = filter (λ t. is_solid t.kind) tokens

abbrev words_of : List Token → List Keyword
words_of tokens = map keyword_of_token tokens

-- a first part that has a piece more
words-with_front : (t : Token) (ps : List (List Token)) → words_of (first_part (with_front kind_of_token t ps)) ≡ keyword_of_token t ∷ words_of (first_part ps)
words-with_front t [] = refl
words-with_front t (p ∷ ps) = refl

first-left-with_front : (t : Token) (ps : List (List Token)) → words_of (first_part (left kind_of_token (with_front kind_of_token t ps))) ≡ keyword_of_token t ∷ words_of (first_part ps)
first-left-with_front t [] = refl
first-left-with_front t (p ∷ ps) = refl

abbrev begun_words : List Token → List Keyword
begun_words tokens = words_of (first_part (cut kind_of_token (solid tokens)))

abbrev first_words : List Token → List Keyword
first_words tokens = words_of (first_part (parts kind_of_token tokens))

stands-begun : (t : Token) (tokens : List Token) → words true tokens ≡ begun_words tokens → keyword_of_token t ∷ words true tokens ≡ words_of (first_part (with_front kind_of_token t (cut kind_of_token (solid tokens))))
stands-begun t tokens later = ap (λ ws. keyword_of_token t ∷ ws) later ∙ sym (words-with_front t (cut kind_of_token (solid tokens)))

stands-first : (t : Token) (tokens : List Token) → words true tokens ≡ begun_words tokens → keyword_of_token t ∷ words true tokens ≡ words_of (first_part (left kind_of_token (with_front kind_of_token t (cut kind_of_token (solid tokens)))))
stands-first t tokens later = ap (λ ws. keyword_of_token t ∷ ws) later ∙ sym (first-left-with_front t (cut kind_of_token (solid tokens)))

sign-begun : (v : Bool) (t : Token) (tokens : List Token) → words true tokens ≡ begun_words tokens → words_by (cond v role.Cuts role.Stands) true (keyword_of_token t) (words true tokens) (words true tokens) ≡ words_of (first_part (cond v ([] ∷ cut kind_of_token (solid tokens)) (with_front kind_of_token t (cut kind_of_token (solid tokens)))))
sign-begun true t tokens later = refl
sign-begun false t tokens later = stands-begun t tokens later

sign-first : (v : Bool) (t : Token) (tokens : List Token) → words true tokens ≡ begun_words tokens → words false tokens ≡ first_words tokens → words_by (cond v role.Cuts role.Stands) false (keyword_of_token t) (words false tokens) (words true tokens) ≡ words_of (first_part (left kind_of_token (cond v ([] ∷ cut kind_of_token (solid tokens)) (with_front kind_of_token t (cut kind_of_token (solid tokens))))))
sign-first true t tokens later first = first
sign-first false t tokens later first = stands-first t tokens later

begun-step : (k : PieceKind) (bytes : List ℕ) (tokens : List Token) → words true tokens ≡ begun_words tokens → words true (token k bytes ∷ tokens) ≡ begun_words (token k bytes ∷ tokens)
unfolding words
begun-step kind.Blank bytes tokens later = later
begun-step kind.Comment bytes tokens later = later
begun-step kind.Unclosed bytes tokens later = later
begun-step (kind.Sign b) bytes tokens later = sign-begun (b == 59) (token (kind.Sign b) bytes) tokens later
begun-step kind.Quoted bytes tokens later = stands-begun (token kind.Quoted bytes) tokens later
begun-step kind.Parameter bytes tokens later = stands-begun (token kind.Parameter bytes) tokens later
begun-step kind.Word bytes tokens later = stands-begun (token kind.Word bytes) tokens later
begun-step kind.Number bytes tokens later = stands-begun (token kind.Number bytes) tokens later

first-step : (k : PieceKind) (bytes : List ℕ) (tokens : List Token) → words true tokens ≡ begun_words tokens → words false tokens ≡ first_words tokens → words false (token k bytes ∷ tokens) ≡ first_words (token k bytes ∷ tokens)
unfolding words
first-step kind.Blank bytes tokens later first = first
first-step kind.Comment bytes tokens later first = first
first-step kind.Unclosed bytes tokens later first = first
first-step (kind.Sign b) bytes tokens later first = sign-first (b == 59) (token (kind.Sign b) bytes) tokens later first
first-step kind.Quoted bytes tokens later first = stands-first (token kind.Quoted bytes) tokens later
first-step kind.Parameter bytes tokens later first = stands-first (token kind.Parameter bytes) tokens later
first-step kind.Word bytes tokens later first = stands-first (token kind.Word bytes) tokens later
first-step kind.Number bytes tokens later first = stands-first (token kind.Number bytes) tokens later

-- the words of the part that was begun are those before the next cut
words-begun : (tokens : List Token) → words true tokens ≡ begun_words tokens
unfolding words
words-begun [] = refl
words-begun (t ∷ tokens) = begun-step t.kind t.bytes tokens (words-begun tokens)

-- the words of a text are those of its first part
words-first : (tokens : List Token) → words false tokens ≡ first_words tokens
unfolding words
words-first [] = refl
words-first (t ∷ tokens) = first-step t.kind t.bytes tokens (words-begun tokens) (words-first tokens)

-- the class is that of the words as they come
pub class_of_text-words : (sql : List ℕ) → class_of_text sql ≡ class_of_words (words false (pieces sql))
unfolding class_of_text
class_of_text-words sql = ap class_of_words (sym (words-first (pieces sql)))

-- The class of a text, by the words of its first part.
use Rattle.std.specs.Prelude.{ℕ, Bool, List, [], ◌∷◌, map, codes, if◌then◌else◌}
use Rattle.std.specs.Str.{str_eq_ignore_ascii_case}
use Rattle.sql_text.specs.declared.pieces.PieceKind.{PieceKind}
use Rattle.sql_text.specs.declared.pieces.PieceKind.TheVariants as kind
use Rattle.sql_text.specs.declared.class.Class.{Class}
use Rattle.sql_text.specs.declared.class.Class.TheVariants as class
use Rattle.sql_text.specs.declared.class.Mode.TheVariants as mode
use Rattle.sql_text.specs.declared.class.Keyword.{Keyword}
use Rattle.sql_text.specs.declared.class.Keyword.TheVariants as keyword
use Rattle.sql_text.specs.Pieces.{Token, pieces}
use Rattle.sql_text.specs.Parts.{parts}

-- words compare without regard to ASCII case
abbrev pub is_word : List ℕ → List ℕ → Bool
is_word word name = str_eq_ignore_ascii_case word name

-- the words of transactions
unfoldable pub transaction_keyword : List ℕ → Keyword
transaction_keyword word =
    if is_word word (codes "BEGIN") then keyword.Begin
    else (if is_word word (codes "DEFERRED") then keyword.Deferred
    else (if is_word word (codes "IMMEDIATE") then keyword.Immediate
    else (if is_word word (codes "EXCLUSIVE") then keyword.Exclusive
    else (if is_word word (codes "TRANSACTION") then keyword.Transaction
    else (if is_word word (codes "READONLY") then keyword.Readonly
    else (if is_word word (codes "COMMIT") then keyword.Commit
    else (if is_word word (codes "END") then keyword.End
    else (if is_word word (codes "ROLLBACK") then keyword.Rollback
    else (if is_word word (codes "TO") then keyword.To
    else (if is_word word (codes "SAVEPOINT") then keyword.Savepoint
    else (if is_word word (codes "RELEASE") then keyword.Release
    else keyword.Other)))))))))))

-- the words that begin other statements
unfoldable pub statement_keyword : List ℕ → Keyword
statement_keyword word =
    if is_word word (codes "PRAGMA") then keyword.Pragma
    else (if is_word word (codes "ATTACH") then keyword.Attach
    else (if is_word word (codes "DETACH") then keyword.Detach
    else (if is_word word (codes "VACUUM") then keyword.Vacuum
    else (if is_word word (codes "SELECT") then keyword.Select
    else (if is_word word (codes "VALUES") then keyword.Values
    else (if is_word word (codes "WITH") then keyword.With
    else keyword.Other))))))

-- another word, where the first is no word that counts
abbrev pub or_keyword : Keyword → Keyword → Keyword
or_keyword keyword.Other second = second
or_keyword first second = first

-- which word a piece is; only a piece that is a word can be one that counts
abbrev pub keyword_of : PieceKind → List ℕ → Keyword
keyword_of kind.Word bytes = or_keyword (transaction_keyword bytes) (statement_keyword bytes)
keyword_of k bytes = keyword.Other

abbrev pub keyword_of_token : Token → Keyword
keyword_of_token token = keyword_of token.kind token.bytes

-- a class, where nothing follows
abbrev pub alone : Class → List Keyword → Class
alone c [] = c
alone c (word ∷ words) = class.Barred

-- a class, where nothing follows but perhaps `TRANSACTION`
abbrev pub perhaps_transaction : Class → List Keyword → Class
perhaps_transaction c [] = c
perhaps_transaction c (keyword.Transaction ∷ words) = alone c words
perhaps_transaction c (word ∷ words) = class.Barred

-- what follows `BEGIN TRANSACTION`
abbrev pub transaction_begun : List Keyword → Class
transaction_begun [] = class.Begin mode.Deferred
transaction_begun (keyword.Readonly ∷ words) = alone (class.Begin mode.Deferred) words
transaction_begun (word ∷ words) = class.Barred

-- what follows `BEGIN`
abbrev pub begun : List Keyword → Class
begun [] = class.Begin mode.Deferred
begun (keyword.Transaction ∷ words) = transaction_begun words
begun (keyword.Deferred ∷ words) = perhaps_transaction (class.Begin mode.Deferred) words
begun (keyword.Immediate ∷ words) = perhaps_transaction (class.Begin mode.Immediate) words
begun (keyword.Exclusive ∷ words) = perhaps_transaction (class.Begin mode.Immediate) words
begun (word ∷ words) = class.Barred

-- what follows `ROLLBACK`, perhaps `TRANSACTION`
abbrev pub rolled_to : List Keyword → Class
rolled_to [] = class.Rollback
rolled_to (keyword.To ∷ words) = class.Savepoint
rolled_to (word ∷ words) = class.Barred

-- what follows `ROLLBACK`
abbrev pub rolled : List Keyword → Class
rolled (keyword.Transaction ∷ words) = rolled_to words
rolled words = rolled_to words

-- the class of the pieces of a part, as words
abbrev pub class_of_words : List Keyword → Class
class_of_words [] = class.Empty
class_of_words (keyword.Begin ∷ words) = begun words
class_of_words (keyword.Commit ∷ words) = perhaps_transaction class.Commit words
class_of_words (keyword.End ∷ words) = perhaps_transaction class.Commit words
class_of_words (keyword.Rollback ∷ words) = rolled words
class_of_words (keyword.Savepoint ∷ words) = class.Savepoint
class_of_words (keyword.Release ∷ words) = class.Savepoint
class_of_words (keyword.Pragma ∷ words) = class.Barred
class_of_words (keyword.Attach ∷ words) = class.Barred
class_of_words (keyword.Detach ∷ words) = class.Barred
class_of_words (keyword.Vacuum ∷ words) = class.Barred
class_of_words (keyword.Select ∷ words) = class.Read
class_of_words (keyword.Values ∷ words) = class.Read
class_of_words (keyword.With ∷ words) = class.Read
class_of_words (word ∷ words) = class.Write

abbrev pub first_part : List (List Token) → List Token
first_part [] = []
first_part (part ∷ parts) = part

-- the class of a text: that of the first part that is left
unfoldable pub class_of_text : List ℕ → Class
class_of_text sql = class_of_words (map keyword_of_token (first_part (parts (λ token. token.kind) (pieces sql))))

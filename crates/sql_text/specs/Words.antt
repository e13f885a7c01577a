-- The words of a part as they come, piece by piece.
use Rattle.std.specs.Prelude.{◌==◌, Bool, true, false, List, [], ◌∷◌, if◌then◌else◌}
use Rattle.sql_text.specs.declared.pieces.PieceKind.{PieceKind}
use Rattle.sql_text.specs.declared.pieces.PieceKind.TheVariants as kind
use Rattle.sql_text.specs.declared.class.Keyword.{Keyword}
use Rattle.sql_text.specs.declared.class.Role.{Role}
use Rattle.sql_text.specs.declared.class.Role.TheVariants as role
use Rattle.sql_text.specs.Pieces.{Token}
use Rattle.sql_text.specs.Class.{keyword_of_token}

-- blanks and comments are passed over, a `;` cuts
abbrev pub role_of : PieceKind → Role
role_of kind.Blank = role.Skipped
role_of kind.Comment = role.Skipped
role_of kind.Unclosed = role.Skipped
role_of (kind.Sign b) = if b == 59 then role.Cuts else role.Stands
role_of k = role.Stands

-- a word more by its piece's role: `same` are the words of the rest as before it, `next` those within its part
abbrev pub words_by : Role → Bool → Keyword → List Keyword → List Keyword → List Keyword
words_by role.Skipped begun word same next = same
words_by role.Cuts true word same next = []
words_by role.Cuts false word same next = same
words_by role.Stands begun word same next = word ∷ next

-- The words that are left of the part that was begun, or else all words of the first part that has any.
unfoldable pub words : Bool → List Token → List Keyword
words begun [] = []
words begun (token ∷ tokens) = words_by (role_of token.kind) begun (keyword_of_token token) (words begun tokens) (words true tokens)

-- No two codes share a name.
use Rattle.std.proofs.Common.{◌≡◌, ℕ, ◌<◌, List, [], ◌∷◌, length, get_or, map, refl, sym, ◌∙◌, ap, lit<}
use Rattle.hrana_value.proofs.NameLemmas.{all_differ-get_or}
use Rattle.hrana_stmt.specs.declared.codes.Code.{Code}
use Rattle.hrana_stmt.specs.declared.codes.Code.TheVariants.{FloatUnsupported, DescribeUnsupported, UnknownRequest, BadStep, BadRequest, Auth, StreamNotOpen, StreamExists, TooManyStreams, StreamLost, CursorNotOpen, CursorExists, CursorOpen, SqlIdInUse, NoSqlId, TooManyTexts, BatonDead, NoToken, NoMemory, SqlOpen, NoStatement, ManyStatements, SavepointUnsupported, SqlUnsupported, Args, TxnOpen, NoTxn, Busy, EngineFault, SqlRefused, Syntax, NoTable, NoColumn, TableExists, Constraint, BadType, Overflow, ResultTooLarge}
use Rattle.hrana_stmt.specs.declared.codes.TheConstants.{CODE_NAMES}
use Rattle.hrana_stmt.specs.Codes.{name_of, CodesDiffer}

-- the place of a code in the table
abbrev place : Code → ℕ
place FloatUnsupported = 0
place DescribeUnsupported = 1
place UnknownRequest = 2
place BadStep = 3
place BadRequest = 4
place Auth = 5
place StreamNotOpen = 6
place StreamExists = 7
place TooManyStreams = 8
place StreamLost = 9
place CursorNotOpen = 10
place CursorExists = 11
place CursorOpen = 12
place SqlIdInUse = 13
place NoSqlId = 14
place TooManyTexts = 15
place BatonDead = 16
place NoToken = 17
place NoMemory = 18
place SqlOpen = 19
place NoStatement = 20
place ManyStatements = 21
place SavepointUnsupported = 22
place SqlUnsupported = 23
place Args = 24
place TxnOpen = 25
place NoTxn = 26
place Busy = 27
place EngineFault = 28
place SqlRefused = 29
place Syntax = 30
place NoTable = 31
place NoColumn = 32
place TableExists = 33
place Constraint = 34
place BadType = 35
place Overflow = 36
place ResultTooLarge = 37

abbrev all_codes : List Code
all_codes = FloatUnsupported ∷ DescribeUnsupported ∷ UnknownRequest ∷ BadStep ∷ BadRequest ∷ Auth ∷ StreamNotOpen ∷ StreamExists ∷ TooManyStreams ∷ StreamLost ∷ CursorNotOpen ∷ CursorExists ∷ CursorOpen ∷ SqlIdInUse ∷ NoSqlId ∷ TooManyTexts ∷ BatonDead ∷ NoToken ∷ NoMemory ∷ SqlOpen ∷ NoStatement ∷ ManyStatements ∷ SavepointUnsupported ∷ SqlUnsupported ∷ Args ∷ TxnOpen ∷ NoTxn ∷ Busy ∷ EngineFault ∷ SqlRefused ∷ Syntax ∷ NoTable ∷ NoColumn ∷ TableExists ∷ Constraint ∷ BadType ∷ Overflow ∷ ResultTooLarge ∷ []

abbrev all_names : List (List ℕ)
all_names = map (λ row. row.now) CODE_NAMES

code_at : (c : Code) → get_or all_codes (place c) FloatUnsupported ≡ c
code_at FloatUnsupported = refl
code_at DescribeUnsupported = refl
code_at UnknownRequest = refl
code_at BadStep = refl
code_at BadRequest = refl
code_at Auth = refl
code_at StreamNotOpen = refl
code_at StreamExists = refl
code_at TooManyStreams = refl
code_at StreamLost = refl
code_at CursorNotOpen = refl
code_at CursorExists = refl
code_at CursorOpen = refl
code_at SqlIdInUse = refl
code_at NoSqlId = refl
code_at TooManyTexts = refl
code_at BatonDead = refl
code_at NoToken = refl
code_at NoMemory = refl
code_at SqlOpen = refl
code_at NoStatement = refl
code_at ManyStatements = refl
code_at SavepointUnsupported = refl
code_at SqlUnsupported = refl
code_at Args = refl
code_at TxnOpen = refl
code_at NoTxn = refl
code_at Busy = refl
code_at EngineFault = refl
code_at SqlRefused = refl
code_at Syntax = refl
code_at NoTable = refl
code_at NoColumn = refl
code_at TableExists = refl
code_at Constraint = refl
code_at BadType = refl
code_at Overflow = refl
code_at ResultTooLarge = refl

name_at : (c : Code) → get_or all_names (place c) [] ≡ name_of c
name_at FloatUnsupported = refl
name_at DescribeUnsupported = refl
name_at UnknownRequest = refl
name_at BadStep = refl
name_at BadRequest = refl
name_at Auth = refl
name_at StreamNotOpen = refl
name_at StreamExists = refl
name_at TooManyStreams = refl
name_at StreamLost = refl
name_at CursorNotOpen = refl
name_at CursorExists = refl
name_at CursorOpen = refl
name_at SqlIdInUse = refl
name_at NoSqlId = refl
name_at TooManyTexts = refl
name_at BatonDead = refl
name_at NoToken = refl
name_at NoMemory = refl
name_at SqlOpen = refl
name_at NoStatement = refl
name_at ManyStatements = refl
name_at SavepointUnsupported = refl
name_at SqlUnsupported = refl
name_at Args = refl
name_at TxnOpen = refl
name_at NoTxn = refl
name_at Busy = refl
name_at EngineFault = refl
name_at SqlRefused = refl
name_at Syntax = refl
name_at NoTable = refl
name_at NoColumn = refl
name_at TableExists = refl
name_at Constraint = refl
name_at BadType = refl
name_at Overflow = refl
name_at ResultTooLarge = refl

placed : (c : Code) → place c < length all_names
placed FloatUnsupported = lit< tt
placed DescribeUnsupported = lit< tt
placed UnknownRequest = lit< tt
placed BadStep = lit< tt
placed BadRequest = lit< tt
placed Auth = lit< tt
placed StreamNotOpen = lit< tt
placed StreamExists = lit< tt
placed TooManyStreams = lit< tt
placed StreamLost = lit< tt
placed CursorNotOpen = lit< tt
placed CursorExists = lit< tt
placed CursorOpen = lit< tt
placed SqlIdInUse = lit< tt
placed NoSqlId = lit< tt
placed TooManyTexts = lit< tt
placed BatonDead = lit< tt
placed NoToken = lit< tt
placed NoMemory = lit< tt
placed SqlOpen = lit< tt
placed NoStatement = lit< tt
placed ManyStatements = lit< tt
placed SavepointUnsupported = lit< tt
placed SqlUnsupported = lit< tt
placed Args = lit< tt
placed TxnOpen = lit< tt
placed NoTxn = lit< tt
placed Busy = lit< tt
placed EngineFault = lit< tt
placed SqlRefused = lit< tt
placed Syntax = lit< tt
placed NoTable = lit< tt
placed NoColumn = lit< tt
placed TableExists = lit< tt
placed Constraint = lit< tt
placed BadType = lit< tt
placed Overflow = lit< tt
placed ResultTooLarge = lit< tt

pub name_of-injective : CodesDiffer
name_of-injective c d e =
    let same = all_differ-get_or all_names refl (place c) (place d) (placed c) (placed d) (name_at c ∙ e ∙ sym (name_at d)) in
    sym (code_at c) ∙ ap (λ i. get_or all_codes i FloatUnsupported) same ∙ code_at d

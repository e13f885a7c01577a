-- A tree is one of at most one statement, and is read where the statement breaks no limit.
use Rattle.std.proofs.Common.{◌≡◌, inl, inr, ap, sym, subst, ◌∙◌, List, ℕ, Bool, codes, ◌<◌, ◌+◌, ◌≤◌, length, arith, refl}
use Rattle.std.specs.Prelude.{IsSomeAnd}
use Rattle.std.proofs.lemmas.Bool.{cases_lt}
use Rattle.serde_json.specs.Data.{Data, null, boolean, number, string, array, object}
use Rattle.hrana_value.specs.declared.value.Value.{Value}
use Rattle.hrana_value.specs.declared.failures.Decline.TheVariants.{Range}
use Rattle.hrana_value.specs.Declines.{NoneStands, EitherStands, Only}
use Rattle.hrana_value.specs.Members.{part_at, text_at, TextStands}
use Rattle.hrana_value.specs.Tree.{ValueTree, ValueStands}
use Rattle.hrana_value.specs.Trees.{OptionalArrayStands}
use Rattle.hrana_value.proofs.TextLemmas.{one}
use Rattle.hrana_value.proofs.TreeLemmas.{ValueTree-one, ValueTree-none}
use Rattle.hrana_value.proofs.ItemsLemmas.{OptionalArrayTree-one}
use Rattle.hrana_value.proofs.ArrayLemmas.{OptionalArrayTree-none}
use Rattle.hrana_value.proofs.PartLemmas.{TextTree-none}
use Rattle.hrana_value.proofs.DeclineLemmas.{NoneStands-parts}
use Rattle.hrana_stmt.specs.declared.limits.TheConstants.{MAX_SQL_BYTES, MAX_ARGUMENTS}
use Rattle.hrana_stmt.specs.Tree.{SqlTree, SqlStands, IsWithinSqlLimit, IsObject, ObjectStands, NamedArgTree, NamedArgStands, WantsRowsTree, WantsRowsStands, ArgumentsStand, StmtHeadStands, StmtStands, StmtTree, StmtFits, NoTreeIsTwoStatements, FittingStatementsAreRead, count_of}
use Rattle.hrana_stmt.specs.declared.statements.SqlRef.{SqlRef}
use Rattle.hrana_stmt.specs.declared.statements.SqlRef.TheVariants.{Text, Id}
use Rattle.hrana_stmt.specs.declared.statements.NamedArg.{NamedArg}
use Rattle.hrana_stmt.specs.declared.statements.Stmt.{Stmt}
use Rattle.hrana_stmt.proofs.SqlLemmas.{sql_text_none, sql_id_none, text_given, id_given}
use Rattle.hrana_stmt.proofs.ArgumentLemmas.{OptionalArrayTree-length}

-- ---- a tree is one of at most one statement

pub SqlTree-one : (t : Data) (s r : SqlRef) → SqlTree s t → SqlTree r t → s ≡ r
SqlTree-one t (Text s) (Text r) p q = ap Text (one _ _ _ p.0 q.0)
SqlTree-one t (Text s) (Id z) p q = absurd (text_given (part_at (codes "sql") t) s p.0 q.1)
SqlTree-one t (Id z) (Text s) p q = absurd (text_given (part_at (codes "sql") t) s q.0 p.1)
SqlTree-one t (Id z) (Id y) p q = ap Id (one _ _ _ p.0.is q.0.is)

abbrev named_arg : List ℕ → Value → NamedArg
named_arg n v = record { name = n; value = v }

NamedArgTree-one : (t : Data) (a b : NamedArg) → NamedArgTree a t → NamedArgTree b t → a ≡ b
NamedArgTree-one t a b p q =
    ap (λ n. named_arg n a.value) (one (text_at (codes "name") t) a.name b.name p.name q.name) ∙ ap (named_arg b.name) (ValueTree-one (part_at (codes "value") t) a.value b.value p.value q.value)

WantsRowsTree-one : (d : Data) (a b : Bool) → WantsRowsTree a d → WantsRowsTree b d → a ≡ b
WantsRowsTree-one null a b p q = p ∙ sym q
WantsRowsTree-one (boolean c) a b p q = p ∙ sym q
WantsRowsTree-one (number n) a b p q = absurd p
WantsRowsTree-one (string s) a b p q = absurd p
WantsRowsTree-one (array ds) a b p q = absurd p
WantsRowsTree-one (object ms) a b p q = absurd p

abbrev stmt : SqlRef → List Value → List NamedArg → Bool → Stmt
stmt a b c d = record { sql = a; args = b; named = c; want_rows = d }

pub StmtTree-one : NoTreeIsTwoStatements
StmtTree-one t s r p q =
    let sql : s.sql ≡ r.sql = SqlTree-one t s.sql r.sql p.sql q.sql in
    let args : s.args ≡ r.args = OptionalArrayTree-one ValueTree ValueTree-one _ s.args r.args p.args q.args in
    let named : s.named ≡ r.named = OptionalArrayTree-one NamedArgTree NamedArgTree-one _ s.named r.named p.named q.named in
    let want_rows : s.want_rows ≡ r.want_rows = WantsRowsTree-one _ s.want_rows r.want_rows p.want_rows q.want_rows in
    ap (λ a. stmt a s.args s.named s.want_rows) sql ∙ ap (λ b. stmt r.sql b s.named s.want_rows) args
    ∙ ap (λ c. stmt r.sql r.args c s.want_rows) named ∙ ap (stmt r.sql r.args r.named) want_rows

-- ---- a statement that breaks no limit is read

pub given_object : (name : List ℕ) (t : Data) → (part_at name t ≡ null → ⊥) → IsObject t
given_object name null given = given refl
given_object name (boolean b) given = given refl
given_object name (number n) given = given refl
given_object name (string s) given = given refl
given_object name (array ds) given = given refl
given_object name (object ms) given = tt

object_of_sql : (s : SqlRef) (t : Data) → SqlTree s t → IsObject t
object_of_sql (Text s) t p = given_object (codes "sql") t (text_given (part_at (codes "sql") t) s p.0)
object_of_sql (Id z) t p = given_object (codes "sql_id") t (id_given (part_at (codes "sql_id") t) z p.0.is)

pub sql_none : (s : SqlRef) (t : Data) → SqlTree s t → IsWithinSqlLimit s → NoneStands (SqlStands t)
sql_none (Text s) t p fits = sql_text_none (part_at (codes "sql") t) (part_at (codes "sql_id") t) s p.0 p.1 fits
sql_none (Id z) t p fits = sql_id_none (part_at (codes "sql") t) (part_at (codes "sql_id") t) z p.0 p.1

NamedArgTree-none : (a : NamedArg) (t : Data) → NamedArgTree a t → NoneStands (NamedArgStands t)
NamedArgTree-none a t p =
    NoneStands-parts (TextStands (part_at (codes "name") t)) (ValueStands (part_at (codes "value") t)) (TextTree-none a.name (part_at (codes "name") t) p.name)
    (ValueTree-none a.value (part_at (codes "value") t) p.value)

head_none : (s : Stmt) (t : Data) → StmtTree s t → StmtFits s → NoneStands (StmtHeadStands t)
head_none s t p fits =
    NoneStands-parts (EitherStands (ObjectStands t) (SqlStands t)) (WantsRowsStands (part_at (codes "want_rows") t))
    (NoneStands-parts (ObjectStands t) (SqlStands t) (λ k here. here.1 (object_of_sql s.sql t p.sql)) (sql_none s.sql t p.sql fits.sql)) (λ k here. here.1 s.want_rows p.want_rows)

args_count : (s : Stmt) (t : Data) → StmtTree s t → length s.args + length s.named ≡ count_of (part_at (codes "args") t) + count_of (part_at (codes "named_args") t)
args_count s t p =
    let args = OptionalArrayTree-length ValueTree s.args (part_at (codes "args") t) p.args in
    let named = OptionalArrayTree-length NamedArgTree s.named (part_at (codes "named_args") t) p.named in
    omega (arith, args, named)

arguments_none : (s : Stmt) (t : Data) → StmtTree s t → StmtFits s → NoneStands (ArgumentsStand (part_at (codes "args") t) (part_at (codes "named_args") t))
arguments_none s t p fits =
    let args = part_at (codes "args") t in let named = part_at (codes "named_args") t in
    NoneStands-parts (EitherStands (OptionalArrayStands ValueStands args) (OptionalArrayStands NamedArgStands named)) (Only Range (MAX_ARGUMENTS < count_of args + count_of named))
    (NoneStands-parts (OptionalArrayStands ValueStands args) (OptionalArrayStands NamedArgStands named) (OptionalArrayTree-none ValueTree ValueStands ValueTree-none s.args args p.args)
    (OptionalArrayTree-none NamedArgTree NamedArgStands NamedArgTree-none s.named named p.named))
    (λ k here. let count = args_count s t p in let few = fits.args in let many = here.1 in absurd (omega arith))

stmt_none : (s : Stmt) (t : Data) → StmtTree s t → StmtFits s → NoneStands (StmtStands t)
stmt_none s t p fits =
    NoneStands-parts (StmtHeadStands t) (ArgumentsStand (part_at (codes "args") t) (part_at (codes "named_args") t)) (head_none s t p fits) (arguments_none s t p fits)

-- ---- a statement of a tree in which nothing stands breaks no limit

pub sql_fits : (s : SqlRef) (t : Data) → SqlTree s t → NoneStands (SqlStands t) → IsWithinSqlLimit s
sql_fits (Text s) t p none = elim (cases_lt MAX_SQL_BYTES (length s)) [
  | inl long ↦ absurd (none Range (inl (subst (λ o. IsSomeAnd o (λ r. MAX_SQL_BYTES < length r)) (sym p.0) long)))
  | inr fits ↦ fits
]
sql_fits (Id z) t p none = tt

args_fit : (s : Stmt) (t : Data) → StmtTree s t → NoneStands (StmtStands t) → length s.args + length s.named ≤ MAX_ARGUMENTS
args_fit s t p none = elim (cases_lt MAX_ARGUMENTS (length s.args + length s.named)) [
  | inl many ↦ absurd (none Range (inr (inr (refl, let count = args_count s t p in omega arith))))
  | inr few ↦ few
]

pub StmtTree-fits : FittingStatementsAreRead
StmtTree-fits s t p = (stmt_none s t p, λ none. record { sql = sql_fits s.sql t p.sql (λ k here. none k (inl (inl (inr here)))); args = args_fit s t p none })

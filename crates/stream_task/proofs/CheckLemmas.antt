-- A statement that is prepared, or not, by its text.
use Rattle.std.proofs.Common.{◌≡◌, ℕ, List, Some, None, Result, Err, ap, ◌∙◌, refl, sym, subst}
use Rattle.hrana_value.specs.declared.value.Value.{Value}
use Rattle.hrana_stmt.specs.declared.statements.NamedArg.{NamedArg}
use Rattle.hrana_stmt.specs.declared.statements.Stmt.{Stmt}
use Rattle.hrana_stmt.specs.declared.codes.Code.{Code}
use Rattle.hrana_stmt.specs.declared.codes.Code.TheVariants as code
use Rattle.sql_text.specs.declared.prepared.Prepared.{Prepared}
use Rattle.sql_text.specs.declared.prepared.PrepareFail.{PrepareFail}
use Rattle.sql_text.specs.declared.prepared.PrepareFail.TheVariants as fail
use Rattle.sql_text.specs.Prepared.{prepared_of, PreparesAs}
use Rattle.stream_task.specs.declared.texts.StoredText.{StoredText}
use Rattle.stream_task.specs.declared.checks.CheckFail.{CheckFail}
use Rattle.stream_task.specs.Checks.{text_of, coded, ready_of, ready_of_text, ChecksAs, check_fail_of}

pub none_stored : (texts : List StoredText) (stmt : Stmt) → text_of texts stmt.sql ≡ None → ready_of texts stmt ≡ Err code.NoSqlId
unfolding ready_of
none_stored texts stmt e = ap (ready_of_text stmt) e

pub ready_by_text : (texts : List StoredText) (stmt : Stmt) (text : List ℕ) (args : List Value) (named : List NamedArg) → text_of texts stmt.sql ≡ Some text → args ≡ stmt.args → named ≡ stmt.named
    → ready_of texts stmt ≡ coded (prepared_of text args named)
unfolding ready_of
ready_by_text texts stmt text args named e a n = ap (ready_of_text stmt) e ∙ rw (a, n) refl

pub refused_by : (f : PrepareFail) (expected : Result Prepared PrepareFail) → PreparesAs (Err f) expected → ChecksAs (coded expected) (Err (check_fail_of f))
refused_by (fail.Unclosed at) expected e = ap coded e
refused_by fail.Empty expected e = ap coded e
refused_by fail.Many expected e = ap coded e
refused_by fail.Savepoint expected e = ap coded e
refused_by fail.Barred expected e = ap coded e
refused_by fail.Args expected e = ap coded e
refused_by fail.NoMemory expected e = tt

pub refused_text : (texts : List StoredText) (stmt : Stmt) (text : List ℕ) (args : List Value) (named : List NamedArg) (f : PrepareFail) (r : CheckFail) → text_of texts stmt.sql ≡ Some text → args ≡ stmt.args → named ≡ stmt.named
    → PreparesAs (Err f) (prepared_of text args named) → r ≡ check_fail_of f → ChecksAs (ready_of texts stmt) (Err r)
refused_text texts stmt text args named f r e a n p i =
    subst (λ (x : CheckFail). ChecksAs (ready_of texts stmt) (Err x)) (sym i)
    (subst (λ (x : Result Prepared Code). ChecksAs x (Err (check_fail_of f))) (sym (ready_by_text texts stmt text args named e a n)) (refused_by f (prepared_of text args named) p))

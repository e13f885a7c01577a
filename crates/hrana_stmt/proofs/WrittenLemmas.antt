-- What is written is the form of what it was written for.
use Rattle.std.proofs.Common.{ℕ, ℤ, ◌<◌, ◌^◌, List, Option, None, Some, refl}
use Rattle.std.specs.Prelude.{FitsSigned}
use Rattle.std.specs.Int.{w64}
use Rattle.std.specs.Fmt.{signed_decimal}
use Rattle.hrana_value.specs.Members.{TextTree}
use Rattle.hrana_value.specs.Tree.{Int64TextTree}
use Rattle.hrana_value.specs.Trees.{ArrayTree, OptionalTree}
use Rattle.hrana_value.proofs.IntegerLemmas.{SpellsI64-signed_decimal}
use Rattle.hrana_stmt.specs.declared.results.Col.{Col}
use Rattle.hrana_stmt.specs.declared.results.StmtResult.{StmtResult}
use Rattle.hrana_stmt.specs.declared.errors.WireError.{WireError}
use Rattle.hrana_stmt.specs.Tree.{ColTree, RowTree, StmtResultTree, WireErrorTree}
use Rattle.hrana_stmt.specs.Written.{optional_text, rowid_data, col_data, cols_data, rows_data, result_data, error_data}

pub optional_text_back : (o : Option (List ℕ)) → OptionalTree TextTree o (optional_text o)
optional_text_back None = refl
optional_text_back (Some s) = (λ e. cc e, refl)

pub col_back : (c : Col) → ColTree c (col_data c)
col_back c = record { is_object = tt; name = optional_text_back c.name }

pub error_back : (e : WireError) → WireErrorTree e (error_data e)
error_back e = record { message = refl; code = optional_text_back e.code }

pub int64_back : (z : ℤ) → FitsSigned w64 z → OptionalTree Int64TextTree (Some z) (rowid_data (Some z))
int64_back z fits = (λ e. cc e, (signed_decimal z, refl, SpellsI64-signed_decimal z fits))

pub result_back : (r : StmtResult) → r.affected < 2 ^ 64 → ArrayTree ColTree r.cols (cols_data r.cols) → OptionalTree Int64TextTree r.last_rowid (rowid_data r.last_rowid) → ArrayTree RowTree r.rows (rows_data r.rows)
    → StmtResultTree r (result_data r)
result_back r fits c i w = record { cols = c; rows = w; affected = record { is = refl; fits = fits }; last_rowid = i }

-- What is written has no float, so that its text is the compact text of its tree.
use Rattle.std.proofs.Common.{◌≡◌, List, Option, None, Some, false, ℤ, ℕ, refl}
use Rattle.serde_json.specs.Written.{has_float}
use Rattle.hrana_value.specs.declared.value.Value.{Value}
use Rattle.hrana_value.proofs.NoFloats.{neither, items_have_float-map, has_float-values_data}
use Rattle.hrana_stmt.specs.declared.results.Col.{Col}
use Rattle.hrana_stmt.specs.declared.results.StmtResult.{StmtResult}
use Rattle.hrana_stmt.specs.declared.errors.WireError.{WireError}
use Rattle.hrana_stmt.specs.Written.{optional_text, rowid_data, col_data, cols_data, row_data, rows_data, result_data, error_data}

pub has_float-optional_text : (o : Option (List ℕ)) → has_float (optional_text o) ≡ false
has_float-optional_text None = refl
has_float-optional_text (Some s) = refl

has_float-col_data : (c : Col) → has_float (col_data c) ≡ false
has_float-col_data c = neither _ _ (has_float-optional_text c.name) refl

pub has_float-cols_data : (cols : List Col) → has_float (cols_data cols) ≡ false
has_float-cols_data cols = items_have_float-map col_data has_float-col_data cols

pub has_float-row_data : (row : List Value) → has_float (row_data row) ≡ false
has_float-row_data row = has_float-values_data row

pub has_float-rows_data : (rows : List (List Value)) → has_float (rows_data rows) ≡ false
has_float-rows_data rows = items_have_float-map row_data has_float-row_data rows

pub has_float-rowid_data : (o : Option ℤ) → has_float (rowid_data o) ≡ false
has_float-rowid_data None = refl
has_float-rowid_data (Some z) = refl

pub has_float-result_data : (r : StmtResult) → has_float (result_data r) ≡ false
has_float-result_data r =
    neither _ _ refl (neither _ _ (has_float-cols_data r.cols) (neither _ _ (has_float-rowid_data r.last_rowid) (neither _ _ (has_float-rows_data r.rows) refl)))

pub has_float-error_data : (e : WireError) → has_float (error_data e) ≡ false
has_float-error_data e = neither _ _ (has_float-optional_text e.code) refl

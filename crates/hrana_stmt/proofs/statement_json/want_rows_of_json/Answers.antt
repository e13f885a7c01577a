use Rattle.std.proofs.Common.{true, sym, ◌∙◌}
use Rattle.serde_json.specs.View.{view}
use Rattle.hrana_value.proofs.PartLemmas.{is_null_true, is_null_false}
use Rattle.hrana_stmt.proofs.StmtReadings.{want_rows_read, want_rows_null, want_rows_boolean, want_rows_misshaped}
use Rattle.hrana_stmt.proofs.statement_json.want_rows_of_json.Goals as goal

pub returns-then-is_null : goal.returns-then-is_null
returns-then-is_null c =
    let t = view c.args.json.now in
    want_rows_read t true (want_rows_null t (is_null_true t (sym c.is_null.ensures ∙ c.if-is_null.true)))

pub returns-in-Some : goal.returns-in-Some
returns-in-Some c =
    let t = view c.args.json.now in
    want_rows_read t c.in-Some.wanted (want_rows_boolean t c.in-Some.wanted (sym c.as_bool.ensures ∙ c.in-Some.is))

pub returns-in-None : goal.returns-in-None
returns-in-None c =
    let t = view c.args.json.now in
    want_rows_misshaped t (is_null_false t (sym c.is_null.ensures ∙ c.if-is_null.false)) (sym c.as_bool.ensures ∙ c.in-None.is)

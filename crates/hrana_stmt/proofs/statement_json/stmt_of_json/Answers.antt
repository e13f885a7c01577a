use Rattle.serde_json.specs.View.{view}
use Rattle.hrana_stmt.proofs.StmtReadings.{stmt_read}
use Rattle.hrana_stmt.proofs.statement_json.stmt_of_json.Goals as goal

pub returns : goal.returns
returns c =
    stmt_read (view c.args.json.now) (view c.member_or_null.result.now) (view c.member_or_null-2.result.now) (view c.member_or_null-3.result.now) c.stmt_of_parts.result c.member_or_null.ensures c.member_or_null-2.ensures c.member_or_null-3.ensures c.stmt_of_parts.ensures

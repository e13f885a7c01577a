use Rattle.std.proofs.Common.{arith}
use Rattle.hrana_stmt.proofs.Depths.{depth-stmt_data}
use Rattle.hrana_stmt.proofs.statement_json.stmt_to_json.Goals as goal

pub json_of-requires : goal.json_of-requires
json_of-requires c = omega (arith, depth-stmt_data c.args.stmt.now)

use Rattle.std.proofs.Common.{arith}
use Rattle.hrana_stmt.proofs.Depths.{depth-error_data}
use Rattle.hrana_stmt.proofs.error_json.error_to_json.Goals as goal

pub json_of-requires : goal.json_of-requires
json_of-requires c = omega (arith, depth-error_data c.args.error.now)

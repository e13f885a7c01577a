use Rattle.std.proofs.Common.{arith}
use Rattle.hrana_stmt.proofs.Depths.{depth-result_data}
use Rattle.hrana_stmt.proofs.result_json.result_to_json.Goals as goal

pub json_of-requires : goal.json_of-requires
json_of-requires c = omega (arith, depth-result_data c.args.given.now)

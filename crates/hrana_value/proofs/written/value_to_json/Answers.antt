use Rattle.std.proofs.Common.{arith}
use Rattle.hrana_value.proofs.Depths.{depth-value_data}
use Rattle.hrana_value.proofs.written.value_to_json.Goals as goal

pub json_of-requires : goal.json_of-requires
json_of-requires c = omega (arith, depth-value_data c.args.value.now)

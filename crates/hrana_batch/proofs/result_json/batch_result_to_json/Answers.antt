use Rattle.std.proofs.Common.{arith}
use Rattle.hrana_batch.proofs.Depths.{depth-batch_result_data}
use Rattle.hrana_batch.proofs.result_json.batch_result_to_json.Goals as goal

pub json_of-requires : goal.json_of-requires
json_of-requires c = omega (arith, depth-batch_result_data c.args.given.now)

use Rattle.std.proofs.Common.{take}
use Rattle.hrana_batch.proofs.WrittenItems.{ItemsWritten}
use Rattle.hrana_batch.specs.Tree.{CondTree}
use Rattle.hrana_batch.specs.Written.{cond_data}
use Rattle.hrana_batch.proofs.condition_json.+writing.Given as goal

abbrev pub invariant-conds_to_json-loop-cond : goal.invariant-conds_to_json-loop-cond
invariant-conds_to_json-loop-cond l = ItemsWritten CondTree cond_data (take l.cond-index l.conds) l.items.items

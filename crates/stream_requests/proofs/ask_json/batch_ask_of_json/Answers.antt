use Rattle.std.proofs.Common.{codes, refl}
use Rattle.serde_json.specs.View.{view}
use Rattle.hrana_value.specs.Members.{part_at}
use Rattle.hrana_batch.specs.Tree.{BatchTree, BatchStands}
use Rattle.stream_requests.specs.declared.asks.Ask.TheVariants.{Batch}
use Rattle.stream_requests.specs.declared.asks.AskKind.TheVariants as kind
use Rattle.stream_requests.specs.Asks.{IsAskOf}
use Rattle.stream_requests.proofs.Readings.{part_made, part_failed}
use Rattle.stream_requests.proofs.ask_json.batch_ask_of_json.Goals as goal

pub returns-in-Ok : goal.returns-in-Ok
returns-in-Ok c =
    let t = view c.args.json.now in
    part_made BatchTree BatchStands (λ a. IsAskOf kind.Batch a t) (view c.member_or_null.result.now) (part_at (codes "batch") t) c.batch_of_json.result c.in-Ok.batch (Batch c.in-Ok.batch) c.member_or_null.ensures c.in-Ok.is c.batch_of_json.ensures.reads (λ h. record { kind = refl; members = h })

pub returns-in-Err : goal.returns-in-Err
returns-in-Err c =
    let t = view c.args.json.now in
    part_failed BatchTree BatchStands (λ a. IsAskOf kind.Batch a t) (view c.member_or_null.result.now) (part_at (codes "batch") t) c.batch_of_json.result c.in-Err.fail c.member_or_null.ensures c.in-Err.is c.batch_of_json.ensures.reads

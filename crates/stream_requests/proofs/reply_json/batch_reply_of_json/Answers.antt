use Rattle.std.proofs.Common.{codes, refl}
use Rattle.serde_json.specs.View.{view}
use Rattle.hrana_value.specs.Members.{part_at}
use Rattle.hrana_batch.specs.Tree.{BatchResultTree, BatchResultStands}
use Rattle.stream_requests.specs.declared.replies.Reply.TheVariants.{Batch}
use Rattle.stream_requests.specs.declared.asks.AskKind.TheVariants as kind
use Rattle.stream_requests.specs.Replies.{IsReplyTo}
use Rattle.stream_requests.proofs.Readings.{part_made}
use Rattle.stream_requests.proofs.reply_json.batch_reply_of_json.Goals as goal

pub returns-in-Ok : goal.returns-in-Ok
returns-in-Ok c =
    let t = view c.args.json.now in
    part_made BatchResultTree BatchResultStands (λ r. IsReplyTo kind.Batch r t) (view c.member_or_null.result.now) (part_at (codes "result") t) c.batch_result_of_json.result c.in-Ok.given (Batch c.in-Ok.given) c.member_or_null.ensures
    c.in-Ok.is c.batch_result_of_json.ensures (λ h. record { answers = refl; members = h })

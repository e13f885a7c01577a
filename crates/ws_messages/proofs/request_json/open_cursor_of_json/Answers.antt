use Rattle.std.proofs.Common.{refl}
use Rattle.std.specs.Prelude.{Ok}
use Rattle.serde_json.specs.View.{view}
use Rattle.hrana_value.specs.Declines.{Reads}
use Rattle.hrana_value.proofs.DeclineLemmas.{Reads-both-ok, Reads-both-failed}
use Rattle.hrana_batch.specs.Tree.{BatchTree, BatchStands}
use Rattle.stream_requests.proofs.Readings.{at_part}
use Rattle.ws_messages.specs.declared.kinds.Kind.TheVariants as kind
use Rattle.ws_messages.specs.declared.messages.WsRequest.TheVariants.{OpenCursor}
use Rattle.ws_messages.specs.Requests.{IsRequestOf, RequestMembersStand}
use Rattle.ws_messages.proofs.RequestLemmas.{two_ids}
use Rattle.ws_messages.proofs.request_json.open_cursor_of_json.Goals as goal

pub returns-in-Ok : goal.returns-in-Ok
returns-in-Ok c =
    let t = view c.args.json.now in let ids = c.in-Ok.ids in
    let read : Reads (λ r. IsRequestOf kind.OpenCursor r t) (RequestMembersStand kind.OpenCursor t) (Ok (OpenCursor ids.0 ids.1 c.in-Ok.batch)) =
    Reads-both-ok c.both_readings.ensures c.in-Ok.is c.ids_of_json.ensures (at_part BatchTree BatchStands _ _ _ c.member_or_null.ensures c.batch_of_json-batch.ensures.reads) (λ h. record { formed = tt; kind = refl; members = h }) in
    two_ids (λ y z. Reads (λ r. IsRequestOf kind.OpenCursor r t) (RequestMembersStand kind.OpenCursor t) (Ok (OpenCursor y z c.in-Ok.batch))) ids.0 ids.1 read.ok.members.0.0.fits read.ok.members.0.1.fits read

pub returns-in-Err : goal.returns-in-Err
returns-in-Err c = Reads-both-failed c.both_readings.ensures c.in-Err.is c.ids_of_json.ensures (at_part BatchTree BatchStands _ _ _ c.member_or_null.ensures c.batch_of_json-batch.ensures.reads)

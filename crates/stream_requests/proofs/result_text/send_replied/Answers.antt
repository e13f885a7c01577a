use Rattle.std.proofs.Common.{codes, refl}
use Rattle.std.proofs.lemmas.Result.{on_ok_weaker}
use Rattle.serde_json.specs.Data.{member}
use Rattle.hrana_value.proofs.SendingLemmas.{whole_object, whole_text}
use Rattle.hrana_batch.specs.Written.{type_member}
use Rattle.stream_requests.specs.WrittenResults.{response_data}
use Rattle.stream_requests.proofs.result_text.send_replied.Goals as goal

pub returns-clause-whole : goal.returns-clause-whole
returns-clause-whole g c =
    let members = member (codes "response") (response_data c.args.reply.now) (type_member (codes "ok")) in
    on_ok_weaker c.end_with_text.result (λ e. whole_object members refl (c.in_ok-send_answered.ensures.whole, (whole_text (codes "ok"), tt))) c.end_with_text.ensures

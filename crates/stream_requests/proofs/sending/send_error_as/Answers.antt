use Rattle.std.proofs.Common.{codes, refl}
use Rattle.std.proofs.lemmas.Result.{on_ok_weaker}
use Rattle.serde_json.specs.Data.{member}
use Rattle.hrana_value.proofs.SendingLemmas.{whole_object, whole_text}
use Rattle.hrana_stmt.specs.Written.{error_data}
use Rattle.hrana_batch.specs.Written.{type_member}
use Rattle.stream_requests.proofs.sending.send_error_as.Goals as goal

pub returns-clause-whole : goal.returns-clause-whole
returns-clause-whole g c =
    let kind = c.args.kind.now in
    on_ok_weaker c.end_with_text.result (λ e. whole_object (member (codes "error") (error_data c.args.error.now) (type_member kind)) refl (c.in_ok-send.ensures.whole, (whole_text kind, tt))) c.end_with_text.ensures

use Rattle.std.proofs.Common.{◌<◌, ◌^◌, codes, refl, arith}
use Rattle.std.proofs.lemmas.Result.{on_ok_weaker}
use Rattle.serde_json.specs.Data.{number, unsigned, member}
use Rattle.hrana_value.proofs.SendingLemmas.{whole_object, whole_text, whole_unsigned}
use Rattle.hrana_stmt.specs.Written.{error_data}
use Rattle.hrana_batch.specs.Written.{type_member}
use Rattle.stream_requests.proofs.sending.send_step_error.Goals as goal

pub returns-clause-whole : goal.returns-clause-whole
returns-clause-whole g c =
    let n = c.args.step in let members = member (codes "error") (error_data c.args.error.now) (member (codes "step") (number (unsigned n)) (type_member (codes "step_error"))) in
    let small : n < 2 ^ 32 = c.ranges.step.fits in
    on_ok_weaker c.end_with_text.result (λ e. whole_object members refl (c.in_ok-send.ensures.whole, (whole_unsigned n (omega arith), (whole_text (codes "step_error"), tt)))) c.end_with_text.ensures

use Rattle.std.proofs.Common.{◌<◌, ◌^◌, codes, refl, arith}
use Rattle.std.proofs.lemmas.Result.{on_ok_weaker}
use Rattle.serde_json.specs.Data.{number, unsigned, member}
use Rattle.hrana_value.proofs.SendingLemmas.{whole_object, whole_text, whole_unsigned}
use Rattle.hrana_stmt.specs.Written.{cols_data}
use Rattle.hrana_batch.specs.Written.{type_member}
use Rattle.stream_requests.proofs.sending.send_begin.Goals as goal

pub returns-clause-whole : goal.returns-clause-whole
returns-clause-whole g c =
    let n = c.args.step in let members = member (codes "cols") (cols_data c.args.cols.now) (member (codes "step") (number (unsigned n)) (type_member (codes "step_begin"))) in
    let small : n < 2 ^ 32 = c.ranges.step.fits in
    on_ok_weaker c.end_with_text.result (λ e. whole_object members refl (c.in_ok-send.ensures.whole, (whole_unsigned n (omega arith), (whole_text (codes "step_begin"), tt)))) c.end_with_text.ensures

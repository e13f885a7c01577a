use Rattle.std.proofs.Common.{codes, ◌<◌, ◌^◌, refl, subst, arith}
use Rattle.std.proofs.lemmas.Result.{on_ok_weaker}
use Rattle.serde_json.specs.Data.{number, unsigned, member}
use Rattle.serde_json.specs.Events.{SendsValue}
use Rattle.hrana_value.proofs.SendingLemmas.{whole_object, whole_text, whole_unsigned}
use Rattle.hrana_batch.specs.Written.{type_member}
use Rattle.hrana_batch.proofs.sending.send_step.Goals as goal

pub returns-clause-sends : goal.returns-clause-sends
returns-clause-sends g c =
    let w = g.S.Serializer.written in let begun = c.in_ok-begin_with.ensures in
    let sent = subst (λ n. SendsValue (number (unsigned n)) (w c.begin_with.new.out) (w c.send_uint64.new.out)) c.from.ensures c.in_ok-send_uint64.ensures.sends in
    on_ok_weaker c.end_with_text.result (λ e. (begun.0, begun.1, (w c.begin_with.new.out, w c.send_uint64.new.out, begun.2, sent, e))) c.end_with_text.ensures

pub returns-clause-whole : goal.returns-clause-whole
returns-clause-whole g c =
    let n = c.args.step in let kind = c.args.kind.now in let small : n < 2 ^ 32 = c.ranges.step.fits in
    on_ok_weaker c.end_with_text.result (λ e. whole_object (member (codes "step") (number (unsigned n)) (type_member kind)) refl (whole_unsigned n (omega arith), (whole_text kind, tt))) c.end_with_text.ensures

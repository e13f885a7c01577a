use Rattle.std.proofs.Common.{ℤ, Option, None, Some, codes, refl}
use Rattle.std.proofs.lemmas.Result.{on_ok_weaker}
use Rattle.serde_json.specs.Data.{number, unsigned, member}
use Rattle.hrana_value.proofs.SendingLemmas.{whole_object, whole_text, whole_null, whole_unsigned}
use Rattle.hrana_value.specs.Whole.{IsWhole}
use Rattle.hrana_stmt.specs.Written.{rowid_data}
use Rattle.hrana_batch.specs.Written.{type_member}
use Rattle.stream_requests.proofs.sending.send_end.Goals as goal

rowid_whole : (o : Option ℤ) → IsWhole (rowid_data o)
rowid_whole None = whole_null
rowid_whole (Some z) = whole_text _

pub returns-clause-sends : goal.returns-clause-sends
returns-clause-sends g c =
    let w = g.S.Serializer.written in let begun = c.in_ok-begin_with.ensures in
    on_ok_weaker c.end_with_text.result (λ e. (begun.0, begun.1, (w c.begin_with.new.out, w c.send_uint64.new.out, begun.2, c.in_ok-send_uint64.ensures.sends, (w c.key.new.self, w c.send_optional_int64.new.out, c.in_ok-key.ensures, c.in_ok-send_optional_int64.ensures.sends, e)))) c.end_with_text.ensures

pub returns-clause-whole : goal.returns-clause-whole
returns-clause-whole g c =
    let n = c.args.affected in let members = member (codes "affected_row_count") (number (unsigned n)) (member (codes "last_insert_rowid") (rowid_data c.args.last_rowid) (type_member (codes "step_end"))) in
    on_ok_weaker c.end_with_text.result (λ e. whole_object members refl (whole_unsigned n c.ranges.affected.fits, (rowid_whole c.args.last_rowid, (whole_text (codes "step_end"), tt)))) c.end_with_text.ensures

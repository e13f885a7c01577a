use Rattle.std.proofs.Common.{length, map, codes, refl, subst}
use Rattle.std.specs.Prelude.{OnOk}
use Rattle.std.proofs.lemmas.Result.{on_ok_weaker}
use Rattle.serde_json.specs.Data.{array, member}
use Rattle.serde_json.specs.Events.{SendsValue}
use Rattle.serde_json.specs.View.{items_of}
use Rattle.hrana_value.specs.Whole.{IsWhole}
use Rattle.hrana_batch.specs.Tree.{CondTree}
use Rattle.hrana_batch.specs.Written.{cond_data, type_member}
use Rattle.hrana_value.proofs.SendingLemmas.{list_sent, whole_object, whole_text}
use Rattle.hrana_batch.proofs.CondWritten.{ok_written, error_written, not_written, all_written, any_written, autocommit_written, ok_sent, error_sent, not_sent, all_sent, any_sent, autocommit_sent}
use Rattle.hrana_batch.proofs.SentItems.{items_more, whole_more, tree_more, whole_end, tree_end}
use Rattle.hrana_batch.proofs.sending.+sending.Goals as goal

pub send_conds-loop-cond-preserved : goal.send_conds-loop-cond-preserved
send_conds-loop-cond-preserved g t c =
    let w = g.S.Serializer.written in let xs = c.args.conds.now in let i = c.loop-cond.cond-index in
    let x = c.cond-item.result in let below = c.loop-cond-test.true in let is = c.cond-item.is in let inv = c.loop-cond.invariant in let sent = c.in_ok-send_cond.ensures in
    (items_more cond_data xs i x (w c.begin_seq.new.self) (w c.loop-cond.out) (w c.send_cond.new.out) below is inv.0 sent.sends, whole_more cond_data xs i x below is inv.1 sent.whole, tree_more CondTree cond_data xs i x below is inv.2 sent.back)

pub send_conds-returns : goal.send_conds-returns
send_conds-returns g t c =
    let w = g.S.Serializer.written in let xs = c.args.conds.now in let i = c.loop-cond.cond-index in let over = c.loop-cond-test.false in let inv = c.loop-cond.invariant in
    record {
      sends = on_ok_weaker c.end_seq.result (λ e. list_sent cond_data xs i (length xs) (w c.args.out.now) (w c.begin_seq.new.self) (w c.loop-cond.out) (w c.end_seq.new.self) refl over c.in_ok-begin_seq.ensures inv.0 e) c.end_seq.ensures;
      whole = on_ok_weaker c.end_seq.result (λ e. whole_end cond_data xs i over inv.1) c.end_seq.ensures;
      back = on_ok_weaker c.end_seq.result (λ e. tree_end CondTree cond_data xs i over inv.2) c.end_seq.ensures;
    }

pub send_cond-returns-in-StepOk : goal.send_cond-returns-in-StepOk
send_cond-returns-in-StepOk g t c =
    let w = g.S.Serializer.written in let same = ok_written c.args.cond.now c.in-StepOk.step c.in-StepOk.is in let sent = c.send_step.ensures in
    record {
      sends = subst (λ d. OnOk c.send_step.result (SendsValue d (w c.args.out.now) (w c.send_step.new.out))) same sent.sends;
      whole = subst (λ d. OnOk c.send_step.result (IsWhole d)) same sent.whole;
      back = on_ok_weaker c.send_step.result (λ e. ok_sent c.args.cond.now c.in-StepOk.step c.in-StepOk.is sent.fits) sent.sends;
    }

pub send_cond-returns-in-StepError : goal.send_cond-returns-in-StepError
send_cond-returns-in-StepError g t c =
    let w = g.S.Serializer.written in let same = error_written c.args.cond.now c.in-StepError.step c.in-StepError.is in let sent = c.send_step-in-StepError.ensures in
    record {
      sends = subst (λ d. OnOk c.send_step-in-StepError.result (SendsValue d (w c.args.out.now) (w c.send_step-in-StepError.new.out))) same sent.sends;
      whole = subst (λ d. OnOk c.send_step-in-StepError.result (IsWhole d)) same sent.whole;
      back = on_ok_weaker c.send_step-in-StepError.result (λ e. error_sent c.args.cond.now c.in-StepError.step c.in-StepError.is sent.fits) sent.sends;
    }

pub send_cond-returns-in-Not : goal.send_cond-returns-in-Not
send_cond-returns-in-Not g t c =
    let w = g.S.Serializer.written in let part = c.get.result.now in let same = not_written c.args.cond.now c.in-Not.part part c.in-Not.is c.get.ensures in let sent = c.send_not.ensures in
    record {
      sends = subst (λ d. OnOk c.send_not.result (SendsValue d (w c.args.out.now) (w c.send_not.new.out))) same sent.sends;
      whole = subst (λ d. OnOk c.send_not.result (IsWhole d)) same sent.whole;
      back = on_ok_weaker c.send_not.result (λ tree. not_sent c.args.cond.now c.in-Not.part part c.in-Not.is c.get.ensures tree) sent.back;
    }

pub send_cond-returns-in-All : goal.send_cond-returns-in-All
send_cond-returns-in-All g t c =
    let w = g.S.Serializer.written in let parts = c.as_slice.result.now in let same = all_written c.args.cond.now c.in-All.parts parts c.in-All.is c.as_slice.ensures in let sent = c.send_joined.ensures in
    record {
      sends = subst (λ d. OnOk c.send_joined.result (SendsValue d (w c.args.out.now) (w c.send_joined.new.out))) same sent.sends;
      whole = subst (λ d. OnOk c.send_joined.result (IsWhole d)) same sent.whole;
      back = on_ok_weaker c.send_joined.result (λ tree. all_sent c.args.cond.now c.in-All.parts parts c.in-All.is c.as_slice.ensures tree) sent.back;
    }

pub send_cond-returns-in-Any : goal.send_cond-returns-in-Any
send_cond-returns-in-Any g t c =
    let w = g.S.Serializer.written in let parts = c.as_slice-in-Any.result.now in let same = any_written c.args.cond.now c.in-Any.parts parts c.in-Any.is c.as_slice-in-Any.ensures in let sent = c.send_joined-in-Any.ensures in
    record {
      sends = subst (λ d. OnOk c.send_joined-in-Any.result (SendsValue d (w c.args.out.now) (w c.send_joined-in-Any.new.out))) same sent.sends;
      whole = subst (λ d. OnOk c.send_joined-in-Any.result (IsWhole d)) same sent.whole;
      back = on_ok_weaker c.send_joined-in-Any.result (λ tree. any_sent c.args.cond.now c.in-Any.parts parts c.in-Any.is c.as_slice-in-Any.ensures tree) sent.back;
    }

pub send_cond-returns-in-Autocommit : goal.send_cond-returns-in-Autocommit
send_cond-returns-in-Autocommit g t c =
    let w = g.S.Serializer.written in let same = autocommit_written c.args.cond.now c.in-Autocommit.is in let sent = c.send_text_member in
    record {
      sends = subst (λ d. OnOk sent.result (SendsValue d (w c.args.out.now) (w sent.new.out))) same sent.ensures;
      whole = on_ok_weaker sent.result (λ e. subst IsWhole same (whole_object (type_member (codes "is_autocommit")) refl (whole_text (codes "is_autocommit"), tt))) sent.ensures;
      back = on_ok_weaker sent.result (λ e. autocommit_sent c.args.cond.now c.in-Autocommit.is) sent.ensures;
    }

pub send_not-returns : goal.send_not-returns
send_not-returns g t c =
    let w = g.S.Serializer.written in let begun = c.in_ok-begin_with.ensures in let part = cond_data c.args.part.now in let sent = c.in_ok-send_cond.ensures in let ended = c.end_with_text in
    record {
      sends = on_ok_weaker ended.result (λ e. (begun.0, begun.1, (w c.begin_with.new.out, w c.send_cond.new.out, begun.2, sent.sends, e))) ended.ensures;
      whole = on_ok_weaker ended.result (λ e. whole_object (member (codes "cond") part (type_member (codes "not"))) refl (sent.whole, (whole_text (codes "not"), tt))) ended.ensures;
      back = on_ok_weaker ended.result (λ e. sent.back) ended.ensures;
    }

pub send_joined-returns : goal.send_joined-returns
send_joined-returns g t c =
    let w = g.S.Serializer.written in let begun = c.in_ok-begin_with.ensures in let kind = c.args.kind.now in let parts = map cond_data c.args.parts.now in let sent = c.in_ok-send_conds.ensures in let ended = c.end_with_text in
    record {
      sends = on_ok_weaker ended.result (λ e. (begun.0, begun.1, (w c.begin_with.new.out, w c.send_conds.new.out, begun.2, sent.sends, e))) ended.ensures;
      whole = on_ok_weaker ended.result (λ e. whole_object (member (codes "conds") (array (items_of parts)) (type_member kind)) refl (sent.whole, (whole_text kind, tt))) ended.ensures;
      back = on_ok_weaker ended.result (λ e. sent.back) ended.ensures;
    }

use Rattle.std.proofs.Common.{◌&&◌, ◌∙◌, true, nat_le, sym, ap}
use Rattle.std.specs.Ordering.{nat_cmp, is_le}
use Rattle.hrana_hub.specs.Moments.{is_due, first_due}
use Rattle.hrana_hub.proofs.CallLemmas.{first_in, first_inside, first_here, first_later, first_none, is_from}
use Rattle.hrana_hub.proofs.streams.Streams.find_due.Goals as goal

pub loop-number-init : goal.loop-number-init
loop-number-init c =
    let from = c.args.from in
    let due = is_due c.args.moment in
    let between = c.into_iter-number-iterator.ensures.into_iter_gives ∙ c.range-number-items.ensures.between tt in
    ap (first_in due) between ∙ (first_inside due (λ n. is_le (nat_cmp from n) && true) (λ n. nat_le from n) (is_from from) c.self.inside.slots.entries ∙ ap (first_due c.args.moment from) c.self.view_is)

pub returns-then-is_due : goal.returns-then-is_due
returns-then-is_due c = sym (sym c.loop-number.invariant ∙ first_here (is_due c.args.moment) (c.in-Some.number.now, c.in-Some.slot.now) c.loop-number.number-iterator c.next.new.self c.in-Some.ensures.steps (sym c.if-is_due.ensures))

pub loop-number-preserved : goal.loop-number-preserved
loop-number-preserved c = first_later (is_due c.args.moment) (c.in-Some.number.now, c.in-Some.slot.now) c.loop-number.number-iterator c.next.new.self c.in-Some.ensures.steps (sym c.if-is_due.ensures) ∙ c.loop-number.invariant

pub returns : goal.returns
returns c = sym (sym c.loop-number.invariant ∙ first_none (is_due c.args.moment) c.loop-number.number-iterator c.in-None.ensures.steps.0)

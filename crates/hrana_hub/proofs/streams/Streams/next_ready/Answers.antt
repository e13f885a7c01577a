use Rattle.std.proofs.Common.{◌&&◌, ◌∙◌, true, nat_lt, sym, ap}
use Rattle.std.specs.Ordering.{nat_cmp, is_lt}
use Rattle.hrana_hub.specs.Calls.{is_ready, first_ready}
use Rattle.hrana_hub.proofs.CallLemmas.{first_in, first_inside, first_here, first_later, first_none, is_above}
use Rattle.hrana_hub.proofs.streams.Streams.next_ready.Goals as goal

pub loop-number-init : goal.loop-number-init
loop-number-init c =
    let conns = c.args.conns.now in
    let after = c.args.after in
    let between = c.into_iter-number-iterator.ensures.into_iter_gives ∙ c.range-number-items.ensures.between tt in
    ap (first_in (is_ready conns)) between ∙ (first_inside (is_ready conns) (λ n. is_lt (nat_cmp after n) && true) (λ n. nat_lt after n) (is_above after) c.self.inside.slots.entries ∙ ap (first_ready after conns) c.self.view_is)

pub returns-then-is_ready : goal.returns-then-is_ready
returns-then-is_ready c =
    sym (sym c.loop-number.invariant
    ∙ first_here (is_ready c.args.conns.now) (c.in-Some.number.now, c.in-Some.slot.now) c.loop-number.number-iterator c.next.new.self c.in-Some.ensures.steps (sym c.if-is_ready.ensures))

pub loop-number-preserved : goal.loop-number-preserved
loop-number-preserved c =
    first_later (is_ready c.args.conns.now) (c.in-Some.number.now, c.in-Some.slot.now) c.loop-number.number-iterator c.next.new.self c.in-Some.ensures.steps (sym c.if-is_ready.ensures) ∙ c.loop-number.invariant

pub returns : goal.returns
returns c = sym (sym c.loop-number.invariant ∙ first_none (is_ready c.args.conns.now) c.loop-number.number-iterator c.in-None.ensures.steps.0)

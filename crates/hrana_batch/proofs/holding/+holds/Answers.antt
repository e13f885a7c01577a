use Rattle.std.proofs.Common.{◌≤◌, ◌∙◌, ap, length, sym, arith}
use Rattle.std.specs.Prelude.{not}
use Rattle.hrana_batch.proofs.SizeLemmas.{size_of, largest, size-item}
use Rattle.hrana_batch.specs.Conditions.{holds_on, names_below}
use Rattle.hrana_batch.proofs.CondLemmas.{each_true, all_false, any_true, all_more, ok_below, error_below, ok_holds, error_holds, not_holds, all_holds, any_holds, autocommit_holds}
use Rattle.hrana_batch.proofs.holding.+holds.Goals as goal

pub all_hold-holds-requires : goal.all_hold-holds-requires
all_hold-holds-requires t c =
    (let less : size_of c.part-item.result ≤ largest c.args.parts.now = size-item c.args.parts.now c.loop-part.part-index c.part-item.result c.loop-part-test.true c.part-item.is in omega arith, each_true (names_below (length c.args.outcomes.now)) c.args.parts.now c.loop-part.part-index c.part-item.result c.loop-part-test.true c.part-item.is c.requires)

pub all_hold-returns-then-not-holds : goal.all_hold-returns-then-not-holds
all_hold-returns-then-not-holds t c =
    sym (all_false (holds_on c.args.outcomes.now c.args.auto) c.args.parts.now c.loop-part.part-index c.part-item.result c.loop-part-test.true c.part-item.is (sym c.if-not-holds.ensures))

pub all_hold-loop-part-preserved : goal.all_hold-loop-part-preserved
all_hold-loop-part-preserved t c =
    all_more (holds_on c.args.outcomes.now c.args.auto) c.args.parts.now c.loop-part.part-index c.part-item.result c.loop-part-test.true c.part-item.is c.loop-part.invariant (sym c.if-not-holds.ensures)

pub any_holds-holds-requires : goal.any_holds-holds-requires
any_holds-holds-requires t c =
    (let less : size_of c.part-item.result ≤ largest c.args.parts.now = size-item c.args.parts.now c.loop-part.part-index c.part-item.result c.loop-part-test.true c.part-item.is in omega arith, each_true (names_below (length c.args.outcomes.now)) c.args.parts.now c.loop-part.part-index c.part-item.result c.loop-part-test.true c.part-item.is c.requires)

pub any_holds-returns-then-holds : goal.any_holds-returns-then-holds
any_holds-returns-then-holds t c =
    sym (any_true (holds_on c.args.outcomes.now c.args.auto) c.args.parts.now c.loop-part.part-index c.part-item.result c.loop-part-test.true c.part-item.is (sym c.if-holds.ensures))

pub holds-is_done_at-requires : goal.holds-is_done_at-requires
holds-is_done_at-requires t c = ok_below (length c.args.outcomes.now) c.args.cond.now c.in-StepOk.step c.in-StepOk.is c.requires

pub holds-is_failed_at-requires : goal.holds-is_failed_at-requires
holds-is_failed_at-requires t c = error_below (length c.args.outcomes.now) c.args.cond.now c.in-StepError.step c.in-StepError.is c.requires

pub holds-returns-in-StepOk : goal.holds-returns-in-StepOk
holds-returns-in-StepOk t c = c.is_done_at.ensures ∙ ok_holds c.args.outcomes.now c.args.auto c.args.cond.now c.in-StepOk.step c.in-StepOk.is

pub holds-returns-in-StepError : goal.holds-returns-in-StepError
holds-returns-in-StepError t c = c.is_failed_at.ensures ∙ error_holds c.args.outcomes.now c.args.auto c.args.cond.now c.in-StepError.step c.in-StepError.is

pub holds-returns-in-Not : goal.holds-returns-in-Not
holds-returns-in-Not t c = ap not c.holds.ensures ∙ not_holds c.args.outcomes.now c.args.auto c.args.cond.now c.in-Not.part c.get.result.now c.in-Not.is c.get.ensures

pub holds-returns-in-All : goal.holds-returns-in-All
holds-returns-in-All t c = c.all_hold.ensures ∙ all_holds c.args.outcomes.now c.args.auto c.args.cond.now c.in-All.parts c.as_slice.result.now c.in-All.is c.as_slice.ensures

pub holds-returns-in-Any : goal.holds-returns-in-Any
holds-returns-in-Any t c = c.any_holds.ensures ∙ any_holds c.args.outcomes.now c.args.auto c.args.cond.now c.in-Any.parts c.as_slice-in-Any.result.now c.in-Any.is c.as_slice-in-Any.ensures

pub holds-returns-in-Autocommit : goal.holds-returns-in-Autocommit
holds-returns-in-Autocommit t c = autocommit_holds c.args.outcomes.now c.args.auto c.args.cond.now c.in-Autocommit.is

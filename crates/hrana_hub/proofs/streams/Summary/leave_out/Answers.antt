use Rattle.std.proofs.Common.{ℕ, cond, sym, ap, arith}
use Rattle.hrana_hub.specs.Summaries.{session_of}
use Rattle.hrana_hub.proofs.Summing.{left_out_now, at_least}
use Rattle.hrana_hub.proofs.streams.Summary.leave_out.Goals as goal

pub returns-then-of_exchanges-clause-sums : goal.returns-then-of_exchanges-clause-sums
returns-then-of_exchanges-clause-sums c =
    let settled = c.settle.new.self in
    let es = c.args.slots.now.entries in
    let there = ap session_of (sym c.in-Some.ensures.value) in
    let one = ap {B = ℕ} (λ b. cond b 1 0) (c.if-of_exchanges.ensures) in
    left_out_now settled c.args.number es c.settle.ensures.all c.settle.ensures.sums c.saturating_sub-self.result
    (let least = at_least settled c.args.number es c.settle.ensures.all c.settle.ensures.sums in let less = c.saturating_sub-self.ensures in omega (arith, there, one, least, less))

use Rattle.std.proofs.Common.{sym}
use Rattle.hrana_hub.proofs.EntryLemmas.{is_apart}
use Rattle.hrana_hub.proofs.Summing.{sums_without}
use Rattle.hrana_hub.proofs.streams.Streams.remove.Goals as goal

pub invariant_of-self : goal.invariant_of-self
invariant_of-self c = record {
  rising = c.remove.ensures.ordered;
  sums = sums_without c.leave_out.new.self c.args.number c.self.inside.slots.entries c.leave_out.ensures.but c.leave_out.ensures.sums c.remove.new.self.entries c.remove.ensures.entries c.remove.ensures.updates.1
      (λ m other. c.remove.ensures.updates.2 m (is_apart c.args.number m (λ own. other (sym own))));
}

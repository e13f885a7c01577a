use Rattle.std.proofs.Common.{ℕ, sym, subst}
use Rattle.std.specs.BTreeMap.{BTreeMap}
use Rattle.hrana_hub.specs.State.{Stream}
use Rattle.hrana_hub.specs.Summaries.{Sums}
use Rattle.hrana_hub.proofs.MapLemmas.{Rises}
use Rattle.hrana_hub.proofs.Summing.{sums_put}
use Rattle.hrana_hub.proofs.streams.Streams.get_mut.Goals as goal

pub invariant_of-self-lent : goal.invariant_of-self-lent
invariant_of-self-lent c = λ lent. (
  (λ w. record {
    rising = (c.get_mut.follows.holds w).4;
    sums = subst (Sums c.leave_out.new.self) (sym (c.get_mut.follows.holds w).0) (sums_put c.leave_out.new.self c.args.number c.self.inside.slots.entries c.leave_out.ensures.but c.leave_out.ensures.sums w);
  }),
  record {
    rising = subst (λ (m : BTreeMap ℕ Stream). Rises m.entries) (sym c.get_mut.follows.holds-at-none) c.self.invariant.rising;
    sums = subst (λ (m : BTreeMap ℕ Stream). Sums c.leave_out.new.self m.entries) (sym c.get_mut.follows.holds-at-none) c.leave_out.ensures.sums;
  },
)

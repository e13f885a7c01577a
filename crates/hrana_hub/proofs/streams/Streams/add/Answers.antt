use Rattle.std.proofs.Common.{◌≡◌, ◌∙◌, None, sym, ap, subst}
use Rattle.hrana_hub.specs.Maps.{at}
use Rattle.hrana_hub.specs.Summaries.{Sums}
use Rattle.hrana_hub.proofs.MapLemmas.{Rises, rises_placed}
use Rattle.hrana_hub.proofs.Summing.{sums_placed}
use Rattle.hrana_hub.proofs.streams.Streams.add.Goals as goal

pub invariant_of-self-2 : goal.invariant_of-self-2
invariant_of-self-2 c =
    let es = c.self.inside.slots.entries in
    let free : at c.args.number es ≡ None = ap (at c.args.number) c.self.view_is ∙ c.requires.fresh in
    let now = sym c.in_ok-insert.ensures.ok in
    record {
      rising = subst Rises now (rises_placed c.args.number c.args.slot es c.self.invariant.rising);
      sums = subst (Sums c.leave_out.new.self) now (sums_placed c.leave_out.new.self c.args.number es c.leave_out.ensures.but c.leave_out.ensures.sums c.args.slot free);
    }

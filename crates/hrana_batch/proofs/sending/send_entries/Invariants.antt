use Rattle.hrana_value.proofs.SendingLemmas.{EndsItems, EndsWhole, EndsTree}
use Rattle.hrana_batch.specs.Sent.{entry_of, EntryTree}
use Rattle.hrana_batch.proofs.sending.send_entries.Given as goal

abbrev pub invariant-loop-outcome : goal.invariant-loop-outcome
invariant-loop-outcome g l =
    EndsItems (entry_of l.side) l.outcomes l.outcome-index (g.S.Serializer.written l.initial.out) (g.S.Serializer.written l.out) × EndsWhole (entry_of l.side) l.outcomes l.outcome-index
    × EndsTree (EntryTree l.side) (entry_of l.side) l.outcomes l.outcome-index

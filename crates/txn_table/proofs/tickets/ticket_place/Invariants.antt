use Rattle.std.proofs.Common.{length, get_or, ◌-◌, ◌≢◌, ◌<◌, ◌≤◌, ℕ}
use Rattle.txn_table.specs.declared.tickets.Ticket.{Ticket}
use Rattle.txn_table.proofs.tickets.ticket_place.Given as goal

abbrev pub invariant-loop-place : goal.invariant-loop-place
invariant-loop-place l = record {
  bound : l.place ≤ length l.waiters;
  none : (k : ℕ) (d : Ticket) → k < l.place → get_or l.waiters k d ≢ l.ticket;
  up : (k : ℕ) (d : Ticket) → l.place ≤ k → k < length l.waiters → l.ticket.number ≤ (get_or l.waiters k d).number;
}

abbrev pub decreases-loop-place : goal.decreases-loop-place
decreases-loop-place l = length l.waiters - l.place

use Rattle.std.proofs.Common.{◌≡◌, true, subst, slice_get, Option, Some}
use Rattle.txn_table.specs.declared.tickets.Ticket.{Ticket}
use Rattle.txn_table.specs.Turns.{Turns, has}
use Rattle.txn_table.proofs.TicketLemmas.{has_first}
use Rattle.txn_table.proofs.table.TxnTable.next_waiter.Goals as goal

pub returns-in-Some-clause-place : goal.returns-in-Some-clause-place
returns-in-Some-clause-place c =
    let first : ◌≡◌ {A = Option Ticket} (Some c.in-Some.waiter.now) (slice_get c.self.inside.waiters.items 0) = rw c.deref.ensures.value at c.in-Some.ensures.value in
    subst (λ (x : Turns). has c.in-Some.waiter.now.stream x.reserved ≡ true) c.self.view_is (has_first c.self.inside.places.items c.self.inside.waiters.items c.in-Some.waiter.now c.self.invariant.sound.held first)

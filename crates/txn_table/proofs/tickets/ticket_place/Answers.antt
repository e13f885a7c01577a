use Rattle.std.proofs.Common.{rules, nat_lt, arith, ap}
use Rattle.std.proofs.lemmas.Bool.{ltb-true, ltb-false}
use Rattle.std.proofs.lemmas.List.Sorted.{IsPartitionPoint-from_clause}
use Rattle.txn_table.specs.declared.tickets.Ticket.{Ticket}
use Rattle.txn_table.proofs.TicketLemmas.{numbers_partitioned, ticket_at, past_numbers}
use Rattle.txn_table.proofs.tickets.ticket_place.Goals as goal

pub loop-place-init : goal.loop-place-init
loop-place-init c =
    let point = IsPartitionPoint-from_clause (λ (w : Ticket). nat_lt w.number c.args.ticket.number) c.args.waiters.now c.partition_point-place.result c.partition_point-place.ensures.partitioned
    (numbers_partitioned c.args.waiters.now c.args.ticket.number c.requires) (λ a r f called. search rules) in
    record {
      bound = c.partition_point-place.ensures.bound;
      none = λ k d lt e. omega (arith, ltb-true _ _ (point.0 k d (omega (arith, c.partition_point-place.ensures.bound)) lt), ap (λ (t : Ticket). t.number) e);
      up = λ k d le lt. ltb-false _ _ (point.1 k d le lt);
    }

pub returns-then-waiters-place-2 : goal.returns-then-waiters-place-2
returns-then-waiters-place-2 c = ticket_at c.args.waiters.now c.loop-place.place _ c.args.ticket c.loop-place-test.true c.if-waiters-place.true c.if-waiters-place-2.true

pub returns-else-waiters-place : goal.returns-else-waiters-place
returns-else-waiters-place c = past_numbers c.args.waiters.now c.loop-place.place _ c.args.ticket c.requires c.loop-place-test.true c.loop-place.invariant.none c.loop-place.invariant.up c.if-waiters-place.false

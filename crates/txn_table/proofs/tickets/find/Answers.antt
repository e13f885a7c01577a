use Rattle.std.proofs.Common.{rules, nat_lt, arith, ap, ◌∙◌}
use Rattle.std.proofs.lemmas.List.{get_or_default}
use Rattle.std.proofs.lemmas.List.Sorted.{IsPartitionPoint-from_clause}
use Rattle.txn_table.specs.declared.tickets.Ticket.{Ticket}
use Rattle.txn_table.proofs.TicketLemmas.{partitioned, between}
use Rattle.txn_table.proofs.tickets.find.Goals as goal
use Rattle.txn_table.proofs.tickets.find.Goals.{else-place-places-via-then-place-places+else-places-place, else-place-places-via-else-place-places}

pub returns-else-place-places : goal.returns-else-place-places
returns-else-place-places c =
    let point = IsPartitionPoint-from_clause (λ (p : Ticket). nat_lt p.stream.0 c.args.stream.0) c.args.places.now c.partition_point-place.result c.partition_point-place.ensures.partitioned
    (partitioned c.args.places.now c.args.stream.0 c.requires) (λ a r f called. search rules) in
    between c.args.places.now c.args.stream c.partition_point-place.result c.requires c.partition_point-place.ensures.bound point (elim c.else-place-places.branch [
      | else-place-places-via-then-place-places+else-places-place w ↦ λ d inside same. w.if-places-place.false (ap (λ (p : Ticket). p.stream.0) (get_or_default _ _ _ d inside) ∙ same)
      | else-place-places-via-else-place-places w ↦ λ d inside same. absurd (omega (arith, w.if-place-places.false))
    ])

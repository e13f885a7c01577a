use Rattle.txn_table.proofs.TicketLemmas.{waiter_among, none_held, none_between}
use Rattle.txn_table.proofs.tickets.waiter_place.Goals as goal

pub returns-in-Ok : goal.returns-in-Ok
returns-in-Ok c = waiter_among c.args.places.now c.args.waiters.now c.args.stream c.in-Ok.place _ c.ticket_place.result c.requires.rising c.requires.held c.in-Ok.ensures c.ticket_place.ensures

pub returns-in-Err : goal.returns-in-Err
returns-in-Err c = none_held c.args.places.now c.args.waiters.now c.args.stream (none_between c.args.places.now c.args.stream c.in-Err.field-0 c.in-Err.ensures) c.requires.held

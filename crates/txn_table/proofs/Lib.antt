-- Where the clauses are proved that the check doesn't prove by itself:
--   find, ticket_place, waiter_place          tickets/, by TicketLemmas
--   TxnTable: reserve_stream                  table/TxnTable/reserve_stream, by TicketLemmas (sound_place, placed_between)
--   TxnTable: want                            by itself, from queue and leave, in table/TxnTable/, by TicketLemmas (sound_queue, room_for, without_at)
--   TxnTable: lost                            table/TxnTable/lost, from leave and give_back
--   TxnTable: next_waiter, place              table/TxnTable/next_waiter
--   the laws                                  laws/, by LawLemmas and OrderLemmas
pub mod ListLemmas
pub mod StreamLemmas
pub mod TicketLemmas
pub mod LawLemmas
pub mod OrderLemmas

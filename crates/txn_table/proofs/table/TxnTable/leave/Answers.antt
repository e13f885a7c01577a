use Rattle.std.proofs.Common.{◌≡◌, List, arith, ap, sym, subst, ◌∙◌}
use Rattle.hrana_value.specs.declared.StreamNo.{StreamNo}
use Rattle.txn_table.specs.declared.tickets.Ticket.{Ticket}
use Rattle.txn_table.specs.Turns.{Turns, without}
use Rattle.txn_table.specs.Tickets.{streams_of, IsAt, HasNone}
use Rattle.txn_table.proofs.ListLemmas.{within}
use Rattle.txn_table.proofs.TicketLemmas.{sound_leave, without_at, without_none}
use Rattle.txn_table.proofs.table.TxnTable.leave.Goals as goal

pub waiter_place-requires-clause-held : goal.waiter_place-requires-clause-held
waiter_place-requires-clause-held c = rw (c.deref.ensures.value, c.deref-2.ensures.value) c.self.invariant.sound.held

pub remove-ticket-requires : goal.remove-ticket-requires
remove-ticket-requires c =
    let at : IsAt c.self.inside.waiters.items c.args.stream c.in-Some.place = rw c.deref-2.ensures.value at c.in-Some.ensures in
    let h = within (λ (w : Ticket). w.stream ≡ c.args.stream) c.self.inside.waiters.items c.in-Some.place at in
    omega (arith, h, c.self.inside.waiters.ok.0)

pub invariant_of-self : goal.invariant_of-self
invariant_of-self c =
    let at : IsAt c.self.inside.waiters.items c.args.stream c.in-Some.place = rw c.deref-2.ensures.value at c.in-Some.ensures in
    record {
      sound = rw c.remove-ticket.ensures.items (sound_leave c.self.inside.places.items c.self.inside.waiters.items c.self.inside.last_ticket c.in-Some.place c.args.stream c.self.invariant.sound at);
      room = omega (arith, c.self.invariant.room, c.remove-ticket.ensures.capacity);
    }

pub returns-in-Some : goal.returns-in-Some
returns-in-Some c =
    let at : IsAt c.self.inside.waiters.items c.args.stream c.in-Some.place = rw c.deref-2.ensures.value at c.in-Some.ensures in
    let e : streams_of c.remove-ticket.new.self.items ≡ without c.args.stream (streams_of c.self.inside.waiters.items) =
    ap streams_of c.remove-ticket.ensures.items ∙ without_at c.self.inside.waiters.items c.args.stream c.in-Some.place c.self.invariant.sound.apart at in
    let v : Turns = record { turn = c.self.inside.turn; version = c.self.inside.version; waiters = streams_of c.self.inside.waiters.items; reserved = streams_of c.self.inside.places.items } in
    let after : Turns = record v { waiters = streams_of c.remove-ticket.new.self.items } in
    let is : after ≡ record v { waiters = without c.args.stream v.waiters } = ap (λ (ws : List StreamNo). record v { waiters = ws }) e in
    subst (λ (x : Turns). after ≡ record x { waiters = without c.args.stream x.waiters }) c.self.view_is is

pub returns-in-None : goal.returns-in-None
returns-in-None c =
    let none : HasNone c.self.inside.waiters.items c.args.stream = rw c.deref-2.ensures.value at c.in-None.ensures in
    let v : Turns = record { turn = c.self.inside.turn; version = c.self.inside.version; waiters = streams_of c.self.inside.waiters.items; reserved = streams_of c.self.inside.places.items } in
    let is : v ≡ record v { waiters = without c.args.stream v.waiters } = ap (λ (ws : List StreamNo). record v { waiters = ws }) (sym (without_none c.self.inside.waiters.items c.args.stream none)) in
    subst (λ (x : Turns). x ≡ record x { waiters = without c.args.stream x.waiters }) c.self.view_is is

use Rattle.std.proofs.Common.{◌≡◌, ◌≤◌, List, set, true, false, arith, ap, sym, subst, ◌∙◌}
use Rattle.hrana_value.specs.declared.StreamNo.{StreamNo}
use Rattle.txn_table.specs.declared.tickets.Ticket.{Ticket}
use Rattle.txn_table.specs.Turns.{Turns, has, queued}
use Rattle.txn_table.specs.Tickets.{streams_of, IsAt, IsBetween, HasNone}
use Rattle.txn_table.proofs.ListLemmas.{within}
use Rattle.txn_table.proofs.TicketLemmas.{sound_queue, room_for, queued_at, queued_none, streams_set, has_none, none_between}
use Rattle.txn_table.proofs.table.TxnTable.queue.Goals as goal

pub waiter_place-requires-clause-held : goal.waiter_place-requires-clause-held
waiter_place-requires-clause-held c = rw (c.deref.ensures.value, c.deref-2.ensures.value) c.self.invariant.sound.held

pub returns-in_default : goal.returns-in_default
returns-in_default c =
    let at : IsAt c.self.inside.waiters.items c.args.stream c.in_default.field-0 = rw c.deref-2.ensures.value at c.in_default.ensures in
    let v : Turns = record { turn = c.self.inside.turn; version = c.self.inside.version; waiters = streams_of c.self.inside.waiters.items; reserved = streams_of c.self.inside.places.items } in
    let is : v ≡ record v { waiters = queued c.args.stream v.waiters } = ap (λ (ws : List StreamNo). record v { waiters = ws }) (queued_at c.self.inside.waiters.items c.args.stream c.in_default.field-0 at) in
    subst (λ (x : Turns). x ≡ record x { waiters = queued c.args.stream x.waiters }) c.self.view_is is

pub returns-in-Err : goal.returns-in-Err
returns-in-Err c =
    let b : IsBetween c.self.inside.places.items c.args.stream c.in-Err.field-0 = rw c.deref-3.ensures.value at c.in-Err.ensures in
    let out = has_none c.self.inside.places.items c.args.stream (none_between c.self.inside.places.items c.args.stream c.in-Err.field-0 b) in
    let here : has c.args.stream (streams_of c.self.inside.places.items) ≡ true = subst (λ (x : Turns). has c.args.stream x.reserved ≡ true) (sym c.self.view_is) c.requires in
    let f : true ≡ false = sym here ∙ out in
    cc

pub index_mut-requires : goal.index_mut-requires
index_mut-requires c =
    let at : IsAt c.self.inside.places.items c.args.stream c.in-Ok.place = rw c.deref-3.ensures.value at c.in-Ok.ensures in
    let h = within (λ (p : Ticket). p.stream ≡ c.args.stream) c.self.inside.places.items c.in-Ok.place at in
    omega (arith, h, c.self.inside.places.ok.0)

pub push_reserved-requires : goal.push_reserved-requires
push_reserved-requires c =
    let at : IsAt c.self.inside.places.items c.args.stream c.in-Ok.place = rw c.deref-3.ensures.value at c.in-Ok.ensures in
    let none : HasNone c.self.inside.waiters.items c.args.stream = rw c.deref-2.ensures.value at c.in-None.ensures in
    let h = room_for c.self.inside.places.items c.self.inside.waiters.items c.self.inside.last_ticket c.in-Ok.place c.args.stream c.self.invariant.sound at none in
    omega (arith, h, c.self.invariant.room, c.self.inside.places.ok.0, c.self.inside.waiters.ok.0)

pub invariant_of-self : goal.invariant_of-self
invariant_of-self c =
    let at : IsAt c.self.inside.places.items c.args.stream c.in-Ok.place = rw c.deref-3.ensures.value at c.in-Ok.ensures in
    let none : HasNone c.self.inside.waiters.items c.args.stream = rw c.deref-2.ensures.value at c.in-None.ensures in
    let y : Ticket = record { number = c.saturating_add-self-inside.result; stream = c.args.stream } in
    let more : c.self.inside.last_ticket ≤ c.saturating_add-self-inside.result = omega (arith, c.saturating_add-self-inside.ensures, c.self.ranges) in
    record {
      sound = rw c.push_reserved.ensures.items (sound_queue c.self.inside.places.items c.self.inside.waiters.items c.self.inside.last_ticket c.in-Ok.place y c.self.invariant.sound at none more);
      room = omega (arith, c.self.invariant.room, c.push_reserved.ensures.capacity);
    }

pub returns : goal.returns
returns c =
    let at : IsAt c.self.inside.places.items c.args.stream c.in-Ok.place = rw c.deref-3.ensures.value at c.in-Ok.ensures in
    let none : HasNone c.self.inside.waiters.items c.args.stream = rw c.deref-2.ensures.value at c.in-None.ensures in
    let y : Ticket = record { number = c.saturating_add-self-inside.result; stream = c.args.stream } in
    let v : Turns = record { turn = c.self.inside.turn; version = c.self.inside.version; waiters = streams_of c.self.inside.waiters.items; reserved = streams_of c.self.inside.places.items } in
    let after : Turns = record v { waiters = streams_of c.push_reserved.new.self.items; reserved = streams_of (set c.self.inside.places.items c.in-Ok.place y) } in
    let e : streams_of c.push_reserved.new.self.items ≡ queued c.args.stream (streams_of c.self.inside.waiters.items) = ap streams_of c.push_reserved.ensures.items ∙ queued_none c.self.inside.waiters.items y none in
    let f : streams_of (set c.self.inside.places.items c.in-Ok.place y) ≡ streams_of c.self.inside.places.items = streams_set c.self.inside.places.items c.in-Ok.place y at in
    let is : after ≡ record v { waiters = queued c.args.stream v.waiters } = ap (λ (ws : List StreamNo). record after { waiters = ws }) e ∙ ap (λ (ps : List StreamNo). record v { waiters = queued c.args.stream v.waiters; reserved = ps }) f in
    subst (λ (x : Turns). after ≡ record x { waiters = queued c.args.stream x.waiters }) c.self.view_is is

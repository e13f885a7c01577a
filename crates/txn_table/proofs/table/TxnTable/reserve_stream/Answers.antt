use Rattle.std.proofs.Common.{◌≡◌, true, List, arith, ap, subst, ◌∙◌}
use Rattle.hrana_value.specs.declared.StreamNo.{StreamNo}
use Rattle.txn_table.specs.declared.tickets.Ticket.{Ticket}
use Rattle.txn_table.specs.Turns.{Turns, has, with_place, placed}
use Rattle.txn_table.specs.Tickets.{streams_of, IsAt, IsBetween}
use Rattle.txn_table.proofs.TicketLemmas.{sound_place, has_at, placed_at, placed_between}
use Rattle.txn_table.proofs.table.TxnTable.reserve_stream.Goals as goal

pub returns-in-Ok-clause-ok : goal.returns-in-Ok-clause-ok
returns-in-Ok-clause-ok c =
    let at : IsAt c.self.inside.places.items c.args.stream c.in-Ok.field-0 = rw c.deref.ensures.value at c.in-Ok.ensures in
    let v : Turns = record { turn = c.self.inside.turn; version = c.self.inside.version; waiters = streams_of c.self.inside.waiters.items; reserved = streams_of c.self.inside.places.items } in
    let is : v ≡ with_place v c.args.stream = ap (λ (ps : List StreamNo). record v { reserved = ps }) (placed_at c.self.inside.places.items c.args.stream c.in-Ok.field-0 c.self.invariant.sound.rising at) in
    subst (λ (x : Turns). x ≡ with_place x c.args.stream) c.self.view_is is

pub returns-in-Ok-clause-place : goal.returns-in-Ok-clause-place
returns-in-Ok-clause-place c =
    let at : IsAt c.self.inside.places.items c.args.stream c.in-Ok.field-0 = rw c.deref.ensures.value at c.in-Ok.ensures in
    subst (λ (x : Turns). has c.args.stream x.reserved ≡ true) c.self.view_is (has_at c.self.inside.places.items c.args.stream c.in-Ok.field-0 at)

pub invariant_of-self-2 : goal.invariant_of-self-2
invariant_of-self-2 c =
    let b : IsBetween c.self.inside.places.items c.args.stream c.in-Err.place = rw c.deref.ensures.value at c.in-Err.ensures in
    let y : Ticket = record { number = 0; stream = c.args.stream } in
    record {
      sound = rw (c.in_ok-insert.ensures.items, c.reserve.ensures.items) (sound_place c.self.inside.places.items c.self.inside.waiters.items c.self.inside.last_ticket c.in-Err.place y c.self.invariant.sound b);
      room = omega (arith, c.in_ok-insert.ensures.len, c.in_ok-reserve.ensures.ok, c.saturating_sub.ensures, c.len.ensures, c.len-places.ensures);
    }

pub returns-clause-ok : goal.returns-clause-ok
returns-clause-ok c =
    let b : IsBetween c.self.inside.places.items c.args.stream c.in-Err.place = rw c.deref.ensures.value at c.in-Err.ensures in
    let y : Ticket = record { number = 0; stream = c.args.stream } in
    let v : Turns = record { turn = c.self.inside.turn; version = c.self.inside.version; waiters = streams_of c.self.inside.waiters.items; reserved = streams_of c.self.inside.places.items } in
    let after : Turns = record v { waiters = streams_of c.reserve.new.self.items; reserved = streams_of c.insert.new.self.items } in
    let e : streams_of c.insert.new.self.items ≡ placed c.args.stream (streams_of c.self.inside.places.items) = ap streams_of c.in_ok-insert.ensures.items ∙ placed_between c.self.inside.places.items c.in-Err.place y b in
    let f : streams_of c.reserve.new.self.items ≡ streams_of c.self.inside.waiters.items = ap streams_of c.reserve.ensures.items in
    let is : after ≡ with_place v c.args.stream = ap (λ (ps : List StreamNo). record after { reserved = ps }) e ∙ ap (λ (ws : List StreamNo). record v { waiters = ws; reserved = placed c.args.stream v.reserved }) f in
    subst (λ (x : Turns). after ≡ with_place x c.args.stream) c.self.view_is is

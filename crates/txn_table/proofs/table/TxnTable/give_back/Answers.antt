use Rattle.std.proofs.Common.{◌≡◌, ◌≢◌, List, arith, ap, sym, subst, ◌∙◌}
use Rattle.std.specs.List.{All}
use Rattle.hrana_value.specs.declared.StreamNo.{StreamNo}
use Rattle.txn_table.specs.Turns.{Turns, without}
use Rattle.txn_table.specs.Tickets.{streams_of, IsAt, IsBetween, HasNone}
use Rattle.txn_table.proofs.TicketLemmas.{sound_give_back, without_at, without_none, apart_rising, none_between, none_of_streams}
use Rattle.txn_table.proofs.table.TxnTable.give_back.Goals as goal

pub invariant_of-self : goal.invariant_of-self
invariant_of-self c =
    let at : IsAt c.self.inside.places.items c.args.stream c.in-Ok.place = rw c.deref.ensures.value at c.in-Ok.ensures in
    let none : HasNone c.self.inside.waiters.items c.args.stream = none_of_streams c.self.inside.waiters.items c.args.stream (subst (λ (x : Turns). All (λ (s : StreamNo). s ≢ c.args.stream) x.waiters) (sym c.self.view_is) c.requires) in
    record {
      sound = rw c.remove-ticket.ensures.items (sound_give_back c.self.inside.places.items c.self.inside.waiters.items c.self.inside.last_ticket c.in-Ok.place c.args.stream c.self.invariant.sound at none);
      room = omega (arith, c.self.invariant.room, c.remove-ticket.ensures.len);
    }

pub returns-in-Ok : goal.returns-in-Ok
returns-in-Ok c =
    let at : IsAt c.self.inside.places.items c.args.stream c.in-Ok.place = rw c.deref.ensures.value at c.in-Ok.ensures in
    let e : streams_of c.remove-ticket.new.self.items ≡ without c.args.stream (streams_of c.self.inside.places.items) =
    ap streams_of c.remove-ticket.ensures.items ∙ without_at c.self.inside.places.items c.args.stream c.in-Ok.place (apart_rising c.self.inside.places.items c.self.invariant.sound.rising) at in
    let v : Turns = record { turn = c.self.inside.turn; version = c.self.inside.version; waiters = streams_of c.self.inside.waiters.items; reserved = streams_of c.self.inside.places.items } in
    let after : Turns = record v { reserved = streams_of c.remove-ticket.new.self.items } in
    let is : after ≡ record v { reserved = without c.args.stream v.reserved } = ap (λ (ps : List StreamNo). record v { reserved = ps }) e in
    subst (λ (x : Turns). after ≡ record x { reserved = without c.args.stream x.reserved }) c.self.view_is is

pub returns-in-Err : goal.returns-in-Err
returns-in-Err c =
    let b : IsBetween c.self.inside.places.items c.args.stream c.in-Err.field-0 = rw c.deref.ensures.value at c.in-Err.ensures in
    let v : Turns = record { turn = c.self.inside.turn; version = c.self.inside.version; waiters = streams_of c.self.inside.waiters.items; reserved = streams_of c.self.inside.places.items } in
    let is : v ≡ record v { reserved = without c.args.stream v.reserved } =
    ap (λ (ps : List StreamNo). record v { reserved = ps }) (sym (without_none c.self.inside.places.items c.args.stream (none_between c.self.inside.places.items c.args.stream c.in-Err.field-0 b))) in
    subst (λ (x : Turns). x ≡ record x { reserved = without c.args.stream x.reserved }) c.self.view_is is

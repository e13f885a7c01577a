use Rattle.std.proofs.Common.{◌∙◌, sym, ap, refl}
use Rattle.hrana_hub.specs.Arrivals.{with_conn, shut}
use Rattle.hrana_hub.specs.Maps.{at}
use Rattle.hrana_hub.specs.State.{Seen, Conn}
use Rattle.hrana_hub.proofs.ArrivalLemmas.{after, stayed, closed_after, room_few}
use Rattle.hrana_hub.proofs.MapLemmas.{some_one}
use Rattle.hrana_hub.proofs.hub.Hub.text.Goals as goal

pub returns-then-text-gt-MAX_BODY_BYTES-clause-rest : goal.returns-then-text-gt-MAX_BODY_BYTES-clause-rest
returns-then-text-gt-MAX_BODY_BYTES-clause-rest c =
    let old = c.args.self.now in
    let k = c.in-Some.known.now in
    let known = ap (λ (s : Seen). at c.args.conn s.state.conns) (sym c.self.view_is) ∙ c.in-Some.ensures in
    let s = with_conn c.args.conn (shut k) old.state in
    stayed s old c.close.new.self (after s old c.close.new.self (c.close.ensures.hub k known) refl)

pub read-requires-clause-few : goal.read-requires-clause-few
read-requires-clause-few c = λ k known.
    let there = ap (λ (s : Seen). at c.args.conn s.state.conns) (sym c.self.view_is) ∙ c.in-Some.ensures in
    let same = some_one (sym there ∙ known) in
    room_few k (ap (λ (l : Conn). l.closing) (sym same) ∙ sym c.if-is_closing.ensures) (c.requires.few k known)

pub returns-in-Ok-clause-rest : goal.returns-in-Ok-clause-rest
returns-in-Ok-clause-rest c =
    let known = ap (λ (s : Seen). at c.args.conn s.state.conns) (sym c.self.view_is) ∙ c.in-Some.ensures in
    (c.in-Ok.ensures c.in-Some.known.now known).1

pub returns-in-Err-clause-rest : goal.returns-in-Err-clause-rest
returns-in-Err-clause-rest c =
    let old = c.args.self.now in
    let k = c.in-Some.known.now in
    let known = ap (λ (s : Seen). at c.args.conn s.state.conns) (sym c.self.view_is) ∙ c.in-Some.ensures in
    stayed (with_conn c.args.conn (shut k) old.state) old c.close-in-Err.new.self
    (closed_after c.args.conn k old c.read.new.self c.close-in-Err.new.self (c.in-Err.ensures k known) known c.close-in-Err.ensures.hub)

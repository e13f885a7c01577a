use Rattle.std.proofs.Common.{◌≡◌, true, false, sym, ◌∙◌, refl, None, Ok}
use Rattle.std.proofs.lemmas.Int.{to_z-of_z}
use Rattle.hrana_hub.specs.Arrivals.{with_conn, shut, closing, on_numbered, if_greeted}
use Rattle.hrana_hub.proofs.ArrivalLemmas.{after, arrives_as, greeted_is, greeted_not}
use Rattle.hrana_hub.proofs.hub.Hub.numbered.Goals as goal

pub returns-then-not-is_greeted : goal.returns-then-not-is_greeted
returns-then-not-is_greeted c = λ k known.
    let old = c.args.self.now in
    let no : k.greeted ≡ false = sym (c.requires.greeted k known) ∙ c.if-not-is_greeted.true in
    let went = on_numbered c.args.conn k c.args.request_id c.args.request old.state in
    arrives_as (closing c.args.conn k None 1002 old.state) (if_greeted c.args.conn k went old.state) (Ok c.close.result) old c.close.new.self (greeted_not c.args.conn k went old.state no)
    (c.close.ensures.given, after (with_conn c.args.conn (shut k) old.state) old c.close.new.self (c.close.ensures.hub k known) refl)

pub returns-in-Ok : goal.returns-in-Ok
returns-in-Ok c = λ k known.
    let yes : k.greeted ≡ true = sym (c.requires.greeted k known) ∙ c.if-not-is_greeted.false in
    let old = c.args.self.now in
    let its = c.ranges.request_id in
    let went = on_numbered c.args.conn k c.args.request_id c.args.request old.state in
    arrives_as went (if_greeted c.args.conn k went old.state) c.request.result old c.request.new.self (greeted_is c.args.conn k went old.state yes)
    (rw c.in-Ok.is (simp to_z-of_z at (c.request.ensures k known)))

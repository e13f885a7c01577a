use Rattle.std.proofs.Common.{◌∙◌, sym, ap, refl, Some}
use Rattle.http_wire.specs.declared.outs.Outs.{Outs}
use Rattle.http_wire.specs.declared.outs.Out.{Out}
use Rattle.hrana_hub.specs.Arrivals.{accepts, with_conn, shut}
use Rattle.hrana_hub.specs.State.{Seen}
use Rattle.hrana_hub.proofs.ArrivalLemmas.{after}
use Rattle.hrana_hub.proofs.hub.Hub.hello.Goals as goal

pub returns-then-not-accepts : goal.returns-then-not-accepts
returns-then-not-accepts c = λ k known.
    let old = c.args.self.now in
    let refused = ap (λ (s : Seen). accepts s.token c.args.jwt) (sym c.self.view_is) ∙ sym c.if-not-accepts.ensures in
    let told = ap (λ (out : Out). let outs : Outs = record { conn = c.args.conn; out = Some out; close = Some 1000 } in outs) c.in_ok-out.ensures in
    rw refused (c.close.ensures.given ∙ told, after (with_conn c.args.conn (shut k) old.state) old c.close.new.self (c.close.ensures.hub k known) refl)

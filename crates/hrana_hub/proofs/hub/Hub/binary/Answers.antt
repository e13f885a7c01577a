use Rattle.std.proofs.Common.{sym, refl}
use Rattle.hrana_hub.specs.Arrivals.{with_conn, shut}
use Rattle.hrana_hub.specs.Maps.{at}
use Rattle.hrana_hub.proofs.ArrivalLemmas.{heard, after, stayed}
use Rattle.hrana_hub.proofs.hub.Hub.binary.Goals as goal

pub returns-clause-rest : goal.returns-clause-rest
returns-clause-rest c =
    let old = c.args.self.now in
    let known = heard (at c.args.conn old.state.conns) (sym c.if-not-hears.ensures) in
    let s = with_conn c.args.conn (shut known.0) old.state in
    stayed s old c.close.new.self (after s old c.close.new.self (c.close.ensures.hub known.0 known.1) refl)

use Rattle.hrana_hub.proofs.Hearing.{prepared_for}
use Rattle.hrana_hub.proofs.hub.Hub.pipeline.Goals as goal

pub begin_session-requires-clause-prepared : goal.begin_session-requires-clause-prepared
begin_session-requires-clause-prepared g c =
    (c.args.body, prepared_for c.args.body c.args.conn c.args.close c.in_ok-begun.begun.exchange c.in_ok-begun.begun.asks c.in_ok-ready.ready c.in_ok-no_token.no_token c.in_ok-begun.ensures c.in_ok-ready.ensures c.in_ok-no_token.ensures)

pub go_on-requires-clause-prepared : goal.go_on-requires-clause-prepared
go_on-requires-clause-prepared g c =
    (c.args.body, prepared_for c.args.body c.args.conn c.args.close c.in_ok-begun.begun.exchange c.in_ok-begun.begun.asks c.in_ok-ready.ready c.in_ok-no_token.no_token c.in_ok-begun.ensures c.in_ok-ready.ensures c.in_ok-no_token.ensures)

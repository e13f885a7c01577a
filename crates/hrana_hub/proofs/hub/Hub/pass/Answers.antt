use Rattle.std.proofs.Common.{◌∙◌}
use Rattle.hrana_hub.proofs.Polling.{Known, both_known, passes_put, put_agrees, put_token, pass_adds, pass_over_adds}
use Rattle.hrana_hub.proofs.hub.Hub.pass.Goals as goal

pub end_stream-requires : goal.end_stream-requires
end_stream-requires g c =
    let known : Known c.args.self.now c.args.stream c.args.conn = both_known _ _ _ c.requires.connection c.requires.stream in
    put_agrees _ _ _ _ _ _ c.args.stream c.args.conn (passes_put _ _ _ _ known c.answered.ensures.hub) c.requires.agrees

pub returns-then-answered-clause-adds : goal.returns-then-answered-clause-adds
returns-then-answered-clause-adds g c =
    let known : Known c.args.self.now c.args.stream c.args.conn = both_known _ _ _ c.requires.connection c.requires.stream in
    pass_over_adds _ _ c.args.self.now c.answered.new.self c.end_stream.new.self c.args.stream c.args.conn c.answered.result known c.answered.ensures.hub c.answered.ensures.over c.if-answered.true c.end_stream.ensures.state c.end_stream.ensures.adds

pub returns-then-answered-clause-token : goal.returns-then-answered-clause-token
returns-then-answered-clause-token g c =
    let known : Known c.args.self.now c.args.stream c.args.conn = both_known _ _ _ c.requires.connection c.requires.stream in
    c.end_stream.ensures.token ∙ put_token _ _ c.args.stream c.args.conn (passes_put _ _ _ _ known c.answered.ensures.hub)

pub returns-else-answered-clause-adds : goal.returns-else-answered-clause-adds
returns-else-answered-clause-adds g c =
    let known : Known c.args.self.now c.args.stream c.args.conn = both_known _ _ _ c.requires.connection c.requires.stream in
    pass_adds _ c.args.self.now c.answered.new.self c.args.stream c.args.conn c.answered.result known c.answered.ensures.hub c.answered.ensures.over c.if-answered.false

pub returns-else-answered-clause-agrees : goal.returns-else-answered-clause-agrees
returns-else-answered-clause-agrees g c =
    let known : Known c.args.self.now c.args.stream c.args.conn = both_known _ _ _ c.requires.connection c.requires.stream in
    put_agrees _ _ _ _ _ _ c.args.stream c.args.conn (passes_put _ _ _ _ known c.answered.ensures.hub) c.requires.agrees

pub returns-else-answered-clause-token : goal.returns-else-answered-clause-token
returns-else-answered-clause-token g c =
    let known : Known c.args.self.now c.args.stream c.args.conn = both_known _ _ _ c.requires.connection c.requires.stream in
    put_token _ _ c.args.stream c.args.conn (passes_put _ _ _ _ known c.answered.ensures.hub)

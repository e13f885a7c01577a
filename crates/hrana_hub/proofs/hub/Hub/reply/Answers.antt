use Rattle.std.proofs.Common.{◌∙◌, ap, w32}
use Rattle.std.proofs.lemmas.Int.{to_z-of_z}
use Rattle.ws_messages.specs.Server.{answering}
use Rattle.stream_task.specs.declared.task.Poll.TheVariants.{Ready}
use Rattle.stream_task.specs.declared.task.Stepped.TheVariants.{Replied}
use Rattle.hrana_hub.specs.Arrivals.{tells}
use Rattle.hrana_hub.proofs.Adding.{adds_as}
use Rattle.hrana_hub.proofs.Polling.{Known, both_known, falls_put, put_agrees, put_token, put_adds, Settled, IsTold, settle_fell, settle_told}
use Rattle.hrana_hub.proofs.hub.Hub.reply.Goals as goal

pub returns-in_default-clause-adds : goal.returns-in_default-clause-adds
returns-in_default-clause-adds g c =
    let known : Known c.args.self.now c.args.stream c.args.conn = both_known _ _ _ c.requires.connection c.requires.stream in
    put_adds _ c.args.self.now c.fall.new.self c.args.stream c.args.conn (Settled c.args.self.now c.args.stream c.args.conn (Ready (Replied c.args.reply)) c.fall.result c.fall.new.self.state) (falls_put _ _ _ _ known c.fall.ensures.hub)
    (settle_fell c.args.self.now c.fall.new.self c.args.stream c.args.conn (Ready (Replied c.args.reply)) c.fall.result tt c.fall.ensures.given c.fall.ensures.hub)

pub returns-in_default-clause-agrees : goal.returns-in_default-clause-agrees
returns-in_default-clause-agrees g c =
    let known : Known c.args.self.now c.args.stream c.args.conn = both_known _ _ _ c.requires.connection c.requires.stream in
    put_agrees _ _ _ _ _ _ c.args.stream c.args.conn (falls_put _ _ _ _ known c.fall.ensures.hub) c.requires.agrees

pub returns-in_default-clause-token : goal.returns-in_default-clause-token
returns-in_default-clause-token g c =
    let known : Known c.args.self.now c.args.stream c.args.conn = both_known _ _ _ c.requires.connection c.requires.stream in
    put_token _ _ c.args.stream c.args.conn (falls_put _ _ _ _ known c.fall.ensures.hub)

pub returns-clause-adds : goal.returns-clause-adds
returns-clause-adds g c = adds_as _ _ c.args.self.now c.pass.new.self (IsTold c.args.self.now c.pass.new.self c.args.stream c.args.conn) (Settled c.args.self.now c.args.stream c.args.conn (Ready (Replied c.args.reply)) c.in-Ok.outs c.pass.new.self.state)
    (λ added told. settle_told c.args.self.now c.pass.new.self c.args.stream c.args.conn c.first_id.result c.args.reply c.in-Ok.outs added (c.in-Ok.ensures ∙ ap (λ id. tells c.args.conn (answering id c.args.reply)) (to_z-of_z w32 c.first_id.result (record { sfits = c.first_id.type_inv }))) c.first_id.ensures told) c.pass.ensures.adds

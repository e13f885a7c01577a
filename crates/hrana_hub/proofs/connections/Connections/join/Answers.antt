use Rattle.std.proofs.Common.{sym, w32}
use Rattle.std.proofs.lemmas.Int.{to_z-of_z}
use Rattle.std.proofs.lemmas.Result.{on_err_weaker}
use Rattle.hrana_hub.proofs.MapLemmas.{put_kept}
use Rattle.hrana_hub.proofs.connections.Connections.join.Goals as goal

pub join-requires : goal.join-requires
join-requires c = rw (to_z-of_z w32 c.args.id c.ranges.id) (c.requires _ (sym c.in-Some.ensures.value))

pub returns-in-Some-clause-err : goal.returns-in-Some-clause-err
returns-in-Some-clause-err c = on_err_weaker c.join.result (put_kept c.args.conn c.in-Some.known.now c.join.new.self c.args.self.now (sym c.in-Some.ensures.value)) c.join.ensures.err

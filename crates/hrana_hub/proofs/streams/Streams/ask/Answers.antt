use Rattle.std.proofs.Common.{sym}
use Rattle.std.proofs.lemmas.Result.{on_err_weaker}
use Rattle.hrana_hub.proofs.MapLemmas.{put_kept}
use Rattle.hrana_hub.proofs.streams.Streams.ask.Goals as goal

pub returns-in-Some-clause-err : goal.returns-in-Some-clause-err
returns-in-Some-clause-err c = on_err_weaker c.ask.result (put_kept c.args.number c.in-Some.slot.now c.ask.new.self c.args.self.now (sym c.in-Some.ensures.value)) c.ask.ensures.err

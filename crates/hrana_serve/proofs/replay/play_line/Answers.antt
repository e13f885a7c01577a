use Rattle.std.proofs.Common.{refl, ap, Err}
use Rattle.std.proofs.KnownBytes.{Keeps-refl}
use Rattle.hrana_serve.proofs.DrawLemmas.{draws_none}
use Rattle.hrana_serve.proofs.NoteLemmas.{adds_none}
use Rattle.hrana_serve.proofs.replay.play_line.Goals as goal

pub returns-in-Err-NoEvent-clause-adds : goal.returns-in-Err-NoEvent-clause-adds
returns-in-Err-NoEvent-clause-adds g c =
    draws_none _ _ _ _ (adds_none _ _ _ _ _ _ _ _ _ _ (record { undrawn = refl; none = refl; same = refl; silent = Keeps-refl (g.O.Sink.written c.args.sink.now) }, c.in-Err-NoEvent.ensures.none (ap Err c.in-Err-NoEvent.field-0-is)))

pub returns-in-Err-NoMemory-clause-adds : goal.returns-in-Err-NoMemory-clause-adds
returns-in-Err-NoMemory-clause-adds g c = draws_none _ _ _ _ (adds_none _ _ _ _ _ _ _ _ _ _ (record { undrawn = refl; none = refl; same = refl; silent = Keeps-refl (g.O.Sink.written c.args.sink.now) }))

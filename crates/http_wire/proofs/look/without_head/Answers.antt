use Rattle.std.proofs.Common.{arith, refl, inr, subst}
use Rattle.std.proofs.lemmas.List.{take_all}
use Rattle.httparse.specs.Grammar.{HasNoRequest}
use Rattle.http_wire.proofs.LookLemmas.{bad_is_no_memory, waits_without_head, waits_for_one, never_after_limit}
use Rattle.http_wire.proofs.look.without_head.Goals as goal

pub returns-then-is_full : goal.returns-then-is_full
returns-then-is_full c = (bad_is_no_memory, inr (refl, never_after_limit c.args.held.now c.requires (omega arith)))

pub returns : goal.returns
returns c =
    let none = subst HasNoRequest (take_all 16384 c.args.held.now (omega arith)) c.requires in
    (waits_without_head c.args.held.now none (omega arith), waits_for_one c.args.held.now none (omega arith))

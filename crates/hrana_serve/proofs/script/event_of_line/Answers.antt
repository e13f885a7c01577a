use Rattle.std.proofs.Common.{rules}
use Rattle.std.proofs.lemmas.Result.{err_from_is_err_and}
use Rattle.hrana_serve.proofs.ScriptLemmas.{no_exchange}
use Rattle.hrana_serve.proofs.script.event_of_line.Goals as goal

pub returns-in_err-conn-in-63-clause-none : goal.returns-in_err-conn-in-63-clause-none
returns-in_err-conn-in-63-clause-none c =
    let p = err_from_is_err_and c.from_residual-in_err-conn-in-63.result c.from_residual-in_err-conn-in-63.ensures.1 in
    rw (p.1, p.2) (λ is event h. no_exchange _ (c.in_err-conn-in-63.ensures.none is) (search rules) event h)

use Rattle.std.proofs.Common.{arith, subst}
use Rattle.std.proofs.lemmas.Result.{err_from_is_err_and}
use Rattle.hrana_serve.specs.Script.{IsAskText}
use Rattle.hrana_serve.proofs.ScriptLemmas.{rest_one}
use Rattle.hrana_serve.proofs.script.exchange_of.Goals as goal

pub returns-in_err-ask-clause-none : goal.returns-in_err-ask-clause-none
returns-in_err-ask-clause-none c =
    let p = err_from_is_err_and c.from_residual-in_err-ask.result c.from_residual-in_err-ask.ensures.1 in
    rw (p.1, p.2) (λ is n text ask lt e said. c.in_err-ask.ensures.none is ask
    (subst (λ t. IsAskText t ask) ((rest_one c.args.bytes.now text c.in_ok-conn.rest.now n c.in_ok-conn.conn (omega arith) (omega (arith, c.in_ok-conn.ensures.range)) e c.in_ok-conn.ensures.ok).1) said))

use Rattle.std.proofs.Common.{arith}
use Rattle.std.proofs.lemmas.Result.{err_from_is_err_and}
use Rattle.hrana_serve.proofs.ScriptLemmas.{space_after, no_space}
use Rattle.hrana_serve.proofs.script.conn_and_rest.Goals as goal

pub returns-in_default-clause-none : goal.returns-in_default-clause-none
returns-in_default-clause-none c = λ _ n t lt e. no_space c.args.bytes.now t n e c.in_default.ensures

pub returns-in_err-conn-clause-none : goal.returns-in_err-conn-clause-none
returns-in_err-conn-clause-none c =
    let p = err_from_is_err_and c.from_residual.result c.from_residual.ensures.1 in
    rw (p.1, p.2) (λ is n t lt e. c.in_err-conn.ensures.none is n lt (space_after c.args.bytes.now t n c.in-Some.at (omega arith) e c.in-Some.ensures))

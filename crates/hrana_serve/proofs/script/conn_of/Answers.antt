use Rattle.std.proofs.Common.{◌≡◌, ◌∙◌, sym, arith}
use Rattle.std.proofs.lemmas.Fmt.{decimal_injective}
use Rattle.hrana_serve.proofs.script.conn_of.Goals as goal

pub returns-in-Err-clause-none : goal.returns-in-Err-clause-none
returns-in-Err-clause-none c = λ _ n lt e.
    let same : n ≡ c.in_ok-number.number = decimal_injective n c.in_ok-number.number (omega arith) (omega arith) (sym e ∙ c.in_ok-number.ensures.ok) in
    omega (arith, c.in-Err.ensures)

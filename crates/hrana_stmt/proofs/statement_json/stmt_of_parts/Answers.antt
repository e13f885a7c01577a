use Rattle.hrana_value.proofs.DeclineLemmas.{Reads-both-ok, Reads-both-failed}
use Rattle.hrana_stmt.proofs.statement_json.stmt_of_parts.Goals as goal

pub returns-in-Ok : goal.returns-in-Ok
returns-in-Ok c = Reads-both-ok c.both_readings.ensures c.in-Ok.is c.head_of_json-head.ensures c.arguments_of_json.ensures (λ h. record { head = h.0; arguments = h.1 })

pub returns-in-Err : goal.returns-in-Err
returns-in-Err c = Reads-both-failed c.both_readings.ensures c.in-Err.is c.head_of_json-head.ensures c.arguments_of_json.ensures

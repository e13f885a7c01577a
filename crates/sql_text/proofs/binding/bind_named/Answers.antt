use Rattle.std.proofs.Common.{None, arith, ◌+◌}
use Rattle.std.proofs.lemmas.List.{get_or-replicate}
use Rattle.sql_text.specs.declared.limits.TheConstants.{MAX_PARAMETERS}
use Rattle.sql_text.proofs.binding.bind_named.Goals as goal

pub note_named-requires-clause-empty : goal.note_named-requires-clause-empty
note_named-requires-clause-empty c = λ n small. get_or-replicate (MAX_PARAMETERS + 1) n None None (omega (arith, small))

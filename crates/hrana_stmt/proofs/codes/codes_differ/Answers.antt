use Rattle.hrana_stmt.proofs.CodeLemmas.{name_of-injective}
use Rattle.hrana_stmt.proofs.codes.codes_differ.Goals as goal

pub returns : goal.returns
returns c = name_of-injective

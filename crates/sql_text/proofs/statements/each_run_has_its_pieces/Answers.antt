use Rattle.sql_text.proofs.StatementLemmas as lemmas
use Rattle.sql_text.proofs.statements.each_run_has_its_pieces.Goals as goal

pub returns : goal.returns
returns c = lemmas.each_run_has_its_pieces

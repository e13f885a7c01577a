use Rattle.sql_text.proofs.StatementLemmas as lemmas
use Rattle.sql_text.proofs.statements.each_statement_reads_as_its_text.Goals as goal

pub returns : goal.returns
returns c = lemmas.each_statement_reads_as_its_text

use Rattle.std.proofs.Common.{◌≡◌, ◌≤◌, ◌<◌, ℕ, List, [], ◌∷◌, length, get_or, None, sym, ◌∙◌, arith}
use Rattle.std.specs.Prelude.{slice_range}
use Rattle.sql_text.specs.declared.spans.Span.{Span}
use Rattle.sql_text.specs.Spans.{spans_of, unclosed_at}
use Rattle.sql_text.specs.Statements.{IsStatementOf}
use Rattle.sql_text.proofs.StatementLemmas.{each_statement_reads_as_its_text}
use Rattle.sql_text.proofs.statements.statement_of.Goals as goal
use Rattle.sql_text.proofs.statements.statement_of.Goals.{After-drop-spans-in-len1}

abbrev nowhere : Span
nowhere = record { start = 0; end = 0 }

only_one : (sql statement : List ℕ) (spans : List Span) → 1 ≤ length spans → length spans < 2 → spans ≡ spans_of sql → unclosed_at sql ≡ None → statement ≡ slice_range sql (get_or spans 0 nowhere).start (get_or spans 0 nowhere).end → IsStatementOf sql statement
only_one sql statement [] least most spans closed cut = absurd (omega arith)
only_one sql statement (span ∷ []) least most spans closed cut = record { span = span; closed = closed; one = sym spans; cut = cut }
only_one sql statement (span ∷ other ∷ later) least most spans closed cut = absurd (omega arith)

here : (c : After-drop-spans-in-len1) → IsStatementOf c.args.sql.now c.range.result.now
here c = only_one c.args.sql.now c.range.result.now c.as_slice.result.now c.in-len1.len_at_least c.in-len1.len_below (c.as_slice.ensures.value ∙ c.in_ok-spans.ensures.spans) c.in_ok-spans.ensures.closed c.range.ensures.value

pub returns-in-len1-clause-statement : goal.returns-in-len1-clause-statement
returns-in-len1-clause-statement c = here c

pub returns-in-len1-clause-class : goal.returns-in-len1-clause-class
returns-in-len1-clause-class c = (each_statement_reads_as_its_text c.args.sql.now c.range.result.now (here c)).class

use Rattle.std.proofs.Common.{◌≡◌, ◌∙◌, sym, ap, subst, None, Err}
use Rattle.sql_text.specs.declared.prepared.PrepareFail.TheVariants.{Unclosed}
use Rattle.sql_text.specs.Class.{class_of_text}
use Rattle.sql_text.specs.Spans.{spans_of, unclosed_at}
use Rattle.sql_text.specs.Found.{IsScanOf}
use Rattle.sql_text.specs.Binding.{bound_read}
use Rattle.sql_text.specs.Prepared.{class_refused, with_values, PreparesAs}
use Rattle.sql_text.proofs.PreparedLemmas.{none_from, prepared-unclosed, prepared-not_one, prepared-barred, prepared-passed, class_of_statement, classed_from, passed_from}
use Rattle.sql_text.proofs.prepared.prepare.Goals as goal
use Rattle.sql_text.proofs.prepared.prepare.Goals.{In-Ok, After-with_values}

-- the pieces that were read are those of the text
scanned : (c : In-Ok) → IsScanOf c.args.sql.now c.in-Ok.scan c.scan_pieces.new.parameters
scanned c = subst (λ sql. IsScanOf sql c.in-Ok.scan c.scan_pieces.new.parameters) c.as_bytes.ensures.value c.in-Ok.ensures.ok

pub returns-in-Err-Unclosed-clause-exact : goal.returns-in-Err-Unclosed-clause-exact
returns-in-Err-Unclosed-clause-exact c =
    let failed = c.in-Err-Unclosed in
    prepared-unclosed c.args.sql.now c.args.args.now c.args.named.now failed.at (ap unclosed_at (sym c.as_bytes.ensures.value) ∙ failed.ensures.unclosed failed.at failed.field-0-is)
    ∙ ap (λ at. Err (Unclosed at)) (sym failed.at-is)

pub returns-in-Err-clause-exact : goal.returns-in-Err-clause-exact
returns-in-Err-clause-exact c =
    let read = scanned (goal.at.returns-in-Err-clause-exact c).In-Ok in
    prepared-not_one c.args.sql.now c.args.args.now c.args.named.now c.in-Ok.scan c.scan_pieces.new.parameters read c.in-Err.fail
    (c.in-Err.ensures (spans_of c.args.sql.now) (class_of_text c.args.sql.now) read.found)

pub returns-in-Some-clause-exact : goal.returns-in-Some-clause-exact
returns-in-Some-clause-exact c =
    let read = scanned (goal.at.returns-in-Some-clause-exact c).In-Ok in
    prepared-barred c.args.sql.now c.args.args.now c.args.named.now c.in-Ok.scan c.scan_pieces.new.parameters read c.in-Ok-one_found.statement
    (c.in-Ok-one_found.ensures (spans_of c.args.sql.now) (class_of_text c.args.sql.now) read.found)
    c.in-Some.fail (sym c.class_refused.ensures ∙ c.in-Some.is)

module _ (c : After-with_values) where
  passes : class_refused c.in-Ok-one_found.statement.class ≡ None
  passes = sym c.class_refused.ensures ∙ none_from c.class_refused.result c.in_default.not-Some

  joined : PreparesAs c.with_values.result (with_values c.text_at.result.now c.in-Ok-one_found.statement.class (bound_read c.in-Ok.scan.fit c.scan_pieces.new.parameters c.args.args.now c.args.named.now))
  joined = c.with_values.ensures (bound_read c.in-Ok.scan.fit c.scan_pieces.new.parameters c.args.args.now c.args.named.now) c.bind_scanned-values.ensures

pub returns-clause-exact : goal.returns-clause-exact
returns-clause-exact c =
    let read = scanned (goal.at.returns-clause-exact c).In-Ok in
    let values = bound_read c.in-Ok.scan.fit c.scan_pieces.new.parameters c.args.args.now c.args.named.now in
    subst (PreparesAs c.with_values.result)
    (ap (λ text. with_values text c.in-Ok-one_found.statement.class values) c.text_at.ensures
    ∙ prepared-passed c.args.sql.now c.args.args.now c.args.named.now c.in-Ok.scan c.scan_pieces.new.parameters read c.in-Ok-one_found.statement
    (c.in-Ok-one_found.ensures (spans_of c.args.sql.now) (class_of_text c.args.sql.now) read.found) (passes (goal.at.returns-clause-exact c).After-with_values))
    (joined (goal.at.returns-clause-exact c).After-with_values)

pub returns-clause-classed : goal.returns-clause-classed
returns-clause-classed c =
    let read = scanned (goal.at.returns-clause-classed c).In-Ok in
    classed_from c.text_at.result.now c.in-Ok-one_found.statement.class _ c.with_values.result
    (ap class_of_text c.text_at.ensures ∙ class_of_statement c.args.sql.now c.args.args.now c.args.named.now c.in-Ok.scan c.scan_pieces.new.parameters read c.in-Ok-one_found.statement
    (c.in-Ok-one_found.ensures (spans_of c.args.sql.now) (class_of_text c.args.sql.now) read.found))
    (joined (goal.at.returns-clause-classed c).After-with_values)

pub returns-clause-passed : goal.returns-clause-passed
returns-clause-passed c = passed_from c.text_at.result.now c.in-Ok-one_found.statement.class _ c.with_values.result (passes (goal.at.returns-clause-passed c).After-with_values) (joined (goal.at.returns-clause-passed c).After-with_values)

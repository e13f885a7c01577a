use Rattle.std.proofs.Common.{◌∙◌, ap, sym, subst, Err}
use Rattle.sql_text.specs.declared.binding.BindFail.TheVariants.{Unclosed}
use Rattle.sql_text.specs.Spans.{unclosed_at}
use Rattle.sql_text.specs.Binding.{AnswersAs}
use Rattle.sql_text.specs.Found.{IsScanOf}
use Rattle.sql_text.proofs.BindLemmas.{bound-scanned, bound-unclosed, count_from}
use Rattle.sql_text.proofs.binding.bind.Goals as goal

pub returns-in-Ok-clause-exact : goal.returns-in-Ok-clause-exact
returns-in-Ok-clause-exact c =
    let is = subst (λ sql. IsScanOf sql c.in-Ok.scan c.scan_pieces.new.parameters) c.as_bytes.ensures.value c.in-Ok.ensures.ok in
    subst (AnswersAs c.bind_scanned.result) (sym (bound-scanned c.args.sql.now c.in-Ok.scan c.scan_pieces.new.parameters c.args.args.now c.args.named.now is)) c.bind_scanned.ensures

pub returns-in-Ok-clause-count : goal.returns-in-Ok-clause-count
returns-in-Ok-clause-count c = count_from c.args.sql.now c.args.args.now c.args.named.now c.bind_scanned.result (returns-in-Ok-clause-exact c)

pub returns-in-Err-Unclosed-clause-exact : goal.returns-in-Err-Unclosed-clause-exact
returns-in-Err-Unclosed-clause-exact c =
    let failed = c.in-Err-Unclosed in
    bound-unclosed c.args.sql.now failed.at c.args.args.now c.args.named.now (ap unclosed_at (sym c.as_bytes.ensures.value) ∙ failed.ensures.unclosed failed.at failed.field-0-is)
    ∙ ap (λ at. Err (Unclosed at)) (sym failed.at-is)

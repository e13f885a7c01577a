use Rattle.std.proofs.Common.{sym, ap, ◌∙◌, []}
use Rattle.keeper_rows.specs.Constraint.{keeps_key}
use Rattle.keeper_rows.specs.Spans.{replaced}
use Rattle.keeper_rows.proofs.KeyLemmas.{keeps_no_key}
use Rattle.keeper_rows.proofs.rows.TableRows.replace.Goals as goal

pub returns-in_default-clause-kept : goal.returns-in_default-clause-kept
returns-in_default-clause-kept c =
    let others = replaced c.args.self.now c.args.span c.args.news.items in
    sym (ap (λ key. keeps_key key [] others) c.in_default.is ∙ keeps_no_key [] others)

use Rattle.std.proofs.Common.{sym, ◌∙◌, ap, ◌≡◌}
use Rattle.stream_task.specs.Table.{plan}
use Rattle.stream_task.specs.declared.table.Plan.TheVariants.{Adds}
use Rattle.stream_task.proofs.AddsLemmas.{adds_weaker, statement_row}
use Rattle.stream_task.proofs.statement.poll_statement.Goals as goal

pub returns-in-Adds-clause-adds : goal.returns-in-Adds-clause-adds
returns-in-Adds-clause-adds g c =
    let planned : plan g.E.Engine.SHARED c.args.state c.in-Ok.ready.class ≡ Adds c.in-Adds.row =
    ap (λ shared. plan shared c.args.state c.in-Ok.ready.class) (sym c.SHARED.ensures) ∙ sym c.plan_of.ensures ∙ c.in-Adds.is in
    adds_weaker _ _ _ _ _ _ _ _ _ _ _ _ _ _ _ (statement_row g.E.Engine.SHARED _ _ c.args.state _ _ c.in-Ok.ready c.in-Adds.row c.poll_row.result c.in-Ok.ensures.exact planned) c.poll_row.ensures.adds

use Rattle.stream_task.proofs.TodoLemmas.{leaves_as}
use Rattle.stream_task.proofs.AdvanceLemmas.{adds_more, running_polls, agrees_left}
use Rattle.stream_task.proofs.advance.poll_running.Goals as goal

pub returns-clause-adds : goal.returns-clause-adds
returns-clause-adds g c =
    adds_more _ _ _ _ _ _ _ _ _ _ _ _ _ _ _ _ (leaves_as c.args.running c.args.state _ _ c.went_leaves.ensures).waits
    (running_polls _ _ _ _ c.args.running _ _ _ c.statement_of-stmt.ensures c.went_leaves.ensures) c.poll_statement-went.ensures.adds

pub returns-clause-agrees : goal.returns-clause-agrees
returns-clause-agrees g c = agrees_left _ _ _ _ _ c.args.running c.args.state _ _ c.went_leaves.ensures c.poll_statement-went.ensures.agrees

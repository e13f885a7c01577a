use Rattle.stream_task.specs.Table.{begins_writer}
use Rattle.stream_task.proofs.act.act.Goals as goal

pub returns-in-Alone-clause-effect : goal.returns-in-Alone-clause-effect
returns-in-Alone-clause-effect g c = c.run_alone.ensures.effect (begins_writer c.args.row)

pub returns-in-Commit-clause-effect : goal.returns-in-Commit-clause-effect
returns-in-Commit-clause-effect g c = c.commit.ensures.effect (begins_writer c.args.row)

pub returns-in-EndRead-clause-effect : goal.returns-in-EndRead-clause-effect
returns-in-EndRead-clause-effect g c = c.end.ensures.effect (begins_writer c.args.row)

pub returns-in-Undo-clause-effect : goal.returns-in-Undo-clause-effect
returns-in-Undo-clause-effect g c = c.undo.ensures.effect (begins_writer c.args.row)

pub returns-in-Run-clause-effect : goal.returns-in-Run-clause-effect
returns-in-Run-clause-effect g c = c.run.ensures.effect (begins_writer c.args.row)

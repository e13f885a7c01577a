use Rattle.std.proofs.Common.{All, ◌≢◌, ap, subst}
use Rattle.stream_task.specs.Polls.{Task}
use Rattle.stream_task.proofs.EndLemmas.{none_waits}
use Rattle.stream_task.proofs.task.StreamTask.end.Goals as goal

pub returns-clause-waits : goal.returns-clause-waits
returns-clause-waits g c = subst (λ s. All (λ x. x ≢ s) c.lost.new.self.waiters) (ap (λ (t : Task). t.stream) c.self.view_is) (none_waits _ _ _ c.lost.ensures)

use Rattle.stream_task.proofs.StepLemmas.{note_is}
use Rattle.stream_task.proofs.steps.StepRun.note.Goals as goal

pub returns : goal.returns
returns c = note_is _ _ _ _ c.self.view_is c.requires c.note.ensures.batch c.note.ensures.outcomes

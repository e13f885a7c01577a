use Rattle.pipeline_body.proofs.AnswerLemmas.{AnswerTree-none}
use Rattle.pipeline_body.proofs.answers.pipeline_answers_are_read.Goals as goal

pub returns : goal.returns
returns c = AnswerTree-none c.pipeline_results_are_read.ensures

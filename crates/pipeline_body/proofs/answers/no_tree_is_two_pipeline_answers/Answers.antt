use Rattle.pipeline_body.proofs.AnswerLemmas.{AnswerTree-one}
use Rattle.pipeline_body.proofs.answers.no_tree_is_two_pipeline_answers.Goals as goal

pub returns : goal.returns
returns c = AnswerTree-one c.no_tree_is_two_pipeline_results.ensures

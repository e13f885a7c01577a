use Rattle.pipeline_body.proofs.AnswerLemmas.{AnswerReading-one}
use Rattle.pipeline_body.proofs.answers.no_bytes_have_two_answer_readings.Goals as goal

pub returns : goal.returns
returns c = AnswerReading-one c.no_tree_is_two_pipeline_answers.ensures c.pipeline_answers_are_read.ensures

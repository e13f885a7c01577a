use Rattle.std.proofs.Common.{subst, sym}
use Rattle.serde_json.specs.View.{view}
use Rattle.pipeline_body.specs.Answers.{IsNoAnswerTree}
use Rattle.pipeline_body.proofs.AnswerLemmas.{answer_refused}
use Rattle.pipeline_body.proofs.answers.told_answer_of_json.Goals as goal

pub returns-in-Err-clause-refused : goal.returns-in-Err-clause-refused
returns-in-Err-clause-refused c = let t = view c.args.json.now in subst (IsNoAnswerTree t) (sym c.answer_failure.ensures) (answer_refused t c.in-Err.fail c.in-Err.ensures.declined)

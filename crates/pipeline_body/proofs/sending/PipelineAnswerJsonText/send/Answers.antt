use Rattle.std.proofs.lemmas.Result.{on_ok_weaker}
use Rattle.pipeline_body.proofs.WrittenLemmas.{answer_back}
use Rattle.pipeline_body.proofs.sending.PipelineAnswerJsonText.send.Goals as goal

pub returns-clause-back : goal.returns-clause-back
returns-clause-back g c = on_ok_weaker c.end_map.result (λ e. answer_back c.args.self.now c.in_ok-send.ensures.back) c.end_map.ensures

use Rattle.std.proofs.Common.{subst, sym}
use Rattle.std.specs.Prelude.{OnOk}
use Rattle.std.proofs.lemmas.Result.{on_ok_weaker}
use Rattle.pipeline_body.specs.Bodies.{HasAskForm, FitsInPlace}
use Rattle.pipeline_body.specs.Requests.{PipeAskTree}
use Rattle.pipeline_body.specs.Written.{pipe_ask_data}
use Rattle.pipeline_body.proofs.WrittenLemmas.{pipe_back}
use Rattle.pipeline_body.proofs.sending.PipeAskJsonText.send.Goals as goal

pub returns-in-Ask-clause-back : goal.returns-in-Ask-clause-back
returns-in-Ask-clause-back g c =
    subst (λ a. OnOk c.send_request.result (HasAskForm a × FitsInPlace a → PipeAskTree a (pipe_ask_data a))) (sym c.in-Ask.is)
    (on_ok_weaker c.send_request.result (λ h met. pipe_back c.in-Ask.ask h met) c.send_request.ensures.back)

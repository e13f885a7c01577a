use Rattle.stream_task.proofs.PipelineLemmas.{reply_to_pipelines}
use Rattle.stream_task.proofs.laws.polls_reply_to_pipelines.Goals as goal

pub returns : goal.returns
returns c = reply_to_pipelines

-- The trees that bodies and answers of pipelines are written as.
use Rattle.std.specs.Prelude.{List, map, codes}
use Rattle.serde_json.specs.Data.{Data, null, array, object, member, no_members}
use Rattle.serde_json.specs.View.{items_of}
use Rattle.hrana_stmt.specs.Written.{optional_text}
use Rattle.stream_requests.specs.declared.asks.Ask.{Ask}
use Rattle.stream_requests.specs.declared.replies.Reply.{Reply}
use Rattle.stream_requests.specs.Asks.{ask_kind, ask_front}
use Rattle.stream_requests.specs.WrittenResults.{kind_member, result_data}
use Rattle.pipeline_body.specs.declared.bodies.PipeAsk.{PipeAsk}
use Rattle.pipeline_body.specs.declared.bodies.PipeAsk.TheVariants as pipe
use Rattle.pipeline_body.specs.declared.bodies.PipelineBody.{PipelineBody}
use Rattle.pipeline_body.specs.declared.bodies.PipelineAnswer.{PipelineAnswer}

-- the members of an ask come before its `type`
abbrev pub request_data : Ask → Data
request_data a = object (ask_front a (kind_member (ask_kind a)))

-- what is declined has no form
abbrev pub pipe_ask_data : PipeAsk → Data
pipe_ask_data (pipe.Ask a) = request_data a
pipe_ask_data (pipe.Declined d) = null

abbrev pub asks_data : List PipeAsk → Data
asks_data asks = array (items_of (map pipe_ask_data asks))

-- a baton that is absent is null
abbrev pub body_data : PipelineBody → Data
body_data b = object (member (codes "baton") (optional_text b.baton) (member (codes "requests") (asks_data b.asks) no_members))

abbrev pub results_data : List Reply → Data
results_data results = array (items_of (map result_data results))

-- `base_url` is null
abbrev pub answer_data : PipelineAnswer → Data
answer_data a = object (member (codes "base_url") null (member (codes "baton") (optional_text a.baton) (member (codes "results") (results_data a.results) no_members)))

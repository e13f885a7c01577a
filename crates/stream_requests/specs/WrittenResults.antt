-- The trees that results of pipelines are written as.
use Rattle.std.specs.Prelude.{ℕ, List, codes}
use Rattle.std.specs.Option.{option_map_or}
use Rattle.serde_json.specs.Data.{Data, null, object, Members, member}
use Rattle.hrana_stmt.specs.Written.{error_data}
use Rattle.hrana_batch.specs.Written.{type_member}
use Rattle.stream_requests.specs.declared.asks.AskKind.{AskKind}
use Rattle.stream_requests.specs.declared.replies.Reply.{Reply}
use Rattle.stream_requests.specs.declared.replies.Reply.TheVariants.{Failed}
use Rattle.stream_requests.specs.AskNames.{ask_name}
use Rattle.stream_requests.specs.Replies.{answered_kind, reply_front}
use Rattle.stream_requests.specs.WrittenEntries.{error_object}

abbrev pub kind_member : AskKind → Members
kind_member k = type_member (ask_name k)

-- the members of a reply come before its `type`
abbrev pub response_object : Reply → List ℕ → Data
response_object r name = object (reply_front r (type_member name))

-- what replies to no ask has no form
abbrev pub response_data : Reply → Data
response_data r = option_map_or (λ k. response_object r (ask_name k)) (answered_kind r) null

abbrev pub replied_data : Reply → Data
replied_data r = object (member (codes "response") (response_data r) (type_member (codes "ok")))

abbrev pub result_data : Reply → Data
result_data (Failed e) = error_object (codes "error") (error_data e)
result_data r = replied_data r

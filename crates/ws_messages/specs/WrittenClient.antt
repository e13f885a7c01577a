-- The trees that messages of a client are written as.
use Rattle.std.specs.Prelude.{ℤ, ◌<◌, ◌^◌, codes, FitsSigned}
use Rattle.std.specs.Int.{w32}
use Rattle.serde_json.specs.Data.{Data, number, unsigned, string, object, Members, member, no_members}
use Rattle.serde_json.specs.Find.{of_integer}
use Rattle.hrana_stmt.specs.Written.{optional_text}
use Rattle.hrana_batch.specs.Tree.{BatchTree}
use Rattle.hrana_batch.specs.Written.{batch_data}
use Rattle.stream_requests.specs.Asks.{ask_kind, ask_front, AskReadsBack}
use Rattle.ws_messages.specs.declared.messages.WsRequest.{WsRequest}
use Rattle.ws_messages.specs.declared.messages.WsRequest.TheVariants.{OpenStream, OnStream, OpenCursor, CloseCursor, FetchCursor, StoreSql, CloseSql}
use Rattle.ws_messages.specs.declared.messages.ClientMsg.{ClientMsg}
use Rattle.ws_messages.specs.declared.messages.ClientMsg.TheVariants.{Hello, Request}
use Rattle.ws_messages.specs.declared.kinds.Kind.{Kind}
use Rattle.ws_messages.specs.declared.kinds.Kind.TheVariants as kind
use Rattle.ws_messages.specs.Kinds.{name_of, kind_of}

abbrev pub integer : ℤ → Data
integer z = number (of_integer z)

abbrev pub kind_member : Kind → Members
kind_member k = member (codes "type") (string (name_of k)) no_members

-- the ids of a request before its `type`
abbrev pub on_stream : ℤ → Kind → Members
on_stream stream k = member (codes "stream_id") (integer stream) (kind_member k)

abbrev pub on_cursor : ℤ → Members → Members
on_cursor cursor ms = member (codes "cursor_id") (integer cursor) ms

-- the members of an ask come before the id of its stream
abbrev pub request_data : WsRequest → Data
request_data (OpenStream stream) = object (on_stream stream kind.OpenStream)
request_data (OnStream stream asked) = object (ask_front asked (on_stream stream (kind_of (ask_kind asked))))
request_data (OpenCursor stream cursor batch) = object (member (codes "batch") (batch_data batch) (on_cursor cursor (on_stream stream kind.OpenCursor)))
request_data (CloseCursor cursor) = object (on_cursor cursor (kind_member kind.CloseCursor))
request_data (FetchCursor cursor count) = object (on_cursor cursor (member (codes "max_count") (number (unsigned count)) (kind_member kind.FetchCursor)))
request_data (StoreSql id sql) = object (member (codes "sql") (string sql) (member (codes "sql_id") (integer id) (kind_member kind.StoreSql)))
request_data (CloseSql id) = object (member (codes "sql_id") (integer id) (kind_member kind.CloseSql))

-- a token that is absent is null
abbrev pub hello_object : Data → Data
hello_object jwt = object (member (codes "jwt") jwt (member (codes "type") (string (codes "hello")) no_members))

abbrev pub request_object : ℤ → Data → Data
request_object id request = object (member (codes "request") request (member (codes "request_id") (integer id) (member (codes "type") (string (codes "request")) no_members)))

abbrev pub client_data : ClientMsg → Data
client_data (Hello jwt) = hello_object (optional_text jwt)
client_data (Request id request) = request_object id (request_data request)

-- ---- what is written is a form of the message, where it has the form that its place allows

abbrev pub RequestReadsBack : WsRequest → Type 0
RequestReadsBack (OpenStream stream) = FitsSigned w32 stream
RequestReadsBack (OnStream stream asked) = FitsSigned w32 stream × AskReadsBack asked
RequestReadsBack (OpenCursor stream cursor batch) = (FitsSigned w32 stream × FitsSigned w32 cursor) × BatchTree batch (batch_data batch)
RequestReadsBack (CloseCursor cursor) = FitsSigned w32 cursor
RequestReadsBack (FetchCursor cursor count) = FitsSigned w32 cursor × (count < 2 ^ 32)
RequestReadsBack (StoreSql id sql) = FitsSigned w32 id
RequestReadsBack (CloseSql id) = FitsSigned w32 id

abbrev pub ClientReadsBack : ClientMsg → Type 0
ClientReadsBack (Hello jwt) = Unit {0}
ClientReadsBack (Request id request) = FitsSigned w32 id × RequestReadsBack request

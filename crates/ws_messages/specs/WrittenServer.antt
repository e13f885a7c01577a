-- The trees that messages of the server are written as.
use Rattle.std.specs.Prelude.{ℤ, codes, FitsSigned}
use Rattle.std.specs.Int.{w32}
use Rattle.serde_json.specs.Data.{Data, string, object, member, no_members}
use Rattle.hrana_stmt.specs.Tree.{WireErrorTree}
use Rattle.hrana_stmt.specs.Written.{error_data}
use Rattle.stream_requests.specs.declared.replies.Reply.{Reply}
use Rattle.stream_requests.specs.Replies.{ReplyReadsBack}
use Rattle.stream_requests.specs.WrittenEntries.{error_object}
use Rattle.stream_requests.specs.WrittenResults.{response_object}
use Rattle.ws_messages.specs.declared.kinds.Kind.{Kind}
use Rattle.ws_messages.specs.declared.messages.ServerMsg.{ServerMsg}
use Rattle.ws_messages.specs.declared.messages.ServerMsg.TheVariants as server
use Rattle.ws_messages.specs.Kinds.{name_of}
use Rattle.ws_messages.specs.WrittenClient.{integer}

abbrev pub response_data : Kind → Reply → Data
response_data k reply = response_object reply (name_of k)

abbrev pub ok_object : ℤ → Data → Data
ok_object id response = object (member (codes "request_id") (integer id) (member (codes "response") response (member (codes "type") (string (codes "response_ok")) no_members)))

abbrev pub refusal_object : ℤ → Data → Data
refusal_object id error = object (member (codes "error") error (member (codes "request_id") (integer id) (member (codes "type") (string (codes "response_error")) no_members)))

abbrev pub server_data : ServerMsg → Data
server_data server.HelloOk = object (member (codes "type") (string (codes "hello_ok")) no_members)
server_data (server.HelloError e) = error_object (codes "hello_error") (error_data e)
server_data (server.Ok id k reply) = ok_object id (response_data k reply)
server_data (server.Error id e) = refusal_object id (error_data e)

-- what is written is a form of the message, where its reply has the form of its kind
abbrev pub ServerReadsBack : ServerMsg → Type 0
ServerReadsBack server.HelloOk = Unit {0}
ServerReadsBack (server.HelloError e) = WireErrorTree e (error_data e)
ServerReadsBack (server.Ok id k reply) = FitsSigned w32 id × ReplyReadsBack reply
ServerReadsBack (server.Error id e) = FitsSigned w32 id × WireErrorTree e (error_data e)

-- Which texts are messages of the server, and which break the protocol or are declined.
use Rattle.std.specs.Prelude.{◌≡◌, ◌⊎◌, ℕ, ℤ, List, Option, None, Some, Result, Ok, Err, codes}
use Rattle.serde_json.specs.Data.{Data}
use Rattle.serde_json.specs.Find.{as_object}
use Rattle.hrana_value.specs.declared.failures.Decline.{Decline}
use Rattle.hrana_value.specs.declared.failures.Decline.TheVariants.{Shape, Float}
use Rattle.hrana_value.specs.Declines.{NoneStands, IsFirst}
use Rattle.hrana_value.specs.Members.{HasText, HasInt32, text_at, part_at}
use Rattle.hrana_stmt.specs.Tree.{WireErrorTree, WireErrorStands}
use Rattle.stream_requests.specs.declared.asks.AskKind.TheVariants as ask
use Rattle.stream_requests.specs.declared.replies.Reply.{Reply}
use Rattle.stream_requests.specs.declared.replies.Reply.TheVariants.{StreamOpened, Execute, Batch, Sequence, Cursor, Fetched, CursorClosed, Autocommit, SqlStored, SqlClosed, Closed, Failed}
use Rattle.stream_requests.specs.Asks.{NothingStands}
use Rattle.stream_requests.specs.Replies.{ReplyMembers, ReplyMembersStand}
use Rattle.stream_requests.specs.JsonTexts.{IsJson, IsNoJson}
use Rattle.ws_messages.specs.declared.kinds.Kind.{Kind}
use Rattle.ws_messages.specs.declared.kinds.Kind.TheVariants as kind
use Rattle.ws_messages.specs.declared.messages.ServerMsg.{ServerMsg}
use Rattle.ws_messages.specs.declared.messages.ServerMsg.TheVariants as server
use Rattle.ws_messages.specs.declared.messages.MsgFail.{MsgFail}
use Rattle.ws_messages.specs.declared.messages.MsgFail.TheVariants.{Violation, Declined}
use Rattle.ws_messages.specs.declared.messages.Why.{Why}
use Rattle.ws_messages.specs.declared.messages.Why.TheVariants.{NotJson, NotObject, NoKind, UnknownKind, BadRequestId, BadReply}
use Rattle.ws_messages.specs.Kinds.{name_of}
use Rattle.ws_messages.specs.Client.{HasNoInt32}

-- ---- responses

-- the kind of request that a reply is the form of; a failure is that of none
abbrev pub reply_kind : Reply → Option Kind
reply_kind StreamOpened = Some kind.OpenStream
reply_kind (Execute r) = Some kind.Execute
reply_kind (Batch r) = Some kind.Batch
reply_kind Sequence = Some kind.Sequence
reply_kind Cursor = Some kind.OpenCursor
reply_kind (Fetched entries done) = Some kind.FetchCursor
reply_kind CursorClosed = Some kind.CloseCursor
reply_kind (Autocommit auto) = Some kind.GetAutocommit
reply_kind SqlStored = Some kind.StoreSql
reply_kind SqlClosed = Some kind.CloseSql
reply_kind Closed = Some kind.CloseStream
reply_kind (Failed e) = None

-- the reply has the form of this kind, and its members stand in the tree
pub record IsReplyOf (k : Kind) (r : Reply) (t : Data) : Type 0 where
  pub form : reply_kind r ≡ Some k
  pub members : ReplyMembers r t

pub record ResponseTree (k : Kind) (r : Reply) (t : Data) : Type 0 where
  pub kind : HasText t (codes "type") (name_of k)
  pub reply : IsReplyOf k r t

-- what stands in the members of a response of this kind
abbrev pub ResponseMembersStand : Kind → Data → Decline → Type 0
ResponseMembersStand kind.OpenStream t = NothingStands
ResponseMembersStand kind.CloseStream t = ReplyMembersStand ask.Close t
ResponseMembersStand kind.Execute t = ReplyMembersStand ask.Execute t
ResponseMembersStand kind.Batch t = ReplyMembersStand ask.Batch t
ResponseMembersStand kind.OpenCursor t = ReplyMembersStand ask.Cursor t
ResponseMembersStand kind.CloseCursor t = ReplyMembersStand ask.CloseCursor t
ResponseMembersStand kind.FetchCursor t = ReplyMembersStand ask.Fetch t
ResponseMembersStand kind.Sequence t = ReplyMembersStand ask.Sequence t
ResponseMembersStand kind.StoreSql t = ReplyMembersStand ask.StoreSql t
ResponseMembersStand kind.CloseSql t = ReplyMembersStand ask.CloseSql t
ResponseMembersStand kind.GetAutocommit t = ReplyMembersStand ask.GetAutocommit t

-- `Shape` stands where the `type` is that of no kind, and else what stands in the members
pub data ResponseStands (t : Data) (d : Decline) : Type 0 where
  no_kind : d ≡ Shape → ((k : Kind) → HasText t (codes "type") (name_of k) → ⊥) → ResponseStands t d
  in_members : (k : Kind) → HasText t (codes "type") (name_of k) → ResponseMembersStand k t d → ResponseStands t d

-- ---- trees

abbrev pub response_of : Data → Data
response_of t = part_at (codes "response") t

abbrev pub error_of : Data → Data
error_of t = part_at (codes "error") t

-- The message may be written as this tree. Members that are not named are ignored.
abbrev pub ServerTree : ServerMsg → Data → Type 0
ServerTree server.HelloOk t = HasText t (codes "type") (codes "hello_ok")
ServerTree (server.HelloError e) t = HasText t (codes "type") (codes "hello_error") × WireErrorTree e (error_of t)
ServerTree (server.Ok id k reply) t = HasText t (codes "type") (codes "response_ok") × HasInt32 t (codes "request_id") id × ResponseTree k reply (response_of t)
ServerTree (server.Error id e) t = HasText t (codes "type") (codes "response_error") × HasInt32 t (codes "request_id") id × WireErrorTree e (error_of t)

abbrev pub IsNumbered : Data → Type 0
IsNumbered t = HasText t (codes "type") (codes "response_ok") ⊎ HasText t (codes "type") (codes "response_error")

-- what stands in the rest of a numbered message
abbrev pub RestStands : Data → Decline → Type 0
RestStands t d = (HasText t (codes "type") (codes "response_ok") × ResponseStands (response_of t) d) ⊎ (HasText t (codes "type") (codes "response_error") × WireErrorStands (error_of t) d)

-- the tree is that of a message with this number, and a float is the first that is declined in its rest
pub record ServerDeclines (t : Data) (id : ℤ) (d : Decline) : Type 0 where
  pub is_float : d ≡ Float
  pub numbered : IsNumbered t
  pub number : HasInt32 t (codes "request_id") id
  pub first : IsFirst (RestStands t) Float

-- the tree is that of no message, but of a `hello_error` or of a message with a number in whose rest a float isn't the
-- first that is declined
pub record IsBadReply (t : Data) : Type 0 where
  pub no_message : (m : ServerMsg) → ServerTree m t → ⊥
  pub kind : HasText t (codes "type") (codes "hello_error") ⊎ (IsNumbered t × ((HasNoInt32 t (codes "request_id")) → ⊥) × (IsFirst (RestStands t) Float → ⊥))

-- the `type` of no message
abbrev pub IsNoServerKind : List ℕ → Type 0
IsNoServerKind s = (s ≡ codes "hello_ok" → ⊥) × (s ≡ codes "hello_error" → ⊥) × (s ≡ codes "response_ok" → ⊥) × (s ≡ codes "response_error" → ⊥)

-- how a tree breaks the protocol
abbrev pub ServerViolates : Data → Why → Type 0
ServerViolates t NotObject = as_object t ≡ None
ServerViolates t NoKind = (as_object t ≡ None → ⊥) × (text_at (codes "type") t ≡ None)
ServerViolates t UnknownKind = (s : List ℕ) × HasText t (codes "type") s × IsNoServerKind s
ServerViolates t BadRequestId = IsNumbered t × HasNoInt32 t (codes "request_id")
ServerViolates t BadReply = IsBadReply t
ServerViolates t why = ⊥

-- the reply of a response has the form of its kind
abbrev pub HasServerForm : ServerMsg → Type 0
HasServerForm (server.Ok id k reply) = reply_kind reply ≡ Some k
HasServerForm m = Unit {0}

-- the message that answers a request with this reply
abbrev pub answering : ℤ → Reply → ServerMsg
answering id (Failed e) = server.Error id e
answering id StreamOpened = server.Ok id kind.OpenStream StreamOpened
answering id (Execute result) = server.Ok id kind.Execute (Execute result)
answering id (Batch result) = server.Ok id kind.Batch (Batch result)
answering id Sequence = server.Ok id kind.Sequence Sequence
answering id Cursor = server.Ok id kind.OpenCursor Cursor
answering id (Fetched entries done) = server.Ok id kind.FetchCursor (Fetched entries done)
answering id CursorClosed = server.Ok id kind.CloseCursor CursorClosed
answering id (Autocommit auto) = server.Ok id kind.GetAutocommit (Autocommit auto)
answering id SqlStored = server.Ok id kind.StoreSql SqlStored
answering id SqlClosed = server.Ok id kind.CloseSql SqlClosed
answering id Closed = server.Ok id kind.CloseStream Closed

-- ---- texts

abbrev pub IsServerText : List ℕ → ServerMsg → Type 0
IsServerText bytes m = (t : Data) × IsJson bytes t × ServerTree m t

abbrev pub IsDeclinedReply : List ℕ → ℤ → Decline → Type 0
IsDeclinedReply bytes id d = (t : Data) × IsJson bytes t × ServerDeclines t id d

-- how the bytes break the protocol
abbrev pub BreaksAsServer : List ℕ → Why → Type 0
BreaksAsServer bytes why = ((why ≡ NotJson) × IsNoJson bytes) ⊎ ((t : Data) × IsJson bytes t × ServerViolates t why)

-- ---- laws

-- a tree is the form of at most one message
abbrev pub NoTreeIsTwoServerMessages : Type 0
NoTreeIsTwoServerMessages = (t : Data) (m n : ServerMsg) → ServerTree m t → ServerTree n t → m ≡ n

-- nothing is declined in the form of a message
abbrev pub ServerMessagesAreRead : Type 0
ServerMessagesAreRead = (m : ServerMsg) (t : Data) → ServerTree m t → NoneStands (RestStands t)

-- what can be said of bytes: that they are a message, that they break the protocol, or that they are declined
pub data ServerAnswer (bytes : List ℕ) : Result ServerMsg MsgFail → Type 0 where
  is_message : (m : ServerMsg) → IsServerText bytes m → ServerAnswer bytes (Ok m)
  breaks : (why : Why) → BreaksAsServer bytes why → ServerAnswer bytes (Err (Violation why))
  is_declined : (id : ℤ) (d : Decline) → IsDeclinedReply bytes id d → ServerAnswer bytes (Err (Declined id d))

-- of any bytes one such thing can be said at most
abbrev pub NoTextHasTwoServerAnswers : Type 0
NoTextHasTwoServerAnswers = (bytes : List ℕ) (a b : Result ServerMsg MsgFail) → ServerAnswer bytes a → ServerAnswer bytes b → a ≡ b

-- Which texts are messages of a client, which break the protocol, and which are declined.
use Rattle.std.specs.Prelude.{◌≡◌, ◌⊎◌, ◌↔◌, ℕ, ℤ, List, None, Result, Ok, Err, codes}
use Rattle.serde_json.specs.Data.{Data, null}
use Rattle.serde_json.specs.Find.{as_object}
use Rattle.hrana_value.specs.declared.failures.Decline.{Decline}
use Rattle.hrana_value.specs.Declines.{NoneStands, IsFirst}
use Rattle.hrana_value.specs.Members.{HasText, HasInt32, text_at, part_at, TextTree}
use Rattle.hrana_value.specs.Trees.{OptionalTree}
use Rattle.stream_requests.specs.JsonTexts.{IsJson, IsNoJson}
use Rattle.ws_messages.specs.declared.messages.ClientMsg.{ClientMsg}
use Rattle.ws_messages.specs.declared.messages.ClientMsg.TheVariants.{Hello, Request}
use Rattle.ws_messages.specs.declared.messages.MsgFail.{MsgFail}
use Rattle.ws_messages.specs.declared.messages.MsgFail.TheVariants.{Violation, Declined}
use Rattle.ws_messages.specs.declared.messages.Why.{Why}
use Rattle.ws_messages.specs.declared.messages.Why.TheVariants.{NotJson, NotObject, NoKind, UnknownKind, BadHello, BadRequestId}
use Rattle.ws_messages.specs.Requests.{IsFormed, RequestTree, RequestStands, RequestFits}

-- ---- trees

-- the request of a numbered message
abbrev pub request_of : Data → Data
request_of t = part_at (codes "request") t

abbrev pub HasNoInt32 : Data → List ℕ → Type 0
HasNoInt32 t name = (z : ℤ) → HasInt32 t name z → ⊥

-- The message may be written as this tree. Members that are not named are ignored.
abbrev pub ClientTree : ClientMsg → Data → Type 0
ClientTree (Hello jwt) t = HasText t (codes "type") (codes "hello") × OptionalTree TextTree jwt (part_at (codes "jwt") t)
ClientTree (Request id request) t = HasText t (codes "type") (codes "request") × HasInt32 t (codes "request_id") id × RequestTree request (request_of t)

-- what stands in the rest of a numbered message
abbrev pub ClientStands : Data → Decline → Type 0
ClientStands t d = HasText t (codes "type") (codes "request") × RequestStands (request_of t) d

-- the tree is that of a message with this number, and this is the first kind that stands in its rest
abbrev pub ClientDeclines : Data → ℤ → Decline → Type 0
ClientDeclines t id d = HasText t (codes "type") (codes "request") × HasInt32 t (codes "request_id") id × IsFirst (RequestStands (request_of t)) d

-- how a tree breaks the protocol
abbrev pub ClientViolates : Data → Why → Type 0
ClientViolates t NotObject = as_object t ≡ None
ClientViolates t NoKind = (as_object t ≡ None → ⊥) × (text_at (codes "type") t ≡ None)
ClientViolates t UnknownKind = (s : List ℕ) × HasText t (codes "type") s × (s ≡ codes "hello" → ⊥) × (s ≡ codes "request" → ⊥)
ClientViolates t BadHello = HasText t (codes "type") (codes "hello") × (part_at (codes "jwt") t ≡ null → ⊥) × (text_at (codes "jwt") t ≡ None)
ClientViolates t BadRequestId = HasText t (codes "type") (codes "request") × HasNoInt32 t (codes "request_id")
ClientViolates t why = ⊥

-- what a stream is asked is what a request may ask it
abbrev pub HasClientForm : ClientMsg → Type 0
HasClientForm (Hello jwt) = Unit {0}
HasClientForm (Request id request) = IsFormed request

-- the message breaks no limit
abbrev pub ClientFits : ClientMsg → Type 0
ClientFits (Hello jwt) = Unit {0}
ClientFits (Request id request) = RequestFits request

-- ---- texts

-- the bytes are a text of the message, and nothing in it is declined
abbrev pub IsClientText : List ℕ → ClientMsg → Type 0
IsClientText bytes m = (t : Data) × IsJson bytes t × ClientTree m t × NoneStands (ClientStands t)

-- the bytes are a numbered message whose rest is declined
abbrev pub IsDeclinedRequest : List ℕ → ℤ → Decline → Type 0
IsDeclinedRequest bytes id d = (t : Data) × IsJson bytes t × ClientDeclines t id d

-- how the bytes break the protocol
abbrev pub BreaksAsClient : List ℕ → Why → Type 0
BreaksAsClient bytes why = ((why ≡ NotJson) × IsNoJson bytes) ⊎ ((t : Data) × IsJson bytes t × ClientViolates t why)

-- ---- laws

-- a tree is the form of at most one message
abbrev pub NoTreeIsTwoClientMessages : Type 0
NoTreeIsTwoClientMessages = (t : Data) (m n : ClientMsg) → ClientTree m t → ClientTree n t → m ≡ n

-- nothing is declined in the form of a message exactly where the message fits
abbrev pub FittingClientMessagesAreRead : Type 0
FittingClientMessagesAreRead = (m : ClientMsg) (t : Data) → ClientTree m t → ClientFits m ↔ NoneStands (ClientStands t)

-- what can be said of bytes: that they are a message, that they break the protocol, or that they are declined
pub data ClientAnswer (bytes : List ℕ) : Result ClientMsg MsgFail → Type 0 where
  is_message : (m : ClientMsg) → IsClientText bytes m → ClientAnswer bytes (Ok m)
  breaks : (why : Why) → BreaksAsClient bytes why → ClientAnswer bytes (Err (Violation why))
  is_declined : (id : ℤ) (d : Decline) → IsDeclinedRequest bytes id d → ClientAnswer bytes (Err (Declined id d))

-- of any bytes one such thing can be said at most
abbrev pub NoTextHasTwoClientAnswers : Type 0
NoTextHasTwoClientAnswers = (bytes : List ℕ) (a b : Result ClientMsg MsgFail) → ClientAnswer bytes a → ClientAnswer bytes b → a ≡ b

-- What a text of a connection does: what is given, and the state then.
use Rattle.std.specs.Prelude.{◌≡◌, ◌⊎◌, ◌+◌, ℕ, ℤ, Bool, true, false, nat_le, cond, length, List, [], ◌∷◌, ◌++◌, Option, None, Some, Result, Ok, Err}
use Rattle.std.specs.Prelude.{bytes_eq}
use Rattle.serde_json.specs.Written.{compact_text}
use Rattle.hrana_value.specs.declared.failures.NoMemory.{NoMemory}
use Rattle.hrana_value.specs.declared.failures.Decline.{Decline}
use Rattle.hrana_stmt.specs.Codes.{error_of}
use Rattle.hrana_stmt.specs.declared.codes.Code.{Code}
use Rattle.hrana_stmt.specs.declared.codes.Code.TheVariants as code
use Rattle.stream_requests.specs.declared.asks.Ask.{Ask}
use Rattle.stream_requests.specs.declared.asks.Ask.TheVariants as ask
use Rattle.stream_requests.specs.declared.replies.Reply.TheVariants as reply
use Rattle.ws_messages.specs.WrittenServer.{server_data}
use Rattle.ws_messages.specs.Server.{answering}
use Rattle.ws_messages.specs.declared.messages.ClientMsg.{ClientMsg}
use Rattle.ws_messages.specs.declared.messages.ClientMsg.TheVariants.{Hello, Request}
use Rattle.ws_messages.specs.declared.messages.MsgFail.{MsgFail}
use Rattle.ws_messages.specs.declared.messages.MsgFail.TheVariants.{Declined}
use Rattle.ws_messages.specs.declared.messages.ServerMsg.{ServerMsg}
use Rattle.ws_messages.specs.declared.messages.ServerMsg.TheVariants as server
use Rattle.ws_messages.specs.declared.messages.WsRequest.{WsRequest}
use Rattle.ws_messages.specs.declared.messages.WsRequest.TheVariants as request
use Rattle.pipeline_body.specs.Exchanges.{code_of_decline}
use Rattle.http_wire.specs.declared.outs.Outs.{Outs}
use Rattle.http_wire.specs.declared.outs.Out.{Out}
use Rattle.http_wire.specs.declared.outs.Out.TheVariants.{Message}
use Rattle.stream_task.specs.Checks.{stored_text}
use Rattle.stream_task.specs.Texts.{is_full, without_text}
use Rattle.stream_task.specs.Polls.{new_task, asked}
use Rattle.stream_task.specs.declared.texts.StoredText.{StoredText}
use Rattle.hrana_hub.specs.declared.limits.TheConstants.{MAX_STREAMS}
use Rattle.hrana_hub.specs.Maps.{at, put, placed, id_at, id_placed, without_id}
use Rattle.txn_table.specs.Turns.{with_place}
use Rattle.stream_task.specs.Together.{numbered}
use Rattle.hrana_hub.specs.State.{Conn, Stream, State, Seen}
use Rattle.hrana_hub.specs.Texts.{put_ask}

-- ---- what is given

abbrev pub nothing : Outs
nothing = record { conn = 0; out = None; close = None }

-- the text of a message
abbrev pub text_of : ServerMsg → List ℕ
text_of message = compact_text (server_data message)

abbrev pub tells : ℕ → ServerMsg → Outs
tells c message = record { conn = c; out = Some (Message (text_of message)); close = None }

abbrev pub refusal : ℤ → Code → ServerMsg
refusal id why = server.Error id (error_of why)

pub record Went : Type 0 where
  pub given : Outs
  pub state : State

abbrev pub quiet : State → Went
quiet s = record { given = nothing; state = s }

abbrev pub saying : ℕ → ServerMsg → State → Went
saying c message s = record { given = tells c message; state = s }

-- ---- connections

abbrev pub with_conn : ℕ → Conn → State → State
with_conn c k s = record s { conns = put c k s.conns }

abbrev pub greeted : Conn → Conn
greeted k = record { greeted = true; closing = k.closing; texts = k.texts; ids = k.ids; streams = k.streams; outstanding = k.outstanding }

abbrev pub shut : Conn → Conn
shut k = record { greeted = k.greeted; closing = true; texts = k.texts; ids = k.ids; streams = k.streams; outstanding = k.outstanding }

abbrev pub with_texts : List StoredText → Conn → Conn
with_texts texts k = record { greeted = k.greeted; closing = k.closing; texts = texts; ids = k.ids; streams = k.streams; outstanding = k.outstanding }

-- the connection is closed with this code, after what it is told
abbrev pub closing : ℕ → Conn → Option Out → ℕ → State → Went
closing c k out code s = record { given = record { conn = c; out = out; close = Some code }; state = with_conn c (shut k) s }

-- no token is required, or it is the one that was given
abbrev pub accepts : Option (List ℕ) → Option (List ℕ) → Bool
accepts None given = true
accepts (Some token) None = false
accepts (Some token) (Some given) = bytes_eq token given

-- each hello is judged, also after one that was accepted
abbrev pub on_hello : Bool → ℕ → Conn → State → Went
on_hello true c k s = saying c server.HelloOk (with_conn c (greeted k) s)
on_hello false c k s = closing c k (Some (Message (text_of (server.HelloError (error_of code.Auth))))) 1000 s

-- ---- streams

-- a stream that opens at this moment
abbrev pub fresh : ℕ → ℕ → ℕ → Stream
fresh now c n = record { conn = c; waits = []; last_answer = now; session = None; task = new_task (numbered n) false }

-- the connection with one more stream
abbrev pub joined : ℤ → ℕ → Conn → Conn
joined id n k = record { greeted = k.greeted; closing = k.closing; texts = k.texts; ids = id_placed id n k.ids; streams = k.streams ++ n ∷ []; outstanding = k.outstanding }

abbrev pub with_stream : ℕ → Conn → ℤ → State → State
with_stream c k id s = record s {
  conns = put c (joined id (s.opened + 1) k) s.conns;
  streams = placed (s.opened + 1) (fresh s.now c (s.opened + 1)) s.streams;
  opened = s.opened + 1;
}

abbrev pub opens_unless : Bool → ℕ → Conn → ℤ → ℤ → State → Went
opens_unless true c k id stream s = saying c (refusal id code.TooManyStreams) s
opens_unless false c k id stream s = saying c (answering id reply.StreamOpened) (with_stream c k stream s)

abbrev pub opens : Option ℕ → ℕ → Conn → ℤ → ℤ → State → Went
opens (Some n) c k id stream s = saying c (refusal id code.StreamExists) s
opens None c k id stream s = opens_unless (nat_le MAX_STREAMS (length k.streams)) c k id stream s

-- ---- what is asked of a stream

abbrev pub is_close : Ask → Bool
is_close ask.Close = true
is_close other = false

-- to close a stream that isn't open is answered at once
abbrev pub unopened : ℕ → ℤ → Ask → State → Went
unopened c id ask.Close s = saying c (answering id reply.Closed) s
unopened c id other s = saying c (refusal id code.StreamNotOpen) s

-- the stream with one more request
abbrev pub waiting : ℤ → Ask → Stream → Stream
waiting id what x = record x { waits = x.waits ++ id ∷ []; task = asked x.task what }

-- the connection with one more request that waits. A close that arrived frees the id.
abbrev pub waited : ℤ → Bool → Conn → Conn
waited stream closes k = record { greeted = k.greeted; closing = k.closing; texts = k.texts; ids = cond closes (without_id stream k.ids) k.ids; streams = k.streams; outstanding = k.outstanding + 1 }

abbrev pub with_request : ℕ → Conn → ℤ → ℕ → Stream → ℤ → Ask → State → State
with_request c k stream n x id what s = record s {
  conns = put c (waited stream (is_close what) k) s.conns;
  streams = put n (waiting id what x) s.streams;
}

abbrev pub queues : Option Ask → ℕ → Conn → ℤ → ℕ → Stream → ℤ → State → Went
queues None c k stream n x id s = saying c (refusal id code.NoSqlId) s
queues (Some what) c k stream n x id s = quiet (with_request c k stream n x id what s)

abbrev pub asks_at : ℕ → Option Stream → ℕ → Conn → ℤ → ℤ → Ask → State → Went
asks_at n None c k stream id what s = unopened c id what s
asks_at n (Some x) c k stream id what s = queues (put_ask k.texts what) c k stream n x id s

abbrev pub asks : Option ℕ → ℕ → Conn → ℤ → ℤ → Ask → State → Went
asks None c k stream id what s = unopened c id what s
asks (Some n) c k stream id what s = asks_at n (at n s.streams) c k stream id what s

-- ---- stored texts

abbrev pub stores_unless : Bool → ℕ → Conn → ℤ → ℤ → List ℕ → State → Went
stores_unless true c k id number sql s = saying c (refusal id code.TooManyTexts) s
stores_unless false c k id number sql s = saying c (answering id reply.SqlStored) (with_conn c (with_texts (k.texts ++ record { id = number; sql = sql } ∷ []) k) s)

abbrev pub stores : Option (List ℕ) → ℕ → Conn → ℤ → ℤ → List ℕ → State → Went
stores (Some text) c k id number sql s = saying c (refusal id code.SqlIdInUse) s
stores None c k id number sql s = stores_unless (is_full k.texts sql) c k id number sql s

-- ---- requests

abbrev pub on_request : ℕ → Conn → ℤ → WsRequest → State → Went
on_request c k id (request.OpenStream stream) s = opens (id_at stream k.ids) c k id stream s
on_request c k id (request.OnStream stream what) s = asks (id_at stream k.ids) c k stream id what s
on_request c k id (request.StoreSql number sql) s = stores (stored_text number k.texts) c k id number sql s
on_request c k id (request.CloseSql number) s = saying c (answering id reply.SqlClosed) (with_conn c (with_texts (without_text number k.texts) k) s)
-- cursors aren't served yet
on_request c k id other s = saying c (refusal id code.UnknownRequest) s

-- what the rest of a numbered message does, which is a request or is declined
abbrev pub on_numbered : ℕ → Conn → ℤ → Result WsRequest Decline → State → Went
on_numbered c k id (Ok asked) s = on_request c k id asked s
on_numbered c k id (Err why) s = saying c (refusal id (code_of_decline why)) s

-- a request before an accepted hello breaks the protocol
abbrev pub if_greeted : ℕ → Conn → Went → State → Went
if_greeted c k went s = cond k.greeted went (closing c k None 1002 s)

-- what the text of a connection that isn't closing does, by what it is
abbrev pub on_answer : Option (List ℕ) → ℕ → Conn → Result ClientMsg MsgFail → State → Went
on_answer token c k (Ok (Hello jwt)) s = on_hello (accepts token jwt) c k s
on_answer token c k (Ok (Request id asked)) s = if_greeted c k (on_numbered c k id (Ok asked) s) s
on_answer token c k (Err (Declined id why)) s = if_greeted c k (on_numbered c k id (Err why) s) s
on_answer token c k (Err violation) s = closing c k None 1002 s

-- ---- what a call that brings a text leaves

-- a place in the table of turns may have been made for the stream that opens next
abbrev pub TurnsStay : Seen → Seen → Type 0
TurnsStay old new = ((new.turns ≡ old.turns) × (new.state.opened ≡ old.state.opened)) ⊎ (new.turns ≡ with_place old.turns (numbered (old.state.opened + 1)))

pub record IsAfter (s : State) (old new : Seen) : Type 0 where
  pub state : new.state ≡ s
  pub token : new.token ≡ old.token
  pub noted : new.noted ≡ old.noted
  pub store : new.store ≡ old.store
  pub turns : TurnsStay old new

-- it went so, or there was no memory, and the state is as it was
abbrev pub Arrives : Went → Result Outs NoMemory → Seen → Seen → Type 0
Arrives went (Ok out) old new = (out ≡ went.given) × IsAfter went.state old new
Arrives went (Err short) old new = IsAfter old.state old new

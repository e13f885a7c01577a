-- What is written for a message of a client is a form of it, and is not too deep to be read.
use Rattle.std.proofs.Common.{◌≡◌, ℕ, ℤ, ◌≤◌, List, Some, codes, refl, subst, sym, arith}
use Rattle.std.specs.Prelude.{FitsSigned, IsUtf8, Result, Ok, Err, IfOk, OnOk}
use Rattle.std.specs.Int.{w32}
use Rattle.serde_json.specs.Data.{Data, object, depth, members_depth}
use Rattle.serde_json.specs.Read.{read, max_depth}
use Rattle.hrana_value.specs.Members.{HasText, HasInt32, part_at}
use Rattle.hrana_value.specs.declared.failures.NoMemory.{NoMemory}
use Rattle.hrana_stmt.specs.declared.statements.SqlRef.TheVariants as sql
use Rattle.hrana_stmt.proofs.Depths.{depth-stmt_data, depth-optional_text}
use Rattle.hrana_stmt.proofs.WrittenLemmas.{optional_text_back}
use Rattle.hrana_batch.proofs.Depths.{depth-batch_data}
use Rattle.stream_requests.specs.declared.asks.Ask.{Ask}
use Rattle.stream_requests.specs.declared.asks.Ask.TheVariants.{Execute, Batch, Sequence, Cursor, GetAutocommit, Close}
use Rattle.stream_requests.specs.Asks.{ask_kind, AskMembers, AskFits, AskReadsBack, ask_front}
use Rattle.stream_requests.proofs.AskWritten.{int32_back}
use Rattle.ws_messages.specs.declared.messages.WsRequest.{WsRequest}
use Rattle.ws_messages.specs.declared.messages.WsRequest.TheVariants.{OpenStream, OnStream, OpenCursor, CloseCursor, FetchCursor, StoreSql, CloseSql}
use Rattle.ws_messages.specs.declared.messages.ClientMsg.{ClientMsg}
use Rattle.ws_messages.specs.declared.messages.ClientMsg.TheVariants.{Hello, Request}
use Rattle.ws_messages.specs.declared.kinds.Kind.{Kind}
use Rattle.ws_messages.specs.Kinds.{name_of, kind_of, IsStreamAsk}
use Rattle.ws_messages.specs.Requests.{RequestMembers, RequestTree, RequestFits, IsFormed}
use Rattle.ws_messages.specs.Client.{request_of, ClientTree, HasClientForm, ClientFits, IsClientText, FittingClientMessagesAreRead}
use Rattle.ws_messages.specs.WrittenClient.{on_stream, request_data, client_data, RequestReadsBack, ClientReadsBack}

-- ---- forms

ask_back : (a : Ask) (stream : ℤ) (k : Kind) → IsStreamAsk (ask_kind a) → AskReadsBack a → AskMembers a (object (ask_front a (on_stream stream k)))
ask_back (Execute stmt) stream k formed h = h
ask_back (Batch batch) stream k formed h = h
ask_back (Sequence (sql.Text s)) stream k formed h = (refl, refl)
ask_back (Sequence (sql.Id z)) stream k formed h = (int32_back z h, refl)
ask_back GetAutocommit stream k formed h = tt
ask_back Close stream k formed h = tt
ask_back a stream k formed h = absurd formed

stream_back : (a : Ask) (stream : ℤ) (k : Kind) → IsStreamAsk (ask_kind a) → FitsSigned w32 stream → HasInt32 (object (ask_front a (on_stream stream k))) (codes "stream_id") stream
stream_back (Execute stmt) stream k formed h = int32_back stream h
stream_back (Batch batch) stream k formed h = int32_back stream h
stream_back (Sequence (sql.Text s)) stream k formed h = int32_back stream h
stream_back (Sequence (sql.Id z)) stream k formed h = int32_back stream h
stream_back GetAutocommit stream k formed h = int32_back stream h
stream_back Close stream k formed h = int32_back stream h
stream_back a stream k formed h = absurd formed

kind_back : (a : Ask) (stream : ℤ) (k : Kind) → IsStreamAsk (ask_kind a) → HasText (object (ask_front a (on_stream stream k))) (codes "type") (name_of k)
kind_back (Execute stmt) stream k formed = refl
kind_back (Batch batch) stream k formed = refl
kind_back (Sequence (sql.Text s)) stream k formed = refl
kind_back (Sequence (sql.Id z)) stream k formed = refl
kind_back GetAutocommit stream k formed = refl
kind_back Close stream k formed = refl
kind_back a stream k formed = absurd formed

request_back : (r : WsRequest) → IsFormed r → RequestReadsBack r → RequestTree r (request_data r)
request_back (OpenStream stream) formed h = record { formed = tt; kind = refl; members = int32_back stream h }
request_back (OnStream stream a) formed h =
    let k = kind_of (ask_kind a) in record { formed = formed; kind = kind_back a stream k formed; members = (stream_back a stream k formed h.0, ask_back a stream k formed h.1) }
request_back (OpenCursor stream cursor batch) formed h = record { formed = tt; kind = refl; members = ((int32_back stream h.0.0, int32_back cursor h.0.1), h.1) }
request_back (CloseCursor cursor) formed h = record { formed = tt; kind = refl; members = int32_back cursor h }
request_back (FetchCursor cursor count) formed h = record { formed = tt; kind = refl; members = (int32_back cursor h.0, record { is = refl; fits = h.1 }) }
request_back (StoreSql id text) formed h = record { formed = tt; kind = refl; members = (int32_back id h, refl) }
request_back (CloseSql id) formed h = record { formed = tt; kind = refl; members = int32_back id h }

pub client_back : (m : ClientMsg) → HasClientForm m → ClientReadsBack m → ClientTree m (client_data m)
client_back (Hello jwt) formed h = (refl, optional_text_back jwt)
client_back (Request id r) formed h = (refl, int32_back id h.0, request_back r formed h.1)

-- ---- depth

depth_asked : (a : Ask) (stream : ℤ) (k : Kind) (t : Data) → AskMembers a t → AskFits a → members_depth (ask_front a (on_stream stream k)) ≤ 70
depth_asked (Execute stmt) stream k t h fits = omega (arith, depth-stmt_data stmt)
depth_asked (Batch batch) stream k t h fits = omega (arith, depth-batch_data batch (part_at (codes "batch") t) h fits)
depth_asked (Sequence (sql.Text s)) stream k t h fits = omega arith
depth_asked (Sequence (sql.Id z)) stream k t h fits = omega arith
depth_asked (Cursor batch) stream k t h fits = omega (arith, depth-batch_data batch (part_at (codes "batch") t) h fits)
depth_asked a stream k t h fits = omega arith

depth_request : (r : WsRequest) (t : Data) → RequestMembers r t → RequestFits r → depth (request_data r) ≤ 71
depth_request (OpenStream stream) t h fits = omega arith
depth_request (OnStream stream a) t h fits = omega (arith, depth_asked a stream (kind_of (ask_kind a)) t h.1 fits)
depth_request (OpenCursor stream cursor batch) t h fits = omega (arith, depth-batch_data batch (part_at (codes "batch") t) h.1 fits)
depth_request (CloseCursor cursor) t h fits = omega arith
depth_request (FetchCursor cursor count) t h fits = omega arith
depth_request (StoreSql id text) t h fits = omega arith
depth_request (CloseSql id) t h fits = omega arith

depth-client_data : (m : ClientMsg) (t : Data) → ClientTree m t → ClientFits m → depth (client_data m) ≤ 72
depth-client_data (Hello jwt) t h fits = omega (arith, depth-optional_text jwt)
depth-client_data (Request id r) t h fits = let deep = depth_request r (request_of t) h.2.members fits in omega (arith, deep)

-- ---- the text

pub numbered_back : (m : ClientMsg) (id : ℤ) (r : WsRequest) → m ≡ Request id r → FitsSigned w32 id → RequestReadsBack r → ClientReadsBack m
numbered_back m id r is fits back = subst ClientReadsBack (sym is) (fits, back)

pub encoded : FittingClientMessagesAreRead → (m : ClientMsg) (r : Result (List ℕ) NoMemory) → HasClientForm m → IfOk r IsUtf8 → IfOk r (λ text. depth (client_data m) ≤ max_depth → read text ≡ Some (client_data m)) → OnOk r (HasClientForm m → ClientTree m (client_data m))
    → IfOk r (λ text. ClientFits m → IsClientText text m)
encoded are_read m (Ok text) formed utf8 is back = λ fits.
    let tree = back formed in let deep = depth-client_data m (client_data m) tree fits in (client_data m, (utf8, is (omega (arith, deep))), tree, (are_read m (client_data m) tree).0 fits)
encoded are_read m (Err e) formed utf8 is back = tt

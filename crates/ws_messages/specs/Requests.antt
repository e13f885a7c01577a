-- Which JSON trees a request may be written as, and which declines stand in a tree that should be one.
use Rattle.std.specs.Prelude.{◌≡◌, ◌↔◌, ℕ, ◌≤◌, List, length, None, codes}
use Rattle.serde_json.specs.Data.{Data}
use Rattle.hrana_value.specs.declared.failures.Decline.{Decline}
use Rattle.hrana_value.specs.declared.failures.Decline.TheVariants.{Unknown, Describe, Shape}
use Rattle.hrana_value.specs.Declines.{NoneStands, EitherStands}
use Rattle.hrana_value.specs.Members.{HasText, HasInt32, text_at, part_at, Int32Stands, Uint32Tree, Uint32Stands}
use Rattle.hrana_stmt.specs.declared.limits.TheConstants.{MAX_SQL_BYTES}
use Rattle.hrana_batch.specs.Tree.{BatchTree, BatchStands, BatchFits}
use Rattle.stream_requests.specs.declared.asks.AskKind.{AskKind}
use Rattle.stream_requests.specs.declared.asks.AskKind.TheVariants as ask
use Rattle.stream_requests.specs.Asks.{ask_kind, AskMembers, AskMembersStand, AskFits}
use Rattle.ws_messages.specs.declared.messages.WsRequest.{WsRequest}
use Rattle.ws_messages.specs.declared.messages.WsRequest.TheVariants.{OpenStream, OnStream, OpenCursor, CloseCursor, FetchCursor, StoreSql, CloseSql}
use Rattle.ws_messages.specs.declared.kinds.Kind.{Kind}
use Rattle.ws_messages.specs.declared.kinds.Kind.TheVariants as kind
use Rattle.ws_messages.specs.Kinds.{name_of, kind_of, IsStreamAsk}

abbrev pub request_kind : WsRequest → Kind
request_kind (OpenStream stream) = kind.OpenStream
request_kind (OnStream stream asked) = kind_of (ask_kind asked)
request_kind (OpenCursor stream cursor batch) = kind.OpenCursor
request_kind (CloseCursor cursor) = kind.CloseCursor
request_kind (FetchCursor cursor count) = kind.FetchCursor
request_kind (StoreSql id sql) = kind.StoreSql
request_kind (CloseSql id) = kind.CloseSql

-- what a stream is asked is a statement, a batch, a sequence, whether it is in autocommit, or to close
abbrev pub IsFormed : WsRequest → Type 0
IsFormed (OnStream stream asked) = IsStreamAsk (ask_kind asked)
IsFormed r = Unit {0}

-- the members of a request besides its `type`
abbrev pub RequestMembers : WsRequest → Data → Type 0
RequestMembers (OpenStream stream) t = HasInt32 t (codes "stream_id") stream
RequestMembers (OnStream stream asked) t = HasInt32 t (codes "stream_id") stream × AskMembers asked t
RequestMembers (OpenCursor stream cursor batch) t = (HasInt32 t (codes "stream_id") stream × HasInt32 t (codes "cursor_id") cursor) × BatchTree batch (part_at (codes "batch") t)
RequestMembers (CloseCursor cursor) t = HasInt32 t (codes "cursor_id") cursor
RequestMembers (FetchCursor cursor count) t = HasInt32 t (codes "cursor_id") cursor × Uint32Tree count (part_at (codes "max_count") t)
RequestMembers (StoreSql id sql) t = HasInt32 t (codes "sql_id") id × HasText t (codes "sql") sql
RequestMembers (CloseSql id) t = HasInt32 t (codes "sql_id") id

-- the request is of this kind, and its members stand in the tree
pub record IsRequestOf (k : Kind) (r : WsRequest) (t : Data) : Type 0 where
  pub formed : IsFormed r
  pub kind : request_kind r ≡ k
  pub members : RequestMembers r t

pub record RequestTree (r : WsRequest) (t : Data) : Type 0 where
  pub formed : IsFormed r
  pub kind : HasText t (codes "type") (name_of (request_kind r))
  pub members : RequestMembers r t

abbrev pub StreamStands : Data → Decline → Type 0
StreamStands t = Int32Stands (part_at (codes "stream_id") t)

abbrev pub CursorStands : Data → Decline → Type 0
CursorStands t = Int32Stands (part_at (codes "cursor_id") t)

-- what stands in the members of a request that asks a stream
abbrev pub OnStreamStands : AskKind → Data → Decline → Type 0
OnStreamStands k t = EitherStands (StreamStands t) (AskMembersStand k t)

-- what stands in the members of a request of this kind
abbrev pub RequestMembersStand : Kind → Data → Decline → Type 0
RequestMembersStand kind.OpenStream t = StreamStands t
RequestMembersStand kind.CloseStream t = OnStreamStands ask.Close t
RequestMembersStand kind.Execute t = OnStreamStands ask.Execute t
RequestMembersStand kind.Batch t = OnStreamStands ask.Batch t
RequestMembersStand kind.OpenCursor t = EitherStands (EitherStands (StreamStands t) (CursorStands t)) (BatchStands (part_at (codes "batch") t))
RequestMembersStand kind.CloseCursor t = CursorStands t
RequestMembersStand kind.FetchCursor t = EitherStands (CursorStands t) (Uint32Stands (part_at (codes "max_count") t))
RequestMembersStand kind.Sequence t = OnStreamStands ask.Sequence t
RequestMembersStand kind.StoreSql t = AskMembersStand ask.StoreSql t
RequestMembersStand kind.CloseSql t = AskMembersStand ask.CloseSql t
RequestMembersStand kind.GetAutocommit t = OnStreamStands ask.GetAutocommit t

-- What stands in a request: `Shape` where it has no `type` that is a string, `Describe` and `Unknown` by its `type` alone,
-- and else what stands in the members that its kind has.
pub data RequestStands (t : Data) (d : Decline) : Type 0 where
  no_kind : d ≡ Shape → text_at (codes "type") t ≡ None → RequestStands t d
  is_describe : d ≡ Describe → HasText t (codes "type") (codes "describe") → RequestStands t d
  other_kind : (s : List ℕ) → d ≡ Unknown → HasText t (codes "type") s → (s ≡ codes "describe" → ⊥) → ((k : Kind) → name_of k ≡ s → ⊥) → RequestStands t d
  in_members : (k : Kind) → HasText t (codes "type") (name_of k) → RequestMembersStand k t d → RequestStands t d

-- the request breaks no limit
abbrev pub RequestFits : WsRequest → Type 0
RequestFits (OnStream stream asked) = AskFits asked
RequestFits (OpenCursor stream cursor batch) = BatchFits batch
RequestFits (StoreSql id sql) = length sql ≤ MAX_SQL_BYTES
RequestFits r = Unit {0}

-- ---- laws

-- a tree is the form of at most one request
abbrev pub NoTreeIsTwoRequests : Type 0
NoTreeIsTwoRequests = (t : Data) (r s : WsRequest) → RequestTree r t → RequestTree s t → r ≡ s

-- nothing is declined in the form of a request exactly where the request breaks no limit
abbrev pub FittingRequestsAreRead : Type 0
FittingRequestsAreRead = (r : WsRequest) (t : Data) → RequestTree r t → RequestFits r ↔ NoneStands (RequestStands t)

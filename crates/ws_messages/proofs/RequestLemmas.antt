-- A tree is one of at most one request, is read where the request breaks no limit, and what the readers of requests answer.
use Rattle.std.proofs.Common.{◌≡◌, inr, ℕ, ℤ, ◌<◌, List, codes, refl, subst, sym, ap, ◌∙◌, arith}
use Rattle.std.specs.Prelude.{Result, Err, FitsSigned}
use Rattle.std.specs.Int.{w32, cast_signed, cast_unsigned}
use Rattle.std.proofs.lemmas.Int.{to_z-of_z}
use Rattle.serde_json.specs.Data.{Data}
use Rattle.hrana_value.specs.declared.failures.Decline.{Decline}
use Rattle.hrana_value.specs.declared.failures.Decline.TheVariants.{Unknown}
use Rattle.hrana_value.specs.declared.failures.ReadFail.{ReadFail}
use Rattle.hrana_value.specs.declared.failures.ReadFail.TheVariants.{Declined}
use Rattle.hrana_value.specs.Declines.{rank_of, Reads, NoneStands, EitherStands}
use Rattle.hrana_value.specs.Members.{HasText, text_at, part_at, Uint32Stands}
use Rattle.hrana_value.proofs.TextLemmas.{one, apart}
use Rattle.hrana_value.proofs.DeclineLemmas.{Reads-weaken, Reads-same, Reads-declined, NoneStands-parts}
use Rattle.hrana_batch.specs.Tree.{BatchStands, NoTreeIsTwoBatches, FittingBatchesAreRead}
use Rattle.stream_requests.specs.declared.asks.Ask.{Ask}
use Rattle.stream_requests.specs.declared.asks.Ask.TheVariants as asks
use Rattle.stream_requests.specs.declared.asks.AskKind.{AskKind}
use Rattle.stream_requests.specs.declared.asks.AskKind.TheVariants as ask
use Rattle.stream_requests.specs.Asks.{ask_kind, AskMembersStand, NoMembersAreTwoAsks, FittingAsksAreRead}
use Rattle.stream_requests.proofs.AskLemmas.{int32_one, int32_none}
use Rattle.stream_requests.proofs.EntryLemmas.{uint32_one, uint32_none}
use Rattle.ws_messages.specs.declared.messages.WsRequest.{WsRequest}
use Rattle.ws_messages.specs.declared.messages.WsRequest.TheVariants.{OpenStream, OnStream, OpenCursor, CloseCursor, FetchCursor, StoreSql, CloseSql}
use Rattle.ws_messages.specs.declared.kinds.Kind.{Kind}
use Rattle.ws_messages.specs.Kinds.{name_of, kind_of, IsStreamAsk}
use Rattle.ws_messages.specs.Requests.{request_kind, IsFormed, RequestMembers, IsRequestOf, RequestTree, StreamStands, CursorStands, OnStreamStands, RequestMembersStand, RequestStands, no_kind, is_describe, other_kind, in_members, RequestFits, NoTreeIsTwoRequests, FittingRequestsAreRead}
use Rattle.ws_messages.proofs.KindLemmas.{name_of-one, not_describe, kind_of-one, IsStreamKind, kind_of-stream}

-- ---- at most one request

same_kind : (t : Data) (k l : Kind) → HasText t (codes "type") (name_of k) → HasText t (codes "type") (name_of l) → k ≡ l
same_kind t k l p q = name_of-one k l (one _ _ _ p q)

stream_only : (t : Data) (a : Ask) (k : Kind) → IsStreamAsk (ask_kind a) → HasText t (codes "type") (name_of (kind_of (ask_kind a))) → HasText t (codes "type") (name_of k) → IsStreamKind k
stream_only t a k formed p q = subst IsStreamKind (same_kind t (kind_of (ask_kind a)) k p q) (kind_of-stream (ask_kind a) formed)

pub RequestTree-one : NoTreeIsTwoBatches → NoMembersAreTwoAsks → NoTreeIsTwoRequests
RequestTree-one batches laws t (OnStream stream a) (OnStream stream' b) p q =
    let same : ask_kind a ≡ ask_kind b = kind_of-one (ask_kind a) (ask_kind b) (same_kind t _ _ p.kind q.kind) in
    ap (λ z. OnStream z a) (int32_one _ stream stream' p.members.0 q.members.0) ∙ ap (OnStream stream') (laws t a b same p.members.1 q.members.1)
RequestTree-one batches laws t (OnStream stream a) s p q = absurd (stream_only t a (request_kind s) p.formed p.kind q.kind)
RequestTree-one batches laws t r (OnStream stream b) p q = absurd (stream_only t b (request_kind r) q.formed q.kind p.kind)
RequestTree-one batches laws t (OpenStream stream) (OpenStream stream') p q = ap OpenStream (int32_one _ stream stream' p.members q.members)
RequestTree-one batches laws t (OpenCursor stream cursor batch) (OpenCursor stream' cursor' batch') p q =
    ap (λ z. OpenCursor z cursor batch) (int32_one _ stream stream' p.members.0.0 q.members.0.0) ∙ ap (λ z. OpenCursor stream' z batch) (int32_one _ cursor cursor' p.members.0.1 q.members.0.1)
    ∙ ap (OpenCursor stream' cursor') (batches (part_at (codes "batch") t) batch batch' p.members.1 q.members.1)
RequestTree-one batches laws t (CloseCursor cursor) (CloseCursor cursor') p q = ap CloseCursor (int32_one _ cursor cursor' p.members q.members)
RequestTree-one batches laws t (FetchCursor cursor count) (FetchCursor cursor' count') p q =
    ap (λ z. FetchCursor z count) (int32_one _ cursor cursor' p.members.0 q.members.0) ∙ ap (FetchCursor cursor') (uint32_one _ count count' p.members.1 q.members.1)
RequestTree-one batches laws t (StoreSql id sql) (StoreSql id' sql') p q =
    ap (λ z. StoreSql z sql) (int32_one _ id id' p.members.0 q.members.0) ∙ ap (StoreSql id') (one (text_at (codes "sql") t) sql sql' p.members.1 q.members.1)
RequestTree-one batches laws t (CloseSql id) (CloseSql id') p q = ap CloseSql (int32_one _ id id' p.members q.members)
RequestTree-one batches laws t r s p q = absurd (apart _ _ _ refl p.kind q.kind)

-- ---- what stands in a request of a kind

pub of_kind : (k : Kind) (t : Data) (d : Decline) → HasText t (codes "type") (name_of k) → RequestStands t d → RequestMembersStand k t d
of_kind k t d is (no_kind shape none) = cc (sym is ∙ none)
of_kind k t d is (is_describe e named) = absurd (not_describe k (one _ _ _ is named))
of_kind k t d is (other_kind s e named other none) = absurd (none k (one _ _ _ is named))
of_kind k t d is (in_members l named members) = subst (λ j. RequestMembersStand j t d) (name_of-one l k (one _ _ _ named is)) members

to_stream : (k : AskKind) (t : Data) (d : Decline) → IsStreamAsk k → RequestMembersStand (kind_of k) t d → OnStreamStands k t d
to_stream ask.Execute t d h here = here
to_stream ask.Batch t d h here = here
to_stream ask.Sequence t d h here = here
to_stream ask.GetAutocommit t d h here = here
to_stream ask.Close t d h here = here
to_stream k t d h here = absurd h

of_stream : (k : AskKind) (t : Data) (d : Decline) → IsStreamAsk k → OnStreamStands k t d → RequestMembersStand (kind_of k) t d
of_stream ask.Execute t d h here = here
of_stream ask.Batch t d h here = here
of_stream ask.Sequence t d h here = here
of_stream ask.GetAutocommit t d h here = here
of_stream ask.Close t d h here = here
of_stream k t d h here = absurd h

-- ---- requests are read

members_none : FittingBatchesAreRead → FittingAsksAreRead → (r : WsRequest) (t : Data) → IsFormed r → RequestMembers r t → RequestFits r → NoneStands (RequestMembersStand (request_kind r) t)
members_none batches laws (OpenStream stream) t formed p fits = int32_none stream _ p
members_none batches laws (OnStream stream a) t formed p fits =
    λ d here. NoneStands-parts (StreamStands t) (AskMembersStand (ask_kind a) t) (int32_none stream _ p.0) ((laws a t p.1).0 fits) d (to_stream (ask_kind a) t d formed here)
members_none batches laws (OpenCursor stream cursor batch) t formed p fits =
    NoneStands-parts (EitherStands (StreamStands t) (CursorStands t)) (BatchStands (part_at (codes "batch") t))
    (NoneStands-parts (StreamStands t) (CursorStands t) (int32_none stream _ p.0.0) (int32_none cursor _ p.0.1)) ((batches batch (part_at (codes "batch") t) p.1).0 fits)
members_none batches laws (CloseCursor cursor) t formed p fits = int32_none cursor _ p
members_none batches laws (FetchCursor cursor count) t formed p fits =
    NoneStands-parts (CursorStands t) (Uint32Stands (part_at (codes "max_count") t)) (int32_none cursor _ p.0) (uint32_none count _ p.1)
members_none batches laws (StoreSql id sql) t formed p fits = (laws (asks.StoreSql id sql) t p).0 fits
members_none batches laws (CloseSql id) t formed p fits = int32_none id _ p

members_fit : FittingBatchesAreRead → FittingAsksAreRead → (r : WsRequest) (t : Data) → IsFormed r → RequestMembers r t → NoneStands (RequestMembersStand (request_kind r) t) → RequestFits r
members_fit batches laws (OpenStream stream) t formed p none = tt
members_fit batches laws (OnStream stream a) t formed p none = (laws a t p.1).1 (λ d here. none d (of_stream (ask_kind a) t d formed (inr here)))
members_fit batches laws (OpenCursor stream cursor batch) t formed p none = (batches batch (part_at (codes "batch") t) p.1).1 (λ d here. none d (inr here))
members_fit batches laws (CloseCursor cursor) t formed p none = tt
members_fit batches laws (FetchCursor cursor count) t formed p none = tt
members_fit batches laws (StoreSql id sql) t formed p none = (laws (asks.StoreSql id sql) t p).1 none
members_fit batches laws (CloseSql id) t formed p none = tt

pub RequestTree-fits : FittingBatchesAreRead → FittingAsksAreRead → FittingRequestsAreRead
RequestTree-fits batches laws r t p = (
  λ fits d here. members_none batches laws r t p.formed p.members fits d (of_kind (request_kind r) t d p.kind here),
  λ none. members_fit batches laws r t p.formed p.members (λ d here. none d (in_members (request_kind r) p.kind here)),
)

-- ---- readings

pub request_read : (k : Kind) (t : Data) (r : Result WsRequest ReadFail) → HasText t (codes "type") (name_of k) → Reads (λ x. IsRequestOf k x t) (RequestMembersStand k t) r → Reads (λ x. RequestTree x t) (RequestStands t) r
request_read k t r is reads =
    Reads-weaken (λ x. IsRequestOf k x t) (λ x. RequestTree x t) (RequestStands t) r
    (λ x h. record { formed = h.formed; kind = subst (λ j. HasText t (codes "type") (name_of j)) (sym h.kind) is; members = h.members })
    (Reads-same (λ x. IsRequestOf k x t) (RequestMembersStand k t) (RequestStands t) r (λ d here. in_members k is here) (λ d here. of_kind k t d is here) reads)

none_below : (k : Decline) → rank_of k < rank_of Unknown → ⊥
none_below k h = omega arith

pub unknown_read : (t : Data) (s : List ℕ) → HasText t (codes "type") s → (s ≡ codes "describe" → ⊥) → ((k : Kind) → name_of k ≡ s → ⊥) → Reads (λ x. RequestTree x t) (RequestStands t) (Err (Declined Unknown))
unknown_read t s is other none = Reads-declined Unknown (record { stands_itself = other_kind s refl is other none; none_before = λ e less here. none_below e less })

-- two numbers of 32 bits as they are handed on
pub two_ids : (P : ℤ → ℤ → Type 0) (y z : ℤ) → FitsSigned w32 y → FitsSigned w32 z → P y z → P (cast_signed w32 (cast_unsigned w32 y)) (cast_signed w32 (cast_unsigned w32 z))
two_ids P y z p q h =
    subst (λ a. P a (cast_signed w32 (cast_unsigned w32 z))) (sym (to_z-of_z w32 y p)) (subst (P y) (sym (to_z-of_z w32 z q)) h)

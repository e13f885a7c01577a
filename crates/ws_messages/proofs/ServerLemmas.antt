-- Laws of the server's messages, and what is answered where the rest of one could not be read.
use Rattle.std.proofs.Common.{◌≡◌, inl, inr, ◌<◌, ℤ, Some, Result, codes, refl, subst, sym, ap, ◌∙◌, arith}
use Rattle.serde_json.specs.Data.{Data}
use Rattle.hrana_value.specs.declared.failures.Decline.{Decline}
use Rattle.hrana_value.specs.declared.failures.Decline.TheVariants.{Unknown, Describe, Shape, BothSql, BadStep, Range, Float}
use Rattle.hrana_value.specs.declared.failures.ReadFail.{ReadFail}
use Rattle.hrana_value.specs.declared.failures.ReadFail.TheVariants as reading
use Rattle.hrana_value.specs.Declines.{rank_of, Reads, NoneStands, IsFirst, IsDeclinedAs}
use Rattle.hrana_value.specs.Members.{HasText, HasInt32}
use Rattle.hrana_value.proofs.TextLemmas.{one, apart}
use Rattle.hrana_value.proofs.DeclineLemmas.{Reads-weaken, Reads-same, IsFirst-same}
use Rattle.hrana_stmt.proofs.ResultReadings.{WireErrorTree-one, WireErrorTree-none}
use Rattle.stream_requests.specs.declared.asks.AskKind.{AskKind}
use Rattle.stream_requests.specs.declared.asks.AskKind.TheVariants as ask
use Rattle.stream_requests.specs.declared.replies.Reply.{Reply}
use Rattle.stream_requests.specs.declared.replies.Reply.TheVariants as replies
use Rattle.stream_requests.specs.Replies.{answered_kind, IsReplyTo, NoMembersAreTwoReplies, RepliesAreRead}
use Rattle.stream_requests.proofs.AskLemmas.{int32_one}
use Rattle.ws_messages.specs.declared.kinds.Kind.{Kind}
use Rattle.ws_messages.specs.declared.kinds.Kind.TheVariants as kind
use Rattle.ws_messages.specs.declared.messages.ServerMsg.TheVariants as server
use Rattle.ws_messages.specs.declared.messages.MsgFail.TheVariants.{Violation, Declined}
use Rattle.ws_messages.specs.declared.messages.Why.{Why}
use Rattle.ws_messages.specs.declared.messages.Why.TheVariants.{BadReply}
use Rattle.ws_messages.specs.Failures.{rest_failure}
use Rattle.ws_messages.specs.Kinds.{name_of}
use Rattle.ws_messages.specs.Server.{reply_kind, IsReplyOf, ResponseTree, ResponseStands, no_kind, in_members, ResponseMembersStand, response_of, error_of, IsNumbered, RestStands, ServerDeclines, IsBadReply, ServerViolates, NoTreeIsTwoServerMessages, ServerMessagesAreRead}
use Rattle.ws_messages.proofs.KindLemmas.{name_of-one}

-- ---- replies by their kind

-- what a reply of this kind answers: the opening of a stream, or asks
to_ask : (k : Kind) (j : AskKind) (r : Reply) → ((s : Reply) → reply_kind s ≡ Some k → answered_kind s ≡ Some j) → (t : Data) → IsReplyOf k r t → IsReplyTo j r t
to_ask k j r answers t p = record { answers = answers r p.form; members = p.members }

closes : (r : Reply) → reply_kind r ≡ Some kind.CloseStream → answered_kind r ≡ Some ask.Close
closes replies.Closed e = refl
closes r e = cc e

executes : (r : Reply) → reply_kind r ≡ Some kind.Execute → answered_kind r ≡ Some ask.Execute
executes (replies.Execute s) e = refl
executes r e = cc e

runs_batch : (r : Reply) → reply_kind r ≡ Some kind.Batch → answered_kind r ≡ Some ask.Batch
runs_batch (replies.Batch s) e = refl
runs_batch r e = cc e

opens_cursor : (r : Reply) → reply_kind r ≡ Some kind.OpenCursor → answered_kind r ≡ Some ask.Cursor
opens_cursor replies.Cursor e = refl
opens_cursor r e = cc e

closes_cursor : (r : Reply) → reply_kind r ≡ Some kind.CloseCursor → answered_kind r ≡ Some ask.CloseCursor
closes_cursor replies.CursorClosed e = refl
closes_cursor r e = cc e

fetches : (r : Reply) → reply_kind r ≡ Some kind.FetchCursor → answered_kind r ≡ Some ask.Fetch
fetches (replies.Fetched entries done) e = refl
fetches r e = cc e

runs_sequence : (r : Reply) → reply_kind r ≡ Some kind.Sequence → answered_kind r ≡ Some ask.Sequence
runs_sequence replies.Sequence e = refl
runs_sequence r e = cc e

stores : (r : Reply) → reply_kind r ≡ Some kind.StoreSql → answered_kind r ≡ Some ask.StoreSql
stores replies.SqlStored e = refl
stores r e = cc e

drops_sql : (r : Reply) → reply_kind r ≡ Some kind.CloseSql → answered_kind r ≡ Some ask.CloseSql
drops_sql replies.SqlClosed e = refl
drops_sql r e = cc e

tells_mode : (r : Reply) → reply_kind r ≡ Some kind.GetAutocommit → answered_kind r ≡ Some ask.GetAutocommit
tells_mode (replies.Autocommit auto) e = refl
tells_mode r e = cc e

opened : (r : Reply) → reply_kind r ≡ Some kind.OpenStream → r ≡ replies.StreamOpened
opened replies.StreamOpened e = refl
opened r e = cc e

-- ---- at most one response

reply_one : NoMembersAreTwoReplies → (t : Data) (k : Kind) (r s : Reply) → IsReplyOf k r t → IsReplyOf k s t → r ≡ s
reply_one one_of t kind.OpenStream r s p q = opened r p.form ∙ sym (opened s q.form)
reply_one one_of t kind.CloseStream r s p q = one_of t ask.Close r s (to_ask _ _ r closes t p) (to_ask _ _ s closes t q)
reply_one one_of t kind.Execute r s p q = one_of t ask.Execute r s (to_ask _ _ r executes t p) (to_ask _ _ s executes t q)
reply_one one_of t kind.Batch r s p q = one_of t ask.Batch r s (to_ask _ _ r runs_batch t p) (to_ask _ _ s runs_batch t q)
reply_one one_of t kind.OpenCursor r s p q = one_of t ask.Cursor r s (to_ask _ _ r opens_cursor t p) (to_ask _ _ s opens_cursor t q)
reply_one one_of t kind.CloseCursor r s p q = one_of t ask.CloseCursor r s (to_ask _ _ r closes_cursor t p) (to_ask _ _ s closes_cursor t q)
reply_one one_of t kind.FetchCursor r s p q = one_of t ask.Fetch r s (to_ask _ _ r fetches t p) (to_ask _ _ s fetches t q)
reply_one one_of t kind.Sequence r s p q = one_of t ask.Sequence r s (to_ask _ _ r runs_sequence t p) (to_ask _ _ s runs_sequence t q)
reply_one one_of t kind.StoreSql r s p q = one_of t ask.StoreSql r s (to_ask _ _ r stores t p) (to_ask _ _ s stores t q)
reply_one one_of t kind.CloseSql r s p q = one_of t ask.CloseSql r s (to_ask _ _ r drops_sql t p) (to_ask _ _ s drops_sql t q)
reply_one one_of t kind.GetAutocommit r s p q = one_of t ask.GetAutocommit r s (to_ask _ _ r tells_mode t p) (to_ask _ _ s tells_mode t q)

response_kind : (t : Data) (k l : Kind) (r s : Reply) → ResponseTree k r t → ResponseTree l s t → k ≡ l
response_kind t k l r s p q = name_of-one k l (one _ _ _ p.kind q.kind)

pub ServerTree-one : NoMembersAreTwoReplies → NoTreeIsTwoServerMessages
ServerTree-one one_of t server.HelloOk server.HelloOk p q = refl
ServerTree-one one_of t (server.HelloError e) (server.HelloError f) p q = ap server.HelloError (WireErrorTree-one _ e f p.1 q.1)
ServerTree-one one_of t (server.Ok i k r) (server.Ok j l s) p q =
    let u = response_of t in let same = response_kind u k l r s p.2 q.2 in
    let reply : r ≡ s = reply_one one_of u l r s (subst (λ x. IsReplyOf x r u) same p.2.reply) q.2.reply in
    ap (λ z. server.Ok z k r) (int32_one _ i j p.1 q.1) ∙ ap (λ x. server.Ok j x r) same ∙ ap (server.Ok j l) reply
ServerTree-one one_of t (server.Error i e) (server.Error j f) p q = ap (λ z. server.Error z e) (int32_one _ i j p.1 q.1) ∙ ap (server.Error j) (WireErrorTree-one _ e f p.2 q.2)
ServerTree-one one_of t server.HelloOk n p q = absurd (apart _ _ _ refl p q.0)
ServerTree-one one_of t m server.HelloOk p q = absurd (apart _ _ _ refl p.0 q)
ServerTree-one one_of t m n p q = absurd (apart _ _ _ refl p.0 q.0)

-- ---- messages are read

reply_none : RepliesAreRead → (t : Data) (k : Kind) (r : Reply) → IsReplyOf k r t → NoneStands (ResponseMembersStand k t)
reply_none are_read t kind.OpenStream r p = λ d here. here
reply_none are_read t kind.CloseStream r p = are_read t ask.Close r (to_ask _ _ r closes t p)
reply_none are_read t kind.Execute r p = are_read t ask.Execute r (to_ask _ _ r executes t p)
reply_none are_read t kind.Batch r p = are_read t ask.Batch r (to_ask _ _ r runs_batch t p)
reply_none are_read t kind.OpenCursor r p = are_read t ask.Cursor r (to_ask _ _ r opens_cursor t p)
reply_none are_read t kind.CloseCursor r p = are_read t ask.CloseCursor r (to_ask _ _ r closes_cursor t p)
reply_none are_read t kind.FetchCursor r p = are_read t ask.Fetch r (to_ask _ _ r fetches t p)
reply_none are_read t kind.Sequence r p = are_read t ask.Sequence r (to_ask _ _ r runs_sequence t p)
reply_none are_read t kind.StoreSql r p = are_read t ask.StoreSql r (to_ask _ _ r stores t p)
reply_none are_read t kind.CloseSql r p = are_read t ask.CloseSql r (to_ask _ _ r drops_sql t p)
reply_none are_read t kind.GetAutocommit r p = are_read t ask.GetAutocommit r (to_ask _ _ r tells_mode t p)

of_kind : (k : Kind) (t : Data) (d : Decline) → HasText t (codes "type") (name_of k) → ResponseStands t d → ResponseMembersStand k t d
of_kind k t d is (no_kind shape none) = absurd (none k is)
of_kind k t d is (in_members l named members) = subst (λ j. ResponseMembersStand j t d) (name_of-one l k (one _ _ _ named is)) members

pub ServerTree-none : RepliesAreRead → ServerMessagesAreRead
ServerTree-none are_read server.HelloOk t p d here = elim here [ inl a ↦ apart _ _ _ refl p a.0 | inr b ↦ apart _ _ _ refl p b.0 ]
ServerTree-none are_read (server.HelloError e) t p d here = elim here [ inl a ↦ apart _ _ _ refl p.0 a.0 | inr b ↦ apart _ _ _ refl p.0 b.0 ]
ServerTree-none are_read (server.Ok i k r) t p d here = elim here [
  | inl a ↦ reply_none are_read (response_of t) k r p.2.reply d (of_kind k (response_of t) d p.2.kind a.1)
  | inr b ↦ apart _ _ _ refl p.0 b.0
]
ServerTree-none are_read (server.Error i e) t p d here = elim here [ inl a ↦ apart _ _ _ refl p.0 a.0 | inr b ↦ WireErrorTree-none e (error_of t) p.2 d b.1 ]

-- ---- readings

pub response_read : (k : Kind) (t : Data) (r : Result (Kind × Reply) ReadFail) → HasText t (codes "type") (name_of k) → Reads (λ p. (p.0 ≡ k) × IsReplyOf k p.1 t) (ResponseMembersStand k t) r
    → Reads (λ p. ResponseTree p.0 p.1 t) (ResponseStands t) r
response_read k t r is reads =
    Reads-weaken (λ p. (p.0 ≡ k) × IsReplyOf k p.1 t) (λ p. ResponseTree p.0 p.1 t) (ResponseStands t) r
    (λ p h. record { kind = subst (λ j. HasText t (codes "type") (name_of j)) (sym h.0) is; reply = subst (λ j. IsReplyOf j p.1 t) (sym h.0) h.1 })
    (Reads-same (λ p. (p.0 ≡ k) × IsReplyOf k p.1 t) (ResponseMembersStand k t) (ResponseStands t) r (λ d here. in_members k is here) (λ d here. of_kind k t d is here) reads)

-- ---- what could not be read

-- what is declined in a response is declined in the rest of its message
pub ok_rest : (t u : Data) (f : ReadFail) → u ≡ response_of t → HasText t (codes "type") (codes "response_ok") → IsDeclinedAs (ResponseStands u) f → IsDeclinedAs (RestStands t) f
ok_rest t u reading.NoMemory same is p = tt
ok_rest t u (reading.Declined k) same is p =
    IsFirst-same (ResponseStands (response_of t)) (RestStands t) k (λ d here. inl (is, here)) (λ d here. elim here [ inl a ↦ a.1 | inr b ↦ absurd (apart _ _ _ refl is b.0) ])
    (subst (λ v. IsFirst (ResponseStands v) k) same p)

bad_reply : RepliesAreRead → (t : Data) (id : ℤ) (k : Decline) → IsNumbered t → HasInt32 t (codes "request_id") id → IsFirst (RestStands t) k → rank_of k < rank_of Float → IsBadReply t
bad_reply are_read t id k numbered number p less = record {
  no_message = λ m tree. ServerTree-none are_read m t tree k p.stands_itself;
  kind = inr (numbered, (λ none. none id number), λ first. first.none_before k less p.stands_itself);
}

why_is : (v w : Why) → Violation v ≡ Violation w → v ≡ w
why_is v w e = cc e

violated : (t : Data) (why : Why) → IsBadReply t → Violation BadReply ≡ Violation why → ServerViolates t why
violated t why bad e = subst (ServerViolates t) (why_is BadReply why e) bad

pub rest_violates : RepliesAreRead → (t : Data) (id : ℤ) (f : ReadFail) (why : Why) → IsNumbered t → HasInt32 t (codes "request_id") id → IsDeclinedAs (RestStands t) f → rest_failure id f ≡ Violation why
    → ServerViolates t why
rest_violates are_read t id reading.NoMemory why numbered number p e = cc e
rest_violates are_read t id (reading.Declined Float) why numbered number p e = cc e
rest_violates are_read t id (reading.Declined Unknown) why numbered number p e = violated t why (bad_reply are_read t id Unknown numbered number p (omega arith)) e
rest_violates are_read t id (reading.Declined Describe) why numbered number p e = violated t why (bad_reply are_read t id Describe numbered number p (omega arith)) e
rest_violates are_read t id (reading.Declined Shape) why numbered number p e = violated t why (bad_reply are_read t id Shape numbered number p (omega arith)) e
rest_violates are_read t id (reading.Declined BothSql) why numbered number p e = violated t why (bad_reply are_read t id BothSql numbered number p (omega arith)) e
rest_violates are_read t id (reading.Declined BadStep) why numbered number p e = violated t why (bad_reply are_read t id BadStep numbered number p (omega arith)) e
rest_violates are_read t id (reading.Declined Range) why numbered number p e = violated t why (bad_reply are_read t id Range numbered number p (omega arith)) e

id_is : (i j : ℤ) (d e : Decline) → Declined i d ≡ Declined j e → i ≡ j
id_is i j d e h = cc h

kind_is : (i j : ℤ) (d e : Decline) → Declined i d ≡ Declined j e → d ≡ e
kind_is i j d e h = cc h

pub rest_declines : (t : Data) (id : ℤ) (f : ReadFail) (i : ℤ) (d : Decline) → IsNumbered t → HasInt32 t (codes "request_id") id → IsDeclinedAs (RestStands t) f → rest_failure id f ≡ Declined i d → ServerDeclines t i d
rest_declines t id (reading.Declined Float) i d numbered number p e =
    record { is_float = sym (kind_is id i Float d e); numbered = numbered; number = subst (HasInt32 t (codes "request_id")) (id_is id i Float d e) number; first = p }
rest_declines t id f i d numbered number p e = cc e

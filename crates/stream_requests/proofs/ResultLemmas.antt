-- A tree is one of at most one result, results are read, and what the readers of results answer.
use Rattle.std.proofs.Common.{◌≡◌, ◌⊎◌, inl, inr, codes, refl, subst, ap, sym, ◌∙◌}
use Rattle.std.specs.Prelude.{Result}
use Rattle.serde_json.specs.Data.{Data}
use Rattle.hrana_value.specs.declared.failures.Decline.{Decline}
use Rattle.hrana_value.specs.declared.failures.ReadFail.{ReadFail}
use Rattle.hrana_value.specs.Declines.{Reads}
use Rattle.hrana_value.specs.Members.{HasText}
use Rattle.hrana_value.proofs.TextLemmas.{one, apart}
use Rattle.hrana_value.proofs.DeclineLemmas.{Reads-weaken, Reads-same, Reads-at}
use Rattle.hrana_stmt.specs.declared.errors.WireError.{WireError}
use Rattle.hrana_stmt.specs.Tree.{WireErrorTree, WireErrorStands}
use Rattle.hrana_stmt.proofs.ResultReadings.{WireErrorTree-one, WireErrorTree-none}
use Rattle.stream_requests.specs.declared.asks.AskKind.{AskKind}
use Rattle.stream_requests.specs.declared.replies.Reply.{Reply}
use Rattle.stream_requests.specs.declared.replies.Reply.TheVariants.{Failed}
use Rattle.stream_requests.specs.Replies.{IsReplyTo, ReplyMembersStand, NoMembersAreTwoReplies, RepliesAreRead}
use Rattle.stream_requests.specs.Results.{HasKind, ResponseTree, ResponseStands, no_kind, in_members, response_of, error_of, ResultTree, ResultStands, other_result, in_response, in_error, NoTreeIsTwoPipelineResults, PipelineResultsAreRead}
use Rattle.stream_requests.proofs.AskNameLemmas.{names_differ}

pub kind_one : (t : Data) (j k : AskKind) → HasKind j t → HasKind k t → j ≡ k
kind_one t j k p q = names_differ j k (one _ _ _ p.name q.name)

-- ---- results are responses or errors

abbrev IsOkResult : Reply → Data → Type 0
IsOkResult r t = HasText t (codes "type") (codes "ok") × ResponseTree r (response_of t)

abbrev IsErrorResult : Reply → Data → Type 0
IsErrorResult r t = (e : WireError) × (r ≡ Failed e) × HasText t (codes "type") (codes "error") × WireErrorTree e (error_of t)

either : (r : Reply) (t : Data) → ResultTree r t → IsOkResult r t ⊎ IsErrorResult r t
either (Failed e) t p = inr (e, refl, p.0, p.1)
either r t p = inl p

ok_result : (r : Reply) (t : Data) → IsOkResult r t → ResultTree r t
ok_result (Failed e) t p = cc p.1.reply.answers
ok_result r t p = p

-- ---- at most one result

response_one : NoMembersAreTwoReplies → (t : Data) (r s : Reply) → ResponseTree r t → ResponseTree s t → r ≡ s
response_one laws t r s p q = let same = kind_one t p.asked q.asked p.kind q.kind in laws t q.asked r s (subst (λ k. IsReplyTo k r t) same p.reply) q.reply

pub ResultTree-one : NoMembersAreTwoReplies → NoTreeIsTwoPipelineResults
ResultTree-one laws t r s p q = elim (either r t p) [
  | inl a ↦ elim (either s t q) [
    | inl b ↦ response_one laws (response_of t) r s a.1 b.1
    | inr b ↦ absurd (apart _ _ _ refl a.0 b.2)
  ]
  | inr a ↦ elim (either s t q) [
    | inl b ↦ absurd (apart _ _ _ refl a.2 b.0)
    | inr b ↦ a.1 ∙ ap Failed (WireErrorTree-one (error_of t) a.0 b.0 a.3 b.3) ∙ sym b.1
  ]
]

-- ---- results are read

response_stands : (k : AskKind) (t : Data) (d : Decline) → HasKind k t → ResponseStands t d → ReplyMembersStand k t d
response_stands k t d is (no_kind shape none) = absurd (none k is)
response_stands k t d is (in_members l named members) = subst (λ j. ReplyMembersStand j t d) (kind_one t l k named is) members

ok_stands : (t : Data) (d : Decline) → HasText t (codes "type") (codes "ok") → ResultStands t d → ResponseStands (response_of t) d
ok_stands t d is (other_result shape no_response no_error) = absurd (no_response is)
ok_stands t d is (in_response named here) = here
ok_stands t d is (in_error named here) = absurd (apart _ _ _ refl is named)

error_stands : (t : Data) (d : Decline) → HasText t (codes "type") (codes "error") → ResultStands t d → WireErrorStands (error_of t) d
error_stands t d is (other_result shape no_response no_error) = absurd (no_error is)
error_stands t d is (in_response named here) = absurd (apart _ _ _ refl named is)
error_stands t d is (in_error named here) = here

pub ResultTree-none : RepliesAreRead → PipelineResultsAreRead
ResultTree-none laws r t p d here = elim (either r t p) [
  | inl a ↦ laws (response_of t) a.1.asked r a.1.reply d (response_stands a.1.asked (response_of t) d a.1.kind (ok_stands t d a.0 here))
  | inr b ↦ WireErrorTree-none b.0 (error_of t) b.3 d (error_stands t d b.2 here)
]

-- ---- readings

pub response_read : (k : AskKind) (t : Data) (r : Result Reply ReadFail) → HasKind k t → Reads (λ x. IsReplyTo k x t) (ReplyMembersStand k t) r → Reads (λ x. ResponseTree x t) (ResponseStands t) r
response_read k t r is reads =
    Reads-weaken (λ x. IsReplyTo k x t) (λ x. ResponseTree x t) (ResponseStands t) r (λ x h. record { asked = k; kind = is; reply = h })
    (Reads-same (λ x. IsReplyTo k x t) (ReplyMembersStand k t) (ResponseStands t) r (λ d here. in_members k is here) (λ d here. response_stands k t d is here) reads)

pub result_read : (t u : Data) (r : Result Reply ReadFail) → u ≡ response_of t → HasText t (codes "type") (codes "ok") → Reads (λ x. ResponseTree x u) (ResponseStands u) r → Reads (λ x. ResultTree x t) (ResultStands t) r
result_read t u r same is reads =
    Reads-weaken (λ x. ResponseTree x (response_of t)) (λ x. ResultTree x t) (ResultStands t) r (λ x h. ok_result x t (is, h))
    (Reads-same (λ x. ResponseTree x (response_of t)) (ResponseStands (response_of t)) (ResultStands t) r (λ d here. in_response is here) (λ d here. ok_stands t d is here)
    (Reads-at ResponseTree ResponseStands same reads))

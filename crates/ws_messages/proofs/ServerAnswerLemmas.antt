-- Of any bytes one answer of `decode_server` can be said at most.
use Rattle.std.proofs.Common.{◌≡◌, inl, inr, ℕ, ◌<◌, ℤ, List, Ok, Err, codes, refl, subst, sym, ap, ◌∙◌, arith}
use Rattle.std.proofs.lemmas.Bool.{cases_lt}
use Rattle.serde_json.specs.Data.{Data}
use Rattle.hrana_value.specs.declared.failures.Decline.{Decline}
use Rattle.hrana_value.specs.Members.{HasText}
use Rattle.hrana_value.proofs.TextLemmas.{one, apart}
use Rattle.stream_requests.proofs.AskLemmas.{int32_one}
use Rattle.stream_requests.proofs.JsonTextLemmas.{json_one, not_both}
use Rattle.ws_messages.specs.declared.messages.ServerMsg.{ServerMsg}
use Rattle.ws_messages.specs.declared.messages.ServerMsg.TheVariants as server
use Rattle.ws_messages.specs.declared.messages.MsgFail.TheVariants.{Violation, Declined}
use Rattle.ws_messages.specs.declared.messages.Why.{Why}
use Rattle.ws_messages.specs.declared.messages.Why.TheVariants.{NotJson, NotObject, NoKind, UnknownKind, BadHello, BadRequestId, BadReply}
use Rattle.ws_messages.specs.Server.{ServerTree, IsNumbered, ServerDeclines, IsBadReply, IsNoServerKind, ServerViolates, IsServerText, IsDeclinedReply, BreaksAsServer, NoTreeIsTwoServerMessages, ServerMessagesAreRead, is_message, breaks, is_declined, NoTextHasTwoServerAnswers}
use Rattle.ws_messages.proofs.AnswerLemmas.{place, place-one, no_text}

-- ---- trees

-- a tree of one of the four kinds has a `type`
pub data HasServerKind (t : Data) : Type 0 where
  has_kind : (s : List ℕ) → HasText t (codes "type") s → (IsNoServerKind s → ⊥) → HasServerKind t

kind_of_numbered : (t : Data) → IsNumbered t → HasServerKind t
kind_of_numbered t (inl p) = has_kind (codes "response_ok") p (λ none. none.2 refl)
kind_of_numbered t (inr p) = has_kind (codes "response_error") p (λ none. none.3 refl)

kind_of_bad : (t : Data) → IsBadReply t → HasServerKind t
kind_of_bad t p = elim p.kind [ inl hello ↦ has_kind (codes "hello_error") hello (λ none. none.1 refl) | inr numbered ↦ kind_of_numbered t numbered.0 ]

kind_of_message : (t : Data) (m : ServerMsg) → ServerTree m t → HasServerKind t
kind_of_message t server.HelloOk p = has_kind (codes "hello_ok") p (λ none. none.0 refl)
kind_of_message t (server.HelloError e) p = has_kind (codes "hello_error") p.0 (λ none. none.1 refl)
kind_of_message t (server.Ok id k r) p = has_kind (codes "response_ok") p.0 (λ none. none.2 refl)
kind_of_message t (server.Error id e) p = has_kind (codes "response_error") p.0 (λ none. none.3 refl)

-- what has such a kind breaks the protocol in no earlier way
no_earlier : (t : Data) (v : Why) → place v < 4 → HasServerKind t → ServerViolates t v → ⊥
no_earlier t NotJson h k p = p
no_earlier t NotObject h (has_kind s is none) p = no_text t s p is
no_earlier t NoKind h (has_kind s is none) p = cc (sym p.1 ∙ is)
no_earlier t UnknownKind h (has_kind s is none) p = none (subst IsNoServerKind (one _ _ _ p.1 is) p.2)
no_earlier t v h k p = absurd (omega (arith, h))

not_hello : (t : Data) → IsNumbered t → HasText t (codes "type") (codes "hello_error") → ⊥
not_hello t (inl p) q = apart _ _ _ refl p q
not_hello t (inr p) q = apart _ _ _ refl p q

id_and_bad : (t : Data) → ServerViolates t BadRequestId → IsBadReply t → ⊥
id_and_bad t p q = elim q.kind [ inl hello ↦ not_hello t p.0 hello | inr numbered ↦ numbered.1 p.1 ]

differ : (t : Data) (v w : Why) → place v < place w → ServerViolates t v → ServerViolates t w → ⊥
differ t NotJson w h p q = p
differ t BadHello w h p q = p
differ t v BadHello h p q = q
differ t NotObject NoKind h p q = q.0 p
differ t NotObject UnknownKind h p q = no_text t q.0 p q.1
differ t NoKind UnknownKind h p q = cc (sym p.1 ∙ q.1)
differ t NotObject BadRequestId h p q = no_earlier t NotObject (omega arith) (kind_of_numbered t q.0) p
differ t NoKind BadRequestId h p q = no_earlier t NoKind (omega arith) (kind_of_numbered t q.0) p
differ t UnknownKind BadRequestId h p q = no_earlier t UnknownKind (omega arith) (kind_of_numbered t q.0) p
differ t NotObject BadReply h p q = no_earlier t NotObject (omega arith) (kind_of_bad t q) p
differ t NoKind BadReply h p q = no_earlier t NoKind (omega arith) (kind_of_bad t q) p
differ t UnknownKind BadReply h p q = no_earlier t UnknownKind (omega arith) (kind_of_bad t q) p
differ t BadRequestId BadReply h p q = id_and_bad t p q
differ t v w h p q = absurd (omega (arith, h))

violates_one : (t : Data) (v w : Why) → ServerViolates t v → ServerViolates t w → v ≡ w
violates_one t v w p q = elim (cases_lt (place v) (place w)) [
  | inl less ↦ absurd (differ t v w less p q)
  | inr more ↦ elim (cases_lt (place w) (place v)) [
    | inl less ↦ absurd (differ t w v less q p)
    | inr same ↦ place-one v w (omega arith)
  ]
]

message_no_id : (t : Data) (m : ServerMsg) → ServerTree m t → ServerViolates t BadRequestId → ⊥
message_no_id t server.HelloOk p q = elim q.0 [ inl a ↦ apart _ _ _ refl p a | inr b ↦ apart _ _ _ refl p b ]
message_no_id t (server.HelloError e) p q = not_hello t q.0 p.0
message_no_id t (server.Ok id k r) p q = q.1 id p.1
message_no_id t (server.Error id e) p q = q.1 id p.1

message_violates : (t : Data) (m : ServerMsg) (w : Why) → ServerTree m t → ServerViolates t w → ⊥
message_violates t m BadHello p q = q
message_violates t m BadReply p q = q.no_message m p
message_violates t m BadRequestId p q = message_no_id t m p q
message_violates t m NotJson p q = q
message_violates t m NotObject p q = no_earlier t NotObject (omega arith) (kind_of_message t m p) q
message_violates t m NoKind p q = no_earlier t NoKind (omega arith) (kind_of_message t m p) q
message_violates t m UnknownKind p q = no_earlier t UnknownKind (omega arith) (kind_of_message t m p) q

float_and_bad : (t : Data) (id : ℤ) (d : Decline) → ServerDeclines t id d → IsBadReply t → ⊥
float_and_bad t id d p q = elim q.kind [ inl hello ↦ not_hello t p.numbered hello | inr numbered ↦ numbered.2 p.first ]

declined_violates : (t : Data) (id : ℤ) (d : Decline) (w : Why) → ServerDeclines t id d → ServerViolates t w → ⊥
declined_violates t id d BadHello p q = q
declined_violates t id d BadReply p q = float_and_bad t id d p q
declined_violates t id d BadRequestId p q = q.1 id p.number
declined_violates t id d NotJson p q = q
declined_violates t id d NotObject p q = no_earlier t NotObject (omega arith) (kind_of_numbered t p.numbered) q
declined_violates t id d NoKind p q = no_earlier t NoKind (omega arith) (kind_of_numbered t p.numbered) q
declined_violates t id d UnknownKind p q = no_earlier t UnknownKind (omega arith) (kind_of_numbered t p.numbered) q

-- ---- bytes

message_breaks : (bytes : List ℕ) (m : ServerMsg) (w : Why) → IsServerText bytes m → BreaksAsServer bytes w → ⊥
message_breaks bytes m w p (inl q) = not_both bytes p.0 q.1 p.1
message_breaks bytes m w p (inr q) = message_violates q.0 m w (subst (ServerTree m) (json_one bytes p.0 q.0 p.1 q.1) p.2) q.2

declined_breaks : (bytes : List ℕ) (id : ℤ) (d : Decline) (w : Why) → IsDeclinedReply bytes id d → BreaksAsServer bytes w → ⊥
declined_breaks bytes id d w p (inl q) = not_both bytes p.0 q.1 p.1
declined_breaks bytes id d w p (inr q) = declined_violates q.0 id d w (subst (λ t. ServerDeclines t id d) (json_one bytes p.0 q.0 p.1 q.1) p.2) q.2

message_declined : ServerMessagesAreRead → (bytes : List ℕ) (m : ServerMsg) (id : ℤ) (d : Decline) → IsServerText bytes m → IsDeclinedReply bytes id d → ⊥
message_declined are_read bytes m id d p q = are_read m q.0 (subst (ServerTree m) (json_one bytes p.0 q.0 p.1 q.1) p.2) _ q.2.first.stands_itself

breaks_one : (bytes : List ℕ) (v w : Why) → BreaksAsServer bytes v → BreaksAsServer bytes w → v ≡ w
breaks_one bytes v w (inl p) (inl q) = p.0 ∙ sym q.0
breaks_one bytes v w (inl p) (inr q) = absurd (not_both bytes q.0 p.1 q.1)
breaks_one bytes v w (inr p) (inl q) = absurd (not_both bytes p.0 q.1 p.1)
breaks_one bytes v w (inr p) (inr q) = violates_one q.0 v w (subst (λ t. ServerViolates t v) (json_one bytes p.0 q.0 p.1 q.1) p.2) q.2

declined_one : (bytes : List ℕ) (i j : ℤ) (d e : Decline) → IsDeclinedReply bytes i d → IsDeclinedReply bytes j e → (i ≡ j) × (d ≡ e)
declined_one bytes i j d e p q =
    let r = subst (λ t. ServerDeclines t i d) (json_one bytes p.0 q.0 p.1 q.1) p.2 in (int32_one _ i j r.number q.2.number, r.is_float ∙ sym q.2.is_float)

pub ServerAnswer-one : NoTreeIsTwoServerMessages → ServerMessagesAreRead → NoTextHasTwoServerAnswers
ServerAnswer-one messages are_read bytes a b (is_message m p) (is_message n q) = ap Ok (messages q.0 m n (subst (ServerTree m) (json_one bytes p.0 q.0 p.1 q.1) p.2) q.2)
ServerAnswer-one messages are_read bytes a b (is_message m p) (breaks w q) = absurd (message_breaks bytes m w p q)
ServerAnswer-one messages are_read bytes a b (is_message m p) (is_declined id d q) = absurd (message_declined are_read bytes m id d p q)
ServerAnswer-one messages are_read bytes a b (breaks v p) (is_message n q) = absurd (message_breaks bytes n v q p)
ServerAnswer-one messages are_read bytes a b (breaks v p) (breaks w q) = ap (λ why. Err (Violation why)) (breaks_one bytes v w p q)
ServerAnswer-one messages are_read bytes a b (breaks v p) (is_declined id d q) = absurd (declined_breaks bytes id d v q p)
ServerAnswer-one messages are_read bytes a b (is_declined id d p) (is_message n q) = absurd (message_declined are_read bytes n id d q p)
ServerAnswer-one messages are_read bytes a b (is_declined id d p) (breaks w q) = absurd (declined_breaks bytes id d w p q)
ServerAnswer-one messages are_read bytes a b (is_declined i d p) (is_declined j e q) =
    let same = declined_one bytes i j d e p q in ap (λ z. Err (Declined z d)) same.0 ∙ ap (λ x. Err (Declined j x)) same.1

-- Of any bytes one answer of `decode_client` can be said at most.
use Rattle.std.proofs.Common.{◌≡◌, inl, inr, ℕ, ◌<◌, ℤ, List, Option, None, Some, Ok, Err, codes, refl, subst, sym, ap, ◌∙◌, arith}
use Rattle.std.proofs.lemmas.Bool.{cases_lt}
use Rattle.serde_json.specs.Data.{Data, null, boolean, number, string, array, object}
use Rattle.serde_json.specs.Find.{as_object, as_str}
use Rattle.hrana_value.specs.declared.failures.Decline.{Decline}
use Rattle.hrana_value.specs.Members.{HasText, TextTree}
use Rattle.hrana_value.specs.Trees.{OptionalTree}
use Rattle.hrana_value.proofs.TextLemmas.{one, apart}
use Rattle.stream_requests.proofs.AskLemmas.{int32_one}
use Rattle.stream_requests.proofs.FirstLemmas.{IsFirst-one}
use Rattle.stream_requests.proofs.JsonTextLemmas.{json_one, not_both}
use Rattle.ws_messages.specs.declared.messages.ClientMsg.{ClientMsg}
use Rattle.ws_messages.specs.declared.messages.ClientMsg.TheVariants.{Hello, Request}
use Rattle.ws_messages.specs.declared.messages.MsgFail.TheVariants.{Violation, Declined}
use Rattle.ws_messages.specs.declared.messages.Why.{Why}
use Rattle.ws_messages.specs.declared.messages.Why.TheVariants.{NotJson, NotObject, NoKind, UnknownKind, BadHello, BadRequestId, BadReply}
use Rattle.ws_messages.specs.Client.{ClientTree, ClientDeclines, ClientViolates, IsClientText, IsDeclinedRequest, BreaksAsClient, NoTreeIsTwoClientMessages, is_message, breaks, is_declined, NoTextHasTwoClientAnswers}

-- ---- trees

pub no_text : (t : Data) (s : List ℕ) → as_object t ≡ None → HasText t (codes "type") s → ⊥
no_text (object ms) s e h = cc e
no_text null s e h = cc h
no_text (boolean b) s e h = cc h
no_text (number n) s e h = cc h
no_text (string r) s e h = cc h
no_text (array ds) s e h = cc h

abbrev pub place : Why → ℕ
place NotJson = 0
place NotObject = 1
place NoKind = 2
place UnknownKind = 3
place BadHello = 4
place BadRequestId = 5
place BadReply = 6

pub place-one : (v w : Why) → place v ≡ place w → v ≡ w
place-one NotJson NotJson h = refl
place-one NotObject NotObject h = refl
place-one NoKind NoKind h = refl
place-one UnknownKind UnknownKind h = refl
place-one BadHello BadHello h = refl
place-one BadRequestId BadRequestId h = refl
place-one BadReply BadReply h = refl
place-one v w h = absurd (omega (arith, h))

differ : (t : Data) (v w : Why) → place v < place w → ClientViolates t v → ClientViolates t w → ⊥
differ t NotJson w h p q = p
differ t v BadReply h p q = q
differ t NotObject NoKind h p q = q.0 p
differ t NotObject UnknownKind h p q = no_text t q.0 p q.1
differ t NotObject BadHello h p q = no_text t _ p q.0
differ t NotObject BadRequestId h p q = no_text t _ p q.0
differ t NoKind UnknownKind h p q = cc (sym p.1 ∙ q.1)
differ t NoKind BadHello h p q = cc (sym p.1 ∙ q.0)
differ t NoKind BadRequestId h p q = cc (sym p.1 ∙ q.0)
differ t UnknownKind BadHello h p q = p.2 (one _ _ _ p.1 q.0)
differ t UnknownKind BadRequestId h p q = p.3 (one _ _ _ p.1 q.0)
differ t BadHello BadRequestId h p q = apart _ _ _ refl p.0 q.0
differ t v w h p q = absurd (omega (arith, h))

violates_one : (t : Data) (v w : Why) → ClientViolates t v → ClientViolates t w → v ≡ w
violates_one t v w p q = elim (cases_lt (place v) (place w)) [
  | inl less ↦ absurd (differ t v w less p q)
  | inr more ↦ elim (cases_lt (place w) (place v)) [
    | inl less ↦ absurd (differ t w v less q p)
    | inr same ↦ place-one v w (omega arith)
  ]
]

token_violates : (jwt : Option (List ℕ)) (d : Data) → OptionalTree TextTree jwt d → (d ≡ null → ⊥) → as_str d ≡ None → ⊥
token_violates None d p given none = given p
token_violates (Some s) d p given none = cc (sym p.1 ∙ none)

message_violates : (t : Data) (m : ClientMsg) (w : Why) → ClientTree m t → ClientViolates t w → ⊥
message_violates t m NotJson p q = q
message_violates t m BadReply p q = q
message_violates t (Hello jwt) NotObject p q = no_text t _ q p.0
message_violates t (Hello jwt) NoKind p q = cc (sym q.1 ∙ p.0)
message_violates t (Hello jwt) UnknownKind p q = q.2 (one _ _ _ q.1 p.0)
message_violates t (Hello jwt) BadHello p q = token_violates jwt _ p.1 q.1 q.2
message_violates t (Hello jwt) BadRequestId p q = apart _ _ _ refl p.0 q.0
message_violates t (Request id r) NotObject p q = no_text t _ q p.0
message_violates t (Request id r) NoKind p q = cc (sym q.1 ∙ p.0)
message_violates t (Request id r) UnknownKind p q = q.3 (one _ _ _ q.1 p.0)
message_violates t (Request id r) BadHello p q = apart _ _ _ refl p.0 q.0
message_violates t (Request id r) BadRequestId p q = q.1 id p.1

declined_violates : (t : Data) (id : ℤ) (d : Decline) (w : Why) → ClientDeclines t id d → ClientViolates t w → ⊥
declined_violates t id d NotJson p q = q
declined_violates t id d BadReply p q = q
declined_violates t id d NotObject p q = no_text t _ q p.0
declined_violates t id d NoKind p q = cc (sym q.1 ∙ p.0)
declined_violates t id d UnknownKind p q = q.3 (one _ _ _ q.1 p.0)
declined_violates t id d BadHello p q = apart _ _ _ refl p.0 q.0
declined_violates t id d BadRequestId p q = q.1 id p.1

-- ---- bytes

message_breaks : (bytes : List ℕ) (m : ClientMsg) (w : Why) → IsClientText bytes m → BreaksAsClient bytes w → ⊥
message_breaks bytes m w p (inl q) = not_both bytes p.0 q.1 p.1
message_breaks bytes m w p (inr q) = message_violates q.0 m w (subst (ClientTree m) (json_one bytes p.0 q.0 p.1 q.1) p.2) q.2

declined_breaks : (bytes : List ℕ) (id : ℤ) (d : Decline) (w : Why) → IsDeclinedRequest bytes id d → BreaksAsClient bytes w → ⊥
declined_breaks bytes id d w p (inl q) = not_both bytes p.0 q.1 p.1
declined_breaks bytes id d w p (inr q) = declined_violates q.0 id d w (subst (λ t. ClientDeclines t id d) (json_one bytes p.0 q.0 p.1 q.1) p.2) q.2

message_declined : (bytes : List ℕ) (m : ClientMsg) (id : ℤ) (d : Decline) → IsClientText bytes m → IsDeclinedRequest bytes id d → ⊥
message_declined bytes m id d p q =
    let declines = subst (λ t. ClientDeclines t id d) (sym (json_one bytes p.0 q.0 p.1 q.1)) q.2 in p.3 d (declines.0, declines.2.stands_itself)

breaks_one : (bytes : List ℕ) (v w : Why) → BreaksAsClient bytes v → BreaksAsClient bytes w → v ≡ w
breaks_one bytes v w (inl p) (inl q) = p.0 ∙ sym q.0
breaks_one bytes v w (inl p) (inr q) = absurd (not_both bytes q.0 p.1 q.1)
breaks_one bytes v w (inr p) (inl q) = absurd (not_both bytes p.0 q.1 p.1)
breaks_one bytes v w (inr p) (inr q) = violates_one q.0 v w (subst (λ t. ClientViolates t v) (json_one bytes p.0 q.0 p.1 q.1) p.2) q.2

declined_one : (bytes : List ℕ) (i j : ℤ) (d e : Decline) → IsDeclinedRequest bytes i d → IsDeclinedRequest bytes j e → (i ≡ j) × (d ≡ e)
declined_one bytes i j d e p q =
    let r = subst (λ t. ClientDeclines t i d) (json_one bytes p.0 q.0 p.1 q.1) p.2 in (int32_one _ i j r.1 q.2.1, IsFirst-one _ d e r.2 q.2.2)

pub ClientAnswer-one : NoTreeIsTwoClientMessages → NoTextHasTwoClientAnswers
ClientAnswer-one messages bytes a b (is_message m p) (is_message n q) = ap Ok (messages q.0 m n (subst (ClientTree m) (json_one bytes p.0 q.0 p.1 q.1) p.2) q.2)
ClientAnswer-one messages bytes a b (is_message m p) (breaks w q) = absurd (message_breaks bytes m w p q)
ClientAnswer-one messages bytes a b (is_message m p) (is_declined id d q) = absurd (message_declined bytes m id d p q)
ClientAnswer-one messages bytes a b (breaks v p) (is_message n q) = absurd (message_breaks bytes n v q p)
ClientAnswer-one messages bytes a b (breaks v p) (breaks w q) = ap (λ why. Err (Violation why)) (breaks_one bytes v w p q)
ClientAnswer-one messages bytes a b (breaks v p) (is_declined id d q) = absurd (declined_breaks bytes id d v q p)
ClientAnswer-one messages bytes a b (is_declined id d p) (is_message n q) = absurd (message_declined bytes n id d q p)
ClientAnswer-one messages bytes a b (is_declined id d p) (breaks w q) = absurd (declined_breaks bytes id d w p q)
ClientAnswer-one messages bytes a b (is_declined i d p) (is_declined j e q) =
    let same = declined_one bytes i j d e p q in ap (λ z. Err (Declined z d)) same.0 ∙ ap (λ x. Err (Declined j x)) same.1

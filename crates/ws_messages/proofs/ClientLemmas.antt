-- Laws of client messages.
use Rattle.std.proofs.Common.{◌≡◌, List, ℕ, refl, ap, ◌∙◌}
use Rattle.serde_json.specs.Data.{Data}
use Rattle.hrana_value.specs.Members.{TextTree}
use Rattle.hrana_value.proofs.TextLemmas.{one, apart}
use Rattle.hrana_value.proofs.PartLemmas.{OptionalTree-one}
use Rattle.stream_requests.proofs.AskLemmas.{int32_one}
use Rattle.ws_messages.specs.declared.messages.ClientMsg.TheVariants.{Hello, Request}
use Rattle.ws_messages.specs.Requests.{NoTreeIsTwoRequests, FittingRequestsAreRead}
use Rattle.ws_messages.specs.Client.{request_of, NoTreeIsTwoClientMessages, FittingClientMessagesAreRead}

text_one : (t : Data) (s r : List ℕ) → TextTree s t → TextTree r t → s ≡ r
text_one t s r p q = one _ _ _ p q

pub ClientTree-one : NoTreeIsTwoRequests → NoTreeIsTwoClientMessages
ClientTree-one requests t (Hello jwt) (Hello jwt') p q = ap Hello (OptionalTree-one TextTree text_one _ jwt jwt' p.1 q.1)
ClientTree-one requests t (Request id r) (Request id' r') p q = ap (λ z. Request z r) (int32_one _ id id' p.1 q.1) ∙ ap (Request id') (requests _ r r' p.2 q.2)
ClientTree-one requests t m n p q = absurd (apart _ _ _ refl p.0 q.0)

pub ClientTree-fits : FittingRequestsAreRead → FittingClientMessagesAreRead
ClientTree-fits requests (Hello jwt) t p = (λ _ d here. apart _ _ _ refl p.0 here.0, λ _. tt)
ClientTree-fits requests (Request id r) t p = (λ fits d here. (requests r (request_of t) p.2).0 fits d here.1, λ none. (requests r (request_of t) p.2).1 (λ d here. none d (p.0, here)))

-- A tree is one of at most one body of a pipeline, and of any bytes one thing can be said at most.
use Rattle.std.proofs.Common.{◌≡◌, ℕ, ◌≤◌, ◌<◌, List, Option, Ok, Err, length, codes, refl, subst, ap, ◌∙◌, arith}
use Rattle.serde_json.specs.Data.{Data}
use Rattle.hrana_value.specs.Declines.{NoneStands}
use Rattle.hrana_value.specs.Members.{part_at, TextTree, TextStands}
use Rattle.hrana_value.specs.Trees.{OptionalStands, ArrayStands}
use Rattle.hrana_value.proofs.ArrayLemmas.{ArrayTree-none}
use Rattle.hrana_value.proofs.DeclineLemmas.{NoneStands-parts}
use Rattle.hrana_value.proofs.ItemsLemmas.{ArrayTree-one}
use Rattle.hrana_value.proofs.PartLemmas.{OptionalTree-one, OptionalTree-none, TextTree-none}
use Rattle.hrana_value.proofs.TextLemmas.{one}
use Rattle.stream_requests.specs.Asks.{NothingStands, NoMembersAreTwoAsks}
use Rattle.stream_requests.proofs.JsonTextLemmas.{json_one, not_both}
use Rattle.pipeline_body.specs.declared.limits.TheConstants.{MAX_PIPELINE_ASKS}
use Rattle.pipeline_body.specs.declared.bodies.PipeAsk.{PipeAsk}
use Rattle.pipeline_body.specs.declared.bodies.PipelineBody.{PipelineBody}
use Rattle.pipeline_body.specs.declared.bodies.BodyFail.{BodyFail}
use Rattle.pipeline_body.specs.declared.bodies.BodyFail.TheVariants.{NotJson, Shape, TooMany, Declined, NoMemory}
use Rattle.pipeline_body.specs.Requests.{PipeAskTree}
use Rattle.pipeline_body.specs.Bodies.{BodyTree, BodyStands, IsBody, IsNoBody, NoTreeIsTwoBodies, is_body, is_none, NoBytesHaveTwoBodyReadings}
use Rattle.pipeline_body.proofs.RequestLemmas.{PipeAskTree-one}

-- ---- trees

pub text_one : (t : Data) (s r : List ℕ) → TextTree s t → TextTree r t → s ≡ r
text_one t s r p q = one _ _ _ p q

abbrev make : Option (List ℕ) → List PipeAsk → PipelineBody
make baton asks = record { baton = baton; asks = asks }

pub BodyTree-one : NoMembersAreTwoAsks → NoTreeIsTwoBodies
BodyTree-one laws t a b p q =
    let baton : a.baton ≡ b.baton = OptionalTree-one TextTree text_one _ a.baton b.baton p.baton q.baton in
    let asks : a.asks ≡ b.asks = ArrayTree-one PipeAskTree (PipeAskTree-one laws) _ a.asks b.asks p.asks q.asks in
    ap (λ o. make o a.asks) baton ∙ ap (make b.baton) asks

pub BodyTree-none : (b : PipelineBody) (t : Data) → BodyTree b t → NoneStands (BodyStands t)
BodyTree-none b t p =
    NoneStands-parts (OptionalStands TextStands (part_at (codes "baton") t)) (ArrayStands (λ _. NothingStands) (part_at (codes "requests") t)) (OptionalTree-none TextTree TextStands TextTree-none b.baton _ p.baton)
    (ArrayTree-none PipeAskTree (λ _. NothingStands) (λ x d tree k here. here) b.asks _ p.asks)

-- ---- bytes

above : (m n : ℕ) → m ≡ n → m ≤ MAX_PIPELINE_ASKS → MAX_PIPELINE_ASKS < n → ⊥
above m n e p q = omega (arith, e)

body_refused : NoTreeIsTwoBodies → (bytes : List ℕ) (b : PipelineBody) (f : BodyFail) → (f ≡ NoMemory → ⊥) → IsBody bytes b → IsNoBody bytes f → ⊥
body_refused laws bytes b NotJson told p q = not_both bytes p.0 q p.1
body_refused laws bytes b Shape told p q = q.2 b (subst (BodyTree b) (json_one bytes p.0 q.0 p.1 q.1) p.2.0)
body_refused laws bytes b TooMany told p q =
    let many = q.2 in let same : b ≡ many.0 = laws q.0 b many.0 (subst (BodyTree b) (json_one bytes p.0 q.0 p.1 q.1) p.2.0) many.1 in
    above (length b.asks) (length many.0.asks) (ap (λ x. length x.asks) same) p.2.1 many.2
body_refused laws bytes b (Declined d) told p q = q.2
body_refused laws bytes b NoMemory told p q = told refl

refused_one : (bytes : List ℕ) (f g : BodyFail) → (f ≡ NoMemory → ⊥) → (g ≡ NoMemory → ⊥) → IsNoBody bytes f → IsNoBody bytes g → f ≡ g
refused_one bytes (Declined d) g m n p q = absurd p.2
refused_one bytes f (Declined d) m n p q = absurd q.2
refused_one bytes NoMemory g m n p q = absurd (m refl)
refused_one bytes f NoMemory m n p q = absurd (n refl)
refused_one bytes NotJson NotJson m n p q = refl
refused_one bytes NotJson g m n p q = absurd (not_both bytes q.0 p q.1)
refused_one bytes f NotJson m n p q = absurd (not_both bytes p.0 q p.1)
refused_one bytes Shape Shape m n p q = refl
refused_one bytes Shape TooMany m n p q = absurd (p.2 q.2.0 (subst (BodyTree q.2.0) (json_one bytes q.0 p.0 q.1 p.1) q.2.1))
refused_one bytes TooMany Shape m n p q = absurd (q.2 p.2.0 (subst (BodyTree p.2.0) (json_one bytes p.0 q.0 p.1 q.1) p.2.1))
refused_one bytes TooMany TooMany m n p q = refl

pub BodyReading-one : NoTreeIsTwoBodies → NoBytesHaveTwoBodyReadings
BodyReading-one laws bytes a b (is_body x p) (is_body y q) = ap Ok (laws q.0 x y (subst (BodyTree x) (json_one bytes p.0 q.0 p.1 q.1) p.2.0) q.2.0)
BodyReading-one laws bytes a b (is_body x p) (is_none f told q) = absurd (body_refused laws bytes x f told p q)
BodyReading-one laws bytes a b (is_none f told p) (is_body y q) = absurd (body_refused laws bytes y f told q p)
BodyReading-one laws bytes a b (is_none f m p) (is_none g n q) = ap Err (refused_one bytes f g m n p q)

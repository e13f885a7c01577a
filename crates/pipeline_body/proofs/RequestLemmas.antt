-- A tree is one of at most one request of a pipeline, and what the readers of requests answer.
use Rattle.std.proofs.Common.{◌≡◌, ℕ, ◌<◌, List, Some, codes, refl, subst, sym, ap, ◌∙◌, arith}
use Rattle.std.specs.Prelude.{Result, Err}
use Rattle.serde_json.specs.Data.{Data}
use Rattle.hrana_value.specs.declared.failures.Decline.{Decline}
use Rattle.hrana_value.specs.declared.failures.Decline.TheVariants.{Unknown}
use Rattle.hrana_value.specs.declared.failures.ReadFail.{ReadFail}
use Rattle.hrana_value.specs.declared.failures.ReadFail.TheVariants.{Declined}
use Rattle.hrana_value.specs.Declines.{rank_of, Reads}
use Rattle.hrana_value.specs.Members.{HasText}
use Rattle.hrana_value.proofs.TextLemmas.{one, apart}
use Rattle.hrana_value.proofs.DeclineLemmas.{Reads-weaken, Reads-same, Reads-declined}
use Rattle.stream_requests.specs.declared.asks.Ask.{Ask}
use Rattle.stream_requests.specs.declared.asks.AskKind.{AskKind}
use Rattle.stream_requests.specs.declared.asks.AskKind.TheVariants as ask
use Rattle.stream_requests.specs.AskNames.{ask_name}
use Rattle.stream_requests.specs.Asks.{ask_kind, IsAskOf, AskMembersStand, NoMembersAreTwoAsks, FittingAsksAreRead}
use Rattle.stream_requests.specs.Results.{IsPipelineKind, HasKind}
use Rattle.stream_requests.proofs.FirstLemmas.{IsFirst-one}
use Rattle.stream_requests.proofs.ResultLemmas.{kind_one}
use Rattle.pipeline_body.specs.declared.bodies.PipeAsk.{PipeAsk}
use Rattle.pipeline_body.specs.declared.bodies.PipeAsk.TheVariants as pipe
use Rattle.pipeline_body.specs.Requests.{RequestTree, RequestStands, no_kind, is_describe, other_kind, in_members, PipeAskTree, FittingAsksAreTaken}

-- ---- what stands in a request of a kind

not_describe : (k : AskKind) → ask_name k ≡ codes "describe" → ⊥
not_describe ask.Execute e = apart (Some (ask_name ask.Execute)) (ask_name ask.Execute) (codes "describe") refl refl (ap Some e)
not_describe k e = apart (Some (ask_name k)) (ask_name k) (codes "describe") refl refl (ap Some e)

request_stands : (k : AskKind) (t : Data) (d : Decline) → HasKind k t → RequestStands t d → AskMembersStand k t d
request_stands k t d is (no_kind shape none) = cc (sym is.name ∙ none)
request_stands k t d is (is_describe e named) = absurd (not_describe k (one _ _ _ is.name named))
request_stands k t d is (other_kind s e named other none) = absurd (none k is)
request_stands k t d is (in_members l named members) = subst (λ j. AskMembersStand j t d) (kind_one t l k named is) members

-- ---- laws

request_one : NoMembersAreTwoAsks → (t : Data) (a b : Ask) → RequestTree a t → RequestTree b t → a ≡ b
request_one laws t a b p q = laws t a b (kind_one t (ask_kind a) (ask_kind b) p.kind q.kind) p.members q.members

pub PipeAskTree-one : NoMembersAreTwoAsks → (t : Data) (x y : PipeAsk) → PipeAskTree x t → PipeAskTree y t → x ≡ y
PipeAskTree-one laws t (pipe.Ask a) (pipe.Ask b) p q = ap pipe.Ask (request_one laws t a b p.0 q.0)
PipeAskTree-one laws t (pipe.Ask a) (pipe.Declined d) p q = absurd (p.1 d q.stands_itself)
PipeAskTree-one laws t (pipe.Declined d) (pipe.Ask a) p q = absurd (q.1 d p.stands_itself)
PipeAskTree-one laws t (pipe.Declined d) (pipe.Declined e) p q = ap pipe.Declined (IsFirst-one (RequestStands t) d e p q)

pub RequestTree-fits : FittingAsksAreRead → FittingAsksAreTaken
RequestTree-fits laws a t p = (
  λ fits d here. (laws a t p.members).0 fits d (request_stands (ask_kind a) t d p.kind here),
  λ none. (laws a t p.members).1 (λ d here. none d (in_members (ask_kind a) p.kind here)),
)

-- ---- readings

pub request_read : (k : AskKind) (t : Data) (r : Result Ask ReadFail) → HasKind k t → Reads (λ x. IsAskOf k x t) (AskMembersStand k t) r → Reads (λ x. RequestTree x t) (RequestStands t) r
request_read k t r is reads =
    Reads-weaken (λ x. IsAskOf k x t) (λ x. RequestTree x t) (RequestStands t) r (λ x h. record { kind = subst (λ j. HasKind j t) (sym h.kind) is; members = h.members })
    (Reads-same (λ x. IsAskOf k x t) (AskMembersStand k t) (RequestStands t) r (λ d here. in_members k is here) (λ d here. request_stands k t d is here) reads)

none_below : (k : Decline) → rank_of k < rank_of Unknown → ⊥
none_below k h = omega arith

pub unknown_read : (t : Data) (s : List ℕ) → HasText t (codes "type") s → (s ≡ codes "describe" → ⊥) → ((k : AskKind) → IsPipelineKind k → ask_name k ≡ s → ⊥) → Reads (λ x. RequestTree x t) (RequestStands t) (Err (Declined Unknown))
unknown_read t s is other none =
    Reads-declined Unknown (record { stands_itself = other_kind s refl is other (λ k kind. none k kind.over_http (one _ _ _ kind.name is)); none_before = λ e less here. none_below e less })

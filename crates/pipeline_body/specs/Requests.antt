-- Which JSON trees a request of a pipeline may be written as, and which declines stand in a tree that should be one.
use Rattle.std.specs.Prelude.{◌≡◌, ◌↔◌, ℕ, List, None, codes}
use Rattle.serde_json.specs.Data.{Data}
use Rattle.hrana_value.specs.declared.failures.Decline.{Decline}
use Rattle.hrana_value.specs.declared.failures.Decline.TheVariants.{Unknown, Describe, Shape}
use Rattle.hrana_value.specs.Declines.{NoneStands, IsFirst}
use Rattle.hrana_value.specs.Members.{HasText, text_at}
use Rattle.stream_requests.specs.declared.asks.Ask.{Ask}
use Rattle.stream_requests.specs.declared.asks.AskKind.{AskKind}
use Rattle.stream_requests.specs.Asks.{ask_kind, AskMembers, AskMembersStand, AskFits}
use Rattle.stream_requests.specs.Results.{HasKind}
use Rattle.pipeline_body.specs.declared.bodies.PipeAsk.{PipeAsk}
use Rattle.pipeline_body.specs.declared.bodies.PipeAsk.TheVariants as pipe

-- The ask may be written as this tree. Members that are not named are ignored.
pub record RequestTree (a : Ask) (t : Data) : Type 0 where
  pub kind : HasKind (ask_kind a) t
  pub members : AskMembers a t

-- What stands in a request: `Shape` where it has no `type` that is a string, `Describe` and `Unknown` by its `type` alone,
-- and else what stands in the members that its kind has.
pub data RequestStands (t : Data) (d : Decline) : Type 0 where
  no_kind : d ≡ Shape → text_at (codes "type") t ≡ None → RequestStands t d
  is_describe : d ≡ Describe → HasText t (codes "type") (codes "describe") → RequestStands t d
  other_kind : (s : List ℕ) → d ≡ Unknown → HasText t (codes "type") s → (s ≡ codes "describe" → ⊥) → ((k : AskKind) → HasKind k t → ⊥) → RequestStands t d
  in_members : (k : AskKind) → HasKind k t → AskMembersStand k t d → RequestStands t d

-- a request in its place: an ask in which nothing is declined, or the first kind that stands in it
abbrev pub PipeAskTree : PipeAsk → Data → Type 0
PipeAskTree (pipe.Ask a) t = RequestTree a t × NoneStands (RequestStands t)
PipeAskTree (pipe.Declined d) t = IsFirst (RequestStands t) d

-- ---- laws

-- nothing is declined in the form of an ask exactly where the ask breaks no limit
abbrev pub FittingAsksAreTaken : Type 0
FittingAsksAreTaken = (a : Ask) (t : Data) → RequestTree a t → AskFits a ↔ NoneStands (RequestStands t)

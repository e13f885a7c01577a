-- Which JSON trees a result of a pipeline, that is a reply over HTTP, may be written as, and which declines stand in a tree
-- that should be one.
use Rattle.std.specs.Prelude.{◌≡◌, MatchOption, codes}
use Rattle.serde_json.specs.Data.{Data}
use Rattle.hrana_value.specs.declared.failures.Decline.{Decline}
use Rattle.hrana_value.specs.declared.failures.Decline.TheVariants.{Shape}
use Rattle.hrana_value.specs.Declines.{NoneStands}
use Rattle.hrana_value.specs.Members.{HasText, part_at}
use Rattle.hrana_stmt.specs.Tree.{WireErrorTree, WireErrorStands}
use Rattle.stream_requests.specs.declared.asks.AskKind.{AskKind}
use Rattle.stream_requests.specs.declared.asks.AskKind.TheVariants as ask
use Rattle.stream_requests.specs.declared.replies.Reply.{Reply}
use Rattle.stream_requests.specs.declared.replies.Reply.TheVariants.{Failed}
use Rattle.stream_requests.specs.AskNames.{ask_name}
use Rattle.stream_requests.specs.Replies.{answered_kind, IsReplyTo, ReplyMembersStand}

-- a request of a pipeline asks so: all but the three kinds about the cursor of a stream
abbrev pub IsPipelineKind : AskKind → Type 0
IsPipelineKind ask.Cursor = ⊥
IsPipelineKind ask.Fetch = ⊥
IsPipelineKind ask.CloseCursor = ⊥
IsPipelineKind k = Unit {0}

-- the reply is a failure, or is one to a request of a pipeline
abbrev pub IsPipelineReply : Reply → Type 0
IsPipelineReply (Failed e) = Unit {0}
IsPipelineReply r = MatchOption (answered_kind r) ⊥ IsPipelineKind

-- the tree's `type` is that of this kind, which a pipeline may ask
pub record HasKind (k : AskKind) (t : Data) : Type 0 where
  pub over_http : IsPipelineKind k
  pub name : HasText t (codes "type") (ask_name k)

-- the reply to a request may be written as this tree
pub record ResponseTree (r : Reply) (t : Data) : Type 0 where
  pub asked : AskKind
  pub kind : HasKind asked t
  pub reply : IsReplyTo asked r t

-- `Shape` stands where the `type` is that of no kind, and else what stands in the members
pub data ResponseStands (t : Data) (d : Decline) : Type 0 where
  no_kind : d ≡ Shape → ((k : AskKind) → HasKind k t → ⊥) → ResponseStands t d
  in_members : (k : AskKind) → HasKind k t → ReplyMembersStand k t d → ResponseStands t d

abbrev pub response_of : Data → Data
response_of t = part_at (codes "response") t

abbrev pub error_of : Data → Data
error_of t = part_at (codes "error") t

-- The result may be written as this tree. Members that are not named are ignored.
abbrev pub ResultTree : Reply → Data → Type 0
ResultTree (Failed e) t = HasText t (codes "type") (codes "error") × WireErrorTree e (error_of t)
ResultTree r t = HasText t (codes "type") (codes "ok") × ResponseTree r (response_of t)

-- `Shape` stands where the `type` is neither of the two, and else what stands in the response or the error
pub data ResultStands (t : Data) (d : Decline) : Type 0 where
  other_result : d ≡ Shape → (HasText t (codes "type") (codes "ok") → ⊥) → (HasText t (codes "type") (codes "error") → ⊥) → ResultStands t d
  in_response : HasText t (codes "type") (codes "ok") → ResponseStands (response_of t) d → ResultStands t d
  in_error : HasText t (codes "type") (codes "error") → WireErrorStands (error_of t) d → ResultStands t d

-- ---- laws

-- a tree is the form of at most one result
abbrev pub NoTreeIsTwoPipelineResults : Type 0
NoTreeIsTwoPipelineResults = (t : Data) (r s : Reply) → ResultTree r t → ResultTree s t → r ≡ s

-- nothing is declined in the form of a result
abbrev pub PipelineResultsAreRead : Type 0
PipelineResultsAreRead = (r : Reply) (t : Data) → ResultTree r t → NoneStands (ResultStands t)

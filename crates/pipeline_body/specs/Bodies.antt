-- Which bytes are the body of a pipeline, and why others are none.
use Rattle.std.specs.Prelude.{◌≡◌, ℕ, ◌≤◌, ◌<◌, List, length, All, Result, Ok, Err, codes}
use Rattle.serde_json.specs.Data.{Data}
use Rattle.hrana_value.specs.declared.failures.Decline.{Decline}
use Rattle.hrana_value.specs.Declines.{EitherStands}
use Rattle.hrana_value.specs.Members.{part_at, TextTree, TextStands}
use Rattle.hrana_value.specs.Trees.{OptionalTree, OptionalStands, ArrayTree, ArrayStands}
use Rattle.stream_requests.specs.Asks.{ask_kind, AskFits, NothingStands}
use Rattle.stream_requests.specs.JsonTexts.{IsJson, IsNoJson}
use Rattle.stream_requests.specs.Results.{IsPipelineKind}
use Rattle.pipeline_body.specs.declared.limits.TheConstants.{MAX_PIPELINE_ASKS}
use Rattle.pipeline_body.specs.declared.bodies.PipeAsk.{PipeAsk}
use Rattle.pipeline_body.specs.declared.bodies.PipeAsk.TheVariants as pipe
use Rattle.pipeline_body.specs.declared.bodies.PipelineBody.{PipelineBody}
use Rattle.pipeline_body.specs.declared.bodies.BodyFail.{BodyFail}
use Rattle.pipeline_body.specs.declared.bodies.BodyFail.TheVariants.{NotJson, Shape, TooMany, Declined, NoMemory}
use Rattle.pipeline_body.specs.Requests.{PipeAskTree}

-- ---- trees

-- The body may be written as this tree. Members that are not named are ignored.
pub record BodyTree (b : PipelineBody) (t : Data) : Type 0 where
  pub baton : OptionalTree TextTree b.baton (part_at (codes "baton") t)
  pub asks : ArrayTree PipeAskTree b.asks (part_at (codes "requests") t)

-- `Shape` stands where the baton is neither absent nor a string, or the requests are no array
abbrev pub BodyStands : Data → Decline → Type 0
BodyStands t = EitherStands (OptionalStands TextStands (part_at (codes "baton") t)) (ArrayStands (λ _. NothingStands) (part_at (codes "requests") t))

-- the tree is that of a body with no more requests than it may hold
abbrev pub IsBodyTree : PipelineBody → Data → Type 0
IsBodyTree b t = BodyTree b t × (length b.asks ≤ MAX_PIPELINE_ASKS)

-- why a tree is that of no body: none stands in it, or one with more requests than it may hold
abbrev pub IsNoBodyTree : Data → BodyFail → Type 0
IsNoBodyTree t NotJson = ⊥
IsNoBodyTree t Shape = (b : PipelineBody) → BodyTree b t → ⊥
IsNoBodyTree t TooMany = (b : PipelineBody) × BodyTree b t × (MAX_PIPELINE_ASKS < length b.asks)
IsNoBodyTree t (Declined d) = ⊥
IsNoBodyTree t NoMemory = Unit {0}

-- ---- bodies that can be written

-- the request isn't declined, and is one over HTTP
abbrev pub HasAskForm : PipeAsk → Type 0
HasAskForm (pipe.Ask a) = IsPipelineKind (ask_kind a)
HasAskForm (pipe.Declined d) = ⊥

abbrev pub HasBodyForm : PipelineBody → Type 0
HasBodyForm b = All HasAskForm b.asks

abbrev pub FitsInPlace : PipeAsk → Type 0
FitsInPlace (pipe.Ask a) = AskFits a
FitsInPlace (pipe.Declined d) = ⊥

-- the body breaks no limit
pub record BodyFits (b : PipelineBody) : Type 0 where
  pub asks : All FitsInPlace b.asks
  pub count : length b.asks ≤ MAX_PIPELINE_ASKS

-- ---- bytes

abbrev pub IsBody : List ℕ → PipelineBody → Type 0
IsBody bytes b = (t : Data) × IsJson bytes t × IsBodyTree b t

-- why bytes are no body
abbrev pub IsNoBody : List ℕ → BodyFail → Type 0
IsNoBody bytes NotJson = IsNoJson bytes
IsNoBody bytes NoMemory = Unit {0}
IsNoBody bytes f = (t : Data) × IsJson bytes t × IsNoBodyTree t f

-- ---- laws

-- a tree is the form of at most one body
abbrev pub NoTreeIsTwoBodies : Type 0
NoTreeIsTwoBodies = (t : Data) (a b : PipelineBody) → BodyTree a t → BodyTree b t → a ≡ b

-- what can be said of bytes: that they are a body, or why they are none
pub data BodyReading (bytes : List ℕ) : Result PipelineBody BodyFail → Type 0 where
  is_body : (b : PipelineBody) → IsBody bytes b → BodyReading bytes (Ok b)
  is_none : (f : BodyFail) → (f ≡ NoMemory → ⊥) → IsNoBody bytes f → BodyReading bytes (Err f)

-- of any bytes one such thing can be said at most
abbrev pub NoBytesHaveTwoBodyReadings : Type 0
NoBytesHaveTwoBodyReadings = (bytes : List ℕ) (a b : Result PipelineBody BodyFail) → BodyReading bytes a → BodyReading bytes b → a ≡ b

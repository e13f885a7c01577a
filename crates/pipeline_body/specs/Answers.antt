-- Which bytes are the answer to a pipeline, and why others are none.
use Rattle.std.specs.Prelude.{◌≡◌, ℕ, List, Option, All, Result, Ok, Err, codes}
use Rattle.serde_json.specs.Data.{Data}
use Rattle.hrana_value.specs.declared.failures.Decline.{Decline}
use Rattle.hrana_value.specs.declared.failures.Decline.TheVariants.{Float}
use Rattle.hrana_value.specs.Declines.{NoneStands, IsFirst, EitherStands}
use Rattle.hrana_value.specs.Members.{part_at, TextTree, TextStands}
use Rattle.hrana_value.specs.Trees.{OptionalTree, OptionalStands, ArrayTree, ArrayStands}
use Rattle.stream_requests.specs.JsonTexts.{IsJson, IsNoJson}
use Rattle.stream_requests.specs.Results.{IsPipelineReply, ResultTree, ResultStands}
use Rattle.pipeline_body.specs.declared.bodies.PipelineAnswer.{PipelineAnswer}
use Rattle.pipeline_body.specs.declared.bodies.BodyFail.{BodyFail}
use Rattle.pipeline_body.specs.declared.bodies.BodyFail.TheVariants.{NotJson, Shape, TooMany, Declined, NoMemory}

-- ---- trees

abbrev pub HasOptionalText : Data → Type 0
HasOptionalText t = (o : Option (List ℕ)) × OptionalTree TextTree o t

-- the texts of an answer: its baton, and any `base_url`
abbrev pub AnswerTexts : Option (List ℕ) → Data → Type 0
AnswerTexts baton t = OptionalTree TextTree baton (part_at (codes "baton") t) × HasOptionalText (part_at (codes "base_url") t)

-- The answer may be written as this tree. Members that are not named are ignored.
pub record AnswerTree (a : PipelineAnswer) (t : Data) : Type 0 where
  pub texts : AnswerTexts a.baton t
  pub results : ArrayTree ResultTree a.results (part_at (codes "results") t)

-- what stands in the two texts
abbrev pub AnswerTextsStand : Data → Decline → Type 0
AnswerTextsStand t = EitherStands (OptionalStands TextStands (part_at (codes "baton") t)) (OptionalStands TextStands (part_at (codes "base_url") t))

-- what stands in the tree of an answer
abbrev pub AnswerStands : Data → Decline → Type 0
AnswerStands t = EitherStands (AnswerTextsStand t) (ArrayStands ResultStands (part_at (codes "results") t))

-- the tree is that of no answer, and a float isn't the first that is declined in it
pub record IsMisshapen (t : Data) : Type 0 where
  pub no_answer : (a : PipelineAnswer) → AnswerTree a t → ⊥
  pub no_float : IsFirst (AnswerStands t) Float → ⊥

-- why a tree is that of no answer: a float is the first that is declined, or it has no form otherwise
abbrev pub IsNoAnswerTree : Data → BodyFail → Type 0
IsNoAnswerTree t NotJson = ⊥
IsNoAnswerTree t Shape = IsMisshapen t
IsNoAnswerTree t TooMany = ⊥
IsNoAnswerTree t (Declined d) = (d ≡ Float) × IsFirst (AnswerStands t) Float
IsNoAnswerTree t NoMemory = Unit {0}

-- ---- answers that can be written

-- each result is a failure, or the reply to a request over HTTP
abbrev pub HasAnswerForm : PipelineAnswer → Type 0
HasAnswerForm a = All IsPipelineReply a.results

-- ---- bytes

abbrev pub IsAnswer : List ℕ → PipelineAnswer → Type 0
IsAnswer bytes a = (t : Data) × IsJson bytes t × AnswerTree a t

-- why bytes are no answer
abbrev pub IsNoAnswer : List ℕ → BodyFail → Type 0
IsNoAnswer bytes NotJson = IsNoJson bytes
IsNoAnswer bytes NoMemory = Unit {0}
IsNoAnswer bytes f = (t : Data) × IsJson bytes t × IsNoAnswerTree t f

-- ---- laws

-- a tree is the form of at most one answer
abbrev pub NoTreeIsTwoAnswers : Type 0
NoTreeIsTwoAnswers = (t : Data) (a b : PipelineAnswer) → AnswerTree a t → AnswerTree b t → a ≡ b

-- nothing is declined in the form of an answer
abbrev pub AnswersAreRead : Type 0
AnswersAreRead = (a : PipelineAnswer) (t : Data) → AnswerTree a t → NoneStands (AnswerStands t)

-- what can be said of bytes: that they are an answer, or why they are none
pub data AnswerReading (bytes : List ℕ) : Result PipelineAnswer BodyFail → Type 0 where
  is_answer : (a : PipelineAnswer) → IsAnswer bytes a → AnswerReading bytes (Ok a)
  is_none : (f : BodyFail) → (f ≡ NoMemory → ⊥) → IsNoAnswer bytes f → AnswerReading bytes (Err f)

-- of any bytes one such thing can be said at most
abbrev pub NoBytesHaveTwoAnswerReadings : Type 0
NoBytesHaveTwoAnswerReadings = (bytes : List ℕ) (a b : Result PipelineAnswer BodyFail) → AnswerReading bytes a → AnswerReading bytes b → a ≡ b

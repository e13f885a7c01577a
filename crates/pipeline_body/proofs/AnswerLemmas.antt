-- A tree is one of at most one answer to a pipeline, what could not be read, and of any bytes one thing can be said at most.
use Rattle.std.proofs.Common.{◌≡◌, ℕ, ◌<◌, List, Option, Ok, Err, codes, refl, subst, sym, ap, ◌∙◌, arith}
use Rattle.serde_json.specs.Data.{Data}
use Rattle.hrana_value.specs.declared.failures.Decline.{Decline}
use Rattle.hrana_value.specs.declared.failures.Decline.TheVariants as kind
use Rattle.hrana_value.specs.declared.failures.ReadFail.{ReadFail}
use Rattle.hrana_value.specs.declared.failures.ReadFail.TheVariants as reading
use Rattle.hrana_value.specs.Declines.{rank_of, IsFirst, IsDeclinedAs}
use Rattle.hrana_value.specs.Members.{part_at, TextTree, TextStands}
use Rattle.hrana_value.specs.Trees.{OptionalStands, ArrayStands}
use Rattle.hrana_value.proofs.ArrayLemmas.{ArrayTree-none}
use Rattle.hrana_value.proofs.DeclineLemmas.{NoneStands-parts}
use Rattle.hrana_value.proofs.ItemsLemmas.{ArrayTree-one}
use Rattle.hrana_value.proofs.PartLemmas.{OptionalTree-one, OptionalTree-none, TextTree-none}
use Rattle.stream_requests.specs.declared.replies.Reply.{Reply}
use Rattle.stream_requests.specs.Results.{ResultTree, ResultStands, NoTreeIsTwoPipelineResults, PipelineResultsAreRead}
use Rattle.stream_requests.proofs.BatchFacts.{results_none}
use Rattle.stream_requests.proofs.JsonTextLemmas.{json_one, not_both}
use Rattle.stream_requests.proofs.ReplyLemmas.{ReplyMembers-none}
use Rattle.stream_requests.proofs.ResultLemmas.{ResultTree-none}
use Rattle.pipeline_body.specs.declared.bodies.PipelineAnswer.{PipelineAnswer}
use Rattle.pipeline_body.specs.declared.bodies.BodyFail.{BodyFail}
use Rattle.pipeline_body.specs.declared.bodies.BodyFail.TheVariants.{NotJson, Shape, TooMany, Declined, NoMemory}
use Rattle.pipeline_body.specs.Failures.{answer_failure}
use Rattle.pipeline_body.specs.Answers.{AnswerTree, AnswerTextsStand, AnswerStands, IsMisshapen, IsNoAnswerTree, IsAnswer, IsNoAnswer, NoTreeIsTwoAnswers, AnswersAreRead, is_answer, is_none, NoBytesHaveTwoAnswerReadings}
use Rattle.pipeline_body.proofs.BodyLemmas.{text_one}

-- ---- trees

abbrev make : Option (List ℕ) → List Reply → PipelineAnswer
make baton results = record { baton = baton; results = results }

pub AnswerTree-one : NoTreeIsTwoPipelineResults → NoTreeIsTwoAnswers
AnswerTree-one laws t a b p q =
    let baton : a.baton ≡ b.baton = OptionalTree-one TextTree text_one _ a.baton b.baton p.texts.0 q.texts.0 in
    let results : a.results ≡ b.results = ArrayTree-one ResultTree laws _ a.results b.results p.results q.results in
    ap (λ o. make o a.results) baton ∙ ap (make b.baton) results

pub AnswerTree-none : PipelineResultsAreRead → AnswersAreRead
AnswerTree-none laws a t p =
    NoneStands-parts (AnswerTextsStand t) (ArrayStands ResultStands (part_at (codes "results") t))
    (NoneStands-parts (OptionalStands TextStands (part_at (codes "baton") t)) (OptionalStands TextStands (part_at (codes "base_url") t)) (OptionalTree-none TextTree TextStands TextTree-none a.baton _ p.texts.0)
    (OptionalTree-none TextTree TextStands TextTree-none p.texts.1.0 _ p.texts.1.1)) (ArrayTree-none ResultTree ResultStands laws a.results _ p.results)

-- ---- what could not be read

answers_none : AnswersAreRead
answers_none = AnswerTree-none (ResultTree-none (ReplyMembers-none results_none))

misshapen : (t : Data) (k : Decline) → IsFirst (AnswerStands t) k → rank_of k < rank_of kind.Float → IsMisshapen t
misshapen t k first less = record { no_answer = λ a tree. answers_none a t tree k first.stands_itself; no_float = λ float. float.none_before k less first.stands_itself }

pub answer_refused : (t : Data) (f : ReadFail) → IsDeclinedAs (AnswerStands t) f → IsNoAnswerTree t (answer_failure f)
answer_refused t reading.NoMemory p = tt
answer_refused t (reading.Declined kind.Float) p = (refl, p)
answer_refused t (reading.Declined kind.Unknown) p = misshapen t kind.Unknown p (omega arith)
answer_refused t (reading.Declined kind.Describe) p = misshapen t kind.Describe p (omega arith)
answer_refused t (reading.Declined kind.Shape) p = misshapen t kind.Shape p (omega arith)
answer_refused t (reading.Declined kind.BothSql) p = misshapen t kind.BothSql p (omega arith)
answer_refused t (reading.Declined kind.BadStep) p = misshapen t kind.BadStep p (omega arith)
answer_refused t (reading.Declined kind.Range) p = misshapen t kind.Range p (omega arith)

-- ---- bytes

answer_not_refused : AnswersAreRead → (bytes : List ℕ) (a : PipelineAnswer) (f : BodyFail) → (f ≡ NoMemory → ⊥) → IsAnswer bytes a → IsNoAnswer bytes f → ⊥
answer_not_refused laws bytes a NotJson told p q = not_both bytes p.0 q p.1
answer_not_refused laws bytes a Shape told p q = q.2.no_answer a (subst (AnswerTree a) (json_one bytes p.0 q.0 p.1 q.1) p.2)
answer_not_refused laws bytes a TooMany told p q = q.2
answer_not_refused laws bytes a (Declined d) told p q = laws a q.0 (subst (AnswerTree a) (json_one bytes p.0 q.0 p.1 q.1) p.2) kind.Float q.2.1.stands_itself
answer_not_refused laws bytes a NoMemory told p q = told refl

refused_one : (bytes : List ℕ) (f g : BodyFail) → (f ≡ NoMemory → ⊥) → (g ≡ NoMemory → ⊥) → IsNoAnswer bytes f → IsNoAnswer bytes g → f ≡ g
refused_one bytes TooMany g m n p q = absurd p.2
refused_one bytes f TooMany m n p q = absurd q.2
refused_one bytes NoMemory g m n p q = absurd (m refl)
refused_one bytes f NoMemory m n p q = absurd (n refl)
refused_one bytes NotJson NotJson m n p q = refl
refused_one bytes NotJson g m n p q = absurd (not_both bytes q.0 p q.1)
refused_one bytes f NotJson m n p q = absurd (not_both bytes p.0 q p.1)
refused_one bytes Shape Shape m n p q = refl
refused_one bytes Shape (Declined d) m n p q = absurd (p.2.no_float (subst (λ t. IsFirst (AnswerStands t) kind.Float) (json_one bytes q.0 p.0 q.1 p.1) q.2.1))
refused_one bytes (Declined d) Shape m n p q = absurd (q.2.no_float (subst (λ t. IsFirst (AnswerStands t) kind.Float) (json_one bytes p.0 q.0 p.1 q.1) p.2.1))
refused_one bytes (Declined d) (Declined e) m n p q = ap Declined (p.2.0 ∙ sym q.2.0)

pub AnswerReading-one : NoTreeIsTwoAnswers → AnswersAreRead → NoBytesHaveTwoAnswerReadings
AnswerReading-one laws are_read bytes a b (is_answer x p) (is_answer y q) = ap Ok (laws q.0 x y (subst (AnswerTree x) (json_one bytes p.0 q.0 p.1 q.1) p.2) q.2)
AnswerReading-one laws are_read bytes a b (is_answer x p) (is_none f told q) = absurd (answer_not_refused are_read bytes x f told p q)
AnswerReading-one laws are_read bytes a b (is_none f told p) (is_answer y q) = absurd (answer_not_refused are_read bytes y f told q p)
AnswerReading-one laws are_read bytes a b (is_none f m p) (is_none g n q) = ap Err (refused_one bytes f g m n p q)

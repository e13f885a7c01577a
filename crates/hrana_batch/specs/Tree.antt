-- Which JSON trees batches and their results may be written as, and which declines stand in a tree that should be one.
use Rattle.std.specs.Prelude.{◌≡◌, ◌⊎◌, ◌↔◌, ℕ, suc, ℤ, pos, negsuc, ◌≤◌, ◌<◌, ◌^◌, List, [], ◌∷◌, length, Option, None, Some, slice_get, codes, IsSomeAnd, IfSome}
use Rattle.serde_json.specs.Data.{Data, array, Items, no_items, item}
use Rattle.serde_json.specs.Find.{as_array}
use Rattle.hrana_value.specs.declared.failures.Decline.{Decline}
use Rattle.hrana_value.specs.declared.failures.Decline.TheVariants.{Shape, BadStep, Range}
use Rattle.hrana_value.specs.Declines.{NoneStands, EitherStands, Only}
use Rattle.hrana_value.specs.Members.{HasText, part_at, whole_of, Uint32Tree}
use Rattle.hrana_value.specs.Trees.{ArrayTree, ArrayStands, OptionalTree, OptionalStands}
use Rattle.hrana_stmt.specs.Tree.{IsGiven, StmtTree, StmtStands, StmtFits, StmtResultTree, StmtResultStands, WireErrorTree, WireErrorStands, items_count, count_of}
use Rattle.hrana_stmt.specs.declared.results.StmtResult.{StmtResult}
use Rattle.hrana_stmt.specs.declared.errors.WireError.{WireError}
use Rattle.hrana_batch.specs.declared.limits.TheConstants.{MAX_STEPS, MAX_CONDITION_DEPTH}
use Rattle.hrana_batch.specs.declared.conditions.Cond.{Cond}
use Rattle.hrana_batch.specs.declared.conditions.Cond.TheVariants.{StepOk, StepError, Not, All, Any, Autocommit}
use Rattle.hrana_batch.specs.declared.batches.Step.{Step}
use Rattle.hrana_batch.specs.declared.batches.Batch.{Batch}
use Rattle.hrana_batch.specs.declared.outcomes.Outcome.{Outcome}
use Rattle.hrana_batch.specs.declared.outcomes.Outcome.TheVariants.{Done, Failed}
use Rattle.hrana_batch.specs.declared.outcomes.BatchResult.{BatchResult}
use Rattle.hrana_batch.specs.Conditions.{NamesBelow, IsWithinDepth, depth_of}

-- ---- conditions

abbrev pub HasKind : Data → List ℕ → Type 0
HasKind t kind = HasText t (codes "type") kind

mutual
  pub data CondTree : Cond → Data → Type 0 where
    step_ok : (n : ℕ) (t : Data) → HasKind t (codes "ok") → Uint32Tree n (part_at (codes "step") t) → CondTree (StepOk n) t
    step_error : (n : ℕ) (t : Data) → HasKind t (codes "error") → Uint32Tree n (part_at (codes "step") t) → CondTree (StepError n) t
    negation : (c : Cond) (t : Data) → HasKind t (codes "not") → CondTree c (part_at (codes "cond") t) → CondTree (Not c) t
    conjunction : (cs : List Cond) (t : Data) (ds : Items) → HasKind t (codes "and") → part_at (codes "conds") t ≡ array ds → CondsTree cs ds → CondTree (All cs) t
    disjunction : (cs : List Cond) (t : Data) (ds : Items) → HasKind t (codes "or") → part_at (codes "conds") t ≡ array ds → CondsTree cs ds → CondTree (Any cs) t
    autocommit : (t : Data) → HasKind t (codes "is_autocommit") → CondTree Autocommit t

  -- each item is the tree of the condition in its place
  pub data CondsTree : List Cond → Items → Type 0 where
    no_conds : CondsTree [] no_items
    more_conds : (c : Cond) (cs : List Cond) (d : Data) (ds : Items) → CondTree c d → CondsTree cs ds → CondsTree (c ∷ cs) (item d ds)

-- the names of the kinds of conditions
pub data IsKind : List ℕ → Type 0 where
  ok_kind : IsKind (codes "ok")
  error_kind : IsKind (codes "error")
  not_kind : IsKind (codes "not")
  and_kind : IsKind (codes "and")
  or_kind : IsKind (codes "or")
  autocommit_kind : IsKind (codes "is_autocommit")

abbrev pub HasNoKind : Data → Type 0
HasNoKind t = (kind : List ℕ) → HasKind t kind → IsKind kind → ⊥

-- the number is that of a step before this one
abbrev pub IsEarlierThan : ℕ → ℕ → Type 0
IsEarlierThan step n = (n < step) × (n < 2 ^ 32)

-- the number is no negative one, and not that of a step before this one
abbrev pub NamesNoEarlier : ℕ → ℤ → Type 0
NamesNoEarlier step (pos n) = IsEarlierThan step n → ⊥
NamesNoEarlier step (negsuc n) = ⊥

abbrev pub IsNegative : ℤ → Type 0
IsNegative (pos n) = ⊥
IsNegative (negsuc n) = Unit {0}

-- what stands in the number of a step that a condition of this step names
abbrev pub StepNumberStands : ℕ → Data → Decline → Type 0
StepNumberStands step d Shape = whole_of d ≡ None
StepNumberStands step d BadStep = IsSomeAnd (whole_of d) (NamesNoEarlier step)
StepNumberStands step d Range = IsSomeAnd (whole_of d) IsNegative
StepNumberStands step d k = ⊥

-- what stands in a condition of this step or in one of its parts
mutual
  pub data StandsWithin (step : ℕ) : Data → Decline → Type 0 where
    no_kind : (t : Data) → HasNoKind t → StandsWithin step t Shape
    in_number : (t : Data) (k : Decline) → HasKind t (codes "ok") ⊎ HasKind t (codes "error") → StepNumberStands step (part_at (codes "step") t) k → StandsWithin step t k
    in_part : (t : Data) (k : Decline) → HasKind t (codes "not") → StandsWithin step (part_at (codes "cond") t) k → StandsWithin step t k
    no_list : (t : Data) → HasKind t (codes "and") ⊎ HasKind t (codes "or") → as_array (part_at (codes "conds") t) ≡ None → StandsWithin step t Shape
    in_list : (t : Data) (ds : Items) (k : Decline) → HasKind t (codes "and") ⊎ HasKind t (codes "or") → part_at (codes "conds") t ≡ array ds → StandsInOne step ds k → StandsWithin step t k

  pub data StandsInOne (step : ℕ) : Items → Decline → Type 0 where
    in_first : (d : Data) (ds : Items) (k : Decline) → StandsWithin step d k → StandsInOne step (item d ds) k
    in_later : (d : Data) (ds : Items) (k : Decline) → StandsInOne step ds k → StandsInOne step (item d ds) k

-- the tree is that of a condition which is too deep
abbrev pub IsTooDeep : Data → Type 0
IsTooDeep t = (c : Cond) × CondTree c t × (MAX_CONDITION_DEPTH < depth_of c)

abbrev pub CondStands : ℕ → Data → Decline → Type 0
CondStands step t = EitherStands (StandsWithin step t) (Only Range (IsTooDeep t))

-- the condition names steps before this one, and is not too deep
pub record CondFits (step : ℕ) (c : Cond) : Type 0 where
  pub earlier : NamesBelow step c
  pub depth : IsWithinDepth c

-- ---- batches

pub record StepTree (s : Step) (t : Data) : Type 0 where
  pub condition : OptionalTree CondTree s.condition (part_at (codes "condition") t)
  pub stmt : StmtTree s.stmt (part_at (codes "stmt") t)

abbrev pub StepStands : ℕ → Data → Decline → Type 0
StepStands step t = EitherStands (OptionalStands (CondStands step) (part_at (codes "condition") t)) (StmtStands (part_at (codes "stmt") t))

-- what stands in the steps, the first of which has this number
abbrev pub StepsStand : ℕ → Items → Decline → Type 0
StepsStand step no_items k = ⊥
StepsStand step (item d ds) k = StepStands step d k ⊎ StepsStand (suc step) ds k

abbrev pub StepArrayStands : Data → Decline → Type 0
StepArrayStands (array ds) k = StepsStand 0 ds k
StepArrayStands other k = Only Shape (Unit {0}) k

abbrev pub BatchTree : Batch → Data → Type 0
BatchTree b t = ArrayTree StepTree b.steps (part_at (codes "steps") t)

-- a batch has so many steps at most
abbrev pub BatchStands : Data → Decline → Type 0
BatchStands t = EitherStands (StepArrayStands (part_at (codes "steps") t)) (Only Range (MAX_STEPS < count_of (part_at (codes "steps") t)))

pub record StepFits (step : ℕ) (s : Step) : Type 0 where
  pub condition : IfSome s.condition (CondFits step)
  pub stmt : StmtFits s.stmt

-- the batch breaks no limit, and its conditions name earlier steps
pub record BatchFits (b : Batch) : Type 0 where
  pub few : length b.steps ≤ MAX_STEPS
  pub each : (i : ℕ) → IfSome (slice_get b.steps i) (StepFits i)

-- ---- results of batches

abbrev pub result_of : Outcome → Option StmtResult
result_of (Done r) = Some r
result_of o = None

abbrev pub error_in : Outcome → Option WireError
error_in (Failed e) = Some e
error_in o = None

-- an entry of `step_results`: null where the step has no result
abbrev pub ResultEntryTree : Outcome → Data → Type 0
ResultEntryTree o d = OptionalTree StmtResultTree (result_of o) d

-- an entry of `step_errors`: null where the step has no error
abbrev pub ErrorEntryTree : Outcome → Data → Type 0
ErrorEntryTree o d = OptionalTree WireErrorTree (error_in o) d

pub record BatchResultTree (r : BatchResult) (t : Data) : Type 0 where
  pub results : ArrayTree ResultEntryTree r.outcomes (part_at (codes "step_results") t)
  pub errors : ArrayTree ErrorEntryTree r.outcomes (part_at (codes "step_errors") t)

-- in some place both lists have an entry that isn't null
abbrev pub BothGiven : Items → Items → Type 0
BothGiven (item r rs) (item e es) = (IsGiven r × IsGiven e) ⊎ BothGiven rs es
BothGiven rs es = ⊥

-- the lists differ in length, or both have an entry in one place
abbrev pub ListsClash : Items → Items → Type 0
ListsClash rs es = (items_count rs ≡ items_count es → ⊥) ⊎ BothGiven rs es

abbrev pub PartsClash : Data → Data → Type 0
PartsClash results errors = (rs : Items) × (es : Items) × (results ≡ array rs) × (errors ≡ array es) × ListsClash rs es

abbrev pub BatchResultStands : Data → Decline → Type 0
BatchResultStands t =
    EitherStands (EitherStands (ArrayStands (OptionalStands StmtResultStands) (part_at (codes "step_results") t)) (ArrayStands (OptionalStands WireErrorStands) (part_at (codes "step_errors") t)))
    (Only Shape (PartsClash (part_at (codes "step_results") t) (part_at (codes "step_errors") t)))

-- ---- laws

-- a tree is the form of at most one condition
abbrev pub NoTreeIsTwoConditions : Type 0
NoTreeIsTwoConditions = (t : Data) (c d : Cond) → CondTree c t → CondTree d t → c ≡ d

-- a tree is the form of at most one batch
abbrev pub NoTreeIsTwoBatches : Type 0
NoTreeIsTwoBatches = (t : Data) (b c : Batch) → BatchTree b t → BatchTree c t → b ≡ c

-- a tree is the form of at most one result of a batch
abbrev pub NoTreeIsTwoBatchResults : Type 0
NoTreeIsTwoBatchResults = (t : Data) (r s : BatchResult) → BatchResultTree r t → BatchResultTree s t → r ≡ s

-- nothing is declined in the form of a batch exactly where the batch breaks no limit
abbrev pub FittingBatchesAreRead : Type 0
FittingBatchesAreRead = (b : Batch) (t : Data) → BatchTree b t → BatchFits b ↔ NoneStands (BatchStands t)

-- nothing is declined in the form of a result of a batch
abbrev pub BatchResultsAreRead : Type 0
BatchResultsAreRead = (r : BatchResult) (t : Data) → BatchResultTree r t → NoneStands (BatchResultStands t)

-- A tree is one of at most one batch, and nothing is declined in it exactly where the batch fits.
use Rattle.std.proofs.Common.{◌≡◌, ◌⊎◌, inl, inr, ℕ, zero, suc, ◌+◌, ◌<◌, List, [], ◌∷◌, length, Option, None, Some, Bool, true, false, ◌&&◌, map, codes, slice_get, sym, ◌∙◌, refl, ap, subst, arith}
use Rattle.std.specs.Prelude.{Result, Ok, Err, IfOk, nat_lt, IsSomeAnd, IfSome}
use Rattle.std.specs.List.{list_all}
use Rattle.std.proofs.lemmas.Bool.{cases_lt}
use Rattle.std.proofs.lemmas.Bool.Decides.{nat_tests}
use Rattle.serde_json.specs.Data.{Data, null, boolean, number, string, array, object, Items, no_items, item}
use Rattle.hrana_value.specs.declared.failures.Decline.{Decline}
use Rattle.hrana_value.specs.declared.failures.Decline.TheVariants.{Unknown, Describe, Shape, BothSql, BadStep, Range, Float}
use Rattle.hrana_value.specs.declared.failures.ReadFail.{ReadFail}
use Rattle.hrana_value.specs.Declines.{NoneStands, Only, Reads}
use Rattle.hrana_value.specs.Members.{part_at, Uint32Tree}
use Rattle.hrana_value.specs.Trees.{ItemsTree, ArrayTree, ArrayStands, OptionalTree, OptionalStands}
use Rattle.hrana_value.proofs.DeclineLemmas.{NoneStands-parts}
use Rattle.hrana_value.proofs.ItemsLemmas.{ArrayTree-one}
use Rattle.hrana_value.proofs.PartLemmas.{OptionalTree-one}
use Rattle.hrana_stmt.specs.declared.statements.Stmt.{Stmt}
use Rattle.hrana_stmt.specs.Tree.{StmtStands, items_count, count_of}
use Rattle.hrana_stmt.proofs.StmtLemmas.{StmtTree-one, StmtTree-fits}
use Rattle.hrana_batch.specs.declared.limits.TheConstants.{MAX_STEPS, MAX_CONDITION_DEPTH}
use Rattle.hrana_batch.specs.declared.conditions.Cond.{Cond}
use Rattle.hrana_batch.specs.declared.batches.Step.{Step}
use Rattle.hrana_batch.specs.declared.batches.Batch.{Batch}
use Rattle.hrana_batch.specs.Conditions.{names_below, NamesBelow, AllNameBelow, depth_of}
use Rattle.hrana_batch.specs.Progress.{NamesEarlierSteps}
use Rattle.hrana_batch.specs.Tree.{CondTree, CondsTree, step_ok, step_error, negation, conjunction, disjunction, autocommit, no_conds, more_conds, NamesNoEarlier, IsNegative, StepNumberStands, StandsWithin, in_number, in_part, in_list, StandsInOne, in_first, in_later, CondStands, CondFits, StepTree, StepStands, StepsStand, StepArrayStands, StepFits, BatchTree, BatchStands, BatchFits, NoTreeIsTwoBatches, FittingBatchesAreRead}
use Rattle.hrana_batch.proofs.CondLemmas.{names-StepOk, names-StepError, names-Not, names-All, names-Any, names-Autocommit}
use Rattle.hrana_batch.proofs.CondLaws.{CondTree-one}
use Rattle.hrana_batch.proofs.WithinLemmas.{IsListKind, one_stands, within_step, within_not, within_autocommit, within_list, items_stand}

-- ---- a tree is one of at most one batch

abbrev make_step : Option Cond → Stmt → Step
make_step c s = record { condition = c; stmt = s }

StepTree-one : (t : Data) (s r : Step) → StepTree s t → StepTree r t → s ≡ r
StepTree-one t s r p q =
    let condition : s.condition ≡ r.condition = OptionalTree-one CondTree CondTree-one _ s.condition r.condition p.condition q.condition in
    let stmt : s.stmt ≡ r.stmt = StmtTree-one _ s.stmt r.stmt p.stmt q.stmt in
    ap (λ c. make_step c s.stmt) condition ∙ ap (make_step r.condition) stmt

abbrev make_batch : List Step → Batch
make_batch steps = record { steps = steps }

pub BatchTree-one : NoTreeIsTwoBatches
BatchTree-one t b c p q = let same : b.steps ≡ c.steps = ArrayTree-one StepTree StepTree-one (part_at (codes "steps") t) b.steps c.steps p q in ap make_batch same

-- ---- the number of a step

below_true : (m n : ℕ) → m < n → nat_lt m n ≡ true
below_true m n h = grind (arith, nat_tests)

true_below : (m n : ℕ) → nat_lt m n ≡ true → m < n
true_below m n h = grind (arith, nat_tests)

number_none : (step n : ℕ) (d : Data) → Uint32Tree n d → n < step → NoneStands (StepNumberStands step d)
number_none step n d tree below Unknown here = here
number_none step n d tree below Describe here = here
number_none step n d tree below Shape here = cc (sym tree.is ∙ here)
number_none step n d tree below BothSql here = here
number_none step n d tree below BadStep here = subst (λ o. IsSomeAnd o (NamesNoEarlier step)) tree.is here (below, tree.fits)
number_none step n d tree below Range here = subst (λ o. IsSomeAnd o IsNegative) tree.is here
number_none step n d tree below Float here = here

number_below : (step n : ℕ) (d : Data) → Uint32Tree n d → NoneStands (StepNumberStands step d) → n < step
number_below step n d tree none = elim (cases_lt n step) [
  | inl less ↦ less
  | inr more ↦ absurd (none BadStep (subst (λ o. IsSomeAnd o (NamesNoEarlier step)) (sym tree.is) (λ earlier. let less = earlier.0 in absurd (omega arith))))
]

-- ---- a condition that names earlier steps

both_true : (a b : Bool) → (a && b) ≡ true → (a ≡ true) × (b ≡ true)
both_true true b h = (refl, h)
both_true false b h = cc h

join_true : (a b : Bool) → a ≡ true → b ≡ true → (a && b) ≡ true
join_true a b p q = rw (p, q) refl

none_in_none : (step : ℕ) (k : Decline) → StandsInOne step no_items k → ⊥
none_in_none step k here = items_stand step no_items k here

first_or_later : (step : ℕ) (d : Data) (ds : Items) (k : Decline) → StandsInOne step (item d ds) k → StandsWithin step d k ⊎ StandsInOne step ds k
first_or_later step d ds k here = elim (items_stand step (item d ds) k here) [ inl a ↦ inl a | inr b ↦ inr (one_stands step ds k b) ]

array_items : (step : ℕ) (ds : Items) (d : Data) (k : Decline) → d ≡ array ds → ArrayStands (StandsWithin step) d k → StandsInOne step ds k
array_items step ds d k e here = one_stands step ds k (subst (λ x. ArrayStands (StandsWithin step) x k) e here)

stands_in : (step : ℕ) (t : Data) (ds : Items) (k : Decline) → IsListKind t → part_at (codes "conds") t ≡ array ds → StandsWithin step t k → StandsInOne step ds k
stands_in step t ds k kind e here = array_items step ds (part_at (codes "conds") t) k e (within_list step t k kind here)

mutual
  within_none : (step : ℕ) (c : Cond) (t : Data) → CondTree c t → NamesBelow step c → NoneStands (StandsWithin step t)
  within_none step _ _ (step_ok n t kind u) names =
      λ k here. number_none step n (part_at (codes "step") t) u (true_below n step (sym (names-StepOk step n) ∙ names)) k (within_step step t k (inl kind) here)
  within_none step _ _ (step_error n t kind u) names =
      λ k here. number_none step n (part_at (codes "step") t) u (true_below n step (sym (names-StepError step n) ∙ names)) k (within_step step t k (inr kind) here)
  within_none step _ _ (negation c t kind u) names = λ k here. within_none step c (part_at (codes "cond") t) u (sym (names-Not step c) ∙ names) k (within_not step t k kind here)
  within_none step _ _ (conjunction cs t ds kind e u) names = λ k here. list_none step cs ds u (sym (names-All step cs) ∙ names) k (stands_in step t ds k (inl kind) e here)
  within_none step _ _ (disjunction cs t ds kind e u) names = λ k here. list_none step cs ds u (sym (names-Any step cs) ∙ names) k (stands_in step t ds k (inr kind) e here)
  within_none step _ _ (autocommit t kind) names = λ k here. within_autocommit step t k kind here

  list_none : (step : ℕ) (cs : List Cond) (ds : Items) → CondsTree cs ds → AllNameBelow step cs → NoneStands (StandsInOne step ds)
  list_none step _ _ no_conds names = λ k here. none_in_none step k here
  list_none step _ _ (more_conds c cs d ds p q) names =
      let each = both_true (names_below step c) (list_all (λ b. b) (map (names_below step) cs)) names in
      λ k here. elim (first_or_later step d ds k here) [ inl a ↦ within_none step c d p each.0 k a | inr b ↦ list_none step cs ds q each.1 k b ]

mutual
  within_names : (step : ℕ) (c : Cond) (t : Data) → CondTree c t → NoneStands (StandsWithin step t) → NamesBelow step c
  within_names step _ _ (step_ok n t kind u) none =
      names-StepOk step n ∙ below_true n step (number_below step n (part_at (codes "step") t) u (λ k here. none k (in_number t k (inl kind) here)))
  within_names step _ _ (step_error n t kind u) none =
      names-StepError step n ∙ below_true n step (number_below step n (part_at (codes "step") t) u (λ k here. none k (in_number t k (inr kind) here)))
  within_names step _ _ (negation c t kind u) none = names-Not step c ∙ within_names step c (part_at (codes "cond") t) u (λ k here. none k (in_part t k kind here))
  within_names step _ _ (conjunction cs t ds kind e u) none = names-All step cs ∙ list_names step cs ds u (λ k here. none k (in_list t ds k (inl kind) e here))
  within_names step _ _ (disjunction cs t ds kind e u) none = names-Any step cs ∙ list_names step cs ds u (λ k here. none k (in_list t ds k (inr kind) e here))
  within_names step _ _ (autocommit t kind) none = names-Autocommit step

  list_names : (step : ℕ) (cs : List Cond) (ds : Items) → CondsTree cs ds → NoneStands (StandsInOne step ds) → AllNameBelow step cs
  list_names step _ _ no_conds none = refl
  list_names step _ _ (more_conds c cs d ds p q) none =
      join_true (names_below step c) (list_all (λ b. b) (map (names_below step) cs)) (within_names step c d p (λ k here. none k (in_first d ds k here))) (list_names step cs ds q (λ k here. none k (in_later d ds k here)))

-- ---- a condition that fits

cond_none : (step : ℕ) (c : Cond) (t : Data) → CondTree c t → CondFits step c → NoneStands (CondStands step t)
cond_none step c t tree fits = λ k here. elim here [
  | inl s ↦ within_none step c t tree fits.earlier k s
  | inr o ↦ let deep = o.1 in let same = ap depth_of (CondTree-one t deep.0 c deep.1 tree) in let more = deep.2 in let few = fits.depth in absurd (omega arith)
]

cond_fits : (step : ℕ) (c : Cond) (t : Data) → CondTree c t → NoneStands (CondStands step t) → CondFits step c
cond_fits step c t tree none = record {
  earlier = within_names step c t tree (λ k here. none k (inl here));
  depth = elim (cases_lt MAX_CONDITION_DEPTH (depth_of c)) [ inl deep ↦ absurd (none Range (inr (refl, (c, tree, deep)))) | inr few ↦ few ];
}

optional_none : (step : ℕ) (o : Option Cond) (t : Data) → OptionalTree CondTree o t → IfSome o (CondFits step) → NoneStands (OptionalStands (CondStands step) t)
optional_none step None t tree fits = λ k here. here.0 tree
optional_none step (Some c) t tree fits = λ k here. cond_none step c t tree.1 fits k here.1

optional_fits : (step : ℕ) (o : Option Cond) (t : Data) → OptionalTree CondTree o t → NoneStands (OptionalStands (CondStands step) t) → IfSome o (CondFits step)
optional_fits step None t tree none = tt
optional_fits step (Some c) t tree none = cond_fits step c t tree.1 (λ k here. none k (tree.0, here))

-- ---- steps

next_place : (step i : ℕ) → step + suc i ≡ suc step + i
next_place step i = omega arith

first_place : (i : ℕ) → i ≡ 0 + i
first_place i = omega arith

step_none : (step : ℕ) (s : Step) (t : Data) → StepTree s t → StepFits step s → NoneStands (StepStands step t)
step_none step s t tree fits =
    NoneStands-parts (OptionalStands (CondStands step) (part_at (codes "condition") t)) (StmtStands (part_at (codes "stmt") t))
    (optional_none step s.condition (part_at (codes "condition") t) tree.condition fits.condition) ((StmtTree-fits s.stmt (part_at (codes "stmt") t) tree.stmt).0 fits.stmt)

step_fits : (step : ℕ) (s : Step) (t : Data) → StepTree s t → NoneStands (StepStands step t) → StepFits step s
step_fits step s t tree none = record {
  condition = optional_fits step s.condition (part_at (codes "condition") t) tree.condition (λ k here. none k (inl here));
  stmt = (StmtTree-fits s.stmt (part_at (codes "stmt") t) tree.stmt).1 (λ k here. none k (inr here));
}

steps_none : (step : ℕ) (ss : List Step) (ds : Items) → ItemsTree StepTree ss ds → ((i : ℕ) → IfSome (slice_get ss i) (StepFits (step + i))) → NoneStands (StepsStand step ds)
steps_none step [] no_items tree fits = λ k here. here
steps_none step [] (item d ds) tree fits = absurd tree
steps_none step (s ∷ ss) no_items tree fits = absurd tree
steps_none step (s ∷ ss) (item d ds) tree fits =
    let first : StepFits step s = subst (λ n. StepFits n s) (omega arith) (fits 0) in
    let later : (i : ℕ) → IfSome (slice_get ss i) (StepFits (suc step + i)) = λ i. subst (λ n. IfSome (slice_get ss i) (StepFits n)) (next_place step i) (fits (suc i)) in
    λ k here. elim here [ inl a ↦ step_none step s d tree.0 first k a | inr b ↦ steps_none (suc step) ss ds tree.1 later k b ]

steps_fit : (step : ℕ) (ss : List Step) (ds : Items) → ItemsTree StepTree ss ds → NoneStands (StepsStand step ds) → (i : ℕ) → IfSome (slice_get ss i) (StepFits (step + i))
steps_fit step [] no_items tree none i = tt
steps_fit step [] (item d ds) tree none i = absurd tree
steps_fit step (s ∷ ss) no_items tree none i = absurd tree
steps_fit step (s ∷ ss) (item d ds) tree none zero = subst (λ n. StepFits n s) (omega arith) (step_fits step s d tree.0 (λ k here. none k (inl here)))
steps_fit step (s ∷ ss) (item d ds) tree none (suc i) =
    subst (λ n. IfSome (slice_get ss i) (StepFits n)) (sym (next_place step i)) (steps_fit (suc step) ss ds tree.1 (λ k here. none k (inr here)) i)

array_none : (ss : List Step) (d : Data) → ArrayTree StepTree ss d → ((i : ℕ) → IfSome (slice_get ss i) (StepFits i)) → NoneStands (StepArrayStands d)
array_none ss null tree fits = absurd tree
array_none ss (boolean b) tree fits = absurd tree
array_none ss (number n) tree fits = absurd tree
array_none ss (string s) tree fits = absurd tree
array_none ss (array ds) tree fits = steps_none 0 ss ds tree (λ i. subst (λ n. IfSome (slice_get ss i) (StepFits n)) (first_place i) (fits i))
array_none ss (object ms) tree fits = absurd tree

array_fits : (ss : List Step) (d : Data) → ArrayTree StepTree ss d → NoneStands (StepArrayStands d) → (i : ℕ) → IfSome (slice_get ss i) (StepFits i)
array_fits ss null tree none i = absurd tree
array_fits ss (boolean b) tree none i = absurd tree
array_fits ss (number n) tree none i = absurd tree
array_fits ss (string s) tree none i = absurd tree
array_fits ss (array ds) tree none i = subst (λ n. IfSome (slice_get ss i) (StepFits n)) (sym (first_place i)) (steps_fit 0 ss ds tree none i)
array_fits ss (object ms) tree none i = absurd tree

items_length : (ss : List Step) (ds : Items) → ItemsTree StepTree ss ds → length ss ≡ items_count ds
items_length [] no_items tree = refl
items_length [] (item d ds) tree = absurd tree
items_length (s ∷ ss) no_items tree = absurd tree
items_length (s ∷ ss) (item d ds) tree = omega (arith, items_length ss ds tree.1)

array_length : (ss : List Step) (d : Data) → ArrayTree StepTree ss d → length ss ≡ count_of d
array_length ss null tree = absurd tree
array_length ss (boolean b) tree = absurd tree
array_length ss (number n) tree = absurd tree
array_length ss (string s) tree = absurd tree
array_length ss (array ds) tree = items_length ss ds tree
array_length ss (object ms) tree = absurd tree

-- ---- a batch

batch_none : (b : Batch) (t : Data) → BatchTree b t → BatchFits b → NoneStands (BatchStands t)
batch_none b t tree fits =
    let steps = part_at (codes "steps") t in
    NoneStands-parts (StepArrayStands steps) (Only Range (MAX_STEPS < count_of steps)) (array_none b.steps steps tree fits.each)
    (λ k here. let count = array_length b.steps steps tree in let few = fits.few in let many = here.1 in absurd (omega arith))

batch_fits : (b : Batch) (t : Data) → BatchTree b t → NoneStands (BatchStands t) → BatchFits b
batch_fits b t tree none =
    let steps = part_at (codes "steps") t in
    record {
      few = elim (cases_lt MAX_STEPS (length b.steps)) [
        | inl many ↦ absurd (none Range (inr (refl, let count = array_length b.steps steps tree in omega arith)))
        | inr few ↦ few
      ];
      each = array_fits b.steps steps tree (λ k here. none k (inl here));
    }

pub BatchTree-fits : FittingBatchesAreRead
BatchTree-fits b t tree = (batch_none b t tree, batch_fits b t tree)

earlier_condition : (i : ℕ) (o : Option Cond) → IfSome o (CondFits i) → IfSome o (NamesBelow i)
earlier_condition i None h = tt
earlier_condition i (Some c) h = h.earlier

earlier_step : (i : ℕ) (o : Option Step) → IfSome o (StepFits i) → IfSome o (λ s. IfSome s.condition (NamesBelow i))
earlier_step i None h = tt
earlier_step i (Some s) h = earlier_condition i s.condition h.condition

-- the conditions of a batch that fits name earlier steps
pub fits_earlier : (b : Batch) → BatchFits b → NamesEarlierSteps b
fits_earlier b fits i = earlier_step i (slice_get b.steps i) (fits.each i)

-- what was read fits
pub read_fits : (t : Data) (r : Result Batch ReadFail) → Reads (λ b. BatchTree b t) (BatchStands t) r → IfOk r BatchFits
read_fits t (Ok b) reads = batch_fits b t reads.ok reads.undeclined
read_fits t (Err e) reads = tt

pub read_earlier : (t : Data) (r : Result Batch ReadFail) → Reads (λ b. BatchTree b t) (BatchStands t) r → IfOk r NamesEarlierSteps
read_earlier t (Ok b) reads = fits_earlier b (batch_fits b t reads.ok reads.undeclined)
read_earlier t (Err e) reads = tt

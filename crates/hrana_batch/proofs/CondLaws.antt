-- A tree is one of at most one condition, and a condition is read where it is not too deep.
use Rattle.std.proofs.Common.{◌≡◌, inl, inr, ℕ, ◌≤◌, List, ◌∷◌, codes, sym, ◌∙◌, refl, ap, subst, arith}
use Rattle.std.specs.Prelude.{Result, Ok, Err, pos}
use Rattle.serde_json.specs.Data.{Data, array, Items}
use Rattle.hrana_value.specs.declared.failures.Decline.{Decline}
use Rattle.hrana_value.specs.declared.failures.Decline.TheVariants.{Range}
use Rattle.hrana_value.specs.declared.failures.ReadFail.{ReadFail}
use Rattle.hrana_value.specs.declared.failures.ReadFail.TheVariants.{Declined, NoMemory}
use Rattle.hrana_value.specs.Declines.{rank_of, IsFirst, Reads}
use Rattle.hrana_value.specs.Members.{part_at, Uint32Tree}
use Rattle.hrana_value.proofs.TextLemmas.{one}
use Rattle.hrana_value.proofs.DeclineLemmas.{Reads-ok, Reads-declined, Reads-no_memory}
use Rattle.hrana_batch.specs.declared.limits.TheConstants.{MAX_CONDITION_DEPTH}
use Rattle.hrana_batch.specs.declared.conditions.Cond.{Cond}
use Rattle.hrana_batch.specs.declared.conditions.Cond.TheVariants.{StepOk, StepError, Not, All, Any}
use Rattle.hrana_batch.specs.Conditions.{depth_of}
use Rattle.hrana_batch.specs.Tree.{CondTree, CondsTree, step_ok, step_error, negation, conjunction, disjunction, autocommit, no_conds, more_conds, StandsWithin, CondStands, NoTreeIsTwoConditions}
use Rattle.hrana_batch.proofs.WithinLemmas.{clash, within_by_range}
use Rattle.hrana_batch.proofs.CondReadings.{CondReads}

-- ---- a tree is one of at most one condition

number_one : (t : Data) (m n : ℕ) → Uint32Tree m t → Uint32Tree n t → m ≡ n
number_one t m n p q = let same : pos m ≡ pos n = one _ _ _ p.is q.is in cc same

array_one : (d : Data) (ds es : Items) → d ≡ array ds → d ≡ array es → ds ≡ es
array_one d ds es p q = let same : array ds ≡ array es = sym p ∙ q in cc same

mutual
  pub CondTree-one : NoTreeIsTwoConditions
  CondTree-one _ _ _ (step_ok n t p u) (step_ok n' _ q u') = ap StepOk (number_one (part_at (codes "step") t) n n' u u')
  CondTree-one _ _ _ (step_ok n t p u) (step_error n' _ q u') = absurd (clash t (codes "ok") (codes "error") refl p q)
  CondTree-one _ _ _ (step_ok n t p u) (negation c' _ q u') = absurd (clash t (codes "ok") (codes "not") refl p q)
  CondTree-one _ _ _ (step_ok n t p u) (conjunction cs' _ ds' q e' u') = absurd (clash t (codes "ok") (codes "and") refl p q)
  CondTree-one _ _ _ (step_ok n t p u) (disjunction cs' _ ds' q e' u') = absurd (clash t (codes "ok") (codes "or") refl p q)
  CondTree-one _ _ _ (step_ok n t p u) (autocommit _ q) = absurd (clash t (codes "ok") (codes "is_autocommit") refl p q)
  CondTree-one _ _ _ (step_error n t p u) (step_ok n' _ q u') = absurd (clash t (codes "error") (codes "ok") refl p q)
  CondTree-one _ _ _ (step_error n t p u) (step_error n' _ q u') = ap StepError (number_one (part_at (codes "step") t) n n' u u')
  CondTree-one _ _ _ (step_error n t p u) (negation c' _ q u') = absurd (clash t (codes "error") (codes "not") refl p q)
  CondTree-one _ _ _ (step_error n t p u) (conjunction cs' _ ds' q e' u') = absurd (clash t (codes "error") (codes "and") refl p q)
  CondTree-one _ _ _ (step_error n t p u) (disjunction cs' _ ds' q e' u') = absurd (clash t (codes "error") (codes "or") refl p q)
  CondTree-one _ _ _ (step_error n t p u) (autocommit _ q) = absurd (clash t (codes "error") (codes "is_autocommit") refl p q)
  CondTree-one _ _ _ (negation c t p u) (step_ok n' _ q u') = absurd (clash t (codes "not") (codes "ok") refl p q)
  CondTree-one _ _ _ (negation c t p u) (step_error n' _ q u') = absurd (clash t (codes "not") (codes "error") refl p q)
  CondTree-one _ _ _ (negation c t p u) (negation c' _ q u') = ap Not (CondTree-one (part_at (codes "cond") t) c c' u u')
  CondTree-one _ _ _ (negation c t p u) (conjunction cs' _ ds' q e' u') = absurd (clash t (codes "not") (codes "and") refl p q)
  CondTree-one _ _ _ (negation c t p u) (disjunction cs' _ ds' q e' u') = absurd (clash t (codes "not") (codes "or") refl p q)
  CondTree-one _ _ _ (negation c t p u) (autocommit _ q) = absurd (clash t (codes "not") (codes "is_autocommit") refl p q)
  CondTree-one _ _ _ (conjunction cs t ds p e u) (step_ok n' _ q u') = absurd (clash t (codes "and") (codes "ok") refl p q)
  CondTree-one _ _ _ (conjunction cs t ds p e u) (step_error n' _ q u') = absurd (clash t (codes "and") (codes "error") refl p q)
  CondTree-one _ _ _ (conjunction cs t ds p e u) (negation c' _ q u') = absurd (clash t (codes "and") (codes "not") refl p q)
  CondTree-one _ _ _ (conjunction cs t ds p e u) (conjunction cs' _ ds' q e' u') = ap All (CondsTree-one ds cs cs' u (subst (CondsTree cs') (array_one _ ds' ds e' e) u'))
  CondTree-one _ _ _ (conjunction cs t ds p e u) (disjunction cs' _ ds' q e' u') = absurd (clash t (codes "and") (codes "or") refl p q)
  CondTree-one _ _ _ (conjunction cs t ds p e u) (autocommit _ q) = absurd (clash t (codes "and") (codes "is_autocommit") refl p q)
  CondTree-one _ _ _ (disjunction cs t ds p e u) (step_ok n' _ q u') = absurd (clash t (codes "or") (codes "ok") refl p q)
  CondTree-one _ _ _ (disjunction cs t ds p e u) (step_error n' _ q u') = absurd (clash t (codes "or") (codes "error") refl p q)
  CondTree-one _ _ _ (disjunction cs t ds p e u) (negation c' _ q u') = absurd (clash t (codes "or") (codes "not") refl p q)
  CondTree-one _ _ _ (disjunction cs t ds p e u) (conjunction cs' _ ds' q e' u') = absurd (clash t (codes "or") (codes "and") refl p q)
  CondTree-one _ _ _ (disjunction cs t ds p e u) (disjunction cs' _ ds' q e' u') = ap Any (CondsTree-one ds cs cs' u (subst (CondsTree cs') (array_one _ ds' ds e' e) u'))
  CondTree-one _ _ _ (disjunction cs t ds p e u) (autocommit _ q) = absurd (clash t (codes "or") (codes "is_autocommit") refl p q)
  CondTree-one _ _ _ (autocommit t p) (step_ok n' _ q u') = absurd (clash t (codes "is_autocommit") (codes "ok") refl p q)
  CondTree-one _ _ _ (autocommit t p) (step_error n' _ q u') = absurd (clash t (codes "is_autocommit") (codes "error") refl p q)
  CondTree-one _ _ _ (autocommit t p) (negation c' _ q u') = absurd (clash t (codes "is_autocommit") (codes "not") refl p q)
  CondTree-one _ _ _ (autocommit t p) (conjunction cs' _ ds' q e' u') = absurd (clash t (codes "is_autocommit") (codes "and") refl p q)
  CondTree-one _ _ _ (autocommit t p) (disjunction cs' _ ds' q e' u') = absurd (clash t (codes "is_autocommit") (codes "or") refl p q)
  CondTree-one _ _ _ (autocommit t p) (autocommit _ q) = refl

  CondsTree-one : (ds : Items) (cs es : List Cond) → CondsTree cs ds → CondsTree es ds → cs ≡ es
  CondsTree-one _ _ _ no_conds no_conds = refl
  CondsTree-one _ _ _ (more_conds c cs d ds p q) (more_conds c' cs' _ _ p' q') =
      ap (λ x. x ∷ cs) (CondTree-one d c c' p p') ∙ ap (λ xs. c' ∷ xs) (CondsTree-one ds cs cs' q q')

-- ---- readings with the limit of depth

pub depth_read : (step : ℕ) (t : Data) (r : Result Cond ReadFail) (c : Cond) → r ≡ Ok c → depth_of c ≤ MAX_CONDITION_DEPTH → CondReads step t r → Reads (λ d. CondTree d t) (CondStands step t) (Ok c)
depth_read step t r c is fits reads =
    let read = subst (CondReads step t) is reads in
    Reads-ok c read.ok (λ k here. elim here [
      | inl s ↦ read.undeclined k s
      | inr o ↦ let deep = o.1 in let same = ap depth_of (CondTree-one t deep.0 c deep.1 read.ok) in let more = deep.2 in absurd (omega arith)
    ])

first_within : (step : ℕ) (t : Data) (k : Decline) → IsFirst (StandsWithin step t) k → IsFirst (CondStands step t) k
first_within step t k first = record {
  stands_itself = inl first.stands_itself;
  none_before = λ e less here. elim here [
    | inl s ↦ first.none_before e less s
    | inr o ↦ let same : rank_of e ≡ rank_of Range = ap rank_of o.0 in let by = within_by_range step t k first.stands_itself in absurd (omega arith)
  ];
}

cond_failed_as : (step : ℕ) (t : Data) (fail : ReadFail) → CondReads step t (Err fail) → Reads {A = Cond} (λ d. CondTree d t) (CondStands step t) (Err fail)
cond_failed_as step t NoMemory reads = Reads-no_memory
cond_failed_as step t (Declined k) reads = Reads-declined k (first_within step t k reads.declined)

pub cond_failed : (step : ℕ) (t : Data) (r : Result Cond ReadFail) (fail : ReadFail) → r ≡ Err fail → CondReads step t r → Reads {A = Cond} (λ d. CondTree d t) (CondStands step t) (Err fail)
cond_failed step t r fail is reads = cond_failed_as step t fail (subst (CondReads step t) is reads)

-- What the readers of a condition answer, by its parts.
use Rattle.std.proofs.Common.{◌≡◌, inl, inr, ℕ, List, [], get_or, map, None, Some, codes, sym, ◌∙◌, ap, subst, arith}
use Rattle.std.specs.Prelude.{Result, Ok, Err}
use Rattle.serde_json.specs.Data.{Data}
use Rattle.hrana_value.specs.declared.failures.Decline.TheVariants.{Shape}
use Rattle.hrana_value.specs.declared.failures.ReadFail.{ReadFail}
use Rattle.hrana_value.specs.declared.failures.ReadFail.TheVariants.{Declined}
use Rattle.hrana_value.specs.Declines.{rank_of, Reads}
use Rattle.hrana_value.specs.Members.{part_at, text_at, Uint32Tree}
use Rattle.hrana_value.specs.Trees.{ArrayTree, ArrayStands}
use Rattle.hrana_value.proofs.DeclineLemmas.{Reads-ok, Reads-declined, Reads-same, Reads-made, Reads-failed}
use Rattle.hrana_batch.specs.declared.condition_json.TheConstants.{CONDITION_KINDS}
use Rattle.hrana_batch.specs.declared.conditions.Cond.{Cond}
use Rattle.hrana_batch.specs.declared.conditions.Cond.TheVariants.{StepOk, StepError, Not, All, Any, Autocommit}
use Rattle.hrana_batch.specs.Tree.{HasKind, CondTree, step_ok, step_error, negation, autocommit, HasNoKind, StepNumberStands, StandsWithin, no_kind, in_number, in_part}
use Rattle.hrana_batch.proofs.WithinLemmas.{IsStepKind, IsListKind, IsInNoRow, no_kind_in_table, no_kind_at_all, within_no_kind, within_step, within_not, within_autocommit, within_list, list_within, all_tree, any_tree}

abbrev pub CondReads : ℕ → Data → Result Cond ReadFail → Type 0
CondReads step t r = Reads (λ c. CondTree c t) (StandsWithin step t) r

abbrev pub NumberReads : ℕ → Data → Result ℕ ReadFail → Type 0
NumberReads step d r = Reads (λ n. Uint32Tree n d) (StepNumberStands step d) r

abbrev pub ListReads : ℕ → Data → Result (List Cond) ReadFail → Type 0
ListReads step d r = Reads (λ cs. ArrayTree CondTree cs d) (ArrayStands (StandsWithin step) d) r

-- ---- kinds

-- the tree has the kind of row n, where its text was found in that row
pub has_kind : (t : Data) (text : List ℕ) (i n : ℕ) → Some text ≡ text_at (codes "type") t → i ≡ n → get_or (map (λ row. row.now) CONDITION_KINDS) i [] ≡ text → HasKind t (get_or (map (λ row. row.now) CONDITION_KINDS) n [])
has_kind t text i n has at row = sym has ∙ ap Some (sym row ∙ ap (λ k. get_or (map (λ row. row.now) CONDITION_KINDS) k []) at)

-- ---- steps

number_within : (step : ℕ) (t d : Data) (r : Result ℕ ReadFail) → IsStepKind t → d ≡ part_at (codes "step") t → NumberReads step d r → Reads (λ n. Uint32Tree n (part_at (codes "step") t)) (StandsWithin step t) r
number_within step t d r is e reads =
    Reads-same (λ n. Uint32Tree n (part_at (codes "step") t)) (StepNumberStands step (part_at (codes "step") t)) (StandsWithin step t) r (λ k s. in_number t k is s) (λ k s. within_step step t k is s)
    (subst (λ p. NumberReads step p r) e reads)

pub step_ok_read : (step : ℕ) (t d : Data) (r : Result ℕ ReadFail) (n : ℕ) → HasKind t (codes "ok") → d ≡ part_at (codes "step") t → r ≡ Ok n → NumberReads step d r → CondReads step t (Ok (StepOk n))
step_ok_read step t d r n kind e is reads =
    Reads-made (λ m. Uint32Tree m (part_at (codes "step") t)) (λ c. CondTree c t) (StandsWithin step t) r n (StepOk n) is (number_within step t d r (inl kind) e reads) (step_ok n t kind)

pub step_error_read : (step : ℕ) (t d : Data) (r : Result ℕ ReadFail) (n : ℕ) → HasKind t (codes "error") → d ≡ part_at (codes "step") t → r ≡ Ok n → NumberReads step d r → CondReads step t (Ok (StepError n))
step_error_read step t d r n kind e is reads =
    Reads-made (λ m. Uint32Tree m (part_at (codes "step") t)) (λ c. CondTree c t) (StandsWithin step t) r n (StepError n) is (number_within step t d r (inr kind) e reads) (step_error n t kind)

pub step_failed : (step : ℕ) (t d : Data) (r : Result ℕ ReadFail) (fail : ReadFail) → IsStepKind t → d ≡ part_at (codes "step") t → r ≡ Err fail → NumberReads step d r → CondReads step t (Err fail)
step_failed step t d r fail kind e is reads =
    Reads-failed (λ m. Uint32Tree m (part_at (codes "step") t)) (λ c. CondTree c t) (StandsWithin step t) r fail is (number_within step t d r kind e reads)

-- ---- negations

part_within : (step : ℕ) (t : Data) (r : Result Cond ReadFail) → HasKind t (codes "not") → CondReads step (part_at (codes "cond") t) r → Reads (λ c. CondTree c (part_at (codes "cond") t)) (StandsWithin step t) r
part_within step t r kind reads =
    Reads-same (λ c. CondTree c (part_at (codes "cond") t)) (StandsWithin step (part_at (codes "cond") t)) (StandsWithin step t) r (λ k s. in_part t k kind s) (λ k s. within_not step t k kind s) reads

pub not_read : (step : ℕ) (t : Data) (r : Result Cond ReadFail) (c : Cond) → HasKind t (codes "not") → r ≡ Ok c → CondReads step (part_at (codes "cond") t) r → CondReads step t (Ok (Not c))
not_read step t r c kind is reads =
    Reads-made (λ d. CondTree d (part_at (codes "cond") t)) (λ d. CondTree d t) (StandsWithin step t) r c (Not c) is (part_within step t r kind reads) (negation c t kind)

pub not_failed : (step : ℕ) (t : Data) (r : Result Cond ReadFail) (fail : ReadFail) → HasKind t (codes "not") → r ≡ Err fail → CondReads step (part_at (codes "cond") t) r → CondReads step t (Err fail)
not_failed step t r fail kind is reads =
    Reads-failed (λ d. CondTree d (part_at (codes "cond") t)) (λ d. CondTree d t) (StandsWithin step t) r fail is (part_within step t r kind reads)

-- ---- lists

conds_within : (step : ℕ) (t : Data) (r : Result (List Cond) ReadFail) → IsListKind t → ListReads step (part_at (codes "conds") t) r → Reads (λ cs. ArrayTree CondTree cs (part_at (codes "conds") t)) (StandsWithin step t) r
conds_within step t r kind reads =
    Reads-same (λ cs. ArrayTree CondTree cs (part_at (codes "conds") t)) (ArrayStands (StandsWithin step) (part_at (codes "conds") t)) (StandsWithin step t) r (λ k s. list_within step t k kind s)
    (λ k s. within_list step t k kind s) reads

pub all_read : (step : ℕ) (t : Data) (r : Result (List Cond) ReadFail) (cs : List Cond) → HasKind t (codes "and") → r ≡ Ok cs → ListReads step (part_at (codes "conds") t) r → CondReads step t (Ok (All cs))
all_read step t r cs kind is reads =
    Reads-made (λ ds. ArrayTree CondTree ds (part_at (codes "conds") t)) (λ c. CondTree c t) (StandsWithin step t) r cs (All cs) is (conds_within step t r (inl kind) reads) (all_tree cs t kind)

pub any_read : (step : ℕ) (t : Data) (r : Result (List Cond) ReadFail) (cs : List Cond) → HasKind t (codes "or") → r ≡ Ok cs → ListReads step (part_at (codes "conds") t) r → CondReads step t (Ok (Any cs))
any_read step t r cs kind is reads =
    Reads-made (λ ds. ArrayTree CondTree ds (part_at (codes "conds") t)) (λ c. CondTree c t) (StandsWithin step t) r cs (Any cs) is (conds_within step t r (inr kind) reads) (any_tree cs t kind)

pub list_failed : (step : ℕ) (t : Data) (r : Result (List Cond) ReadFail) (fail : ReadFail) → IsListKind t → r ≡ Err fail → ListReads step (part_at (codes "conds") t) r → CondReads step t (Err fail)
list_failed step t r fail kind is reads =
    Reads-failed (λ cs. ArrayTree CondTree cs (part_at (codes "conds") t)) (λ c. CondTree c t) (StandsWithin step t) r fail is (conds_within step t r kind reads)

-- ---- the others

pub autocommit_read : (step : ℕ) (t : Data) → HasKind t (codes "is_autocommit") → CondReads step t (Ok Autocommit)
autocommit_read step t kind = Reads-ok Autocommit (autocommit t kind) (λ k s. within_autocommit step t k kind s)

kind_misshaped : (step : ℕ) (t : Data) → HasNoKind t → CondReads step t (Err (Declined Shape))
kind_misshaped step t none = Reads-declined Shape (record {
  stands_itself = no_kind t none;
  none_before = λ k less here. let same : rank_of k ≡ rank_of Shape = ap rank_of (within_no_kind step t k none here) in absurd (omega arith);
})

pub kind_unknown : (step : ℕ) (t : Data) (text : List ℕ) → HasKind t text → IsInNoRow text → CondReads step t (Err (Declined Shape))
kind_unknown step t text has none = kind_misshaped step t (no_kind_in_table t text has none)

pub kind_missing : (step : ℕ) (t : Data) → text_at (codes "type") t ≡ None → CondReads step t (Err (Declined Shape))
kind_missing step t none = kind_misshaped step t (no_kind_at_all t none)

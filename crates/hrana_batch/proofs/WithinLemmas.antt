-- Where declines stand in a condition, kind by kind.
use Rattle.std.proofs.Common.{◌≡◌, ◌⊎◌, inl, inr, ℕ, ◌<◌, ◌≤◌, List, [], ◌∷◌, Option, None, codes, false, sym, ◌∙◌, refl, ap, subst, arith, nat_eq, map, get_or, MatchOption}
use Rattle.std.specs.Cmp.Lexicographic.{pointwise}
use Rattle.serde_json.specs.Data.{Data, null, boolean, number, string, array, object, Items, no_items, item}
use Rattle.serde_json.specs.Find.{as_array}
use Rattle.hrana_value.specs.declared.failures.Decline.{Decline}
use Rattle.hrana_value.specs.declared.failures.Decline.TheVariants.{Unknown, Describe, Shape, BothSql, BadStep, Range, Float}
use Rattle.hrana_value.specs.Declines.{rank_of}
use Rattle.hrana_value.specs.Members.{part_at, text_at}
use Rattle.hrana_value.specs.Trees.{ItemsTree, ItemsStand, ArrayTree, ArrayStands}
use Rattle.hrana_value.proofs.TextLemmas.{one, apart}
use Rattle.hrana_batch.specs.declared.conditions.Cond.{Cond}
use Rattle.hrana_batch.specs.declared.conditions.Cond.TheVariants.{All, Any}
use Rattle.hrana_batch.specs.declared.condition_json.TheConstants.{CONDITION_KINDS}
use Rattle.hrana_batch.specs.Tree.{HasKind, CondTree, CondsTree, no_conds, more_conds, conjunction, disjunction, IsKind, ok_kind, error_kind, not_kind, and_kind, or_kind, autocommit_kind, HasNoKind, StepNumberStands, StandsWithin, no_kind, in_number, in_part, no_list, in_list, StandsInOne, in_first, in_later}

-- ---- kinds

abbrev pub IsStepKind : Data → Type 0
IsStepKind t = HasKind t (codes "ok") ⊎ HasKind t (codes "error")

abbrev pub IsListKind : Data → Type 0
IsListKind t = HasKind t (codes "and") ⊎ HasKind t (codes "or")

pub clash : (t : Data) (x y : List ℕ) → pointwise nat_eq x y ≡ false → HasKind t x → HasKind t y → ⊥
clash t x y d p q = apart (text_at (codes "type") t) x y d p q

step_no_list : (t : Data) → IsStepKind t → IsListKind t → ⊥
step_no_list t (inl p) (inl q) = clash t (codes "ok") (codes "and") refl p q
step_no_list t (inl p) (inr q) = clash t (codes "ok") (codes "or") refl p q
step_no_list t (inr p) (inl q) = clash t (codes "error") (codes "and") refl p q
step_no_list t (inr p) (inr q) = clash t (codes "error") (codes "or") refl p q

not_no_step : (t : Data) → HasKind t (codes "not") → IsStepKind t → ⊥
not_no_step t p (inl q) = clash t (codes "not") (codes "ok") refl p q
not_no_step t p (inr q) = clash t (codes "not") (codes "error") refl p q

not_no_list : (t : Data) → HasKind t (codes "not") → IsListKind t → ⊥
not_no_list t p (inl q) = clash t (codes "not") (codes "and") refl p q
not_no_list t p (inr q) = clash t (codes "not") (codes "or") refl p q

auto_no_step : (t : Data) → HasKind t (codes "is_autocommit") → IsStepKind t → ⊥
auto_no_step t p (inl q) = clash t (codes "is_autocommit") (codes "ok") refl p q
auto_no_step t p (inr q) = clash t (codes "is_autocommit") (codes "error") refl p q

auto_no_list : (t : Data) → HasKind t (codes "is_autocommit") → IsListKind t → ⊥
auto_no_list t p (inl q) = clash t (codes "is_autocommit") (codes "and") refl p q
auto_no_list t p (inr q) = clash t (codes "is_autocommit") (codes "or") refl p q

step_is_kind : (t : Data) → HasNoKind t → IsStepKind t → ⊥
step_is_kind t none (inl p) = none (codes "ok") p ok_kind
step_is_kind t none (inr p) = none (codes "error") p error_kind

list_is_kind : (t : Data) → HasNoKind t → IsListKind t → ⊥
list_is_kind t none (inl p) = none (codes "and") p and_kind
list_is_kind t none (inr p) = none (codes "or") p or_kind

pub none_matched : {A : Type 0} (o : Option A) (P : Type 0) (Q : A → Type 0) → o ≡ None → MatchOption o P Q → P
none_matched o P Q e h = subst (λ p. MatchOption p P Q) e h

-- a number below 6 is one of six
pub row_of_six : (i : ℕ) → i < 6 → (i ≡ 0 → ⊥) → (i ≡ 1 → ⊥) → (i ≡ 2 → ⊥) → (i ≡ 3 → ⊥) → (i ≡ 4 → ⊥) → (i ≡ 5 → ⊥) → ⊥
row_of_six i h a b c d e f = grind arith

-- no row of the table of kinds is the text
abbrev pub IsInNoRow : List ℕ → Type 0
IsInNoRow text = (i : ℕ) → i < 6 → get_or (map (λ row. row.now) CONDITION_KINDS) i [] ≡ text → ⊥

no_row : (text kind : List ℕ) → text ≡ kind → IsInNoRow text → IsKind kind → ⊥
no_row text _ e none ok_kind = none 0 (omega arith) (sym e)
no_row text _ e none error_kind = none 1 (omega arith) (sym e)
no_row text _ e none not_kind = none 2 (omega arith) (sym e)
no_row text _ e none and_kind = none 3 (omega arith) (sym e)
no_row text _ e none or_kind = none 4 (omega arith) (sym e)
no_row text _ e none autocommit_kind = none 5 (omega arith) (sym e)

pub no_kind_in_table : (t : Data) (text : List ℕ) → HasKind t text → IsInNoRow text → HasNoKind t
no_kind_in_table t text has none kind h is = no_row text kind (one (text_at (codes "type") t) text kind has h) none is

pub no_kind_at_all : (t : Data) → text_at (codes "type") t ≡ None → HasNoKind t
no_kind_at_all t none kind h is = cc (sym none ∙ h)

-- ---- what stands in a condition of each kind

pub within_no_kind : (step : ℕ) (t : Data) (k : Decline) → HasNoKind t → StandsWithin step t k → k ≡ Shape
within_no_kind step _ _ none (no_kind t n) = refl
within_no_kind step _ _ none (in_number t k is s) = absurd (step_is_kind t none is)
within_no_kind step _ _ none (in_part t k is s) = absurd (none (codes "not") is not_kind)
within_no_kind step _ _ none (no_list t is e) = refl
within_no_kind step _ _ none (in_list t ds k is e s) = absurd (list_is_kind t none is)

pub within_step : (step : ℕ) (t : Data) (k : Decline) → IsStepKind t → StandsWithin step t k → StepNumberStands step (part_at (codes "step") t) k
within_step step _ _ kind (no_kind t n) = absurd (step_is_kind t n kind)
within_step step _ _ kind (in_number t k is s) = s
within_step step _ _ kind (in_part t k is s) = absurd (not_no_step t is kind)
within_step step _ _ kind (no_list t is e) = absurd (step_no_list t kind is)
within_step step _ _ kind (in_list t ds k is e s) = absurd (step_no_list t kind is)

pub within_not : (step : ℕ) (t : Data) (k : Decline) → HasKind t (codes "not") → StandsWithin step t k → StandsWithin step (part_at (codes "cond") t) k
within_not step _ _ kind (no_kind t n) = absurd (n (codes "not") kind not_kind)
within_not step _ _ kind (in_number t k is s) = absurd (not_no_step t kind is)
within_not step _ _ kind (in_part t k is s) = s
within_not step _ _ kind (no_list t is e) = absurd (not_no_list t kind is)
within_not step _ _ kind (in_list t ds k is e s) = absurd (not_no_list t kind is)

pub within_autocommit : (step : ℕ) (t : Data) (k : Decline) → HasKind t (codes "is_autocommit") → StandsWithin step t k → ⊥
within_autocommit step _ _ kind (no_kind t n) = n (codes "is_autocommit") kind autocommit_kind
within_autocommit step _ _ kind (in_number t k is s) = auto_no_step t kind is
within_autocommit step _ _ kind (in_part t k is s) = clash t (codes "is_autocommit") (codes "not") refl kind is
within_autocommit step _ _ kind (no_list t is e) = auto_no_list t kind is
within_autocommit step _ _ kind (in_list t ds k is e s) = auto_no_list t kind is

-- ---- lists of parts

pub items_stand : (step : ℕ) (ds : Items) (k : Decline) → StandsInOne step ds k → ItemsStand (StandsWithin step) ds k
items_stand step _ _ (in_first d ds k s) = inl s
items_stand step _ _ (in_later d ds k s) = inr (items_stand step ds k s)

pub one_stands : (step : ℕ) (ds : Items) (k : Decline) → ItemsStand (StandsWithin step) ds k → StandsInOne step ds k
one_stands step no_items k h = absurd h
one_stands step (item d ds) k (inl s) = in_first d ds k s
one_stands step (item d ds) k (inr s) = in_later d ds k (one_stands step ds k s)

pub conds_tree : (cs : List Cond) (ds : Items) → ItemsTree CondTree cs ds → CondsTree cs ds
conds_tree [] no_items h = no_conds
conds_tree [] (item d ds) h = absurd h
conds_tree (c ∷ cs) no_items h = absurd h
conds_tree (c ∷ cs) (item d ds) h = more_conds c cs d ds h.0 (conds_tree cs ds h.1)

no_array : (step : ℕ) (d : Data) → as_array d ≡ None → ArrayStands (StandsWithin step) d Shape
no_array step null e = (refl, tt)
no_array step (boolean b) e = (refl, tt)
no_array step (number n) e = (refl, tt)
no_array step (string s) e = (refl, tt)
no_array step (array ds) e = cc e
no_array step (object ms) e = (refl, tt)

pub within_list : (step : ℕ) (t : Data) (k : Decline) → IsListKind t → StandsWithin step t k → ArrayStands (StandsWithin step) (part_at (codes "conds") t) k
within_list step _ _ kind (no_kind t n) = absurd (list_is_kind t n kind)
within_list step _ _ kind (in_number t k is s) = absurd (step_no_list t is kind)
within_list step _ _ kind (in_part t k is s) = absurd (not_no_list t is kind)
within_list step _ _ kind (no_list t is e) = no_array step (part_at (codes "conds") t) e
within_list step _ _ kind (in_list t ds k is e s) = subst (λ d. ArrayStands (StandsWithin step) d k) (sym e) (items_stand step ds k s)

misshaped : (step : ℕ) (t : Data) (k : Decline) → IsListKind t → as_array (part_at (codes "conds") t) ≡ None → k ≡ Shape → StandsWithin step t k
misshaped step t k kind e is = subst (StandsWithin step t) (sym is) (no_list t kind e)

list_within_at : (step : ℕ) (t : Data) (k : Decline) → IsListKind t → (d : Data) → part_at (codes "conds") t ≡ d → ArrayStands (StandsWithin step) d k → StandsWithin step t k
list_within_at step t k kind null e h = misshaped step t k kind (ap as_array e) h.0
list_within_at step t k kind (boolean b) e h = misshaped step t k kind (ap as_array e) h.0
list_within_at step t k kind (number n) e h = misshaped step t k kind (ap as_array e) h.0
list_within_at step t k kind (string s) e h = misshaped step t k kind (ap as_array e) h.0
list_within_at step t k kind (array ds) e h = in_list t ds k kind e (one_stands step ds k h)
list_within_at step t k kind (object ms) e h = misshaped step t k kind (ap as_array e) h.0

pub list_within : (step : ℕ) (t : Data) (k : Decline) → IsListKind t → ArrayStands (StandsWithin step) (part_at (codes "conds") t) k → StandsWithin step t k
list_within step t k kind h = list_within_at step t k kind (part_at (codes "conds") t) refl h

-- the list of an array whose parts are those of the conditions
array_of : (cs : List Cond) (d : Data) → ArrayTree CondTree cs d → (ds : Items) × (d ≡ array ds) × CondsTree cs ds
array_of cs null h = absurd h
array_of cs (boolean b) h = absurd h
array_of cs (number n) h = absurd h
array_of cs (string s) h = absurd h
array_of cs (array ds) h = (ds, refl, conds_tree cs ds h)
array_of cs (object ms) h = absurd h

pub all_tree : (cs : List Cond) (t : Data) → HasKind t (codes "and") → ArrayTree CondTree cs (part_at (codes "conds") t) → CondTree (All cs) t
all_tree cs t kind h = let parts = array_of cs (part_at (codes "conds") t) h in conjunction cs t parts.0 kind parts.1 parts.2

pub any_tree : (cs : List Cond) (t : Data) → HasKind t (codes "or") → ArrayTree CondTree cs (part_at (codes "conds") t) → CondTree (Any cs) t
any_tree cs t kind h = let parts = array_of cs (part_at (codes "conds") t) h in disjunction cs t parts.0 kind parts.1 parts.2

-- ---- no part declines by a kind after `Range`

number_by_range : (step : ℕ) (d : Data) (k : Decline) → StepNumberStands step d k → rank_of k ≤ 5
number_by_range step d Unknown h = absurd h
number_by_range step d Describe h = absurd h
number_by_range step d Shape h = omega arith
number_by_range step d BothSql h = absurd h
number_by_range step d BadStep h = omega arith
number_by_range step d Range h = omega arith
number_by_range step d Float h = absurd h

mutual
  pub within_by_range : (step : ℕ) (t : Data) (k : Decline) → StandsWithin step t k → rank_of k ≤ 5
  within_by_range step _ _ (no_kind t n) = omega arith
  within_by_range step _ _ (in_number t k is s) = number_by_range step (part_at (codes "step") t) k s
  within_by_range step _ _ (in_part t k is s) = within_by_range step (part_at (codes "cond") t) k s
  within_by_range step _ _ (no_list t is e) = omega arith
  within_by_range step _ _ (in_list t ds k is e s) = one_by_range step ds k s

  one_by_range : (step : ℕ) (ds : Items) (k : Decline) → StandsInOne step ds k → rank_of k ≤ 5
  one_by_range step _ _ (in_first d ds k s) = within_by_range step d k s
  one_by_range step _ _ (in_later d ds k s) = one_by_range step ds k s

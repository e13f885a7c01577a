-- What is written for a condition is a form of it.
use Rattle.std.proofs.Common.{◌≡◌, ℕ, ◌<◌, ◌^◌, List, codes, map, refl, subst, sym, ◌∙◌, ap}
use Rattle.serde_json.specs.Data.{Data, object}
use Rattle.serde_json.specs.View.{items_of}
use Rattle.hrana_value.specs.Trees.{ItemsTree}
use Rattle.hrana_batch.specs.declared.conditions.Cond.{Cond}
use Rattle.hrana_batch.specs.declared.conditions.Cond.TheVariants.{StepOk, StepError, Not, All, Any, Autocommit}
use Rattle.hrana_batch.specs.Tree.{CondTree, step_ok, step_error, negation, conjunction, disjunction, autocommit}
use Rattle.hrana_batch.specs.Written.{cond_level, cond_data, type_member, step_cond, not_cond, list_cond}
use Rattle.hrana_batch.proofs.CondLevels.{level-StepOk, level-StepError, level-Not, level-All, level-Any, level-Autocommit}
use Rattle.hrana_batch.proofs.WithinLemmas.{conds_tree}

-- ---- what is written, level by level

pub written-StepOk : (n : ℕ) → cond_data (StepOk n) ≡ step_cond (codes "ok") n
written-StepOk n = level-StepOk Data cond_level n

pub written-StepError : (n : ℕ) → cond_data (StepError n) ≡ step_cond (codes "error") n
written-StepError n = level-StepError Data cond_level n

pub written-Not : (c : Cond) → cond_data (Not c) ≡ not_cond (cond_data c)
written-Not c = level-Not Data cond_level c

pub written-All : (cs : List Cond) → cond_data (All cs) ≡ list_cond (codes "and") (map cond_data cs)
written-All cs = level-All Data cond_level cs

pub written-Any : (cs : List Cond) → cond_data (Any cs) ≡ list_cond (codes "or") (map cond_data cs)
written-Any cs = level-Any Data cond_level cs

pub written-Autocommit : cond_data Autocommit ≡ object (type_member (codes "is_autocommit"))
written-Autocommit = level-Autocommit Data cond_level

-- ---- what a condition that is one of these is written as

pub ok_written : (cond : Cond) (n : ℕ) → cond ≡ StepOk n → step_cond (codes "ok") n ≡ cond_data cond
ok_written cond n is = sym (ap cond_data is ∙ written-StepOk n)

pub error_written : (cond : Cond) (n : ℕ) → cond ≡ StepError n → step_cond (codes "error") n ≡ cond_data cond
error_written cond n is = sym (ap cond_data is ∙ written-StepError n)

pub not_written : (cond c part : Cond) → cond ≡ Not c → part ≡ c → not_cond (cond_data part) ≡ cond_data cond
not_written cond c part is same = sym (ap cond_data (is ∙ ap Not (sym same)) ∙ written-Not part)

pub all_written : (cond : Cond) (cs parts : List Cond) → cond ≡ All cs → parts ≡ cs → list_cond (codes "and") (map cond_data parts) ≡ cond_data cond
all_written cond cs parts is same = sym (ap cond_data (is ∙ ap All (sym same)) ∙ written-All parts)

pub any_written : (cond : Cond) (cs parts : List Cond) → cond ≡ Any cs → parts ≡ cs → list_cond (codes "or") (map cond_data parts) ≡ cond_data cond
any_written cond cs parts is same = sym (ap cond_data (is ∙ ap Any (sym same)) ∙ written-Any parts)

pub autocommit_written : (cond : Cond) → cond ≡ Autocommit → object (type_member (codes "is_autocommit")) ≡ cond_data cond
autocommit_written cond is = sym (ap cond_data is ∙ written-Autocommit)

-- ---- what is written so is a form of it

pub ok_back : (cond : Cond) (n : ℕ) (d : Data) → cond ≡ StepOk n → n < 2 ^ 32 → d ≡ step_cond (codes "ok") n → CondTree cond d
ok_back cond n d is fits written = subst (λ x. CondTree x d) (sym is) (subst (CondTree (StepOk n)) (sym written) (step_ok n (step_cond (codes "ok") n) refl (record { is = refl; fits = fits })))

pub error_back : (cond : Cond) (n : ℕ) (d : Data) → cond ≡ StepError n → n < 2 ^ 32 → d ≡ step_cond (codes "error") n → CondTree cond d
error_back cond n d is fits written = subst (λ x. CondTree x d) (sym is) (subst (CondTree (StepError n)) (sym written) (step_error n (step_cond (codes "error") n) refl (record { is = refl; fits = fits })))

pub not_back : (cond c part : Cond) (e d : Data) → cond ≡ Not c → part ≡ c → CondTree part e → d ≡ not_cond e → CondTree cond d
not_back cond c part e d is same tree written = subst (λ x. CondTree x d) (sym (is ∙ ap Not (sym same))) (subst (CondTree (Not part)) (sym written) (negation part (not_cond e) refl tree))

pub all_back : (cond : Cond) (cs parts : List Cond) (ds : List Data) (d : Data) → cond ≡ All cs → parts ≡ cs → ItemsTree CondTree parts (items_of ds) → d ≡ list_cond (codes "and") ds → CondTree cond d
all_back cond cs parts ds d is same tree written =
    subst (λ x. CondTree x d) (sym (is ∙ ap All (sym same))) (subst (CondTree (All parts)) (sym written) (conjunction parts (list_cond (codes "and") ds) (items_of ds) refl refl (conds_tree parts (items_of ds) tree)))

pub any_back : (cond : Cond) (cs parts : List Cond) (ds : List Data) (d : Data) → cond ≡ Any cs → parts ≡ cs → ItemsTree CondTree parts (items_of ds) → d ≡ list_cond (codes "or") ds → CondTree cond d
any_back cond cs parts ds d is same tree written =
    subst (λ x. CondTree x d) (sym (is ∙ ap Any (sym same))) (subst (CondTree (Any parts)) (sym written) (disjunction parts (list_cond (codes "or") ds) (items_of ds) refl refl (conds_tree parts (items_of ds) tree)))

pub autocommit_back : (cond : Cond) (d : Data) → cond ≡ Autocommit → d ≡ object (type_member (codes "is_autocommit")) → CondTree cond d
autocommit_back cond d is written = subst (λ x. CondTree x d) (sym is) (subst (CondTree Autocommit) (sym written) (autocommit (object (type_member (codes "is_autocommit"))) refl))

-- ---- the same of the tree that is sent

pub ok_sent : (cond : Cond) (n : ℕ) → cond ≡ StepOk n → n < 2 ^ 32 → CondTree cond (cond_data cond)
ok_sent cond n is fits = ok_back cond n (cond_data cond) is fits (sym (ok_written cond n is))

pub error_sent : (cond : Cond) (n : ℕ) → cond ≡ StepError n → n < 2 ^ 32 → CondTree cond (cond_data cond)
error_sent cond n is fits = error_back cond n (cond_data cond) is fits (sym (error_written cond n is))

pub not_sent : (cond c part : Cond) → cond ≡ Not c → part ≡ c → CondTree part (cond_data part) → CondTree cond (cond_data cond)
not_sent cond c part is same tree = not_back cond c part (cond_data part) (cond_data cond) is same tree (sym (not_written cond c part is same))

pub all_sent : (cond : Cond) (cs parts : List Cond) → cond ≡ All cs → parts ≡ cs → ItemsTree CondTree parts (items_of (map cond_data parts)) → CondTree cond (cond_data cond)
all_sent cond cs parts is same tree = all_back cond cs parts (map cond_data parts) (cond_data cond) is same tree (sym (all_written cond cs parts is same))

pub any_sent : (cond : Cond) (cs parts : List Cond) → cond ≡ Any cs → parts ≡ cs → ItemsTree CondTree parts (items_of (map cond_data parts)) → CondTree cond (cond_data cond)
any_sent cond cs parts is same tree = any_back cond cs parts (map cond_data parts) (cond_data cond) is same tree (sym (any_written cond cs parts is same))

pub autocommit_sent : (cond : Cond) → cond ≡ Autocommit → CondTree cond (cond_data cond)
autocommit_sent cond is = autocommit_back cond (cond_data cond) is (sym (autocommit_written cond is))

-- A fold over conditions, level by level.
use Rattle.std.proofs.Common.{◌≡◌, ℕ, List, map, sym, ◌∙◌, ap}
use Rattle.hrana_batch.specs.declared.conditions.Cond.{Cond, fold-Cond, fold-roll-Cond}
use Rattle.hrana_batch.specs.declared.conditions.Cond.TheOpen.{Cond-F}
use Rattle.hrana_batch.specs.declared.conditions.Cond.TheVariants.{StepOk, StepError, Not, All, Any, Autocommit, rolls-StepOk, rolls-StepError, rolls-Not, rolls-All, rolls-Any, rolls-Autocommit}

pub level-StepOk : (A : Type 0) (step : Cond-F A → A) (n : ℕ) → fold-Cond A step (StepOk n) ≡ step (Cond-F.StepOk n)
level-StepOk A step n = ap (fold-Cond A step) (sym (rolls-StepOk n)) ∙ fold-roll-Cond A step (Cond-F.StepOk n)

pub level-StepError : (A : Type 0) (step : Cond-F A → A) (n : ℕ) → fold-Cond A step (StepError n) ≡ step (Cond-F.StepError n)
level-StepError A step n = ap (fold-Cond A step) (sym (rolls-StepError n)) ∙ fold-roll-Cond A step (Cond-F.StepError n)

pub level-Not : (A : Type 0) (step : Cond-F A → A) (c : Cond) → fold-Cond A step (Not c) ≡ step (Cond-F.Not (fold-Cond A step c))
level-Not A step c = ap (fold-Cond A step) (sym (rolls-Not c)) ∙ fold-roll-Cond A step (Cond-F.Not c)

pub level-All : (A : Type 0) (step : Cond-F A → A) (cs : List Cond) → fold-Cond A step (All cs) ≡ step (Cond-F.All (map (fold-Cond A step) cs))
level-All A step cs = ap (fold-Cond A step) (sym (rolls-All cs)) ∙ fold-roll-Cond A step (Cond-F.All cs)

pub level-Any : (A : Type 0) (step : Cond-F A → A) (cs : List Cond) → fold-Cond A step (Any cs) ≡ step (Cond-F.Any (map (fold-Cond A step) cs))
level-Any A step cs = ap (fold-Cond A step) (sym (rolls-Any cs)) ∙ fold-roll-Cond A step (Cond-F.Any cs)

pub level-Autocommit : (A : Type 0) (step : Cond-F A → A) → fold-Cond A step Autocommit ≡ step Cond-F.Autocommit
level-Autocommit A step = ap (fold-Cond A step) (sym rolls-Autocommit) ∙ fold-roll-Cond A step Cond-F.Autocommit

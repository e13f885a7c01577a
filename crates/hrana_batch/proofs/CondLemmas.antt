-- A condition, level by level.
use Rattle.std.proofs.Common.{◌≡◌, ℕ, zero, suc, ◌<◌, ◌≤◌, max, List, [], ◌∷◌, Bool, true, false, ◌&&◌, ◌||◌, map, length, get_or, ◌++◌, ◌+◌, take, arith, sym, ◌∙◌, refl, ap}
use Rattle.std.proofs.lemmas.List.{take_more, map-append}
use Rattle.std.proofs.lemmas.Bool.Decides.{nat_tests}
use Rattle.std.specs.Prelude.{nat_lt, not, slice_get}
use Rattle.std.specs.List.{list_all, list_any}
use Rattle.hrana_batch.specs.Conditions.{is_done, is_failed, holds_step, holds_on, names_step, names_below, NamesBelow, depth_step, depth_of, greatest}
use Rattle.hrana_batch.specs.declared.conditions.Cond.{Cond}
use Rattle.hrana_batch.specs.declared.conditions.Cond.TheVariants.{StepOk, StepError, Not, All, Any, Autocommit}
use Rattle.hrana_batch.specs.declared.outcomes.Outcome.{Outcome}
use Rattle.hrana_batch.proofs.CondLevels.{level-StepOk, level-StepError, level-Not, level-All, level-Any, level-Autocommit}

pub names-StepOk : (n step : ℕ) → names_below n (StepOk step) ≡ nat_lt step n
names-StepOk n step = level-StepOk Bool (names_step n) step

pub names-StepError : (n step : ℕ) → names_below n (StepError step) ≡ nat_lt step n
names-StepError n step = level-StepError Bool (names_step n) step

pub names-Not : (n : ℕ) (c : Cond) → names_below n (Not c) ≡ names_below n c
names-Not n c = level-Not Bool (names_step n) c

pub names-All : (n : ℕ) (cs : List Cond) → names_below n (All cs) ≡ list_all (λ b. b) (map (names_below n) cs)
names-All n cs = level-All Bool (names_step n) cs

pub names-Any : (n : ℕ) (cs : List Cond) → names_below n (Any cs) ≡ list_all (λ b. b) (map (names_below n) cs)
names-Any n cs = level-Any Bool (names_step n) cs

pub names-Autocommit : (n : ℕ) → names_below n Autocommit ≡ true
names-Autocommit n = level-Autocommit Bool (names_step n)

pub depth-StepOk : (n : ℕ) → depth_of (StepOk n) ≡ 1
depth-StepOk n = level-StepOk ℕ depth_step n

pub depth-StepError : (n : ℕ) → depth_of (StepError n) ≡ 1
depth-StepError n = level-StepError ℕ depth_step n

pub depth-Not : (c : Cond) → depth_of (Not c) ≡ suc (depth_of c)
depth-Not c = level-Not ℕ depth_step c

pub depth-All : (cs : List Cond) → depth_of (All cs) ≡ suc (greatest (map depth_of cs))
depth-All cs = level-All ℕ depth_step cs

pub depth-Any : (cs : List Cond) → depth_of (Any cs) ≡ suc (greatest (map depth_of cs))
depth-Any cs = level-Any ℕ depth_step cs

pub depth-Autocommit : depth_of Autocommit ≡ 1
depth-Autocommit = level-Autocommit ℕ depth_step

-- ---- a condition that is one of these

below_true : (m n : ℕ) → nat_lt m n ≡ true → m < n
below_true m n h = grind (arith, nat_tests)

pub ok_below : (n : ℕ) (cond : Cond) (step : ℕ) → cond ≡ StepOk step → NamesBelow n cond → step < n
ok_below n cond step is names = below_true step n (sym (ap (names_below n) is ∙ names-StepOk n step) ∙ names)

pub error_below : (n : ℕ) (cond : Cond) (step : ℕ) → cond ≡ StepError step → NamesBelow n cond → step < n
error_below n cond step is names = below_true step n (sym (ap (names_below n) is ∙ names-StepError n step) ∙ names)

pub ok_holds : (os : List Outcome) (auto : Bool) (cond : Cond) (step : ℕ) → cond ≡ StepOk step → is_done (slice_get os step) ≡ holds_on os auto cond
ok_holds os auto cond step is = sym (ap (holds_on os auto) is ∙ level-StepOk Bool (holds_step os auto) step)

pub error_holds : (os : List Outcome) (auto : Bool) (cond : Cond) (step : ℕ) → cond ≡ StepError step → is_failed (slice_get os step) ≡ holds_on os auto cond
error_holds os auto cond step is = sym (ap (holds_on os auto) is ∙ level-StepError Bool (holds_step os auto) step)

pub not_holds : (os : List Outcome) (auto : Bool) (cond c part : Cond) → cond ≡ Not c → part ≡ c → not (holds_on os auto part) ≡ holds_on os auto cond
not_holds os auto cond c part is same = sym (ap (holds_on os auto) (is ∙ ap Not (sym same)) ∙ level-Not Bool (holds_step os auto) part)

pub all_holds : (os : List Outcome) (auto : Bool) (cond : Cond) (cs parts : List Cond) → cond ≡ All cs → parts ≡ cs → list_all (λ b. b) (map (holds_on os auto) parts) ≡ holds_on os auto cond
all_holds os auto cond cs parts is same = sym (ap (holds_on os auto) (is ∙ ap All (sym same)) ∙ level-All Bool (holds_step os auto) parts)

pub any_holds : (os : List Outcome) (auto : Bool) (cond : Cond) (cs parts : List Cond) → cond ≡ Any cs → parts ≡ cs → list_any (λ b. b) (map (holds_on os auto) parts) ≡ holds_on os auto cond
any_holds os auto cond cs parts is same = sym (ap (holds_on os auto) (is ∙ ap Any (sym same)) ∙ level-Any Bool (holds_step os auto) parts)

pub autocommit_holds : (os : List Outcome) (auto : Bool) (cond : Cond) → cond ≡ Autocommit → auto ≡ holds_on os auto cond
autocommit_holds os auto cond is = sym (ap (holds_on os auto) is ∙ level-Autocommit Bool (holds_step os auto))

-- ---- lists of parts

both : (a : Bool) → (a && false) ≡ false
both true = refl
both false = refl

either : (a : Bool) → (a || true) ≡ true
either true = refl
either false = refl

left_true : (a b : Bool) → (a && b) ≡ true → a ≡ true
left_true true b h = refl
left_true false b h = h

right_true : (a b : Bool) → (a && b) ≡ true → b ≡ true
right_true true b h = h
right_true false b h = cc h

pub all_false : (f : Cond → Bool) (cs : List Cond) (i : ℕ) (c : Cond) → i < length cs → c ≡ get_or cs i c → f c ≡ false → list_all (λ b. b) (map f cs) ≡ false
all_false f [] i c h e p = absurd (omega arith)
all_false f (d ∷ cs) zero c h e p = rw (← e, p)
all_false f (d ∷ cs) (suc i) c h e p = let q = all_false f cs i c (omega arith) e p in rw q (both (f d))

pub any_true : (f : Cond → Bool) (cs : List Cond) (i : ℕ) (c : Cond) → i < length cs → c ≡ get_or cs i c → f c ≡ true → list_any (λ b. b) (map f cs) ≡ true
any_true f [] i c h e p = absurd (omega arith)
any_true f (d ∷ cs) zero c h e p = rw (← e, p)
any_true f (d ∷ cs) (suc i) c h e p = let q = any_true f cs i c (omega arith) e p in rw q (either (f d))

pub each_true : (f : Cond → Bool) (cs : List Cond) (i : ℕ) (c : Cond) → i < length cs → c ≡ get_or cs i c → list_all (λ b. b) (map f cs) ≡ true → f c ≡ true
each_true f [] i c h e p = absurd (omega arith)
each_true f (d ∷ cs) zero c h e p = ap f e ∙ left_true (f d) (list_all (λ b. b) (map f cs)) p
each_true f (d ∷ cs) (suc i) c h e p = each_true f cs i c (omega arith) e (right_true (f d) (list_all (λ b. b) (map f cs)) p)

list_all-append : (xs ys : List Bool) → list_all (λ b. b) xs ≡ true → list_all (λ b. b) ys ≡ true → list_all (λ b. b) (xs ++ ys) ≡ true
list_all-append [] ys p q = q
list_all-append (x ∷ xs) ys p q = rw (left_true x (list_all (λ b. b) xs) p, list_all-append xs ys (right_true x (list_all (λ b. b) xs) p) q) refl

-- one part more
pub all_more : (f : Cond → Bool) (cs : List Cond) (i : ℕ) (c : Cond) → i < length cs → c ≡ get_or cs i c → list_all (λ b. b) (map f (take i cs)) ≡ true → f c ≡ true
    → list_all (λ b. b) (map f (take (i + 1) cs)) ≡ true
all_more f cs i c h e p q =
    let same : take (i + 1) cs ≡ take i cs ++ c ∷ [] = take_more cs i c h ∙ ap (λ k. take i cs ++ k ∷ []) (sym e) in
    rw (same, map-append f (take i cs) (c ∷ [])) (list_all-append (map f (take i cs)) (map f (c ∷ [])) p (rw q refl))

-- ---- the deepest part

pub greatest_item : (cs : List Cond) (i : ℕ) (c : Cond) → i < length cs → c ≡ get_or cs i c → depth_of c ≤ greatest (map depth_of cs)
greatest_item [] i c h e = absurd (omega arith)
greatest_item (d ∷ cs) zero c h e = omega (arith, ap depth_of e)
greatest_item (d ∷ cs) (suc i) c h e = omega (arith, greatest_item cs i c (omega arith) e)

greatest-append : (xs ys : List ℕ) → greatest (xs ++ ys) ≡ max (greatest xs) (greatest ys)
greatest-append [] ys = omega arith
greatest-append (x ∷ xs) ys = omega (arith, greatest-append xs ys)

pub greatest_more : (cs : List Cond) (i : ℕ) (c : Cond) (n : ℕ) → i < length cs → c ≡ get_or cs i c → greatest (map depth_of (take i cs)) ≤ n → depth_of c ≤ n → greatest (map depth_of (take (i + 1) cs)) ≤ n
greatest_more cs i c n h e p q =
    let same : take (i + 1) cs ≡ take i cs ++ c ∷ [] = take_more cs i c h ∙ ap (λ k. take i cs ++ k ∷ []) (sym e) in
    let parts : greatest (map depth_of (take (i + 1) cs)) ≡ max (greatest (map depth_of (take i cs))) (greatest (map depth_of (c ∷ []))) =
    ap (λ l. greatest (map depth_of l)) same ∙ ap greatest (map-append depth_of (take i cs) (c ∷ [])) ∙ greatest-append (map depth_of (take i cs)) (map depth_of (c ∷ [])) in
    omega (arith, parts)

-- What may be refused: one step after another, and one step for each of a list.
use Rattle.std.specs.Prelude.{◌≡◌, List, [], ◌∷◌, Option, Some, None, Result, Ok, Err}
use Rattle.keeper_formulas.specs.declared.fail.Refusal.{Refusal}
use Rattle.keeper_formulas.specs.declared.fail.Fail.{Fail}
use Rattle.keeper_formulas.specs.declared.fail.Fail.TheVariants.{Refused, NoMemory}

-- a step on what the first gave
abbrev pub and_then : {A B : Type 0} → Result A Refusal → (A → Result B Refusal) → Result B Refusal
and_then (Ok x) step = step x
and_then (Err refusal) step = Err refusal

abbrev pub map_ok : {A B : Type 0} → (A → B) → Result A Refusal → Result B Refusal
map_ok f (Ok x) = Ok (f x)
map_ok f (Err refusal) = Err refusal

-- what a step gives for each of a list, or its first refusal
abbrev pub each : {A B : Type 0} → (A → Result B Refusal) → List A → Result (List B) Refusal
each step [] = Ok []
each step (x ∷ xs) = and_then (step x) (λ y. map_ok (λ ys. y ∷ ys) (each step xs))

-- those that are there
abbrev pub somes : {A : Type 0} → List (Option A) → List A
somes [] = []
somes (None ∷ xs) = somes xs
somes (Some x ∷ xs) = x ∷ somes xs

-- a refusal is the one that is meant; want of memory is free
abbrev pub Refuses : {A : Type 0} → Result A Refusal → Fail → Type 0
Refuses meant (Refused refusal) = meant ≡ Err refusal
Refuses meant NoMemory = Unit {0}

-- What a call gives is what is meant: a result, or a refusal.
abbrev pub Gives : {A : Type 0} → Result A Refusal → Result A Fail → Type 0
Gives meant (Ok x) = meant ≡ Ok x
Gives meant (Err fail) = Refuses meant fail

-- A call changes what it stands on as is meant. A refusal and want of memory leave it.
abbrev pub Changes : {D A : Type 0} → Result (D × A) Refusal → D → Result A Fail → D → Type 0
Changes meant old (Ok x) new = meant ≡ Ok (new, x)
Changes meant old (Err fail) new = Refuses meant fail × (new ≡ old)

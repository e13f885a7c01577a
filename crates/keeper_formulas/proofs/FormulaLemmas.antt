-- Lemmas on the values of expressions.
use Rattle.std.proofs.Common.{◌≡◌, ◌<◌, ◌≤◌, Bool, true, false, ◌&&◌, true≢false, List, [], ◌∷◌, length, get_or, drop, Result, Ok, Err, refl, sym, ap, ◌∙◌, arith}
use Rattle.std.proofs.lemmas.List.{drop_more}
use Rattle.keeper_formulas.specs.declared.fail.Refusal.{Refusal}
use Rattle.hrana_value.specs.declared.value.Value.{Value}
use Rattle.keeper_formulas.specs.declared.formulas.Operand.{Operand}
use Rattle.keeper_formulas.specs.declared.formulas.Addend.{Addend}
use Rattle.std.specs.List.{list_all}
use Rattle.keeper_formulas.specs.declared.formulas.Operand.TheVariants.{Constant, Column}
use Rattle.keeper_formulas.specs.declared.formulas.Formula.{Formula}
use Rattle.keeper_formulas.specs.Each.{and_then, map_ok}
use Rattle.keeper_formulas.specs.Formulas.{is_constant, names_no_column, operand_value, sums, formula_value}
use Rattle.keeper_formulas.specs.Values.{sum_of}

-- an expression of one operand
pub first_only : (g : Value → Bool) (row : List Value) (first : Operand) (rest : List Addend) (b : Bool) → length rest < 1 → b ≡ g (operand_value row first) → ◌≡◌ {A = Result Bool Refusal} (Ok b) (map_ok g (sums row (operand_value row first) rest))
first_only g row first [] b h p = ap (λ v. Ok v) p
first_only g row first (x ∷ xs) b h p = absurd (omega arith)

-- an expression with an operator
pub with_second : (g : Value → Bool) (row : List Value) (first : Operand) (xs ys tail : List Addend) (x : Addend) (r : Result Value Refusal) (b : Result Bool Refusal) → ys ≡ xs → tail ≡ drop 1 ys → 1 ≤ length ys → x ≡ get_or ys 0 x → r ≡ sums row (operand_value row first) (x ∷ tail) → b ≡ map_ok g r → b ≡ map_ok g (sums row (operand_value row first) xs)
with_second g row first xs ys tail x r b e t h is p q =
    let whole : ys ≡ x ∷ tail = drop_more ys 0 x h ∙ ap (λ z. z ∷ drop 1 ys) (sym is) ∙ ap (λ z. x ∷ z) (sym t) in
    q ∙ ap (map_ok g) (p ∙ ap (sums row (operand_value row first)) (sym whole ∙ e))

-- ---- expressions that name no column

both : (a b : Bool) → (a && b) ≡ true → (a ≡ true) × (b ≡ true)
both true b p = (refl, p)
both false b p = absurd (true≢false (sym p))

constant_operand : (row other : List Value) (operand : Operand) → is_constant operand ≡ true → operand_value row operand ≡ operand_value other operand
constant_operand row other (Constant v) p = refl
constant_operand row other (Column place) p = absurd (true≢false (sym p))

and_then_same : {A B : Type 0} (r : Result A Refusal) (f g : A → Result B Refusal) → ((x : A) → f x ≡ g x) → and_then r f ≡ and_then r g
and_then_same (Ok x) f g same = same x
and_then_same (Err refusal) f g same = refl

constant_sums : (row other : List Value) (sum : Value) (addends : List Addend) → list_all (λ addend. is_constant addend.operand) addends ≡ true → sums row sum addends ≡ sums other sum addends
constant_sums row other sum [] p = refl
constant_sums row other sum (addend ∷ rest) p =
    let q = both (is_constant addend.operand) (list_all (λ addend. is_constant addend.operand) rest) p in
    ap (λ v. and_then (sum_of addend.minus sum v) (λ next. sums row next rest)) (constant_operand row other addend.operand q.0)
    ∙ and_then_same (sum_of addend.minus sum (operand_value other addend.operand)) (λ next. sums row next rest) (λ next. sums other next rest) (λ next. constant_sums row other next rest q.1)

-- an expression that names no column has one value on all rows
pub constant_formula : (row other : List Value) (formula : Formula) → names_no_column formula ≡ true → formula_value row formula ≡ formula_value other formula
constant_formula row other formula p =
    let q = both (is_constant formula.first) (list_all (λ addend. is_constant addend.operand) formula.rest) p in
    ap (λ v. sums row v formula.rest) (constant_operand row other formula.first q.0) ∙ constant_sums row other (operand_value other formula.first) formula.rest q.1

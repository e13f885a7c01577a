-- Expressions whose names and parameters are resolved, and their values on a row.
use Rattle.std.specs.Prelude.{ℕ, ◌-◌, Bool, true, false, ◌&&◌, List, [], ◌∷◌, Option, Some, None, Result, Ok, Err, slice_set}
use Rattle.std.specs.List.{position, list_all}
use Rattle.hrana_value.specs.declared.value.Value.{Value}
use Rattle.hrana_value.specs.declared.value.Value.TheVariants as value
use Rattle.keeper_formulas.specs.declared.fail.Refusal.{Refusal}
use Rattle.keeper_formulas.specs.declared.fail.Refusal.TheVariants.{NoColumn}
use Rattle.keeper_dialect.specs.declared.query.Term.{Term}
use Rattle.keeper_dialect.specs.declared.query.Term.TheVariants.{Number, Text, Blob, Null, Param, Name}
use Rattle.keeper_dialect.specs.declared.query.Add.{Add}
use Rattle.keeper_dialect.specs.declared.query.Expr.{Expr}
use Rattle.keeper_dialect.specs.declared.query.ColExpr.{ColExpr}
use Rattle.keeper_dialect.specs.Tokens.{is_same_name}
use Rattle.keeper_formulas.specs.declared.formulas.Operand.{Operand}
use Rattle.keeper_formulas.specs.declared.formulas.Operand.TheVariants.{Constant, Column}
use Rattle.keeper_formulas.specs.declared.formulas.Addend.{Addend}
use Rattle.keeper_formulas.specs.declared.formulas.Formula.{Formula}
use Rattle.keeper_formulas.specs.declared.formulas.Equation.{Equation}
use Rattle.keeper_formulas.specs.Each.{and_then, map_ok, each}
use Rattle.keeper_formulas.specs.Values.{value_at, sum_of, is_equal}

-- the place of a name among the columns; names compare without regard to ASCII case
abbrev pub place_of : List (List ℕ) → List ℕ → Option ℕ
place_of columns name = position (λ column. is_same_name column name) columns

abbrev pub known : {A : Type 0} → Option A → Result A Refusal
known None = Err NoColumn
known (Some x) = Ok x

-- what a term stands for: one value on all rows, or the value of a column
abbrev pub operand_of : List (List ℕ) → List Value → Term → Result Operand Refusal
operand_of columns bound (Number number) = Ok (Constant (value.Integer number))
operand_of columns bound (Text text) = Ok (Constant (value.Text text))
operand_of columns bound (Blob bytes) = Ok (Constant (value.Blob bytes))
operand_of columns bound Null = Ok (Constant value.Null)
operand_of columns bound (Param number) = Ok (Constant (value_at bound (number - 1)))
operand_of columns bound (Name name) = map_ok Column (known (place_of columns name))

abbrev pub addend_of : List (List ℕ) → List Value → Add → Result Addend Refusal
addend_of columns bound add = map_ok (λ operand. record { minus = add.minus; operand = operand }) (operand_of columns bound add.term)

-- an expression with each name a column's place and each parameter its value
abbrev pub formula_of : List (List ℕ) → List Value → Expr → Result Formula Refusal
formula_of columns bound expr =
    and_then (operand_of columns bound expr.first)
    (λ first. map_ok (λ rest. record { first = first; rest = rest }) (each (addend_of columns bound) expr.rest))

-- the same of `name = expr`
abbrev pub equation_of : List (List ℕ) → List Value → ColExpr → Result Equation Refusal
equation_of columns bound set =
    and_then (known (place_of columns set.column))
    (λ place. map_ok (λ formula. record { place = place; formula = formula }) (formula_of columns bound set.expr))

-- the same of what a WHERE says, if there is one
abbrev pub condition_of : List (List ℕ) → List Value → Option ColExpr → Result (Option Equation) Refusal
condition_of columns bound None = Ok None
condition_of columns bound (Some wanted) = map_ok Some (equation_of columns bound wanted)

-- the operand has one value on all rows
abbrev pub is_constant : Operand → Bool
is_constant (Constant v) = true
is_constant (Column place) = false

abbrev pub names_no_column : Formula → Bool
names_no_column formula = is_constant formula.first && list_all (λ addend. is_constant addend.operand) formula.rest

abbrev pub operand_value : List Value → Operand → Value
operand_value row (Constant v) = v
operand_value row (Column place) = value_at row place

-- the operators bind from the left
abbrev pub sums : List Value → Value → List Addend → Result Value Refusal
sums row sum [] = Ok sum
sums row sum (addend ∷ rest) = and_then (sum_of addend.minus sum (operand_value row addend.operand)) (λ next. sums row next rest)

-- the value of an expression on a row
abbrev pub formula_value : List Value → Formula → Result Value Refusal
formula_value row formula = sums row (operand_value row formula.first) formula.rest

-- the column equals the expression on the row
abbrev pub is_met : List Value → Equation → Result Bool Refusal
is_met row equation = map_ok (is_equal (value_at row equation.place)) (formula_value row equation.formula)

-- The row with the value of each expression at its place. The expressions have their values on the old row.
abbrev pub assigned : List Value → List Value → List Equation → Result (List Value) Refusal
assigned old row [] = Ok row
assigned old row (equation ∷ rest) = and_then (formula_value old equation.formula) (λ v. assigned old (slice_set row equation.place v) rest)

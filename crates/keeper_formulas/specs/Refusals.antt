-- The code of each refusal.
use Rattle.hrana_stmt.specs.declared.codes.Code.{Code}
use Rattle.hrana_stmt.specs.declared.codes.Code.TheVariants as code
use Rattle.keeper_formulas.specs.declared.fail.Refusal.{Refusal}
use Rattle.keeper_formulas.specs.declared.fail.Refusal.TheVariants.{Syntax, NoTable, NoColumn, TableExists, Constraint, BadType, Overflow, ResultTooLarge}

abbrev pub code_of : Refusal → Code
code_of Syntax = code.Syntax
code_of NoTable = code.NoTable
code_of NoColumn = code.NoColumn
code_of TableExists = code.TableExists
code_of Constraint = code.Constraint
code_of BadType = code.BadType
code_of Overflow = code.Overflow
code_of ResultTooLarge = code.ResultTooLarge

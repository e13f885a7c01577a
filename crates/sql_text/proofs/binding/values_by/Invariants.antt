use Rattle.std.proofs.Common.{◌+◌, ◌-◌, List}
use Rattle.hrana_stmt.specs.declared.statements.NamedArg.{NamedArg}
use Rattle.sql_text.specs.Binding.{numbers_from, HasLast}
use Rattle.sql_text.proofs.BindLemmas.{Goes}
use Rattle.sql_text.proofs.binding.values_by.Given as goal

abbrev pub invariant-loop-number : goal.invariant-loop-number
invariant-loop-number l = (named : List NamedArg) → HasLast l.parameters named l.table → Goes l.parameters l.args named l.values (numbers_from l.number (l.most + 1 - l.number))

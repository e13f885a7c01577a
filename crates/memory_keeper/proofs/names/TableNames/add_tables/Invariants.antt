use Rattle.std.proofs.Common.{take}
use Rattle.memory_keeper.specs.Names.{HasNamesOf}
use Rattle.memory_keeper.proofs.names.TableNames.add_tables.Given as goal

abbrev pub invariant-loop-place : goal.invariant-loop-place
invariant-loop-place l = HasNamesOf l.initial.self (take l.from l.tables) → HasNamesOf l.self (take l.place l.tables)

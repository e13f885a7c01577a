use Rattle.std.proofs.Common.{◌≡◌, Ok, take}
use Rattle.keeper_formulas.specs.Each.{each}
use Rattle.keeper_formulas.specs.Formulas.{known, place_of}
use Rattle.memory_keeper.proofs.insert.places_of_names.Given as goal

abbrev pub invariant-loop-name : goal.invariant-loop-name
invariant-loop-name l = each (λ name. known (place_of l.columns name)) (take l.name-index l.names) ≡ Ok l.places.items

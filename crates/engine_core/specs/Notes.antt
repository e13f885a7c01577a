-- The list that a journal tells.
use Rattle.std.specs.Prelude.{List, [], ◌∷◌, ◌++◌, Option, option_map}
use Rattle.engine_core.specs.declared.entries.Entry.{Entry}

-- the list, where it is told, with one more entry
abbrev pub with_entry : Option (List Entry) → Entry → Option (List Entry)
with_entry noted entry = option_map (λ list. list ++ entry ∷ []) noted

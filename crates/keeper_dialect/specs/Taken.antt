-- The names that are taken.
use Rattle.std.specs.Prelude.{ℕ, Bool, List}
use Rattle.std.specs.BTreeSet.{contains_text}
use Rattle.std.specs.Str.{str_to_ascii_lowercase}
use Rattle.keeper_dialect.specs.declared.taken.Taken.{Taken}

-- whether a name is taken, without regard to ASCII case
abbrev pub is_taken : Taken → List ℕ → Bool
is_taken taken name = contains_text taken.names (str_to_ascii_lowercase name)

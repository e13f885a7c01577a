-- Data whose text reads back as it.
use Rattle.std.specs.Prelude.{◌≡◌, false, Some}
use Rattle.json.specs.Tree.{HasNumbers}
use Rattle.serde_json.specs.Data.{Data, Members, no_members, member}
use Rattle.serde_json.specs.Read.{of_json}
use Rattle.serde_json.specs.Written.{outline, has_float}

-- its numbers are whole ones that are read as they are, and its members stand in byte order, each once
pub record IsWhole (d : Data) : Type 0 where
  pub no_float : has_float d ≡ false
  pub numbers : HasNumbers (outline d)
  pub in_order : of_json (outline d) ≡ Some d

-- each part of the members is
abbrev pub PartsWhole : Members → Type 0
PartsWhole no_members = Unit {0}
PartsWhole (member k d ms) = IsWhole d × PartsWhole ms

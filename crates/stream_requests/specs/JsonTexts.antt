-- Which bytes are JSON.
use Rattle.std.specs.Prelude.{◌≡◌, ℕ, List, None, Some, IsUtf8}
use Rattle.serde_json.specs.Data.{Data}
use Rattle.serde_json.specs.Read.{read}

-- the bytes are JSON in UTF-8 with this tree
abbrev pub IsJson : List ℕ → Data → Type 0
IsJson bytes t = IsUtf8 bytes × (read bytes ≡ Some t)

-- the bytes are no JSON
abbrev pub IsNoJson : List ℕ → Type 0
IsNoJson bytes = IsUtf8 bytes → read bytes ≡ None

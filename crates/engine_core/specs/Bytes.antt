-- Words on lists of bytes.
use Rattle.std.specs.Prelude.{◌≡◌, ℕ, ◌==◌, List, ◌++◌, Option}
use Rattle.std.specs.List.{slice_split}
use Rattle.std.specs.Io.KnownBytes.{Appends}

-- x is y's front
pub record IsPrefix {A : Type 0} (x y : List A) : Type 0 where
  pub rest : List A
  pub whole : y ≡ x ++ rest

-- the parts between newline bytes; the part after the last newline counts, also where it is empty
abbrev pub lines_of : List ℕ → List (List ℕ)
lines_of bytes = slice_split (λ b. b == 10) bytes

-- what a writer holds has grown by a front of these bytes
pub record AppendsFront (old new : Option (List ℕ)) (bytes : List ℕ) : Type 0 where
  pub front : List ℕ
  pub is_front : IsPrefix front bytes
  pub written : Appends old new front

-- What is written for a number is a form of it.
use Rattle.std.proofs.Common.{◌≡◌, ℤ, Some, refl}
use Rattle.std.specs.Prelude.{pos, negsuc, FitsSigned}
use Rattle.std.specs.Int.{w32}
use Rattle.serde_json.specs.Data.{number}
use Rattle.serde_json.specs.Find.{of_integer}
use Rattle.hrana_value.specs.Members.{Int32Tree, whole_of}

whole-of_integer : (z : ℤ) → whole_of (number (of_integer z)) ≡ Some z
whole-of_integer (pos n) = refl
whole-of_integer (negsuc n) = refl

pub int32_back : (z : ℤ) → FitsSigned w32 z → Int32Tree z (number (of_integer z))
int32_back z fits = record { is = whole-of_integer z; fits = fits }

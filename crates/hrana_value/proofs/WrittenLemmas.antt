-- What is written as a value is the form of that value.
use Rattle.std.proofs.Common.{ℤ, ℕ, List, refl, inl}
use Rattle.std.specs.Prelude.{FitsSigned}
use Rattle.std.specs.Int.{w64}
use Rattle.std.specs.Fmt.{signed_decimal}
use Rattle.base64.specs.Engines.{standard}
use Rattle.base64.specs.GeneralPurpose.{encode_of, IsBytes}
use Rattle.hrana_value.specs.Tree.{ValueTree}
use Rattle.hrana_value.specs.Written.{value_data}
use Rattle.hrana_value.specs.declared.value.Value.TheVariants.{Integer, Blob}
use Rattle.hrana_value.proofs.IntegerLemmas.{SpellsI64-signed_decimal}

pub integer_back : (z : ℤ) → FitsSigned w64 z → ValueTree (Integer z) (value_data (Integer z))
integer_back z fits = (refl, (signed_decimal z, refl, SpellsI64-signed_decimal z fits))

pub blob_back : (b : List ℕ) → IsBytes b → ValueTree (Blob b) (value_data (Blob b))
blob_back b bytes = (refl, (encode_of standard b, refl, record { are_bytes = bytes; spelled = inl refl }))

-- A text spells at most one list of bytes.
use Rattle.std.proofs.Common.{◌≡◌, ℕ, List, Option, None, Some, sym, ◌∙◌, inl, inr, refl}
use Rattle.std.specs.declared.result.Result.TheVariants.{Ok}
use Rattle.base64.specs.Engines.{standard, standard_no_pad}
use Rattle.base64.specs.GeneralPurpose.{decode_of, decoded_bytes_of}
use Rattle.base64.proofs.EngineFacts.{decode_of-encode_of}
use Rattle.base64.specs.Decode.{decode_outcome}
use Rattle.base64.specs.declared.decode.DecodeError.{DecodeError}
use Rattle.base64.specs.declared.engine.general_purpose.GeneralPurpose.{GeneralPurpose}
use Rattle.hrana_value.specs.Base64.{SpellsBytes}

decode_outcome_ok : (error : Option DecodeError) (bytes b : List ℕ) → decode_outcome error bytes ≡ Ok b → b ≡ bytes
decode_outcome_ok None bytes b e = cc
decode_outcome_ok (Some x) bytes b e = cc

-- what a text decodes to is what its groups give
decode_of-bytes : (e : GeneralPurpose) (s b : List ℕ) → decode_of e s ≡ Ok b → b ≡ decoded_bytes_of e s
decode_of-bytes e s b ok = decode_outcome_ok _ _ b ok

-- the engines with padding and without it take the same bytes from a text
pub decoded_bytes-spelled : (s b : List ℕ) → SpellsBytes s b → b ≡ decoded_bytes_of standard s
decoded_bytes-spelled s b p = elim p.spelled [
  | inl padded ↦ decode_of-bytes standard s b (rw padded (decode_of-encode_of standard b refl p.are_bytes))
  | inr plain ↦ decode_of-bytes standard_no_pad s b (rw plain (decode_of-encode_of standard_no_pad b refl p.are_bytes))
]

pub SpellsBytes-one : (s a b : List ℕ) → SpellsBytes s a → SpellsBytes s b → a ≡ b
SpellsBytes-one s a b p q = decoded_bytes-spelled s a p ∙ sym (decoded_bytes-spelled s b q)

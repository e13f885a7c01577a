-- Blobs in JSON: base64 as in RFC 4648, section 4.
use Rattle.std.specs.Prelude.{◌≡◌, ◌⊎◌, ℕ, List}
use Rattle.base64.specs.Engines.{standard, standard_no_pad}
use Rattle.base64.specs.GeneralPurpose.{encode_of, IsBytes}

-- the text is the encoding of the bytes, with or without its padding
pub record SpellsBytes (s b : List ℕ) : Type 0 where
  pub are_bytes : IsBytes b
  pub spelled : (s ≡ encode_of standard b) ⊎ (s ≡ encode_of standard_no_pad b)

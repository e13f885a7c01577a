-- Which JSON trees a value may be written as, and which declines stand in a tree that should be a value.
use Rattle.std.specs.Prelude.{◌≡◌, ℕ, ℤ, List, Ok, codes, ⊤, FitsSigned}
use Rattle.std.specs.Int.{w64}
use Rattle.std.specs.Str.Parse.{ParsesSigned, IsNumeral, without_leading_sign, signed_digits_value}
use Rattle.serde_json.specs.Data.{Data}
use Rattle.hrana_value.specs.Members.{HasText, TextTree}
use Rattle.hrana_value.specs.Base64.{SpellsBytes}
use Rattle.hrana_value.specs.declared.failures.Decline.{Decline}
use Rattle.hrana_value.specs.declared.failures.Decline.TheVariants.{Shape, Range, Float}
use Rattle.hrana_value.specs.declared.value.Value.{Value}
use Rattle.hrana_value.specs.declared.value.Value.TheVariants.{Null, Integer, Text, Blob}

-- ---- integer texts

-- the text is an optional sign and decimal digits
abbrev pub IsIntegerText : List ℕ → Type 0
IsIntegerText s = IsNumeral 10 (without_leading_sign s)

-- the number that such a text writes fits into 64 bits
abbrev pub FitsI64 : List ℕ → Type 0
FitsI64 s = FitsSigned w64 (signed_digits_value 10 s)

-- the text is a spelling of the number, as `i64::from_str` reads it
abbrev pub SpellsI64 : List ℕ → ℤ → Type 0
SpellsI64 s z = ParsesSigned {E = ⊤} w64 10 s (Ok z)

-- a string that spells an integer of 64 bits
abbrev pub Int64TextTree : ℤ → Data → Type 0
Int64TextTree z t = (s : List ℕ) × TextTree s t × SpellsI64 s z

abbrev pub Int64TextStands : Data → Decline → Type 0
Int64TextStands t Shape = (s : List ℕ) → TextTree s t → IsIntegerText s → ⊥
Int64TextStands t Range = (s : List ℕ) × TextTree s t × IsIntegerText s × (FitsI64 s → ⊥)
Int64TextStands t kind = ⊥

-- ---- values

abbrev pub ValueTree : Value → Data → Type 0
ValueTree Null t = HasText t (codes "type") (codes "null")
ValueTree (Integer z) t = HasText t (codes "type") (codes "integer") × ((s : List ℕ) × HasText t (codes "value") s × SpellsI64 s z)
ValueTree (Text s) t = HasText t (codes "type") (codes "text") × HasText t (codes "value") s
ValueTree (Blob b) t = HasText t (codes "type") (codes "blob") × ((s : List ℕ) × HasText t (codes "base64") s × SpellsBytes s b)

-- the members that the tree's `type` asks for are there, and have their forms
pub data ValueShaped (t : Data) : Type 0 where
  null_shaped : HasText t (codes "type") (codes "null") → ValueShaped t
  integer_shaped : (s : List ℕ) → HasText t (codes "type") (codes "integer") → HasText t (codes "value") s → IsIntegerText s → ValueShaped t
  float_shaped : HasText t (codes "type") (codes "float") → ValueShaped t
  text_shaped : (s : List ℕ) → HasText t (codes "type") (codes "text") → HasText t (codes "value") s → ValueShaped t
  blob_shaped : (s b : List ℕ) → HasText t (codes "type") (codes "blob") → HasText t (codes "base64") s → SpellsBytes s b → ValueShaped t

-- an integer text whose number doesn't fit
pub record IntegerTooLarge (t : Data) : Type 0 where
  pub text : List ℕ
  pub is_integer : HasText t (codes "type") (codes "integer")
  pub has_text : HasText t (codes "value") text
  pub is_integer_text : IsIntegerText text
  pub too_large : FitsI64 text → ⊥

abbrev pub ValueStands : Data → Decline → Type 0
ValueStands t Shape = ValueShaped t → ⊥
ValueStands t Range = IntegerTooLarge t
ValueStands t Float = HasText t (codes "type") (codes "float")
ValueStands t kind = ⊥

-- ---- laws

-- a tree is the form of at most one value
abbrev pub NoTreeIsTwoValues : Type 0
NoTreeIsTwoValues = (t : Data) (v w : Value) → ValueTree v t → ValueTree w t → v ≡ w

-- nothing is declined in the form of a value
abbrev pub NoValueIsDeclined : Type 0
NoValueIsDeclined = (v : Value) (t : Data) → ValueTree v t → (k : Decline) → ValueStands t k → ⊥

-- A tree is one of at most one value, and what is declined is none.
use Rattle.std.proofs.Common.{◌≡◌, ◌⊎◌, inl, inr, ℕ, ◌<◌, List, codes, refl, ap, subst, sym, ◌∙◌, None, arith}
use Rattle.std.specs.Prelude.{Ok, Err}
use Rattle.std.specs.Str.Parse.{signed_digits_value}
use Rattle.serde_json.specs.Data.{Data}
use Rattle.hrana_value.proofs.TextLemmas.{one, apart}
use Rattle.hrana_value.proofs.Base64Lemmas.{SpellsBytes-one}
use Rattle.hrana_value.proofs.DeclineLemmas.{Reads-ok, Reads-declined}
use Rattle.hrana_value.specs.Base64.{SpellsBytes}
use Rattle.hrana_value.specs.Members.{HasText, text_at}
use Rattle.hrana_value.specs.Declines.{rank_of, IsFirst, Reads}
use Rattle.hrana_value.specs.Tree.{ValueTree, NoTreeIsTwoValues, NoValueIsDeclined, ValueShaped, null_shaped, integer_shaped, float_shaped, text_shaped, blob_shaped, IntegerTooLarge, ValueStands, IsIntegerText, FitsI64}
use Rattle.hrana_value.specs.declared.failures.Decline.{Decline}
use Rattle.hrana_value.specs.declared.failures.Decline.TheVariants.{Unknown, Describe, Shape, BothSql, BadStep, Range, Float}
use Rattle.hrana_value.specs.declared.failures.ReadFail.TheVariants.{Declined}
use Rattle.hrana_value.specs.declared.value.Value.{Value}
use Rattle.hrana_value.specs.declared.value.Value.TheVariants.{Null, Integer, Text, Blob}

-- ---- a tree is one of at most one value

pub ValueTree-one : NoTreeIsTwoValues
ValueTree-one t Null Null p q = refl
ValueTree-one t Null (Integer z) p q = absurd (apart _ _ _ refl p q.0)
ValueTree-one t Null (Text s) p q = absurd (apart _ _ _ refl p q.0)
ValueTree-one t Null (Blob b) p q = absurd (apart _ _ _ refl p q.0)
ValueTree-one t (Integer z) Null p q = absurd (apart _ _ _ refl p.0 q)
ValueTree-one t (Integer z) (Integer y) p q =
    let same : p.1.0 ≡ q.1.0 = one _ _ _ p.1.1 q.1.1 in
    ap Integer (p.1.2.1 ∙ ap (signed_digits_value 10) same ∙ sym q.1.2.1)
ValueTree-one t (Integer z) (Text s) p q = absurd (apart _ _ _ refl p.0 q.0)
ValueTree-one t (Integer z) (Blob b) p q = absurd (apart _ _ _ refl p.0 q.0)
ValueTree-one t (Text s) Null p q = absurd (apart _ _ _ refl p.0 q)
ValueTree-one t (Text s) (Integer z) p q = absurd (apart _ _ _ refl p.0 q.0)
ValueTree-one t (Text s) (Text r) p q = ap Text (one _ _ _ p.1 q.1)
ValueTree-one t (Text s) (Blob b) p q = absurd (apart _ _ _ refl p.0 q.0)
ValueTree-one t (Blob b) Null p q = absurd (apart _ _ _ refl p.0 q)
ValueTree-one t (Blob b) (Integer z) p q = absurd (apart _ _ _ refl p.0 q.0)
ValueTree-one t (Blob b) (Text s) p q = absurd (apart _ _ _ refl p.0 q.0)
ValueTree-one t (Blob b) (Blob a) p q =
    let same : p.1.0 ≡ q.1.0 = one _ _ _ p.1.1 q.1.1 in
    ap Blob (SpellsBytes-one _ _ _ (subst (λ s. SpellsBytes s b) same p.1.2) q.1.2)

-- ---- nothing is declined in the form of a value

shaped : (v : Value) (t : Data) → ValueTree v t → ValueShaped t
shaped Null t p = null_shaped p
shaped (Integer z) t p = integer_shaped p.1.0 p.0 p.1.1 p.1.2.0.0
shaped (Text s) t p = text_shaped s p.0 p.1
shaped (Blob b) t p = blob_shaped p.1.0 b p.0 p.1.1 p.1.2

no_float : (v : Value) (t : Data) → ValueTree v t → HasText t (codes "type") (codes "float") → ⊥
no_float Null t p q = apart _ _ _ refl p q
no_float (Integer z) t p q = apart _ _ _ refl p.0 q
no_float (Text s) t p q = apart _ _ _ refl p.0 q
no_float (Blob b) t p q = apart _ _ _ refl p.0 q

not_too_large : (v : Value) (t : Data) → ValueTree v t → IntegerTooLarge t → ⊥
not_too_large Null t p q = apart _ _ _ refl p q.is_integer
not_too_large (Integer z) t p q = q.too_large (subst FitsI64 (one _ _ _ p.1.1 q.has_text) p.1.2.0.1)
not_too_large (Text s) t p q = apart _ _ _ refl p.0 q.is_integer
not_too_large (Blob b) t p q = apart _ _ _ refl p.0 q.is_integer

pub ValueTree-none : NoValueIsDeclined
ValueTree-none v t p Unknown here = here
ValueTree-none v t p Describe here = here
ValueTree-none v t p Shape here = here (shaped v t p)
ValueTree-none v t p BothSql here = here
ValueTree-none v t p BadStep here = here
ValueTree-none v t p Range here = not_too_large v t p here
ValueTree-none v t p Float here = no_float v t p here

-- ---- the first kind that stands

shape_before : (t : Data) (k : Decline) → rank_of k < rank_of Shape → ValueStands t k → ⊥
shape_before t Unknown less here = here
shape_before t Describe less here = here
shape_before t Shape less here = absurd (omega arith)
shape_before t BothSql less here = absurd (omega arith)
shape_before t BadStep less here = absurd (omega arith)
shape_before t Range less here = absurd (omega arith)
shape_before t Float less here = absurd (omega arith)

pub value_shape : (t : Data) → (ValueShaped t → ⊥) → IsFirst (ValueStands t) Shape
value_shape t none = record { stands_itself = none; none_before = shape_before t }

range_before : (t : Data) → ValueShaped t → (k : Decline) → rank_of k < rank_of Range → ValueStands t k → ⊥
range_before t is Unknown less here = here
range_before t is Describe less here = here
range_before t is Shape less here = here is
range_before t is BothSql less here = here
range_before t is BadStep less here = here
range_before t is Range less here = absurd (omega arith)
range_before t is Float less here = absurd (omega arith)

pub value_range : (t : Data) → IntegerTooLarge t → IsFirst (ValueStands t) Range
value_range t large = record { stands_itself = large; none_before = range_before t (integer_shaped large.text large.is_integer large.has_text large.is_integer_text) }

float_before : (t : Data) → HasText t (codes "type") (codes "float") → (k : Decline) → rank_of k < rank_of Float → ValueStands t k → ⊥
float_before t is Unknown less here = here
float_before t is Describe less here = here
float_before t is Shape less here = here (float_shaped is)
float_before t is BothSql less here = here
float_before t is BadStep less here = here
float_before t is Range less here = apart _ _ _ refl is here.is_integer
float_before t is Float less here = absurd (omega arith)

pub value_float : (t : Data) → HasText t (codes "type") (codes "float") → IsFirst (ValueStands t) Float
value_float t is = record { stands_itself = is; none_before = float_before t is }

-- ---- what the readers of each kind answer

pub value_read : (v : Value) (t : Data) → ValueTree v t → Reads (λ w. ValueTree w t) (ValueStands t) (Ok v)
value_read v t p = Reads-ok v p (ValueTree-none v t p)

pub value_misshaped : (t : Data) → (ValueShaped t → ⊥) → Reads (λ w. ValueTree w t) (ValueStands t) (Err (Declined Shape))
value_misshaped t none = Reads-declined Shape (value_shape t none)

pub value_too_large : (t : Data) (s : List ℕ) → HasText t (codes "type") (codes "integer") → HasText t (codes "value") s → IsIntegerText s → (FitsI64 s → ⊥)
    → Reads (λ w. ValueTree w t) (ValueStands t) (Err (Declined Range))
value_too_large t s is has digits large =
    Reads-declined Range (value_range t (record { text = s; is_integer = is; has_text = has; is_integer_text = digits; too_large = large }))

pub value_is_float : (t : Data) → HasText t (codes "type") (codes "float") → Reads (λ w. ValueTree w t) (ValueStands t) (Err (Declined Float))
value_is_float t is = Reads-declined Float (value_float t is)

-- a tree whose type is no text has no shape, nor has one whose type is another
pub no_kind : (t : Data) → text_at (codes "type") t ≡ None → ValueShaped t → ⊥
no_kind t none (null_shaped is) = cc (sym none ∙ is)
no_kind t none (integer_shaped s is has digits) = cc (sym none ∙ is)
no_kind t none (float_shaped is) = cc (sym none ∙ is)
no_kind t none (text_shaped s is has) = cc (sym none ∙ is)
no_kind t none (blob_shaped s b is has spells) = cc (sym none ∙ is)

pub integer_misshaped : (t : Data) → HasText t (codes "type") (codes "integer") → ((s : List ℕ) → HasText t (codes "value") s → IsIntegerText s → ⊥) → ValueShaped t → ⊥
integer_misshaped t kind none (null_shaped is) = apart _ _ _ refl kind is
integer_misshaped t kind none (integer_shaped s is has digits) = none s has digits
integer_misshaped t kind none (float_shaped is) = apart _ _ _ refl kind is
integer_misshaped t kind none (text_shaped s is has) = apart _ _ _ refl kind is
integer_misshaped t kind none (blob_shaped s b is has spells) = apart _ _ _ refl kind is

pub text_misshaped : (t : Data) → HasText t (codes "type") (codes "text") → text_at (codes "value") t ≡ None → ValueShaped t → ⊥
text_misshaped t kind none (null_shaped is) = apart _ _ _ refl kind is
text_misshaped t kind none (integer_shaped s is has digits) = apart _ _ _ refl kind is
text_misshaped t kind none (float_shaped is) = apart _ _ _ refl kind is
text_misshaped t kind none (text_shaped s is has) = cc (sym none ∙ has)
text_misshaped t kind none (blob_shaped s b is has spells) = apart _ _ _ refl kind is

pub blob_misshaped : (t : Data) → HasText t (codes "type") (codes "blob") → ((s b : List ℕ) → HasText t (codes "base64") s → SpellsBytes s b → ⊥) → ValueShaped t → ⊥
blob_misshaped t kind none (null_shaped is) = apart _ _ _ refl kind is
blob_misshaped t kind none (integer_shaped s is has digits) = apart _ _ _ refl kind is
blob_misshaped t kind none (float_shaped is) = apart _ _ _ refl kind is
blob_misshaped t kind none (text_shaped s is has) = apart _ _ _ refl kind is
blob_misshaped t kind none (blob_shaped s b is has spells) = none s b has spells

pub other_kind : (t : Data) (kind : List ℕ) → HasText t (codes "type") kind → (kind ≡ codes "null" → ⊥) → (kind ≡ codes "integer" → ⊥) → (kind ≡ codes "float" → ⊥) → (kind ≡ codes "text" → ⊥)
    → (kind ≡ codes "blob" → ⊥) → ValueShaped t → ⊥
other_kind t kind has a b c d e (null_shaped is) = a (one _ _ _ has is)
other_kind t kind has a b c d e (integer_shaped s is h digits) = b (one _ _ _ has is)
other_kind t kind has a b c d e (float_shaped is) = c (one _ _ _ has is)
other_kind t kind has a b c d e (text_shaped s is h) = d (one _ _ _ has is)
other_kind t kind has a b c d e (blob_shaped s x is h spells) = e (one _ _ _ has is)

pub integer_declined : (t : Data) (s : List ℕ) (k : Decline) → HasText t (codes "type") (codes "integer") → HasText t (codes "value") s → (k ≡ Shape) ⊎ (k ≡ Range) → (k ≡ Shape → IsIntegerText s → ⊥)
    → (k ≡ Range → IsIntegerText s × (FitsI64 s → ⊥)) → Reads (λ w. ValueTree w t) (ValueStands t) (Err (Declined k))
integer_declined t s k is has (inl shape) p q =
    subst (λ e. Reads (λ w. ValueTree w t) (ValueStands t) (Err (Declined e))) (sym shape)
    (value_misshaped t (integer_misshaped t is (λ r h digits. p shape (subst IsIntegerText (one _ _ _ h has) digits))))
integer_declined t s k is has (inr range) p q =
    subst (λ e. Reads (λ w. ValueTree w t) (ValueStands t) (Err (Declined e))) (sym range) (value_too_large t s is has (q range).0 (q range).1)

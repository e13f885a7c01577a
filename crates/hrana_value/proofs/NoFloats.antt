-- What is written has no float, so that its text is the compact text of its tree.
use Rattle.std.proofs.Common.{◌≡◌, List, [], ◌∷◌, map, Bool, false, ◌||◌, refl}
use Rattle.serde_json.specs.Data.{Data, array}
use Rattle.serde_json.specs.View.{items_of}
use Rattle.serde_json.specs.Written.{has_float, items_have_float}
use Rattle.hrana_value.specs.declared.value.Value.{Value}
use Rattle.hrana_value.specs.declared.value.Value.TheVariants.{Null, Integer, Text, Blob}
use Rattle.hrana_value.specs.Written.{value_data, values_data}

pub has_float-value_data : (v : Value) → has_float (value_data v) ≡ false
has_float-value_data Null = refl
has_float-value_data (Integer z) = refl
has_float-value_data (Text s) = refl
has_float-value_data (Blob b) = refl

pub neither : (a b : Bool) → a ≡ false → b ≡ false → (a || b) ≡ false
neither a b p q = rw (p, q)

-- items that have no float, each by itself
pub items_have_float-map : {A : Type 0} (f : A → Data) → ((x : A) → has_float (f x) ≡ false) → (xs : List A) → items_have_float (items_of (map f xs)) ≡ false
items_have_float-map f each [] = refl
items_have_float-map f each (x ∷ xs) = neither _ _ (each x) (items_have_float-map f each xs)

pub has_float-values_data : (vs : List Value) → has_float (array (values_data vs)) ≡ false
has_float-values_data vs = items_have_float-map value_data has_float-value_data vs

-- How deep what is written nests.
use Rattle.std.proofs.Common.{ℕ, ◌≤◌, List, [], ◌∷◌, map, arith}
use Rattle.serde_json.specs.Data.{Data, array, depth, items_depth}
use Rattle.serde_json.specs.View.{items_of}
use Rattle.hrana_value.specs.declared.value.Value.{Value}
use Rattle.hrana_value.specs.declared.value.Value.TheVariants.{Null, Integer, Text, Blob}
use Rattle.hrana_value.specs.Written.{value_data, values_data}

pub items_depth-map : {A : Type 0} (f : A → Data) (n : ℕ) → ((x : A) → depth (f x) ≤ n) → (xs : List A) → items_depth (items_of (map f xs)) ≤ n
items_depth-map f n each [] = omega arith
items_depth-map f n each (x ∷ xs) = omega (arith, each x, items_depth-map f n each xs)

pub depth-value_data : (v : Value) → depth (value_data v) ≤ 1
depth-value_data Null = omega arith
depth-value_data (Integer z) = omega arith
depth-value_data (Text s) = omega arith
depth-value_data (Blob b) = omega arith

pub depth-values_data : (vs : List Value) → depth (array (values_data vs)) ≤ 2
depth-values_data vs = omega (arith, items_depth-map value_data 1 depth-value_data vs)

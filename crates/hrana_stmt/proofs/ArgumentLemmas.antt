-- How many arguments an array has.
use Rattle.std.proofs.Common.{◌≡◌, List, [], ◌∷◌, length, map, refl, ◌∙◌, ap, arith}
use Rattle.std.specs.Prelude.{Vec}
use Rattle.std.specs.declared.alloc.Global.{Global}
use Rattle.serde_json.specs.Data.{Data, null, boolean, number, string, array, object, Items, no_items, item}
use Rattle.serde_json.specs.View.{view, items_of}
use Rattle.serde_json.specs.declared.value.Value.{Value as Json}
use Rattle.serde_json.specs.declared.value.Value.TheVariants.{Array}
use Rattle.serde_json.proofs.Views.{view-Array}
use Rattle.hrana_value.specs.Trees.{ItemsTree, OptionalArrayTree}
use Rattle.hrana_stmt.specs.Tree.{items_count, count_of}

items_count-map : (js : List Json) → items_count (items_of (map view js)) ≡ length js
items_count-map [] = refl
items_count-map (j ∷ js) = omega (arith, items_count-map js)

pub count_of-Array : (v : Vec Json Global) → count_of (view (Array v)) ≡ length v.items
count_of-Array v = ap count_of (view-Array v) ∙ items_count-map v.items

ItemsTree-length : {A : Type 0} (tree : A → Data → Type 0) (xs : List A) (ds : Items) → ItemsTree tree xs ds → length xs ≡ items_count ds
ItemsTree-length tree [] no_items t = refl
ItemsTree-length tree [] (item d ds) t = absurd t
ItemsTree-length tree (x ∷ xs) no_items t = absurd t
ItemsTree-length tree (x ∷ xs) (item d ds) t = omega (arith, ItemsTree-length tree xs ds t.1)

pub OptionalArrayTree-length : {A : Type 0} (tree : A → Data → Type 0) (xs : List A) (d : Data) → OptionalArrayTree tree xs d → length xs ≡ count_of d
OptionalArrayTree-length tree xs null t = ap length t
OptionalArrayTree-length tree xs (boolean b) t = absurd t
OptionalArrayTree-length tree xs (number n) t = absurd t
OptionalArrayTree-length tree xs (string s) t = absurd t
OptionalArrayTree-length tree xs (array ds) t = ItemsTree-length tree xs ds t
OptionalArrayTree-length tree xs (object ms) t = absurd t

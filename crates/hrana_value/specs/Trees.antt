-- Lists and optional parts in JSON trees.
use Rattle.std.specs.Prelude.{◌≡◌, ◌⊎◌, List, [], ◌∷◌, Option, None, Some}
use Rattle.serde_json.specs.Data.{Data, null, array, Items, no_items, item}
use Rattle.hrana_value.specs.declared.failures.Decline.{Decline}
use Rattle.hrana_value.specs.declared.failures.Decline.TheVariants.{Shape}
use Rattle.hrana_value.specs.Declines.{Only}

-- each item of an array is the tree of the item in its place
abbrev pub ItemsTree : {A : Type 0} → (A → Data → Type 0) → List A → Items → Type 0
ItemsTree tree [] no_items = Unit {0}
ItemsTree tree (x ∷ xs) (item d ds) = tree x d × ItemsTree tree xs ds
ItemsTree tree xs ds = ⊥

-- a decline stands in an array where it stands in an item
abbrev pub ItemsStand : (Data → Decline → Type 0) → Items → Decline → Type 0
ItemsStand stands no_items k = ⊥
ItemsStand stands (item d ds) k = stands d k ⊎ ItemsStand stands ds k

-- the items of an array
abbrev pub ArrayTree : {A : Type 0} → (A → Data → Type 0) → List A → Data → Type 0
ArrayTree tree xs (array ds) = ItemsTree tree xs ds
ArrayTree tree xs other = ⊥

abbrev pub ArrayStands : (Data → Decline → Type 0) → Data → Decline → Type 0
ArrayStands stands (array ds) k = ItemsStand stands ds k
ArrayStands stands other k = Only Shape (Unit {0}) k

-- the items of an array that may be missing or null: then there are none
abbrev pub OptionalArrayTree : {A : Type 0} → (A → Data → Type 0) → List A → Data → Type 0
OptionalArrayTree tree xs null = xs ≡ []
OptionalArrayTree tree xs (array ds) = ItemsTree tree xs ds
OptionalArrayTree tree xs other = ⊥

abbrev pub OptionalArrayStands : (Data → Decline → Type 0) → Data → Decline → Type 0
OptionalArrayStands stands null k = ⊥
OptionalArrayStands stands (array ds) k = ItemsStand stands ds k
OptionalArrayStands stands other k = Only Shape (Unit {0}) k

-- a part that may be missing or null
abbrev pub OptionalTree : {A : Type 0} → (A → Data → Type 0) → Option A → Data → Type 0
OptionalTree tree None d = d ≡ null
OptionalTree tree (Some x) d = (d ≡ null → ⊥) × tree x d

abbrev pub OptionalStands : (Data → Decline → Type 0) → Data → Decline → Type 0
OptionalStands stands d k = (d ≡ null → ⊥) × stands d k

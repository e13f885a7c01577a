-- No decline stands in an array of which none stands in an item.
use Rattle.std.proofs.Common.{List}
use Rattle.serde_json.specs.Data.{Data, null, boolean, number, string, array, object}
use Rattle.hrana_value.specs.declared.failures.Decline.{Decline}
use Rattle.hrana_value.specs.Declines.{NoneStands}
use Rattle.hrana_value.specs.Trees.{ArrayTree, ArrayStands, OptionalArrayTree, OptionalArrayStands}
use Rattle.hrana_value.proofs.ItemsLemmas.{ItemsTree-none}

pub ArrayTree-none : {A : Type 0} (tree : A → Data → Type 0) (stands : Data → Decline → Type 0) → ((x : A) (t : Data) → tree x t → NoneStands (stands t)) → (xs : List A) (d : Data) → ArrayTree tree xs d
    → NoneStands (ArrayStands stands d)
ArrayTree-none tree stands each xs null t = absurd t
ArrayTree-none tree stands each xs (boolean b) t = absurd t
ArrayTree-none tree stands each xs (number n) t = absurd t
ArrayTree-none tree stands each xs (string s) t = absurd t
ArrayTree-none tree stands each xs (array ds) t = ItemsTree-none tree stands each xs ds t
ArrayTree-none tree stands each xs (object ms) t = absurd t

pub OptionalArrayTree-none : {A : Type 0} (tree : A → Data → Type 0) (stands : Data → Decline → Type 0) → ((x : A) (t : Data) → tree x t → NoneStands (stands t)) → (xs : List A) (d : Data)
    → OptionalArrayTree tree xs d → NoneStands (OptionalArrayStands stands d)
OptionalArrayTree-none tree stands each xs null t = λ k here. here
OptionalArrayTree-none tree stands each xs (boolean b) t = absurd t
OptionalArrayTree-none tree stands each xs (number n) t = absurd t
OptionalArrayTree-none tree stands each xs (string s) t = absurd t
OptionalArrayTree-none tree stands each xs (array ds) t = ItemsTree-none tree stands each xs ds t
OptionalArrayTree-none tree stands each xs (object ms) t = absurd t

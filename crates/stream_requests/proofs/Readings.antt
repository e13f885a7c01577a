-- What is made of the reading of a part.
use Rattle.std.proofs.Common.{◌≡◌, subst}
use Rattle.std.specs.Prelude.{Result, Ok, Err}
use Rattle.serde_json.specs.Data.{Data}
use Rattle.hrana_value.specs.declared.failures.Decline.{Decline}
use Rattle.hrana_value.specs.declared.failures.ReadFail.{ReadFail}
use Rattle.hrana_value.specs.Declines.{Reads}
use Rattle.hrana_value.proofs.DeclineLemmas.{Reads-made, Reads-failed}

pub at_part : {A : Type 0} (tree : A → Data → Type 0) (stands : Data → Decline → Type 0) (d part : Data) (answer : Result A ReadFail) → d ≡ part → Reads (λ z. tree z d) (stands d) answer → Reads (λ z. tree z part) (stands part) answer
at_part tree stands d part answer e reads = subst (λ p. Reads (λ z. tree z p) (stands p) answer) e reads

pub part_made : {A B : Type 0} (tree : A → Data → Type 0) (stands : Data → Decline → Type 0) (after : B → Type 0) (d part : Data) (answer : Result A ReadFail) (x : A) (y : B) → d ≡ part → answer ≡ Ok x
    → Reads (λ z. tree z d) (stands d) answer → (tree x part → after y) → Reads after (stands part) (Ok y)
part_made tree stands after d part answer x y e is reads make = Reads-made (λ z. tree z part) after (stands part) answer x y is (at_part tree stands d part answer e reads) make

pub part_failed : {A B : Type 0} (tree : A → Data → Type 0) (stands : Data → Decline → Type 0) (after : B → Type 0) (d part : Data) (answer : Result A ReadFail) (f : ReadFail) → d ≡ part → answer ≡ Err f
    → Reads (λ z. tree z d) (stands d) answer → Reads after (stands part) (Err f)
part_failed tree stands after d part answer f e is reads = Reads-failed (λ z. tree z part) after (stands part) answer f is (at_part tree stands d part answer e reads)

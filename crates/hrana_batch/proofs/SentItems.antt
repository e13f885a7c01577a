-- A list that is sent item by item: one item more, and its end.
use Rattle.std.proofs.Common.{◌≡◌, ℕ, zero, suc, ◌+◌, ◌<◌, ◌≤◌, List, [], ◌∷◌, length, get_or, drop, map, sym, ◌∙◌, ap, subst, add-one, arith}
use Rattle.std.proofs.lemmas.List.{drop_all}
use Rattle.serde.specs.Event.{Log}
use Rattle.serde_json.specs.Data.{Data, array}
use Rattle.serde_json.specs.Events.{SendsItems, SendsValue}
use Rattle.serde_json.specs.View.{items_of}
use Rattle.hrana_value.specs.Trees.{ItemsTree}
use Rattle.hrana_value.specs.Whole.{IsWhole}
use Rattle.hrana_value.proofs.SendingLemmas.{EndsItems, EndsWhole, EndsTree, whole_item, whole_none}

drop_suc : {A : Type 0} (xs : List A) (i : ℕ) (x : A) → i < length xs → x ≡ get_or xs i x → drop i xs ≡ x ∷ drop (suc i) xs
drop_suc [] i x h e = absurd (omega arith)
drop_suc (y ∷ xs) zero x h e = ap (λ z. z ∷ xs) (sym e)
drop_suc (y ∷ xs) (suc i) x h e = drop_suc xs i x (omega arith) e

drop_at : {A : Type 0} (xs : List A) (i : ℕ) (x : A) → i < length xs → x ≡ get_or xs i x → drop i xs ≡ x ∷ drop (i + 1) xs
drop_at xs i x h e = drop_suc xs i x h e ∙ ap (λ n. x ∷ drop n xs) (sym (add-one i))

pub items_more : {A : Type 0} (f : A → Data) (xs : List A) (i : ℕ) (x : A) (first now next : Log) → i < length xs → x ≡ get_or xs i x → EndsItems f xs i first now → SendsValue (f x) now next → EndsItems f xs (i + 1) first next
items_more f xs i x first now next h e inv sent = λ end rest. inv end (subst (λ ys. SendsItems (items_of (map f ys)) now end) (sym (drop_at xs i x h e)) (next, sent, rest))

pub whole_more : {A : Type 0} (f : A → Data) (xs : List A) (i : ℕ) (x : A) → i < length xs → x ≡ get_or xs i x → EndsWhole f xs i → IsWhole (f x) → EndsWhole f xs (i + 1)
whole_more f xs i x h e inv whole = λ rest. inv (subst (λ ys. IsWhole (array (items_of (map f ys)))) (sym (drop_at xs i x h e)) (whole_item (f x) (items_of (map f (drop (i + 1) xs))) whole rest))

pub tree_more : {A : Type 0} (tree : A → Data → Type 0) (f : A → Data) (xs : List A) (i : ℕ) (x : A) → i < length xs → x ≡ get_or xs i x → EndsTree tree f xs i → tree x (f x) → EndsTree tree f xs (i + 1)
tree_more tree f xs i x h e inv back = λ rest. inv (subst (λ ys. ItemsTree tree ys (items_of (map f ys))) (sym (drop_at xs i x h e)) (back, rest))

pub whole_end : {A : Type 0} (f : A → Data) (xs : List A) (i : ℕ) → length xs ≤ i → EndsWhole f xs i → IsWhole (array (items_of (map f xs)))
whole_end f xs i over inv = inv (subst (λ ys. IsWhole (array (items_of (map f ys)))) (sym (drop_all i xs over)) whole_none)

pub tree_end : {A : Type 0} (tree : A → Data → Type 0) (f : A → Data) (xs : List A) (i : ℕ) → length xs ≤ i → EndsTree tree f xs i → ItemsTree tree xs (items_of (map f xs))
tree_end tree f xs i over inv = inv (subst (λ ys. ItemsTree tree ys (items_of (map f ys))) (sym (drop_all i xs over)) tt)

-- Trees that are written item by item.
use Rattle.std.proofs.Common.{◌≡◌, ℕ, ◌+◌, ◌<◌, ◌≤◌, List, [], ◌∷◌, ◌++◌, length, get_or, take, map, refl, subst, sym, ◌∙◌, ap}
use Rattle.std.specs.Prelude.{Vec, Result, Ok, Err, IfOk}
use Rattle.std.specs.declared.alloc.Global.{Global}
use Rattle.std.proofs.lemmas.List.{take_more, take_all, map-append}
use Rattle.serde_json.specs.Data.{Data, array}
use Rattle.serde_json.specs.View.{view, items_view, items_of}
use Rattle.serde_json.specs.declared.value.Value.{Value as Json}
use Rattle.serde_json.specs.declared.value.Value.TheVariants.{Array}
use Rattle.serde_json.proofs.Views.{view-Array}
use Rattle.hrana_value.specs.Trees.{ItemsTree, ArrayTree}
use Rattle.hrana_value.proofs.ItemsLemmas.{ItemsTree-snoc}

-- each of the trees is what its item is written as, and a form of it
pub record ItemsWritten {A : Type 0} (tree : A → Data → Type 0) (written : A → Data) (xs : List A) (js : List Json) : Type 0 where
  pub written_as : map view js ≡ map written xs
  pub reads_back : ItemsTree tree xs (items_view js)

pub ItemsWritten-none : {A : Type 0} (tree : A → Data → Type 0) (written : A → Data) → ItemsWritten tree written [] []
ItemsWritten-none tree written = record { written_as = refl; reads_back = tt }

pub ItemsWritten-more : {A : Type 0} (tree : A → Data → Type 0) (written : A → Data) (xs : List A) (i : ℕ) (x : A) (js : List Json) (j : Json) → i < length xs → x ≡ get_or xs i x → ItemsWritten tree written (take i xs) js
    → view j ≡ written x → tree x (view j) → ItemsWritten tree written (take (i + 1) xs) (js ++ j ∷ [])
ItemsWritten-more tree written xs i x js j h e p w t =
    let same : take (i + 1) xs ≡ take i xs ++ x ∷ [] = take_more xs i x h ∙ ap (λ k. take i xs ++ k ∷ []) (sym e) in
    let as_written : map view (js ++ j ∷ []) ≡ map written (take i xs ++ x ∷ []) =
    map-append view js (j ∷ []) ∙ ap (λ l. l ++ map view (j ∷ [])) p.written_as ∙ ap (λ d. map written (take i xs) ++ d ∷ []) w ∙ sym (map-append written (take i xs) (x ∷ [])) in
    subst (λ l. ItemsWritten tree written l (js ++ j ∷ [])) (sym same) (record { written_as = as_written; reads_back = ItemsTree-snoc tree js j (take i xs) x p.reads_back t })

pub ItemsWritten-array : {A : Type 0} (tree : A → Data → Type 0) (written : A → Data) (xs : List A) (i : ℕ) (v : Vec Json Global) → length xs ≤ i → ItemsWritten tree written (take i xs) v.items
    → view (Array v) ≡ array (items_of (map written xs))
ItemsWritten-array tree written xs i v h p =
    view-Array v ∙ ap (λ l. array (items_of l)) (p.written_as ∙ ap (map written) (take_all i xs h))

pub ItemsWritten-tree : {A : Type 0} (tree : A → Data → Type 0) (written : A → Data) (xs : List A) (i : ℕ) (v : Vec Json Global) → length xs ≤ i → ItemsWritten tree written (take i xs) v.items
    → ArrayTree tree xs (view (Array v))
ItemsWritten-tree tree written xs i v h p =
    subst (ArrayTree tree xs) (sym (view-Array v)) (subst (λ l. ItemsTree tree l (items_view v.items)) (take_all i xs h) p.reads_back)

pub IfOk-weaken : {A E : Type 0} (r : Result A E) (p q : A → Type 0) → ((x : A) → p x → q x) → IfOk r p → IfOk r q
IfOk-weaken (Ok x) p q to h = to x h
IfOk-weaken (Err e) p q to h = tt

-- Lists and arrays, item by item.
use Rattle.std.proofs.Common.{◌≡◌, ℕ, ◌+◌, ◌<◌, inl, inr, List, [], ◌∷◌, ◌++◌, length, get_or, take, refl, ap, subst, sym, ◌∙◌, map}
use Rattle.std.specs.Prelude.{Result, Ok}
use Rattle.std.proofs.lemmas.List.{take_more}
use Rattle.serde_json.specs.View.{view, items_view, items_of}
use Rattle.serde_json.specs.declared.value.Value.{Value as Json}
use Rattle.serde_json.specs.Data.{Data, null, boolean, number, string, array, object, Items, no_items, item}
use Rattle.hrana_value.specs.declared.failures.Decline.{Decline}
use Rattle.hrana_value.specs.declared.failures.ReadFail.{ReadFail}
use Rattle.hrana_value.specs.Declines.{NoneStands, EitherStands, Reads, more_of}
use Rattle.hrana_value.specs.Trees.{ItemsTree, ItemsStand, ArrayTree, OptionalArrayTree}
use Rattle.hrana_value.proofs.DeclineLemmas.{Reads-more, Reads-same, Reads-ok}

-- ---- one item more

pub ItemsTree-snoc : {A : Type 0} (tree : A → Data → Type 0) (js : List Json) (j : Json) (xs : List A) (x : A) → ItemsTree tree xs (items_view js) → tree x (view j)
    → ItemsTree tree (xs ++ x ∷ []) (items_view (js ++ j ∷ []))
ItemsTree-snoc tree [] j [] x t u = (u, tt)
ItemsTree-snoc tree [] j (y ∷ xs) x t u = absurd t
ItemsTree-snoc tree (i ∷ js) j [] x t u = absurd t
ItemsTree-snoc tree (i ∷ js) j (y ∷ xs) x t u = (t.0, ItemsTree-snoc tree js j xs x t.1 u)

ItemsStand-to : (stands : Data → Decline → Type 0) (js : List Json) (j : Json) (k : Decline) → EitherStands (ItemsStand stands (items_view js)) (stands (view j)) k
    → ItemsStand stands (items_view (js ++ j ∷ [])) k
ItemsStand-to stands [] j k (inl a) = absurd a
ItemsStand-to stands [] j k (inr b) = inl b
ItemsStand-to stands (i ∷ js) j k (inl (inl a)) = inl a
ItemsStand-to stands (i ∷ js) j k (inl (inr a)) = inr (ItemsStand-to stands js j k (inl a))
ItemsStand-to stands (i ∷ js) j k (inr b) = inr (ItemsStand-to stands js j k (inr b))

ItemsStand-from : (stands : Data → Decline → Type 0) (js : List Json) (j : Json) (k : Decline) → ItemsStand stands (items_view (js ++ j ∷ [])) k
    → EitherStands (ItemsStand stands (items_view js)) (stands (view j)) k
ItemsStand-from stands [] j k (inl b) = inr b
ItemsStand-from stands [] j k (inr a) = absurd a
ItemsStand-from stands (i ∷ js) j k (inl a) = inl (inl a)
ItemsStand-from stands (i ∷ js) j k (inr a) = elim (ItemsStand-from stands js j k a) [ inl b ↦ inl (inr b) | inr c ↦ inr c ]

-- what was read of the first i items, and of the next one
pub ItemsReads-more : {A : Type 0} (tree : A → Data → Type 0) (stands : Data → Decline → Type 0) (js : List Json) (i : ℕ) (j : Json) (xs : Result (List A) ReadFail) (x : Result A ReadFail)
    → i < length js → j ≡ get_or js i j
    → Reads (λ ys. ItemsTree tree ys (items_view (take i js))) (ItemsStand stands (items_view (take i js))) xs → Reads (λ y. tree y (view j)) (stands (view j)) x
    → Reads (λ ys. ItemsTree tree ys (items_view (take (i + 1) js))) (ItemsStand stands (items_view (take (i + 1) js))) (more_of xs x)
ItemsReads-more tree stands js i j xs x h e p q =
    let same : take (i + 1) js ≡ take i js ++ j ∷ [] = take_more js i j h ∙ ap (λ k. take i js ++ k ∷ []) (sym e) in
    subst (λ l. Reads (λ ys. ItemsTree tree ys (items_view l)) (ItemsStand stands (items_view l)) (more_of xs x)) (sym same)
    (Reads-same (λ ys. ItemsTree tree ys (items_view (take i js ++ j ∷ []))) (EitherStands (ItemsStand stands (items_view (take i js))) (stands (view j)))
    (ItemsStand stands (items_view (take i js ++ j ∷ []))) (more_of xs x) (ItemsStand-to stands (take i js) j) (ItemsStand-from stands (take i js) j)
    (Reads-more (λ ys. ItemsTree tree ys (items_view (take i js))) (λ y. tree y (view j)) (λ ys. ItemsTree tree ys (items_view (take i js ++ j ∷ []))) (ItemsStand stands (items_view (take i js)))
    (stands (view j)) xs x (λ ys y t u. ItemsTree-snoc tree (take i js) j ys y t u) p q))

pub ItemsReads-none : {A : Type 0} (tree : A → Data → Type 0) (stands : Data → Decline → Type 0) → Reads {A = List A} (λ ys. ItemsTree tree ys no_items) (ItemsStand stands no_items) (Ok [])
ItemsReads-none tree stands = Reads-ok [] tt (λ k here. here)

-- ---- an array is one of at most one list

pub ItemsTree-one : {A : Type 0} (tree : A → Data → Type 0) → ((t : Data) (x y : A) → tree x t → tree y t → x ≡ y) → (ds : Items) (xs ys : List A) → ItemsTree tree xs ds → ItemsTree tree ys ds → xs ≡ ys
ItemsTree-one tree each no_items [] [] p q = refl
ItemsTree-one tree each no_items [] (y ∷ ys) p q = absurd q
ItemsTree-one tree each no_items (x ∷ xs) ys p q = absurd p
ItemsTree-one tree each (item d ds) [] ys p q = absurd p
ItemsTree-one tree each (item d ds) (x ∷ xs) [] p q = absurd q
ItemsTree-one tree each (item d ds) (x ∷ xs) (y ∷ ys) p q = cc (each d x y p.0 q.0, ItemsTree-one tree each ds xs ys p.1 q.1)

pub ArrayTree-one : {A : Type 0} (tree : A → Data → Type 0) → ((t : Data) (x y : A) → tree x t → tree y t → x ≡ y) → (d : Data) (xs ys : List A) → ArrayTree tree xs d → ArrayTree tree ys d → xs ≡ ys
ArrayTree-one tree each null xs ys p q = absurd p
ArrayTree-one tree each (boolean b) xs ys p q = absurd p
ArrayTree-one tree each (number n) xs ys p q = absurd p
ArrayTree-one tree each (string s) xs ys p q = absurd p
ArrayTree-one tree each (array ds) xs ys p q = ItemsTree-one tree each ds xs ys p q
ArrayTree-one tree each (object ms) xs ys p q = absurd p

pub OptionalArrayTree-one : {A : Type 0} (tree : A → Data → Type 0) → ((t : Data) (x y : A) → tree x t → tree y t → x ≡ y) → (d : Data) (xs ys : List A) → OptionalArrayTree tree xs d → OptionalArrayTree tree ys d
    → xs ≡ ys
OptionalArrayTree-one tree each null xs ys p q = p ∙ sym q
OptionalArrayTree-one tree each (boolean b) xs ys p q = absurd p
OptionalArrayTree-one tree each (number n) xs ys p q = absurd p
OptionalArrayTree-one tree each (string s) xs ys p q = absurd p
OptionalArrayTree-one tree each (array ds) xs ys p q = ItemsTree-one tree each ds xs ys p q
OptionalArrayTree-one tree each (object ms) xs ys p q = absurd p

-- ---- no decline stands in an array of which none stands in an item

pub ItemsTree-none : {A : Type 0} (tree : A → Data → Type 0) (stands : Data → Decline → Type 0) → ((x : A) (t : Data) → tree x t → NoneStands (stands t)) → (xs : List A) (ds : Items) → ItemsTree tree xs ds
    → NoneStands (ItemsStand stands ds)
ItemsTree-none tree stands each [] no_items t = λ k here. here
ItemsTree-none tree stands each [] (item d ds) t = absurd t
ItemsTree-none tree stands each (x ∷ xs) no_items t = absurd t
ItemsTree-none tree stands each (x ∷ xs) (item d ds) t = λ k here. elim here [ inl a ↦ each x d t.0 k a | inr b ↦ ItemsTree-none tree stands each xs ds t.1 k b ]

-- ---- what is written item by item

pub ItemsTree-written : {A : Type 0} (tree : A → Data → Type 0) (written : A → Data) → ((x : A) → tree x (written x)) → (xs : List A) → ItemsTree tree xs (items_of (map written xs))
ItemsTree-written tree written each [] = tt
ItemsTree-written tree written each (x ∷ xs) = (each x, ItemsTree-written tree written each xs)

-- Names are taken one by one.
use Rattle.std.proofs.Common.{◌≡◌, ℕ, Bool, true, false, List, [], ◌∷◌, ◌++◌, Ok, Err, refl, sym, ap, ◌∙◌}
use Rattle.std.specs.Prelude.{◌||◌, Result, IfOk}
use Rattle.std.specs.List.{list_any}
use Rattle.std.proofs.lemmas.List.Folds.{list_any-append}
use Rattle.keeper_dialect.specs.declared.query.DialectFail.{DialectFail}
use Rattle.keeper_dialect.specs.Tokens.{is_same_name}

module _ {A : Type 0} (name_of : A → List ℕ) where
  -- the names of some parts
  abbrev pub named_in : List A → List ℕ → Bool
  named_in xs name = list_any (λ x. is_same_name (name_of x) name) xs

  swapped : (a b : Bool) → (a || b) ≡ (b || (a || false))
  swapped true true = refl
  swapped true false = refl
  swapped false true = refl
  swapped false false = refl

  taken_more : (xs : List A) (x : A) (taken more : List ℕ → Bool) → ((name : List ℕ) → taken name ≡ named_in xs name) → ((name : List ℕ) → more name ≡ (is_same_name (name_of x) name || taken name)) → (name : List ℕ) → more name ≡ named_in (xs ++ x ∷ []) name
  taken_more xs x taken more same takes name =
      takes name ∙ ap (λ t. is_same_name (name_of x) name || t) (same name) ∙ swapped (is_same_name (name_of x) name) (named_in xs name) ∙ sym (list_any-append (λ y. is_same_name (name_of y) name) xs (x ∷ []))

  -- what is read takes its name
  pub takes_one : (xs : List A) (taken more : List ℕ → Bool) → ((name : List ℕ) → taken name ≡ named_in xs name) → (r : Result A DialectFail) → IfOk r (λ x. (name : List ℕ) → more name ≡ (is_same_name (name_of x) name || taken name)) → IfOk r (λ x. (name : List ℕ) → more name ≡ named_in (xs ++ x ∷ []) name)
  takes_one xs taken more same (Ok x) takes = taken_more xs x taken more same takes
  takes_one xs taken more same (Err e) takes = tt

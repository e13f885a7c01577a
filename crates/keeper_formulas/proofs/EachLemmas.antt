-- Lemmas on steps that may be refused, one after another over a list.
use Rattle.std.proofs.Common.{◌≡◌, ℕ, ◌+◌, ◌<◌, ◌≤◌, Bool, true, false, List, [], ◌∷◌, ◌++◌, length, get_or, take, drop, Option, Some, None, Result, Ok, Err, refl, sym, ap, subst, ◌∙◌, append_assoc}
use Rattle.std.proofs.lemmas.List.{take_more, take_all, drop_more}
use Rattle.keeper_formulas.specs.declared.fail.Refusal.{Refusal}
use Rattle.std.proofs.lemmas.Result.{err_from_is_err_and}
use Rattle.std.specs.Result.{IsErrAnd, IfErr}
use Rattle.keeper_formulas.specs.declared.fail.Fail.{Fail}
use Rattle.keeper_formulas.specs.declared.fail.Fail.TheVariants.{Refused, NoMemory}
use Rattle.keeper_formulas.specs.Each.{and_then, map_ok, each, Refuses, Gives, Changes}

-- the results of two lists, one after the other
abbrev pub joined : {B : Type 0} → Result (List B) Refusal → Result (List B) Refusal → Result (List B) Refusal
joined (Ok xs) (Ok ys) = Ok (xs ++ ys)
joined (Ok xs) (Err refusal) = Err refusal
joined (Err refusal) ys = Err refusal

joined-nil : {B : Type 0} (r : Result (List B) Refusal) → r ≡ joined (Ok []) r
joined-nil (Ok ys) = refl
joined-nil (Err refusal) = refl

joined-cons : {B : Type 0} (r : Result B Refusal) (s t : Result (List B) Refusal) → and_then r (λ y. map_ok (λ ys. y ∷ ys) (joined s t)) ≡ joined (and_then r (λ y. map_ok (λ ys. y ∷ ys) s)) t
joined-cons (Ok y) (Ok ys) (Ok zs) = refl
joined-cons (Ok y) (Ok ys) (Err refusal) = refl
joined-cons (Ok y) (Err refusal) t = refl
joined-cons (Err refusal) s t = refl

pub each-append : {A B : Type 0} (f : A → Result B Refusal) (xs ys : List A) → each f (xs ++ ys) ≡ joined (each f xs) (each f ys)
each-append f [] ys = joined-nil (each f ys)
each-append f (x ∷ xs) ys =
    ap (λ r. and_then (f x) (λ y. map_ok (λ ys. y ∷ ys) r)) (each-append f xs ys) ∙ joined-cons (f x) (each f xs) (each f ys)

each-one : {A B : Type 0} (f : A → Result B Refusal) (x : A) (y : B) → f x ≡ Ok y → each f (x ∷ []) ≡ Ok (y ∷ [])
each-one f x y p = ap (λ r. and_then r (λ y. map_ok (λ ys. y ∷ ys) (Ok []))) p

-- one more step
pub each_more : {A B : Type 0} (f : A → Result B Refusal) (xs : List A) (i : ℕ) (x : A) (ys : List B) (y : B) → each f (take i xs) ≡ Ok ys → i < length xs → x ≡ get_or xs i x → f x ≡ Ok y → each f (take (i + 1) xs) ≡ Ok (ys ++ y ∷ [])
each_more f xs i x ys y done h is p =
    let whole : take (i + 1) xs ≡ take i xs ++ x ∷ [] = take_more xs i x h ∙ ap (λ z. take i xs ++ z ∷ []) (sym is) in
    ap (each f) whole ∙ each-append f (take i xs) (x ∷ []) ∙ ap (λ r. joined r (each f (x ∷ []))) done ∙ ap (joined (Ok ys)) (each-one f x y p)

split_at : {A : Type 0} (xs : List A) (i : ℕ) (x : A) → i < length xs → x ≡ get_or xs i x → xs ≡ take i xs ++ x ∷ drop (i + 1) xs
split_at xs i x h is = sym (Rattle.std.proofs.Common.take-append-drop i xs) ∙ ap (λ r. take i xs ++ r) (drop_more xs i x h ∙ ap (λ z. z ∷ drop (i + 1) xs) (sym is))

each-stop : {A B : Type 0} (f : A → Result B Refusal) (x : A) (xs : List A) (refusal : Refusal) → f x ≡ Err refusal → each f (x ∷ xs) ≡ Err refusal
each-stop f x xs refusal p = ap (λ r. and_then r (λ y. map_ok (λ ys. y ∷ ys) (each f xs))) p

-- a step that is refused
pub each_refused : {A B : Type 0} (f : A → Result B Refusal) (xs : List A) (i : ℕ) (x : A) (ys : List B) (refusal : Refusal) → each f (take i xs) ≡ Ok ys → i < length xs → x ≡ get_or xs i x → f x ≡ Err refusal → each f xs ≡ Err refusal
each_refused f xs i x ys refusal done h is p =
    ap (each f) (split_at xs i x h is) ∙ each-append f (take i xs) (x ∷ drop (i + 1) xs) ∙ ap (λ r. joined r (each f (x ∷ drop (i + 1) xs))) done ∙ ap (joined (Ok ys)) (each-stop f x (drop (i + 1) xs) refusal p)

-- all steps were made
pub each_all : {A B : Type 0} (f : A → Result B Refusal) (xs : List A) (n : ℕ) (r : Result (List B) Refusal) → each f (take n xs) ≡ r → length xs ≤ n → each f xs ≡ r
each_all f xs n r done h = ap (each f) (sym (take_all n xs h)) ∙ done

-- the value that was mapped
pub map_ok-Ok : {A B : Type 0} (g : A → B) (r : Result A Refusal) (y : B) → map_ok g r ≡ Ok y → (x : A) × (r ≡ Ok x) × (g x ≡ y)
map_ok-Ok g (Ok x) y p = (x, refl, cc)
map_ok-Ok g (Err refusal) y p = absurd (cc)

pub and_then-Err : {A B : Type 0} (r : Result A Refusal) (f : A → Result B Refusal) (refusal : Refusal) → r ≡ Err refusal → and_then r f ≡ Err refusal
and_then-Err r f refusal p = ap (λ r. and_then r f) p

-- ---- what a call answers

-- the exit of a `?` on a failure of this crate
pub gives_refused : {A : Type 0} (meant : Result A Refusal) (r : Result A Fail) (fail : Fail) → IsErrAnd r (λ e. e ≡ fail) → Refuses meant fail → Gives meant r
gives_refused meant r fail p h = let q = err_from_is_err_and r p in subst (Gives meant) (sym q.1) (subst (Refuses meant) (sym q.2) h)

pub refuses_each : {A B : Type 0} (f : A → Result B Refusal) (xs : List A) (i : ℕ) (x : A) (ys : List B) (fail : Fail) → each f (take i xs) ≡ Ok ys → i < length xs → x ≡ get_or xs i x → Refuses (f x) fail → Refuses (each f xs) fail
refuses_each f xs i x ys (Refused refusal) done h is p = each_refused f xs i x ys refusal done h is p
refuses_each f xs i x ys NoMemory done h is p = tt

-- the same of a call that wants no memory
pub result_refused : {A : Type 0} (meant r : Result A Refusal) (refusal : Refusal) → IsErrAnd r (λ e. e ≡ refusal) → meant ≡ Err refusal → r ≡ meant
result_refused meant r refusal p h = let q = err_from_is_err_and r p in q.1 ∙ ap (λ e. Err e) q.2 ∙ sym h

-- the exit of a `?` under a clause on errors alone
pub err_refused : {T A : Type 0} (meant : Result A Refusal) (r : Result T Fail) (fail : Fail) → IsErrAnd r (λ e. e ≡ fail) → Refuses meant fail → IfErr r (Refuses meant)
err_refused meant r fail p h = let q = err_from_is_err_and r p in subst (λ t. IfErr t (Refuses meant)) (sym q.1) (subst (Refuses meant) (sym q.2) h)

pub err_refusal : {T A : Type 0} (meant : Result A Refusal) (r : Result T Fail) (refusal : Refusal) → IsErrAnd r (λ e. e ≡ Refused refusal) → meant ≡ Err refusal → IfErr r (Refuses meant)
err_refusal meant r refusal p h = err_refused meant r (Refused refusal) p h

-- a call that leaves what it stands on
pub changes_refused : {D A : Type 0} (meant : Result (D × A) Refusal) (old : D) (r : Result A Fail) (fail : Fail) → IsErrAnd r (λ e. e ≡ fail) → Refuses meant fail → Changes meant old r old
changes_refused meant old r fail p h = let q = err_from_is_err_and r p in subst (λ t. Changes meant old t old) (sym q.1) (subst (Refuses meant) (sym q.2) h, refl)

pub refuses_then : {A B : Type 0} (r : Result A Refusal) (f : A → Result B Refusal) (fail : Fail) → Refuses r fail → Refuses (and_then r f) fail
refuses_then r f (Refused refusal) p = and_then-Err r f refusal p
refuses_then r f NoMemory p = tt

pub refuses_map_ok : {A B : Type 0} (f : A → B) (r : Result A Refusal) (fail : Fail) → Refuses r fail → Refuses (map_ok f r) fail
refuses_map_ok f r (Refused refusal) p = ap (map_ok f) p
refuses_map_ok f r NoMemory p = tt

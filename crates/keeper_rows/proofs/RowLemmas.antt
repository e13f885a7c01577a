-- Lemmas on steps over rows whose results are counted or gathered.
use Rattle.std.proofs.Common.{◌≡◌, ℕ, ◌+◌, ◌<◌, Bool, cond, List, [], ◌∷◌, ◌++◌, length, get_or, take, Option, Result, Ok, Err, ap, ◌∙◌}
use Rattle.std.specs.Prelude.{count_by}
use Rattle.std.proofs.lemmas.List.Sums.{sum_by_push}
use Rattle.keeper_formulas.specs.declared.fail.Refusal.{Refusal}
use Rattle.keeper_formulas.specs.declared.fail.Fail.{Fail}
use Rattle.keeper_formulas.specs.declared.fail.Fail.TheVariants.{Refused, NoMemory}
use Rattle.keeper_formulas.specs.declared.formulas.Equation.{Equation}
use Rattle.keeper_rows.specs.declared.row.Row.{Row}
use Rattle.keeper_formulas.specs.Each.{map_ok, each, Refuses}
use Rattle.keeper_rows.specs.Chosen.{is_chosen, chosen_count}
use Rattle.keeper_formulas.proofs.EachLemmas.{each_more, each_refused, map_ok-Ok}

-- one more step, where the results are counted or gathered
pub mapped_more : {A B C : Type 0} (g : List B → C) (f : A → Result B Refusal) (xs : List A) (i : ℕ) (x : A) (z : C) (y : B) (z' : C) → map_ok g (each f (take i xs)) ≡ Ok z → i < length xs → x ≡ get_or xs i x → f x ≡ Ok y → ((ys : List B) → each f (take i xs) ≡ Ok ys → g ys ≡ z → g (ys ++ y ∷ []) ≡ z') → map_ok g (each f (take (i + 1) xs)) ≡ Ok z'
mapped_more g f xs i x z y z' done h is p step =
    let was = map_ok-Ok g (each f (take i xs)) z done in
    ap (map_ok g) (each_more f xs i x was.0 y was.1 h is p) ∙ ap (λ v. Ok v) (step was.0 was.1 was.2)

pub mapped_refused : {A B C : Type 0} (g : List B → C) (f : A → Result B Refusal) (xs : List A) (i : ℕ) (x : A) (z : C) (refusal : Refusal) → map_ok g (each f (take i xs)) ≡ Ok z → i < length xs → x ≡ get_or xs i x → f x ≡ Err refusal → map_ok g (each f xs) ≡ Err refusal
mapped_refused g f xs i x z refusal done h is p =
    let was = map_ok-Ok g (each f (take i xs)) z done in
    ap (map_ok g) (each_refused f xs i x was.0 refusal was.1 h is p)

pub refuses_mapped : {A B C : Type 0} (g : List B → C) (f : A → Result B Refusal) (xs : List A) (i : ℕ) (x : A) (z : C) (fail : Fail) → map_ok g (each f (take i xs)) ≡ Ok z → i < length xs → x ≡ get_or xs i x → Refuses (f x) fail → Refuses (map_ok g (each f xs)) fail
refuses_mapped g f xs i x z (Refused refusal) done h is p = mapped_refused g f xs i x z refusal done h is p
refuses_mapped g f xs i x z NoMemory done h is p = tt

pub chosen_count_more : (condition : Option Equation) (rows : List Row) (i : ℕ) (row : Row) (n : ℕ) (b : Bool) → chosen_count condition (take i rows) ≡ Ok n → i < length rows → row ≡ get_or rows i row → is_chosen condition row ≡ Ok b → chosen_count condition (take (i + 1) rows) ≡ Ok (n + cond b 1 0)
chosen_count_more condition rows i row n b done h is p =
    mapped_more (count_by (λ chosen. chosen)) (is_chosen condition) rows i row n b _ done h is p
    (λ flags _ counted. sum_by_push (λ chosen. cond chosen 1 0) flags b ∙ ap (λ m. m + cond b 1 0) counted)

pub chosen_count_refused : (condition : Option Equation) (rows : List Row) (i : ℕ) (row : Row) (n : ℕ) (refusal : Refusal) → chosen_count condition (take i rows) ≡ Ok n → i < length rows → row ≡ get_or rows i row → is_chosen condition row ≡ Err refusal → chosen_count condition rows ≡ Err refusal
chosen_count_refused condition rows i row n refusal done h is p = mapped_refused (count_by (λ chosen. chosen)) (is_chosen condition) rows i row n refusal done h is p

-- Lemmas on what is made of rows, one after another.
use Rattle.std.proofs.Common.{◌≡◌, ℕ, ◌+◌, ◌<◌, List, [], ◌∷◌, ◌++◌, length, get_or, take, Option, Some, None, Result, Ok, Err, suc, refl, sym, ap, ◌∙◌, length-append, arith}
use Rattle.std.proofs.lemmas.List.{take_more}
use Rattle.keeper_formulas.specs.declared.fail.Refusal.{Refusal}
use Rattle.hrana_value.specs.declared.value.Value.{Value}
use Rattle.keeper_formulas.specs.declared.fail.Fail.{Fail}
use Rattle.keeper_formulas.specs.declared.fail.Fail.TheVariants.{Refused, NoMemory}
use Rattle.keeper_formulas.specs.declared.formulas.Equation.{Equation}
use Rattle.keeper_formulas.specs.declared.formulas.Picture.{Picture}
use Rattle.keeper_rows.specs.declared.row.Row.{Row}
use Rattle.keeper_formulas.specs.Each.{and_then, map_ok, each, somes, Refuses}
use Rattle.keeper_rows.specs.Chosen.{row_shown, chosen_rows}
use Rattle.memory_keeper.specs.Tables.{renewal, renewed_row, renewed, all_renewed}
use Rattle.keeper_formulas.proofs.EachLemmas.{each_more, each_refused, map_ok-Ok}
use Rattle.keeper_rows.proofs.RowLemmas.{mapped_more}

pub somes-push : {A : Type 0} (xs : List (Option A)) (x : Option A) → somes (xs ++ x ∷ []) ≡ somes xs ++ somes (x ∷ [])
somes-push [] x = refl
somes-push (None ∷ xs) x = somes-push xs x
somes-push (Some y ∷ xs) x = ap (λ l. y ∷ l) (somes-push xs x)

pub chosen_rows_more : (picture : Picture) (condition : Option Equation) (rows : List Row) (i : ℕ) (row : Row) (shown : List (List Value)) (new : Option (List Value)) → chosen_rows picture condition (take i rows) ≡ Ok shown → i < length rows → row ≡ get_or rows i row → row_shown picture condition row ≡ Ok new → chosen_rows picture condition (take (i + 1) rows) ≡ Ok (shown ++ somes (new ∷ []))
chosen_rows_more picture condition rows i row shown new done h is p =
    mapped_more somes (row_shown picture condition) rows i row shown new _ done h is p
    (λ news _ gathered. somes-push news new ∙ ap (λ l. l ++ somes (new ∷ [])) gathered)

pub length-each : {A B : Type 0} (f : A → Result B Refusal) (xs : List A) (ys : List B) → each f xs ≡ Ok ys → length ys ≡ length xs
length-each f [] ys p = let e : [] ≡ ys = cc in ap length (sym e)
length-each f (x ∷ xs) ys p = more (f x) (each f xs) (length xs) (length-each f xs) ys p
  where
    more : {B : Type 0} (r : Result B Refusal) (s : Result (List B) Refusal) (n : ℕ) → ((zs : List B) → s ≡ Ok zs → length zs ≡ n) → (ys : List B) → and_then r (λ y. map_ok (λ ys. y ∷ ys) s) ≡ Ok ys → length ys ≡ suc n
    more (Ok y) (Ok zs) n known ys p = let e : y ∷ zs ≡ ys = cc in ap length (sym e) ∙ ap suc (known zs refl)
    more (Ok y) (Err refusal) n known ys p = absurd (cc)
    more (Err refusal) s n known ys p = absurd (cc)

pub renewed-push : (rows : List Row) (news : List (Option (List Value))) (row : Row) (new : Option (List Value)) → length news ≡ length rows → renewed (rows ++ row ∷ []) (news ++ new ∷ []) ≡ renewed rows news ++ renewed_row row new ∷ []
renewed-push [] [] row new h = refl
renewed-push [] (n ∷ news) row new h = absurd (omega arith)
renewed-push (r ∷ rows) [] row new h = absurd (omega arith)
renewed-push (r ∷ rows) (n ∷ news) row new h = ap (λ l. renewed_row r n ∷ l) (renewed-push rows news row new (omega arith))

pub all_renewed_more : (condition : Option Equation) (sets : List Equation) (rows : List Row) (i : ℕ) (row : Row) (new : Option (List Value)) (made : List Row) (n : ℕ) → all_renewed condition sets (take i rows) ≡ Ok (made, n) → i < length rows → row ≡ get_or rows i row → renewal condition sets row ≡ Ok new → all_renewed condition sets (take (i + 1) rows) ≡ Ok (made ++ renewed_row row new ∷ [], n + length (somes (new ∷ [])))
all_renewed_more condition sets rows i row new made n done h is p =
    let f = renewal condition sets in
    let was = map_ok-Ok (λ news. (renewed (take i rows) news, length (somes news))) (each f (take i rows)) (made, n) done in
    let news = was.0 in
    let long : length news ≡ length (take i rows) = length-each f (take i rows) news was.1 in
    let whole : take (i + 1) rows ≡ take i rows ++ row ∷ [] = take_more rows i row h ∙ ap (λ z. take i rows ++ z ∷ []) (sym is) in
    let made_is : renewed (take i rows) news ≡ made = ap (λ (p : List Row × ℕ). p.0) was.2 in
    let n_is : length (somes news) ≡ n = ap (λ (p : List Row × ℕ). p.1) was.2 in
    ap (map_ok (λ news. (renewed (take (i + 1) rows) news, length (somes news)))) (each_more f rows i row news new was.1 h is p)
    ∙ ap (λ l. Ok (renewed l (news ++ new ∷ []), length (somes (news ++ new ∷ [])))) whole
    ∙ ap (λ l. Ok (l, length (somes (news ++ new ∷ [])))) (renewed-push (take i rows) news row new long ∙ ap (λ l. l ++ renewed_row row new ∷ []) made_is)
    ∙ ap (λ m. Ok (made ++ renewed_row row new ∷ [], m)) (ap length (somes-push news new) ∙ length-append (somes news) (somes (new ∷ [])) ∙ ap (λ m. m + length (somes (new ∷ []))) n_is)

pub refuses_renewed : (condition : Option Equation) (sets : List Equation) (rows : List Row) (i : ℕ) (row : Row) (made : List Row) (n : ℕ) (fail : Fail) → all_renewed condition sets (take i rows) ≡ Ok (made, n) → i < length rows → row ≡ get_or rows i row → Refuses (renewal condition sets row) fail → Refuses (all_renewed condition sets rows) fail
refuses_renewed condition sets rows i row made n NoMemory done h is p = tt
refuses_renewed condition sets rows i row made n (Refused refusal) done h is p =
    let f = renewal condition sets in
    let was = map_ok-Ok (λ news. (renewed (take i rows) news, length (somes news))) (each f (take i rows)) (made, n) done in
    ap (map_ok (λ news. (renewed rows news, length (somes news)))) (each_refused f rows i row was.0 refusal was.1 h is p)

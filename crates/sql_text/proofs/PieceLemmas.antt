-- Steps of the scanner, how much a piece takes, and the one list of pieces of a text.
use Rattle.std.proofs.Common.{◌≡◌, ◌<◌, ◌+◌, ℕ, List, [], ◌∷◌, length, get_or, drop, ap, ◌∙◌, arith, add-zero}
use Rattle.std.proofs.lemmas.Bool.{cond-true, cond-false, ne_eqb, eq-eqb}
use Rattle.std.proofs.lemmas.List.{get_or-drop, drop-drop, length-drop}
use Rattle.sql_text.specs.Pieces.{quote_end}

quote_end-other : (q at : ℕ) (bs : List ℕ) → 0 < length bs → (get_or bs 0 0 ≡ q → ⊥) → quote_end q at bs ≡ quote_end q (at + 1) (drop 1 bs)
quote_end-other q at [] nonempty differs = absurd (omega arith)
quote_end-other q at (b ∷ []) nonempty differs = cond-false _ _ _ (ne_eqb b q differs)
quote_end-other q at (b ∷ c ∷ bs) nonempty differs = cond-false _ _ _ (ne_eqb b q differs)

quote_end-doubled : (q at : ℕ) (bs : List ℕ) → 0 < q → get_or bs 0 0 ≡ q → get_or bs 1 0 ≡ q → quote_end q at bs ≡ quote_end q (at + 2) (drop 2 bs)
quote_end-doubled q at [] positive first second = absurd (omega arith)
quote_end-doubled q at (b ∷ []) positive first second = absurd (omega arith)
quote_end-doubled q at (b ∷ c ∷ bs) positive first second = cond-true _ _ _ (eq-eqb b q first) ∙ cond-true _ _ _ (eq-eqb c q second)

-- a byte that isn't the quote is passed
pub quote_end_other : (q at : ℕ) (bytes : List ℕ) → at < length bytes → (get_or bytes at 0 ≡ q → ⊥) → quote_end q at (drop at bytes) ≡ quote_end q (at + 1) (drop (at + 1) bytes)
quote_end_other q at bytes within differs =
    quote_end-other q at (drop at bytes) (omega (arith, length-drop at bytes)) (λ same. differs (omega (arith, get_or-drop at bytes 0 0, ap (λ n. get_or bytes n 0) (add-zero at)))) ∙ ap (quote_end q (at + 1)) (drop-drop 1 at bytes)

-- a doubled quote is passed
pub quote_end_doubled : (q at : ℕ) (bytes : List ℕ) → 0 < q → get_or bytes at 0 ≡ q → get_or bytes (at + 1) 0 ≡ q → quote_end q at (drop at bytes) ≡ quote_end q (at + 2) (drop (at + 2) bytes)
quote_end_doubled q at bytes positive first second =
    quote_end-doubled q at (drop at bytes) positive (get_or-drop at bytes 0 0 ∙ ap (λ n. get_or bytes n 0) (add-zero at) ∙ first) (get_or-drop at bytes 1 0 ∙ second) ∙ ap (quote_end q (at + 2)) (drop-drop 2 at bytes)

-- A piece takes at least one byte, and no more than there are.
use Rattle.std.proofs.Common.{◌≡◌, ◌<◌, ◌≤◌, ◌+◌, ℕ, suc, Bool, true, false, List, [], ◌∷◌, Option, None, Some, cond, length, get_or, drop, refl, arith, ⊎_elim, ltb-true}
use Rattle.std.specs.Prelude.{IfSome, unwrap_or, slice_index, nat_lt, ◌==◌, ◌&&◌}
use Rattle.std.specs.Char.{is_ascii_digit}
use Rattle.std.proofs.lemmas.Bool.{cond_both, and_parts, eqb-true, cases_lt}
use Rattle.std.proofs.lemmas.List.{get_or_past, length-drop}
use Rattle.sql_text.specs.declared.pieces.PieceKind.{PieceKind}
use Rattle.sql_text.specs.declared.pieces.Piece.{Piece}
use Rattle.sql_text.specs.declared.pieces.Run.{Run}
use Rattle.sql_text.specs.declared.pieces.PieceKind.TheVariants as kind
use Rattle.sql_text.specs.declared.pieces.Run.TheVariants as run
use Rattle.sql_text.specs.Pieces.{passes, run_end, comment_end, quote_end, blank, line_comment, block_comment, quoted, bracketed, bracket_ended, numbered_parameter, named_parameter, word, number, ended, first_of, sign, first_piece, is_prefix, is_blank, is_quote, is_letter, sized}

-- the piece takes at least one byte and at most so many
pub record IsWithin (most : ℕ) (piece : Piece) : Type 0 where
  pub positive : 0 < piece.size
  pub fits : piece.size ≤ most

-- an end lies behind a place, and not further than so many bytes on
pub record Ends (at count : ℕ) (end : ℕ) : Type 0 where
  pub behind : at < end
  pub near : end ≤ at + count

pub run_end_least : (r : Run) (at : ℕ) (bs : List ℕ) → at ≤ run_end r at bs
run_end_least r at [] = omega arith
run_end_least r at (b ∷ bs) =
    let more = run_end_least r (at + 1) bs in
    cond_both (passes r b) (run_end r (at + 1) bs) at (λ end. at ≤ end) (λ _. omega arith) (λ _. omega arith)

run_end_most : (r : Run) (at : ℕ) (bs : List ℕ) → run_end r at bs ≤ at + length bs
run_end_most r at [] = omega arith
run_end_most r at (b ∷ bs) =
    let more = run_end_most r (at + 1) bs in
    cond_both (passes r b) (run_end r (at + 1) bs) at (λ end. end ≤ at + length (b ∷ bs)) (λ _. omega arith) (λ _. omega arith)

-- a byte other than 0 stands within the list
within_from_byte : (bs : List ℕ) (at b : ℕ) → 0 < b → get_or bs at 0 ≡ b → at < length bs
within_from_byte bs at b positive is =
    ⊎_elim (λ within. within) (λ past. let zero-is = get_or_past bs at 0 past in absurd (omega arith)) (cases_lt at (length bs))

ends_sooner : (at count : ℕ) (end : Option ℕ) → IfSome end (Ends (at + 1) count) → IfSome end (Ends at (suc count))
ends_sooner at count None e = tt
ends_sooner at count (Some end) e = record { behind = omega arith; near = omega arith }

ends_two_sooner : (at count : ℕ) (end : Option ℕ) → IfSome end (Ends (at + 2) count) → IfSome end (Ends at (suc (suc count)))
ends_two_sooner at count None e = tt
ends_two_sooner at count (Some end) e = record { behind = omega arith; near = omega arith }

pub comment_end_within : (at : ℕ) (bs : List ℕ) → IfSome (comment_end at bs) (Ends at (length bs))
comment_end_within at [] = tt
comment_end_within at (b ∷ bs) =
    let more = comment_end_within (at + 1) bs in
    cond_both _ (Some (at + 2)) (comment_end (at + 1) bs) (λ end. IfSome end (Ends at (length (b ∷ bs))))
    (λ test. let within : 0 < length bs = within_from_byte bs 0 47 (omega arith) (eqb-true _ _ (and_parts _ _ test).1) in record { behind = omega arith; near = omega arith })
    (λ _. ends_sooner at (length bs) _ more)

pub quote_end_within : (q at : ℕ) (bs : List ℕ) → IfSome (quote_end q at bs) (Ends at (length bs))
quote_end_within q at [] = tt
quote_end_within q at (b ∷ []) =
    cond_both _ (Some (at + 1)) None (λ end. IfSome end (Ends at 1)) (λ _. record { behind = omega arith; near = omega arith }) (λ _. tt)
quote_end_within q at (b ∷ c ∷ bs) =
    let second = quote_end_within q (at + 2) bs in
    let first = quote_end_within q (at + 1) (c ∷ bs) in
    cond_both (b == q) (cond (c == q) (quote_end q (at + 2) bs) (Some (at + 1))) (quote_end q (at + 1) (c ∷ bs)) (λ end. IfSome end (Ends at (length (b ∷ c ∷ bs))))
    (λ _. cond_both (c == q) (quote_end q (at + 2) bs) (Some (at + 1)) (λ end. IfSome end (Ends at (length (b ∷ c ∷ bs)))) (λ _. ends_two_sooner at (length bs) _ second) (λ _. record { behind = omega arith; near = omega arith }))
    (λ _. ends_sooner at (suc (length bs)) _ first)

ended_within : (k : PieceKind) (end : Option ℕ) (at : ℕ) (rest : List ℕ) → at ≤ length rest → 0 < length rest → IfSome end (Ends at (length (drop at rest))) → IsWithin (length rest) (ended k end rest)
ended_within k None at rest within nonempty ends = record { positive = nonempty; fits = omega arith }
ended_within k (Some end) at rest within nonempty ends = record { positive = omega arith; fits = omega (arith, length-drop at rest) }

run_within : (r : Run) (at : ℕ) (rest : List ℕ) → 0 < at → at ≤ length rest → (0 < run_end r at (drop at rest)) × (run_end r at (drop at rest) ≤ length rest)
run_within r at rest positive within =
    let least = run_end_least r at (drop at rest) in
    let most = run_end_most r at (drop at rest) in
    (omega arith, omega (arith, length-drop at rest))

-- what a form says of a piece
abbrev FormWithin : (List ℕ → Option Piece) → Type 0
FormWithin form = (rest : List ℕ) → 0 < length rest → IfSome (form rest) (IsWithin (length rest))

fits_if : (most : ℕ) (test : Bool) (piece : Piece) → (test ≡ true → IsWithin most piece) → IfSome (cond test (Some piece) None) (IsWithin most)
fits_if most true piece fits = fits refl
fits_if most false piece fits = tt

blank_within : FormWithin blank
unfolding blank
blank_within rest nonempty = fits_if (length rest) (is_blank (slice_index rest 0)) (sized kind.Blank 1) (λ _. record { positive = omega arith; fits = nonempty })

-- a run behind the first bytes
sized_run_within : (k : PieceKind) (r : Run) (at : ℕ) (rest : List ℕ) → 0 < at → at ≤ length rest → IsWithin (length rest) (sized k (run_end r at (drop at rest)))
sized_run_within k r at rest positive within = let ends = run_within r at rest positive within in record { positive = ends.0; fits = ends.1 }

-- the second byte is there where it is this one
second_within : (rest : List ℕ) (a b : ℕ) → 0 < b → (slice_index rest 0 == a && slice_index rest 1 == b) ≡ true → 2 ≤ length rest
second_within rest a b positive test =
    let is : get_or rest 1 0 ≡ b = eqb-true (get_or rest 1 0) b (and_parts (slice_index rest 0 == a) (slice_index rest 1 == b) test).1 in
    let one : 1 < length rest = within_from_byte rest 1 b positive is in
    omega arith

line_comment_within : FormWithin line_comment
unfolding line_comment
line_comment_within rest nonempty =
    fits_if (length rest) (slice_index rest 0 == 45 && slice_index rest 1 == 45) (sized kind.Comment (run_end run.Line 2 (drop 2 rest)))
    (λ test. sized_run_within kind.Comment run.Line 2 rest (omega arith) (second_within rest 45 45 (omega arith) test))

block_comment_within : FormWithin block_comment
unfolding block_comment
block_comment_within rest nonempty =
    fits_if (length rest) (slice_index rest 0 == 47 && slice_index rest 1 == 42) (ended kind.Comment (comment_end 2 (drop 2 rest)) rest)
    (λ test. ended_within kind.Comment (comment_end 2 (drop 2 rest)) 2 rest (second_within rest 47 42 (omega arith) test) nonempty (comment_end_within 2 (drop 2 rest)))

quoted_within : FormWithin quoted
unfolding quoted
quoted_within rest nonempty =
    fits_if (length rest) (is_quote (slice_index rest 0)) (ended kind.Quoted (quote_end (slice_index rest 0) 1 (drop 1 rest)) rest)
    (λ _. ended_within kind.Quoted (quote_end (slice_index rest 0) 1 (drop 1 rest)) 1 rest nonempty nonempty (quote_end_within (slice_index rest 0) 1 (drop 1 rest)))

bracket_within : (end : ℕ) (rest : List ℕ) → 0 < length rest → IsWithin (length rest) (bracket_ended end rest)
bracket_within end rest nonempty =
    cond_both (nat_lt end (length rest)) (sized kind.Quoted (end + 1)) (sized kind.Unclosed (length rest)) (λ piece. IsWithin (length rest) piece)
    (λ test. let inside : end < length rest = ltb-true end (length rest) test in record { positive = omega arith; fits = omega arith })
    (λ _. record { positive = nonempty; fits = omega arith })

bracketed_within : FormWithin bracketed
unfolding bracketed
bracketed_within rest nonempty =
    fits_if (length rest) (slice_index rest 0 == 91) (bracket_ended (run_end run.Bracket 1 (drop 1 rest)) rest)
    (λ _. bracket_within (run_end run.Bracket 1 (drop 1 rest)) rest nonempty)

numbered_parameter_within : FormWithin numbered_parameter
unfolding numbered_parameter
numbered_parameter_within rest nonempty =
    fits_if (length rest) (slice_index rest 0 == 63) (sized kind.Parameter (run_end run.Digits 1 (drop 1 rest)))
    (λ _. sized_run_within kind.Parameter run.Digits 1 rest (omega arith) nonempty)

named_parameter_within : FormWithin named_parameter
unfolding named_parameter
named_parameter_within rest nonempty =
    fits_if (length rest) (is_prefix (slice_index rest 0) && nat_lt 1 (run_end run.Name 1 (drop 1 rest))) (sized kind.Parameter (run_end run.Name 1 (drop 1 rest)))
    (λ _. sized_run_within kind.Parameter run.Name 1 rest (omega arith) nonempty)

word_within : FormWithin word
unfolding word
word_within rest nonempty =
    fits_if (length rest) (is_letter (slice_index rest 0)) (sized kind.Word (run_end run.Word 1 (drop 1 rest)))
    (λ _. sized_run_within kind.Word run.Word 1 rest (omega arith) nonempty)

number_within : FormWithin number
unfolding number
number_within rest nonempty =
    fits_if (length rest) (is_ascii_digit (slice_index rest 0)) (sized kind.Number (run_end run.Digits 1 (drop 1 rest)))
    (λ _. sized_run_within kind.Number run.Digits 1 rest (omega arith) nonempty)

first_within : (most : ℕ) (o : Option Piece) (os : List (Option Piece)) → IfSome o (IsWithin most) → IfSome (first_of os) (IsWithin most) → IfSome (first_of (o ∷ os)) (IsWithin most)
first_within most None os first others = others
first_within most (Some piece) os first others = first

or_within : (most : ℕ) (o : Option Piece) (piece : Piece) → IfSome o (IsWithin most) → IsWithin most piece → IsWithin most (unwrap_or o piece)
or_within most None piece first other = other
or_within most (Some found) piece first other = first

-- the piece at the front of some bytes takes at least one, and no more than there are
pub first_piece_within : (rest : List ℕ) → 0 < length rest → IsWithin (length rest) (first_piece rest)
unfolding first_piece
first_piece_within rest nonempty =
    let most = length rest in
    or_within most _ (sign rest)
    (first_within most _ _ (blank_within rest nonempty)
    (first_within most _ _
    (first_within most _ _ (line_comment_within rest nonempty) (first_within most _ _ (block_comment_within rest nonempty)
    (first_within most _ _ (quoted_within rest nonempty) (first_within most _ [] (bracketed_within rest nonempty) tt))))
    (first_within most _ []
    (first_within most _ _ (numbered_parameter_within rest nonempty) (first_within most _ _ (named_parameter_within rest nonempty)
    (first_within most _ _ (word_within rest nonempty) (first_within most _ [] (number_within rest nonempty) tt)))) tt)))
    (record { positive = omega arith; fits = nonempty })

-- A piece of a text ends between characters: the byte before its end or the byte at it is ASCII.
use Rattle.std.proofs.Common.{◌≡◌, ◌<◌, ◌+◌, ◌-◌, ℕ, suc, Bool, true, false, cond, List, [], ◌∷◌, Option, None, Some, length, get_or, drop, refl, sym, subst, arith, inl, inr}
use Rattle.std.specs.Prelude.{◌⊎◌, IfSome, unwrap_or, slice_index, nat_lt, nat_le, ◌==◌, ◌&&◌, ◌||◌}
use Rattle.std.specs.Char.{is_ascii_digit}
use Rattle.std.proofs.lemmas.Bool.{cond_both, and_parts, or_parts, eqb-true, leb-false, not-false}
use Rattle.std.proofs.lemmas.Bool.Decides.{nat_tests}
use Rattle.std.proofs.lemmas.List.{get_or_past, get_or-drop}
use Rattle.sql_text.specs.declared.pieces.PieceKind.{PieceKind}
use Rattle.sql_text.specs.declared.pieces.PieceKind.TheVariants as kind
use Rattle.sql_text.specs.declared.pieces.Piece.{Piece}
use Rattle.sql_text.specs.declared.pieces.Run.{Run}
use Rattle.sql_text.specs.declared.pieces.Run.TheVariants as run
use Rattle.sql_text.specs.Pieces.{passes, run_end, comment_end, quote_end, blank, line_comment, block_comment, quoted, bracketed, bracket_ended, numbered_parameter, named_parameter, word, number, ended, first_of, enclosed_forms, named_forms, forms, sign, first_piece, is_prefix, is_blank, is_quote, is_letter, sized}
use Rattle.sql_text.proofs.PieceSizes.{Ends, run_end_least, comment_end_within, quote_end_within}

-- the byte at a place or the one before it is ASCII
abbrev pub Cuts : List ℕ → ℕ → Type 0
Cuts bytes end = (get_or bytes end 0 < 128) ⊎ ((0 < end) × (get_or bytes (end - 1) 0 < 128))

-- a run of this kind stops at ASCII
abbrev StopsAtAscii : Run → Type 0
StopsAtAscii r = (b : ℕ) → passes r b ≡ false → b < 128

run_stops : (r : Run) (at : ℕ) (bs : List ℕ) → StopsAtAscii r → get_or bs (run_end r at bs - at) 0 < 128
run_stops r at [] stops = omega arith
run_stops r at (b ∷ bs) stops =
    let later = run_stops r (at + 1) bs stops in
    let least = run_end_least r (at + 1) bs in
    cond_both (passes r b) (run_end r (at + 1) bs) at (λ end. get_or (b ∷ bs) (end - at) 0 < 128)
    (λ _. let one : run_end r (at + 1) bs - at ≡ suc (run_end r (at + 1) bs - (at + 1)) = omega arith in subst (λ n. get_or (b ∷ bs) n 0 < 128) (sym one) later)
    (λ other. let none : at - at ≡ 0 = omega arith in subst (λ n. get_or (b ∷ bs) n 0 < 128) (sym none) (stops b other))

letter_is : (b : ℕ) → is_letter b ≡ false → b < 128
letter_is b other = leb-false 128 b (or_parts _ (nat_le 128 b) other).1

line_stops : StopsAtAscii run.Line
line_stops b other = let is : b ≡ 10 = eqb-true b 10 (not-false (b == 10) other) in omega arith

bracket_stops : StopsAtAscii run.Bracket
bracket_stops b other = let is : b ≡ 93 = eqb-true b 93 (not-false (b == 93) other) in omega arith

name_stops : StopsAtAscii run.Name
name_stops b other = letter_is b (or_parts (is_letter b) (is_ascii_digit b) other).0

word_stops : StopsAtAscii run.Word
word_stops b other = letter_is b (or_parts (is_letter b) (is_ascii_digit b) (or_parts (is_letter b || is_ascii_digit b) (b == 36) other).0).0

-- the byte at the end of a run that goes on at a place
run_cuts : (r : Run) (at : ℕ) (rest : List ℕ) → StopsAtAscii r → get_or rest (run_end r at (drop at rest)) 0 < 128
run_cuts r at rest stops =
    let least = run_end_least r at (drop at rest) in
    let same : at + (run_end r at (drop at rest) - at) ≡ run_end r at (drop at rest) = omega arith in
    subst (λ n. get_or rest n 0 < 128) same (subst (λ b. b < 128) (get_or-drop at rest (run_end r at (drop at rest) - at) 0) (run_stops r at (drop at rest) stops))

-- an end one place further on
behind_more : (at b : ℕ) (bs : List ℕ) (end : Option ℕ) → IfSome end (Ends (at + 1) (length bs)) → IfSome end (λ e. get_or bs (e - (at + 1) - 1) 0 < 128) → IfSome end (λ e. get_or (b ∷ bs) (e - at - 1) 0 < 128)
behind_more at b bs None ends later = tt
behind_more at b bs (Some e) ends later = let one : e - at - 1 ≡ suc (e - (at + 1) - 1) = omega (arith, ends.behind) in subst (λ n. get_or (b ∷ bs) n 0 < 128) (sym one) later

behind_two : (at b c : ℕ) (bs : List ℕ) (end : Option ℕ) → IfSome end (Ends (at + 2) (length bs)) → IfSome end (λ e. get_or bs (e - (at + 2) - 1) 0 < 128) → IfSome end (λ e. get_or (b ∷ c ∷ bs) (e - at - 1) 0 < 128)
behind_two at b c bs None ends later = tt
behind_two at b c bs (Some e) ends later = let two : e - at - 1 ≡ suc (suc (e - (at + 2) - 1)) = omega (arith, ends.behind) in subst (λ n. get_or (b ∷ c ∷ bs) n 0 < 128) (sym two) later

behind_at : (at k : ℕ) (bs : List ℕ) → get_or bs k 0 < 128 → get_or bs (at + (k + 1) - at - 1) 0 < 128
behind_at at k bs here = let same : at + (k + 1) - at - 1 ≡ k = omega arith in subst (λ n. get_or bs n 0 < 128) (sym same) here

comment_end_behind : (at : ℕ) (bs : List ℕ) → IfSome (comment_end at bs) (λ e. get_or bs (e - at - 1) 0 < 128)
comment_end_behind at [] = tt
comment_end_behind at (b ∷ bs) =
    cond_both (b == 42 && slice_index bs 0 == 47) (Some (at + 2)) (comment_end (at + 1) bs) (λ end. IfSome end (λ e. get_or (b ∷ bs) (e - at - 1) 0 < 128))
    (λ test. let is : get_or bs 0 0 ≡ 47 = eqb-true (get_or bs 0 0) 47 (and_parts (b == 42) (slice_index bs 0 == 47) test).1 in behind_at at 1 (b ∷ bs) (omega arith))
    (λ _. behind_more at b bs (comment_end (at + 1) bs) (comment_end_within (at + 1) bs) (comment_end_behind (at + 1) bs))

quote_end_behind : (q at : ℕ) (bs : List ℕ) → q < 128 → IfSome (quote_end q at bs) (λ e. get_or bs (e - at - 1) 0 < 128)
quote_end_behind q at [] small = tt
quote_end_behind q at (b ∷ []) small =
    cond_both (b == q) (Some (at + 1)) None (λ end. IfSome end (λ e. get_or (b ∷ []) (e - at - 1) 0 < 128))
    (λ test. let is : b ≡ q = eqb-true b q test in behind_at at 0 (b ∷ []) (omega arith)) (λ _. tt)
quote_end_behind q at (b ∷ c ∷ bs) small =
    let first = behind_more at b (c ∷ bs) (quote_end q (at + 1) (c ∷ bs)) (quote_end_within q (at + 1) (c ∷ bs)) (quote_end_behind q (at + 1) (c ∷ bs) small) in
    let second = behind_two at b c bs (quote_end q (at + 2) bs) (quote_end_within q (at + 2) bs) (quote_end_behind q (at + 2) bs small) in
    cond_both (b == q) (cond (c == q) (quote_end q (at + 2) bs) (Some (at + 1))) (quote_end q (at + 1) (c ∷ bs)) (λ end. IfSome end (λ e. get_or (b ∷ c ∷ bs) (e - at - 1) 0 < 128))
    (λ test. cond_both (c == q) (quote_end q (at + 2) bs) (Some (at + 1)) (λ end. IfSome end (λ e. get_or (b ∷ c ∷ bs) (e - at - 1) 0 < 128)) (λ _. second) (λ _. let is : b ≡ q = eqb-true b q test in behind_at at 0 (b ∷ c ∷ bs) (omega arith)))
    (λ _. first)

digit_small : (b : ℕ) → is_ascii_digit b ≡ true → b < 128
digit_small b digit = grind (arith, nat_tests)

-- digits, and the byte before them
digits_behind : (at before : ℕ) (bs : List ℕ) → before < 128 → get_or (before ∷ bs) (run_end run.Digits at bs - at) 0 < 128
digits_behind at before [] small = let none : at - at ≡ 0 = omega arith in subst (λ n. get_or (before ∷ []) n 0 < 128) (sym none) small
digits_behind at before (b ∷ bs) small =
    let least = run_end_least run.Digits (at + 1) bs in
    cond_both (is_ascii_digit b) (run_end run.Digits (at + 1) bs) at (λ end. get_or (before ∷ b ∷ bs) (end - at) 0 < 128)
    (λ digit. let one : run_end run.Digits (at + 1) bs - at ≡ suc (run_end run.Digits (at + 1) bs - (at + 1)) = omega arith in subst (λ n. get_or (before ∷ b ∷ bs) n 0 < 128) (sym one) (digits_behind (at + 1) b bs (digit_small b digit)))
    (λ _. let none : at - at ≡ 0 = omega arith in subst (λ n. get_or (before ∷ b ∷ bs) n 0 < 128) (sym none) small)

abbrev FormCuts : (List ℕ → Option Piece) → Type 0
FormCuts form = (rest : List ℕ) → IfSome (form rest) (λ piece. Cuts rest piece.size)

cuts_if : (rest : List ℕ) (test : Bool) (piece : Piece) → (test ≡ true → Cuts rest piece.size) → IfSome (cond test (Some piece) None) (λ p. Cuts rest p.size)
cuts_if rest true piece here = here refl
cuts_if rest false piece here = tt

-- an end that is found at ASCII, or the end of all
ended_cuts : (k : PieceKind) (end : Option ℕ) (at : ℕ) (rest : List ℕ) → IfSome end (Ends at (length (drop at rest))) → IfSome end (λ e. get_or (drop at rest) (e - at - 1) 0 < 128) → Cuts rest (ended k end rest).size
ended_cuts k None at rest ends behind = inl (let past : get_or rest (length rest) 0 ≡ 0 = get_or_past rest (length rest) 0 (omega arith) in omega arith)
ended_cuts k (Some e) at rest ends behind =
    let same : at + (e - at - 1) ≡ e - 1 = omega (arith, ends.behind) in
    inr (omega (arith, ends.behind), subst (λ n. get_or rest n 0 < 128) same (subst (λ b. b < 128) (get_or-drop at rest (e - at - 1) 0) behind))

-- one ASCII byte and the digits behind it
digits_cuts : (rest : List ℕ) → get_or rest 0 0 < 128 → Cuts rest (run_end run.Digits 1 (drop 1 rest))
digits_cuts [] small = inl (omega arith)
digits_cuts (b ∷ bs) small =
    let least = run_end_least run.Digits 1 bs in
    inr (omega arith, digits_behind 1 b bs small)

blank_small : (b : ℕ) → is_blank b ≡ true → b < 128
blank_small b is = grind (arith, nat_tests)

quote_small : (b : ℕ) → is_quote b ≡ true → b < 128
quote_small b is = grind (arith, nat_tests)

blank_cuts : FormCuts blank
unfolding blank
blank_cuts rest = cuts_if rest (is_blank (slice_index rest 0)) (sized kind.Blank 1) (λ test. inr (omega arith, blank_small (get_or rest 0 0) test))

line_comment_cuts : FormCuts line_comment
unfolding line_comment
line_comment_cuts rest = cuts_if rest (slice_index rest 0 == 45 && slice_index rest 1 == 45) (sized kind.Comment (run_end run.Line 2 (drop 2 rest))) (λ _. inl (run_cuts run.Line 2 rest line_stops))

block_comment_cuts : FormCuts block_comment
unfolding block_comment
block_comment_cuts rest = cuts_if rest (slice_index rest 0 == 47 && slice_index rest 1 == 42) (ended kind.Comment (comment_end 2 (drop 2 rest)) rest)
    (λ _. ended_cuts kind.Comment (comment_end 2 (drop 2 rest)) 2 rest (comment_end_within 2 (drop 2 rest)) (comment_end_behind 2 (drop 2 rest)))

quoted_cuts : FormCuts quoted
unfolding quoted
quoted_cuts rest = cuts_if rest (is_quote (slice_index rest 0)) (ended kind.Quoted (quote_end (slice_index rest 0) 1 (drop 1 rest)) rest)
    (λ test. ended_cuts kind.Quoted (quote_end (slice_index rest 0) 1 (drop 1 rest)) 1 rest (quote_end_within (slice_index rest 0) 1 (drop 1 rest)) (quote_end_behind (slice_index rest 0) 1 (drop 1 rest) (quote_small (slice_index rest 0) test)))

bracketed_cuts : FormCuts bracketed
unfolding bracketed
bracketed_cuts rest = cuts_if rest (slice_index rest 0 == 91) (bracket_ended (run_end run.Bracket 1 (drop 1 rest)) rest)
    (λ _. cond_both (nat_lt (run_end run.Bracket 1 (drop 1 rest)) (length rest)) (sized kind.Quoted (run_end run.Bracket 1 (drop 1 rest) + 1)) (sized kind.Unclosed (length rest)) (λ p. Cuts rest p.size)
    (λ _. let same : run_end run.Bracket 1 (drop 1 rest) + 1 - 1 ≡ run_end run.Bracket 1 (drop 1 rest) = omega arith in inr (omega arith, subst (λ n. get_or rest n 0 < 128) (sym same) (run_cuts run.Bracket 1 rest bracket_stops)))
    (λ _. inl (let past : get_or rest (length rest) 0 ≡ 0 = get_or_past rest (length rest) 0 (omega arith) in omega arith)))

numbered_parameter_cuts : FormCuts numbered_parameter
unfolding numbered_parameter
numbered_parameter_cuts rest = cuts_if rest (slice_index rest 0 == 63) (sized kind.Parameter (run_end run.Digits 1 (drop 1 rest)))
    (λ test. digits_cuts rest (let is : get_or rest 0 0 ≡ 63 = eqb-true (get_or rest 0 0) 63 test in omega arith))

named_parameter_cuts : FormCuts named_parameter
unfolding named_parameter
named_parameter_cuts rest = cuts_if rest (is_prefix (slice_index rest 0) && nat_lt 1 (run_end run.Name 1 (drop 1 rest))) (sized kind.Parameter (run_end run.Name 1 (drop 1 rest))) (λ _. inl (run_cuts run.Name 1 rest name_stops))

word_cuts : FormCuts word
unfolding word
word_cuts rest = cuts_if rest (is_letter (slice_index rest 0)) (sized kind.Word (run_end run.Word 1 (drop 1 rest))) (λ _. inl (run_cuts run.Word 1 rest word_stops))

number_cuts : FormCuts number
unfolding number
number_cuts rest = cuts_if rest (is_ascii_digit (slice_index rest 0)) (sized kind.Number (run_end run.Digits 1 (drop 1 rest))) (λ test. digits_cuts rest (digit_small (get_or rest 0 0) test))

first_cuts : (rest : List ℕ) (o : Option Piece) (os : List (Option Piece)) → IfSome o (λ p. Cuts rest p.size) → IfSome (first_of os) (λ p. Cuts rest p.size) → IfSome (first_of (o ∷ os)) (λ p. Cuts rest p.size)
first_cuts rest None os first others = others
first_cuts rest (Some piece) os first others = first

none_parts : (o : Option Piece) (os : List (Option Piece)) → first_of (o ∷ os) ≡ None → (o ≡ None) × (first_of os ≡ None)
none_parts None os is = (refl, is)
none_parts (Some piece) os is = cc is

none_is : (test : Bool) (piece : Piece) → cond test (Some piece) None ≡ None → test ≡ false
none_is true piece is = cc is
none_is false piece is = refl

no_word : (rest : List ℕ) → word rest ≡ None → get_or rest 0 0 < 128
unfolding word
no_word rest is = letter_is (get_or rest 0 0) (none_is (is_letter (get_or rest 0 0)) (sized kind.Word (run_end run.Word 1 (drop 1 rest))) is)

or_cuts : (rest : List ℕ) (o : Option Piece) (piece : Piece) → IfSome o (λ p. Cuts rest p.size) → (o ≡ None → Cuts rest piece.size) → Cuts rest (unwrap_or o piece).size
or_cuts rest None piece first other = other refl
or_cuts rest (Some found) piece first other = first

-- the piece at the front ends beside ASCII
pub first_piece_cuts : (rest : List ℕ) → Cuts rest (first_piece rest).size
unfolding first_piece
first_piece_cuts rest =
    or_cuts rest (first_of (forms rest)) (sign rest)
    (first_cuts rest _ _ (blank_cuts rest)
    (first_cuts rest _ _
    (first_cuts rest _ _ (line_comment_cuts rest) (first_cuts rest _ _ (block_comment_cuts rest)
    (first_cuts rest _ _ (quoted_cuts rest) (first_cuts rest _ [] (bracketed_cuts rest) tt))))
    (first_cuts rest _ []
    (first_cuts rest _ _ (numbered_parameter_cuts rest) (first_cuts rest _ _ (named_parameter_cuts rest)
    (first_cuts rest _ _ (word_cuts rest) (first_cuts rest _ [] (number_cuts rest) tt)))) tt)))
    (λ none.
    let named : first_of (named_forms rest) ≡ None = (none_parts (first_of (named_forms rest)) [] (none_parts (first_of (enclosed_forms rest)) (first_of (named_forms rest) ∷ []) (none_parts (blank rest) (first_of (enclosed_forms rest) ∷ first_of (named_forms rest) ∷ []) none).1).1).0 in
    let no : word rest ≡ None = (none_parts (word rest) (number rest ∷ []) (none_parts (named_parameter rest) (word rest ∷ number rest ∷ []) (none_parts (numbered_parameter rest) (named_parameter rest ∷ word rest ∷ number rest ∷ []) named).1).1).0 in
    inr (omega arith, no_word rest no))

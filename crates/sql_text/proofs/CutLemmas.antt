-- A text cut behind a closed piece: the piece at its front stays the same.
use Rattle.std.proofs.Common.{◌≡◌, ◌<◌, ◌≤◌, ◌+◌, ◌-◌, ℕ, suc, zero, Bool, true, false, cond, List, [], ◌∷◌, Option, None, Some, length, get_or, take, drop, refl, sym, ap, ap₂, ◌∙◌, subst, arith, ⊎_elim, true≢false, ltb-true, lt-ltb}
use Rattle.std.specs.Prelude.{IfSome, unwrap_or, slice_index, nat_lt, ◌==◌, ◌&&◌}
use Rattle.std.specs.Char.{is_ascii_digit}
use Rattle.std.proofs.lemmas.Bool.{cond-true, cond-false, cases_Bool, and_from, and_left, and_right, ne_eqb, ltb-false}
use Rattle.std.proofs.lemmas.List.{get_or_past, get_or-take, length-take, drop-take}
use Rattle.sql_text.specs.declared.pieces.PieceKind.{PieceKind}
use Rattle.sql_text.specs.declared.pieces.PieceKind.TheVariants as kind
use Rattle.sql_text.specs.declared.pieces.Piece.{Piece}
use Rattle.sql_text.specs.declared.pieces.Run.{Run}
use Rattle.sql_text.specs.declared.pieces.Run.TheVariants as run
use Rattle.sql_text.specs.Pieces.{passes, run_end, comment_end, quote_end, blank, line_comment, block_comment, quoted, bracketed, bracket_ended, numbered_parameter, named_parameter, word, number, ended, first_of, enclosed_forms, named_forms, forms, sign, first_piece, is_prefix, is_blank, is_quote, is_letter, sized}
use Rattle.sql_text.specs.Spans.{is_unclosed}
use Rattle.sql_text.proofs.PieceSizes.{Ends, run_end_least, comment_end_within, quote_end_within}

-- a piece that is closed and stands within so many bytes
abbrev pub Closed : ℕ → Piece → Type 0
Closed n piece = (piece.size ≤ n) × (is_unclosed piece.kind ≡ false)

abbrev Stands : ℕ → Option Piece → Type 0
Stands n o = IfSome o (Closed n)

cond_same : {A : Type 0} (test : Bool) (x y z : A) → (test ≡ true → x ≡ y) → cond test x z ≡ cond test y z
cond_same true x y z same = same refl
cond_same false x y z same = refl

cond_into : (test : Bool) (x y x' y' : Option ℕ) (e : ℕ) → (test ≡ true → x ≡ Some e → x' ≡ Some e) → (test ≡ false → y ≡ Some e → y' ≡ Some e) → cond test x y ≡ Some e → cond test x' y' ≡ Some e
cond_into true x y x' y' e first second is = first refl is
cond_into false x y x' y' e first second is = second refl is

run_end_cut : (r : Run) (at k : ℕ) (bs : List ℕ) → run_end r at bs ≤ at + k → run_end r at (take k bs) ≡ run_end r at bs
run_end_cut r at zero [] few = refl
run_end_cut r at zero (b ∷ bs) few = omega (arith, run_end_least r at (b ∷ bs))
run_end_cut r at (suc k) [] few = refl
run_end_cut r at (suc k) (b ∷ bs) few =
    cond_same (passes r b) (run_end r (at + 1) (take k bs)) (run_end r (at + 1) bs) at
    (λ test. let less : run_end r (at + 1) bs ≤ at + suc k = subst (λ e. e ≤ at + suc k) (cond-true (passes r b) (run_end r (at + 1) bs) at test) few in run_end_cut r (at + 1) k bs (omega arith))

-- an end that was found lies behind the place
found_behind : (at count : ℕ) (o : Option ℕ) (e : ℕ) → IfSome o (Ends at count) → o ≡ Some e → at < e
found_behind at count None e ends is = cc is
found_behind at count (Some found) e ends is = let same : found ≡ e = cc is in omega (arith, ends.behind)

comment_behind : (at : ℕ) (bs : List ℕ) (e : ℕ) → comment_end at bs ≡ Some e → at < e
comment_behind at bs e is = found_behind at (length bs) (comment_end at bs) e (comment_end_within at bs) is

quote_behind : (q at : ℕ) (bs : List ℕ) (e : ℕ) → quote_end q at bs ≡ Some e → at < e
quote_behind q at bs e is = found_behind at (length bs) (quote_end q at bs) e (quote_end_within q at bs) is

comment_end_cut : (at k : ℕ) (bs : List ℕ) (e : ℕ) → comment_end at bs ≡ Some e → e ≤ at + k → comment_end at (take k bs) ≡ Some e
comment_end_cut at k [] e is few = cc is
comment_end_cut at zero (b ∷ bs) e is few = absurd (omega (arith, comment_behind at (b ∷ bs) e is))
comment_end_cut at (suc zero) (b ∷ bs) e is few =
    absurd (⊎_elim
    (λ test. let two : Some (at + 2) ≡ Some e = sym (cond-true (b == 42 && slice_index bs 0 == 47) (Some (at + 2)) (comment_end (at + 1) bs) test) ∙ is in let same : at + 2 ≡ e = cc two in omega arith)
    (λ test. let behind = comment_behind (at + 1) bs e (sym (cond-false (b == 42 && slice_index bs 0 == 47) (Some (at + 2)) (comment_end (at + 1) bs) test) ∙ is) in omega arith)
    (cases_Bool (b == 42 && slice_index bs 0 == 47)))
comment_end_cut at (suc (suc k)) (b ∷ bs) e is few =
    ap (λ c. cond (b == 42 && c == 47) (Some (at + 2)) (comment_end (at + 1) (take (suc k) bs))) (get_or-take (suc k) bs 0 0 (omega arith))
    ∙ cond_into (b == 42 && slice_index bs 0 == 47) (Some (at + 2)) (comment_end (at + 1) bs) (Some (at + 2)) (comment_end (at + 1) (take (suc k) bs)) e (λ _ found. found) (λ _ found. comment_end_cut (at + 1) (suc k) bs e found (omega arith)) is

quote_end_cut : (q at k : ℕ) (bs : List ℕ) (e : ℕ) → quote_end q at bs ≡ Some e → e ≤ at + k → quote_end q at (take k bs) ≡ Some e
quote_end_cut q at k [] e is few = cc is
quote_end_cut q at zero (b ∷ bs) e is few = absurd (omega (arith, quote_behind q at (b ∷ bs) e is))
quote_end_cut q at (suc zero) (b ∷ []) e is few = is
quote_end_cut q at (suc (suc k)) (b ∷ []) e is few = is
quote_end_cut q at (suc zero) (b ∷ c ∷ bs) e is few =
    cond_into (b == q) (cond (c == q) (quote_end q (at + 2) bs) (Some (at + 1))) (quote_end q (at + 1) (c ∷ bs)) (Some (at + 1)) None e
    (λ _ found. ⊎_elim
    (λ doubled. absurd (omega (arith, quote_behind q (at + 2) bs e (sym (cond-true (c == q) (quote_end q (at + 2) bs) (Some (at + 1)) doubled) ∙ found))))
    (λ closes. sym (cond-false (c == q) (quote_end q (at + 2) bs) (Some (at + 1)) closes) ∙ found)
    (cases_Bool (c == q)))
    (λ _ found. absurd (omega (arith, quote_behind q (at + 1) (c ∷ bs) e found))) is
quote_end_cut q at (suc (suc k)) (b ∷ c ∷ bs) e is few =
    cond_into (b == q) (cond (c == q) (quote_end q (at + 2) bs) (Some (at + 1))) (quote_end q (at + 1) (c ∷ bs)) (cond (c == q) (quote_end q (at + 2) (take k bs)) (Some (at + 1))) (quote_end q (at + 1) (c ∷ take k bs)) e
    (λ _ found. cond_into (c == q) (quote_end q (at + 2) bs) (Some (at + 1)) (quote_end q (at + 2) (take k bs)) (Some (at + 1)) e (λ _ later. quote_end_cut q (at + 2) k bs e later (omega arith)) (λ _ here. here) found)
    (λ _ found. quote_end_cut q (at + 1) (suc k) (c ∷ bs) e found (omega arith)) is

drop_cut : (m n : ℕ) (xs : List ℕ) → m ≤ n → drop m (take n xs) ≡ take (n - m) (drop m xs)
drop_cut m n xs within = let same : n ≡ m + (n - m) = omega arith in ap (λ k. drop m (take k xs)) same ∙ drop-take m (n - m) xs

run_cut : (r : Run) (at n : ℕ) (rest : List ℕ) → at ≤ n → run_end r at (drop at rest) ≤ n → run_end r at (drop at (take n rest)) ≡ run_end r at (drop at rest)
run_cut r at n rest within few = ap (run_end r at) (drop_cut at n rest within) ∙ run_end_cut r at (n - at) (drop at rest) (omega arith)

head_cut : (n : ℕ) (rest : List ℕ) → 0 < n → get_or (take n rest) 0 0 ≡ get_or rest 0 0
head_cut n rest positive = get_or-take n rest 0 0 positive

-- what is asked of the first two bytes
two_cut : (n : ℕ) (rest : List ℕ) (a b : ℕ) → 0 < n → 0 < b → ((slice_index rest 0 == a && slice_index rest 1 == b) ≡ true → 2 ≤ n) → (slice_index (take n rest) 0 == a && slice_index (take n rest) 1 == b) ≡ (slice_index rest 0 == a && slice_index rest 1 == b)
two_cut zero rest a b positive some two = absurd (omega arith)
two_cut (suc zero) rest a b positive some two =
    let past : get_or (take 1 rest) 1 0 ≡ 0 = get_or_past (take 1 rest) 1 0 (omega (arith, length-take 1 rest)) in
    and_right (slice_index (take 1 rest) 0 == a) (slice_index (take 1 rest) 1 == b) (ne_eqb (slice_index (take 1 rest) 1) b (λ same. omega arith))
    ∙ ⊎_elim (λ test. absurd (omega (arith, two test))) (λ test. sym test) (cases_Bool (slice_index rest 0 == a && slice_index rest 1 == b))
two_cut (suc (suc n)) rest a b positive some two =
    ap₂ (λ x y. x == a && y == b) (get_or-take (suc (suc n)) rest 0 0 (omega arith)) (get_or-take (suc (suc n)) rest 1 0 (omega arith))

-- what a form says of a text that is cut
abbrev FormCut : (List ℕ → Option Piece) → Type 0
FormCut form = (n : ℕ) (rest : List ℕ) → 0 < n → Stands n (form rest) → form (take n rest) ≡ form rest

stands_at : (n : ℕ) (test : Bool) (piece : Piece) → Stands n (cond test (Some piece) None) → test ≡ true → Closed n piece
stands_at n true piece stands is = stands
stands_at n false piece stands is = cc is

if_cut : (n : ℕ) (test test' : Bool) (piece piece' : Piece) → test' ≡ test → (Closed n piece → piece' ≡ piece) → Stands n (cond test (Some piece) None) → cond test' (Some piece') None ≡ cond test (Some piece) None
if_cut n true test' piece piece' same pieces stands = ap (λ t. cond t (Some piece') None) same ∙ ap Some (pieces stands)
if_cut n false test' piece piece' same pieces stands = ap (λ t. cond t (Some piece') None) same

ended_cut : (k : PieceKind) (n : ℕ) (o o' : Option ℕ) (rest : List ℕ) → ((e : ℕ) → o ≡ Some e → e ≤ n → o' ≡ Some e) → Closed n (ended k o rest) → ended k o' (take n rest) ≡ ended k o rest
ended_cut k n None o' rest found closed = cc (closed.1)
ended_cut k n (Some e) o' rest found closed = ap (λ o. ended k o (take n rest)) (found e refl closed.0)

ended_behind : (k : PieceKind) (n at count : ℕ) (o : Option ℕ) (rest : List ℕ) → IfSome o (Ends at count) → Closed n (ended k o rest) → at ≤ n
ended_behind k n at count None rest ends closed = cc (closed.1)
ended_behind k n at count (Some e) rest ends closed = omega (arith, ends.behind, closed.0)

blank_cut : FormCut blank
unfolding blank
blank_cut n rest positive stands =
    if_cut n (is_blank (slice_index rest 0)) (is_blank (slice_index (take n rest) 0)) (sized kind.Blank 1) (sized kind.Blank 1) (ap is_blank (head_cut n rest positive)) (λ _. refl) stands

line_comment_cut : FormCut line_comment
unfolding line_comment
line_comment_cut n rest positive stands =
    let piece : Piece = sized kind.Comment (run_end run.Line 2 (drop 2 rest)) in
    let two : (slice_index rest 0 == 45 && slice_index rest 1 == 45) ≡ true → 2 ≤ n = λ test. omega (arith, (stands_at n (slice_index rest 0 == 45 && slice_index rest 1 == 45) piece stands test).0, run_end_least run.Line 2 (drop 2 rest)) in
    if_cut n (slice_index rest 0 == 45 && slice_index rest 1 == 45) (slice_index (take n rest) 0 == 45 && slice_index (take n rest) 1 == 45) piece (sized kind.Comment (run_end run.Line 2 (drop 2 (take n rest)))) (two_cut n rest 45 45 positive (omega arith) two)
    (λ closed. ap (sized kind.Comment) (run_cut run.Line 2 n rest (omega (arith, closed.0, run_end_least run.Line 2 (drop 2 rest))) closed.0)) stands

block_comment_cut : FormCut block_comment
unfolding block_comment
block_comment_cut n rest positive stands =
    let piece : Piece = ended kind.Comment (comment_end 2 (drop 2 rest)) rest in
    let behind : Closed n piece → 2 ≤ n = λ closed. ended_behind kind.Comment n 2 (length (drop 2 rest)) (comment_end 2 (drop 2 rest)) rest (comment_end_within 2 (drop 2 rest)) closed in
    if_cut n (slice_index rest 0 == 47 && slice_index rest 1 == 42) (slice_index (take n rest) 0 == 47 && slice_index (take n rest) 1 == 42) piece (ended kind.Comment (comment_end 2 (drop 2 (take n rest))) (take n rest)) (two_cut n rest 47 42 positive (omega arith) (λ test. behind (stands_at n (slice_index rest 0 == 47 && slice_index rest 1 == 42) piece stands test)))
    (λ closed. let within : 2 ≤ n = behind closed in ended_cut kind.Comment n (comment_end 2 (drop 2 rest)) (comment_end 2 (drop 2 (take n rest))) rest (λ e is few. ap (comment_end 2) (drop_cut 2 n rest within) ∙ comment_end_cut 2 (n - 2) (drop 2 rest) e is (omega arith)) closed) stands

quoted_cut : FormCut quoted
unfolding quoted
quoted_cut n rest positive stands =
    let q : ℕ = slice_index rest 0 in
    if_cut n (is_quote (slice_index rest 0)) (is_quote (slice_index (take n rest) 0)) (ended kind.Quoted (quote_end q 1 (drop 1 rest)) rest) (ended kind.Quoted (quote_end (slice_index (take n rest) 0) 1 (drop 1 (take n rest))) (take n rest)) (ap is_quote (head_cut n rest positive))
    (λ closed. ended_cut kind.Quoted n (quote_end q 1 (drop 1 rest)) (quote_end (slice_index (take n rest) 0) 1 (drop 1 (take n rest))) rest (λ e is few. ap₂ (λ b bs. quote_end b 1 bs) (head_cut n rest positive) (drop_cut 1 n rest positive) ∙ quote_end_cut q 1 (n - 1) (drop 1 rest) e is (omega arith)) closed) stands

bracket_within : (end n : ℕ) (rest : List ℕ) → Closed n (bracket_ended end rest) → (end < length rest) × (end < n)
bracket_within end n rest closed =
    ⊎_elim
    (λ test. let here : Closed n (sized kind.Quoted (end + 1)) = subst (Closed n) (cond-true (nat_lt end (length rest)) (sized kind.Quoted (end + 1)) (sized kind.Unclosed (length rest)) test) closed in (ltb-true end (length rest) test, omega (arith, here.0)))
    (λ test. let here : Closed n (sized kind.Unclosed (length rest)) = subst (Closed n) (cond-false (nat_lt end (length rest)) (sized kind.Quoted (end + 1)) (sized kind.Unclosed (length rest)) test) closed in cc (here.1))
    (cases_Bool (nat_lt end (length rest)))

bracket_cut : (end end' n : ℕ) (rest : List ℕ) → end' ≡ end → end < length rest → end < n → bracket_ended end' (take n rest) ≡ bracket_ended end rest
bracket_cut end end' n rest same inside near =
    ap (λ e. bracket_ended e (take n rest)) same
    ∙ cond-true (nat_lt end (length (take n rest))) (sized kind.Quoted (end + 1)) (sized kind.Unclosed (length (take n rest))) (lt-ltb end (length (take n rest)) (omega (arith, length-take n rest)))
    ∙ sym (cond-true (nat_lt end (length rest)) (sized kind.Quoted (end + 1)) (sized kind.Unclosed (length rest)) (lt-ltb end (length rest) inside))

bracketed_cut : FormCut bracketed
unfolding bracketed
bracketed_cut n rest positive stands =
    let end : ℕ = run_end run.Bracket 1 (drop 1 rest) in
    if_cut n (slice_index rest 0 == 91) (slice_index (take n rest) 0 == 91) (bracket_ended end rest) (bracket_ended (run_end run.Bracket 1 (drop 1 (take n rest))) (take n rest)) (ap (λ b. b == 91) (head_cut n rest positive))
    (λ closed. let within = bracket_within end n rest closed in bracket_cut end (run_end run.Bracket 1 (drop 1 (take n rest))) n rest (run_cut run.Bracket 1 n rest positive (omega (arith, within.1))) within.0 within.1) stands

-- one byte and the run behind it
run_form_cut : (k : PieceKind) (r : Run) (n : ℕ) (rest : List ℕ) → 0 < n → Closed n (sized k (run_end r 1 (drop 1 rest))) → sized k (run_end r 1 (drop 1 (take n rest))) ≡ sized k (run_end r 1 (drop 1 rest))
run_form_cut k r n rest positive closed = ap (sized k) (run_cut r 1 n rest positive closed.0)

numbered_parameter_cut : FormCut numbered_parameter
unfolding numbered_parameter
numbered_parameter_cut n rest positive stands =
    if_cut n (slice_index rest 0 == 63) (slice_index (take n rest) 0 == 63) (sized kind.Parameter (run_end run.Digits 1 (drop 1 rest))) (sized kind.Parameter (run_end run.Digits 1 (drop 1 (take n rest)))) (ap (λ b. b == 63) (head_cut n rest positive)) (λ closed. run_form_cut kind.Parameter run.Digits n rest positive closed) stands

named_test_cut : (n : ℕ) (rest : List ℕ) → 0 < n → Stands n (cond (is_prefix (slice_index rest 0) && nat_lt 1 (run_end run.Name 1 (drop 1 rest))) (Some (sized kind.Parameter (run_end run.Name 1 (drop 1 rest)))) None) → (is_prefix (slice_index (take n rest) 0) && nat_lt 1 (run_end run.Name 1 (drop 1 (take n rest)))) ≡ (is_prefix (slice_index rest 0) && nat_lt 1 (run_end run.Name 1 (drop 1 rest)))
named_test_cut n rest positive stands =
    let end : ℕ = run_end run.Name 1 (drop 1 rest) in
    let front : is_prefix (slice_index (take n rest) 0) ≡ is_prefix (slice_index rest 0) = ap is_prefix (head_cut n rest positive) in
    let same : end ≤ n → (is_prefix (slice_index (take n rest) 0) && nat_lt 1 (run_end run.Name 1 (drop 1 (take n rest)))) ≡ (is_prefix (slice_index rest 0) && nat_lt 1 end) = λ few. ap₂ (λ x e. x && nat_lt 1 e) front (run_cut run.Name 1 n rest positive few) in
    ⊎_elim
    (λ test. same (stands_at n (is_prefix (slice_index rest 0) && nat_lt 1 end) (sized kind.Parameter end) stands test).0)
    (λ test. ⊎_elim
    (λ prefix. ⊎_elim
    (λ more. absurd (true≢false (sym (and_from (is_prefix (slice_index rest 0)) (nat_lt 1 end) prefix more) ∙ test)))
    (λ none. same (omega (arith, ltb-false 1 end none)))
    (cases_Bool (nat_lt 1 end)))
    (λ other. and_left (is_prefix (slice_index (take n rest) 0)) (nat_lt 1 (run_end run.Name 1 (drop 1 (take n rest)))) (front ∙ other) ∙ sym test)
    (cases_Bool (is_prefix (slice_index rest 0))))
    (cases_Bool (is_prefix (slice_index rest 0) && nat_lt 1 end))

named_parameter_cut : FormCut named_parameter
unfolding named_parameter
named_parameter_cut n rest positive stands =
    if_cut n (is_prefix (slice_index rest 0) && nat_lt 1 (run_end run.Name 1 (drop 1 rest))) (is_prefix (slice_index (take n rest) 0) && nat_lt 1 (run_end run.Name 1 (drop 1 (take n rest)))) (sized kind.Parameter (run_end run.Name 1 (drop 1 rest))) (sized kind.Parameter (run_end run.Name 1 (drop 1 (take n rest)))) (named_test_cut n rest positive stands) (λ closed. run_form_cut kind.Parameter run.Name n rest positive closed) stands

word_cut : FormCut word
unfolding word
word_cut n rest positive stands =
    if_cut n (is_letter (slice_index rest 0)) (is_letter (slice_index (take n rest) 0)) (sized kind.Word (run_end run.Word 1 (drop 1 rest))) (sized kind.Word (run_end run.Word 1 (drop 1 (take n rest)))) (ap is_letter (head_cut n rest positive)) (λ closed. run_form_cut kind.Word run.Word n rest positive closed) stands

number_cut : FormCut number
unfolding number
number_cut n rest positive stands =
    if_cut n (is_ascii_digit (slice_index rest 0)) (is_ascii_digit (slice_index (take n rest) 0)) (sized kind.Number (run_end run.Digits 1 (drop 1 rest))) (sized kind.Number (run_end run.Digits 1 (drop 1 (take n rest)))) (ap is_ascii_digit (head_cut n rest positive)) (λ closed. run_form_cut kind.Number run.Digits n rest positive closed) stands

first_cut : (n : ℕ) (o o' : Option Piece) (os os' : List (Option Piece)) → (Stands n o → o' ≡ o) → (Stands n (first_of os) → first_of os' ≡ first_of os) → Stands n (first_of (o ∷ os)) → first_of (o' ∷ os') ≡ first_of (o ∷ os)
first_cut n None o' os os' first others stands = ap (λ x. first_of (x ∷ os')) (first tt) ∙ others stands
first_cut n (Some piece) o' os os' first others stands = ap (λ x. first_of (x ∷ os')) (first stands)

or_cut : (n : ℕ) (o o' : Option Piece) (piece piece' : Piece) → (Stands n o → o' ≡ o) → piece' ≡ piece → Closed n (unwrap_or o piece) → unwrap_or o' piece' ≡ unwrap_or o piece
or_cut n None o' piece piece' found other closed = ap (λ x. unwrap_or x piece') (found tt) ∙ other
or_cut n (Some p) o' piece piece' found other closed = ap (λ x. unwrap_or x piece') (found closed)

-- bytes cut at or behind the end of their first piece, if it is closed, have that same first piece
pub first_piece_cut : (n : ℕ) (rest : List ℕ) → 0 < n → Closed n (first_piece rest) → first_piece (take n rest) ≡ first_piece rest
unfolding first_piece
first_piece_cut n rest positive closed =
    let cut : List ℕ = take n rest in
    or_cut n (first_of (forms rest)) (first_of (forms cut)) (sign rest) (sign cut)
    (first_cut n (blank rest) (blank cut) _ _ (blank_cut n rest positive)
    (first_cut n (first_of (enclosed_forms rest)) (first_of (enclosed_forms cut)) _ _
    (first_cut n (line_comment rest) (line_comment cut) _ _ (line_comment_cut n rest positive) (first_cut n (block_comment rest) (block_comment cut) _ _ (block_comment_cut n rest positive)
    (first_cut n (quoted rest) (quoted cut) _ _ (quoted_cut n rest positive) (first_cut n (bracketed rest) (bracketed cut) [] [] (bracketed_cut n rest positive) (λ _. refl)))))
    (first_cut n (first_of (named_forms rest)) (first_of (named_forms cut)) [] []
    (first_cut n (numbered_parameter rest) (numbered_parameter cut) _ _ (numbered_parameter_cut n rest positive) (first_cut n (named_parameter rest) (named_parameter cut) _ _ (named_parameter_cut n rest positive)
    (first_cut n (word rest) (word cut) _ _ (word_cut n rest positive) (first_cut n (number rest) (number cut) [] [] (number_cut n rest positive) (λ _. refl))))) (λ _. refl))))
    (ap (λ b. sized (kind.Sign b) 1) (head_cut n rest positive)) closed

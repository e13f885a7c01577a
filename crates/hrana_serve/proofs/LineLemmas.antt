-- The lines by their number, and the first of those that are left.
use Rattle.std.proofs.Common.{◌≡◌, ℕ, ◌+◌, ◌<◌, ◌≤◌, Bool, true, false, List, [], ◌∷◌, ◌++◌, Bor, Option, None, Some, subst, sym, ap, ◌∙◌, refl, arith, add-one, length, length-drop, take, drop, drop-cons, get_or, take-append-drop, append-nil, ◌==◌, slice_index}
use Rattle.std.proofs.lemmas.Grind.{get_or_default_zero}
use Rattle.std.proofs.lemmas.List.{take_more, length-take-le}
use Rattle.std.proofs.lemmas.Bool.Decides.{Decides-eqb}
use Rattle.std.specs.Prelude.{IfSome}
use Rattle.std.proofs.lemmas.List.Splits.{slice_split_first, slice_split_none}
use Rattle.std.proofs.lemmas.List.Sums.{position_or_len_is}
use Rattle.std.specs.List.{position_or_len}
use Rattle.memchr.specs.Find.{IsFirstByte, is_byte}
use Rattle.engine_core.specs.Bytes.{IsPrefix, lines_of}
use Rattle.hrana_serve.specs.Lines.{lines_left, left_measure}

pub is_nil : (l : List ℕ) → (length l == 0) ≡ true → l ≡ []
is_nil [] e = refl
is_nil (x ∷ l) e = let n : length (x ∷ l) ≡ 0 = (Decides-eqb (length (x ∷ l)) 0).0 e in absurd (omega arith)

pub is_filled : (l : List ℕ) → 0 < length l → l ≡ [] → ⊥
is_filled l h e = omega (arith, ap length e)

pub line_front : (all : List (List ℕ)) (i : ℕ) → IsPrefix (take i all) all
line_front all i = record { rest = drop i all; whole = sym (take-append-drop i all) }

-- no line is left after the i first
pub all_lines : (all : List (List ℕ)) (i : ℕ) → drop i all ≡ [] → take i all ≡ all
all_lines all i h = sym (append-nil (take i all)) ∙ ap (λ l. take i all ++ l) (sym h) ∙ take-append-drop i all

-- after the i first lines comes this one, and then those that are left
pub record IsNextLine (all : List (List ℕ)) (i : ℕ) (line : List ℕ) (left : List (List ℕ)) : Type 0 where
  pub here : drop i all ≡ line ∷ left

-- it is the first line of what was left
pub next_of : (all : List (List ℕ)) (i : ℕ) (left : Option (Bor (List ℕ))) (bytes : Bor (List ℕ)) (line : List ℕ) (after : Option (Bor (List ℕ))) → drop i all ≡ lines_left left → left ≡ Some bytes → lines_of bytes.now ≡ line ∷ lines_left after
    → IsNextLine all i line (lines_left after)
next_of all i left bytes line after rest is lines = record { here = rest ∙ ap lines_left is ∙ lines }

-- what is left has got shorter
pub shorter_left : (after : Option (Bor (List ℕ))) (n : ℕ) → IfSome after (λ left. length left.now < n) → left_measure after ≤ n
shorter_left None n h = omega arith
shorter_left (Some left) n h = omega arith

module _ {all : List (List ℕ)} {i : ℕ} {line : List ℕ} {left : List (List ℕ)} (next : IsNextLine all i line left) where
  is_there : i < length all
  is_there = let h = next.here in omega (arith, length-drop i all, ap length h)

  cut : get_or all i [] ∷ drop (i + 1) all ≡ line ∷ left
  cut = rw add-one (sym (drop-cons all i [] is_there) ∙ next.here)

  pub line_left : drop (i + 1) all ≡ left
  line_left = let e = cut in cc

  pub line_more : take (i + 1) all ≡ take i all ++ line ∷ []
  line_more = let e = cut in let here : get_or all i [] ≡ line = cc in take_more all i [] is_there ∙ ap (λ l. take i all ++ l ∷ []) here

  pub line_next : IsPrefix (take i all ++ line ∷ []) all
  line_next = subst (λ l. IsPrefix l all) line_more (line_front all (i + 1))

  pub line_count : i + 1 ≡ length (take i all) + 1
  line_count = ap (λ n. n + 1) (sym (length-take-le i all (let t = is_there in omega arith)))

  -- it is empty
  pub line_blank : (length line == 0) ≡ true → take (i + 1) all ≡ take i all ++ [] ∷ []
  line_blank e = line_more ∙ ap (λ l. take i all ++ l ∷ []) (is_nil line e)

-- ---- where a line ends

not_true : (b : Bool) → (b ≡ true → ⊥) → b ≡ false
not_true true h = absurd (h refl)
not_true false h = refl

-- at the first newline
pub cut_at : (bytes : List ℕ) (at : ℕ) → IsFirstByte (is_byte 10) bytes (Some at) → lines_of bytes ≡ take at bytes ∷ lines_of (drop (at + 1) bytes)
cut_at bytes at h =
    let below : at < length bytes = h.0.high in
    let e : position_or_len (is_byte 10) bytes ≡ at = position_or_len_is (is_byte 10) bytes at 0 (omega arith) (λ k lt. not_true (is_byte 10 (slice_index bytes k)) (h.0.before k (omega arith) lt)) (λ _. h.1) in
    let first = slice_split_first (is_byte 10) bytes 0 (subst (λ n. n < length bytes) (sym e) below) in
    subst (λ n. lines_of bytes ≡ take n bytes ∷ lines_of (drop (n + 1) bytes)) e first

-- or else at the end
pub cut_none : (bytes : List ℕ) → IsFirstByte (is_byte 10) bytes None → lines_of bytes ≡ bytes ∷ []
cut_none bytes h = slice_split_none (is_byte 10) bytes (λ k d lt. let e = get_or_default_zero bytes k d lt in subst (λ b. is_byte 10 b ≡ false) (sym e) (not_true (is_byte 10 (slice_index bytes k)) (h k (omega arith) lt)))

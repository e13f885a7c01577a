-- The tokens of a text, piece by piece.
use Rattle.std.proofs.Common.{◌≡◌, ◌≤◌, ◌<◌, ◌+◌, ◌-◌, ℕ, Bool, true, false, cond, List, [], ◌∷◌, ◌++◌, length, drop, refl, sym, ap, ◌∙◌, arith, append_assoc}
use Rattle.std.specs.Prelude.{slice_range}
use Rattle.std.proofs.lemmas.List.{append_cancel_right, map_push, drop_all, length-drop, length-take-le}
use Rattle.std.proofs.lemmas.List.Folds.{drop_split}
use Rattle.sql_text.specs.declared.pieces.PieceKind.{PieceKind}
use Rattle.sql_text.specs.Pieces.{Token as Piece, token as piece, pieces}
use Rattle.sql_text.specs.Parameters.{Numbered}
use Rattle.sql_text.proofs.PieceLists.{pieces-nil}
use Rattle.keeper_dialect.specs.Tokens.{Token, tokens_from, token_of, end_token, seen_after, is_passed, view, views}
use Rattle.keeper_dialect.specs.declared.tokens.Token.{Token as HeldToken}

-- two slices that meet
pub slices_meet : {A : Type 0} (xs : List A) (a b c : ℕ) → a ≤ b → b ≤ c → slice_range xs a b ++ slice_range xs b c ≡ slice_range xs a c
slices_meet xs a b c low high =
    append_cancel_right _ _ (drop c xs) (append_assoc (slice_range xs a b) (slice_range xs b c) (drop c xs) ∙ ap (λ ys. slice_range xs a b ++ ys) (sym (drop_split xs b c high)) ∙ sym (drop_split xs a b low) ∙ drop_split xs a c (omega arith))

length_slice : (xs : List ℕ) (a b : ℕ) → a ≤ b → b ≤ length xs → length (slice_range xs a b) ≡ b - a
length_slice xs a b low within = length-take-le (b - a) (drop a xs) (omega (arith, length-drop a xs))

-- a blank or comment is put before the next token
passed_by : (test : Bool) (A : List Token) (B : List Token) → test ≡ true → cond test A B ≡ A
passed_by true A B is = refl
passed_by false A B is = cc is

taken_by : (test : Bool) (A : List Token) (B : List Token) → test ≡ false → cond test A B ≡ B
taken_by true A B is = cc is
taken_by false A B is = refl

pub tokens_from-passed : (seen : List Numbered) (sql : List ℕ) (from at end : ℕ) (k : PieceKind) (ps rest : List Piece) → ps ≡ piece k (slice_range sql at end) ∷ rest → is_passed k ≡ true → from ≤ at → at < end → end ≤ length sql → tokens_from seen (slice_range sql from at) at ps ≡ tokens_from seen (slice_range sql from end) end rest
unfolding tokens_from
tokens_from-passed seen sql from at end k ps rest is passed low high within =
    let size : length (slice_range sql at end) ≡ end - at = length_slice sql at end (omega arith) within in
    let e : at + length (slice_range sql at end) ≡ end = omega arith in
    ap (tokens_from seen (slice_range sql from at) at) is ∙ passed_by (is_passed k) _ _ passed ∙ (λ i. tokens_from seen (slices_meet sql from at end low (omega arith) i) (e i) rest)

pub slice_none : {A : Type 0} (xs : List A) (a : ℕ) → slice_range xs a a ≡ []
slice_none xs a = grind arith

pub tokens_from-taken : (seen : List Numbered) (sql : List ℕ) (from at end : ℕ) (k : PieceKind) (ps rest : List Piece) → ps ≡ piece k (slice_range sql at end) ∷ rest → is_passed k ≡ false → at < end → end ≤ length sql → tokens_from seen (slice_range sql from at) at ps ≡ token_of seen (slice_range sql from at) at k (slice_range sql at end) ∷ tokens_from (seen_after seen k (slice_range sql at end)) (slice_range sql end end) end rest
unfolding tokens_from
tokens_from-taken seen sql from at end k ps rest is taken high within =
    let size : length (slice_range sql at end) ≡ end - at = length_slice sql at end (omega arith) within in
    let e : at + length (slice_range sql at end) ≡ end = omega arith in
    ap (tokens_from seen (slice_range sql from at) at) is ∙ taken_by (is_passed k) _ _ taken ∙ (λ i. token_of seen (slice_range sql from at) at k (slice_range sql at end) ∷ tokens_from (seen_after seen k (slice_range sql at end)) (sym (slice_none sql end) i) (e i) rest)

pub tokens_from-end : (seen : List Numbered) (before : List ℕ) (sql : List ℕ) (at : ℕ) → length sql ≤ at → tokens_from seen before at (pieces (drop at sql)) ≡ end_token before at ∷ []
unfolding tokens_from
tokens_from-end seen before sql at past = ap (λ bytes. tokens_from seen before at (pieces bytes)) (drop_all at sql past) ∙ ap (tokens_from seen before at) pieces-nil

-- a token more
pub views_push : (ts : List HeldToken) (t : HeldToken) (rest : List Token) → views (ts ++ t ∷ []) ++ rest ≡ views ts ++ view t ∷ rest
views_push ts t rest = ap (λ vs. vs ++ rest) (map_push view ts t) ∙ append_assoc (views ts) (view t ∷ []) rest

pub more_views : (ts : List HeldToken) (t : HeldToken) (us : List HeldToken) (token : Token) (left rest later whole : List Token) → us ≡ ts ++ t ∷ [] → view t ≡ token → left ≡ token ∷ rest → later ≡ rest → views ts ++ left ≡ whole → views us ++ later ≡ whole
more_views ts t us token left rest later whole pushed is at same all =
    (λ i. views (pushed i) ++ same i) ∙ views_push ts t rest ∙ ap (λ u. views ts ++ u ∷ rest) is ∙ ap (λ us. views ts ++ us) (sym at) ∙ all

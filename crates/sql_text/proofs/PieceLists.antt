-- The one list of pieces of a text, step by step.
use Rattle.std.proofs.Common.{◌≡◌, ◌<◌, ◌≤◌, ◌+◌, ◌-◌, ℕ, suc, zero, List, [], ◌∷◌, ◌++◌, length, take, drop, refl, sym, ap, ◌∙◌, subst, arith, take-append-drop}
use Rattle.std.proofs.lemmas.List.{length-drop, length-append, drop-drop, drop_at, length-take-le}
use Rattle.std.specs.Prelude.{slice_range}
use Rattle.sql_text.specs.declared.pieces.Piece.{Piece}
use Rattle.sql_text.specs.Pieces.{Token, token, first_piece, first_token, pieces, pieces_after, joined, ArePieces, EachTextHasOneList}
use Rattle.sql_text.proofs.PieceSizes.{first_piece_within}

pieces_after-drop : (skipped : ℕ) (bs : List ℕ) → pieces_after skipped bs ≡ pieces_after 0 (drop skipped bs)
pieces_after-drop zero bs = refl
pieces_after-drop (suc skipped) [] = refl
pieces_after-drop (suc skipped) (b ∷ bs) = pieces_after-drop skipped bs

drop_front : (n b : ℕ) (bs : List ℕ) → 0 < n → drop n (b ∷ bs) ≡ drop (n - 1) bs
drop_front zero b bs positive = absurd (omega arith)
drop_front (suc n) b bs positive = let e : n ≡ suc n - 1 = omega arith in ap (λ m. drop m bs) e

-- the pieces of bytes that aren't at their end are the first one and the pieces of what follows it
pub pieces-front : (rest : List ℕ) → 0 < length rest → pieces rest ≡ first_token rest ∷ pieces (drop (first_piece rest).size rest)
unfolding pieces
pieces-front [] nonempty = absurd (omega arith)
pieces-front (b ∷ bs) nonempty =
    let within = first_piece_within (b ∷ bs) nonempty in
    ap (λ tokens. first_token (b ∷ bs) ∷ tokens) (pieces_after-drop ((first_piece (b ∷ bs)).size - 1) bs ∙ ap (pieces_after 0) (sym (drop_front _ b bs within.positive)))

pub pieces-nil : pieces [] ≡ []
unfolding pieces
pieces-nil = refl

-- by the number of bytes
one_by : (count : ℕ) (text : List ℕ) → length text ≤ count → ArePieces text (pieces text)
one_by count [] few = subst (ArePieces []) (sym pieces-nil) (record { joined = refl; first = tt })
one_by zero (b ∷ bs) few = absurd (omega arith)
one_by (suc count) (b ∷ bs) few =
    let text : List ℕ = b ∷ bs in
    let nonempty : 0 < length text = omega arith in
    let size : ℕ = (first_piece text).size in
    let within = first_piece_within text nonempty in
    let later = one_by count (drop size text) (omega (arith, length-drop size text, within.positive)) in
    let whole : take size text ++ joined (pieces (drop size text)) ≡ text = ap (λ bytes. take size text ++ bytes) later.joined ∙ take-append-drop size text in
    subst (ArePieces text) (sym (pieces-front text nonempty)) (record {
      joined = whole;
      first = (ap first_token (sym whole), omega (arith, length-take-le size text within.fits, within.positive), later.first);
    })

only_by : (tokens : List Token) (text : List ℕ) → ArePieces text tokens → tokens ≡ pieces text
only_by [] text are = sym (ap pieces (sym are.joined) ∙ pieces-nil)
only_by (token ∷ tokens) text are =
    let is : token ≡ first_token text = are.first.0 ∙ ap first_token are.joined in
    let nonempty : 0 < length text = omega (arith, are.first.1, ap length are.joined, length-append token.bytes (joined tokens)) in
    let size : ℕ = (first_piece text).size in
    let within = first_piece_within text nonempty in
    let taken : token.bytes ≡ take size text = ap (λ t. t.bytes) is in
    let size_is : length token.bytes ≡ size = ap length taken ∙ length-take-le size text within.fits in
    let rest : joined tokens ≡ drop size text = sym (drop_at token.bytes (joined tokens) size size_is) ∙ ap (drop size) are.joined in
    let later : tokens ≡ pieces (drop size text) = only_by tokens (drop size text) (record { joined = rest; first = are.first.2 }) in
    (λ i. is i ∷ later i) ∙ sym (pieces-front text nonempty)

pub each_text_has_one_list : EachTextHasOneList
each_text_has_one_list = record { one = λ text. one_by (length text) text (omega arith); only = λ text tokens are. only_by tokens text are }

-- what the scanner's answer at a place says of the text
pub record PieceStands (text : List ℕ) (at : ℕ) (piece : Piece) : Type 0 where
  pub later : at < at + piece.size
  pub within : at + piece.size ≤ length text
  pub stands : pieces (drop at text) ≡ token piece.kind (slice_range text at (at + piece.size)) ∷ pieces (drop (at + piece.size) text)

pub piece_stands : (text : List ℕ) (at : ℕ) (piece : Piece) → at < length text → piece ≡ first_piece (drop at text) → PieceStands text at piece
piece_stands text at piece inside is =
    let nonempty : 0 < length (drop at text) = omega (arith, length-drop at text) in
    let within = first_piece_within (drop at text) nonempty in
    let size : ℕ = (first_piece (drop at text)).size in
    let same : at + size - at ≡ size = omega arith in
    subst (PieceStands text at) (sym is) (record {
      later = omega (arith, within.positive);
      within = omega (arith, within.fits, length-drop at text);
      stands = pieces-front (drop at text) nonempty ∙ (λ i. token (first_piece (drop at text)).kind (take (sym same i) (drop at text)) ∷ pieces (drop-drop size at text i));
    })

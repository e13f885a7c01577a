use Rattle.std.proofs.Common.{◌≡◌, ℕ, sym, subst, ap, ◌∙◌, arith, drop}
use Rattle.std.proofs.lemmas.List.{take_rest}
use Rattle.sql_text.specs.Pieces.{first_piece}
use Rattle.sql_text.proofs.PieceLists.{PieceStands, piece_stands}
use Rattle.sql_text.proofs.BoundaryLemmas.{Cuts, first_piece_cuts}
use Rattle.sql_text.proofs.BoundarySpans.{cuts_boundary}
use Rattle.sql_text.proofs.pieces.piece_at.Goals as goal
use Rattle.sql_text.proofs.pieces.piece_at.Goals.{After-first_piece-piece}

here : (c : After-first_piece-piece) → PieceStands c.args.text.now c.args.at c.first_piece-piece.result
here c = piece_stands c.args.text.now c.args.at c.first_piece-piece.result c.requires (c.first_piece-piece.ensures ∙ ap first_piece (take_rest c.args.text.now c.args.at))

pub overflow_add-result : goal.overflow_add-result
overflow_add-result c = let stands = here (goal.at.overflow_add-result c).After-first_piece-piece in omega (arith, stands.within)

pub returns-clause-later : goal.returns-clause-later
returns-clause-later c = (here (goal.at.returns-clause-later c).After-first_piece-piece).later

pub returns-clause-within : goal.returns-clause-within
returns-clause-within c = (here (goal.at.returns-clause-within c).After-first_piece-piece).within

pub returns-clause-stands : goal.returns-clause-stands
returns-clause-stands c = (here (goal.at.returns-clause-stands c).After-first_piece-piece).stands

pub returns-clause-between : goal.returns-clause-between
returns-clause-between c utf8 start =
    let is = c.first_piece-piece.ensures ∙ ap first_piece (take_rest c.args.text.now c.args.at) in
    let stands = here (goal.at.returns-clause-between c).After-first_piece-piece in
    let size : ℕ = (first_piece (drop c.args.at c.args.text.now)).size in
    let same : c.first_piece-piece.result.size ≡ size = ap (λ p. p.size) is in
    cuts_boundary c.args.text.now c.args.at c.first_piece-piece.result.size utf8 (omega (arith, stands.later)) stands.within (subst (Cuts (drop c.args.at c.args.text.now)) (sym same) (first_piece_cuts (drop c.args.at c.args.text.now)))

-- The spans of a text stand between characters.
use Rattle.std.proofs.Common.{◌≡◌, ◌<◌, ◌≤◌, ◌+◌, ◌-◌, ℕ, suc, zero, List, [], ◌∷◌, Option, None, Some, length, get_or, drop, refl, sym, subst, arith, ⊎_elim, IsUtf8}
use Rattle.std.specs.Prelude.{All}
use Rattle.std.specs.Str.{IsCharBoundary}
use Rattle.std.proofs.lemmas.Bool.{cases_lt}
use Rattle.std.proofs.lemmas.List.{get_or-drop}
use Rattle.std.proofs.lemmas.List.Elements.{All-nil, All-cons, All-head, All-tail, All-append}
use Rattle.std.proofs.lemmas.Str.{IsCharBoundary-start, IsCharBoundary-end, IsCharBoundary-before_ascii, IsCharBoundary-after_ascii}
use Rattle.sql_text.specs.declared.class.Role.{Role}
use Rattle.sql_text.specs.declared.class.Role.TheVariants as role
use Rattle.sql_text.specs.declared.spans.Span.{Span}
use Rattle.sql_text.specs.Pieces.{first_piece}
use Rattle.sql_text.specs.Words.{role_of}
use Rattle.sql_text.specs.Spans.{Placed, end_of, kind_of, spans_of, grown, closed_span, StandsBetween, spans_from}
use Rattle.sql_text.proofs.PieceLists.{piece_stands}
use Rattle.sql_text.proofs.BoundaryLemmas.{Cuts, first_piece_cuts}
use Rattle.sql_text.proofs.SpanLemmas.{from_place, placed_piece, from_place-piece, from_place-end, end_of-placed_piece, spans-skipped, spans-cuts, spans-stands, spans-end, spans_of-start}

-- a cut beside ASCII is one between characters
pub cuts_boundary : (text : List ℕ) (at size : ℕ) → IsUtf8 text → 0 < size → at + size ≤ length text → Cuts (drop at text) size → IsCharBoundary text (at + size)
cuts_boundary text at size utf8 positive within cuts =
    ⊎_elim
    (λ here. ⊎_elim (λ inside. IsCharBoundary-before_ascii text (at + size) inside (subst (λ b. b < 128) (get_or-drop at text size 0) here)) (λ past. let end : length text ≡ at + size = omega arith in subst (IsCharBoundary text) end (IsCharBoundary-end text)) (cases_lt (at + size) (length text)))
    (λ behind.
    let small : get_or text (at + (size - 1)) 0 < 128 = subst (λ b. b < 128) (get_or-drop at text (size - 1) 0) behind.1 in
    let same : at + (size - 1) + 1 ≡ at + size = omega arith in
    subst (IsCharBoundary text) same (IsCharBoundary-after_ascii text (at + (size - 1)) utf8 (omega arith) small))
    cuts

-- a piece whose ends stand between characters
abbrev Bounded : List ℕ → Placed → Type 0
Bounded text p = IsCharBoundary text p.start × IsCharBoundary text (end_of p)

-- the first piece from a place on, and those behind it
bounded_step : (text : List ℕ) (at : ℕ) → IsUtf8 text → at < length text → IsCharBoundary text at → ((end : ℕ) → at < end → IsCharBoundary text end → All (Bounded text) (from_place text end)) → All (Bounded text) (from_place text at)
bounded_step text at utf8 inside start later =
    let here = piece_stands text at (first_piece (drop at text)) inside refl in
    let size : ℕ = (first_piece (drop at text)).size in
    let end : IsCharBoundary text (at + size) = cuts_boundary text at size utf8 (omega (arith, here.later)) here.within (first_piece_cuts (drop at text)) in
    let p : Placed = placed_piece (first_piece (drop at text)).kind text at (at + size) in
    subst (All (Bounded text)) (sym (from_place-piece (first_piece (drop at text)).kind text at (at + size) here.later here.within here.stands))
    (All-cons (Bounded text) p (from_place text (at + size)) (start, subst (IsCharBoundary text) (sym (end_of-placed_piece (first_piece (drop at text)).kind text at (at + size) here.later here.within)) end) (later (at + size) here.later end))

each_bounded : (count : ℕ) (text : List ℕ) (at : ℕ) → IsUtf8 text → length text ≤ at + count → IsCharBoundary text at → All (Bounded text) (from_place text at)
each_bounded zero text at utf8 few start = subst (All (Bounded text)) (sym (from_place-end text at (omega arith))) (All-nil (Bounded text))
each_bounded (suc count) text at utf8 few start =
    ⊎_elim (λ inside. bounded_step text at utf8 inside start (λ end behind next. each_bounded count text end utf8 (omega arith) next)) (λ past. subst (All (Bounded text)) (sym (from_place-end text at past)) (All-nil (Bounded text))) (cases_lt at (length text))

abbrev OpenBounded : List ℕ → Option Span → Type 0
OpenBounded text None = Unit {0}
OpenBounded text (Some span) = StandsBetween text span

closed_bounded : (text : List ℕ) (current : Option Span) → OpenBounded text current → All (StandsBetween text) (closed_span current)
closed_bounded text None bounded = All-nil (StandsBetween text)
closed_bounded text (Some span) bounded = All-cons (StandsBetween text) span [] bounded (All-nil (StandsBetween text))

grown_bounded : (text : List ℕ) (current : Option Span) (p : Placed) → OpenBounded text current → Bounded text p → StandsBetween text (grown current p.start (end_of p))
grown_bounded text None p bounded here = here
grown_bounded text (Some span) p bounded here = (bounded.0, here.1)

spans_step : (r : Role) (text : List ℕ) (p : Placed) (ps : List Placed) (current : Option Span) → role_of (kind_of p) ≡ r → Bounded text p → OpenBounded text current → ((next : Option Span) → OpenBounded text next → All (StandsBetween text) (spans_from next ps)) → All (StandsBetween text) (spans_from current (p ∷ ps))
spans_step role.Skipped text p ps current is here bounded later = subst (All (StandsBetween text)) (sym (spans-skipped current p ps is)) (later current bounded)
spans_step role.Cuts text p ps current is here bounded later = subst (All (StandsBetween text)) (sym (spans-cuts current p ps is)) (All-append (StandsBetween text) (closed_span current) (spans_from None ps) (closed_bounded text current bounded) (later None tt))
spans_step role.Stands text p ps current is here bounded later = subst (All (StandsBetween text)) (sym (spans-stands current p ps is)) (later (Some (grown current p.start (end_of p))) (grown_bounded text current p bounded here))

spans_bounded : (text : List ℕ) (ps : List Placed) (current : Option Span) → All (Bounded text) ps → OpenBounded text current → All (StandsBetween text) (spans_from current ps)
spans_bounded text [] current all bounded = subst (All (StandsBetween text)) (sym (spans-end current)) (closed_bounded text current bounded)
spans_bounded text (p ∷ ps) current all bounded = spans_step (role_of (kind_of p)) text p ps current refl (All-head (Bounded text) p ps all) bounded (λ next within. spans_bounded text ps next (All-tail (Bounded text) p ps all) within)

-- each span of a text begins and ends between characters
pub spans_of-between : (sql : List ℕ) → IsUtf8 sql → All (StandsBetween sql) (spans_of sql)
spans_of-between sql utf8 = subst (All (StandsBetween sql)) (sym (spans_of-start sql)) (spans_bounded sql (from_place sql 0) None (each_bounded (length sql) sql 0 utf8 (omega arith) (IsCharBoundary-start sql utf8)) tt)

use Rattle.std.proofs.Common.{◌≡◌, refl, ℕ, List, length, IsUtf8, ◌∷◌, ◌++◌, ◌≤◌, [], ap, sym, ◌∙◌, arith, subst, drop, append-nil}
use Rattle.std.specs.Prelude.{slice_range}
use Rattle.std.specs.Str.{IsCharBoundary}
use Rattle.std.proofs.lemmas.Str.{IsCharBoundary-start}
use Rattle.sql_text.specs.Pieces.{pieces, token as piece}
use Rattle.sql_text.specs.Parameters.{Numbered}
use Rattle.sql_text.specs.declared.pieces.PieceKind.{PieceKind}
use Rattle.keeper_dialect.specs.Tokens.{tokens_from, tokens_of, end_token, views}
use Rattle.keeper_dialect.proofs.TokenLemmas.{tokens_from-passed, tokens_from-taken, tokens_from-end, more_views}
use Rattle.keeper_dialect.specs.declared.tokens.Token.{Token as HeldToken}
use Rattle.keeper_dialect.proofs.tokens.tokens_of.Goals as goal
use Rattle.keeper_dialect.proofs.tokens.tokens_of.Goals.{After-is_passed}

-- what the piece at this place says of the text
record Here (sql : List ℕ) (at end : ℕ) (k : PieceKind) : Type 0 where
  within : end ≤ length sql
  stands : pieces (drop at sql) ≡ piece k (slice_range sql at end) ∷ pieces (drop end sql)
  between : IsUtf8 sql → IsCharBoundary sql at → IsCharBoundary sql end

here : (sql text : List ℕ) (at end : ℕ) (k : PieceKind) → text ≡ sql → end ≤ length text → pieces (drop at text) ≡ piece k (slice_range text at end) ∷ pieces (drop end text) → (IsUtf8 text → IsCharBoundary text at → IsCharBoundary text end) → Here sql at end k
here sql text at end k same within stands between =
    subst (λ t. Here t at end k) same (record { within = within; stands = stands; between = between })

found : (c : After-is_passed) → Here c.args.sql.now c.loop-at.at c.piece_at-piece.result.end c.piece_at-piece.result.kind
found c = here c.args.sql.now c.as_bytes-text.result.now c.loop-at.at c.piece_at-piece.result.end c.piece_at-piece.result.kind c.loop-at.invariant.same c.piece_at-piece.ensures.within c.piece_at-piece.ensures.stands c.piece_at-piece.ensures.between

empty_views : (ts : List HeldToken) (ps : List Numbered) (sql : List ℕ) → ts ≡ [] → ps ≡ [] → views ts ++ tokens_from ps [] 0 (pieces sql) ≡ tokens_of sql
empty_views ts ps sql none unseen = (λ i. views (none i) ++ tokens_from (unseen i) [] 0 (pieces sql))

pub loop-at-init : goal.loop-at-init
loop-at-init c = record {
  read = empty_views c.new-tokens.result.items c.new-seen.result c.args.sql.now c.new-tokens.ensures.items c.new-seen.ensures;
  same = c.as_bytes-text.ensures.value;
  order = omega arith;
  within = omega arith;
  starts = IsCharBoundary-start c.args.sql.now c.utf8.sql;
  between = IsCharBoundary-start c.args.sql.now c.utf8.sql;
}

pub loop-at-preserved-in_ok-push : goal.loop-at-preserved-in_ok-push
loop-at-preserved-in_ok-push c =
    let h = found (goal.at.loop-at-preserved-in_ok-push c).After-is_passed in
    let end = h.between c.utf8.sql c.loop-at.invariant.between in
    let taken = tokens_from-taken c.loop-at.seen c.args.sql.now c.loop-at.from c.loop-at.at c.piece_at-piece.result.end c.piece_at-piece.result.kind _ _ h.stands (sym c.is_passed.ensures ∙ c.if-not-is_passed.true) c.piece_at-piece.ensures.later h.within in
    record {
      read = more_views c.loop-at.tokens.items c.in_ok-token.token c.push.new.self.items _ _ _ _ _ c.in_ok-push.ensures.items c.in_ok-token.ensures.token taken (ap (λ seen. tokens_from seen (slice_range c.args.sql.now c.piece_at-piece.result.end c.piece_at-piece.result.end) c.piece_at-piece.result.end (pieces (drop c.piece_at-piece.result.end c.args.sql.now))) c.in_ok-token.ensures.seen) c.loop-at.invariant.read;
      same = c.loop-at.invariant.same;
      order = omega arith;
      within = h.within;
      starts = end;
      between = end;
    }

pub loop-at-preserved : goal.loop-at-preserved
loop-at-preserved c =
    let h = found (goal.at.loop-at-preserved c).After-is_passed in
    record {
      read = ap (λ ts. views c.loop-at.tokens.items ++ ts) (sym (tokens_from-passed c.loop-at.seen c.args.sql.now c.loop-at.from c.loop-at.at c.piece_at-piece.result.end c.piece_at-piece.result.kind _ _ h.stands (sym c.is_passed.ensures ∙ c.if-not-is_passed.false) c.loop-at.invariant.order c.piece_at-piece.ensures.later h.within)) ∙ c.loop-at.invariant.read;
      same = c.loop-at.invariant.same;
      order = omega (arith, c.piece_at-piece.ensures.later);
      within = h.within;
      starts = c.loop-at.invariant.starts;
      between = h.between c.utf8.sql c.loop-at.invariant.between;
    }

pub returns : goal.returns
returns c =
    let past : length c.args.sql.now ≤ c.loop-at.at = omega (arith, ap length c.loop-at.invariant.same, c.loop-at-test.false) in
    let last = tokens_from-end c.loop-at.seen (slice_range c.args.sql.now c.loop-at.from c.loop-at.at) c.args.sql.now c.loop-at.at past in
    sym (append-nil (views c.push-2.new.self.items)) ∙ more_views c.loop-at.tokens.items _ c.push-2.new.self.items _ _ [] [] _ c.in_ok-push-2.ensures.items (ap (λ before. end_token before c.loop-at.at) c.range.ensures.value) last refl c.loop-at.invariant.read

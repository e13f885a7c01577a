use Rattle.std.proofs.Common.{arith, ap, ◌∙◌, length, refl}
use Rattle.engine_core.specs.Bytes.{lines_of}
use Rattle.hrana_serve.specs.Lines.{lines_left, left_measure}
use Rattle.hrana_serve.proofs.DrawLemmas.{draws_none, draws_as, draws_then}
use Rattle.hrana_serve.proofs.NoteLemmas.{adds_then, adds_as, adds_none}
use Rattle.hrana_serve.proofs.ReplayLemmas.{playing_none, playing_blank, playing_more, ends_done, ends_at, run_token, plays_token}
use Rattle.hrana_serve.proofs.LineLemmas.{IsNextLine, next_of, shorter_left, line_more, line_left, line_next, line_count, line_blank, all_lines}
use Rattle.hrana_serve.proofs.replay.play_lines.Goals as goal

pub loop-left-init : goal.loop-left-init
loop-left-init g c = record {
  adds = draws_none _ _ _ _ (adds_none _ _ _ _ _ _ _ _ _ _ (playing_none _ _ (g.O.Sink.written c.args.sink.now) c.args.hub.now.state c.requires.fresh));
  agrees = c.requires.agrees;
  token = refl;
  saved = c.requires.saved;
  rest = refl;
  fewer = omega arith;
  few = omega arith;
  later = omega arith;
  sink_later = omega arith;
}

pub loop-left-preserved-then-is_empty : goal.loop-left-preserved-then-is_empty
loop-left-preserved-then-is_empty g c =
    let i = c.loop-left.invariant in
    let next : IsNextLine (lines_of c.args.script.now) c.loop-left.at c.next_line.result.0.now (lines_left c.next_line.result.1) =
    next_of _ _ c.loop-left.left c.in-Some.bytes _ c.next_line.result.1 i.rest c.in-Some.is c.next_line.ensures.lines in
    record {
      adds = draws_as _ _ _ _ _ _ i.adds (λ draws a. adds_as _ _ _ _ _ _ _ _ _ _ _ _ _ _ a (λ x p. rw (line_blank next (rw (← c.is_empty.ensures) c.if-is_empty.true)) (playing_blank _ _ (g.O.Sink.written c.args.sink.now) _ _ _ _ draws x p)));
      agrees = i.agrees;
      token = i.token;
      saved = i.saved;
      rest = line_left next;
      fewer = omega (arith, ap left_measure c.in-Some.is, shorter_left c.next_line.result.1 (length c.in-Some.bytes.now) c.next_line.ensures.shorter);
      few = omega arith;
      later = i.later;
      sink_later = i.sink_later;
    }

pub loop-left-preserved : goal.loop-left-preserved
loop-left-preserved g c =
    let i = c.loop-left.invariant in
    let e = c.in-Played.ensures in
    let next : IsNextLine (lines_of c.args.script.now) c.loop-left.at c.next_line.result.0.now (lines_left c.next_line.result.1) =
    next_of _ _ c.loop-left.left c.in-Some.bytes _ c.next_line.result.1 i.rest c.in-Some.is c.next_line.ensures.lines in
    record {
      adds = draws_then _ _ _ _ _ _ _ _ i.adds e.adds (λ k d a b. adds_then _ _ _ _ _ _ _ _ _ _ _ _ _ _ _ _ _ _ a b
          (λ x y p q left. rw (line_more next) (playing_more _ _ (g.O.Sink.written c.args.sink.now) _ _ _ _ _ _ _ k d x y p (run_token _ _ _ _ _ _ _ _ _ i.token q))));
      agrees = e.agrees;
      token = e.token ∙ i.token;
      saved = e.saved refl;
      rest = line_left next;
      fewer = omega (arith, ap left_measure c.in-Some.is, shorter_left c.next_line.result.1 (length c.in-Some.bytes.now) c.next_line.ensures.shorter);
      few = omega arith;
      later = omega (arith, e.later, i.later);
      sink_later = omega (arith, e.sink_later, i.sink_later);
    }

pub returns-in_default-play_line-clause-adds : goal.returns-in_default-play_line-clause-adds
returns-in_default-play_line-clause-adds g c =
    let i = c.loop-left.invariant in
    let e = c.play_line.ensures in
    let next : IsNextLine (lines_of c.args.script.now) c.loop-left.at c.next_line.result.0.now (lines_left c.next_line.result.1) =
    next_of _ _ c.loop-left.left c.in-Some.bytes _ c.next_line.result.1 i.rest c.in-Some.is c.next_line.ensures.lines in
    rw (c.halt_at.ensures.status, c.halt_at.ensures.events) (draws_then _ _ _ _ _ _ _ _ i.adds e.adds (λ k d a b. adds_then _ _ _ _ _ _ _ _ _ _ _ _ _ _ _ _ _ _ a b
    (λ x y p q left. ends_at _ _ (g.O.Sink.written c.args.sink.now) _ _ _ _ _ _ _ _ _ _ k d x y (line_next next) p _ c.in_default-play_line.not-Played (line_count next) e.saved (rw i.saved at left) (plays_token _ _ _ _ _ _ _ _ _ _ _ i.token q))))

-- no line is left
pub returns-clause-adds : goal.returns-clause-adds
returns-clause-adds g c = let i = c.loop-left.invariant in
    draws_as _ _ _ _ _ _ i.adds (λ draws a. adds_as _ _ _ _ _ _ _ _ _ _ _ _ _ _ a
    (λ x p. ends_done _ _ (g.O.Sink.written c.args.sink.now) _ (lines_of c.args.script.now) _ _ _ _ draws x (all_lines (lines_of c.args.script.now) c.loop-left.at (i.rest ∙ ap lines_left c.in_default.is)) i.saved p))

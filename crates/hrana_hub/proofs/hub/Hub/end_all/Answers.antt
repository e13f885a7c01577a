use Rattle.std.proofs.Common.{◌≡◌, ◌≤◌, ◌++◌, ◌∙◌, refl, sym, ap, arith, drop, length, append-nil}
use Rattle.std.proofs.lemmas.List.{drop-drop, at_drop_all}
use Rattle.hrana_hub.specs.Ended.{all_ends}
use Rattle.hrana_hub.specs.State.{State, Seen}
use Rattle.hrana_hub.specs.Polled.{with_streams}
use Rattle.hrana_hub.proofs.Adding.{alike, adds_none, adds_on, adds_as}
use Rattle.hrana_hub.proofs.Ending.{ends_on}
use Rattle.hrana_hub.proofs.hub.Hub.end_all.Goals as goal

pub loop-preserved : goal.loop-preserved
loop-preserved g c =
    let all = c.args.self.now.state.streams in
    let es = c.loop.self.state.streams in
    let rest : c.end_first.new.self.state.streams ≡ drop 1 es = ap (λ (s : State). s.streams) c.end_first.ensures.state in
    record {
      adds = adds_on _ _ _ c.args.self.now c.loop.self c.end_first.new.self _ _ (λ added. all_ends c.args.why all ≡ added ++ all_ends c.args.why c.end_first.new.self.state.streams)
          c.loop.invariant.later c.end_first.ensures.later c.loop.invariant.adds c.end_first.ensures.adds
          (λ done one e f. ends_on c.args.why _ done one es e f ∙ ap (λ l. (done ++ one) ++ all_ends c.args.why l) (sym rest));
      left = rest ∙ ap (drop 1) c.loop.invariant.left ∙ drop-drop 1 c.loop.counter all;
      last = c.loop.invariant.last;
      state = c.end_first.ensures.state ∙ ap (with_streams (drop 1 es)) c.loop.invariant.state ∙ ap (λ l. with_streams l c.args.self.now.state) (sym rest);
      agrees = c.end_first.ensures.agrees;
      token = c.end_first.ensures.token ∙ c.loop.invariant.token;
      later = omega (arith, c.loop.invariant.later, c.end_first.ensures.later);
    }

pub loop-init : goal.loop-init
loop-init g c = record {
  adds = adds_none _ c.args.self.now c.args.self.now _ refl (alike c.args.self.now c.args.self.now refl refl refl) refl;
  left = refl;
  last = c.len-end.ensures.len ∙ ap (λ (h : Seen). length h.state.streams) c.self.view_is;
  state = refl;
  agrees = c.requires;
  token = refl;
  later = omega arith;
}

pub returns-clause-adds : goal.returns-clause-adds
returns-clause-adds g c =
    let why = c.args.why in
    let all = c.args.self.now.state.streams in
    let past : length all ≤ c.loop.counter = omega (arith, c.loop-test.false, c.loop.invariant.last) in
    let none = ap (all_ends why) c.loop.invariant.left ∙ at_drop_all (all_ends why) all c.loop.counter past in
    adds_as _ _ c.args.self.now c.loop.self _ (λ added. added ≡ all_ends why all) (λ added e. sym (e ∙ ap (λ l. added ++ l) none ∙ append-nil added)) c.loop.invariant.adds

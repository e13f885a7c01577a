use Rattle.std.proofs.Common.{◌≡◌, ◌++◌, ◌∙◌, refl, sym, ap, subst, arith, append-nil}
use Rattle.hrana_hub.specs.Maps.{left_at, those_left}
use Rattle.hrana_hub.specs.Moments.{left_of, after, first_due, expiries}
use Rattle.hrana_hub.specs.State.{State, Seen}
use Rattle.hrana_hub.specs.Polled.{with_streams}
use Rattle.hrana_hub.proofs.Adding.{alike, adds_none, adds_on, adds_as}
use Rattle.hrana_hub.proofs.Expiring.{NoneBelow, due_count, found, found_known, Left, left_as, count_found, below_found, expiries_on, those_on, all_quiet, quiet_expiries, quiet_left, none_below_first, silent_first, silent_on, expire_frees}
use Rattle.hrana_hub.proofs.Polling.{is_known}
use Rattle.hrana_hub.proofs.hub.Hub.expire_due.Goals as goal

pub loop-stream-init : goal.loop-stream-init
loop-stream-init g c = record {
  adds = adds_none _ c.args.self.now c.args.self.now _ refl (alike c.args.self.now c.args.self.now refl refl refl) refl;
  left = refl;
  below = none_below_first c.args.moment c.args.self.now.state.streams;
  silent = silent_first c.args.moment c.args.self.now;
  state = refl;
  agrees = c.requires;
  token = refl;
  later = omega arith;
}

pub loop-stream-preserved : goal.loop-stream-preserved
loop-stream-preserved g c =
    let i = c.loop-stream.invariant in
    let moment = c.args.moment in
    let all = c.args.self.now.state.streams in
    let es = c.loop-stream.self.state.streams in
    let n = c.in-Some.stream in
    let f = found moment c.loop-stream.from n es i.agrees.numbers.rising i.below (ap (λ (h : Seen). first_due moment c.loop-stream.from h.state.streams) (sym c.self.view_is) ∙ sym c.in-Some.ensures) in
    let x = found_known moment n f in
    let state = c.expire.ensures.state x.0 x.1 in
    let o = left_of x.0 in
    let left : Left moment n x.0 o = left_as moment n x.0 in
    let rest : c.expire.new.self.state.streams ≡ left_at n o es = ap (λ (s : State). s.streams) state in
    record {
      adds = adds_on _ _ _ c.args.self.now c.loop-stream.self c.expire.new.self _ _ (λ added. expiries moment all ≡ added ++ expiries moment c.expire.new.self.state.streams)
          i.later c.expire.ensures.later i.adds c.expire.ensures.adds
          (λ done one e ends. expiries_on moment n x.0 o left _ done one es f x.1 e ends ∙ ap (λ l. (done ++ one) ++ expiries moment l) (sym rest));
      left = those_on moment n x.0 o left _ es refl f x.1 i.left ∙ ap (those_left (after moment)) (sym rest);
      below = subst (NoneBelow moment n) (sym rest) (below_found moment n x.0 o left f);
      silent = silent_on moment n x.0 o c.args.self.now c.loop-stream.self c.expire.new.self i.agrees.numbers.rising x.1 rest (c.expire.ensures.table (is_known _ _ x.1)).waits c.expire.ensures.others i.silent;
      state = state ∙ ap (with_streams (left_at n o es)) i.state ∙ ap (λ l. with_streams l c.args.self.now.state) (sym rest);
      agrees = c.expire.ensures.agrees;
      token = c.expire.ensures.token ∙ i.token;
      later = omega (arith, i.later, c.expire.ensures.later);
    }

pub loop-stream-smaller : goal.loop-stream-smaller
loop-stream-smaller g c =
    let i = c.loop-stream.invariant in
    let moment = c.args.moment in
    let n = c.in-Some.stream in
    let f = found moment c.loop-stream.from n c.loop-stream.self.state.streams i.agrees.numbers.rising i.below (ap (λ (h : Seen). first_due moment c.loop-stream.from h.state.streams) (sym c.self.view_is) ∙ sym c.in-Some.ensures) in
    let x = found_known moment n f in
    let rest = ap (λ (s : State). due_count moment s.streams) (c.expire.ensures.state x.0 x.1) in
    omega (arith, rest, count_found moment n x.0 (left_of x.0) (left_as moment n x.0) f)

pub returns-clause-adds : goal.returns-clause-adds
returns-clause-adds g c =
    let i = c.loop-stream.invariant in
    let moment = c.args.moment in
    let es = c.loop-stream.self.state.streams in
    let quiet = all_quiet moment c.loop-stream.from es i.below (ap (λ (h : Seen). first_due c.args.moment c.loop-stream.from h.state.streams) (sym c.self.view_is) ∙ sym c.in_default.ensures) in
    adds_as _ _ c.args.self.now c.loop-stream.self _ (λ added. added ≡ expiries moment c.args.self.now.state.streams) (λ added e. sym (e ∙ ap (λ l. added ++ l) (quiet_expiries moment es quiet) ∙ append-nil added)) i.adds

pub returns-clause-state : goal.returns-clause-state
returns-clause-state g c =
    let i = c.loop-stream.invariant in
    let quiet = all_quiet c.args.moment c.loop-stream.from c.loop-stream.self.state.streams i.below (ap (λ (h : Seen). first_due c.args.moment c.loop-stream.from h.state.streams) (sym c.self.view_is) ∙ sym c.in_default.ensures) in
    i.state ∙ ap (λ l. with_streams l c.args.self.now.state) (sym (i.left ∙ quiet_left c.args.moment c.loop-stream.self.state.streams quiet))

pub returns-clause-freed : goal.returns-clause-freed
returns-clause-freed g c =
    let i = c.loop-stream.invariant in
    let quiet = all_quiet c.args.moment c.loop-stream.from c.loop-stream.self.state.streams i.below (ap (λ (h : Seen). first_due c.args.moment c.loop-stream.from h.state.streams) (sym c.self.view_is) ∙ sym c.in_default.ensures) in
    expire_frees _ _ _ _ c.args.moment c.args.self.now c.loop-stream.self c.requires.numbers.rising i.agrees quiet (sym (i.left ∙ quiet_left c.args.moment c.loop-stream.self.state.streams quiet)) i.silent

use Rattle.std.proofs.Common.{◌≡◌, ◌++◌, ◌+◌, ◌∙◌, refl, sym, ap, arith, get_or, drop, append-nil}
use Rattle.std.proofs.lemmas.List.{at_drop_all}
use Rattle.hrana_hub.specs.Maps.{without}
use Rattle.hrana_hub.specs.Ended.{ends_of}
use Rattle.hrana_hub.specs.State.{State}
use Rattle.hrana_hub.specs.Polled.{with_streams}
use Rattle.hrana_hub.proofs.Adding.{alike, adds_none, adds_on, adds_as}
use Rattle.hrana_hub.proofs.Ending.{ends_more, gone_more}
use Rattle.hrana_hub.proofs.hub.Hub.end_streams.Goals as goal

pub loop-stream-preserved : goal.loop-stream-preserved
loop-stream-preserved g c =
    let i = c.loop-stream.stream-index in
    let numbers = c.args.streams.now in
    let rest : c.end_stream.new.self.state.streams ≡ without (get_or numbers i 0) c.loop-stream.self.state.streams = ap (λ (s : State). s.streams) c.end_stream.ensures.state in
    record {
      adds = adds_on _ _ _ c.args.self.now c.loop-stream.self c.end_stream.new.self _ _ (λ added. ends_of c.args.why numbers c.args.self.now.state.streams ≡ added ++ ends_of c.args.why (drop (i + 1) numbers) c.end_stream.new.self.state.streams)
          c.loop-stream.invariant.later c.end_stream.ensures.later c.loop-stream.invariant.adds c.end_stream.ensures.adds
          (λ done one e f. ends_more c.args.why numbers i _ done one c.loop-stream.self.state.streams c.end_stream.new.self.state.streams c.loop-stream-test.true rest e f);
      left = gone_more numbers i _ c.loop-stream.self.state.streams c.end_stream.new.self.state.streams c.loop-stream-test.true rest c.loop-stream.invariant.left;
      state = c.end_stream.ensures.state ∙ ap (with_streams (without (get_or numbers i 0) c.loop-stream.self.state.streams)) c.loop-stream.invariant.state ∙ ap (λ es. with_streams es c.args.self.now.state) (sym rest);
      agrees = c.end_stream.ensures.agrees;
      token = c.end_stream.ensures.token ∙ c.loop-stream.invariant.token;
      later = omega (arith, c.loop-stream.invariant.later, c.end_stream.ensures.later);
    }

pub loop-stream-init : goal.loop-stream-init
loop-stream-init g c = record {
  adds = adds_none _ c.args.self.now c.args.self.now _ refl (alike c.args.self.now c.args.self.now refl refl refl) refl;
  left = refl;
  state = refl;
  agrees = c.requires;
  token = refl;
  later = omega arith;
}

pub returns-clause-adds : goal.returns-clause-adds
returns-clause-adds g c =
    let why = c.args.why in
    let numbers = c.args.streams.now in
    let none = at_drop_all (λ ns. ends_of why ns c.loop-stream.self.state.streams) numbers c.loop-stream.stream-index c.loop-stream-test.false in
    adds_as _ _ c.args.self.now c.loop-stream.self _ (λ added. added ≡ ends_of why numbers c.args.self.now.state.streams) (λ added e. sym (e ∙ ap (λ l. added ++ l) none ∙ append-nil added)) c.loop-stream.invariant.adds

use Rattle.std.proofs.Common.{refl, sym, ap, is_some}
use Rattle.hrana_hub.specs.Maps.{at}
use Rattle.engine_core.specs.Noted.{Noted}
use Rattle.hrana_hub.proofs.Adding.{alike, adds_none}
use Rattle.hrana_hub.proofs.Polling.{some_of}
use Rattle.hrana_hub.proofs.Tied.{tied_has_place, tied_has_none, rests_awaits_none}
use Rattle.hrana_hub.proofs.ExchangePolling.{hands_agree, hands_alike, hands_concludes, err_concludes}
use Rattle.hrana_hub.proofs.hub.Hub.conclude.Goals as goal

pub returns-in_err-answer-clause-adds : goal.returns-in_err-answer-clause-adds
returns-in_err-answer-clause-adds g c = adds_none _ c.args.self.now c.args.self.now _ refl (alike c.args.self.now c.args.self.now refl refl refl) (λ x known. err_concludes c.args.stream x c.args.running c.args.self.now.state c.from_residual.result c.from_residual.ensures.0)

pub returns-in_err-answer-2-clause-adds : goal.returns-in_err-answer-2-clause-adds
returns-in_err-answer-2-clause-adds g c = adds_none _ c.args.self.now c.args.self.now _ refl (alike c.args.self.now c.args.self.now refl refl refl) (λ x known. err_concludes c.args.stream x c.args.running c.args.self.now.state c.from_residual-in_err-answer-2.result c.from_residual-in_err-answer-2.ensures.0)

pub hand_out-requires-clause-place : goal.hand_out-requires-clause-place
hand_out-requires-clause-place g c =
    let h = c.args.self.now in
    let x = some_of (at c.args.stream h.state.streams) c.requires.stream in
    tied_has_place c.args.stream x.0 h.state.streams h.store x.1 (ap is_some (c.requires.rests x.0 x.1)) (c.requires.agrees.tied c.requires.running)

pub hand_out-requires-clause-none : goal.hand_out-requires-clause-none
hand_out-requires-clause-none g c =
    let h = c.args.self.now in
    let x = some_of (at c.args.stream h.state.streams) c.requires.stream in
    tied_has_none c.args.stream x.0 h.state.streams h.store x.1 (rests_awaits_none x.0.session (c.requires.rests x.0 x.1)) (c.requires.agrees.tied c.requires.running)

pub returns-clause-adds : goal.returns-clause-adds
returns-clause-adds g c =
    let h = c.args.self.now in
    let x = some_of (at c.args.stream h.state.streams) c.requires.stream in
    let hands = c.hand_out.ensures.hub x.0 x.1 in
    adds_none _ h c.hand_out.new.self _ (ap (λ (m : Noted). m.list) hands.noted) (hands_alike c.args.stream c.args.running.conn c.args.running.words x.0 h c.hand_out.new.self x.1 hands)
    (λ y known. hands_concludes c.args.stream y c.args.running h c.hand_out.new.self c.hand_out.result (sym (c.if-is_shut.ensures y known)) (c.hand_out.ensures.given c.args.running.exchange.results c.args.running.close c.in_ok-answer-2.ensures) (c.hand_out.ensures.hub y known))

pub returns-clause-agrees : goal.returns-clause-agrees
returns-clause-agrees g c =
    let h = c.args.self.now in
    let x = some_of (at c.args.stream h.state.streams) c.requires.stream in
    hands_agree _ _ _ _ c.args.stream c.args.running.conn c.args.running.words x.0 h c.hand_out.new.self c.requires.agrees c.requires.issues x.1 (c.requires.rests x.0 x.1) (c.hand_out.ensures.hub x.0 x.1)

pub returns-clause-token : goal.returns-clause-token
returns-clause-token g c =
    let x = some_of (at c.args.stream c.args.self.now.state.streams) c.requires.stream in
    (c.hand_out.ensures.hub x.0 x.1).token

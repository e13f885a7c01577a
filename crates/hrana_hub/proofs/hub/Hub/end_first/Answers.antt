use Rattle.std.proofs.Common.{◌≡◌, ◌∙◌, Some, [], refl, sym, ap, take, drop}
use Rattle.hrana_hub.specs.Ended.{all_ends}
use Rattle.hrana_hub.specs.Maps.{first_number}
use Rattle.hrana_hub.specs.Polled.{with_streams}
use Rattle.hrana_hub.specs.State.{Seen}
use Rattle.hrana_hub.proofs.Adding.{alike, adds_none, adds_as}
use Rattle.hrana_hub.proofs.Ending.{end_of_first, without_lowest, none_first}
use Rattle.hrana_hub.proofs.hub.Hub.end_first.Given as given
use Rattle.hrana_hub.proofs.hub.Hub.end_first.Goals as goal

first : (g : given.Over) (c : goal.After-end_stream g) → first_number c.args.self.now.state.streams ≡ Some c.in-Some.stream
first g c = ap (λ (h : Seen). first_number h.state.streams) (sym c.self.view_is) ∙ sym c.first.ensures ∙ c.in-Some.is

pub returns-in-Some-clause-adds : goal.returns-in-Some-clause-adds
returns-in-Some-clause-adds g c = adds_as c.args.engine.now c.end_stream.new.engine c.args.self.now c.end_stream.new.self _ (λ added. added ≡ all_ends c.args.why (take 1 c.args.self.now.state.streams))
    (λ added e. e ∙ end_of_first c.args.why c.in-Some.stream c.args.self.now.state.streams (first g c)) c.end_stream.ensures.adds

pub returns-in-Some-clause-state : goal.returns-in-Some-clause-state
returns-in-Some-clause-state g c = c.end_stream.ensures.state ∙ ap (λ l. with_streams l c.args.self.now.state) (without_lowest c.in-Some.stream c.args.self.now.state.streams (first g c))

none : (g : given.Over) (c : goal.In_default g) → c.args.self.now.state.streams ≡ []
none g c = none_first c.args.self.now.state.streams (ap (λ (h : Seen). first_number h.state.streams) (sym c.self.view_is) ∙ sym c.first.ensures ∙ c.in_default.is)

pub returns-in_default-clause-adds : goal.returns-in_default-clause-adds
returns-in_default-clause-adds g c =
    let h = c.args.self.now in
    adds_none c.args.engine.now h h _ refl (alike h h refl refl refl) (sym (ap (λ l. all_ends c.args.why (take 1 l)) (none g c)))

pub returns-in_default-clause-state : goal.returns-in_default-clause-state
returns-in_default-clause-state g c = (let h = c.args.self.now in ap (λ l. with_streams l h.state) (none g c ∙ sym (ap (drop 1) (none g c))))

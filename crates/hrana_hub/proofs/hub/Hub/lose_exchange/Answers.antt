use Rattle.std.proofs.Common.{◌≡◌, ◌∙◌, Some, refl, sym, ap, subst, nat_cmp}
use Rattle.std.specs.List.Sorted.{IsStrictlySortedBy}
use Rattle.std.specs.Map.{keys_of}
use Rattle.engine_core.specs.declared.entries.Undo.TheVariants as undo
use Rattle.hrana_hub.specs.Adds.{Adds}
use Rattle.hrana_hub.specs.Ended.{end_of, FreesExchange}
use Rattle.hrana_hub.specs.Maps.{at}
use Rattle.hrana_hub.specs.State.{State, Seen}
use Rattle.hrana_hub.specs.Step.{ExchangeLost}
use Rattle.hrana_hub.specs.contracts.hub.Hub.{the_view}
use Rattle.hrana_hub.proofs.Adding.{alike, adds_none, adds_from}
use Rattle.hrana_hub.proofs.Ending.{exchange_unknown, exchange_lost, exchange_left, gone}
use Rattle.hrana_hub.proofs.EntryLemmas.{at_without}
use Rattle.hrana_hub.proofs.hub.Hub.lose_exchange.Goals as goal

pub returns-in_default-clause-adds : goal.returns-in_default-clause-adds
returns-in_default-clause-adds g c =
    let old = the_view c.self.inside in
    let after : Seen = the_view (record c.self.inside { exchanges = c.remove.new.self }) in
    subst (λ h. Adds g.E.Engine.told g.E.Engine.SHARED g.E.Engine.meaning g.E.Engine.db g.E.Engine.live g.E.Engine.faults c.args.engine.now c.args.engine.now h after (λ added. ExchangeLost h.state c.args.conn (at c.args.conn h.state.exchanges) added c.nothing.result after.state)) c.self.view_is
    (adds_none c.args.engine.now old after _ refl (alike old after refl refl refl)
    (exchange_unknown old.state c.args.conn c.remove.new.self c.nothing.result (sym c.in_default.ensures.stream) c.remove.ensures.rest c.nothing.ensures))

pub returns-clause-adds : goal.returns-clause-adds
returns-clause-adds g c =
    let old = c.args.self.now in
    let mid : Seen = the_view (record c.self.inside { exchanges = c.remove.new.self }) in
    let streams = ap (λ (h : Seen). h.state.streams) c.self.view_is in
    let known : at c.args.conn old.state.exchanges ≡ Some c.in-Some.stream = ap (λ (h : Seen). at c.args.conn h.state.exchanges) (sym c.self.view_is) ∙ sym c.in-Some.ensures.stream in
    adds_from _ _ old mid c.end_stream.new.self _ _ (ap (λ (h : Seen). h.noted.list) c.self.view_is) (alike old mid streams (ap (λ (h : Seen). h.turns) c.self.view_is) (ap (λ (h : Seen). h.noted.next) c.self.view_is))
    (λ added ends. exchange_lost old.state c.args.conn c.in-Some.stream added c.nothing-2.result c.end_stream.new.self.state known (ends ∙ ap (λ es. end_of undo.Lost (at c.in-Some.stream es)) streams) c.nothing-2.ensures
    (exchange_left c.args.conn c.in-Some.stream c.remove.new.self (the_view c.self.inside) old c.end_stream.new.self.state c.self.view_is c.remove.ensures.rest c.end_stream.ensures.state)) c.end_stream.ensures.adds

pub returns-clause-freed : goal.returns-clause-freed
returns-clause-freed g c =
    let new = c.end_stream.new.self in
    let known : at c.args.conn c.args.self.now.state.exchanges ≡ Some c.in-Some.stream = ap (λ (h : Seen). at c.args.conn h.state.exchanges) (sym c.self.view_is) ∙ sym c.in-Some.ensures.stream in
    subst (λ o. FreesExchange c.args.conn o new) (sym known) (
      ap (λ (s : State). at c.args.conn s.exchanges) c.end_stream.ensures.state ∙ c.remove.ensures.gone,
      gone _ _ _ _ new c.in-Some.stream c.end_stream.ensures.agrees (ap (λ (s : State). at c.in-Some.stream s.streams) c.end_stream.ensures.state ∙ at_without c.in-Some.stream _ (subst (λ (h : Seen). IsStrictlySortedBy nat_cmp (keys_of h.state.streams)) (sym c.self.view_is) c.requires.numbers.rising)),
    )

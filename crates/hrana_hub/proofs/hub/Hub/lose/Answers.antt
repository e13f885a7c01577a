use Rattle.std.proofs.Common.{◌≡◌, ◌∙◌, None, Some, sym, ap, subst}
use Rattle.hrana_hub.specs.Maps.{at}
use Rattle.hrana_hub.specs.State.{State, Seen}
use Rattle.hrana_hub.specs.Ended.{ends_of, without_conn}
use Rattle.engine_core.specs.declared.entries.Undo.TheVariants as undo
use Rattle.hrana_hub.specs.Step.{LostAt, ExchangeLost}
use Rattle.hrana_hub.specs.contracts.hub.Hub.{the_view}
use Rattle.hrana_hub.proofs.Adding.{alike, adds_from}
use Rattle.hrana_hub.proofs.Ending.{lost_unknown, lost_known, lost_leaves, lost_frees}
use Rattle.hrana_hub.proofs.hub.Hub.lose.Given as given
use Rattle.hrana_hub.proofs.hub.Hub.lose.Goals as goal

pub returns-in_default-clause-adds : goal.returns-in_default-clause-adds
returns-in_default-clause-adds g c =
    let old = c.args.self.now in
    let mid : Seen = the_view (record c.self.inside { conns = c.remove.new.self }) in
    let unknown : at c.args.conn c.self.inside.conns ≡ None = sym c.in_default.ensures.connection in
    let same : mid.state ≡ old.state = lost_unknown (the_view c.self.inside).state c.args.conn c.remove.new.self unknown c.remove.ensures.rest ∙ ap (λ (h : Seen). h.state) c.self.view_is in
    let none : at c.args.conn old.state.conns ≡ None = ap (λ (h : Seen). at c.args.conn h.state.conns) (sym c.self.view_is) ∙ unknown in
    adds_from _ _ old mid c.lose_exchange.new.self _ _ (ap (λ (h : Seen). h.noted.list) c.self.view_is) (alike old mid (ap (λ (s : State). s.streams) same) (ap (λ (h : Seen). h.turns) c.self.view_is) (ap (λ (h : Seen). h.noted.next) c.self.view_is))
    (λ added lost. subst (λ o. LostAt old.state c.args.conn o added c.lose_exchange.result c.lose_exchange.new.self.state) (sym none)
    (subst (λ s. ExchangeLost s c.args.conn (at c.args.conn s.exchanges) added c.lose_exchange.result c.lose_exchange.new.self.state) same lost)) c.lose_exchange.ensures.adds

known : (g : given.Over) (c : goal.After-drop-streams g) → at c.args.conn c.args.self.now.state.conns ≡ Some c.in-Some.known
known g c = ap (λ (h : Seen). at c.args.conn h.state.conns) (sym c.self.view_is) ∙ sym c.in-Some.ensures.connection

leaves : (g : given.Over) (c : goal.After-drop-streams g) → c.end_streams.new.self.state ≡ without_conn c.args.conn c.in-Some.known c.args.self.now.state
leaves g c =
    lost_leaves c.args.conn c.in-Some.known c.deref.result.now c.remove.new.self (the_view c.self.inside) c.args.self.now c.end_streams.new.self.state c.self.view_is (c.deref.ensures.value ∙ c.into_streams-streams.ensures) c.remove.ensures.rest c.end_streams.ensures.state

pub returns-clause-adds : goal.returns-clause-adds
returns-clause-adds g c =
    let old = c.args.self.now in
    let k = c.in-Some.known in
    let mid : Seen = the_view (record { alloc = c.self.inside.alloc; token = c.self.inside.token; conns = c.remove.new.self; streams = c.self.inside.streams; exchanges = c.self.inside.exchanges; issued = c.self.inside.issued; opened = c.self.inside.opened; events = c.self.inside.events; moment = c.self.inside.moment; stopped = c.self.inside.stopped; turns = c.self.inside.turns; store = c.self.inside.store; entries = c.self.inside.entries }) in
    let streams = ap (λ (h : Seen). h.state.streams) c.self.view_is in
    adds_from _ _ old mid c.end_streams.new.self _ _ (ap (λ (h : Seen). h.noted.list) c.self.view_is) (alike old mid streams (ap (λ (h : Seen). h.turns) c.self.view_is) (ap (λ (h : Seen). h.noted.next) c.self.view_is))
    (λ added ends. lost_known old.state c.args.conn k added _ c.end_streams.new.self.state (known g c) (ends ∙ ap (λ ns. ends_of undo.Lost ns mid.state.streams) (c.deref.ensures.value ∙ c.into_streams-streams.ensures) ∙ ap (ends_of undo.Lost k.streams) streams) c.nothing.ensures (leaves g c))
    c.end_streams.ensures.adds

pub returns-clause-freed : goal.returns-clause-freed
returns-clause-freed g c =
    lost_frees _ _ _ _ c.args.conn _ c.in-Some.known c.args.self.now.state.streams _ c.end_streams.new.self (known g c) c.requires.numbers.rising c.end_streams.ensures.agrees (ap (λ (s : State). s.streams) (leaves g c))
    (ap (λ (s : State). at c.args.conn s.conns) c.end_streams.ensures.state ∙ c.remove.ensures.gone)

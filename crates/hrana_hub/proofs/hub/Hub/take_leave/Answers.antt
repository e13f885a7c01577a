use Rattle.std.proofs.Common.{◌∙◌, ap}
use Rattle.engine_core.specs.declared.entries.Undo.TheVariants as undo
use Rattle.hrana_hub.specs.Ended.{end_of}
use Rattle.hrana_hub.specs.Maps.{at}
use Rattle.hrana_hub.specs.State.{Seen}
use Rattle.hrana_hub.specs.contracts.hub.Hub.{the_view}
use Rattle.hrana_hub.proofs.Adding.{alike, adds_until}
use Rattle.hrana_hub.proofs.Polling.{some_of}
use Rattle.hrana_hub.proofs.ExchangePolling.{shut_ends, leaves_left}
use Rattle.hrana_hub.proofs.hub.Hub.take_leave.Goals as goal

pub returns-clause-adds : goal.returns-clause-adds
returns-clause-adds g c =
    let old = c.args.self.now in
    let mid = c.end_stream.new.self in
    let new : Seen = the_view (record c.self.inside { exchanges = c.remove-stream.new.self }) in
    let x = some_of (at c.args.stream old.state.streams) c.requires.stream in
    let state = ap (λ (h : Seen). h.state) c.self.view_is ∙ c.end_stream.ensures.state in
    adds_until _ _ old mid new _ _ (ap (λ (h : Seen). h.noted.list) c.self.view_is) (alike mid new (ap (λ (h : Seen). h.state.streams) c.self.view_is) (ap (λ (h : Seen). h.turns) c.self.view_is) (ap (λ (h : Seen). h.noted.next) c.self.view_is))
    (λ added ends. (ends ∙ ap (end_of undo.Lost) x.1 ∙ shut_ends undo.Lost x.0.task.session.state (c.requires.shut x.0 x.1), leaves_left c.args.conn c.args.stream c.remove-stream.new.self (the_view c.self.inside).state old.state state c.remove-stream.ensures.rest))
    c.end_stream.ensures.adds

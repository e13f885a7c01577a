use Rattle.std.proofs.Common.{◌≡◌, ◌∙◌, List, Some, ap, subst}
use Rattle.engine_core.specs.declared.entries.Entry.{Entry}
use Rattle.hrana_hub.specs.Maps.{at}
use Rattle.hrana_hub.specs.State.{Conn, Stream, State, Seen}
use Rattle.hrana_hub.specs.Settled.{PollEnds, after_fall}
use Rattle.hrana_hub.proofs.Adding.{alike, adds_from}
use Rattle.hrana_hub.proofs.Agreeing.{places_agrees}
use Rattle.hrana_hub.proofs.Polling.{Known, both_known, falls_put, put_agrees, put_token, put_adds, early_fall}
use Rattle.hrana_hub.proofs.hub.Hub.poll_ready.Given as given
use Rattle.hrana_hub.proofs.hub.Hub.poll_ready.Goals as goal

known : (g : given.Over) (c : goal.After-fall g) → Known c.make_places.new.self c.args.stream c.args.conn
known g c =
    let before : Known c.args.self.now c.args.stream c.args.conn = both_known _ _ _ c.requires.connection c.requires.stream in
    record {
      conn = before.conn;
      stream = before.stream;
      conn_at = ap (λ (s : State). at c.args.conn s.conns) c.make_places.ensures.rest.state ∙ before.conn_at;
      stream_at = ap (λ (s : State). at c.args.stream s.streams) c.make_places.ensures.rest.state ∙ before.stream_at;
    }

pub returns-then-is_err-clause-adds : goal.returns-then-is_err-clause-adds
returns-then-is_err-clause-adds g c =
    let same = c.make_places.ensures.rest.state in
    let rest = c.make_places.ensures.rest in
    adds_from _ _ c.args.self.now c.make_places.new.self c.fall.new.self _ _ rest.list (alike c.args.self.now c.make_places.new.self (ap (λ (s : State). s.streams) same) rest.turns rest.next) (λ added told. told)
    (put_adds _ c.make_places.new.self c.fall.new.self c.args.stream c.args.conn _ (falls_put _ _ _ _ (known g c) c.fall.ensures.hub)
    (λ k x ek ex. early_fall g.E.Engine.SHARED c.args.self.now c.args.stream c.args.conn x k c.fall.result c.fall.new.self.state (c.streams_agree.ensures.turn _ _ _ _ _ c.requires.agrees.together) (c.requires.waits x ex) c.fall.ensures.given
    (ap (λ (h : Seen). h.state) (c.fall.ensures.hub k x (ap (λ (s : State). at c.args.conn s.conns) same ∙ ek) (ap (λ (s : State). at c.args.stream s.streams) same ∙ ex)) ∙ ap (after_fall c.args.stream c.args.conn k x) same)))

pub returns-then-is_err-clause-agrees : goal.returns-then-is_err-clause-agrees
returns-then-is_err-clause-agrees g c = put_agrees _ _ _ _ _ _ c.args.stream c.args.conn (falls_put _ _ _ _ (known g c) c.fall.ensures.hub) (places_agrees _ _ _ _ c.args.self.now c.make_places.new.self c.requires.agrees c.make_places.ensures.rest)

pub returns-then-is_err-clause-token : goal.returns-then-is_err-clause-token
returns-then-is_err-clause-token g c = put_token _ _ c.args.stream c.args.conn (falls_put _ _ _ _ (known g c) c.fall.ensures.hub) ∙ c.make_places.ensures.rest.token

pub returns-clause-adds : goal.returns-clause-adds
returns-clause-adds g c =
    let rest = c.make_places.ensures.rest in
    let told : State → List Entry → Type 0 = λ s added. (k : Conn) (x : Stream) → at c.args.conn s.conns ≡ Some k → at c.args.stream s.streams ≡ Some x → PollEnds g.E.Engine.SHARED s c.args.stream c.args.conn x k added c.poll_placed.result c.poll_placed.new.self.state in
    adds_from _ _ c.args.self.now c.make_places.new.self c.poll_placed.new.self (told c.make_places.new.self.state) (told c.args.self.now.state) rest.list (alike c.args.self.now c.make_places.new.self (ap (λ (s : State). s.streams) rest.state) rest.turns rest.next)
    (λ added h. subst (λ s. told s added) rest.state h) c.poll_placed.ensures.adds

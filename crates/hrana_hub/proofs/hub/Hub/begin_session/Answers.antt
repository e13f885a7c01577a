use Rattle.std.proofs.Common.{◌≡◌, Result, List, ℕ, nat_le, false, refl, sym, subst}
use Rattle.engine_core.specs.Draws.{draw_of, words}
use Rattle.engine_core.specs.declared.outside.Failed.{Failed}
use Rattle.pipeline_body.specs.Exchanges.{begins, asked_in}
use Rattle.hrana_hub.specs.declared.limits.TheConstants.{MAX_SESSIONS}
use Rattle.hrana_hub.specs.declared.sessions.Running.{Running as Exchange}
use Rattle.hrana_hub.specs.ExchangeArrived.{HasSession, Entered}
use Rattle.hrana_hub.specs.Exchanges.{GoesDrawn, sessions_in}
use Rattle.hrana_hub.specs.State.{Seen}
use Rattle.hrana_hub.specs.contracts.hub.Hub.{the_view}
use Rattle.hrana_hub.proofs.Entering.{draws_one}
use Rattle.hrana_hub.proofs.Starting.{is_made, few_sessions, session_place, session_begins, session_reached, session_goes, entered_by, undone_state, undone_enters, given_back, refused, opened_at, next_number, next_session}
use Rattle.hrana_hub.proofs.hub.Hub.begin_session.Goals as goal

pub returns-in_default-clause-drawn : goal.returns-in_default-clause-drawn
returns-in_default-clause-drawn g c =
    let old = c.args.self.now in
    let p = c.args.prepared in
    let undone = subst (λ (h : Seen). c.drop_session.new.self ≡ given_back (next_number h) c.make_session.new.self) c.self.view_is c.drop_session.ensures in
    let has : HasSession p.conn old c.make_session.new.self = c.in_ok-make_session.ensures.ok in
    draws_one _ _ _ _ _ c.words.result c.words.ensures.draw c.words.ensures.cause (λ body ready none. record {
      draw = draw_of c.words.result;
      one = refl;
      goes = subst (λ (r : Result (List ℕ) Failed). GoesDrawn (draw_of r) body p.conn p.close old.state c.answers_with-in_default.result c.drop_session.new.self.state) (sym c.in_default.is)
          (refused p.conn p.no_token body p.close old.state c.drop_session.new.self.state c.answers_with-in_default.result ready.no_token c.answers_with-in_default.ensures
          (undone_state p.conn old c.make_session.new.self c.drop_session.new.self c.requires.fresh has undone));
    })

pub returns-in_default-clause-entered : goal.returns-in_default-clause-entered
returns-in_default-clause-entered g c =
    let undone = subst (λ (h : Seen). c.drop_session.new.self ≡ given_back (next_number h) c.make_session.new.self) c.self.view_is c.drop_session.ensures in
    undone_enters c.args.prepared.conn c.args.self.now c.make_session.new.self c.drop_session.new.self c.requires.fresh c.in_ok-make_session.ensures.ok undone c.requires.store

pub start-requires-clause-place : goal.start-requires-clause-place
start-requires-clause-place g c =
    let conn = c.args.prepared.conn in
    let old = the_view c.self.inside in
    let mid = the_view c.self-2.inside in
    session_place conn old mid (is_made conn old c.args.self.now mid c.make_session.new.self c.self.view_is c.self-2.view_is c.requires.fresh c.requires.store c.in_ok-make_session.ensures.ok)

pub start-requires-clause-none : goal.start-requires-clause-none
start-requires-clause-none g c =
    let conn = c.args.prepared.conn in
    let old = the_view c.self.inside in
    let mid = the_view c.self-2.inside in
    (session_begins conn old mid (is_made conn old c.args.self.now mid c.make_session.new.self c.self.view_is c.self-2.view_is c.requires.fresh c.requires.store c.in_ok-make_session.ensures.ok)).none

pub returns-clause-drawn : goal.returns-clause-drawn
returns-clause-drawn g c =
    let p = c.args.prepared in
    let old = the_view c.self.inside in
    let mid = the_view c.self-2.inside in
    let made = is_made p.conn old c.args.self.now mid c.make_session.new.self c.self.view_is c.self-2.view_is c.requires.fresh c.requires.store c.in_ok-make_session.ensures.ok in
    let few : nat_le MAX_SESSIONS (sessions_in old.state.streams) ≡ false =
    few_sessions c.sessions.result (sessions_in old.state.streams) c.sessions.ensures c.if-sessions-ge-MAX_SESSIONS.false in
    draws_one _ _ _ _ _ c.words.result c.words.ensures.draw c.words.ensures.cause (λ body ready none. record {
      draw = draw_of c.words.result;
      one = refl;
      goes = subst (λ (r : Result (List ℕ) Failed). GoesDrawn (draw_of r) body p.conn p.close c.args.self.now.state c.start.result c.start.new.self.state) (sym c.in-Ok.is)
          (subst (λ (h : Seen). GoesDrawn (words c.in-Ok.words) body p.conn p.close h.state c.start.result c.start.new.self.state) c.self.view_is
          (session_goes p.conn old mid made body c.in-Ok.words p.close c.start.result c.start.new.self none few
          (c.start.ensures (next_session p.conn old) (begins body.asks) (asked_in body.asks) (session_begins p.conn old mid made).known ready.ready)));
    })

pub returns-clause-entered : goal.returns-clause-entered
returns-clause-entered g c =
    let p = c.args.prepared in
    let old = the_view c.self.inside in
    let n = next_number old in
    let mid = the_view c.self-2.inside in
    let x = next_session p.conn old in
    let body = c.requires.prepared.0 in
    let e : Exchange = record { conn = p.conn; words = c.in-Ok.words; close = p.close; exchange = begins body.asks } in
    let made = is_made p.conn old c.args.self.now mid c.make_session.new.self c.self.view_is c.self-2.view_is c.requires.fresh c.requires.store c.in_ok-make_session.ensures.ok in
    let it = session_begins p.conn old mid made in
    subst (λ (h : Seen). Entered h c.start.new.self) c.self.view_is
    (entered_by old (opened_at n mid) c.start.new.self n x (asked_in body.asks) e c.start.result (session_reached p.conn old mid made) it
    (c.start.ensures x (begins body.asks) (asked_in body.asks) it.known c.requires.prepared.1.ready))

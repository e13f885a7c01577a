use Rattle.std.proofs.Common.{◌≡◌, ◌∙◌, Result, List, ℕ, Some, refl, sym, ap, subst}
use Rattle.engine_core.specs.Draws.{draw_of, words}
use Rattle.engine_core.specs.declared.outside.Failed.{Failed}
use Rattle.pipeline_body.specs.Exchanges.{begins, asked_in}
use Rattle.hrana_hub.specs.declared.sessions.Running.{Running as Exchange}
use Rattle.hrana_hub.specs.ExchangeArrived.{StoreFits, Entered}
use Rattle.hrana_hub.specs.Exchanges.{GoesDrawn}
use Rattle.hrana_hub.specs.State.{Seen}
use Rattle.hrana_hub.specs.contracts.hub.Hub.{the_view}
use Rattle.hrana_hub.proofs.Entering.{draws_one}
use Rattle.hrana_hub.proofs.Starting.{continues, continues_goes, store_reached, entered_by, dead_goes, dead_enters, refused, with_store}
use Rattle.hrana_hub.proofs.hub.Hub.go_on.Goals as goal
use Rattle.hrana_hub.proofs.hub.Hub.go_on.Goals.{in-Answered-3, in-Waits-3}

pub returns-in_default-clause-drawn : goal.returns-in_default-clause-drawn
returns-in_default-clause-drawn g c =
    let p = c.args.prepared in
    let s = c.args.self.now.state in
    draws_one _ _ _ _ _ c.words.result c.words.ensures.draw c.words.ensures.cause (λ body ready some. record {
      draw = draw_of c.words.result;
      one = refl;
      goes = subst (λ (r : Result (List ℕ) Failed). GoesDrawn (draw_of r) body p.conn p.close s c.answers_with.result s) (sym c.in_default.is)
          (refused p.conn p.no_token body p.close s s c.answers_with.result ready.no_token c.answers_with.ensures refl);
    })

-- ---- the stream waits for it

pub returns-in-Live-clause-drawn : goal.returns-in-Live-clause-drawn
returns-in-Live-clause-drawn g c =
    let p = c.args.prepared in
    let old = the_view c.self.inside in
    let store = c.redeem.new.self in
    let text = c.as_str.result.now in
    let n = c.in-Live.stream.0 in
    let fits : StoreFits old = subst (λ (h : Seen). StoreFits h) (sym c.self.view_is) c.requires.store in
    let go = continues old store text fits n c.in-Live.ensures.answer c.in-Live.ensures.free in
    draws_one _ _ _ _ _ c.words.result c.words.ensures.draw c.words.ensures.cause (λ body ready some. record {
      draw = draw_of c.words.result;
      one = refl;
      goes = subst (λ (r : Result (List ℕ) Failed). GoesDrawn (draw_of r) body p.conn p.close c.args.self.now.state c.start.result c.start.new.self.state) (sym c.in-Ok.is)
          (subst (λ (h : Seen). GoesDrawn (words c.in-Ok.words) body p.conn p.close h.state c.start.result c.start.new.self.state) c.self.view_is
          (continues_goes old store text fits n p.conn body c.in-Ok.words p.close c.start.result c.start.new.self go (some ∙ ap (λ (t : List ℕ). Some t) (sym c.as_str.ensures))
          (c.start.ensures go.x (begins body.asks) (asked_in body.asks) go.begins.known ready.ready)));
    })

pub returns-in-Live-clause-entered : goal.returns-in-Live-clause-entered
returns-in-Live-clause-entered g c =
    let p = c.args.prepared in
    let old = the_view c.self.inside in
    let store = c.redeem.new.self in
    let n = c.in-Live.stream.0 in
    let body = c.requires.prepared.0 in
    let e : Exchange = record { conn = p.conn; words = c.in-Ok.words; close = p.close; exchange = begins body.asks } in
    let fits : StoreFits old = subst (λ (h : Seen). StoreFits h) (sym c.self.view_is) c.requires.store in
    let go = continues old store c.as_str.result.now fits n c.in-Live.ensures.answer c.in-Live.ensures.free in
    subst (λ (h : Seen). Entered h c.start.new.self) c.self.view_is
    (entered_by old (with_store store old) c.start.new.self n go.x (asked_in body.asks) e c.start.result (store_reached old store c.as_str.result.now fits) go.begins
    (c.start.ensures go.x (begins body.asks) (asked_in body.asks) go.begins.known c.requires.prepared.1.ready))

-- ---- no stream waits for it

pub returns-in-Dead-clause-drawn : goal.returns-in-Dead-clause-drawn
returns-in-Dead-clause-drawn g c =
    let p = c.args.prepared in
    let old = the_view c.self.inside in
    let fits : StoreFits old = subst (λ (h : Seen). StoreFits h) (sym c.self.view_is) c.requires.store in
    let left : c.match-ready-3.self ≡ with_store c.redeem.new.self old = elim c.match-ready-3.branch [ in-Answered-3 w ↦ w.self-is | in-Waits-3 w ↦ w.self-is ] in
    draws_one _ _ _ _ _ c.words.result c.words.ensures.draw c.words.ensures.cause (λ body ready some. record {
      draw = draw_of c.words.result;
      one = refl;
      goes = subst (λ (r : Result (List ℕ) Failed). GoesDrawn (draw_of r) body p.conn p.close c.args.self.now.state c.answers_with-in-Dead.result c.match-ready-3.self.state) (sym c.in-Ok.is)
          (subst (λ (h : Seen). GoesDrawn (words c.in-Ok.words) body p.conn p.close h.state c.answers_with-in-Dead.result c.match-ready-3.self.state) c.self.view_is
          (dead_goes old c.redeem.new.self c.as_str.result.now fits p.conn body c.in-Ok.words p.close c.answers_with-in-Dead.result c.in_ok-dead.dead c.match-ready-3.self c.in-Dead.ensures.answer
          (some ∙ ap (λ (t : List ℕ). Some t) (sym c.as_str.ensures)) c.in_ok-dead.ensures c.answers_with-in-Dead.ensures left));
    })

pub returns-in-Dead-clause-entered : goal.returns-in-Dead-clause-entered
returns-in-Dead-clause-entered g c =
    let old = the_view c.self.inside in
    let fits : StoreFits old = subst (λ (h : Seen). StoreFits h) (sym c.self.view_is) c.requires.store in
    let left : c.match-ready-3.self ≡ with_store c.redeem.new.self old = elim c.match-ready-3.branch [ in-Answered-3 w ↦ w.self-is | in-Waits-3 w ↦ w.self-is ] in
    subst (λ (h : Seen). Entered h c.match-ready-3.self) c.self.view_is (dead_enters old c.redeem.new.self c.as_str.result.now fits c.match-ready-3.self c.in-Dead.ensures.answer left)

-- Exchanges that come in: what they draw, and what they leave.
use Rattle.std.proofs.Common.{◌≡◌, ◌+◌, ℕ, Bool, true, false, cond, List, [], ◌∷◌, Option, Some, Result, Ok, Err, refl, sym, ap, ◌∙◌, arith, append-nil}
use Rattle.stream_requests.specs.declared.asks.Ask.{Ask}
use Rattle.http_wire.specs.declared.outs.Outs.{Outs}
use Rattle.pipeline_body.specs.Exchanges.{Progress, is_over, pipeline_answer}
use Rattle.baton_store.specs.Batons.{Batons, with_baton}
use Rattle.txn_table.specs.Turns.{Turns, with_place}
use Rattle.engine_core.specs.Causes.{HasCause}
use Rattle.engine_core.specs.Draws.{Draw, TellsDraw, draw_of, words, failed}
use Rattle.engine_core.specs.declared.outside.Failed.{Failed}
use Rattle.stream_task.specs.Together.{numbered}
use Rattle.stream_task.specs.declared.work.Work.{Work}
use Rattle.hrana_hub.specs.declared.sessions.Running.{Running as Exchange}
use Rattle.hrana_hub.specs.declared.sessions.Session.TheVariants.{Running}
use Rattle.hrana_hub.specs.Arrivals.{IsAfter, nothing}
use Rattle.hrana_hub.specs.Askers.{asks_these}
use Rattle.hrana_hub.specs.Drawn.{DrawsFrom}
use Rattle.hrana_hub.specs.Exchanges.{answers_with, next_baton, in_session, with_exchange, works_of, starts_if}
use Rattle.hrana_hub.specs.ExchangeArrived.{Started}
use Rattle.hrana_hub.specs.ExchangeSettled.{HandsOut}
use Rattle.hrana_hub.specs.Maps.{Numbered, put}
use Rattle.hrana_hub.specs.Polled.{with_streams}
use Rattle.hrana_hub.specs.State.{Stream, State, Seen, with_state}
use Rattle.hrana_hub.proofs.ArrivalLemmas.{only_place}

-- ---- what is drawn

module _ {T : Type 0} (drawn : T → Option (List Draw)) (faults : T → ℕ) (tokens tokens' : T) (P : List Draw → Type 0) where
  -- nothing
  pub draws_none : tokens' ≡ tokens → P [] → DrawsFrom drawn faults tokens tokens' P
  draws_none same holds = record {
    draws = [];
    told = λ before e few. ap drawn same ∙ (e ∙ ap (λ (ds : List Draw). Some ds) (sym (append-nil before)));
    cause = let h : faults tokens' ≡ faults tokens = ap faults same in omega arith;
    holds = holds;
  }

  -- two words, or a draw that failed
  pub draws_one : (result : Result (List ℕ) Failed) → TellsDraw (drawn tokens) (drawn tokens') result → HasCause (faults tokens) (faults tokens') result → P (draw_of result ∷ []) → DrawsFrom drawn faults tokens tokens' P
  draws_one (Ok given) tells cause holds = record {
    draws = words given ∷ [];
    told = λ before e few. tells before e (omega arith);
    cause = let h = cause.later in omega arith;
    holds = holds;
  }
  draws_one (Err fail) tells cause holds = record {
    draws = failed ∷ [];
    told = λ before e few. tells before e (omega arith);
    cause = cause.failed;
    holds = holds;
  }

-- ---- the exchange begins

-- it was answered at once
pub started_over : (old new : Seen) (n c : ℕ) (drawn : List ℕ) (close : Bool) (x : Stream) (p : Progress) (asks : List Ask) (out : Outs) → is_over p ≡ true → out ≡ answers_with c (pipeline_answer p.results (Some (next_baton drawn old.state)) close)
    → HandsOut old n c drawn x new → Started old n x asks (record { conn = c; words = drawn; close = close; exchange = p }) out new
started_over old new n c drawn close x p asks out over given hands =
    let e : Exchange = record { conn = c; words = drawn; close = close; exchange = p } in
    record {
      given = given ∙ ap (λ (b : Bool). (starts_if b n x asks e old.state).given) (sym over);
      left = hands.state ∙ ap (λ (b : Bool). (starts_if b n x asks e old.state).state) (sym over);
      store = hands.store ∙ ap (λ (b : Bool). cond b (with_baton old.store (numbered n) drawn old.state.now) old.store) (sym over);
      token = hands.token;
      turns = hands.turns;
      noted = hands.noted;
    }

-- it runs
pub started_runs : (old new : Seen) (n c : ℕ) (drawn : List ℕ) (close : Bool) (x : Stream) (p exchange : Progress) (asks : List Ask) (queued : List Work) (out : Outs) → is_over p ≡ false → exchange ≡ p → queued ≡ works_of asks → out ≡ nothing
    → new ≡ with_state (with_exchange c n (with_streams (put n (in_session (Running (record { conn = c; words = drawn; close = close; exchange = exchange })) (asks_these queued x)) old.state.streams) old.state)) old
    → Started old n x asks (record { conn = c; words = drawn; close = close; exchange = p }) out new
started_runs old new n c drawn close x p exchange asks queued out over same works given left =
    let e : Exchange = record { conn = c; words = drawn; close = close; exchange = p } in
    let after : Progress → List Work → State = λ q ws. with_exchange c n (with_streams (put n (in_session (Running (record { conn = c; words = drawn; close = close; exchange = q })) (asks_these ws x)) old.state.streams) old.state) in
    record {
      given = given ∙ ap (λ (b : Bool). (starts_if b n x asks e old.state).given) (sym over);
      left = ap (λ (h : Seen). h.state) left ∙ (ap (λ (q : Progress). after q queued) same ∙ (ap (λ (ws : List Work). after p ws) works ∙ ap (λ (b : Bool). (starts_if b n x asks e old.state).state) (sym over)));
      store = ap (λ (h : Seen). h.store) left ∙ ap (λ (b : Bool). cond b (with_baton old.store (numbered n) drawn old.state.now) old.store) (sym over);
      token = ap (λ (h : Seen). h.token) left;
      turns = ap (λ (h : Seen). h.turns) left;
      noted = ap (λ (h : Seen). h.noted) left;
    }

-- ---- a stream that isn't opened after all

-- nothing changed but a place in the table of turns
pub only_turn : (streams : Numbered Stream) (turns : Turns) (store : Batons) (h old : Seen) → h ≡ old → h.state.version ≡ h.turns.version → streams ≡ h.state.streams → turns ≡ with_place h.turns (numbered (h.state.opened + 1)) → store ≡ h.store
    → IsAfter old.state old (record h { state = record h.state { streams = streams; version = turns.version }; turns = turns; store = store })
only_turn streams turns store h old e v q r s =
    let o = only_place h.state.conns streams turns h old e v refl q r in
    record { state = o.state; token = o.token; noted = o.noted; store = s ∙ o.store; turns = o.turns }

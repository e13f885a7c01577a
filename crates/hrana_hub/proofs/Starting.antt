-- A stream whose exchange begins: what it leaves of the store of batons, and how it went.
use Rattle.std.proofs.Common.{◌≡◌, ◌≢◌, ◌+◌, ℕ, Bool, true, false, not, cond, List, [], ◌∷◌, Option, None, Some, Contains, refl, sym, ap, ◌∙◌, subst, inl, inr, nat_le, arith, ◌<◌}
use Rattle.std.proofs.lemmas.Bool.{ne_eqb}
use Rattle.std.proofs.lemmas.Bool.Decides.{nat_tests}
use Rattle.std.proofs.lemmas.List.Elements.{Contains-append_left, Contains-push}
use Rattle.hrana_value.specs.declared.StreamNo.{StreamNo}
use Rattle.hrana_stmt.specs.declared.codes.Code.TheVariants as code
use Rattle.stream_requests.specs.declared.asks.Ask.{Ask}
use Rattle.http_wire.specs.declared.outs.HttpAnswer.{HttpAnswer}
use Rattle.http_wire.specs.declared.outs.Outs.{Outs}
use Rattle.pipeline_body.specs.Exchanges.{begins, asked_in, is_over, error_answer}
use Rattle.pipeline_body.specs.declared.bodies.PipelineBody.{PipelineBody}
use Rattle.baton_store.specs.Text.{text_of}
use Rattle.baton_store.specs.Batons.{Batons, HasNone, Accepts, Denies, Frees, same_stream, with_place, with_baton, without as store_without}
use Rattle.baton_store.specs.declared.store.Redeem.TheVariants.{Live}
use Rattle.baton_store.proofs.ListLemmas.{Contains-filter}
use Rattle.baton_store.proofs.LawLemmas.{Has-filtered, Has-filter}
use Rattle.engine_core.specs.Draws.{words, failed}
use Rattle.stream_task.specs.Together.{numbered}
use Rattle.stream_task.specs.declared.work.Work.{Work}
use Rattle.hrana_hub.specs.declared.limits.TheConstants.{MAX_SESSIONS}
use Rattle.hrana_hub.specs.declared.sessions.Running.{Running as Exchange}
use Rattle.hrana_hub.specs.declared.sessions.Session.TheVariants.{Resting, Running}
use Rattle.hrana_hub.specs.Agrees.{IsTied, rests_for}
use Rattle.hrana_hub.specs.Arrivals.{TurnsStay}
use Rattle.hrana_hub.specs.Askers.{asks_these}
use Rattle.hrana_hub.specs.Exchanges.{answers_with, in_session, fresh_session, with_session, with_exchange, runs, hands_out, next_baton, sessions_in, works_of, starts_if, starts, opens_unless, Does, Awaits, GoesBy, GoesDrawn}
use Rattle.hrana_hub.specs.ExchangeArrived.{Started, HasSession, StoreFits, Entered}
use Rattle.hrana_hub.specs.Maps.{Numbered, at, put, placed, without}
use Rattle.hrana_hub.specs.Polled.{passed, with_streams}
use Rattle.hrana_hub.specs.State.{Stream, State, Seen, with_state}
use Rattle.hrana_hub.proofs.EntryLemmas.{at_put, put_put}
use Rattle.hrana_hub.proofs.MapLemmas.{none_some, at_placed, without_placed}
use Rattle.hrana_hub.proofs.Tied.{AwaitsNone, rests_awaits_none, runs_awaits_none, tied_same, tied_same_streams, fresh_has_none, tied_opens, tied_rests, tied_issues, tied_uses, accepts_awaits, denies_none}

-- ---- the store once an exchange has begun

fits_of : (h : Seen) (es : Numbered Stream) (store : Batons) → h.state.streams ≡ es → h.store ≡ store → IsTied es store → store.issued ≡ h.state.issued → StoreFits h
fits_of h es store streams is tied issued = record {
  issued = ap (λ (b : Batons). b.issued) is ∙ issued;
  tied = tied_same_streams es h.state.streams h.store streams (tied_same es store h.store is tied);
}

-- the store has no baton of the stream, and is tied where the stream waits for none
pub record Begins (h : Seen) (n : ℕ) (x : Stream) : Type 0 where
  pub known : at n h.state.streams ≡ Some x
  pub issued : h.store.issued ≡ h.state.issued
  pub none : HasNone h.store (numbered n)
  pub free : (y : Stream) → AwaitsNone y.session → IsTied (put n y h.state.streams) h.store

module _ (h new : Seen) (n : ℕ) (x : Stream) (e : Exchange) (begins : Begins h n x) where
  fits_over : new.state ≡ (hands_out n x e h.state).state → new.store ≡ with_baton h.store (numbered n) e.words h.state.now → StoreFits new
  fits_over state store =
      let es = h.state.streams in
      let y : Stream = in_session (Resting None) x in
      let z : Stream = in_session (Resting (Some (record { text = next_baton e.words h.state; at = h.state.now }))) (passed h.state.now x) in
      let baton : z.session ≡ Some (rests_for (text_of (h.store.issued + 1) e.words) h.state.now) = ap (λ (k : ℕ). Some (rests_for (text_of (k + 1) e.words) h.state.now)) (sym begins.issued) in
      let tied : IsTied (put n z (put n y es)) (with_baton h.store (numbered n) e.words h.state.now) =
      tied_issues n y z (put n y es) h.store e.words h.state.now (at_put n x y es begins.known) refl begins.none baton (begins.free y (rests_awaits_none y.session refl)) in
      fits_of new (put n z es) (with_baton h.store (numbered n) e.words h.state.now) (ap (λ (s : State). s.streams) state) store
      (subst (λ (fs : Numbered Stream). IsTied fs (with_baton h.store (numbered n) e.words h.state.now)) (put_put n y z es) tied)
      (ap (λ (k : ℕ). k + 1) begins.issued ∙ sym (ap (λ (s : State). s.issued) state))

  fits_runs : (works : List Work) → new.state ≡ with_exchange e.conn n (runs n (asks_these works x) e h.state) → new.store ≡ h.store → StoreFits new
  fits_runs works state store =
      let y : Stream = in_session (Running e) (asks_these works x) in
      fits_of new (put n y h.state.streams) h.store (ap (λ (s : State). s.streams) state) store (begins.free y (runs_awaits_none y.session e refl)) (begins.issued ∙ sym (ap (λ (s : State). s.issued) state))

  fits_started : (asks : List Ask) (out : Outs) → Started h n x asks e out new → StoreFits new
  fits_started asks out started = by (is_over e.exchange) refl
    where
      by : (b : Bool) → is_over e.exchange ≡ b → StoreFits new
      by true over = fits_over (started.left ∙ ap (λ (b : Bool). (starts_if b n x asks e h.state).state) over) (started.store ∙ ap (λ (b : Bool). cond b (with_baton h.store (numbered n) e.words h.state.now) h.store) over)
      by false over = fits_runs (works_of asks) (started.left ∙ ap (λ (b : Bool). (starts_if b n x asks e h.state).state) over) (started.store ∙ ap (λ (b : Bool). cond b (with_baton h.store (numbered n) e.words h.state.now) h.store) over)

opened_same : (b : Bool) (n : ℕ) (x : Stream) (asks : List Ask) (e : Exchange) (s : State) → (starts_if b n x asks e s).state.opened ≡ s.opened
opened_same true n x asks e s = refl
opened_same false n x asks e s = refl

-- nothing changed but the streams, the store and the places for turns
pub record IsReached (old h : Seen) : Type 0 where
  pub token : h.token ≡ old.token
  pub noted : h.noted ≡ old.noted
  pub turns : TurnsStay old h

pub entered_by : (old h new : Seen) (n : ℕ) (x : Stream) (asks : List Ask) (e : Exchange) (out : Outs) → IsReached old h → Begins h n x → Started h n x asks e out new → Entered old new
entered_by old h new n x asks e out reached begins started =
    let opened : new.state.opened ≡ h.state.opened = ap (λ (s : State). s.opened) started.left ∙ opened_same (is_over e.exchange) n x asks e h.state in
    record {
      token = started.token ∙ reached.token;
      noted = started.noted ∙ reached.noted;
      turns = elim reached.turns [ inl same ↦ inl (started.turns ∙ same.0, opened ∙ same.1) | inr place ↦ inr (started.turns ∙ place) ];
      store = fits_started h new n x e begins asks out started;
    }

-- ---- an exchange that opens a stream

abbrev pub next_number : Seen → ℕ
next_number h = h.state.opened + 1

abbrev pub next_session : ℕ → Seen → Stream
next_session c h = fresh_session h.state.now c (next_number h)

-- the number of the last stream is this
abbrev pub opened_at : ℕ → Seen → Seen
opened_at n h = with_state (record h.state { opened = n }) h

-- there are places for it
pub record IsMade (c : ℕ) (old mid : Seen) : Type 0 where
  pub free : at (next_number old) old.state.streams ≡ None
  pub fits : StoreFits old
  pub has : HasSession c old mid

pub is_made : (c : ℕ) (old old' mid mid' : Seen) → old ≡ old' → mid ≡ mid' → at (next_number old') old'.state.streams ≡ None → StoreFits old' → HasSession c old' mid' → IsMade c old mid
is_made c old old' mid mid' same made free fits has = record {
  free = subst (λ (h : Seen). at (next_number h) h.state.streams ≡ None) (sym same) free;
  fits = subst (λ (h : Seen). StoreFits h) (sym same) fits;
  has = subst (λ (h : Seen). HasSession c h mid) (sym same) (subst (λ (h : Seen). HasSession c old' h) (sym made) has);
}

pub few_sessions : (n k : ℕ) → n ≡ k → n < MAX_SESSIONS → nat_le MAX_SESSIONS k ≡ false
few_sessions n k same few = rw (← same) (grind (arith, nat_tests))

module _ (c : ℕ) (old mid : Seen) (made : IsMade c old mid) where
  abbrev number : ℕ
  number = next_number old

  abbrev opened_one : Stream
  opened_one = next_session c old

  mid_known : at number mid.state.streams ≡ Some opened_one
  mid_known = ap (λ (s : State). at number s.streams) made.has.state ∙ at_placed number opened_one old.state.streams

  mid_tied : IsTied mid.state.streams mid.store
  mid_tied =
      tied_same_streams (placed number opened_one old.state.streams) mid.state.streams mid.store (ap (λ (s : State). s.streams) made.has.state)
      (tied_same (placed number opened_one old.state.streams) (with_place old.store (numbered number)) mid.store made.has.store (tied_opens number opened_one old.state.streams old.store made.free refl made.fits.tied))

  pub session_begins : Begins (opened_at number mid) number opened_one
  session_begins = record {
    known = mid_known;
    issued = ap (λ (b : Batons). b.issued) made.has.store ∙ (made.fits.issued ∙ sym (ap (λ (s : State). s.issued) made.has.state));
    none = subst (λ (b : Batons). HasNone b (numbered number)) (sym made.has.store) (fresh_has_none number old.state.streams old.store made.free made.fits.tied);
    free = λ y awaits. tied_rests number opened_one y mid.state.streams mid.store mid_known (rests_awaits_none opened_one.session refl) awaits refl mid_tied;
  }

  pub session_place : Contains mid.store.reserved (numbered number)
  session_place = subst (λ (b : Batons). Contains b.reserved (numbered number)) (sym made.has.store) (Contains-push old.store.reserved (numbered number))

  pub session_reached : IsReached old (opened_at number mid)
  session_reached = record { token = made.has.token; noted = made.has.noted; turns = inr made.has.turns }

  pub session_goes : (body : PipelineBody) (drawn : List ℕ) (close : Bool) (out : Outs) (new : Seen) → body.baton ≡ None → nat_le MAX_SESSIONS (sessions_in old.state.streams) ≡ false
      → Started (opened_at number mid) number opened_one (asked_in body.asks) (record { conn = c; words = drawn; close = close; exchange = begins body.asks }) out new → GoesDrawn (words drawn) body c close old.state out new.state
  session_goes body drawn close out new none few started =
      let s = old.state in
      let asks = asked_in body.asks in
      let e : Exchange = record { conn = c; words = drawn; close = close; exchange = begins body.asks } in
      let same : (opened_at number mid).state ≡ with_session c s = ap (λ (t : State). record t { opened = number }) made.has.state in
      let opens : Does (opens_unless false asks e s) out new.state = record {
        given = started.given ∙ ap (λ (t : State). (starts number opened_one asks e t).given) same;
        left = started.left ∙ ap (λ (t : State). (starts number opened_one asks e t).state) same;
      } in
      subst (λ (baton : Option (List ℕ)). GoesBy baton asks e s out new.state) (sym none) (subst (λ (b : Bool). Does (opens_unless b asks e s) out new.state) (sym few) opens)

-- ---- a stream that isn't opened after all

-- the store is tied again once the place is taken away
tied_undone : (n : ℕ) (es : Numbered Stream) (store : Batons) → at n es ≡ None → IsTied es store → IsTied es (store_without (with_place store (numbered n)) (numbered n))
tied_undone n es store free tied = record {
  placed = λ k x e ours.
      Contains-filter (λ s. not (same_stream s (numbered n))) (with_place store (numbered n)).reserved (numbered k) (passes k (apart k x e)) (Contains-append_left store.reserved (numbered n ∷ []) (numbered k) (tied.placed k x e ours));
  held = λ k text moment. (
    λ has. (tied.held k text moment).0 (Has-filtered store.unused (numbered n) text (numbered k) moment has).1,
    λ w. Has-filter store.unused (numbered n) text (numbered k) moment (λ same. apart k w.0 w.1 (ap (λ (s : StreamNo). s.0) (sym same))) ((tied.held k text moment).1 w),
  );
}
  where
    apart : (k : ℕ) (x : Stream) → at k es ≡ Some x → k ≢ n
    apart k x e same = none_some (sym free ∙ (ap (λ (m : ℕ). at m es) (sym same) ∙ e))

    passes : (k : ℕ) → k ≢ n → not (same_stream (numbered k) (numbered n)) ≡ true
    passes k other = ap not (ne_eqb k n other)

-- its place is given back
abbrev pub given_back : ℕ → Seen → Seen
given_back n h = record (with_state (with_streams (without n h.state.streams) h.state) h) { store = store_without h.store (numbered n) }

module _ (c : ℕ) (old mid new : Seen) (free : at (next_number old) old.state.streams ≡ None) (has : HasSession c old mid) (is : new ≡ given_back (next_number old) mid) where
  pub undone_state : new.state ≡ old.state
  undone_state =
      let n = next_number old in
      ap (λ (h : Seen). h.state) is ∙ (ap (λ (s : State). with_streams (without n s.streams) s) has.state ∙ ap (λ (es : Numbered Stream). with_streams es old.state) (without_placed n (next_session c old) old.state.streams free))

  pub undone_enters : StoreFits old → Entered old new
  undone_enters fits =
      let n = next_number old in
      record {
        token = ap (λ (h : Seen). h.token) is ∙ has.token;
        noted = ap (λ (h : Seen). h.noted) is ∙ has.noted;
        turns = inr (ap (λ (h : Seen). h.turns) is ∙ has.turns);
        store = fits_of new old.state.streams (store_without (with_place old.store (numbered n)) (numbered n)) (ap (λ (s : State). s.streams) undone_state)
            (ap (λ (h : Seen). h.store) is ∙ ap (λ (b : Batons). store_without b (numbered n)) has.store) (tied_undone n old.state.streams old.store free fits.tied) (fits.issued ∙ sym (ap (λ (s : State). s.issued) undone_state));
      }

-- no words could be drawn
pub refused : (c : ℕ) (no_token : HttpAnswer) (body : PipelineBody) (close : Bool) (s new : State) (out : Outs) → no_token ≡ error_answer 503 code.NoToken close → out ≡ answers_with c no_token → new ≡ s → GoesDrawn failed body c close s out new
refused c no_token body close s new out is given left = record { given = given ∙ ap (answers_with c) is; left = left }

-- ---- an exchange that goes on

abbrev pub with_store : Batons → Seen → Seen
with_store store h = record h { store = store }

module _ (old : Seen) (store : Batons) (text : List ℕ) (fits : StoreFits old) where
  -- a stream waits for it, and may begin
  pub record Continues (n : ℕ) : Type 0 where
    pub x : Stream
    pub awaits : Awaits old.state text n x
    pub begins : Begins (with_store store old) n x

  pub continues : (n : ℕ) → Accepts old.store text old.state.now (numbered n) store → Frees (Live (numbered n)) store → Continues n
  continues n accepts frees =
      let w = accepts_awaits n old.state.streams old.store store text old.state.now accepts fits.tied in
      record {
        x = w.x;
        awaits = record { baton = w.baton; known = w.known; rests = w.rests; text_is = w.text_is; young = w.young };
        begins = record {
          known = w.known;
          issued = ap (λ (b : Batons). b.issued) accepts.used ∙ fits.issued;
          none = frees.1;
          free = λ y awaits. tied_uses n w.x y old.state.streams old.store store text old.state.now w.known accepts frees awaits fits.tied;
        };
      }

  pub store_reached : IsReached old (with_store store old)
  store_reached = record { token = refl; noted = refl; turns = inl (refl, refl) }

  pub continues_goes : (n c : ℕ) (body : PipelineBody) (drawn : List ℕ) (close : Bool) (out : Outs) (new : Seen) (go : Continues n) → body.baton ≡ Some text
      → Started (with_store store old) n go.x (asked_in body.asks) (record { conn = c; words = drawn; close = close; exchange = begins body.asks }) out new → GoesDrawn (words drawn) body c close old.state out new.state
  continues_goes n c body drawn close out new go is started =
      let e : Exchange = record { conn = c; words = drawn; close = close; exchange = begins body.asks } in
      subst (λ (baton : Option (List ℕ)). GoesBy baton (asked_in body.asks) e old.state out new.state) (sym is) (inl (record { stream = n; x = go.x; awaits = go.awaits; does = record { given = started.given; left = started.left } }))

  -- no stream waits for it
  pub dead_goes : (c : ℕ) (body : PipelineBody) (drawn : List ℕ) (close : Bool) (out : Outs) (dead : HttpAnswer) (new : Seen) → Denies old.store text old.state.now store → body.baton ≡ Some text → dead ≡ error_answer 400 code.BatonDead close
      → out ≡ answers_with c dead → new ≡ with_store store old → GoesDrawn (words drawn) body c close old.state out new.state
  dead_goes c body drawn close out dead new denies is said given left =
      let e : Exchange = record { conn = c; words = drawn; close = close; exchange = begins body.asks } in
      subst (λ (baton : Option (List ℕ)). GoesBy baton (asked_in body.asks) e old.state out new.state) (sym is) (inr (record {
        none = λ n x a. denies_none old.state.streams old.store store text old.state.now denies fits.tied n x a.baton a.known a.rests a.text_is a.young;
        does = record { given = given ∙ ap (answers_with c) said; left = ap (λ (h : Seen). h.state) left };
      }))

  pub dead_enters : (new : Seen) → Denies old.store text old.state.now store → new ≡ with_store store old → Entered old new
  dead_enters new denies left = record {
    token = ap (λ (h : Seen). h.token) left;
    noted = ap (λ (h : Seen). h.noted) left;
    turns = inl (ap (λ (h : Seen). h.turns) left, ap (λ (h : Seen). h.state.opened) left);
    store = fits_of new old.state.streams old.store (ap (λ (h : Seen). h.state.streams) left) (ap (λ (h : Seen). h.store) left ∙ denies.same) fits.tied (fits.issued ∙ sym (ap (λ (h : Seen). h.state.issued) left));
  }

-- Streams of exchanges: what is left of the agreement where one of them rests, runs, or is issued a baton, and what a poll of it
-- comes to.
use Rattle.std.specs.Option.{IsSome}
use Rattle.std.specs.Prelude.{OnOk, is_err}
use Rattle.txn_table.specs.Turns.{Turns}
use Rattle.std.proofs.Common.{◌≡◌, ◌+◌, ℕ, Bool, true, false, List, [], ◌++◌, Option, None, Some, All, MatchBool, refl, sym, ap, ◌∙◌, subst, arith, append-nil, is_some, option_to_list, inl, inr, Result, Ok, Err, true≢false}
use Rattle.serial_order.specs.Serial.{Meaning}
use Rattle.hrana_value.specs.declared.failures.NoMemory.{NoMemory}
use Rattle.http_wire.specs.declared.outs.Outs.{Outs}
use Rattle.stream_requests.specs.declared.replies.Reply.{Reply}
use Rattle.pipeline_body.specs.Batons.{IsPlain}
use Rattle.pipeline_body.specs.Exchanges.{is_over}
use Rattle.baton_store.specs.Batons.{Batons, with_baton}
use Rattle.baton_store.specs.Text.{IsSymbol, text_of}
use Rattle.engine_core.specs.Noted.{Noted}
use Rattle.engine_core.specs.Transactions.{Lives}
use Rattle.engine_core.specs.declared.statement.BoundStmt.{BoundStmt}
use Rattle.engine_core.specs.declared.entries.Answer.{Answer}
use Rattle.engine_core.specs.declared.entries.Entry.{Entry}
use Rattle.engine_core.specs.declared.entries.Undo.{Undo}
use Rattle.stream_task.specs.Adds.{undone_of}
use Rattle.stream_task.specs.Laws.{PollsReplyToPipelines}
use Rattle.stream_task.specs.Polls.{Polls, is_waiting, with_asks}
use Rattle.stream_task.specs.declared.session.TxnState.{TxnState}
use Rattle.stream_task.specs.declared.session.TxnState.TheVariants.{Auto, Deferred, Reading, Writing, Dead, Closed}
use Rattle.stream_task.specs.Session.{is_shut}
use Rattle.stream_task.specs.Together.{TurnIsWriters, numbered}
use Rattle.stream_task.specs.declared.task.Poll.{Poll}
use Rattle.stream_task.specs.declared.task.Poll.TheVariants.{Ready, Pending}
use Rattle.stream_task.specs.declared.task.Stepped.{Stepped}
use Rattle.stream_task.specs.declared.task.Stepped.TheVariants as stepped
use Rattle.hrana_hub.specs.Adds.{Adds}
use Rattle.hrana_hub.specs.Agrees.{HubAgrees, IsAhead, IsTied, rests_for}
use Rattle.hrana_hub.specs.Arrivals.{nothing}
use Rattle.hrana_hub.specs.Askers.{running_of, exchange_in, asker_of, asker_in}
use Rattle.hrana_hub.specs.declared.slot.Asker.TheVariants as asker
use Rattle.hrana_hub.specs.declared.sessions.Issued.{Issued}
use Rattle.hrana_hub.specs.Exchanges.{empty_503, gives_up, in_session, replies_to, proceeds_if, concludes, with_reply, without_exchange, issues, next_baton, leaves}
use Rattle.hrana_hub.specs.ExchangeSettled.{MayIssue, IsRunning, IsRunningFor, HandsOut, HasPipelineReply, Concludes, Settles, Ends, given_up, rested}
use Rattle.hrana_hub.specs.Maps.{Numbered, at, put, without}
use Rattle.hrana_hub.specs.Polled.{with_entry, with_streams, with_task, reply_in, seen_of, FellShort}
use Rattle.hrana_hub.specs.Settled.{PollsStream}
use Rattle.hrana_hub.specs.State.{Stream, State, Seen, states_of, with_state}
use Rattle.hrana_hub.specs.Step.{is_short}
use Rattle.hrana_hub.specs.declared.sessions.Running.{Running as Exchange}
use Rattle.hrana_hub.specs.declared.sessions.Session.{Session}
use Rattle.hrana_hub.specs.declared.sessions.Session.TheVariants.{Resting, Running}
use Rattle.hrana_hub.proofs.Adding.{Alike, adds_none}
use Rattle.hrana_hub.proofs.Agreeing.{moves_agrees, same_states}
use Rattle.hrana_hub.proofs.EntryLemmas.{at_put, put_put, put_same, without_put}
use Rattle.hrana_hub.proofs.MapLemmas.{none_some, some_one}
use Rattle.hrana_hub.proofs.Polling.{some_of, known_left, early}
use Rattle.hrana_hub.proofs.Tied.{tied_rests, tied_issues, tied_has_none, rests_awaits_none, runs_awaits_none}

-- ---- batons are written in JSON as they stand

plain_symbol : (byte : ℕ) → IsSymbol byte → IsPlain byte
plain_symbol byte (inl upper) = (omega arith, omega arith, λ e. absurd (omega arith), λ e. absurd (omega arith))
plain_symbol byte (inr (inl lower)) = (omega arith, omega arith, λ e. absurd (omega arith), λ e. absurd (omega arith))
plain_symbol byte (inr (inr (inl digit))) = (omega arith, omega arith, λ e. absurd (omega arith), λ e. absurd (omega arith))
plain_symbol byte (inr (inr (inr (inl dash)))) = (omega arith, omega arith, λ e. absurd (omega arith), λ e. absurd (omega arith))
plain_symbol byte (inr (inr (inr (inr line)))) = (omega arith, omega arith, λ e. absurd (omega arith), λ e. absurd (omega arith))

pub plain_symbols : (text : List ℕ) → All IsSymbol text → All IsPlain text
plain_symbols text symbols k d within = plain_symbol _ (symbols k d within)

-- ---- what runs

-- it is a stream of exchanges, and waits for no baton
pub running_session : (x : Stream) (e : Exchange) → running_of x ≡ Some e → x.session ≡ Some (Running e)
running_session x e runs = by x.session refl runs
  where
    by : (v : Option Session) → x.session ≡ v → exchange_in v ≡ Some e → x.session ≡ Some (Running e)
    by None is r = absurd (none_some r)
    by (Some (Resting baton)) is r = absurd (none_some r)
    by (Some (Running f)) is r = is ∙ ap (λ (g : Exchange). Some (Running g)) (some_one r)

-- ---- another session

-- the stream has become another, and these exchanges aren't answered yet
abbrev pub with_put : ℕ → Stream → Numbered ℕ → Seen → Seen
with_put n y exchanges h = with_state (record h.state { streams = put n y h.state.streams; exchanges = exchanges }) h

module _ {D : Type 0} (told shared : Bool) (db : D) (live : Lives D) where
  pub put_session : (n : ℕ) (x y : Stream) (exchanges : Numbered ℕ) (h : Seen) → HubAgrees told shared db live h → at n h.state.streams ≡ Some x → y.task.stream ≡ x.task.stream → y.task.session.state ≡ x.task.session.state
      → (IsTied h.state.streams h.store → IsTied (put n y h.state.streams) h.store) → HubAgrees told shared db live (with_put n y exchanges h)
  put_session n x y exchanges h a known stream state ties =
      moves_agrees told shared db live h (with_put n y exchanges h) n x y a known stream state
      (record { streams_are = refl; opened = refl; next = refl; version = refl; events = omega arith; turns = refl; noted = refl; places = omega arith })
      (record { few = a.counts.batons; issued = a.issued; tied = λ runs. ties (a.tied runs) })

  -- an exchange of it ran, and it rests without a baton, or its exchange runs on
  pub rests_agree : (n : ℕ) (x y : Stream) (e : Exchange) (exchanges : Numbered ℕ) (h : Seen) → HubAgrees told shared db live h → at n h.state.streams ≡ Some x → x.session ≡ Some (Running e) → y.session ≡ Some (Resting None) → y.task.stream ≡ x.task.stream → y.task.session.state ≡ x.task.session.state
      → HubAgrees told shared db live (with_put n y exchanges h)
  rests_agree n x y e exchanges h a known runs rest stream state =
      put_session n x y exchanges h a known stream state (tied_rests n x y h.state.streams h.store known (runs_awaits_none x.session e runs) (rests_awaits_none y.session rest) (ap is_some runs))

  pub runs_agree : (n : ℕ) (x y : Stream) (e : Exchange) (exchanges : Numbered ℕ) (h : Seen) → HubAgrees told shared db live h → at n h.state.streams ≡ Some x → x.session ≡ Some (Resting None) → y.session ≡ Some (Running e) → y.task.stream ≡ x.task.stream → y.task.session.state ≡ x.task.session.state
      → HubAgrees told shared db live (with_put n y exchanges h)
  runs_agree n x y e exchanges h a known rest runs stream state =
      put_session n x y exchanges h a known stream state (tied_rests n x y h.state.streams h.store known (rests_awaits_none x.session rest) (runs_awaits_none y.session e runs) (ap is_some rest))

  pub rests_again : (n : ℕ) (x y : Stream) (exchanges : Numbered ℕ) (h : Seen) → HubAgrees told shared db live h → at n h.state.streams ≡ Some x → x.session ≡ Some (Resting None) → y.session ≡ Some (Resting None) → y.task.stream ≡ x.task.stream → y.task.session.state ≡ x.task.session.state
      → HubAgrees told shared db live (with_put n y exchanges h)
  rests_again n x y exchanges h a known rest again stream state =
      put_session n x y exchanges h a known stream state (tied_rests n x y h.state.streams h.store known (rests_awaits_none x.session rest) (rests_awaits_none y.session again) (ap is_some rest))

  -- a baton was issued to it
  pub hands_agree : (n c : ℕ) (drawn : List ℕ) (x : Stream) (old new : Seen) → HubAgrees told shared db live old → MayIssue old.state → at n old.state.streams ≡ Some x → x.session ≡ Some (Resting None) → HandsOut old n c drawn x new → HubAgrees told shared db live new
  hands_agree n c drawn x old new a may known rest h =
      let y = rested (next_baton drawn old.state) old.state.now x in
      let state : new.state ≡ issues (without_exchange c (with_streams (put n y old.state.streams) old.state)) = h.state in
      let streams : new.state.streams ≡ put n y old.state.streams = ap (λ (s : State). s.streams) state in
      let issued = ap (λ (s : State). s.issued) state in
      let events = ap (λ (s : State). s.events) state in
      moves_agrees told shared db live old new n x y a known refl refl
      (record { streams_are = streams; opened = ap (λ (s : State). s.opened) state; next = ap (λ (s : State). s.next) state; version = ap (λ (s : State). s.version) state; events = omega (arith, events); turns = h.turns; noted = ap (λ (m : Noted). m.next) h.noted; places = (let spare = ap (λ (m : Noted). m.spare) h.noted in omega (arith, spare)) })
      (record {
        few = omega (arith, issued, events, may.batons);
        issued = ap (λ (b : Batons). b.issued) h.store ∙ ap (λ k. k + 1) a.issued ∙ sym issued;
        tied = λ runs.
            let tied = a.tied (sym (ap (λ (s : State). s.stopped) state) ∙ runs) in
            subst (IsTied new.state.streams) (sym h.store) (subst (λ es. IsTied es (with_baton old.store (numbered n) drawn old.state.now)) (sym streams)
            (tied_issues n x y old.state.streams old.store drawn old.state.now known (ap is_some rest) (tied_has_none n x old.state.streams old.store known (rests_awaits_none x.session rest) tied)
            (ap (λ k. Some (rests_for (text_of (k + 1) drawn) old.state.now)) (sym a.issued)) tied));
      })

-- what they stand for rests on the states
pub session_alike : (n : ℕ) (x y : Stream) (exchanges : Numbered ℕ) (h : Seen) → at n h.state.streams ≡ Some x → y.task.session.state ≡ x.task.session.state → Alike h (with_put n y exchanges h)
session_alike n x y exchanges h known state = record { version = refl; next = refl; states = λ k. same_states n x y h.state.streams known state k }

-- ---- what a poll comes to

replied_broke : (reply : Reply) → ◌≡◌ {A = Poll Stepped} (Ready (stepped.Replied reply)) (Ready stepped.Broke) → ⊥
replied_broke reply e = cc

found_as : (out : Outs) (A B : Type 0) → is_short out ≡ false → B → MatchBool (is_short out) A B
found_as out A B e b = subst (λ c. MatchBool c A B) (sym e) b

short_as : (out : Outs) (A B : Type 0) → is_short out ≡ true → A → MatchBool (is_short out) A B
short_as out A B e a = subst (λ c. MatchBool c A B) (sym e) a

concluded_long : (b : Bool) (n : ℕ) (x : Stream) (e : Exchange) (s : State) → is_short (concludes b n x e s).given ≡ false
concluded_long true n x e s = refl
concluded_long false n x e s = refl

module _ (s : State) (n : ℕ) (x : Stream) (e : Exchange) where
  -- there was no memory for the reply, or none for the answer
  pub falls_settle : (result : Poll Stepped) (out : Outs) (new : State) → FellShort result → out ≡ empty_503 e.conn e.close → new ≡ gives_up n x e s → Settles s n x e result [] out new
  falls_settle result out new short given left = record { none = refl; does = short_as out _ _ (ap is_short given) (record { short = short; given = given; left = left }) }

  -- the poll gave no reply
  pub rests_settle : (result : Poll Stepped) (out : Outs) → reply_in result ≡ None → (result ≡ Ready stepped.Broke → ⊥) → out ≡ nothing → at n s.streams ≡ Some x → Settles s n x e result [] out s
  rests_settle result out none whole given known = record {
    none = refl;
    does = found_as out _ _ (ap is_short given) (record {
      found = whole;
      given = given ∙ ap (λ r. (replies_to r n x e s).given) (sym none);
      left = ap (λ es. with_streams es s) (sym (put_same n x s.streams known)) ∙ ap (λ r. (replies_to r n x e s).state) (sym none);
    });
  }

  -- the exchange runs on
  pub runs_settle : (reply : Reply) (out : Outs) (new : State) → is_over (with_reply reply e).exchange ≡ false → out ≡ nothing → new ≡ with_streams (put n (in_session (Running (with_reply reply e)) x) s.streams) s → Settles s n x e (Ready (stepped.Replied reply)) [] out new
  runs_settle reply out new on given left = record {
    none = refl;
    does = found_as out _ _ (ap is_short given) (record {
      found = replied_broke reply;
      given = given ∙ ap (λ b. (proceeds_if b n x (with_reply reply e) s).given) (sym on);
      left = left ∙ ap (λ b. (proceeds_if b n x (with_reply reply e) s).state) (sym on);
    });
  }

  -- it is answered
  pub concludes_settle : (reply : Reply) (added : List Entry) (out : Outs) (new : State) → is_over (with_reply reply e).exchange ≡ true → added ≡ [] → out ≡ (concludes (is_shut x.task.session.state) n x (with_reply reply e) s).given
      → new ≡ (concludes (is_shut x.task.session.state) n x (with_reply reply e) s).state → Settles s n x e (Ready (stepped.Replied reply)) added out new
  concludes_settle reply added out new over none given left = record {
    none = none;
    does = found_as out _ _ (ap is_short given ∙ concluded_long (is_shut x.task.session.state) n x (with_reply reply e) s) (record {
      found = replied_broke reply;
      given = given ∙ ap (λ b. (proceeds_if b n x (with_reply reply e) s).given) (sym over);
      left = left ∙ ap (λ b. (proceeds_if b n x (with_reply reply e) s).state) (sym over);
    });
  }

-- the stream had become another before
concludes_twice : (b : Bool) (n : ℕ) (x y : Stream) (e : Exchange) (s : State) → concludes b n x e (with_streams (put n y s.streams) s) ≡ concludes b n x e s
concludes_twice true n x y e s = ap (λ es. record { given = (concludes true n x e s).given; state = without_exchange e.conn (with_streams es s) }) (without_put n y s.streams)
concludes_twice false n x y e s = ap (λ es. record { given = (concludes false n x e s).given; state = issues (without_exchange e.conn (with_streams es s)) }) (put_put n y (rested (next_baton e.words s) s.now x) s.streams)

proceeds_twice : (b : Bool) (n : ℕ) (x y : Stream) (e : Exchange) (s : State) → proceeds_if b n x e (with_streams (put n y s.streams) s) ≡ proceeds_if b n x e s
proceeds_twice true n x y e s = concludes_twice (is_shut x.task.session.state) n x y e s
proceeds_twice false n x y e s = ap (λ es. record { given = nothing; state = with_streams es s }) (put_put n y (in_session (Running e) x) s.streams)

pub replies_twice : (reply : Option Reply) (n : ℕ) (x y : Stream) (e : Exchange) (s : State) → replies_to reply n x e (with_streams (put n y s.streams) s) ≡ replies_to reply n x e s
replies_twice None n x y e s = ap (λ es. record { given = nothing; state = with_streams es s }) (put_put n y x s.streams)
replies_twice (Some reply) n x y e s = proceeds_twice (is_over (with_reply reply e).exchange) n x y (with_reply reply e) s

pub gives_up_twice : (n : ℕ) (x y : Stream) (e : Exchange) (s : State) → gives_up n x e (with_streams (put n y s.streams) s) ≡ gives_up n x e s
gives_up_twice n x y e s = ap (λ es. without_exchange e.conn (with_streams es s)) (put_put n y (given_up s.now x) s.streams)

-- what it waited with before makes no odds
concludes_session : (b : Bool) (session : Session) (n : ℕ) (x : Stream) (e : Exchange) (s : State) → concludes b n (in_session session x) e s ≡ concludes b n x e s
concludes_session true session n x e s = refl
concludes_session false session n x e s = refl

proceeds_session : (b : Bool) (session : Session) (n : ℕ) (x : Stream) (e : Exchange) (s : State) → proceeds_if b n (in_session session x) e s ≡ proceeds_if b n x e s
proceeds_session true session n x e s = concludes_session (is_shut x.task.session.state) session n x e s
proceeds_session false session n x e s = refl

match_sides : (b : Bool) (A B C D : Type 0) → (A → C) → (B → D) → MatchBool b A B → MatchBool b C D
match_sides true A B C D f g h = f h
match_sides false A B C D f g h = g h

-- its exchange was taken out before the reply was noted
pub taken_settles : (s : State) (n : ℕ) (x : Stream) (e : Exchange) (reply : Reply) (added : List Entry) (out : Outs) (new : State)
    → Settles (with_streams (put n (in_session (Resting None) x) s.streams) s) n (in_session (Resting None) x) e (Ready (stepped.Replied reply)) added out new → Settles s n x e (Ready (stepped.Replied reply)) added out new
taken_settles s n x e reply added out new h =
    let y = in_session (Resting None) x in
    let same = replies_twice (Some reply) n y y e s ∙ proceeds_session (is_over (with_reply reply e).exchange) (Resting None) n x (with_reply reply e) s in
    record {
      none = h.none;
      does = match_sides (is_short out) _ _ _ _
          (λ g. record { short = g.short; given = g.given; left = g.left ∙ gives_up_twice n y y e s })
          (λ g. record {
            found = g.found;
            given = g.given ∙ ap (λ w. w.given) same;
            left = g.left ∙ ap (λ w. w.state) same;
          }) h.does;
    }

-- a poll, and what it gave told
pub session_ends : (shared : Bool) (s mid new : State) (n : ℕ) (x : Stream) (e : Exchange) (added more : List Entry) (result : Poll Stepped) (out : Outs) → (p : PollsStream shared s n x added result mid) → Settles mid n (with_task p.task x) e result more out new
    → Ends shared s n x e (added ++ more) out new
session_ends shared s mid new n x e added more result out p h =
    let y = with_task p.task x in
    let t = with_entry p.entry s in
    let is : mid ≡ with_streams (put n y t.streams) t = p.left in
    subst (λ es. Ends shared s n x e es out new) (sym (ap (λ l. added ++ l) h.none ∙ append-nil added))
    (match_sides (is_short out) _ _ _ _
    (λ g. record { by = p.by; writer = p.writer; entry = p.entry; result = result; task = p.task; polls = p.polls; short = g.short; one = p.one; given = g.given; left = g.left ∙ ap (gives_up n y e) is ∙ gives_up_twice n y y e t })
    (λ g. record {
      by = p.by;
      writer = p.writer;
      entry = p.entry;
      result = result;
      task = p.task;
      polls = p.polls;
      found = g.found;
      one = p.one;
      given = g.given ∙ ap (λ z. (replies_to (reply_in result) n y e z).given) is ∙ ap (λ w. w.given) (replies_twice (reply_in result) n y y e t);
      left = g.left ∙ ap (λ z. (replies_to (reply_in result) n y e z).state) is ∙ ap (λ w. w.state) (replies_twice (reply_in result) n y y e t);
    }) h.does)

-- ---- a stream that is shut

pub shut_ends : (why : Undo) (state : TxnState) → is_shut state ≡ true → option_to_list (undone_of why state) ≡ []
shut_ends why Closed e = refl
shut_ends why (Dead cause) e = refl
shut_ends why Auto e = absurd (cc)
shut_ends why Deferred e = absurd (cc)
shut_ends why (Reading unit had) e = absurd (cc)
shut_ends why (Writing unit) e = absurd (cc)

pub leaves_left : (c n : ℕ) (exchanges : Numbered ℕ) (s old : State) → s ≡ with_streams (without n old.streams) old → exchanges ≡ without c s.exchanges → record s { exchanges = exchanges } ≡ without_exchange c (leaves n old)
leaves_left c n exchanges s old left rest = ap (λ es. record s { exchanges = es }) rest ∙ ap (without_exchange c) left

-- ---- what was given up, runs on, or was handed out

-- the stream rests without a baton, and the exchange of the connection is over
abbrev pub GivesUpTo : Seen → Seen → ℕ → ℕ → Type 0
GivesUpTo old new n c = (x : Stream) → at n old.state.streams ≡ Some x → new ≡ with_put n (given_up old.state.now x) (without c old.state.exchanges) old

-- the exchange of the stream runs
abbrev pub RunsOn : Seen → Seen → ℕ → Exchange → Type 0
RunsOn old new n e = (x : Stream) → at n old.state.streams ≡ Some x → new ≡ with_put n (in_session (Running e) x) old.state.exchanges old

abbrev pub SettlesAt : Seen → ℕ → Exchange → Poll Stepped → Outs → State → List Entry → Type 0
SettlesAt old n e result out new added = (x : Stream) → at n old.state.streams ≡ Some x → Settles old.state n x e result added out new

pub gives_token : (old new : Seen) (n c : ℕ) → IsSome (at n old.state.streams) → GivesUpTo old new n c → new.token ≡ old.token
gives_token old new n c stream h = (let x = some_of (at n old.state.streams) stream in ap (λ (s : Seen). s.token) (h x.0 x.1))

pub gives_list : (old new : Seen) (n c : ℕ) → IsSome (at n old.state.streams) → GivesUpTo old new n c → new.noted.list ≡ old.noted.list
gives_list old new n c stream h = (let x = some_of (at n old.state.streams) stream in ap (λ (s : Seen). s.noted.list) (h x.0 x.1))

pub gives_alike : (old new : Seen) (n c : ℕ) → IsSome (at n old.state.streams) → GivesUpTo old new n c → Alike old new
gives_alike old new n c stream h =
    let x = some_of (at n old.state.streams) stream in
    subst (Alike old) (sym (h x.0 x.1)) (session_alike n x.0 (given_up old.state.now x.0) (without c old.state.exchanges) old x.1 refl)

pub runs_token : (old new : Seen) (n : ℕ) (e : Exchange) → IsSome (at n old.state.streams) → RunsOn old new n e → new.token ≡ old.token
runs_token old new n e stream h = (let x = some_of (at n old.state.streams) stream in ap (λ (s : Seen). s.token) (h x.0 x.1))

pub on_ok_at : {T E P : Type 0} (r : Result T E) → is_err r ≡ false → OnOk r P → P
on_ok_at (Ok x) e h = h
on_ok_at (Err y) e h = absurd (true≢false e)

module _ {D : Type 0} (told shared : Bool) (db : D) (live : Lives D) (old new : Seen) (n : ℕ) where
  pub gives_agree : (c : ℕ) → HubAgrees told shared db live old → IsSome (at n old.state.streams) → ((x : Stream) → at n old.state.streams ≡ Some x → x.session ≡ Some (Resting None)) → GivesUpTo old new n c → HubAgrees told shared db live new
  gives_agree c a stream rest h =
      let x = some_of (at n old.state.streams) stream in
      subst (HubAgrees told shared db live) (sym (h x.0 x.1)) (rests_again told shared db live n x.0 (given_up old.state.now x.0) (without c old.state.exchanges) old a x.1 (rest x.0 x.1) refl refl refl)

  pub gives_agree_running : (c : ℕ) (e : Exchange) (x : Stream) → HubAgrees told shared db live old → at n old.state.streams ≡ Some x → running_of x ≡ Some e → GivesUpTo old new n c → HubAgrees told shared db live new
  gives_agree_running c e x a known runs h =
      subst (HubAgrees told shared db live) (sym (h x known)) (rests_agree told shared db live n x (given_up old.state.now x) e (without c old.state.exchanges) old a known (running_session x e runs) refl refl refl)

  pub runs_on_agree : (e : Exchange) → HubAgrees told shared db live old → IsSome (at n old.state.streams) → ((x : Stream) → at n old.state.streams ≡ Some x → x.session ≡ Some (Resting None)) → RunsOn old new n e → HubAgrees told shared db live new
  runs_on_agree e a stream rest h =
      let x = some_of (at n old.state.streams) stream in
      subst (HubAgrees told shared db live) (sym (h x.0 x.1)) (runs_agree told shared db live n x.0 (in_session (Running e) x.0) e old.state.exchanges old a x.1 (rest x.0 x.1) refl refl refl)

module _ {X D : Type 0} {told shared : Bool} {m : Meaning D BoundStmt Answer} {db : X → D} {live : X → Lives D} {faults : X → ℕ} (engine : X) (old new : Seen) (n : ℕ) (stream : IsSome (at n old.state.streams)) where
  -- the stream was put, and no entry added
  pub put_adds_none : (y : Stream → Stream) (exchanges : Numbered ℕ) (P : List Entry → Type 0) → ((x : Stream) → (y x).task.session.state ≡ x.task.session.state) → ((x : Stream) → at n old.state.streams ≡ Some x → new ≡ with_put n (y x) exchanges old) → P []
      → Adds told shared m db live faults engine engine old new P
  put_adds_none y exchanges P same h p =
      let x = some_of (at n old.state.streams) stream in
      let is = h x.0 x.1 in
      adds_none engine old new P (ap (λ (s : Seen). s.noted.list) is) (subst (Alike old) (sym is) (session_alike n x.0 (y x.0) exchanges old x.1 (same x.0))) p

  pub gives_adds : (e : Exchange) (result : Poll Stepped) (out : Outs) → FellShort result → out ≡ empty_503 e.conn e.close → GivesUpTo old new n e.conn → Adds told shared m db live faults engine engine old new (SettlesAt old n e result out new.state)
  gives_adds e result out short given h =
      put_adds_none (given_up old.state.now) (without e.conn old.state.exchanges) (SettlesAt old n e result out new.state) (λ x. refl) h (λ x known. falls_settle old.state n x e result out new.state short given (ap (λ (s : Seen). s.state) (h x known)))

  pub runs_adds : (e : Exchange) (reply : Reply) (out : Outs) → is_over (with_reply reply e).exchange ≡ false → out ≡ nothing → RunsOn old new n (with_reply reply e) → Adds told shared m db live faults engine engine old new (SettlesAt old n e (Ready (stepped.Replied reply)) out new.state)
  runs_adds e reply out on given h =
      put_adds_none (in_session (Running (with_reply reply e))) old.state.exchanges (SettlesAt old n e (Ready (stepped.Replied reply)) out new.state) (λ x. refl) h
      (λ x known. runs_settle old.state n x e reply out new.state on given (ap (λ (s : Seen). s.state) (h x known)))

-- ---- a baton that was handed out

pub hands_alike : (n c : ℕ) (drawn : List ℕ) (x : Stream) (old new : Seen) → at n old.state.streams ≡ Some x → HandsOut old n c drawn x new → Alike old new
hands_alike n c drawn x old new known h = record {
  version = ap (λ (t : Turns). t.version) h.turns;
  next = ap (λ (m : Noted). m.next) h.noted;
  states = λ k. ap (λ (s : State). states_of s.streams k) h.state ∙ same_states n x (rested (next_baton drawn old.state) old.state.now x) old.state.streams known refl k;
}

pub hands_concludes : (n : ℕ) (x : Stream) (e : Exchange) (old new : Seen) (out : Outs) → is_shut x.task.session.state ≡ false → out ≡ (concludes false n x e old.state).given → HandsOut old n e.conn e.words x new → Concludes n x e old.state [] (Ok out) new.state
hands_concludes n x e old new out unshut given h = (refl, given ∙ ap (λ b. (concludes b n x e old.state).given) (sym unshut), h.state ∙ ap (λ b. (concludes b n x e old.state).state) (sym unshut))

pub takes_concludes : (n : ℕ) (x : Stream) (e : Exchange) (s new : State) (added : List Entry) (out : Outs) → is_shut x.task.session.state ≡ true → added ≡ [] → out ≡ (concludes true n x e s).given → new ≡ without_exchange e.conn (leaves n s) → Concludes n x e s added (Ok out) new
takes_concludes n x e s new added out shut none given left = (none, given ∙ ap (λ b. (concludes b n x e s).given) (sym shut), left ∙ ap (λ b. (concludes b n x e s).state) (sym shut))

pub err_concludes : (n : ℕ) (x : Stream) (e : Exchange) (s : State) (r : Result Outs NoMemory) → is_err r ≡ true → Concludes n x e s [] r s
err_concludes n x e s (Err short) h = (refl, refl)
err_concludes n x e s (Ok out) h = absurd (true≢false (sym h))

-- there was no memory for the answer
pub short_settles : (old mid new : Seen) (n : ℕ) (e e' : Exchange) (reply : Reply) (out : Outs) (r : Result Outs NoMemory) (added : List Entry) → is_err r ≡ true → mid ≡ old → out ≡ empty_503 e.conn e.close → GivesUpTo mid new n e.conn
    → ((x : Stream) → at n old.state.streams ≡ Some x → Concludes n x e' old.state added r mid.state) → SettlesAt old n e (Ready (stepped.Replied reply)) out new.state added
short_settles old mid new n e e' reply out (Ok given) added failed same given_is h p x known = absurd (true≢false (sym failed))
short_settles old mid new n e e' reply out (Err short) added failed same given h p x known =
    subst (λ l. Settles old.state n x e (Ready (stepped.Replied reply)) l out new.state) (sym (p x known).0)
    (falls_settle old.state n x e (Ready (stepped.Replied reply)) out new.state tt given (ap (λ (s : Seen). s.state) (h x (ap (λ (s : Seen). at n s.state.streams) same ∙ known)) ∙ ap (λ (s : Seen). gives_up n x e s.state) same))

-- what the taken exchange leaves
abbrev pub TakesOut : Seen → Seen → ℕ → Type 0
TakesOut old new n = (x : Stream) (e : Exchange) → IsRunning old.state n x e → new ≡ with_put n (in_session (Resting None) x) old.state.exchanges old

pub is_running : (s : State) (n : ℕ) (x : Stream) (e : Exchange) → at n s.streams ≡ Some x → running_of x ≡ Some e → IsRunning s n x e
is_running s n x e known runs = record { known = known; runs = runs }

pub some_rests : (n : ℕ) (x y : Stream) (old new : Seen) → at n old.state.streams ≡ Some x → new ≡ with_put n (in_session (Resting None) x) old.state.exchanges old → at n new.state.streams ≡ Some y → y.session ≡ Some (Resting None)
some_rests n x y old new known is e = (let two : Some (in_session (Resting None) x) ≡ Some y = sym (at_put n x (in_session (Resting None) x) old.state.streams known) ∙ sym (ap (λ (s : Seen). at n s.state.streams) is) ∙ e in
    ap (λ (v : Stream). v.session) (sym (some_one two)))

pub still_known : (n : ℕ) (x : Stream) (old new : Seen) → at n old.state.streams ≡ Some x → new ≡ with_put n (in_session (Resting None) x) old.state.exchanges old → at n new.state.streams ≡ Some (in_session (Resting None) x)
still_known n x old new known is = ap (λ (s : Seen). at n s.state.streams) is ∙ at_put n x (in_session (Resting None) x) old.state.streams known

-- ---- where the exchange is taken out

may_put : (n : ℕ) (y : Stream) (exchanges : Numbered ℕ) (h : Seen) → MayIssue h.state → MayIssue (with_put n y exchanges h).state
may_put n y exchanges h a = record { batons = a.batons; few = a.few }

-- the stream at the number, with its exchange
pub record Taken (old mid : Seen) (n : ℕ) (e : Exchange) : Type 0 where
  pub x : Stream
  pub known : at n old.state.streams ≡ Some x
  pub runs : running_of x ≡ Some e
  pub is : mid ≡ with_put n (in_session (Resting None) x) old.state.exchanges old

pub taken : (old mid : Seen) (n : ℕ) (e : Exchange) (r : Option Exchange) → IsSome (at n old.state.streams) → r ≡ Some e → ((x : Stream) → at n old.state.streams ≡ Some x → r ≡ running_of x) → TakesOut old mid n → Taken old mid n e
taken old mid n e r stream given running takes =
    let x = some_of (at n old.state.streams) stream in
    let runs = sym (running x.0 x.1) ∙ given in
    record { x = x.0; known = x.1; runs = runs; is = takes x.0 e (is_running old.state n x.0 e x.1 runs) }

module _ (old mid : Seen) (n : ℕ) (e : Exchange) (t : Taken old mid n e) where
  pub taken_agrees : {D : Type 0} (told shared : Bool) (db : D) (live : Lives D) → HubAgrees told shared db live old → HubAgrees told shared db live mid
  taken_agrees told shared db live a = subst (HubAgrees told shared db live) (sym t.is) (rests_agree told shared db live n t.x (in_session (Resting None) t.x) e old.state.exchanges old a t.known (running_session t.x e t.runs) refl refl refl)

  pub taken_may : MayIssue old.state → MayIssue mid.state
  taken_may a = subst (λ (h : Seen). MayIssue h.state) (sym t.is) (may_put n (in_session (Resting None) t.x) old.state.exchanges old a)

  pub taken_stopped : old.state.stopped ≡ false → mid.state.stopped ≡ false
  taken_stopped runs = ap (λ (h : Seen). h.state.stopped) t.is ∙ runs

  pub taken_rests : (y : Stream) → at n mid.state.streams ≡ Some y → y.session ≡ Some (Resting None)
  taken_rests y e = some_rests n t.x y old mid t.known t.is e

  pub taken_known : IsSome (at n mid.state.streams)
  taken_known = ap is_some (still_known n t.x old mid t.known t.is)

  pub taken_list : mid.noted.list ≡ old.noted.list
  taken_list = ap (λ (h : Seen). h.noted.list) t.is

  pub taken_token : mid.token ≡ old.token
  taken_token = ap (λ (h : Seen). h.token) t.is

  pub taken_alike : Alike old mid
  taken_alike = subst (Alike old) (sym t.is) (session_alike n t.x (in_session (Resting None) t.x) old.state.exchanges old t.known refl)

  pub taken_tells : (reply : Reply) (out : Outs) (new : State) (added : List Entry) → SettlesAt mid n e (Ready (stepped.Replied reply)) out new added
      → (x : Stream) (f : Exchange) → IsRunning old.state n x f → Settles old.state n x f (Ready (stepped.Replied reply)) added out new
  taken_tells reply out new added h x f r =
      let same : t.x ≡ x = some_one (sym t.known ∙ r.known) in
      let own : e ≡ f = some_one (sym t.runs ∙ ap running_of same ∙ r.runs) in
      let y = in_session (Resting None) t.x in
      let there = h y (still_known n t.x old mid t.known t.is) in
      let as_was = subst (λ (s : State). Settles s n y e (Ready (stepped.Replied reply)) added out new) (ap (λ (k : Seen). k.state) t.is) there in
      subst (λ z. Settles old.state n z f (Ready (stepped.Replied reply)) added out new) same
      (subst (λ g. Settles old.state n t.x g (Ready (stepped.Replied reply)) added out new) own (taken_settles old.state n t.x e reply added out new as_was))

-- its exchange runs, so there was one to take out
pub none_taken : {P : Type 0} (old : Seen) (n : ℕ) (r : Option Exchange) → IsSome (at n old.state.streams) → r ≡ None → ((x : Stream) → at n old.state.streams ≡ Some x → IsSome (running_of x)) → ((x : Stream) → at n old.state.streams ≡ Some x → r ≡ running_of x) → P
none_taken old n r stream none runs running = (let x = some_of (at n old.state.streams) stream in absurd (true≢false (sym (runs x.0 x.1) ∙ ap is_some (sym (running x.0 x.1) ∙ none))))

-- the baton was issued, the stream rests with it, and the exchange is over
pub handed_out : (n c : ℕ) (drawn : List ℕ) (x : Stream) (inside old mid : Seen) (text : List ℕ) (store : Batons) (exchanges : Numbered ℕ) → inside ≡ old → text ≡ next_baton drawn old.state → store ≡ with_baton inside.store (numbered n) drawn inside.state.now
    → mid ≡ with_state (with_streams (put n (rested text inside.state.now x) inside.state.streams) (issues inside.state)) (record inside { store = store }) → exchanges ≡ without c mid.state.exchanges → HandsOut old n c drawn x (with_state (record mid.state { exchanges = exchanges }) mid)
handed_out n c drawn x inside old mid text store exchanges view named stored is rest = record {
  state = ap (λ es. record mid.state { exchanges = es }) rest ∙ ap (λ (h : Seen). without_exchange c h.state) is
      ∙ ap (λ t. without_exchange c (with_streams (put n (rested t inside.state.now x) inside.state.streams) (issues inside.state))) named
      ∙ ap (λ (h : Seen). without_exchange c (with_streams (put n (rested (next_baton drawn old.state) h.state.now x) h.state.streams) (issues h.state))) view;
  store = ap (λ (h : Seen). h.store) is ∙ stored ∙ ap (λ (h : Seen). with_baton h.store (numbered n) drawn h.state.now) view;
  token = ap (λ (h : Seen). h.token) is ∙ ap (λ (h : Seen). h.token) view;
  turns = ap (λ (h : Seen). h.turns) is ∙ ap (λ (h : Seen). h.turns) view;
  noted = ap (λ (h : Seen). h.noted) is ∙ ap (λ (h : Seen). h.noted) view;
}

-- ---- what a poll of a stream whose exchange runs is told as

abbrev pub SettlesRunning : Seen → ℕ → Poll Stepped → Outs → State → List Entry → Type 0
SettlesRunning old n result out new added = (x : Stream) (e : Exchange) → IsRunning old.state n x e → Settles old.state n x e result added out new

pub settled_as : (old : Seen) (n : ℕ) (result result' : Poll Stepped) (out : Outs) (new : State) (added : List Entry) → result ≡ result' → SettlesRunning old n result out new added → SettlesRunning old n result' out new added
settled_as old n result result' out new added e h x f r = subst (λ p. Settles old.state n x f p added out new) e (h x f r)

module _ {X D : Type 0} {told shared : Bool} {m : Meaning D BoundStmt Answer} {db : X → D} {live : X → Lives D} {faults : X → ℕ} (engine : X) where
  pub quiet_adds : (old : Seen) (n : ℕ) (result : Poll Stepped) (out : Outs) → reply_in result ≡ None → (result ≡ Ready stepped.Broke → ⊥) → out ≡ nothing → Adds told shared m db live faults engine engine old old (SettlesRunning old n result out old.state)
  quiet_adds old n result out none whole given = adds_none engine old old (SettlesRunning old n result out old.state) refl (record { version = refl; next = refl; states = λ k. refl }) (λ x e r. rests_settle old.state n x e result out none whole given r.known)

  pub gives_running : (old new : Seen) (n : ℕ) → IsSome (at n old.state.streams) → (c : ℕ) (close : Bool) (result : Poll Stepped) (out : Outs) → FellShort result → ((x : Stream) → at n old.state.streams ≡ Some x → IsRunningFor c close x) → out ≡ empty_503 c close → GivesUpTo old new n c
      → Adds told shared m db live faults engine engine old new (SettlesRunning old n result out new.state)
  gives_running old new n stream c close result out short runs given h =
      put_adds_none engine old new n stream (given_up old.state.now) (without c old.state.exchanges) (SettlesRunning old n result out new.state) (λ x. refl) h
      (λ x e r.
      let own = runs x r.known in
      let same : own.e ≡ e = some_one (sym own.runs ∙ r.runs) in
      let conn : c ≡ e.conn = sym own.conn ∙ ap (λ (f : Exchange). f.conn) same in
      let closes : close ≡ e.close = sym own.closes ∙ ap (λ (f : Exchange). f.close) same in
      falls_settle old.state n x e result out new.state short (given ∙ ap (λ d. empty_503 d close) conn ∙ ap (empty_503 e.conn) closes)
      (ap (λ (s : Seen). s.state) (h x r.known) ∙ ap (λ d. without_exchange d (with_streams (put n (given_up old.state.now x) old.state.streams) old.state)) conn))

-- ---- after the poll, before what it gave is told

module _ (shared : Bool) (s mid : State) (n : ℕ) (x : Stream) (added : List Entry) (result : Poll Stepped) where
  pub polled_may : PollsStream shared s n x added result mid → IsAhead s → MayIssue mid
  polled_may p a =
      let issued = ap (λ (z : State). z.issued) p.left in
      let events = ap (λ (z : State). z.events) p.left in
      record { batons = omega (arith, issued, events, a.batons); few = omega (arith, events, a.few) }

  pub polled_stopped : PollsStream shared s n x added result mid → s.stopped ≡ false → mid.stopped ≡ false
  polled_stopped p runs = ap (λ (z : State). z.stopped) p.left ∙ runs

  pub polled_kind : PollsReplyToPipelines → PollsStream shared s n x added result mid → HasPipelineReply result
  polled_kind law p = by result p.polls
    where
      by : (r : Poll Stepped) → Polls shared (seen_of p.by s) x.task p.entry r p.task → HasPipelineReply r
      by (Ready (stepped.Replied reply)) h = law shared (seen_of p.by s) x.task p.task p.entry reply h
      by (Ready stepped.Ran) h = tt
      by (Ready stepped.Idle) h = tt
      by (Ready stepped.Broke) h = tt
      by Pending h = tt

  pub polled_runs : (c : ℕ) (close : Bool) → at n s.streams ≡ Some x → PollsStream shared s n x added result mid → IsRunningFor c close x → (y : Stream) → at n mid.streams ≡ Some y → IsRunningFor c close y
  polled_runs c close known p r y e =
      let same : with_task p.task x ≡ y = some_one (sym (known_left shared s mid n x added result known p) ∙ e) in
      subst (IsRunningFor c close) same (record { e = r.e; runs = r.runs; conn = r.conn; closes = r.closes })

  pub running_left : (e : Exchange) → IsRunning s n x e → (p : PollsStream shared s n x added result mid) → IsRunning mid n (with_task p.task x) e
  running_left e r p = record { known = known_left shared s mid n x added result r.known p; runs = r.runs }

-- ---- want of memory before the engine is called

pub early_gives : (shared : Bool) (h : Seen) (n : ℕ) (x : Stream) (e : Exchange) (out : Outs) (new : State) → TurnIsWriters h.turns (states_of h.state.streams) → is_waiting x.task.asks ≡ true → out ≡ empty_503 e.conn e.close → new ≡ gives_up n x e h.state → Ends shared h.state n x e [] out new
early_gives shared h n x e out new turn waits given left = short_as out _ _ (ap is_short given) (record {
  by = h.turns.turn;
  writer = turn;
  entry = None;
  result = Ready stepped.Broke;
  task = with_asks x.task x.task.session.state [];
  polls = early shared (seen_of h.turns.turn h.state) x.task x.task.asks waits;
  short = tt;
  one = refl;
  given = given;
  left = left;
})

-- the exchange of the stream is that of the connection
pub gives_left : (old mid new : Seen) (n c : ℕ) (close : Bool) (x : Stream) (r : IsRunningFor c close x) → mid.state ≡ old.state → new ≡ with_put n (given_up mid.state.now x) (without c mid.state.exchanges) mid → new.state ≡ gives_up n x r.e old.state
gives_left old mid new n c close x r same is =
    ap (λ (h : Seen). h.state) is ∙ ap (λ (s : State). record s { streams = put n (given_up s.now x) s.streams; exchanges = without c s.exchanges }) same
    ∙ ap (λ d. record old.state { streams = put n (given_up old.state.now x) old.state.streams; exchanges = without d old.state.exchanges }) (sym r.conn)

pub gives_answer : (out : Outs) (c : ℕ) (close : Bool) (x : Stream) (r : IsRunningFor c close x) → out ≡ empty_503 c close → out ≡ empty_503 r.e.conn r.e.close
gives_answer out c close x r given = given ∙ ap (λ d. empty_503 d close) (sym r.conn) ∙ ap (empty_503 r.e.conn) (sym r.closes)

-- ---- whom the stream answers

pub nobody_rests : (x : Stream) → asker_of x ≡ asker.Nobody → (baton : Option Issued) × (x.session ≡ Some (Resting baton))
nobody_rests x e = by x.session refl e
  where
    by : (v : Option Session) → x.session ≡ v → asker_in v x ≡ asker.Nobody → (baton : Option Issued) × (x.session ≡ Some (Resting baton))
    by None is f = absurd (cc)
    by (Some (Resting baton)) is f = (baton, is)
    by (Some (Running g)) is f = absurd (cc)

pub connection_answers : (x : Stream) (c : ℕ) → asker_of x ≡ asker.Connection c → (x.session ≡ None) × (x.conn ≡ c)
connection_answers x c e = by x.session refl e
  where
    by : (v : Option Session) → x.session ≡ v → asker_in v x ≡ asker.Connection c → (x.session ≡ None) × (x.conn ≡ c)
    by None is f = (is, cc)
    by (Some (Resting baton)) is f = absurd (cc)
    by (Some (Running g)) is f = absurd (cc)

pub exchange_answers : (x : Stream) (c : ℕ) (close : Bool) → asker_of x ≡ asker.Exchange c close → IsRunningFor c close x
exchange_answers x c close e = by x.session refl e
  where
    by : (v : Option Session) → x.session ≡ v → asker_in v x ≡ asker.Exchange c close → IsRunningFor c close x
    by None is f = absurd (cc)
    by (Some (Resting baton)) is f = absurd (cc)
    by (Some (Running g)) is f = record { e = g; runs = ap exchange_in is; conn = cc; closes = cc }

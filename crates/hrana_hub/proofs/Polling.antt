-- A poll of a stream is a step of the hub.
use Rattle.std.proofs.Common.{◌≡◌, ◌≢◌, ◌≤◌, ◌+◌, ◌-◌, ℕ, Bool, true, false, not, List, [], ◌∷◌, ◌++◌, length, Option, None, Some, option_to_list, MatchBool, refl, sym, ap, ◌∙◌, subst, arith, inr, append-nil, is_some, true≢false, ℤ, IsTrue}
use Rattle.std.specs.Option.{IsSome}
use Rattle.serial_order.specs.Serial.{Meaning}
use Rattle.http_wire.specs.declared.outs.Outs.{Outs}
use Rattle.stream_requests.specs.declared.replies.Reply.{Reply}
use Rattle.stream_requests.specs.declared.replies.Reply.TheVariants as reply
use Rattle.ws_messages.specs.Server.{answering}
use Rattle.engine_core.specs.Transactions.{Lives}
use Rattle.engine_core.specs.declared.statement.BoundStmt.{BoundStmt}
use Rattle.engine_core.specs.declared.entries.Answer.{Answer}
use Rattle.engine_core.specs.declared.entries.Entry.{Entry}
use Rattle.engine_core.specs.declared.entries.Entry.TheVariants as entry
use Rattle.engine_core.specs.declared.entries.How.TheVariants as how
use Rattle.engine_core.specs.declared.entries.Undo.{Undo}
use Rattle.engine_core.specs.declared.entries.Undo.TheVariants as undo
use Rattle.stream_task.specs.Adds.{next_by, undone_of}
use Rattle.stream_task.specs.Leads.{PollsLead}
use Rattle.stream_task.specs.Moved.{version_by, Rests}
use Rattle.stream_task.specs.Polls.{Task, Polls, PollsAsks, with_asks, is_waiting, is_pending}
use Rattle.stream_task.specs.Table.{Seen as Sees}
use Rattle.stream_task.specs.Together.{Put, HasPolled, PollsTogether, TurnIsWriters}
use Rattle.stream_task.specs.declared.session.TxnState.{TxnState}
use Rattle.stream_task.specs.declared.session.TxnState.TheVariants.{Auto, Deferred, Reading, Writing, Dead, Closed}
use Rattle.stream_task.specs.declared.task.Poll.{Poll}
use Rattle.stream_task.specs.declared.task.Poll.TheVariants.{Ready}
use Rattle.stream_task.specs.declared.task.Stepped.{Stepped}
use Rattle.stream_task.specs.declared.task.Stepped.TheVariants as stepped
use Rattle.stream_task.specs.declared.work.Work.{Work}
use Rattle.hrana_hub.specs.Maps.{Numbered, at, put, without}
use Rattle.hrana_hub.specs.State.{Conn, Stream, State, Seen, states_of, with_state}
use Rattle.hrana_hub.specs.Adds.{Adds, LeadsOn}
use Rattle.baton_store.specs.Batons.{Batons}
use Rattle.hrana_hub.specs.Agrees.{HubAgrees, IsAhead, IsTied, open_units}
use Rattle.hrana_hub.specs.Ended.{end_of}
use Rattle.hrana_hub.specs.Arrivals.{nothing, quiet, tells, with_conn, shut}
use Rattle.hrana_hub.specs.Polled.{Polled, PollFell, with_entry, with_streams, with_task, passed, seen_of, reply_in, is_over, polled, streams_left, replied, dropped, is_closed, first_id, answer, FellShort}
use Rattle.hrana_hub.specs.Settled.{PollsStream, Settles, PollEnds, Tells, Drops, after_told, after_fall, after_passed}
use Rattle.hrana_hub.specs.Calls.{is_heard}
use Rattle.hrana_hub.specs.Step.{is_short, closes_short, Goes, Heard, PolledBy, PolledAt, PollFellOn, PollFellBy, PollFellAt, PollSteps}
use Rattle.hrana_hub.specs.ExchangeSettled.{Ends}
use Rattle.hrana_hub.specs.declared.sessions.Issued.{Issued}
use Rattle.hrana_hub.specs.declared.sessions.Running.{Running as Exchange}
use Rattle.hrana_hub.specs.declared.sessions.Session.TheVariants.{Resting, Running}
use Rattle.hrana_hub.proofs.Adding.{Alike, adds_none, adds_from, adds_one}
use Rattle.hrana_hub.proofs.EntryLemmas.{at_put, put_same, put_put, without_put, length_put}
use Rattle.hrana_hub.proofs.Waiting.{waiters_put}
use Rattle.hrana_hub.proofs.Agreeing.{state_is, put_states, same_states, numbers_put, units_few, stays_agrees}
use Rattle.hrana_hub.proofs.Ending.{number_of, state_at}
use Rattle.hrana_hub.proofs.Tied.{tied_put}

-- ---- a poll, before what it gave is told

-- what the poll of the stream at a number did
pub record PollDid {X D : Type 0} (told shared : Bool) (m : Meaning D BoundStmt Answer) (db : X → D) (live : X → Lives D) (faults : X → ℕ) (engine engine' : X) (n : ℕ) (x : Stream) (task : Task) (result : Poll Stepped) (old new : Seen) : Type 0 where
  pub agrees : HubAgrees told shared (db engine) (live engine) old
  pub ahead : IsAhead old.state
  pub room : length old.state.streams + 2 ≤ old.noted.spare
  pub known : at n old.state.streams ≡ Some x
  pub did : HasPolled told shared m db live faults engine engine' old.turns new.turns old.noted new.noted x.task task result
  pub spare : old.noted.spare ≤ new.noted.spare + 1
  pub conns : new.state.conns ≡ old.state.conns
  pub streams : new.state.streams ≡ put n (with_task task x) old.state.streams
  pub exchanges : new.state.exchanges ≡ old.state.exchanges
  pub issued : new.state.issued ≡ old.state.issued
  pub store : new.store ≡ old.store
  pub opened : new.state.opened ≡ old.state.opened
  pub next : new.state.next ≡ new.noted.next
  pub version : new.state.version ≡ new.turns.version
  pub events : new.state.events ≡ old.state.events
  pub now : new.state.now ≡ old.state.now
  pub stopped : new.state.stopped ≡ old.state.stopped

-- one entry takes at most one number
next_one : (n : ℕ) (e : Option Entry) → next_by n e ≤ n + 1
next_one n None = omega arith
next_one n (Some (entry.Alone by stmt given wrote)) = omega arith
next_one n (Some (entry.Began unit by)) = omega arith
next_one n (Some (entry.Ran unit stmt given)) = omega arith
next_one n (Some (entry.Denied unit why)) = omega arith
next_one n (Some (entry.Ended unit end)) = omega arith
next_one n (Some (entry.Failed by unit cause)) = omega arith

-- it is at most one commit
version_one : (v : ℕ) (e : Option Entry) → version_by e v ≤ v + 1
version_one v None = omega arith
version_one v (Some (entry.Alone by stmt given true)) = omega arith
version_one v (Some (entry.Alone by stmt given false)) = omega arith
version_one v (Some (entry.Began unit by)) = omega arith
version_one v (Some (entry.Ran unit stmt given)) = omega arith
version_one v (Some (entry.Denied unit why)) = omega arith
version_one v (Some (entry.Ended unit how.Committed)) = omega arith
version_one v (Some (entry.Ended unit how.Read)) = omega arith
version_one v (Some (entry.Ended unit (how.Undone why))) = omega arith
version_one v (Some (entry.Failed by unit cause)) = omega arith

module _ {X D : Type 0} (told shared : Bool) (m : Meaning D BoundStmt Answer) (db : X → D) (live : X → Lives D) (faults : X → ℕ) (engine engine' : X) (n : ℕ) (x : Stream) (task : Task) (result : Poll Stepped) (old new : Seen) (p : PollDid told shared m db live faults engine engine' n x task result old new) where
  next_left : new.state.next ≡ next_by old.state.next p.did.adds.added
  next_left = p.next ∙ p.did.adds.next ∙ ap (λ k. next_by k p.did.adds.added) (sym p.agrees.next)

  version_left : new.state.version ≡ version_by p.did.adds.added old.state.version
  version_left = p.version ∙ p.did.adds.moved.version ∙ ap (version_by p.did.adds.added) (sym p.agrees.version)

  -- the states of the streams, with the one that its number has now
  states_left : Put (states_of old.state.streams) (states_of new.state.streams) x.task.stream.0 (Some task.session.state)
  states_left =
      let put_at : Put (states_of old.state.streams) (states_of new.state.streams) n (Some task.session.state) = subst (λ es. Put (states_of old.state.streams) (states_of es) n (Some task.session.state)) (sym p.streams) (put_states n x (with_task task x) old.state.streams p.known) in
      subst (λ k. Put (states_of old.state.streams) (states_of new.state.streams) k (Some task.session.state)) (sym (number_of told shared (db engine) (live engine) old n x p.agrees p.known)) put_at

  its_state : states_of old.state.streams x.task.stream.0 ≡ Some x.task.session.state
  its_state = state_at told shared (db engine) (live engine) old n x p.agrees p.known

  pub poll_agrees : PollsTogether told shared m db live faults → HubAgrees told shared (db engine') (live engine') new
  poll_agrees law =
      let h = p.agrees in
      let moved = p.did.adds.moved in
      record {
        together = law engine engine' old.turns new.turns old.noted new.noted x.task task result (states_of old.state.streams) (states_of new.state.streams) h.together its_state p.did states_left;
        waiters = λ k w. subst (λ es. IsSome (at k es)) (sym p.streams)
            (waiters_put n x (with_task task x) old.state.streams (is_pending result) p.did.adds.added old.turns new.turns p.known (subst (λ s. Rests s (is_pending result) p.did.adds.added old.turns new.turns) (h.numbers.own n x p.known) moved.rests) h.waiters k w);
        numbers = numbers_put old.state new.state n x (with_task task x) p.known p.did.stream p.streams p.opened h.numbers;
        version = p.version;
        next = p.next;
        places = (let units = units_few (put n (with_task task x) old.state.streams) in let left = ap open_units p.streams in let long = length_put n (with_task task x) old.state.streams in omega (arith, units, left, long, p.spare, p.room));
        counts = record {
          streams = omega (arith, p.opened, p.events, h.counts.streams);
          units = omega (arith, next_left, next_one old.state.next p.did.adds.added, p.events, p.ahead.units);
          commits = omega (arith, version_left, version_one old.state.version p.did.adds.added, p.events, p.ahead.commits);
          batons = omega (arith, p.issued, p.events, p.ahead.batons);
        };
        tied = λ runs. subst (IsTied new.state.streams) (sym p.store) (subst (λ es. IsTied es old.store) (sym p.streams) (tied_put n x (with_task task x) old.state.streams old.store p.known refl (h.tied (sym p.stopped ∙ runs))));
        issued = ap (λ (b : Batons). b.issued) p.store ∙ h.issued ∙ sym p.issued;
      }

  here : TurnIsWriters old.turns (states_of old.state.streams) → PollsStream shared old.state n x (option_to_list p.did.adds.added) result new.state
  here turn =
      let e = p.did.adds.added in
      record {
        by = old.turns.turn;
        writer = turn;
        entry = e;
        task = task;
        polls = subst (λ v. Polls shared (record { by = old.turns.turn; version = v; next = old.state.next }) x.task e result task) (sym p.agrees.version)
            (subst (λ k. Polls shared (record { by = old.turns.turn; version = old.turns.version; next = k }) x.task e result task) (sym p.agrees.next) p.did.adds.holds);
        one = refl;
        left = state_is new.state (with_entry e (with_streams (put n (with_task task x) old.state.streams) old.state)) p.conns p.streams p.exchanges p.issued p.opened next_left version_left p.events p.now p.stopped;
      }

  poll_leads : PollsLead told shared m db live faults → IsTrue told → LeadsOn shared m (db engine) (live engine) (db engine') (live engine') old new (option_to_list p.did.adds.added)
  poll_leads law sure first journal h = law engine engine' old.turns new.turns old.noted new.noted x.task task result (states_of old.state.streams) (states_of new.state.streams) sure p.agrees.together its_state p.did states_left first journal h

  pub poll_adds : TurnIsWriters old.turns (states_of old.state.streams) → PollsLead told shared m db live faults
      → Adds told shared m db live faults engine engine' old new (λ added. (y : Stream) → at n old.state.streams ≡ Some y → PollsStream shared old.state n y added result new.state)
  poll_adds turn law = adds_one x.task.stream engine engine' old.turns new.turns old new (is_pending result) _ _ p.did.adds (poll_leads law)
      (λ y e. (let two : Some x ≡ Some y = sym p.known ∙ e in
      let same : x ≡ y = cc in
      subst (λ v. PollsStream shared old.state n v (option_to_list p.did.adds.added) result new.state) same (here turn)))

-- ---- what it gave is told

short : (out : Outs) (A B : Type 0) → is_short out ≡ true → A → MatchBool (is_short out) A B
short out A B e a = subst (λ b. MatchBool b A B) (sym e) a

found : (out : Outs) (A B : Type 0) → is_short out ≡ false → B → MatchBool (is_short out) A B
found out A B e b = subst (λ c. MatchBool c A B) (sym e) b

-- a stream that was put, and is put or let go of again
left_twice : (over : Bool) (n : ℕ) (x y : Stream) (es : Numbered Stream) → streams_left over n y (put n x es) ≡ streams_left over n y es
left_twice true n x y es = without_put n x es
left_twice false n x y es = put_put n x y es

none_replied : (n : ℕ) (k : Conn) → replied n false None k ≡ k
none_replied n k =
    let less : k.outstanding - 0 ≡ k.outstanding = omega arith in
    ap (λ (o : ℕ). let l : Conn = record { greeted = k.greeted; closing = k.closing; texts = k.texts; ids = k.ids; streams = k.streams; outstanding = o } in l) less

-- where no reply is given nothing changes
pub untold : (n c : ℕ) (x : Stream) (k : Conn) (s : State) → at c s.conns ≡ Some k → at n s.streams ≡ Some x → s ≡ after_told n c k x None s
untold n c x k s e f = state_is s (after_told n c k x None s) (sym (ap (λ l. put c l s.conns) (none_replied n k) ∙ put_same c k s.conns e)) (sym (put_same n x s.streams f)) refl refl refl refl refl refl refl refl

told_polled : (shared : Bool) (s mid new : State) (n c : ℕ) (x : Stream) (k : Conn) (added : List Entry) (result : Poll Stepped) (out : Outs) → (p : PollsStream shared s n x added result mid) → Tells mid n c (with_task p.task x) k result out new → Polled shared s n c x k added out new
told_polled shared s mid new n c x k added result out p t = record {
  by = p.by;
  writer = p.writer;
  entry = p.entry;
  result = result;
  task = p.task;
  polls = p.polls;
  found = t.found;
  one = p.one;
  given = t.given;
  left = t.left ∙ ap (after_told n c k (with_task p.task x) (reply_in result)) p.left
      ∙ ap (λ es. with_entry p.entry (with_conn c (replied n (is_over (reply_in result) p.task) (reply_in result) k) (with_streams es s))) (left_twice (is_over (reply_in result) p.task) n (with_task p.task x) (polled s.now (reply_in result) p.task x) s.streams);
}

fell_polled : (shared : Bool) (s mid new : State) (n c : ℕ) (x : Stream) (k : Conn) (added : List Entry) (result : Poll Stepped) (out : Outs) → (p : PollsStream shared s n x added result mid) → Drops mid n c (with_task p.task x) k result out new → PollFell shared s n c x k added out new
fell_polled shared s mid new n c x k added result out p t = record {
  by = p.by;
  writer = p.writer;
  entry = p.entry;
  result = result;
  task = p.task;
  polls = p.polls;
  short = t.short;
  one = p.one;
  given = t.given;
  left = t.left ∙ ap (after_fall n c k (with_task p.task x)) p.left
      ∙ ap (λ es. with_entry p.entry (with_conn c (shut k) (with_streams es s))) (put_put n (with_task p.task x) (dropped p.task x) s.streams);
}

match_both : (b : Bool) (A B C D : Type 0) → (A → C) → (B → D) → MatchBool b A B → MatchBool b C D
match_both true A B C D f g h = f h
match_both false A B C D f g h = g h

-- a poll, and what it gave told
pub poll_ends : (shared : Bool) (s mid new : State) (n c : ℕ) (x : Stream) (k : Conn) (added more : List Entry) (result : Poll Stepped) (out : Outs) → (p : PollsStream shared s n x added result mid) → Settles mid n c (with_task p.task x) k result more out new → PollEnds shared s n c x k (added ++ more) out new
poll_ends shared s mid new n c x k added more result out p t =
    subst (λ es. PollEnds shared s n c x k es out new) (sym (ap (λ l. added ++ l) t.none ∙ append-nil added))
    (match_both (is_short out) _ _ _ _ (fell_polled shared s mid new n c x k added result out p) (told_polled shared s mid new n c x k added result out p) t.does)

-- what stands there after the poll
pub known_left : (shared : Bool) (s mid : State) (n : ℕ) (x : Stream) (added : List Entry) (result : Poll Stepped) → at n s.streams ≡ Some x → (p : PollsStream shared s n x added result mid) → at n mid.streams ≡ Some (with_task p.task x)
known_left shared s mid n x added result e p = ap (λ (z : State). at n z.streams) p.left ∙ at_put n x (with_task p.task x) s.streams e

pub conns_left : (shared : Bool) (s mid : State) (n : ℕ) (x : Stream) (added : List Entry) (result : Poll Stepped) → PollsStream shared s n x added result mid → mid.conns ≡ s.conns
conns_left shared s mid n x added result p = ap (λ (z : State). z.conns) p.left

-- a reply of a stream that isn't over
pub passed_on : (s new : State) (n c : ℕ) (x : Stream) (k : Conn) (reply : Reply) → is_closed x.task.session.state ≡ false → new ≡ after_passed n c k x reply s → new ≡ after_told n c k x (Some reply) s
passed_on s new n c x k reply still e = e ∙ sym (ap (λ over. with_conn c (replied n (is_closed x.task.session.state) (Some reply) k) (with_streams (streams_left over n (passed s.now x) s.streams) s)) still)

-- a reply of a stream that is over, which is let go of then
pub passed_over : (s mid new : State) (n c : ℕ) (x : Stream) (k : Conn) (reply : Reply) → is_closed x.task.session.state ≡ true → mid ≡ after_passed n c k x reply s → new ≡ with_streams (without n mid.streams) mid → new ≡ after_told n c k x (Some reply) s
passed_over s mid new n c x k reply over e f =
    f ∙ ap (λ (z : State). with_streams (without n z.streams) z) e
    ∙ ap (λ es. with_conn c (replied n (is_closed x.task.session.state) (Some reply) k) (with_streams es s)) (without_put n (passed s.now x) s.streams)
    ∙ sym (ap (λ b. with_conn c (replied n (is_closed x.task.session.state) (Some reply) k) (with_streams (streams_left b n (passed s.now x) s.streams) s)) over)

-- it has no unit
closed_ends : (why : Undo) (state : TxnState) → is_closed state ≡ true → option_to_list (undone_of why state) ≡ []
closed_ends why Closed e = refl
closed_ends why Auto e = absurd (cc)
closed_ends why Deferred e = absurd (cc)
closed_ends why (Reading unit had) e = absurd (cc)
closed_ends why (Writing unit) e = absurd (cc)
closed_ends why (Dead cause) e = absurd (cc)

pub over_ends : (why : Undo) (s mid : State) (n c : ℕ) (x : Stream) (k : Conn) (reply : Reply) → is_closed x.task.session.state ≡ true → at n s.streams ≡ Some x → mid ≡ after_passed n c k x reply s → end_of why (at n mid.streams) ≡ []
over_ends why s mid n c x k reply over known e =
    ap (end_of why) (ap (λ (z : State). at n z.streams) e ∙ at_put n x (passed s.now x) s.streams known) ∙ closed_ends why x.task.session.state over

-- ---- a stream and its connection

-- both are known
pub record Known (h : Seen) (n c : ℕ) : Type 0 where
  pub conn : Conn
  pub stream : Stream
  pub conn_at : at c h.state.conns ≡ Some conn
  pub stream_at : at n h.state.streams ≡ Some stream

pub some_of : {A : Type 0} (o : Option A) → IsSome o → (x : A) × (o ≡ Some x)
some_of None e = absurd (true≢false (sym e))
some_of (Some x) e = (x, refl)

pub both_known : (h : Seen) (n c : ℕ) → IsSome (at c h.state.conns) → IsSome (at n h.state.streams) → Known h n c
both_known h n c e f =
    let k = some_of (at c h.state.conns) e in
    let x = some_of (at n h.state.streams) f in
    record { conn = k.0; stream = x.0; conn_at = k.1; stream_at = x.1 }

pub is_known : {A : Type 0} (o : Option A) (x : A) → o ≡ Some x → IsSome o
is_known o x e = ap is_some e

-- the stream has another task in the same state, and the connection changed
pub record PutBoth (old new : Seen) (n c : ℕ) : Type 0 where
  pub before : Stream
  pub after : Stream
  pub conn : Conn
  pub known : at n old.state.streams ≡ Some before
  pub stream : after.task.stream ≡ before.task.stream
  pub state : after.task.session.state ≡ before.task.session.state
  pub session : after.session ≡ before.session
  pub is : new ≡ with_state (with_conn c conn (with_streams (put n after old.state.streams) old.state)) old

pub put_agrees : {D : Type 0} (told shared : Bool) (db : D) (live : Lives D) (old new : Seen) (n c : ℕ) → PutBoth old new n c → HubAgrees told shared db live old → HubAgrees told shared db live new
put_agrees told shared db live old new n c p h =
    let left : Seen = with_state (with_conn c p.conn (with_streams (put n p.after old.state.streams) old.state)) old in
    subst (HubAgrees told shared db live) (sym p.is)
    (stays_agrees told shared db live old left n p.before p.after h p.known p.stream p.state p.session (record { moves = record { streams_are = refl; opened = refl; next = refl; version = refl; events = omega arith; turns = refl; noted = refl; places = omega arith }; stays = record { issued = refl; stopped = refl; store = refl } }))

pub put_token : (old new : Seen) (n c : ℕ) → PutBoth old new n c → new.token ≡ old.token
put_token old new n c p = ap (λ (h : Seen). h.token) p.is

pub put_list : (old new : Seen) (n c : ℕ) → PutBoth old new n c → new.noted.list ≡ old.noted.list
put_list old new n c p = ap (λ (h : Seen). h.noted.list) p.is

pub put_alike : (old new : Seen) (n c : ℕ) → PutBoth old new n c → Alike old new
put_alike old new n c p = record {
  version = ap (λ (h : Seen). h.turns.version) p.is;
  next = ap (λ (h : Seen). h.noted.next) p.is;
  states = λ k. ap (λ (h : Seen). states_of h.state.streams k) p.is ∙ same_states n p.before p.after old.state.streams p.known p.state k;
}

-- ---- a reply that was told

abbrev pub Passes : Seen → Seen → ℕ → ℕ → Type 0
Passes old new n c = (k : Conn) (x : Stream) (reply : Reply) → at c old.state.conns ≡ Some k → at n old.state.streams ≡ Some x → new ≡ with_state (after_passed n c k x reply old.state) old

pub passes_put : (old new : Seen) (n c : ℕ) → Known old n c → Passes old new n c → PutBoth old new n c
passes_put old new n c e p = record {
  before = e.stream;
  after = passed old.state.now e.stream;
  conn = replied n (is_closed e.stream.task.session.state) (Some reply.Closed) e.conn;
  known = e.stream_at;
  stream = refl;
  state = refl;
  session = refl;
  is = p e.conn e.stream reply.Closed e.conn_at e.stream_at;
}

abbrev pub with_conns : Numbered Conn → Seen → Seen
with_conns conns h = with_state (record h.state { conns = conns }) h

-- the first request of the stream was passed, and then its connection was told
pub both_passed : (old mid : Seen) (n c : ℕ) (over : Bool) (k : Conn) (x : Stream) (reply : Reply) (conns : Numbered Conn) → mid ≡ with_state (with_streams (put n (passed old.state.now x) old.state.streams) old.state) old → over ≡ is_closed x.task.session.state → conns ≡ put c (replied n over (Some reply) k) mid.state.conns
    → with_conns conns mid ≡ with_state (after_passed n c k x reply old.state) old
both_passed old mid n c over k x reply conns is closed told =
    ap (λ l. with_conns l mid) told ∙ ap (λ (h : Seen). with_conns (put c (replied n over (Some reply) k) h.state.conns) h) is
    ∙ ap (λ b. with_state (with_conn c (replied n b (Some reply) k) (with_streams (put n (passed old.state.now x) old.state.streams) old.state)) old) closed

abbrev pub IsTold : Seen → Seen → ℕ → ℕ → List Entry → Type 0
IsTold old new n c added = (k : Conn) (x : Stream) (reply : Reply) → at c old.state.conns ≡ Some k → at n old.state.streams ≡ Some x → (added ≡ []) × (new.state ≡ after_told n c k x (Some reply) old.state)

abbrev pub TellsOver : Seen → ℕ → Bool → Type 0
TellsOver h n over = (x : Stream) → at n h.state.streams ≡ Some x → over ≡ is_closed x.task.session.state

module _ {X D : Type 0} {told shared : Bool} {m : Meaning D BoundStmt Answer} {db : X → D} {live : X → Lives D} {faults : X → ℕ} where
  -- a stream and its connection were put, and no entry added
  pub put_adds : (engine : X) (old new : Seen) (n c : ℕ) (P : List Entry → Type 0) → PutBoth old new n c → P [] → Adds told shared m db live faults engine engine old new P
  put_adds engine old new n c P put p = adds_none engine old new P (put_list old new n c put) (put_alike old new n c put) p

  pub pass_adds : (engine : X) (old new : Seen) (n c : ℕ) (over : Bool) → Known old n c → Passes old new n c → TellsOver old n over → over ≡ false → Adds told shared m db live faults engine engine old new (IsTold old new n c)
  pass_adds engine old new n c over e p o kept = put_adds engine old new n c (IsTold old new n c) (passes_put old new n c e p)
      (λ k x reply ek ex. (refl, passed_on old.state new.state n c x k reply (sym (o x ex) ∙ kept) (ap (λ (h : Seen). h.state) (p k x reply ek ex))))

  pub pass_over_adds : (engine engine' : X) (old mid new : Seen) (n c : ℕ) (over : Bool) → Known old n c → Passes old mid n c → TellsOver old n over → over ≡ true → new.state ≡ with_streams (without n mid.state.streams) mid.state
      → Adds told shared m db live faults engine engine' mid new (λ added. added ≡ end_of undo.Lost (at n mid.state.streams)) → Adds told shared m db live faults engine engine' old new (IsTold old new n c)
  pass_over_adds engine engine' old mid new n c over e p o gone left = adds_from engine engine' old mid new _ (IsTold old new n c) (put_list old mid n c (passes_put old mid n c e p)) (put_alike old mid n c (passes_put old mid n c e p))
      (λ added ends k x reply ek ex.
      let closed : is_closed x.task.session.state ≡ true = sym (o x ex) ∙ gone in
      let is : mid.state ≡ after_passed n c k x reply old.state = ap (λ (h : Seen). h.state) (p k x reply ek ex) in
      (ends ∙ over_ends undo.Lost old.state mid.state n c x k reply closed ex is, passed_over old.state mid.state new.state n c x k reply closed is left))

-- ---- want of memory

abbrev pub FallsTo : Seen → Seen → ℕ → ℕ → Type 0
FallsTo old new n c = (k : Conn) (x : Stream) → at c old.state.conns ≡ Some k → at n old.state.streams ≡ Some x → new ≡ with_state (after_fall n c k x old.state) old

pub falls_put : (old new : Seen) (n c : ℕ) → Known old n c → FallsTo old new n c → PutBoth old new n c
falls_put old new n c e p = record {
  before = e.stream;
  after = dropped e.stream.task e.stream;
  conn = shut e.conn;
  known = e.stream_at;
  stream = refl;
  state = refl;
  session = refl;
  is = p e.conn e.stream e.conn_at e.stream_at;
}

-- ---- what a poll gave is told

abbrev pub Settled : Seen → ℕ → ℕ → Poll Stepped → Outs → State → List Entry → Type 0
Settled h n c result out new added = (k : Conn) (x : Stream) → at c h.state.conns ≡ Some k → at n h.state.streams ≡ Some x → Settles h.state n c x k result added out new

pub settle_fell : (old new : Seen) (n c : ℕ) (result : Poll Stepped) (out : Outs) → FellShort result → out ≡ closes_short c → FallsTo old new n c → Settled old n c result out new.state []
settle_fell old new n c result out less given f k x ek ex = record {
  none = refl;
  does = short out _ _ (ap is_short given) (record { short = less; given = given; left = ap (λ (h : Seen). h.state) (f k x ek ex) });
}

pub settle_quiet : (h : Seen) (n c : ℕ) (result : Poll Stepped) (out : Outs) → reply_in result ≡ None → result ≢ Ready stepped.Broke → out ≡ nothing → Settled h n c result out h.state []
settle_quiet h n c result out none fine given k x ek ex = record {
  none = refl;
  does = found out _ _ (ap is_short given) (record { found = fine; given = given ∙ ap (answer c x.waits) (sym none); left = untold n c x k h.state ek ex ∙ ap (λ o. after_told n c k x o h.state) (sym none) });
}

replied_found : (reply : Reply) → ◌≢◌ {A = Poll Stepped} (Ready (stepped.Replied reply)) (Ready stepped.Broke)
replied_found reply e = cc

-- the id that was answered is that of the first request
pub settle_told : (old new : Seen) (n c : ℕ) (id : ℤ) (reply : Reply) (out : Outs) (added : List Entry) → out ≡ tells c (answering id reply) → ((x : Stream) → at n old.state.streams ≡ Some x → id ≡ first_id x.waits) → IsTold old new n c added → Settled old n c (Ready (stepped.Replied reply)) out new.state added
settle_told old new n c id reply out added given first t k x ek ex =
    let is = t k x reply ek ex in
    record {
      none = is.0;
      does = found out _ _ (ap is_short given) (record { found = replied_found reply; given = given ∙ ap (λ i. tells c (answering i reply)) (first x ex); left = is.1 });
    }

-- ---- want of memory before the engine is called

pub early : (shared : Bool) (seen : Sees) (old : Task) (asks : List Work) → is_waiting asks ≡ true → PollsAsks shared seen old asks None (Ready stepped.Broke) (with_asks old old.session.state [])
early shared seen old [] e = absurd (cc)
early shared seen old (w ∷ rest) e = record {
  advanced = _;
  polls = inr (record { no_entry = refl; answer = refl });
  answer = refl;
  after = refl;
}

pub early_fall : (shared : Bool) (h : Seen) (n c : ℕ) (x : Stream) (k : Conn) (out : Outs) (new : State) → TurnIsWriters h.turns (states_of h.state.streams) → is_waiting x.task.asks ≡ true → out ≡ closes_short c → new ≡ after_fall n c k x h.state → PollEnds shared h.state n c x k [] out new
early_fall shared h n c x k out new turn waits given left = short out _ _ (ap is_short given) (record {
  by = h.turns.turn;
  writer = turn;
  entry = None;
  result = Ready stepped.Broke;
  task = with_asks x.task x.task.session.state [];
  polls = early shared (seen_of h.turns.turn h.state) x.task x.task.asks waits;
  short = tt;
  one = refl;
  given = given;
  left = left;
})

unheard : (s : State) (o : Option Conn) (Does : Conn → Type 0) (out : Outs) → is_heard o ≡ false → out ≡ nothing → Heard s o Does [] out s
unheard s None Does out e given = record { none = refl; given = given; left = refl }
unheard s (Some k) Does out e given = by k.closing e
  where
    by : (b : Bool) → not b ≡ false → MatchBool b (Goes (quiet s) [] out s) (Does k)
    by true f = record { none = refl; given = given; left = refl }
    by false f = absurd (true≢false f)

-- ---- a poll that isn't one of a stream with something to do

pub polls_unknown : (shared : Bool) (s : State) (n : ℕ) (out : Outs) → out ≡ nothing → at n s.streams ≡ None → PollSteps shared s n [] out s
polls_unknown shared s n out given none = found out _ _ (ap is_short given) (subst (λ o. PolledAt shared s n o [] out s) (sym none) (record { none = refl; given = given; left = refl }))

pub polls_idle : (shared : Bool) (s : State) (n : ℕ) (x : Stream) (out : Outs) → out ≡ nothing → at n s.streams ≡ Some x → is_waiting x.task.asks ≡ false → PollSteps shared s n [] out s
polls_idle shared s n x out given known idle = found out _ _ (ap is_short given) (subst (λ o. PolledAt shared s n o [] out s) (sym known)
    (subst (λ b. MatchBool b (PolledBy x.session shared s n x [] out s) (Goes (quiet s) [] out s)) (sym idle) (record { none = refl; given = given; left = refl })))

-- ---- a stream that has something to do

polled_at : (shared : Bool) (s : State) (n : ℕ) (x : Stream) (added : List Entry) (out : Outs) (new : State) → at n s.streams ≡ Some x → is_waiting x.task.asks ≡ true → PolledBy x.session shared s n x added out new → PolledAt shared s n (at n s.streams) added out new
polled_at shared s n x added out new known waits h = subst (λ o. PolledAt shared s n o added out new) (sym known) (subst (λ b. MatchBool b (PolledBy x.session shared s n x added out new) (Goes (quiet s) added out new)) (sym waits) h)

fell_at : (shared : Bool) (s : State) (n : ℕ) (x : Stream) (added : List Entry) (out : Outs) (new : State) → at n s.streams ≡ Some x → is_waiting x.task.asks ≡ true → PollFellBy x.session shared s n x added out new → PollFellAt shared s n (at n s.streams) added out new
fell_at shared s n x added out new known waits h = subst (λ o. PollFellAt shared s n o added out new) (sym known) (waits, h)

-- by what it found
pub polls_by : (shared : Bool) (s : State) (n : ℕ) (x : Stream) (added : List Entry) (out : Outs) (new : State) → at n s.streams ≡ Some x → is_waiting x.task.asks ≡ true
    → MatchBool (is_short out) (PollFellBy x.session shared s n x added out new) (PolledBy x.session shared s n x added out new) → PollSteps shared s n added out new
polls_by shared s n x added out new known waits h = match_both (is_short out) _ _ _ _ (fell_at shared s n x added out new known waits) (polled_at shared s n x added out new known waits) h

-- none of its exchanges runs
pub polls_nobody : (shared : Bool) (s : State) (n : ℕ) (x : Stream) (baton : Option Issued) (out : Outs) → out ≡ nothing → at n s.streams ≡ Some x → is_waiting x.task.asks ≡ true → x.session ≡ Some (Resting baton) → PollSteps shared s n [] out s
polls_nobody shared s n x baton out given known waits rests = found out _ _ (ap is_short given) (polled_at shared s n x [] out s known waits (subst (λ v. PolledBy v shared s n x [] out s) (sym rests) (record { none = refl; given = given; left = refl })))

pub polls_unheard : (shared : Bool) (s : State) (n : ℕ) (x : Stream) (out : Outs) → out ≡ nothing → at n s.streams ≡ Some x → is_waiting x.task.asks ≡ true → x.session ≡ None → is_heard (at x.conn s.conns) ≡ false → PollSteps shared s n [] out s
polls_unheard shared s n x out given known waits own deaf = found out _ _ (ap is_short given) (polled_at shared s n x [] out s known waits
    (subst (λ v. PolledBy v shared s n x [] out s) (sym own) (unheard s (at x.conn s.conns) (λ k. Polled shared s n x.conn x k [] out s) out deaf given)))

fell_on : (shared : Bool) (s : State) (n : ℕ) (x : Stream) (k : Conn) (added : List Entry) (out : Outs) (new : State) → x.session ≡ None → at x.conn s.conns ≡ Some k → k.closing ≡ false → PollFell shared s n x.conn x k added out new → PollFellBy x.session shared s n x added out new
fell_on shared s n x k added out new own known heard h = subst (λ v. PollFellBy v shared s n x added out new) (sym own) (subst (λ o. PollFellOn shared s n x o added out new) (sym known) (heard, h))

polled_on : (shared : Bool) (s : State) (n : ℕ) (x : Stream) (k : Conn) (added : List Entry) (out : Outs) (new : State) → x.session ≡ None → at x.conn s.conns ≡ Some k → k.closing ≡ false → Polled shared s n x.conn x k added out new → PolledBy x.session shared s n x added out new
polled_on shared s n x k added out new own known heard h = subst (λ v. PolledBy v shared s n x added out new) (sym own)
    (subst (λ o. Heard s o (λ l. Polled shared s n x.conn x l added out new) added out new) (sym known) (subst (λ b. MatchBool b (Goes (quiet s) added out new) (Polled shared s n x.conn x k added out new)) (sym heard) h))

-- its connection is heard
pub polls_heard : (shared : Bool) (s : State) (n : ℕ) (x : Stream) (k : Conn) (added : List Entry) (out : Outs) (new : State) → at n s.streams ≡ Some x → is_waiting x.task.asks ≡ true → x.session ≡ None → at x.conn s.conns ≡ Some k → k.closing ≡ false
    → PollEnds shared s n x.conn x k added out new → PollSteps shared s n added out new
polls_heard shared s n x k added out new known waits own there heard h =
    polls_by shared s n x added out new known waits (match_both (is_short out) _ _ _ _ (fell_on shared s n x k added out new own there heard) (polled_on shared s n x k added out new own there heard) h)

-- its exchange runs
pub polls_session : (shared : Bool) (s : State) (n : ℕ) (x : Stream) (e : Exchange) (added : List Entry) (out : Outs) (new : State) → at n s.streams ≡ Some x → is_waiting x.task.asks ≡ true → x.session ≡ Some (Running e)
    → Ends shared s n x e added out new → PollSteps shared s n added out new
polls_session shared s n x e added out new known waits runs h =
    polls_by shared s n x added out new known waits (match_both (is_short out) _ _ _ _ (subst (λ v. PollFellBy v shared s n x added out new) (sym runs)) (subst (λ v. PolledBy v shared s n x added out new) (sym runs)) h)

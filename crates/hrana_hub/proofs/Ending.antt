-- The end of a stream, and of many one after another.
use Rattle.std.proofs.Common.{◌≡◌, ◌≢◌, ◌≤◌, ◌<◌, ◌+◌, ℕ, Bool, true, false, cond, List, [], ◌∷◌, ◌++◌, length, take, drop, get_or, Option, None, Some, option_to_list, refl, sym, ap, ◌∙◌, subst, arith, append-nil, append_assoc, nat_cmp, IsTrue, is_some, true≢false, inl, inr}
use Rattle.std.specs.Option.{IsSome}
use Rattle.std.specs.List.{All}
use Rattle.std.specs.List.Sorted.{IsStrictlySortedBy}
use Rattle.std.specs.Map.{keys_of}
use Rattle.std.proofs.lemmas.Bool.{cases_Bool, cases_eq}
use Rattle.std.proofs.lemmas.List.Elements.{All-cons}
use Rattle.std.proofs.lemmas.List.{at_drop_more}
use Rattle.serial_order.specs.Serial.{Meaning}
use Rattle.hrana_value.specs.declared.StreamNo.{StreamNo}
use Rattle.http_wire.specs.declared.outs.Outs.{Outs}
use Rattle.txn_table.specs.Turns.{Turns, has, after_loss}
use Rattle.engine_core.specs.Transactions.{Lives}
use Rattle.engine_core.specs.declared.statement.BoundStmt.{BoundStmt}
use Rattle.engine_core.specs.declared.entries.Answer.{Answer}
use Rattle.engine_core.specs.declared.entries.Entry.{Entry}
use Rattle.engine_core.specs.declared.entries.Undo.{Undo}
use Rattle.engine_core.specs.declared.entries.Undo.TheVariants as undo
use Rattle.stream_task.specs.Adds.{undone_of, next_by}
use Rattle.stream_task.specs.Leads.{EndsLead}
use Rattle.stream_task.specs.Moved.{version_by, Rests}
use Rattle.stream_task.specs.Session.{open_of}
use Rattle.stream_task.specs.Together.{AgreesAt, Put, HasEnded, EndsTogether, EachMayPoll, MayPoll, is_open, numbered}
use Rattle.stream_task.specs.declared.session.TxnState.{TxnState}
use Rattle.stream_task.specs.declared.session.TxnState.TheVariants.{Auto, Deferred, Reading, Writing, Dead, Closed}
use Rattle.hrana_hub.specs.Maps.{Numbered, at, without, first_number}
use Rattle.hrana_hub.specs.State.{Conn, Stream, State, Seen, states_of, state_in, of_exchanges}
use Rattle.hrana_hub.specs.Adds.{Adds, LeadsOn}
use Rattle.baton_store.specs.Batons.{Batons}
use Rattle.baton_store.specs.Batons.{without as without_session}
use Rattle.hrana_hub.specs.Agrees.{HubAgrees, IsNumbered, IsTied, open_units, HubStands, forgets}
use Rattle.hrana_hub.specs.Ended.{end_of, ends_of, let_go, without_conn, without_lost, all_ends, at_its_end, HasLeft, IsGone, Frees}
use Rattle.hrana_hub.specs.Arrivals.{nothing}
use Rattle.hrana_hub.specs.Polled.{with_streams}
use Rattle.hrana_hub.specs.Step.{LostAt, ExchangeLost}
use Rattle.hrana_hub.proofs.Adding.{adds_one}
use Rattle.hrana_hub.proofs.EntryLemmas.{at_first, without_first, without_unknown, at_without, at_without_other, rising_without}
use Rattle.hrana_hub.proofs.MapLemmas.{none_some, some_one}
use Rattle.hrana_hub.proofs.Waiting.{has_gone, waits_on}
use Rattle.hrana_hub.proofs.Agreeing.{without_states, numbers_without, units_without}

-- ---- the stream that stands at a number

-- it is the stream of this number
pub number_of : {D : Type 0} (told shared : Bool) (db : D) (live : Lives D) (h : Seen) (n : ℕ) (x : Stream) → HubAgrees told shared db live h → at n h.state.streams ≡ Some x → x.task.stream.0 ≡ n
number_of told shared db live h n x a e = ap (λ (s : StreamNo). s.0) (a.numbers.own n x e)

pub state_at : {D : Type 0} (told shared : Bool) (db : D) (live : Lives D) (h : Seen) (n : ℕ) (x : Stream) → HubAgrees told shared db live h → at n h.state.streams ≡ Some x → states_of h.state.streams x.task.stream.0 ≡ Some x.task.session.state
state_at told shared db live h n x a e = ap (states_of h.state.streams) (number_of told shared db live h n x a e) ∙ ap state_in e

-- it may be polled, and ended
pub may_poll : {D : Type 0} (told shared : Bool) (db : D) (live : Lives D) (h : Seen) (n : ℕ) (x : Stream) → EachMayPoll D told shared → HubAgrees told shared db live h → at n h.state.streams ≡ Some x → MayPoll told shared db live h.turns h.noted.next x.task.stream x.task.session.state
may_poll told shared db live h n x each a e = each db live h.turns h.noted.next (states_of h.state.streams) x.task.stream x.task.session.state a.together (state_at told shared db live h n x a e)

-- there is a place for the entry of its end
pub end_room : {D : Type 0} (told shared : Bool) (db : D) (live : Lives D) (h : Seen) (n : ℕ) (x : Stream) → HubAgrees told shared db live h → at n h.state.streams ≡ Some x → open_of x.task.session.state ≤ h.noted.spare
end_room told shared db live h n x a e = omega (arith, units_without n x h.state.streams e, a.places)

-- ---- an entry that ends a unit

next_undone : (why : Undo) (state : TxnState) (n : ℕ) → next_by n (undone_of why state) ≡ n
next_undone why (Reading unit had) n = refl
next_undone why (Writing unit) n = refl
next_undone why Auto n = refl
next_undone why Deferred n = refl
next_undone why (Dead cause) n = refl
next_undone why Closed n = refl

version_undone : (why : Undo) (state : TxnState) (v : ℕ) → version_by (undone_of why state) v ≡ v
version_undone why (Reading unit had) v = refl
version_undone why (Writing unit) v = refl
version_undone why Auto v = refl
version_undone why Deferred v = refl
version_undone why (Dead cause) v = refl
version_undone why Closed v = refl

-- ---- one end

-- what the end of the stream at a number did, of which this is left
pub record EndDid {X D : Type 0} (told shared : Bool) (m : Meaning D BoundStmt Answer) (db : X → D) (live : X → Lives D) (faults : X → ℕ) (engine engine' : X) (why : Undo) (n : ℕ) (x : Stream) (left : Option TxnState) (old new : Seen) : Type 0 where
  pub agrees : HubAgrees told shared (db engine) (live engine) old
  pub known : at n old.state.streams ≡ Some x
  pub ended : HasEnded told shared m db live faults engine engine' old.turns new.turns old.noted new.noted x.task why
  pub spare : new.noted.spare + open_of x.task.session.state ≡ old.noted.spare
  pub shut : is_open left ≡ false
  pub states : Put (states_of old.state.streams) (states_of new.state.streams) n left
  pub others : (k : ℕ) → k ≢ n → IsSome (at k old.state.streams) → IsSome (at k new.state.streams)
  pub numbers : IsNumbered new.state
  pub units : open_units new.state.streams + open_of x.task.session.state ≡ open_units old.state.streams
  pub opened : new.state.opened ≡ old.state.opened
  pub next : new.state.next ≡ new.noted.next
  pub version : new.state.version ≡ new.turns.version
  pub events : new.state.events ≡ old.state.events
  pub issued : new.state.issued ≡ old.state.issued
  pub stopped : new.state.stopped ≡ old.state.stopped
  pub store_issued : new.store.issued ≡ old.store.issued
  pub ties : IsTied old.state.streams old.store → IsTied new.state.streams new.store

-- a stream that is shut doesn't hold the turn, nor does one that is gone
shut_turn : {D : Type 0} (told : Bool) (db : D) (live : Lives D) (t : Turns) (n : ℕ) (o : Option TxnState) → is_open o ≡ false → AgreesAt told db live t n o → t.turn ≢ Some (numbered n)
shut_turn told db live t n None e h = h
shut_turn told db live t n (Some (Dead cause)) e h = h
shut_turn told db live t n (Some Closed) e h = h
shut_turn told db live t n (Some Auto) e h = absurd (true≢false e)
shut_turn told db live t n (Some Deferred) e h = absurd (true≢false e)
shut_turn told db live t n (Some (Reading unit had)) e h = absurd (true≢false e)
shut_turn told db live t n (Some (Writing unit)) e h = absurd (true≢false e)

module _ {X D : Type 0} (told shared : Bool) (m : Meaning D BoundStmt Answer) (db : X → D) (live : X → Lives D) (faults : X → ℕ) (engine engine' : X) (why : Undo) (n : ℕ) (x : Stream) (left : Option TxnState) (old new : Seen) (did : EndDid told shared m db live faults engine engine' why n x left old new) where
  pub same_next : new.noted.next ≡ old.noted.next
  same_next = did.ended.ends.adds.next ∙ ap (next_by old.noted.next) did.ended.ends.adds.holds ∙ next_undone why x.task.session.state old.noted.next

  pub same_version : new.turns.version ≡ old.turns.version
  same_version =
      let a = did.ended.ends.adds in
      ap (λ (t : Turns). t.version) did.ended.ends.lost ∙ a.moved.version ∙ ap (λ e. version_by e old.turns.version) a.holds ∙ version_undone why x.task.session.state old.turns.version

  -- the states of the streams, with what is left at its number
  states_left : Put (states_of old.state.streams) (states_of new.state.streams) x.task.stream.0 left
  states_left = subst (λ k. Put (states_of old.state.streams) (states_of new.state.streams) k left) (sym (number_of told shared (db engine) (live engine) old n x did.agrees did.known)) did.states

  its_state : states_of old.state.streams x.task.stream.0 ≡ Some x.task.session.state
  its_state = state_at told shared (db engine) (live engine) old n x did.agrees did.known

  -- who waits now is another one, and waited before
  pub end_waits : (k : ℕ) → has (numbered k) new.turns.waiters ≡ true → (k ≢ n) × (has (numbered k) old.turns.waiters ≡ true)
  end_waits k w =
      let ends = did.ended.ends in
      let own = did.agrees.numbers.own n x did.known in
      waits_on n k ends.adds.added old.turns ends.between new.turns (subst (λ s. Rests s false ends.adds.added old.turns ends.between) own ends.adds.moved.rests) (ends.lost ∙ ap (after_loss ends.between) own) w

  pub end_agrees : EndsTogether told shared m db live faults → HubAgrees told shared (db engine') (live engine') new
  end_agrees law =
      let h = did.agrees in
      record {
        together = law engine engine' old.turns new.turns old.noted new.noted x.task why left (states_of old.state.streams) (states_of new.state.streams) h.together its_state did.ended did.shut states_left;
        waiters = λ k w. (let was = end_waits k w in did.others k was.0 (h.waiters k was.1));
        numbers = did.numbers;
        version = did.version;
        next = did.next;
        places = omega (arith, did.units, did.spare, h.places);
        counts = record {
          streams = omega (arith, did.opened, did.events, h.counts.streams);
          units = (let e : new.state.next ≡ old.state.next = did.next ∙ same_next ∙ sym h.next in omega (arith, e, did.events, h.counts.units));
          commits = (let e : new.state.version ≡ old.state.version = did.version ∙ same_version ∙ sym h.version in omega (arith, e, did.events, h.counts.commits));
          batons = omega (arith, did.issued, did.events, h.counts.batons);
        };
        tied = λ runs. did.ties (h.tied (sym did.stopped ∙ runs));
        issued = did.store_issued ∙ h.issued ∙ sym did.issued;
      }

  end_leads : EndsLead told shared m db live faults → IsTrue told → LeadsOn shared m (db engine) (live engine) (db engine') (live engine') old new (option_to_list did.ended.ends.adds.added)
  end_leads law sure first journal h =
      subst (λ e. HubStands shared m first (journal ++ option_to_list e) (db engine') (live engine') new) (sym did.ended.ends.adds.holds)
      (law engine engine' old.turns new.turns old.noted new.noted x.task why left (states_of old.state.streams) (states_of new.state.streams) sure did.agrees.together its_state did.ended did.shut states_left first journal h)

  pub end_adds : EndsLead told shared m db live faults → Adds told shared m db live faults engine engine' old new (λ added. added ≡ end_of why (at n old.state.streams))
  end_adds law = adds_one x.task.stream engine engine' old.turns did.ended.ends.between old new false _ _ did.ended.ends.adds (end_leads law) (ap option_to_list did.ended.ends.adds.holds ∙ ap (end_of why) (sym did.known))

  pub end_leaves : HubAgrees told shared (db engine') (live engine') new → HasLeft new.turns (numbered n)
  end_leaves now =
      let lost : new.turns ≡ after_loss did.ended.ends.between (numbered n) = did.ended.ends.lost ∙ ap (after_loss did.ended.ends.between) (did.agrees.numbers.own n x did.known) in
      record {
        turn = shut_turn told (db engine') (live engine') new.turns n left did.shut (subst (λ o. AgreesAt told (db engine') (live engine') new.turns n o) did.states.here (now.together.agree n));
        waits = ap (λ (t : Turns). has (numbered n) t.waiters) lost ∙ has_gone (numbered n) did.ended.ends.between.waiters;
        place = ap (λ (t : Turns). has (numbered n) t.reserved) lost ∙ has_gone (numbered n) did.ended.ends.between.reserved;
      }

-- a stream that leaves the store issues nothing
pub forgets_issued : (x : Stream) (n : ℕ) (store : Batons) → (forgets x n store).issued ≡ store.issued
forgets_issued x n store = by (of_exchanges x)
  where
    by : (b : Bool) → (cond b (without_session store (numbered n)) store).issued ≡ store.issued
    by true = refl
    by false = refl

-- ---- what is left of the stream

-- it is gone
pub record IsLetGo (n : ℕ) (x : Stream) (old new : State) : Type 0 where
  pub states : Put (states_of old.streams) (states_of new.streams) n None
  pub others : (k : ℕ) → k ≢ n → IsSome (at k old.streams) → IsSome (at k new.streams)
  pub numbers : IsNumbered new
  pub units : open_units new.streams + open_of x.task.session.state ≡ open_units old.streams

pub let_go_of : (n : ℕ) (x : Stream) (old new : State) → IsNumbered old → at n old.streams ≡ Some x → new.streams ≡ without n old.streams → new.opened ≡ old.opened → IsLetGo n x old new
let_go_of n x old new h known streams opened = record {
  states = subst (λ es. Put (states_of old.streams) (states_of es) n None) (sym streams) (without_states n old.streams h.rising);
  others = λ k ne some. ap is_some (ap (at k) streams ∙ at_without_other n k old.streams h.rising ne) ∙ some;
  numbers = numbers_without old new n streams opened h;
  units = (let units = units_without n x old.streams known in let left = ap open_units streams in omega (arith, units, left));
}

-- ---- the first of all

pub end_of_first : (why : Undo) (n : ℕ) (es : Numbered Stream) → first_number es ≡ Some n → end_of why (at n es) ≡ all_ends why (take 1 es)
end_of_first why n [] is = absurd (none_some is)
end_of_first why n (e ∷ es) is = ap (λ k. end_of why (at k (e ∷ es))) (sym (some_one is)) ∙ ap (end_of why) (at_first e es) ∙ sym (append-nil (end_of why (Some e.1)))

pub without_lowest : (n : ℕ) (es : Numbered Stream) → first_number es ≡ Some n → without n es ≡ drop 1 es
without_lowest n [] is = absurd (none_some is)
without_lowest n (e ∷ es) is = ap (λ k. without k (e ∷ es)) (sym (some_one is)) ∙ without_first e es

pub none_first : (es : Numbered Stream) → first_number es ≡ None → es ≡ []
none_first [] is = refl
none_first (e ∷ es) is = absurd (none_some (sym is))

-- ---- one after another

pub first_ends : (why : Undo) (es : Numbered Stream) → all_ends why es ≡ all_ends why (take 1 es) ++ all_ends why (drop 1 es)
first_ends why [] = refl
first_ends why (e ∷ es) = ap (λ l. l ++ all_ends why es) (sym (append-nil (end_of why (Some e.1))))

-- the entries so far, and those of the ends that are left, where the first of all is next
pub ends_on : (why : Undo) (all done one : List Entry) (es : Numbered Stream) → all ≡ done ++ all_ends why es → one ≡ all_ends why (take 1 es) → all ≡ (done ++ one) ++ all_ends why (drop 1 es)
ends_on why all done one es e f = e ∙ ap (λ l. done ++ l) (first_ends why es ∙ ap (λ l. l ++ all_ends why (drop 1 es)) (sym f)) ∙ sym (append_assoc done one (all_ends why (drop 1 es)))

-- the entries so far, and those of the ends that are left
pub ends_more : (why : Undo) (numbers : List ℕ) (i : ℕ) (all done one : List Entry) (es rest : Numbered Stream) → i < length numbers → rest ≡ without (get_or numbers i 0) es → all ≡ done ++ ends_of why (drop i numbers) es → one ≡ end_of why (at (get_or numbers i 0) es)
    → all ≡ (done ++ one) ++ ends_of why (drop (i + 1) numbers) rest
ends_more why numbers i all done one es rest l is e f =
    e ∙ ap (λ l. done ++ l)
    (at_drop_more (λ ns. ends_of why ns es) numbers i 0 l ∙ ap (λ l. l ++ ends_of why (drop (i + 1) numbers) (without (get_or numbers i 0) es)) (sym f) ∙ ap (λ l. one ++ ends_of why (drop (i + 1) numbers) l) (sym is))
    ∙ sym (append_assoc done one (ends_of why (drop (i + 1) numbers) rest))

pub gone_more : (numbers : List ℕ) (i : ℕ) (all es rest : Numbered Stream) → i < length numbers → rest ≡ without (get_or numbers i 0) es → all ≡ let_go (drop i numbers) es → all ≡ let_go (drop (i + 1) numbers) rest
gone_more numbers i all es rest l is e = e ∙ at_drop_more (λ ns. let_go ns es) numbers i 0 l ∙ ap (let_go (drop (i + 1) numbers)) (sym is)

-- ---- a connection that isn't known

abbrev pub with_conns : Numbered Conn → State → State
with_conns conns s = record s { conns = conns }

-- over WebSocket: it may be one whose exchange isn't answered yet
pub lost_unknown : (s : State) (c : ℕ) (conns : Numbered Conn) → at c s.conns ≡ None → conns ≡ without c s.conns → with_conns conns s ≡ s
lost_unknown s c conns unknown is = ap (λ cs. with_conns cs s) (is ∙ without_unknown c s.conns unknown)

-- ---- the connection of an exchange

abbrev pub with_exchanges : Numbered ℕ → State → State
with_exchanges exchanges s = record s { exchanges = exchanges }

pub exchange_unknown : (s : State) (c : ℕ) (exchanges : Numbered ℕ) (out : Outs) → at c s.exchanges ≡ None → exchanges ≡ without c s.exchanges → out ≡ nothing → ExchangeLost s c (at c s.exchanges) [] out (with_exchanges exchanges s)
exchange_unknown s c exchanges out unknown is given = subst (λ o. ExchangeLost s c o [] out (with_exchanges exchanges s)) (sym unknown)
    (record { none = refl; given = given; left = ap (λ es. with_exchanges es s) (is ∙ without_unknown c s.exchanges unknown) })

pub exchange_lost : (s : State) (c n : ℕ) (added : List Entry) (out : Outs) (new : State) → at c s.exchanges ≡ Some n → added ≡ end_of undo.Lost (at n s.streams) → out ≡ nothing → new ≡ without_lost c n s → ExchangeLost s c (at c s.exchanges) added out new
exchange_lost s c n added out new known ends given left = subst (λ o. ExchangeLost s c o added out new) (sym known) (ends, given, left)

pub exchange_left : (c n : ℕ) (exchanges : Numbered ℕ) (h old : Seen) (new : State) → h ≡ old → exchanges ≡ without c h.state.exchanges → new ≡ with_streams (without n h.state.streams) (with_exchanges exchanges h.state) → new ≡ without_lost c n old.state
exchange_left c n exchanges h old new is rest left = left ∙ ap (λ es. with_streams (without n h.state.streams) (with_exchanges es h.state)) rest ∙ ap (λ (x : Seen). without_lost c n x.state) is

-- ---- a connection that is lost

pub lost_leaves : (c : ℕ) (k : Conn) (numbers : List ℕ) (conns : Numbered Conn) (h old : Seen) (new : State) → h ≡ old → numbers ≡ k.streams → conns ≡ without c h.state.conns
    → new ≡ with_streams (let_go numbers h.state.streams) (with_conns conns h.state) → new ≡ without_conn c k old.state
lost_leaves c k numbers conns h old new is streams rest left =
    left ∙ ap (λ ns. with_streams (let_go ns h.state.streams) (with_conns conns h.state)) streams ∙ ap (λ cs. with_streams (let_go k.streams h.state.streams) (with_conns cs h.state)) rest ∙ ap (λ (x : Seen). without_conn c k x.state) is

pub lost_known : (s : State) (c : ℕ) (k : Conn) (added : List Entry) (out : Outs) (new : State) → at c s.conns ≡ Some k → added ≡ ends_of undo.Lost k.streams s.streams → out ≡ nothing → new ≡ without_conn c k s → LostAt s c (at c s.conns) added out new
lost_known s c k added out new known ends given left = subst (λ o. LostAt s c o added out new) (sym known) (ends, given, left)

-- ---- the end of all

abbrev pub stopped_with : Numbered Conn → Numbered ℕ → State → State
stopped_with conns exchanges s = record s { conns = conns; exchanges = exchanges; stopped = true }

pub stop_leaves : (conns : Numbered Conn) (exchanges : Numbered ℕ) (s old : State) → conns ≡ [] → exchanges ≡ [] → s ≡ with_streams [] old → stopped_with conns exchanges s ≡ at_its_end old
stop_leaves conns exchanges s old none free left = ap (λ cs. stopped_with cs exchanges s) none ∙ ap (λ es. stopped_with [] es s) free ∙ ap (stopped_with [] []) left

-- ---- what a loss frees

still_gone : (numbers : List ℕ) (k : ℕ) (es : Numbered Stream) → IsStrictlySortedBy nat_cmp (keys_of es) → at k es ≡ None → at k (let_go numbers es) ≡ None
still_gone [] k es r e = e
still_gone (n ∷ numbers) k es r e = still_gone numbers k (without n es) (rising_without n es r) (elim (cases_eq k n) [
  | inl i ↦ ap (λ j. at j (without n es)) i ∙ at_without n es r
  | inr ne ↦ at_without_other n k es r ne ∙ e
])

none_left : (numbers : List ℕ) (es : Numbered Stream) → IsStrictlySortedBy nat_cmp (keys_of es) → All (λ (n : ℕ). at n (let_go numbers es) ≡ None) numbers
none_left [] es r = λ k d lt. absurd (omega arith)
none_left (n ∷ numbers) es r =
    All-cons (λ (k : ℕ). at k (let_go numbers (without n es)) ≡ None) n numbers (still_gone numbers n (without n es) (rising_without n es r) (at_without n es r)) (none_left numbers (without n es) (rising_without n es r))

pub gone : {D : Type 0} (told shared : Bool) (db : D) (live : Lives D) (h : Seen) (n : ℕ) → HubAgrees told shared db live h → at n h.state.streams ≡ None → IsGone h n
gone told shared db live h n a none = record {
  stream = none;
  turn = subst (λ o. AgreesAt told db live h.turns n o) (ap state_in none) (a.together.agree n);
  waits = elim (cases_Bool (has (numbered n) h.turns.waiters)) [
    | inl e ↦ absurd (true≢false (sym (a.waiters n e) ∙ ap is_some none))
    | inr e ↦ e
  ];
}

-- the streams of the connection are gone, and so is the connection
pub lost_frees : {D : Type 0} (told shared : Bool) (db : D) (live : Lives D) (c : ℕ) (o : Option Conn) (k : Conn) (es : Numbered Stream) (stream : Option ℕ) (new : Seen) → o ≡ Some k → IsStrictlySortedBy nat_cmp (keys_of es)
    → HubAgrees told shared db live new → new.state.streams ≡ let_go k.streams es → at c new.state.conns ≡ None → Frees c o stream new
lost_frees told shared db live c o k es stream new known r a left none =
    subst (λ o. Frees c o stream new) (sym known) (none, λ i d lt. gone told shared db live new _ a (ap (at _) left ∙ none_left k.streams es r i d lt))

-- What of the hub's agreement is left where its streams change.
use Rattle.std.proofs.Common.{◌≡◌, ◌≢◌, ◌≤◌, ◌<◌, ◌+◌, ℕ, Bool, true, false, cond, [], ◌∷◌, length, None, Some, refl, sym, ap, ◌∙◌, subst, arith, inl, inr, nat_cmp}
use Rattle.std.specs.List.Sorted.{IsStrictlySortedBy}
use Rattle.std.specs.BTreeMap.{is_at}
use Rattle.std.specs.Option.{IsSome}
use Rattle.std.specs.Map.{keys_of}
use Rattle.std.proofs.lemmas.Bool.{cases_eq}
use Rattle.txn_table.specs.Turns.{Turns, has}
use Rattle.engine_core.specs.Transactions.{Lives}
use Rattle.stream_task.specs.Session.{open_of}
use Rattle.stream_task.specs.Together.{States, Put, Together, IsOwned, AgreesAt, BeganBy, is_open, unit_at, numbered}
use Rattle.stream_task.specs.declared.session.TxnState.{TxnState}
use Rattle.stream_task.specs.declared.session.TxnState.TheVariants.{Auto, Deferred, Reading, Writing, Dead, Closed}
use Rattle.hrana_hub.specs.Maps.{Numbered, at, put, without}
use Rattle.hrana_hub.specs.State.{Stream, State, Seen, OnlyPlaces, states_of, state_in}
use Rattle.baton_store.specs.Batons.{Batons}
use Rattle.hrana_hub.specs.Agrees.{HubAgrees, IsNumbered, IsCounted, IsTied, open_units}
use Rattle.hrana_hub.proofs.EntryLemmas.{at_put, at_put_other, keys_put, at_without, at_without_other, rising_without}
use Rattle.hrana_hub.proofs.Tied.{tied_put}
use Rattle.hrana_hub.proofs.Waiting.{known_put}

-- ---- equal states

pub state_is : (a b : State) → a.conns ≡ b.conns → a.streams ≡ b.streams → a.exchanges ≡ b.exchanges → a.issued ≡ b.issued → a.opened ≡ b.opened → a.next ≡ b.next → a.version ≡ b.version → a.events ≡ b.events → a.now ≡ b.now → a.stopped ≡ b.stopped → a ≡ b
state_is a b c d x i e f g h j k =
    ap (λ z. record a { conns = z }) c
    ∙ ap (λ z. record a { conns = b.conns; streams = z }) d
    ∙ ap (λ z. record a { conns = b.conns; streams = b.streams; exchanges = z }) x
    ∙ ap (λ z. record a { conns = b.conns; streams = b.streams; exchanges = b.exchanges; issued = z }) i
    ∙ ap (λ z. record b { opened = z; next = a.next; version = a.version; events = a.events; now = a.now; stopped = a.stopped }) e
    ∙ ap (λ z. record b { next = z; version = a.version; events = a.events; now = a.now; stopped = a.stopped }) f
    ∙ ap (λ z. record b { version = z; events = a.events; now = a.now; stopped = a.stopped }) g
    ∙ ap (λ z. record b { events = z; now = a.now; stopped = a.stopped }) h
    ∙ ap (λ z. record b { now = z; stopped = a.stopped }) j
    ∙ ap (λ z. record b { stopped = z }) k

-- ---- the states of the streams

pub put_states : (n : ℕ) (x y : Stream) (es : Numbered Stream) → at n es ≡ Some x → Put (states_of es) (states_of (put n y es)) n (Some y.task.session.state)
put_states n x y es e = record { here = ap state_in (at_put n x y es e); others = λ k ne. ap state_in (at_put_other n k x y es e ne) }

pub without_states : (n : ℕ) (es : Numbered Stream) → IsStrictlySortedBy nat_cmp (keys_of es) → Put (states_of es) (states_of (without n es)) n None
without_states n es r = record { here = ap state_in (at_without n es r); others = λ k ne. ap state_in (at_without_other n k es r ne) }

-- another task in the same state
pub same_states : (n : ℕ) (x y : Stream) (es : Numbered Stream) → at n es ≡ Some x → y.task.session.state ≡ x.task.session.state → (k : ℕ) → states_of (put n y es) k ≡ states_of es k
same_states n x y es e same k = elim (cases_eq k n) [
  | inl i ↦ ap (states_of (put n y es)) i ∙ ap state_in (at_put n x y es e) ∙ ap Some same ∙ sym (ap state_in e) ∙ ap (states_of es) (sym i)
  | inr ne ↦ ap state_in (at_put_other n k x y es e ne)
]

pub together_as : {D : Type 0} (told shared : Bool) (db : D) (live : Lives D) (t : Turns) (next : ℕ) (states states' : States) → ((k : ℕ) → states' k ≡ states k) → Together told shared db live t next states → Together told shared db live t next states'
together_as told shared db live t next states states' same h = record {
  agree = λ n. subst (AgreesAt told db live t n) (sym (same n)) (h.agree n);
  places = λ n e. h.places n (sym (ap is_open (same n)) ∙ e);
  began = λ n. subst (BeganBy t.version) (sym (same n)) (h.began n);
  owned = λ unit some. (let o : IsOwned states unit = h.owned unit some in record { stream = o.stream; opened = ap unit_at (same o.stream) ∙ o.opened });
  apart = λ m n unit a b. h.apart m n unit (sym (ap unit_at (same m)) ∙ a) (sym (ap unit_at (same n)) ∙ b);
  below = h.below;
  writers = h.writers;
  quiet = h.quiet;
  one = h.one;
}

-- ---- their numbers

pub numbers_put : (s s' : State) (n : ℕ) (x y : Stream) → at n s.streams ≡ Some x → y.task.stream ≡ x.task.stream → s'.streams ≡ put n y s.streams → s'.opened ≡ s.opened → IsNumbered s → IsNumbered s'
numbers_put s s' n x y e same streams opened h = record {
  rising = subst (IsStrictlySortedBy nat_cmp) (sym (ap keys_of streams ∙ keys_put n y s.streams)) h.rising;
  own = λ k z f. elim (cases_eq k n) [
    | inl i ↦ (let two : Some y ≡ Some z = sym (at_put n x y s.streams e) ∙ ap (λ j. at j (put n y s.streams)) (sym i) ∙ ap (at k) (sym streams) ∙ f in
        let is : y ≡ z = cc in
        ap (λ (v : Stream). v.task.stream) (sym is) ∙ same ∙ h.own n x e ∙ ap numbered (sym i))
    | inr ne ↦ h.own k z (sym (at_put_other n k x y s.streams e ne) ∙ ap (at k) (sym streams) ∙ f)
  ];
  opened = λ k l.
      let before : at k s.streams ≡ None = h.opened k (subst (λ o. o < k) opened l) in
      let ne : k ≢ n = λ i. (let no : None ≡ Some x = sym before ∙ ap (λ j. at j s.streams) i ∙ e in cc) in
      ap (at k) streams ∙ at_put_other n k x y s.streams e ne ∙ before;
}

pub numbers_without : (s s' : State) (n : ℕ) → s'.streams ≡ without n s.streams → s'.opened ≡ s.opened → IsNumbered s → IsNumbered s'
numbers_without s s' n streams opened h = record {
  rising = subst (λ es. IsStrictlySortedBy nat_cmp (keys_of es)) (sym streams) (rising_without n s.streams h.rising);
  own = λ k z f.
      let left : at k (without n s.streams) ≡ Some z = ap (at k) (sym streams) ∙ f in
      elim (cases_eq k n) [
        | inl i ↦ absurd (let no : None ≡ Some z = sym (at_without n s.streams h.rising) ∙ ap (λ j. at j (without n s.streams)) (sym i) ∙ left in cc)
        | inr ne ↦ h.own k z (sym (at_without_other n k s.streams h.rising ne) ∙ left)
      ];
  opened = λ k l.
      let before : at k s.streams ≡ None = h.opened k (subst (λ o. o < k) opened l) in
      elim (cases_eq k n) [
        | inl i ↦ ap (at k) streams ∙ ap (λ j. at j (without n s.streams)) i ∙ at_without n s.streams h.rising
        | inr ne ↦ ap (at k) streams ∙ at_without_other n k s.streams h.rising ne ∙ before
      ];
}

pub numbers_as : (s s' : State) → s'.streams ≡ s.streams → s'.opened ≡ s.opened → IsNumbered s → IsNumbered s'
numbers_as s s' streams opened h = record {
  rising = subst (λ es. IsStrictlySortedBy nat_cmp (keys_of es)) (sym streams) h.rising;
  own = λ k z f. h.own k z (ap (at k) (sym streams) ∙ f);
  opened = λ k l. ap (at k) streams ∙ h.opened k (subst (λ o. o < k) opened l);
}

-- ---- how many units are open

open_few : (state : TxnState) → open_of state ≤ 1
open_few Auto = omega arith
open_few Deferred = omega arith
open_few (Reading unit had) = omega arith
open_few (Writing unit) = omega arith
open_few (Dead cause) = omega arith
open_few Closed = omega arith

pub units_few : (es : Numbered Stream) → open_units es ≤ length es
units_few [] = omega arith
units_few (e ∷ es) = omega (arith, open_few e.1.task.session.state, units_few es)

pub units_put : (n : ℕ) (x y : Stream) (es : Numbered Stream) → at n es ≡ Some x → open_units (put n y es) + open_of x.task.session.state ≡ open_units es + open_of y.task.session.state
units_put n x y [] f = absurd (cc)
units_put n x y (e ∷ es) f = by (units_put n x y es) (is_at (nat_cmp n) e.0) f
  where
    by : (at n es ≡ Some x → open_units (put n y es) + open_of x.task.session.state ≡ open_units es + open_of y.task.session.state) → (b : Bool) → cond b (Some e.1) (at n es) ≡ Some x
        → open_units (cond b ((e.0, y) ∷ es) (e ∷ put n y es)) + open_of x.task.session.state ≡ open_units (e ∷ es) + open_of y.task.session.state
    by later true g =
        let same : e.1 ≡ x = cc in
        let units = ap (λ (v : Stream). open_of v.task.session.state) same in
        omega (arith, units)
    by later false g = omega (arith, later g)

pub units_without : (n : ℕ) (x : Stream) (es : Numbered Stream) → at n es ≡ Some x → open_units (without n es) + open_of x.task.session.state ≡ open_units es
units_without n x [] f = absurd (cc)
units_without n x (e ∷ es) f = by (units_without n x es) (is_at (nat_cmp n) e.0) f
  where
    by : (at n es ≡ Some x → open_units (without n es) + open_of x.task.session.state ≡ open_units es) → (b : Bool) → cond b (Some e.1) (at n es) ≡ Some x → open_units (cond b es (e ∷ without n es)) + open_of x.task.session.state ≡ open_units (e ∷ es)
    by later true g =
        let same : e.1 ≡ x = cc in
        let units = ap (λ (v : Stream). open_of v.task.session.state) same in
        omega (arith, units)
    by later false g = omega (arith, later g)

-- ---- what has to do with no unit

-- these are the streams now, and nothing else changed that is agreed on but the store of batons
pub record Moves (old new : Seen) (streams : Numbered Stream) : Type 0 where
  pub streams_are : new.state.streams ≡ streams
  pub opened : new.state.opened ≡ old.state.opened
  pub next : new.state.next ≡ old.state.next
  pub version : new.state.version ≡ old.state.version
  pub events : old.state.events ≤ new.state.events
  pub turns : new.turns ≡ old.turns
  pub noted : new.noted.next ≡ old.noted.next
  pub places : old.noted.spare ≤ new.noted.spare

-- what is agreed on of the store
pub record StoreAgrees (h : Seen) : Type 0 where
  pub few : h.state.issued ≤ h.state.events
  pub issued : h.store.issued ≡ h.state.issued
  pub tied : h.state.stopped ≡ false → IsTied h.state.streams h.store

-- the store is as it was
pub record StoreStays (old new : Seen) : Type 0 where
  pub issued : new.state.issued ≡ old.state.issued
  pub stopped : new.state.stopped ≡ old.state.stopped
  pub store : new.store ≡ old.store

pub record Stays (old new : Seen) (streams : Numbered Stream) : Type 0 where
  pub moves : Moves old new streams
  pub stays : StoreStays old new

counts_stay : (old new : Seen) (streams : Numbered Stream) → Moves old new streams → new.state.issued ≤ new.state.events → IsCounted old.state → IsCounted new.state
counts_stay old new streams s few h = record { streams = omega (arith, s.opened, s.events, h.streams); units = omega (arith, s.next, s.events, h.units); commits = omega (arith, s.version, s.events, h.commits); batons = few }

-- nothing changed but the list of entries, and the places for more
pub stays_same : (old new : Seen) → new.state ≡ old.state → new.turns ≡ old.turns → new.store ≡ old.store → new.noted.next ≡ old.noted.next → old.noted.spare ≤ new.noted.spare → Stays old new old.state.streams
stays_same old new state turns store next places = record {
  moves = record {
    streams_are = ap (λ (s : State). s.streams) state;
    opened = ap (λ (s : State). s.opened) state;
    next = ap (λ (s : State). s.next) state;
    version = ap (λ (s : State). s.version) state;
    events = (let e = ap (λ (s : State). s.events) state in omega (arith, e));
    turns = turns;
    noted = next;
    places = places;
  };
  stays = record { issued = ap (λ (s : State). s.issued) state; stopped = ap (λ (s : State). s.stopped) state; store = store };
}

module _ {D : Type 0} (told shared : Bool) (db : D) (live : Lives D) (old new : Seen) where
  agrees_left : (streams : Numbered Stream) → HubAgrees told shared db live old → Moves old new streams → ((k : ℕ) → states_of streams k ≡ states_of old.state.streams k) → ((k : ℕ) → IsSome (at k old.state.streams) → IsSome (at k streams))
      → IsNumbered new.state → open_units streams ≤ old.noted.spare → StoreAgrees new → HubAgrees told shared db live new
  agrees_left streams h s same known numbers units store = record {
    together = subst (λ t. Together told shared db live t new.noted.next (states_of new.state.streams)) (sym s.turns)
        (subst (λ n. Together told shared db live old.turns n (states_of new.state.streams)) (sym s.noted)
        (together_as told shared db live old.turns old.noted.next (states_of old.state.streams) (states_of new.state.streams) (λ k. ap (λ es. states_of es k) s.streams_are ∙ same k) h.together));
    waiters = λ k w. subst (λ es. IsSome (at k es)) (sym s.streams_are) (known k (h.waiters k (sym (ap (λ (t : Turns). has (numbered k) t.waiters) s.turns) ∙ w)));
    numbers = numbers;
    version = s.version ∙ h.version ∙ ap (λ (t : Turns). t.version) (sym s.turns);
    next = s.next ∙ h.next ∙ sym s.noted;
    places = (let l = ap open_units s.streams_are in omega (arith, l, units, s.places));
    counts = counts_stay old new streams s store.few h.counts;
    tied = store.tied;
    issued = store.issued;
  }

  -- the store is as it was
  store_still : (streams : Numbered Stream) → HubAgrees told shared db live old → Stays old new streams → (IsTied old.state.streams old.store → IsTied streams old.store) → StoreAgrees new
  store_still streams h s ties = record {
    few = omega (arith, s.stays.issued, s.moves.events, h.counts.batons);
    issued = ap (λ (b : Batons). b.issued) s.stays.store ∙ h.issued ∙ sym s.stays.issued;
    tied = λ runs. subst (IsTied new.state.streams) (sym s.stays.store) (subst (λ es. IsTied es old.store) (sym s.moves.streams_are) (ties (h.tied (sym s.stays.stopped ∙ runs))));
  }

  -- the streams are the same
  pub left_agrees : HubAgrees told shared db live old → Moves old new old.state.streams → StoreAgrees new → HubAgrees told shared db live new
  left_agrees h s store = agrees_left old.state.streams h s (λ k. refl) (λ k some. some) (numbers_as old.state new.state s.streams_are s.opened h.numbers) h.places store

  pub same_agrees : HubAgrees told shared db live old → Stays old new old.state.streams → HubAgrees told shared db live new
  same_agrees h s = left_agrees h s.moves (store_still old.state.streams h s (λ t. t))

  -- one has another task in the same state
  pub moves_agrees : (n : ℕ) (x y : Stream) → HubAgrees told shared db live old → at n old.state.streams ≡ Some x → y.task.stream ≡ x.task.stream → y.task.session.state ≡ x.task.session.state → Moves old new (put n y old.state.streams) → StoreAgrees new → HubAgrees told shared db live new
  moves_agrees n x y h e stream state s store =
      let units = units_put n x y old.state.streams e in
      let opens = ap open_of state in
      agrees_left (put n y old.state.streams) h s (same_states n x y old.state.streams e state) (λ k some. known_put n k x y old.state.streams e some) (numbers_put old.state new.state n x y e stream s.streams_are s.opened h.numbers) (omega (arith, units, opens, h.places)) store

  -- and waits for what it waited for
  pub stays_agrees : (n : ℕ) (x y : Stream) → HubAgrees told shared db live old → at n old.state.streams ≡ Some x → y.task.stream ≡ x.task.stream → y.task.session.state ≡ x.task.session.state → y.session ≡ x.session → Stays old new (put n y old.state.streams) → HubAgrees told shared db live new
  stays_agrees n x y h e stream state session s = moves_agrees n x y h e stream state s.moves (store_still (put n y old.state.streams) h s (tied_put n x y old.state.streams old.store e session))

  pub places_agrees : HubAgrees told shared db live old → OnlyPlaces old new → HubAgrees told shared db live new
  places_agrees h o = same_agrees h (stays_same old new o.state o.turns o.store o.next o.places)

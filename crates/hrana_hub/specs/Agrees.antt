-- What holds between the hub and the engine before each event and after it.
use Rattle.std.specs.Prelude.{◌≡◌, ◌<◌, ◌≤◌, ◌+◌, ◌^◌, ◌↔◌, ℕ, Bool, true, false, cond, List, [], ◌∷◌, Option, None, Some, IsSome, Contains}
use Rattle.std.specs.Ordering.{nat_cmp}
use Rattle.std.specs.List.Sorted.{IsStrictlySortedBy}
use Rattle.std.specs.Map.{keys_of}
use Rattle.serial_order.specs.Serial.{Meaning}
use Rattle.engine_core.specs.Transactions.{Lives, NoneLive}
use Rattle.engine_core.specs.declared.statement.BoundStmt.{BoundStmt}
use Rattle.engine_core.specs.declared.entries.Answer.{Answer}
use Rattle.engine_core.specs.declared.entries.Entry.{Entry}
use Rattle.txn_table.specs.Turns.{no_turns, has}
use Rattle.baton_store.specs.Batons.{Batons, no_batons, HasBaton}
use Rattle.baton_store.specs.Batons.{without as without_session}
use Rattle.hrana_hub.specs.declared.sessions.Session.{Session}
use Rattle.hrana_hub.specs.declared.sessions.Session.TheVariants.{Resting}
use Rattle.stream_task.specs.Leads.{StandsFor}
use Rattle.stream_task.specs.Session.{open_of}
use Rattle.stream_task.specs.Together.{Together, numbered}
use Rattle.hrana_hub.specs.Maps.{Numbered, at}
use Rattle.hrana_hub.specs.State.{Stream, State, Seen, states_of, first_state, of_exchanges}

-- how many units are open
abbrev pub open_units : Numbered Stream → ℕ
open_units [] = 0
open_units (entry ∷ entries) = open_of entry.1.task.session.state + open_units entries

-- the numbers rise, each stream has its own, and none is above that of the last one
pub record IsNumbered (s : State) : Type 0 where
  pub rising : IsStrictlySortedBy nat_cmp (keys_of s.streams)
  pub own : (n : ℕ) (x : Stream) → at n s.streams ≡ Some x → x.task.stream ≡ numbered n
  pub opened : (n : ℕ) → s.opened < n → at n s.streams ≡ None

-- no more came of the events than one each
pub record IsCounted (s : State) : Type 0 where
  pub streams : s.opened ≤ s.events
  pub units : s.next ≤ s.events + 1
  pub commits : s.version ≤ s.events
  pub batons : s.issued ≤ s.events

-- one event was counted more than came of them, and they are fewer than so many
pub record IsAhead (s : State) : Type 0 where
  pub streams : s.opened < s.events
  pub units : s.next ≤ s.events
  pub commits : s.version < s.events
  pub batons : s.issued < s.events
  pub few : s.events < 2 ^ 62

-- the session waits for the exchange that brings this text, which was issued at this moment
abbrev pub rests_for : List ℕ → ℕ → Session
rests_for text at = Resting (Some (record { text = text; at = at }))

-- The unused batons of the store are those that streams wait for, and each stream of exchanges has a place in it.
pub record IsTied (streams : Numbered Stream) (store : Batons) : Type 0 where
  pub placed : (n : ℕ) (x : Stream) → at n streams ≡ Some x → of_exchanges x ≡ true → Contains store.reserved (numbered n)
  pub held : (n : ℕ) (text : List ℕ) (moment : ℕ) → HasBaton store.unused text (numbered n) moment ↔ ((x : Stream) × (at n streams ≡ Some x) × (x.session ≡ Some (rests_for text moment)))

-- the store once the stream has left: one of exchanges leaves its place and its baton
abbrev pub forgets : Stream → ℕ → Batons → Batons
forgets x n store = cond (of_exchanges x) (without_session store (numbered n)) store

-- The live transactions are the open units, the turn is held by the stream that writes, and where the engine tells, its views
-- are those that the streams need. Who waits for the turn is a stream. There is a place for the entry of each unit's end.
pub record HubAgrees {D : Type 0} (told shared : Bool) (db : D) (live : Lives D) (h : Seen) : Type 0 where
  pub together : Together told shared db live h.turns h.noted.next (states_of h.state.streams)
  pub waiters : (n : ℕ) → has (numbered n) h.turns.waiters ≡ true → IsSome (at n h.state.streams)
  pub numbers : IsNumbered h.state
  pub version : h.state.version ≡ h.turns.version
  pub next : h.state.next ≡ h.noted.next
  pub places : open_units h.state.streams ≤ h.noted.spare
  pub counts : IsCounted h.state
  pub tied : h.state.stopped ≡ false → IsTied h.state.streams h.store
  pub issued : h.store.issued ≡ h.state.issued

-- Hub and engine stand for this journal: from the database `first` it leads to where they are.
abbrev pub HubStands : {D : Type 0} → Bool → Meaning D BoundStmt Answer → D → List Entry → D → Lives D → Seen → Type 0
HubStands shared m first journal db live h = StandsFor shared m first journal db live h.turns h.noted.next (states_of h.state.streams)

-- a hub that knows nothing yet
pub record IsNew (given : Option (List ℕ)) (h : Seen) : Type 0 where
  pub token : h.token ≡ given
  pub state : h.state ≡ first_state
  pub turns : h.turns ≡ no_turns
  pub store : h.store ≡ no_batons
  pub no_entries : h.noted.list ≡ []
  pub next : h.noted.next ≡ 1

-- ---- what keeps the agreement

-- at first, where nothing lives, they agree, and stand for the empty journal from what is committed
abbrev pub NewHubAgrees : {D : Type 0} → Bool → Bool → Meaning D BoundStmt Answer → Type 0
NewHubAgrees {D} told shared m = (token : Option (List ℕ)) (h : Seen) (db : D) (live : Lives D) → IsNew token h → NoneLive live → HubAgrees told shared db live h × HubStands shared m db [] db live h

-- Entries were taken from the list. All else is as it was, and the places are no fewer.
pub record OnlyTaken (old new : Seen) : Type 0 where
  pub state : new.state ≡ old.state
  pub turns : new.turns ≡ old.turns
  pub store : new.store ≡ old.store
  pub next : new.noted.next ≡ old.noted.next
  pub places : old.noted.spare ≤ new.noted.spare

abbrev pub TakingAgrees : {D : Type 0} → Bool → Bool → Meaning D BoundStmt Answer → Type 0
TakingAgrees {D} told shared m = (old new : Seen) (db : D) (live : Lives D) → OnlyTaken old new
    → (HubAgrees told shared db live old → HubAgrees told shared db live new) × ((first : D) (journal : List Entry) → HubStands shared m first journal db live old → HubStands shared m first journal db live new)

-- where no stream is left nothing lives
abbrev pub NothingLives : (D : Type 0) → Bool → Bool → Type 0
NothingLives D told shared = (h : Seen) (db : D) (live : Lives D) → HubAgrees told shared db live h → h.state.streams ≡ [] → NoneLive live

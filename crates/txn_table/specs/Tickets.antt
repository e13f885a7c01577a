-- Tickets: one a place, in rising number of the streams, and one a waiter, in the order of arrival.
use Rattle.std.specs.Prelude.{◌≡◌, ◌≢◌, ℕ, ◌<◌, ◌≤◌, List, length, get_or, slice_get, map, All, AllPairs, Contains, Option, Some, IsSomeAnd, MatchOption, Result, MatchResult}
use Rattle.hrana_value.specs.declared.StreamNo.{StreamNo}
use Rattle.txn_table.specs.declared.tickets.Ticket.{Ticket}

abbrev pub streams_of : List Ticket → List StreamNo
streams_of tickets = map (λ (x : Ticket). x.stream) tickets

abbrev pub IsRising : List Ticket → Type 0
IsRising places = AllPairs (λ (p q : Ticket). p.stream.0 < q.stream.0) places

abbrev pub AreInOrder : List Ticket → Type 0
AreInOrder waiters = AllPairs (λ (v w : Ticket). v.number ≤ w.number) waiters

-- no two are of one stream
abbrev pub AreApart : List Ticket → Type 0
AreApart waiters = AllPairs (λ (v w : Ticket). v.stream ≢ w.stream) waiters

-- each waiter's ticket is the one at its stream's place
abbrev pub AreHeld : List Ticket → List Ticket → Type 0
AreHeld places waiters = All (Contains places) waiters

abbrev pub HasNone : List Ticket → StreamNo → Type 0
HasNone tickets stream = All (λ (x : Ticket). x.stream ≢ stream) tickets

-- the stream's ticket stands at this place
abbrev pub IsAt : List Ticket → StreamNo → ℕ → Type 0
IsAt tickets stream place = IsSomeAnd (slice_get tickets place) (λ (x : Ticket). x.stream ≡ stream)

-- the places below are of lower streams, and the others of higher ones
pub record IsBetween (places : List Ticket) (stream : StreamNo) (place : ℕ) : Type 0 where
  pub bound : place ≤ length places
  pub below : (k : ℕ) (d : Ticket) → k < place → (get_or places k d).stream.0 < stream.0
  pub above : (k : ℕ) (d : Ticket) → place ≤ k → k < length places → stream.0 < (get_or places k d).stream.0

abbrev pub IsFound : List Ticket → StreamNo → Result ℕ ℕ → Type 0
IsFound places stream answer = MatchResult answer (λ place. IsAt places stream place) (λ place. IsBetween places stream place)

abbrev pub IsAmong : List Ticket → Ticket → Option ℕ → Type 0
IsAmong waiters ticket answer = MatchOption answer (All (λ (w : Ticket). w ≢ ticket) waiters) (λ place. slice_get waiters place ≡ Some ticket)

abbrev pub IsWaiterOf : List Ticket → StreamNo → Option ℕ → Type 0
IsWaiterOf waiters stream answer = MatchOption answer (HasNone waiters stream) (λ place. IsAt waiters stream place)

-- what holds of every table's tickets, where the last ticket has this number
pub record AreSound (places waiters : List Ticket) (last : ℕ) : Type 0 where
  pub rising : IsRising places
  pub in_order : AreInOrder waiters
  pub apart : AreApart waiters
  pub held : AreHeld places waiters
  pub given : All (λ (w : Ticket). w.number ≤ last) waiters

-- What a store of batons knows, and what its calls do to it.
use Rattle.std.specs.Prelude.{◌≡◌, ◌≢◌, ◌+◌, ◌^◌, ◌<◌, ◌≤◌, ◌==◌, ◌⊎◌, ℕ, Bool, not, List, [], ◌∷◌, ◌++◌, filter, remove, slice_get, All, AllPairs, Any, Contains, Option, Some, IsSomeAnd, MatchOption}
use Rattle.hrana_value.specs.declared.StreamNo.{StreamNo}
use Rattle.baton_store.specs.Text.{text_of}
use Rattle.baton_store.specs.declared.limits.TheConstants.{BATON_LIFE_MS}
use Rattle.baton_store.specs.declared.store.Unused.{Unused}
use Rattle.baton_store.specs.declared.store.Redeem.{Redeem}
use Rattle.baton_store.specs.declared.store.Redeem.TheVariants.{Live, Dead}

pub record Batons : Type 0 where
  -- how many batons were issued
  pub issued : ℕ
  -- the streams that have a place, in the order in which the places were reserved
  pub reserved : List StreamNo
  -- the batons that were neither accepted nor forgotten, in the order of their issues
  pub unused : List Unused

abbrev pub no_batons : Batons
no_batons = record { issued = 0; reserved = []; unused = [] }

-- the baton has this text, and was issued to this stream at this moment
abbrev pub IsBaton : Unused → List ℕ → StreamNo → ℕ → Type 0
IsBaton u text stream at = (u.baton.text ≡ text) × (u.stream ≡ stream) × (u.at ≡ at)

-- such a baton is among them
abbrev pub HasBaton : List Unused → List ℕ → StreamNo → ℕ → Type 0
HasBaton [] text stream at = ⊥
HasBaton (u ∷ us) text stream at = IsBaton u text stream at ⊎ HasBaton us text stream at

abbrev pub same_stream : StreamNo → StreamNo → Bool
same_stream a store = a.0 == store.0

-- ---- what the calls do

abbrev pub with_place : Batons → StreamNo → Batons
with_place store stream = record store { reserved = store.reserved ++ stream ∷ [] }

-- the stream has no baton that is unused
abbrev pub HasNone : Batons → StreamNo → Type 0
HasNone store stream = All (λ u. u.stream ≢ stream) store.unused

-- the baton of the next issue
abbrev pub next_baton : Batons → StreamNo → List ℕ → ℕ → Unused
next_baton store stream words now = record { number = store.issued + 1; baton = record { text = text_of (store.issued + 1) words }; stream = stream; at = now }

abbrev pub with_baton : Batons → StreamNo → List ℕ → ℕ → Batons
with_baton store stream words now = record store { issued = store.issued + 1; unused = store.unused ++ next_baton store stream words now ∷ [] }

-- the baton is still accepted at this moment
abbrev pub Lives : Unused → ℕ → Type 0
Lives u now = now < u.at + BATON_LIFE_MS

-- the text is that of an unused baton of the stream, which lives, and is used by this
pub record Accepts (old : Batons) (text : List ℕ) (now : ℕ) (stream : StreamNo) (new : Batons) : Type 0 where
  pub place : ℕ
  pub unused : Unused
  pub at_place : slice_get old.unused place ≡ Some unused
  pub same_text : unused.baton.text ≡ text
  pub same_stream : unused.stream ≡ stream
  pub lives : Lives unused now
  pub used : new ≡ record old { unused = remove old.unused place }

-- no unused baton that lives has the text, and nothing changes
pub record Denies (old : Batons) (text : List ℕ) (now : ℕ) (new : Batons) : Type 0 where
  pub none : All (λ u. u.baton.text ≡ text → u.at + BATON_LIFE_MS ≤ now) old.unused
  pub same : new ≡ old

abbrev pub Redeems : Batons → List ℕ → ℕ → Redeem → Batons → Type 0
Redeems old text now (Live stream) new = Accepts old text now stream new
Redeems old text now Dead new = Denies old text now new

-- a stream whose baton was accepted has its place, and no unused baton: so it may be issued another
abbrev pub Frees : Redeem → Batons → Type 0
Frees (Live stream) new = Contains new.reserved stream × HasNone new stream
Frees Dead new = Unit {0}

-- the stream loses its place and its baton
abbrev pub without : Batons → StreamNo → Batons
without store stream = record store { reserved = filter (λ s. not (same_stream s stream)) store.reserved; unused = filter (λ u. not (same_stream u.stream stream)) store.unused }

-- ---- streams whose batons lived too long

abbrev pub IsDue : Unused → ℕ → Type 0
IsDue u now = u.at + BATON_LIFE_MS ≤ now

-- the stream has a baton among these that lived too long, and is the lowest of such streams
pub record IsLowestDue (unused : List Unused) (now : ℕ) (stream : StreamNo) : Type 0 where
  pub is_due : Any (λ u. (u.stream ≡ stream) × IsDue u now) unused
  pub lowest : All (λ u. IsDue u now → stream.0 ≤ u.stream.0) unused

abbrev pub IsDueAmong : List Unused → ℕ → Option StreamNo → Type 0
IsDueAmong unused now answer = MatchOption answer (All (λ u. now < u.at + BATON_LIFE_MS) unused) (λ stream. IsLowestDue unused now stream)

-- ---- places

-- the place of the baton of this number, or none where no unused baton has it
abbrev pub IsPlaceOf : List Unused → ℕ → Option ℕ → Type 0
IsPlaceOf unused number answer = MatchOption answer (All (λ u. u.number ≢ number) unused) (λ place. IsSomeAnd (slice_get unused place) (λ u. u.number ≡ number))

-- the place of the baton that has this text and lives, or none where there is none
abbrev pub IsLivePlace : List Unused → List ℕ → ℕ → Option ℕ → Type 0
IsLivePlace unused text now answer = MatchOption answer (All (λ u. u.baton.text ≡ text → u.at + BATON_LIFE_MS ≤ now) unused)
    (λ place. IsSomeAnd (slice_get unused place) (λ u. (u.baton.text ≡ text) × Lives u now))

-- ---- what holds of every store

-- the text is that of the baton's number
pub record IsNamed (u : Unused) : Type 0 where
  pub few : u.number < 2 ^ 64
  pub words : List ℕ
  pub text : u.baton.text ≡ text_of u.number words

pub record IsSound (store : Batons) : Type 0 where
  pub few : store.issued < 2 ^ 64
  pub rising : AllPairs (λ u v. u.number < v.number) store.unused
  pub numbered : All (λ u. u.number ≤ store.issued) store.unused
  pub named : All IsNamed store.unused
  pub apart : AllPairs (λ u v. u.stream ≢ v.stream) store.unused
  pub placed : All (λ u. Contains store.reserved u.stream) store.unused

-- each was issued no earlier than those before
abbrev pub MomentsRise : List Unused → Type 0
MomentsRise unused = AllPairs (λ u v. u.at ≤ v.at) unused

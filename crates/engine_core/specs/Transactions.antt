-- The live transactions of an engine, by number.
use Rattle.std.specs.Prelude.{◌≡◌, ◌≢◌, ℕ, Bool, true, false, Option, Some, None, IsTrue, nat_eq, if◌then◌else◌}

-- a live transaction: the committed database when it began, its own now, and whether it writes
pub record View (D : Type 0) : Type 0 where
  pub start : D
  pub view : D
  pub is_writer : Bool

abbrev pub Lives : Type 0 → Type 0
Lives D = ℕ → Option (View D)

abbrev pub NoneLive : {D : Type 0} → Lives D → Type 0
NoneLive live = (n : ℕ) → live n ≡ None

abbrev pub NoWriter : {D : Type 0} → Lives D → Type 0
NoWriter {D} live = (n : ℕ) (v : View D) → live n ≡ Some v → v.is_writer ≡ false

-- no live transaction but n is a writer
abbrev pub NoOtherWriter : {D : Type 0} → Lives D → ℕ → Type 0
NoOtherWriter {D} live n = (k : ℕ) (v : View D) → live k ≡ Some v → k ≢ n → v.is_writer ≡ false

abbrev pub SameLive : {D : Type 0} → Lives D → Lives D → Type 0
SameLive old new = (n : ℕ) → new n ≡ old n

-- the transaction n has become `now`, and the others are as before
pub record Became {D : Type 0} (old new : Lives D) (n : ℕ) (now : Option (View D)) : Type 0 where
  pub here : new n ≡ now
  pub others : (k : ℕ) → k ≢ n → new k ≡ old k

-- the view of the transaction n, where it lives, started as the committed database
abbrev pub StartsAt : {D : Type 0} → D → Lives D → ℕ → Type 0
StartsAt {D} db live n = (v : View D) → live n ≡ Some v → v.start ≡ db

-- the transaction n lives and writes, and where the engine tells, its view started as the committed database
pub record MayCommit {D : Type 0} (told : Bool) (db : D) (live : Lives D) (n : ℕ) : Type 0 where
  pub view : View D
  pub lives : live n ≡ Some view
  pub writes : view.is_writer ≡ true
  pub start : IsTrue told → view.start ≡ db

-- the view of the transaction n is the committed database, and the transaction is gone
pub record Committed {D : Type 0} (old : Lives D) (db : D) (new : Lives D) (n : ℕ) : Type 0 where
  pub view : View D
  pub lived : old n ≡ Some view
  pub database : db ≡ view.view
  pub gone : Became old new n None

-- ---- an engine that has at most one live transaction

-- its number, its view, and whether it writes
pub record Single (D : Type 0) : Type 0 where
  pub number : ℕ
  pub own : D
  pub writing : Bool

-- the live transactions where one lives beside a committed database that stays until it ends
abbrev pub lives_of : {D : Type 0} → D → Option (Single D) → Lives D
lives_of db None n = None
lives_of db (Some t) n = if nat_eq n t.number then Some (record { start = db; view = t.own; is_writer = t.writing }) else None

-- When a journal explains itself: each entry is in order, keeps what it tells, and has the answer of the serial order, judged on the entries up to and with it.
use Rattle.std.specs.Prelude.{◌≡◌, ◌≢◌, ℕ, zero, suc, ◌+◌, ◌<◌, Bool, true, false, not, ◌&&◌, ◌||◌, nat_eq, List, [], ◌∷◌, ◌++◌, filter, Some, None, IsSomeAnd, find}
use Rattle.std.specs.List.{list_any}
use Rattle.serial_order.specs.Journal.{Entry, Alone, Began, Ran, Denied, Ended, Failed, Stale, Held, Commit, ReadOnly, Undone, Txn, commits, units, is_open, is_open_fate}
use Rattle.serial_order.specs.Serial.{Meaning, serial, one_at_a_time, last_database, after, commits_as, told, has_written}

-- how many units an entry begins
abbrev pub begun : {S A : Type 0} → Entry S A → ℕ
begun (Began unit stream) = 1
begun entry = 0

-- how many units began
unfoldable pub begins : {S A : Type 0} → List (Entry S A) → ℕ
begins [] = 0
begins (entry ∷ rest) = begun entry + begins rest

-- whether this is an open unit of the stream
abbrev pub is_busy : {S A : Type 0} → ℕ → Txn S A → Bool
is_busy stream txn = is_open_fate txn.fate && nat_eq txn.stream stream

-- whether the stream has an open unit
unfoldable pub has_open : {S A : Type 0} → List (Entry S A) → ℕ → Bool
has_open journal stream = list_any (is_busy stream) (units journal)

-- the unit began and hasn't ended, and this holds of it
unfoldable pub IsOpenAnd : {S A : Type 0} → List (Entry S A) → ℕ → (Txn S A → Type 0) → Type 0
IsOpenAnd journal unit Holds = IsSomeAnd (find (is_open unit) (units journal)) Holds

-- after the journal the entry is in order
unfoldable pub Order : {D S A : Type 0} → Meaning D S A → List (Entry S A) → Entry S A → Type 0
Order meaning journal (Alone stream stmt answer wrote) = (has_open journal stream ≡ false) × ((meaning.is_read stmt || meaning.is_write stmt) ≡ true)
Order meaning journal (Began unit stream) = (unit ≡ suc (begins journal)) × (has_open journal stream ≡ false)
Order meaning journal (Ran unit stmt answer) = IsOpenAnd journal unit (λ txn. (meaning.is_read stmt || meaning.is_write stmt) ≡ true)
Order meaning journal (Denied unit deny) = IsOpenAnd journal unit (λ txn. Unit {0})
Order meaning journal (Ended unit Commit) = IsOpenAnd journal unit (λ txn. txn.version ≡ commits journal)
Order meaning journal (Ended unit ReadOnly) = IsOpenAnd journal unit (λ txn. has_written meaning txn.work ≡ false)
Order meaning journal (Ended unit (Undone undo)) = IsOpenAnd journal unit (λ txn. Unit {0})
Order meaning journal (Failed stream None cause) = has_open journal stream ≡ false
Order meaning journal (Failed stream (Some unit) cause) = IsOpenAnd journal unit (λ txn. txn.stream ≡ stream)

-- after the journal the entry keeps what it tells of itself
unfoldable pub Keeps : {D S A : Type 0} → Meaning D S A → List (Entry S A) → Entry S A → Type 0
Keeps meaning journal (Alone stream stmt answer wrote) = wrote ≡ (meaning.is_write stmt && not (meaning.is_refused answer))
Keeps meaning journal (Denied unit (Stale had now)) = IsOpenAnd journal unit (λ txn. (had ≡ txn.version) × (now ≡ commits journal) × (had < now))
Keeps meaning journal (Denied unit (Held by)) = IsOpenAnd journal unit (λ txn. (by ≢ txn.stream) × (has_open journal by ≡ true))
Keeps meaning journal entry = Unit {0}

-- the answers are those of the units, executed one at a time in serial order
unfoldable pub Answered : {D S A : Type 0} → Meaning D S A → D → List (Entry S A) → Type 0
Answered meaning db journal = one_at_a_time meaning db (serial journal) ≡ told (serial journal)

-- after the journal the further entries are explained
unfoldable pub ExplainedAfter : {D S A : Type 0} → Meaning D S A → D → List (Entry S A) → List (Entry S A) → Type 0
ExplainedAfter meaning db journal [] = Unit {0}
ExplainedAfter meaning db journal (entry ∷ rest) = Order meaning journal entry × Keeps meaning journal entry × Answered meaning db (journal ++ entry ∷ []) × ExplainedAfter meaning db (journal ++ entry ∷ []) rest

-- the journal explains itself, from this database on
unfoldable pub Explained : {D S A : Type 0} → Meaning D S A → D → List (Entry S A) → Type 0
Explained meaning db journal = ExplainedAfter meaning db [] journal

-- after the journal the further entries are in order and keep what they tell
unfoldable pub LawfulAfter : {D S A : Type 0} → Meaning D S A → List (Entry S A) → List (Entry S A) → Type 0
LawfulAfter meaning journal [] = Unit {0}
LawfulAfter meaning journal (entry ∷ rest) = Order meaning journal entry × Keeps meaning journal entry × LawfulAfter meaning (journal ++ entry ∷ []) rest

-- each entry is in order and keeps what it tells, whatever the answers are
unfoldable pub Lawful : {D S A : Type 0} → Meaning D S A → List (Entry S A) → Type 0
Lawful meaning journal = LawfulAfter meaning [] journal

-- the database after this many commits of these units
unfoldable pub database_at : {D S A : Type 0} → Meaning D S A → D → List (Txn S A) → ℕ → D
database_at meaning db txns zero = db
database_at meaning db txns (suc version) = last_database meaning (database_at meaning db txns version) (filter (commits_as (suc version)) txns)

-- the view that a unit has: the database of its version, with the unit's own statements
unfoldable pub view_of : {D S A : Type 0} → Meaning D S A → D → List (Txn S A) → Txn S A → D
view_of meaning db txns txn = after meaning (database_at meaning db txns txn.version) txn.work

-- after the journal the entry has the answer that its statement gives on its own unit's view
unfoldable pub IsAnswer : {D S A : Type 0} → Meaning D S A → D → List (Entry S A) → Entry S A → Type 0
IsAnswer meaning db journal (Alone stream stmt answer wrote) = answer ≡ (meaning.exec (database_at meaning db (units journal) (commits journal)) stmt).1
IsAnswer meaning db journal (Ran unit stmt answer) = IsOpenAnd journal unit (λ txn. answer ≡ (meaning.exec (view_of meaning db (units journal) txn) stmt).1)
IsAnswer meaning db journal entry = Unit {0}

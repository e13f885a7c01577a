-- The serial order of a journal, and its units executed one at a time.
use Rattle.std.specs.Prelude.{◌≡◌, ℕ, zero, suc, Bool, true, false, cond, not, ◌&&◌, ◌||◌, nat_eq, List, [], ◌∷◌, ◌++◌, map, filter}
use Rattle.serial_order.specs.Journal.{Entry, Done, Fate, Open, Dropped, Committed, Txn, commits, units}

-- what statements mean on databases; a refusal and a read leave the database
pub record Meaning (D S A : Type 0) : Type 0 where
  pub exec : D → S → D × A
  pub is_read : S → Bool
  pub is_write : S → Bool
  pub is_refused : A → Bool
  pub refusal_leaves : (db : D) (stmt : S) → is_refused (exec db stmt).1 ≡ true → (exec db stmt).0 ≡ db
  pub read_leaves : (db : D) (stmt : S) → is_read stmt ≡ true → (exec db stmt).0 ≡ db

-- whether one of these statements is a write
unfoldable pub has_written : {D S A : Type 0} → Meaning D S A → List (Done S A) → Bool
has_written meaning [] = false
has_written meaning (done ∷ rest) = meaning.is_write done.stmt || has_written meaning rest

abbrev pub is_place : ℕ → Fate → Bool
is_place place Open = false
is_place place Dropped = false
is_place place (Committed own) = nat_eq own place

abbrev pub has_committed : Fate → Bool
has_committed Open = false
has_committed Dropped = false
has_committed (Committed place) = true

-- whether the unit makes the commit at this place, and with it the version of that number
abbrev pub commits_as : {S A : Type 0} → ℕ → Txn S A → Bool
commits_as place txn = is_place place txn.fate

-- whether the unit commits nothing and has this version
abbrev pub stays_at : {S A : Type 0} → ℕ → Txn S A → Bool
stays_at version txn = not (has_committed txn.fate) && nat_eq txn.version version

-- the units of the versions up to this one: for each version the unit whose commit made it, then those that commit nothing and have it, in the order of the list
unfoldable pub upto : {S A : Type 0} → List (Txn S A) → ℕ → List (Txn S A)
upto txns zero = filter (stays_at zero) txns
upto txns (suc version) = upto txns version ++ (filter (commits_as (suc version)) txns ++ filter (stays_at (suc version)) txns)

-- the units of a journal in serial order
unfoldable pub serial : {S A : Type 0} → List (Entry S A) → List (Txn S A)
serial journal = upto (units journal) (commits journal)

-- the answers of statements that are executed in turn
unfoldable pub answers : {D S A : Type 0} → Meaning D S A → D → List (Done S A) → List A
answers meaning db [] = []
answers meaning db (done ∷ rest) = (meaning.exec db done.stmt).1 ∷ answers meaning (meaning.exec db done.stmt).0 rest

-- the database after them
unfoldable pub after : {D S A : Type 0} → Meaning D S A → D → List (Done S A) → D
after meaning db [] = db
after meaning db (done ∷ rest) = after meaning (meaning.exec db done.stmt).0 rest

-- the database that a unit leaves: the one after its statements where it commits, else the one before them
unfoldable pub kept : {D S A : Type 0} → Meaning D S A → D → Txn S A → D
kept meaning db txn = cond (has_committed txn.fate) (after meaning db txn.work) db

-- the answers of each unit, where they are executed one at a time from this database
unfoldable pub one_at_a_time : {D S A : Type 0} → Meaning D S A → D → List (Txn S A) → List (List A)
one_at_a_time meaning db [] = []
one_at_a_time meaning db (txn ∷ rest) = answers meaning db txn.work ∷ one_at_a_time meaning (kept meaning db txn) rest

-- the database that they leave
unfoldable pub last_database : {D S A : Type 0} → Meaning D S A → D → List (Txn S A) → D
last_database meaning db [] = db
last_database meaning db (txn ∷ rest) = last_database meaning (kept meaning db txn) rest

-- the answers that the journal tells of each of these units
unfoldable pub told : {S A : Type 0} → List (Txn S A) → List (List A)
told txns = map (λ txn. map (λ done. done.answer) txn.work) txns

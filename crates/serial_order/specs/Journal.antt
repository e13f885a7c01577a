-- The entries of a journal and its units: what a journal says of itself, before any database is known.
use Rattle.std.specs.Prelude.{ℕ, suc, ◌+◌, Bool, true, false, cond, ◌&&◌, nat_eq, List, [], ◌∷◌, ◌++◌, map, Option, Some, None}

-- why a statement was denied: its unit has version `had` and there are `now` commits, or the stream `by` has the turn to write
pub data Deny : Type 0 where
  Stale : (had now : ℕ) → Deny
  Held : (by : ℕ) → Deny

-- what undid a unit
pub data Undo : Type 0 where
  Close : Undo
  Lost : Undo
  Expired : Undo
  Rollback : Undo
  Stop : Undo

-- what broke a call of the engine
pub data Broken : Type 0 where
  Fault : Broken
  NoMemory : Broken

-- how a unit ended
pub data How : Type 0 where
  Commit : How
  ReadOnly : How
  Undone : (undo : Undo) → How

-- one entry of a journal, whose statements are of type S and whose answers are of type A
pub data Entry (S A : Type 0) : Type 0 where
  Alone : (stream : ℕ) (stmt : S) (answer : A) (wrote : Bool) → Entry S A
  Began : (unit stream : ℕ) → Entry S A
  Ran : (unit : ℕ) (stmt : S) (answer : A) → Entry S A
  Denied : (unit : ℕ) (deny : Deny) → Entry S A
  Ended : (unit : ℕ) (how : How) → Entry S A
  Failed : (stream : ℕ) (unit : Option ℕ) (cause : Broken) → Entry S A

-- a statement that was run, and the answer that it got
pub record Done (S A : Type 0) : Type 0 where
  pub stmt : S
  pub answer : A

-- what became of a unit: it is open, it ended and committed nothing, or it made the commit at this place among the journal's commits, from 1 on
pub data Fate : Type 0 where
  Open : Fate
  Dropped : Fate
  Committed : (place : ℕ) → Fate

-- a unit: a transaction, or a statement alone, which has the number 0
pub record Txn (S A : Type 0) : Type 0 where
  pub number : ℕ
  pub stream : ℕ
  pub version : ℕ
  pub work : List (Done S A)
  pub fate : Fate

-- how many commits an entry is
abbrev pub adds : {S A : Type 0} → Entry S A → ℕ
adds (Alone stream stmt answer wrote) = cond wrote 1 0
adds (Began unit stream) = 0
adds (Ran unit stmt answer) = 0
adds (Denied unit deny) = 0
adds (Ended unit Commit) = 1
adds (Ended unit ReadOnly) = 0
adds (Ended unit (Undone undo)) = 0
adds (Failed stream unit cause) = 0

-- how many commits a journal has
unfoldable pub commits : {S A : Type 0} → List (Entry S A) → ℕ
commits [] = 0
commits (entry ∷ rest) = adds entry + commits rest

abbrev pub is_open_fate : Fate → Bool
is_open_fate Open = true
is_open_fate Dropped = false
is_open_fate (Committed place) = false

-- whether this is the open unit of that number
abbrev pub is_open : {S A : Type 0} → ℕ → Txn S A → Bool
is_open number txn = is_open_fate txn.fate && nat_eq txn.number number

-- the units, where the open unit of that number is changed
abbrev pub change : {S A : Type 0} → ℕ → (Txn S A → Txn S A) → List (Txn S A) → List (Txn S A)
change number changed txns = map (λ txn. cond (is_open number txn) (changed txn) txn) txns

-- the unit with one more statement
abbrev pub with_done : {S A : Type 0} → S → A → Txn S A → Txn S A
with_done stmt answer txn = record { number = txn.number; stream = txn.stream; version = txn.version; work = txn.work ++ record { stmt = stmt; answer = answer } ∷ []; fate = txn.fate }

abbrev pub with_fate : {S A : Type 0} → Fate → Txn S A → Txn S A
with_fate fate txn = record { number = txn.number; stream = txn.stream; version = txn.version; work = txn.work; fate = fate }

-- what becomes of a unit that ends so, after this many commits
abbrev pub fate_of : ℕ → How → Fate
fate_of before Commit = Committed (suc before)
fate_of before ReadOnly = Dropped
fate_of before (Undone undo) = Dropped

-- the units after one more entry, before which stand this many commits
abbrev pub gather : {S A : Type 0} → ℕ → List (Txn S A) → Entry S A → List (Txn S A)
gather before txns (Alone stream stmt answer wrote) = txns ++ record { number = 0; stream = stream; version = before; work = record { stmt = stmt; answer = answer } ∷ []; fate = cond wrote (Committed (suc before)) Dropped } ∷ []
gather before txns (Began unit stream) = txns ++ record { number = unit; stream = stream; version = before; work = []; fate = Open } ∷ []
gather before txns (Ran unit stmt answer) = change unit (with_done stmt answer) txns
gather before txns (Denied unit deny) = txns
gather before txns (Ended unit how) = change unit (with_fate (fate_of before how)) txns
gather before txns (Failed stream None cause) = txns
gather before txns (Failed stream (Some unit) cause) = change unit (with_fate Dropped) txns

unfoldable pub units_from : {S A : Type 0} → ℕ → List (Txn S A) → List (Entry S A) → List (Txn S A)
units_from before txns [] = txns
units_from before txns (entry ∷ rest) = units_from (before + adds entry) (gather before txns entry) rest

-- the units of a journal, in the order of their first entries
unfoldable pub units : {S A : Type 0} → List (Entry S A) → List (Txn S A)
units journal = units_from 0 [] journal

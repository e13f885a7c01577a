-- Laws over every list of calls.
use Rattle.std.specs.Prelude.{◌≡◌, ◌≢◌, ◌≤◌, ◌<◌, ℕ, IsTrue, List, Some, All, AllPairs}
use Rattle.hrana_value.specs.declared.StreamNo.{StreamNo}
use Rattle.txn_table.specs.Turns.{Turns, has, grant_of}
use Rattle.txn_table.specs.History.{Call, Run, Holds, commits_of}
use Rattle.txn_table.specs.declared.table.Need.{Need}
use Rattle.txn_table.specs.declared.table.Need.TheVariants.{Alone, Begin, Upgrade}
use Rattle.txn_table.specs.declared.table.Grant.{Grant}
use Rattle.txn_table.specs.declared.table.Grant.TheVariants.{Now, Wait, Stale, Held}

-- No two streams hold the turn.
abbrev pub OneHolder : Type 0
OneHolder = (past : List Call) (t : Turns) → Run past t → (a b : StreamNo) (v w : ℕ) → Holds past a v → Holds past b w → a ≡ b

abbrev pub IsHolder : List Call → StreamNo → Type 0
IsHolder past stream = (version : ℕ) × Holds past stream version

abbrev pub IsFree : List Call → Type 0
IsFree past = (stream : StreamNo) (version : ℕ) → Holds past stream version → ⊥

-- what was read is of the version that is now
abbrev pub IsFresh : List Call → Need → Type 0
IsFresh past Alone = Unit {0}
IsFresh past Begin = Unit {0}
IsFresh past (Upgrade had) = commits_of past ≤ had

abbrev pub IsUpgrade : Need → Type 0
IsUpgrade Alone = ⊥
IsUpgrade Begin = ⊥
IsUpgrade (Upgrade had) = Unit {0}

abbrev pub MayWait : Need → Type 0
MayWait Alone = Unit {0}
MayWait Begin = Unit {0}
MayWait (Upgrade had) = ⊥

-- The rules, by the calls alone. At most one grant is by the rules.
abbrev pub IsGranted : List Call → Need → Grant → Type 0
IsGranted past need (Now version) = (version ≡ commits_of past) × IsFresh past need × IsFree past
IsGranted past need (Wait holder) = MayWait need × IsHolder past holder
IsGranted past need (Stale had now) = (need ≡ Upgrade had) × (now ≡ commits_of past) × (had < now)
IsGranted past need (Held holder) = IsUpgrade need × IsFresh past need × IsHolder past holder

abbrev pub GrantsExact : Type 0
GrantsExact = (past : List Call) (t : Turns) (need : Need) → Run past t → IsGranted past need (grant_of t need)

abbrev pub VersionsExact : Type 0
VersionsExact = (past : List Call) (t : Turns) → Run past t → (t.version ≡ commits_of past) × ((stream : StreamNo) (version : ℕ) → Holds past stream version → version ≡ commits_of past)

pub record AreOrderly (t : Turns) : Type 0 where
  pub once : AllPairs (λ (a b : StreamNo). a ≢ b) t.waiters
  pub placed : All (λ (stream : StreamNo). IsTrue (has stream t.reserved)) t.waiters
  pub holder_placed : (stream : StreamNo) → t.turn ≡ Some stream → IsTrue (has stream t.reserved)
  pub holder_apart : (stream : StreamNo) → t.turn ≡ Some stream → All (λ (waiter : StreamNo). waiter ≢ stream) t.waiters

abbrev pub WaitersOrderly : Type 0
WaitersOrderly = (past : List Call) (t : Turns) → Run past t → AreOrderly t

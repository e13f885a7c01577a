-- The calls of a table so far, and who holds the turn by them.
use Rattle.std.specs.Prelude.{◌≡◌, ◌≢◌, ◌+◌, ◌-◌, ◌^◌, ◌<◌, ◌⊎◌, ℕ, IsTrue, List, [], ◌∷◌, Some}
use Rattle.hrana_value.specs.declared.StreamNo.{StreamNo}
use Rattle.txn_table.specs.Turns.{Turns, no_turns, has, with_place, grant_of, after_grant, after_commit, after_end, after_loss}
use Rattle.txn_table.specs.declared.table.Need.{Need}
use Rattle.txn_table.specs.declared.table.Grant.{Grant}
use Rattle.txn_table.specs.declared.table.Grant.TheVariants.{Now, Wait, Stale, Held}

-- one call, with its arguments and what it gave
pub data Call : Type 0 where
  reserved : StreamNo → Call
  -- no memory was found for a place
  refused : StreamNo → Call
  wanted : StreamNo → Need → Grant → Call
  committed : StreamNo → Call
  ended : StreamNo → Call
  lost : StreamNo → Call

-- These calls, the last one first, lead from a new table to this one.
pub data Run : List Call → Turns → Type 0 where
  nothing : Run [] no_turns
  reserves : {past : List Call} {t : Turns} → Run past t → (stream : StreamNo) → Run (reserved stream ∷ past) (with_place t stream)
  refuses : {past : List Call} {t : Turns} → Run past t → (stream : StreamNo) → Run (refused stream ∷ past) t
  wants : {past : List Call} {t : Turns} → Run past t → (stream : StreamNo) (need : Need) → IsTrue (has stream t.reserved) → t.turn ≢ Some stream
      → Run (wanted stream need (grant_of t need) ∷ past) (after_grant t stream (grant_of t need))
  commits : {past : List Call} {t : Turns} → Run past t → (stream : StreamNo) → t.turn ≡ Some stream → t.version < 2 ^ 64 - 1
      → Run (committed stream ∷ past) (after_commit t)
  ends : {past : List Call} {t : Turns} → Run past t → (stream : StreamNo) → Run (ended stream ∷ past) (after_end t stream)
  loses : {past : List Call} {t : Turns} → Run past t → (stream : StreamNo) → Run (lost stream ∷ past) (after_loss t stream)

-- The stream was granted the turn at this version, and since then it didn't commit, didn't end and wasn't lost.
abbrev pub Holds : List Call → StreamNo → ℕ → Type 0
Holds [] stream version = ⊥
Holds (reserved s ∷ past) stream version = Holds past stream version
Holds (refused s ∷ past) stream version = Holds past stream version
Holds (wanted s need (Now v) ∷ past) stream version = ((s ≡ stream) × (v ≡ version)) ⊎ Holds past stream version
Holds (wanted s need (Wait holder) ∷ past) stream version = Holds past stream version
Holds (wanted s need (Stale had now) ∷ past) stream version = Holds past stream version
Holds (wanted s need (Held holder) ∷ past) stream version = Holds past stream version
Holds (committed s ∷ past) stream version = (s ≢ stream) × Holds past stream version
Holds (ended s ∷ past) stream version = (s ≢ stream) × Holds past stream version
Holds (lost s ∷ past) stream version = (s ≢ stream) × Holds past stream version

-- how many commits there were
abbrev pub commits_of : List Call → ℕ
commits_of [] = 0
commits_of (reserved s ∷ past) = commits_of past
commits_of (refused s ∷ past) = commits_of past
commits_of (wanted s need grant ∷ past) = commits_of past
commits_of (committed s ∷ past) = commits_of past + 1
commits_of (ended s ∷ past) = commits_of past
commits_of (lost s ∷ past) = commits_of past

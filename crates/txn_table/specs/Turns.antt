-- One turn to write, the version, and who waits.
use Rattle.std.specs.Prelude.{◌+◌, ◌==◌, ℕ, Bool, not, cond, nat_lt, List, [], ◌∷◌, ◌++◌, filter, Option, Some, None}
use Rattle.std.specs.List.{list_any}
use Rattle.hrana_value.specs.declared.StreamNo.{StreamNo}
use Rattle.txn_table.specs.declared.table.Need.{Need}
use Rattle.txn_table.specs.declared.table.Need.TheVariants.{Alone, Begin, Upgrade}
use Rattle.txn_table.specs.declared.table.Grant.{Grant}
use Rattle.txn_table.specs.declared.table.Grant.TheVariants.{Now, Wait, Stale, Held}

pub record Turns : Type 0 where
  -- who holds the turn
  pub turn : Option StreamNo
  -- how many commits there were
  pub version : ℕ
  -- who waits, in the order of arrival
  pub waiters : List StreamNo
  -- the streams that have a place, in rising number
  pub reserved : List StreamNo

abbrev pub no_turns : Turns
no_turns = record { turn = None; version = 0; waiters = []; reserved = [] }

-- ---- lists of streams

abbrev pub same_stream : StreamNo → StreamNo → Bool
same_stream a b = a.0 == b.0

abbrev pub has : StreamNo → List StreamNo → Bool
has stream xs = list_any (λ x. same_stream x stream) xs

abbrev pub without : StreamNo → List StreamNo → List StreamNo
without stream xs = filter (λ x. not (same_stream x stream)) xs

-- put at the end, unless it is there
abbrev pub queued : StreamNo → List StreamNo → List StreamNo
queued stream xs = cond (has stream xs) xs (xs ++ stream ∷ [])

-- put at its place in rising number, unless it is there
abbrev pub placed : StreamNo → List StreamNo → List StreamNo
placed stream [] = stream ∷ []
placed stream (x ∷ xs) = cond (nat_lt x.0 stream.0) (x ∷ placed stream xs) (cond (same_stream x stream) (x ∷ xs) (stream ∷ x ∷ xs))

-- ---- what a stream is granted that doesn't hold the turn

-- the turn where nobody holds it, and otherwise what is answered of its holder
abbrev pub now_or : (StreamNo → Grant) → Option StreamNo → ℕ → Grant
now_or of_holder None version = Now version
now_or of_holder (Some holder) version = of_holder holder

abbrev pub grant_of : Turns → Need → Grant
grant_of t Alone = now_or Wait t.turn t.version
grant_of t Begin = now_or Wait t.turn t.version
grant_of t (Upgrade had) = cond (nat_lt had t.version) (Stale had t.version) (now_or Held t.turn t.version)

abbrev pub after_grant : Turns → StreamNo → Grant → Turns
after_grant t stream (Now version) = record t { turn = Some stream; waiters = without stream t.waiters }
after_grant t stream (Wait holder) = record t { waiters = queued stream t.waiters }
after_grant t stream (Stale had now) = t
after_grant t stream (Held holder) = t

-- ---- what the other calls do

abbrev pub with_place : Turns → StreamNo → Turns
with_place t stream = record t { reserved = placed stream t.reserved }

abbrev pub after_commit : Turns → Turns
after_commit t = record t { turn = None; version = t.version + 1 }

-- who holds the turn after the stream gave it back, if it held it
abbrev pub given_back : Option StreamNo → StreamNo → Option StreamNo
given_back None stream = None
given_back (Some holder) stream = cond (same_stream holder stream) None (Some holder)

abbrev pub after_end : Turns → StreamNo → Turns
after_end t stream = record t { turn = given_back t.turn stream }

abbrev pub after_loss : Turns → StreamNo → Turns
after_loss t stream = record { turn = given_back t.turn stream; version = t.version; waiters = without stream t.waiters; reserved = without stream t.reserved }

-- the first waiter, where nobody holds the turn
abbrev pub first_waiter : Option StreamNo → List StreamNo → Option StreamNo
first_waiter None [] = None
first_waiter None (x ∷ xs) = Some x
first_waiter (Some holder) xs = None

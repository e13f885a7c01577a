-- The streams of a desk: each has the number of its place.
use Rattle.std.specs.Prelude.{◌≡◌, ℕ, zero, suc, List, [], ◌∷◌, Option, Some, None, slice_get, Bool}
use Rattle.txn_table.specs.Turns.{Turns}
use Rattle.engine_core.specs.Transactions.{Lives}
use Rattle.stream_task.specs.Polls.{Task}
use Rattle.stream_task.specs.Together.{States, Together, numbered}

abbrev pub states_of : List Task → States
states_of [] n = None
states_of (task ∷ tasks) zero = Some task.session.state
states_of (task ∷ tasks) (suc n) = states_of tasks n

abbrev pub AreNumbered : List Task → Type 0
AreNumbered tasks = (n : ℕ) (task : Task) → slice_get tasks n ≡ Some task → task.stream ≡ numbered n

-- the streams, the table and the engine agree
pub record IsSound {D : Type 0} (told shared : Bool) (db : D) (live : Lives D) (t : Turns) (next : ℕ) (tasks : List Task) : Type 0 where
  pub numbers : AreNumbered tasks
  pub together : Together told shared db live t next (states_of tasks)

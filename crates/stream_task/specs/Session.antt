-- The state of a stream's transaction.
use Rattle.std.specs.Prelude.{ℕ, Bool, true, false, Option, Some, None}
use Rattle.stream_task.specs.declared.session.TxnState.{TxnState}
use Rattle.stream_task.specs.declared.session.TxnState.TheVariants.{Auto, Reading, Writing, Dead, Closed}

abbrev pub is_auto : TxnState → Bool
is_auto Auto = true
is_auto state = false

-- the stream does no more than answer
abbrev pub is_shut : TxnState → Bool
is_shut (Dead cause) = true
is_shut Closed = true
is_shut state = false

-- the open unit
abbrev pub unit_of : TxnState → Option ℕ
unit_of (Reading unit had) = Some unit
unit_of (Writing unit) = Some unit
unit_of state = None

-- how many units are open
abbrev pub open_of : TxnState → ℕ
open_of (Reading unit had) = 1
open_of (Writing unit) = 1
open_of state = 0

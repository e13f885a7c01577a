-- The entries as the law of serial order has them, and the faults among them.
use Rattle.std.specs.Prelude.{ℕ, ◌+◌, List, [], ◌∷◌}
use Rattle.serial_order.specs.Journal as law
use Rattle.engine_core.specs.declared.statement.BoundStmt.{BoundStmt}
use Rattle.engine_core.specs.declared.entries.Answer.{Answer}
use Rattle.engine_core.specs.declared.entries.Broken.{Broken}
use Rattle.engine_core.specs.declared.entries.Broken.TheVariants as broken
use Rattle.engine_core.specs.declared.entries.Deny.{Deny}
use Rattle.engine_core.specs.declared.entries.Deny.TheVariants.{Stale, Held}
use Rattle.engine_core.specs.declared.entries.Entry.{Entry}
use Rattle.engine_core.specs.declared.entries.Entry.TheVariants.{Alone, Began, Ran, Denied, Ended, Failed}
use Rattle.engine_core.specs.declared.entries.How.{How}
use Rattle.engine_core.specs.declared.entries.How.TheVariants.{Committed, Read, Undone}
use Rattle.engine_core.specs.declared.entries.Undo.{Undo}
use Rattle.engine_core.specs.declared.entries.Undo.TheVariants as undo

abbrev pub deny_of : Deny → law.Deny
deny_of (Stale had now) = law.Stale had now
deny_of (Held by) = law.Held by.0

abbrev pub undo_of : Undo → law.Undo
undo_of undo.Close = law.Close
undo_of undo.Lost = law.Lost
undo_of undo.Expired = law.Expired
undo_of undo.Rollback = law.Rollback
undo_of undo.Stop = law.Stop

abbrev pub how_of : How → law.How
how_of Committed = law.Commit
how_of Read = law.ReadOnly
how_of (Undone undo) = law.Undone (undo_of undo)

abbrev pub broken_of : Broken → law.Broken
broken_of broken.Fault = law.Fault
broken_of broken.NoMemory = law.NoMemory

abbrev pub entry_of : Entry → law.Entry BoundStmt Answer
entry_of (Alone stream stmt answer wrote) = law.Alone stream.0 stmt answer wrote
entry_of (Began unit stream) = law.Began unit stream.0
entry_of (Ran unit stmt answer) = law.Ran unit stmt answer
entry_of (Denied unit deny) = law.Denied unit (deny_of deny)
entry_of (Ended unit how) = law.Ended unit (how_of how)
entry_of (Failed stream unit cause) = law.Failed stream.0 unit (broken_of cause)

-- 1 for a failure by a fault
abbrev pub fault_of : Entry → ℕ
fault_of (Failed stream unit broken.Fault) = 1
fault_of entry = 0

-- the entries that are failures by a fault
abbrev pub fault_count : List Entry → ℕ
fault_count [] = 0
fault_count (entry ∷ journal) = fault_of entry + fault_count journal

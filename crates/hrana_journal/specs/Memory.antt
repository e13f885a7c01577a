-- The journal in memory: its entries, the calls that fail, and its faults.
use Rattle.std.specs.Prelude.{ℕ, List, Bool, true, false, Result, Ok, Err}
use Rattle.engine_core.specs.Listed.{Listed, calls_of, faults_of}
use Rattle.engine_core.specs.declared.entries.Entry.{Entry}
use Rattle.engine_core.specs.declared.journal.JournalFail.{JournalFail}
use Rattle.engine_core.specs.declared.journal.JournalFail.TheVariants.{Fault, NoMemory}
use Rattle.hrana_journal.specs.declared.memory_journal.MemoryJournal.{MemoryJournal}

abbrev pub journal_entries : MemoryJournal → List Entry
journal_entries j = j.entries

abbrev pub journal_calls : MemoryJournal → Listed
journal_calls j = calls_of j.listed

abbrev pub journal_faults : MemoryJournal → ℕ
journal_faults j = faults_of j.listed

-- the call broke, and wasn't short of memory
abbrev pub is_fault : {T : Type 0} → Result T JournalFail → Bool
is_fault (Ok given) = false
is_fault (Err Fault) = true
is_fault (Err NoMemory) = false

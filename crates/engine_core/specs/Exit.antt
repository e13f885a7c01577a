-- The exit number of each status.
use Rattle.std.specs.Prelude.{ℕ}
use Rattle.engine_core.specs.declared.status.Status.{Status}
use Rattle.engine_core.specs.declared.status.Status.TheVariants.{Done, BadWords, BadScript, ReadFault, WriteFault, JournalFault, NoMemory, InputTooLong}

abbrev pub exit_number_of : Status → ℕ
exit_number_of Done = 0
exit_number_of BadWords = 2
exit_number_of (BadScript line) = 3
exit_number_of ReadFault = 4
exit_number_of WriteFault = 5
exit_number_of JournalFault = 7
exit_number_of NoMemory = 11
exit_number_of InputTooLong = 12

-- All words of the law, to open at once.
use Rattle.serial_order.specs.Journal.{commits, units_from, units}
use Rattle.serial_order.specs.Serial.{has_written, upto, serial, answers, after, kept, one_at_a_time, last_database, told}
use Rattle.serial_order.specs.Machine.{Step, Run, HasTurn, RunByTurns}
use Rattle.serial_order.specs.Turns.{has_the_turn, one_after_another}
use Rattle.serial_order.specs.Explained.{begins, has_open, IsOpenAnd, Order, Keeps, Answered, ExplainedAfter, Explained, LawfulAfter, Lawful, database_at, view_of, IsAnswer}

unfoldable pub words : Unit {0}
unfolding commits units_from units has_written upto serial answers after kept one_at_a_time last_database told Step Run HasTurn RunByTurns has_the_turn one_after_another begins has_open IsOpenAnd Order Keeps Answered ExplainedAfter Explained LawfulAfter Lawful database_at view_of IsAnswer
words = tt

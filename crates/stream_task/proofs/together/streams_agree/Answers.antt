use Rattle.stream_task.proofs.TogetherLemmas.{may_poll, turn_is_writers, live_are_open, writers_are_writing, no_readers}
use Rattle.stream_task.proofs.together.streams_agree.Goals as goal

pub returns-clause-polls : goal.returns-clause-polls
returns-clause-polls g c = may_poll _ _

pub returns-clause-turn : goal.returns-clause-turn
returns-clause-turn g c = turn_is_writers _ _

pub returns-clause-units : goal.returns-clause-units
returns-clause-units g c = live_are_open _ _

pub returns-clause-writers : goal.returns-clause-writers
returns-clause-writers g c = writers_are_writing _ _

pub returns-clause-readers : goal.returns-clause-readers
returns-clause-readers g c = no_readers _ _

use Rattle.stream_task.proofs.LeadsLaws.{begins_standing}
use Rattle.stream_task.proofs.leads.streams_stand_at_first.Goals as goal

pub returns : goal.returns
returns g c = begins_standing _ _ (c.serial_order.ensures.run_none _) (c.serial_order.ensures.turns_none _)

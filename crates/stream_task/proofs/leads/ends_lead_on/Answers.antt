use Rattle.stream_task.proofs.LeadsLaws.{ends_lead}
use Rattle.stream_task.proofs.leads.ends_lead_on.Goals as goal

pub returns : goal.returns
returns g c = λ engine engine' t t' old new task why now states states'.
    ends_lead _ _ _ _ _ _ engine engine' t t' old new task why now states states' (record { reads = g.met.E.Engine.reads; writes = g.met.E.Engine.writes; refusals = g.met.E.Engine.refusals })
    (record { run = c.serial_order.ensures.run_entry _; turns = c.serial_order.ensures.turns_entry _ })

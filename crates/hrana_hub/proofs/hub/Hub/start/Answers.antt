use Rattle.std.proofs.Common.{subst}
use Rattle.hrana_hub.specs.declared.exchange_arrivals.Ready.{Ready}
use Rattle.hrana_hub.specs.declared.exchange_arrivals.Ready.TheVariants.{Answered, Waits}
use Rattle.hrana_hub.specs.ExchangeArrived.{IsReadyFor}
use Rattle.hrana_hub.proofs.Entering.{started_over, started_runs}
use Rattle.hrana_hub.proofs.hub.Hub.start.Goals as goal

pub returns-in-Answered : goal.returns-in-Answered
returns-in-Answered c = λ x p asks known is.
    let ready : IsReadyFor p asks c.args.close (Answered c.in-Answered.answer) = subst (λ (r : Ready). IsReadyFor p asks c.args.close r) c.in-Answered.is is in
    started_over c.args.self.now c.hand_out.new.self c.args.stream c.args.conn c.args.words c.args.close x p asks c.hand_out.result ready.0 (c.hand_out.ensures.given p.results c.args.close ready.1) (c.hand_out.ensures.hub x known)

pub returns-in-Waits : goal.returns-in-Waits
returns-in-Waits c = λ x p asks known is.
    let ready : IsReadyFor p asks c.args.close (Waits c.in-Waits.exchange c.in-Waits.queued) = subst (λ (r : Ready). IsReadyFor p asks c.args.close r) c.in-Waits.is is in
    started_runs c.args.self.now c.run.new.self c.args.stream c.args.conn c.args.words c.args.close x p c.in-Waits.exchange asks c.in-Waits.queued c.nothing.result ready.0 ready.1 ready.2 c.nothing.ensures (c.run.ensures x known)

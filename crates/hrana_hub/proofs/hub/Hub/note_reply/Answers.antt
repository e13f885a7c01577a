use Rattle.hrana_hub.proofs.Adding.{adds_from}
use Rattle.hrana_hub.proofs.ExchangePolling.{taken, taken_agrees, taken_may, taken_stopped, taken_rests, taken_known, taken_list, taken_token, taken_alike, taken_tells, none_taken}
use Rattle.hrana_hub.proofs.hub.Hub.note_reply.Goals as goal
use Rattle.std.proofs.Common.{◌∙◌}

pub proceed-requires-clause-agrees : goal.proceed-requires-clause-agrees
proceed-requires-clause-agrees g c = taken_agrees _ _ _ _ (taken c.args.self.now c.take_running.new.self c.args.stream c.in-Some.running _ c.requires.stream c.in-Some.is c.take_running.ensures.running c.take_running.ensures.hub) _ _ _ _ c.requires.agrees

pub proceed-requires-clause-issues : goal.proceed-requires-clause-issues
proceed-requires-clause-issues g c = taken_may _ _ _ _ (taken c.args.self.now c.take_running.new.self c.args.stream c.in-Some.running _ c.requires.stream c.in-Some.is c.take_running.ensures.running c.take_running.ensures.hub) c.requires.issues

pub proceed-requires-clause-running : goal.proceed-requires-clause-running
proceed-requires-clause-running g c = taken_stopped _ _ _ _ (taken c.args.self.now c.take_running.new.self c.args.stream c.in-Some.running _ c.requires.stream c.in-Some.is c.take_running.ensures.running c.take_running.ensures.hub) c.requires.running

pub proceed-requires-clause-rests : goal.proceed-requires-clause-rests
proceed-requires-clause-rests g c = taken_rests _ _ _ _ (taken c.args.self.now c.take_running.new.self c.args.stream c.in-Some.running _ c.requires.stream c.in-Some.is c.take_running.ensures.running c.take_running.ensures.hub)

pub proceed-requires-clause-stream : goal.proceed-requires-clause-stream
proceed-requires-clause-stream g c = taken_known _ _ _ _ (taken c.args.self.now c.take_running.new.self c.args.stream c.in-Some.running _ c.requires.stream c.in-Some.is c.take_running.ensures.running c.take_running.ensures.hub)

pub returns-in-Some-clause-adds : goal.returns-in-Some-clause-adds
returns-in-Some-clause-adds g c =
    let t = taken c.args.self.now c.take_running.new.self c.args.stream c.in-Some.running _ c.requires.stream c.in-Some.is c.take_running.ensures.running c.take_running.ensures.hub in
    adds_from _ _ c.args.self.now c.take_running.new.self c.proceed.new.self _ _ (taken_list _ _ _ _ t) (taken_alike _ _ _ _ t) (λ added h. taken_tells _ _ _ _ t c.args.reply c.proceed.result c.proceed.new.self.state added h) c.proceed.ensures.adds

pub returns-in-Some-clause-token : goal.returns-in-Some-clause-token
returns-in-Some-clause-token g c = c.proceed.ensures.token ∙ taken_token _ _ _ _ (taken c.args.self.now c.take_running.new.self c.args.stream c.in-Some.running _ c.requires.stream c.in-Some.is c.take_running.ensures.running c.take_running.ensures.hub)

pub returns-in-None-clause-adds : goal.returns-in-None-clause-adds
returns-in-None-clause-adds g c = none_taken c.args.self.now c.args.stream _ c.requires.stream c.in-None.is c.requires.runs c.take_running.ensures.running

pub returns-in-None-clause-agrees : goal.returns-in-None-clause-agrees
returns-in-None-clause-agrees g c = none_taken c.args.self.now c.args.stream _ c.requires.stream c.in-None.is c.requires.runs c.take_running.ensures.running

pub returns-in-None-clause-token : goal.returns-in-None-clause-token
returns-in-None-clause-token g c = none_taken c.args.self.now c.args.stream _ c.requires.stream c.in-None.is c.requires.runs c.take_running.ensures.running

use Rattle.hrana_hub.proofs.Counting.{silent_step}
use Rattle.hrana_serve.proofs.DrawLemmas.{draws_as}
use Rattle.hrana_serve.proofs.NoteLemmas.{adds_noted, adds_unnoted, adds_as}
use Rattle.hrana_serve.proofs.replay.stop.Goals as goal

pub returns-then-halt-clause-adds : goal.returns-then-halt-clause-adds
returns-then-halt-clause-adds g c =
    let n = c.note_entries.ensures in
    draws_as _ _ _ _ _ _ c.step-nothing.ensures.adds (λ draws a. adds_as _ _ _ _ _ _ _ _ _ _ _ _ _ _ (adds_noted _ _ _ _ _ _ _ _ _ _ _ _ _ _ c.taken_entries_leave_agreement.ensures a n.notes n.taken)
    (λ ended h. rw (n.taken.state) (silent_step c.args.hub.now.token g.E.Engine.SHARED c.args.hub.now.state c.step-nothing.new.self.state draws ended c.step-nothing.result h)))

pub returns-clause-adds : goal.returns-clause-adds
returns-clause-adds g c = draws_as _ _ _ _ _ _ c.step-nothing.ensures.adds
    (λ draws a. adds_as _ _ _ _ _ _ _ _ _ _ _ _ _ _ (adds_unnoted _ _ _ _ _ _ _ _ _ _ _ _ a) (λ ended h. silent_step c.args.hub.now.token g.E.Engine.SHARED c.args.hub.now.state c.step-nothing.new.self.state draws ended c.step-nothing.result h))

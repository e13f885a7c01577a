use Rattle.std.proofs.lemmas.Result.{err_from_is_err_and}
use Rattle.hrana_serve.proofs.DrawLemmas.{draws_as}
use Rattle.hrana_serve.proofs.NoteLemmas.{adds_noted, adds_as}
use Rattle.hrana_serve.proofs.notes.run_event.Goals as goal

pub returns-in_err-note_entries-clause-adds : goal.returns-in_err-note_entries-clause-adds
returns-in_err-note_entries-clause-adds g c =
    let n = c.note_entries.ensures in
    let p = err_from_is_err_and c.from_residual.result c.from_residual.ensures.1 in
    rw (p.1) (draws_as _ _ _ _ _ _ c.step-outs.ensures.adds (λ draws a. adds_as _ _ _ _ _ _ _ _ _ _ _ _ _ _ (adds_noted _ _ _ _ _ _ _ _ _ _ _ _ _ _ c.taken_entries_leave_agreement.ensures a n.notes n.taken)
    (λ added h. record { outs = c.step-outs.result; step = rw (n.taken.state) h })))

pub returns-clause-adds : goal.returns-clause-adds
returns-clause-adds g c =
    let n = c.note_entries.ensures in
    draws_as _ _ _ _ _ _ c.step-outs.ensures.adds (λ draws a. adds_as _ _ _ _ _ _ _ _ _ _ _ _ _ _ (adds_noted _ _ _ _ _ _ _ _ _ _ _ _ _ _ c.taken_entries_leave_agreement.ensures a n.notes n.taken)
    (λ added h. rw (n.taken.state) h))

use Rattle.hrana_serve.proofs.EndLemmas.{halted_fits, replayed_of, ends_last, leaves_last, done_last, saving_last, write_last}
use Rattle.hrana_serve.proofs.DrawLemmas.{draws_then}
use Rattle.hrana_serve.proofs.NoteLemmas.{adds_then}
use Rattle.hrana_serve.proofs.OutcomeLemmas.{run_outcome}
use Rattle.hrana_serve.proofs.top.run.Goals as goal

pub stop-status-requires-clause-fits : goal.stop-status-requires-clause-fits
stop-status-requires-clause-fits g c = let l = c.play_lines-halt.ensures in halted_fits _ _ _ _ _ _ _ _ _ _ _ l.adds.holds.fact l.few

pub returns-clause-ends : goal.returns-clause-ends
returns-clause-ends g c = let l = c.play_lines-halt.ensures in let s = c.stop-status.ensures in ends_last _ _ _ _ _ _ _ s.later l.later s.last l.ends

pub returns-clause-outcome : goal.returns-clause-outcome
returns-clause-outcome g c =
    let l = c.play_lines-halt.ensures in
    let s = c.stop-status.ensures in
    let n = c.in-Ok.ensures in
    let both = c.a_new_hub_agrees.ensures _ _ _ _ n c.requires.quiet in
    draws_then _ _ _ _ _ _ _ _ l.adds s.adds (λ k d a b. run_outcome _ _ _ _ _ _ _ _ _ _ _ _ _ _ _ _ _ _ _ _ _ _ _ _
    (adds_then _ _ _ _ _ _ _ _ _ _ _ _ _ _ _ _ _ _ a b
    (λ x y p q left. rw n.token at (replayed_of _ _ _ _ _ _ _ s.later l.later _ _ _ _ _ _ _ _ _ _ k d x y l.token s.last p (halted_fits _ _ _ _ _ _ _ _ _ _ _ p l.few) q left)))
    n.no_entries c.into_entries.ensures both.1 c.journal_says_what_stands.ensures.explained s.quiet
    (write_last _ _ _ _ _ _ _ s.later l.later _ s.last l.write) (saving_last _ _ _ _ _ _ _ s.later l.later s.last l.saving) (leaves_last _ _ _ _ _ _ _ s.later l.later s.last l.unsaved) (done_last _ _ _ _ _ _ _ s.later l.later s.last l.unsaved))

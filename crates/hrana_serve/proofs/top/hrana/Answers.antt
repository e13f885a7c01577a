use Rattle.hrana_serve.proofs.OutcomeLemmas.{journal_fits, replies_in_order, serial_explains, output_exact, answered_is_journaled, bad_script, complete, engine_faults, token_faults}
use Rattle.hrana_serve.proofs.top.hrana.Goals as goal

pub returns-clause-journal_fits : goal.returns-clause-journal_fits
returns-clause-journal_fits g c = journal_fits c.answer.ensures.outcome

pub returns-clause-serial_explains : goal.returns-clause-serial_explains
returns-clause-serial_explains g c = serial_explains c.answer.ensures.outcome

pub returns-clause-output_exact : goal.returns-clause-output_exact
returns-clause-output_exact g c = output_exact c.answer.ensures.outcome

pub returns-clause-answered_is_journaled : goal.returns-clause-answered_is_journaled
returns-clause-answered_is_journaled g c = answered_is_journaled c.answer.ensures.outcome

pub returns-clause-bad_script : goal.returns-clause-bad_script
returns-clause-bad_script g c = bad_script c.answer.ensures.outcome

pub returns-clause-complete : goal.returns-clause-complete
returns-clause-complete g c = λ asks source sink journal. (let a = c.answer.ensures in
    complete a.outcome _ (a.too_long asks) (λ is. a.words.0 is asks) (λ is. source (a.read_fault is)) sink journal)

pub returns-clause-engine_faults : goal.returns-clause-engine_faults
returns-clause-engine_faults g c = engine_faults c.answer.ensures.outcome

pub returns-clause-replies_in_order : goal.returns-clause-replies_in_order
returns-clause-replies_in_order g c = replies_in_order c.answer.ensures.outcome c.replies_follow_requests.ensures c.exchanges_are_answered_in_order.ensures c.runs_have_versions.ensures

pub returns-clause-token_faults : goal.returns-clause-token_faults
returns-clause-token_faults g c = token_faults c.answer.ensures.outcome c.refusals_for_words_have_failed_draws.ensures

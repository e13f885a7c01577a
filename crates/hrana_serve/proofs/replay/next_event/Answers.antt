use Rattle.std.proofs.Common.{◌≡◌, ◌∙◌, sym, true, false}
use Rattle.hrana_serve.proofs.LineLemmas.{is_filled}
use Rattle.hrana_serve.proofs.ScriptLemmas.{bad_event}
use Rattle.hrana_serve.proofs.replay.next_event.Goals as goal

pub returns-else-fits-clause-none : goal.returns-else-fits-clause-none
returns-else-fits-clause-none c = λ _. bad_event c.args.hub.now.state c.args.line.now c.in_ok-event.event (is_filled c.args.line.now c.requires.filled) c.in_ok-event.ensures.ok
    (λ fitted. (let no : true ≡ false = sym fitted ∙ sym c.fits.ensures ∙ c.if-fits.false in cc))

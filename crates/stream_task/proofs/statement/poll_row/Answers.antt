use Rattle.std.proofs.Common.{sym, ◌∙◌}
use Rattle.stream_task.proofs.AddsLemmas.{ran_facts, adds_ran, denied_by, denied_lives, adds_denied, agrees_denied, below_denied}
use Rattle.stream_task.proofs.statement.poll_row.Goals as goal

pub returns-in-Taken-clause-adds : goal.returns-in-Taken-clause-adds
returns-in-Taken-clause-adds g c =
    adds_ran g.E.Engine.SHARED _ _ _ _ _ _ _ _ _ _ _ _ _ _ _ _ _ _ (sym c.take_turn.ensures.turn ∙ c.in-Taken.is) c.run_row.ensures.runs
    (ran_facts g.E.Engine.SHARED _ _ _ _ _ c.args.stream _ _ _ _ _ _ _ _ _ _ c.args.row _ g.met.E.Engine.writes
    (record { row = c.requires.row; agrees = c.requires.agrees; below = c.requires.below; writers = c.requires.writers; quiet = c.requires.quiet })
    (sym c.take_turn.ensures.turn ∙ c.in-Taken.is) c.take_turn.ensures.table c.run_row.ensures.runs)

pub returns-in-Taken-clause-agrees : goal.returns-in-Taken-clause-agrees
returns-in-Taken-clause-agrees g c =
    (ran_facts g.E.Engine.SHARED _ _ _ _ _ c.args.stream _ _ _ _ _ _ _ _ _ _ c.args.row _ g.met.E.Engine.writes
    (record { row = c.requires.row; agrees = c.requires.agrees; below = c.requires.below; writers = c.requires.writers; quiet = c.requires.quiet })
    (sym c.take_turn.ensures.turn ∙ c.in-Taken.is) c.take_turn.ensures.table c.run_row.ensures.runs).agrees

pub returns-in-Taken-clause-below : goal.returns-in-Taken-clause-below
returns-in-Taken-clause-below g c =
    (ran_facts g.E.Engine.SHARED _ _ _ _ _ c.args.stream _ _ _ _ _ _ _ _ _ _ c.args.row _ g.met.E.Engine.writes
    (record { row = c.requires.row; agrees = c.requires.agrees; below = c.requires.below; writers = c.requires.writers; quiet = c.requires.quiet })
    (sym c.take_turn.ensures.turn ∙ c.in-Taken.is) c.take_turn.ensures.table c.run_row.ensures.runs).below

pub returns-in-Taken-clause-writers : goal.returns-in-Taken-clause-writers
returns-in-Taken-clause-writers g c =
    (ran_facts g.E.Engine.SHARED _ _ _ _ _ c.args.stream _ _ _ _ _ _ _ _ _ _ c.args.row _ g.met.E.Engine.writes
    (record { row = c.requires.row; agrees = c.requires.agrees; below = c.requires.below; writers = c.requires.writers; quiet = c.requires.quiet })
    (sym c.take_turn.ensures.turn ∙ c.in-Taken.is) c.take_turn.ensures.table c.run_row.ensures.runs).writers

pub returns-in-Taken-clause-one : goal.returns-in-Taken-clause-one
returns-in-Taken-clause-one g c =
    (ran_facts g.E.Engine.SHARED _ _ _ _ _ c.args.stream _ _ _ _ _ _ _ _ _ _ c.args.row _ g.met.E.Engine.writes
    (record { row = c.requires.row; agrees = c.requires.agrees; below = c.requires.below; writers = c.requires.writers; quiet = c.requires.quiet })
    (sym c.take_turn.ensures.turn ∙ c.in-Taken.is) c.take_turn.ensures.table c.run_row.ensures.runs).one

pub returns-in-Denied-clause-adds : goal.returns-in-Denied-clause-adds
returns-in-Denied-clause-adds g c =
    let denied = (denied_by c.args.stream c.args.turns.now c.args.row c.in-Denied.why (sym c.take_turn.ensures.turn ∙ c.in-Denied.is)) in
    adds_denied _ _ _ _ _ c.args.stream _ _ _ _ _ _ _ _ c.args.row _ _ denied
    (denied_lives g.E.Engine.SHARED _ _ _ _ _ _ c.args.stmt _ _ _ (record { row = c.requires.row; agrees = c.requires.agrees; below = c.requires.below; writers = c.requires.writers; quiet = c.requires.quiet }) denied)
    (c.take_turn.ensures.table ∙ denied.stays) c.deny.ensures.denies

pub returns-in-Denied-clause-agrees : goal.returns-in-Denied-clause-agrees
returns-in-Denied-clause-agrees g c =
    let denied = (denied_by c.args.stream c.args.turns.now c.args.row c.in-Denied.why (sym c.take_turn.ensures.turn ∙ c.in-Denied.is)) in
    agrees_denied _ _ _ _ _ _ _ c.args.stream c.args.state c.args.row c.in-Denied.why _ c.requires.agrees (c.take_turn.ensures.table ∙ denied.stays) c.deny.ensures.denies

pub returns-in-Denied-clause-below : goal.returns-in-Denied-clause-below
returns-in-Denied-clause-below g c =
    below_denied _ _ _ c.args.stream c.args.turns.now c.args.state c.args.row c.in-Denied.why _ (denied_by c.args.stream c.args.turns.now c.args.row c.in-Denied.why (sym c.take_turn.ensures.turn ∙ c.in-Denied.is)) c.requires.below c.deny.ensures.denies

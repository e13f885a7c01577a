use Rattle.stream_task.proofs.AddsLemmas.{undoes, adds_undone, open_unit, undone_open}
use Rattle.stream_task.proofs.statement.end_unit.Goals as goal

pub returns-in-Reading-clause-adds : goal.returns-in-Reading-clause-adds
returns-in-Reading-clause-adds g c =
    adds_undone g.E.Engine.SHARED _ _ _ _ _ c.args.stream _ _ _ _ _ _ c.in-Reading.unit c.args.why _ _
    (undoes g.E.Engine.SHARED _ _ _ _ _ _ _ _ c.args.entries.now c.push.new.self c.args.stream c.args.state c.in-Reading.unit c.args.why _ g.met.E.Engine.writes
    (open_unit c.args.state c.in-Reading.unit c.in-Reading.is) c.requires.agrees c.requires.below c.requires.writers c.requires.quiet
    c.undo-entry.ensures.entry c.undo-entry.ensures.effect c.ended.ensures c.push.ensures.next)
    c.undo-entry.ensures.entry c.push.ensures.list c.undo-entry.ensures.later (undone_open c.args.why c.args.state c.in-Reading.unit c.in-Reading.is)

pub returns-in-Reading-clause-below : goal.returns-in-Reading-clause-below
returns-in-Reading-clause-below g c =
    (undoes g.E.Engine.SHARED _ _ _ _ _ _ _ _ c.args.entries.now c.push.new.self c.args.stream c.args.state c.in-Reading.unit c.args.why _ g.met.E.Engine.writes
    (open_unit c.args.state c.in-Reading.unit c.in-Reading.is) c.requires.agrees c.requires.below c.requires.writers c.requires.quiet
    c.undo-entry.ensures.entry c.undo-entry.ensures.effect c.ended.ensures c.push.ensures.next).below

pub returns-in-Reading-clause-writers : goal.returns-in-Reading-clause-writers
returns-in-Reading-clause-writers g c =
    (undoes g.E.Engine.SHARED _ _ _ _ _ _ _ _ c.args.entries.now c.push.new.self c.args.stream c.args.state c.in-Reading.unit c.args.why _ g.met.E.Engine.writes
    (open_unit c.args.state c.in-Reading.unit c.in-Reading.is) c.requires.agrees c.requires.below c.requires.writers c.requires.quiet
    c.undo-entry.ensures.entry c.undo-entry.ensures.effect c.ended.ensures c.push.ensures.next).writers

pub returns-in-Reading-clause-one : goal.returns-in-Reading-clause-one
returns-in-Reading-clause-one g c =
    (undoes g.E.Engine.SHARED _ _ _ _ _ _ _ _ c.args.entries.now c.push.new.self c.args.stream c.args.state c.in-Reading.unit c.args.why _ g.met.E.Engine.writes
    (open_unit c.args.state c.in-Reading.unit c.in-Reading.is) c.requires.agrees c.requires.below c.requires.writers c.requires.quiet
    c.undo-entry.ensures.entry c.undo-entry.ensures.effect c.ended.ensures c.push.ensures.next).one

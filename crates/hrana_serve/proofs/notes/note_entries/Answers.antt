use Rattle.std.proofs.Common.{◌∙◌, arith}
use Rattle.hrana_serve.proofs.NoteLemmas.{notes_taken, taken_then}
use Rattle.hrana_serve.proofs.notes.note_entries.Goals as goal

pub loop-entry-preserved : goal.loop-entry-preserved
loop-entry-preserved g c =
    let i = c.loop-entry.invariant in
    let t = c.take_entry.ensures in
    record {
      notes = notes_taken _ _ _ _ _ _ _ _ c.in-Some.ensures t.entry c.in_ok-note.ensures.ok i.notes;
      taken = taken_then _ _ _ i.taken (record { state = t.state.0; turns = t.state.1; store = t.store; next = t.next; places = t.places });
      token = t.state.2 ∙ i.token;
      later = omega (arith, i.later, c.note.ensures.later);
    }

use Rattle.std.proofs.Common.{◌≡◌, ◌≤◌, length}
use Rattle.hrana_hub.specs.Agrees.{OnlyTaken}
use Rattle.hrana_serve.specs.Notes.{Notes}
use Rattle.hrana_serve.proofs.notes.note_entries.Given as goal

abbrev pub invariant-loop-entry : goal.invariant-loop-entry
invariant-loop-entry g l = record {
  notes : Notes (g.J.Journal.noted l.fn.journal) (g.J.Journal.noted l.journal) l.fn.hub.noted.list l.hub.noted.list;
  taken : OnlyTaken l.fn.hub l.hub;
  token : l.hub.token ≡ l.fn.hub.token;
  later : g.J.Journal.faults l.fn.journal ≤ g.J.Journal.faults l.journal;
}

abbrev pub decreases-loop-entry : goal.decreases-loop-entry
decreases-loop-entry g l = length l.hub.noted.list

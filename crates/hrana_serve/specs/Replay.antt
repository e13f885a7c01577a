-- The lines of a script, played one after another.
use Rattle.std.specs.Prelude.{◌≡◌, ◌+◌, ◌≤◌, ℕ, Bool, true, false, List, [], ◌∷◌, ◌++◌, Option, Result, Ok, Err, flat_map, length}
use Rattle.std.specs.Io.KnownBytes.{Appends, Keeps}
use Rattle.engine_core.specs.Bytes.{IsPrefix, AppendsFront}
use Rattle.engine_core.specs.Causes.{Rose}
use Rattle.engine_core.specs.Draws.{Draw}
use Rattle.engine_core.specs.declared.entries.Entry.{Entry}
use Rattle.engine_core.specs.declared.journal.JournalFail.{JournalFail}
use Rattle.engine_core.specs.declared.journal.JournalFail.TheVariants as journal
use Rattle.engine_core.specs.declared.status.Status.{Status}
use Rattle.engine_core.specs.declared.status.Status.TheVariants as status
use Rattle.http_wire.specs.declared.outs.Outs.{Outs}
use Rattle.hrana_hub.specs.declared.events.Event.{Event}
use Rattle.hrana_hub.specs.Run.{Run}
use Rattle.hrana_hub.specs.State.{State}
use Rattle.hrana_hub.specs.Step.{Step, fits}
use Rattle.hrana_serve.specs.Printed.{print, print_outs}
use Rattle.hrana_serve.specs.Script.{IsLineOf, IsBadLine, ReadsAs}
use Rattle.hrana_serve.specs.declared.replay.LineEnd.{LineEnd}
use Rattle.hrana_serve.specs.declared.replay.LineEnd.TheVariants.{Played, Bad, Short, Unsaved, Unwritten}
use Rattle.hrana_serve.specs.declared.replay.WriteFail.TheVariants as write

-- ---- one line

-- The line's event fitted and was run, and so much was written of what it gave.
pub record LineRun (token : Option (List ℕ)) (shared : Bool) (line : List ℕ) (s new : State) (Written : List ℕ → Type 0) (draws : List Draw) (added : List Entry) : Type 0 where
  pub filled : line ≡ [] → ⊥
  pub event : Event
  pub is_line : IsLineOf line event
  pub fitted : fits s event ≡ true
  pub outs : Outs
  pub step : Step token shared s event draws added outs new
  pub written : Written (print_outs outs)

-- nothing was drawn, added, written or changed
pub record IsUntouched (s new : State) (held holds : Option (List ℕ)) (draws : List Draw) (added : List Entry) : Type 0 where
  pub undrawn : draws ≡ []
  pub none : added ≡ []
  pub same : new ≡ s
  pub silent : Keeps held holds

-- what came of a line, by what the sink held before and after
abbrev pub PlaysAs : Option (List ℕ) → Bool → List ℕ → State → LineEnd → State → Option (List ℕ) → Option (List ℕ) → List Draw → List Entry → Type 0
PlaysAs token shared line s Played new held holds draws added = LineRun token shared line s new (Appends held holds) draws added
PlaysAs token shared line s Bad new held holds draws added = IsUntouched s new held holds draws added × IsBadLine s line
PlaysAs token shared line s Short new held holds draws added = IsUntouched s new held holds draws added
PlaysAs token shared line s (Unsaved fail) new held holds draws added = LineRun token shared line s new (λ bytes. Keeps held holds) draws added
PlaysAs token shared line s (Unwritten fail) new held holds draws added = LineRun token shared line s new (AppendsFront held holds) draws added

-- the journal took all that the line's event added
abbrev pub is_saved : LineEnd → Bool
is_saved (Unsaved fail) = false
is_saved other = true

-- ---- lines so far

-- what each event drew, or its entries, joined
abbrev pub join : {A : Type 0} → List (List A) → List A
join parts = flat_map (λ part. part) parts

-- The lines were played: their events were run, and all that they gave was written.
pub record Playing (token : Option (List ℕ)) (shared : Bool) (lines : List (List ℕ)) (s : State) (count : ℕ) (held holds : Option (List ℕ)) (K : List Draw) (J : List Entry) : Type 0 where
  pub events : List Event
  pub drawn : List (List Draw)
  pub entries : List (List Entry)
  pub outs : List Outs
  pub reads : ReadsAs lines events
  pub counted : count ≡ length events
  pub run : Run token shared events drawn entries outs s
  pub drew : K ≡ join drawn
  pub joined : J ≡ join entries
  pub printed : Appends held holds (print outs)

-- ---- where lines end

-- the line that the run stopped at
pub record StopsAt (lines all : List (List ℕ)) (s : State) (number : ℕ) : Type 0 where
  pub line : List ℕ
  pub is_next : IsPrefix (lines ++ line ∷ []) all
  pub counted : number ≡ length lines + 1
  pub bad : IsBadLine s line

-- how far the lines were run, by the status
abbrev pub StopsAs : Status → List (List ℕ) → List (List ℕ) → State → Type 0
StopsAs status.Done lines all s = lines ≡ all
StopsAs (status.BadScript number) lines all s = StopsAt lines all s number
StopsAs status.WriteFault lines all s = Unit {0}
StopsAs status.JournalFault lines all s = Unit {0}
StopsAs status.NoMemory lines all s = Unit {0}
StopsAs end lines all s = lines ≡ []

-- What was written is a front of what the outs are printed as, and lacks at most a part of the last of them.
pub record PrintsFront (held holds : Option (List ℕ)) (outs : List Outs) : Type 0 where
  pub kept : List Outs
  pub last : List Outs
  pub part : List ℕ
  pub all : outs ≡ kept ++ last
  pub one : length last ≤ 1
  pub is_part : IsPrefix part (print last)
  pub written : Appends held holds (print kept ++ part)

-- how much was written, by the status
abbrev pub WritesAs : Status → List Outs → Option (List ℕ) → Option (List ℕ) → Type 0
WritesAs status.Done outs held holds = Appends held holds (print outs)
WritesAs (status.BadScript number) outs held holds = Appends held holds (print outs)
WritesAs end outs held holds = PrintsFront held holds outs

-- The outs of the first of the events were written, the last of these maybe in part. Of the entries of the other events, followed by
-- what came last, the journal noted the first, and the others still wait: no entry of an event whose outs were written does.
pub record AnswersNoted (entries : List (List Entry)) (outs : List Outs) (last waits : List Entry) (held holds : Option (List ℕ)) : Type 0 where
  pub answered : List (List Entry)
  pub others : List (List Entry)
  pub told : List Outs
  pub untold : List Outs
  pub all : entries ≡ answered ++ others
  pub given : outs ≡ told ++ untold
  pub paired : length answered ≡ length told
  pub writes : PrintsFront held holds told
  pub noted : List Entry
  pub wait : join others ++ last ≡ noted ++ waits

-- The lines were played as far as the status says: the events are of some of the first lines, and so much was written of what they gave.
pub record Halted (token : Option (List ℕ)) (shared : Bool) (all : List (List ℕ)) (end : Status) (s : State) (count : ℕ) (waits : List Entry) (held holds : Option (List ℕ)) (K : List Draw) (J : List Entry) : Type 0 where
  pub lines : List (List ℕ)
  pub events : List Event
  pub drawn : List (List Draw)
  pub entries : List (List Entry)
  pub outs : List Outs
  pub front : IsPrefix lines all
  pub reads : ReadsAs lines events
  pub counted : count ≡ length events
  pub run : Run token shared events drawn entries outs s
  pub drew : K ≡ join drawn
  pub joined : J ≡ join entries
  pub stops : StopsAs end lines all s
  pub writes : WritesAs end outs held holds
  pub answers : AnswersNoted entries outs [] waits held holds

-- ---- statuses

-- the status with which the lines end at the line of this number
abbrev pub status_at : LineEnd → ℕ → Status
status_at Played at = status.Done
status_at Bad at = status.BadScript at
status_at Short at = status.NoMemory
status_at (Unsaved journal.Fault) at = status.JournalFault
status_at (Unsaved journal.NoMemory) at = status.NoMemory
status_at (Unwritten write.Fault) at = status.WriteFault
status_at (Unwritten write.NoMemory) at = status.NoMemory

-- how many events were run then, after so many before
abbrev pub count_at : LineEnd → ℕ → ℕ
count_at Bad count = count
count_at Short count = count
count_at other count = count + 1

-- why the journal didn't take all
abbrev pub BreaksBy : ℕ → ℕ → Status → Type 0
BreaksBy before now status.NoMemory = Unit {0}
BreaksBy before now status.JournalFault = Rose before now
BreaksBy before now end = ⊥

-- where the journal broke at last, a run that was done isn't, and any other status stands
abbrev pub broken_at_last : Status → Status
broken_at_last status.Done = status.JournalFault
broken_at_last end = end

-- the last status, by how noting the last entries went
abbrev pub LastsAs : {T : Type 0} → Status → Result T JournalFail → Status → Type 0
LastsAs end (Ok noted) last = last ≡ end
LastsAs end (Err journal.Fault) last = last ≡ broken_at_last end
LastsAs end (Err journal.NoMemory) last = last ≡ status.NoMemory

-- The last status of a run whose lines ended with this one, by whether the journal took all before, and by what waits at last.
pub data LastStatus (saved : Bool) (end last : Status) (before now : ℕ) (waits : List Entry) : Type 0 where
  -- it failed before
  unsaved : saved ≡ false → last ≡ end → LastStatus saved end last before now waits
  -- it took the last entries too
  all_noted : last ≡ end → waits ≡ [] → LastStatus saved end last before now waits
  -- it broke at last
  broke : last ≡ broken_at_last end → Rose before now → LastStatus saved end last before now waits
  fell_short : last ≡ status.NoMemory → LastStatus saved end last before now waits

-- a run of lines ends in one of these ways
abbrev pub IsLinesStatus : Status → Type 0
IsLinesStatus status.Done = Unit {0}
IsLinesStatus (status.BadScript number) = Unit {0}
IsLinesStatus status.WriteFault = Unit {0}
IsLinesStatus status.JournalFault = Unit {0}
IsLinesStatus status.NoMemory = Unit {0}
IsLinesStatus end = ⊥

-- The versions at which the units of a run began.
use Rattle.std.specs.Prelude.{ℕ, Bool, List, Option}
use Rattle.http_wire.specs.declared.outs.Outs.{Outs}
use Rattle.engine_core.specs.Draws.{Draw}
use Rattle.engine_core.specs.declared.entries.Entry.{Entry}
use Rattle.hrana_hub.specs.declared.events.Event.{Event}
use Rattle.hrana_hub.specs.State.{State}
use Rattle.hrana_hub.specs.Run.{RunFrom}
use Rattle.hrana_hub.specs.Stories.{AreVersions}

-- Each unit that began in the run has one version, that of the state in which it began.
pub record HasVersions {token : Option (List ℕ)} {shared : Bool} {first : State} {events : List Event} {drawn : List (List Draw)} {entries : List (List Entry)} {outs : List Outs} {s : State} (run : RunFrom token shared first events drawn entries outs s) : Type 0 where
  pub had : ℕ → ℕ
  pub are : AreVersions had run

abbrev pub RunsHaveVersions : Type 0
RunsHaveVersions = (token : Option (List ℕ)) (shared : Bool) (first : State) (events : List Event) (drawn : List (List Draw)) (entries : List (List Entry)) (outs : List Outs) (s : State) (run : RunFrom token shared first events drawn entries outs s) → HasVersions run

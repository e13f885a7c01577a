-- Runs of the hub: events one after another, with the words that are drawn for each, the entries that it adds, and what it gives.
use Rattle.std.specs.Prelude.{◌≡◌, ℕ, Bool, true, List, [], ◌∷◌, ◌++◌, Option}
use Rattle.http_wire.specs.declared.outs.Outs.{Outs}
use Rattle.engine_core.specs.Draws.{Draw}
use Rattle.engine_core.specs.declared.entries.Entry.{Entry}
use Rattle.hrana_hub.specs.declared.events.Event.{Event}
use Rattle.hrana_hub.specs.State.{State, first_state}
use Rattle.hrana_hub.specs.Step.{Step, fits}

-- from a state on
pub data RunFrom (token : Option (List ℕ)) (shared : Bool) (first : State) : List Event → List (List Draw) → List (List Entry) → List Outs → State → Type 0 where
  start : RunFrom token shared first [] [] [] [] first
  more : {events : List Event} {drawn : List (List Draw)} {entries : List (List Entry)} {outs : List Outs} {s : State} → RunFrom token shared first events drawn entries outs s
      → (event : Event) (draws : List Draw) (added : List Entry) (out : Outs) (new : State) → fits s event ≡ true → Step token shared s event draws added out new
      → RunFrom token shared first (events ++ event ∷ []) (drawn ++ draws ∷ []) (entries ++ added ∷ []) (outs ++ out ∷ []) new

-- from the first state of the hub
abbrev pub Run : Option (List ℕ) → Bool → List Event → List (List Draw) → List (List Entry) → List Outs → State → Type 0
Run token shared events drawn entries outs s = RunFrom token shared first_state events drawn entries outs s

-- Each event of a script's lines is counted, and none of them stops.
use Rattle.std.proofs.Common.{◌≡◌, ℕ, Bool, false, List, [], ◌∷◌, ◌++◌, length, length-append, Option, refl, ap, ◌∙◌, arith}
use Rattle.http_wire.specs.declared.outs.Outs.{Outs}
use Rattle.engine_core.specs.Draws.{Draw}
use Rattle.engine_core.specs.declared.entries.Entry.{Entry}
use Rattle.hrana_hub.specs.declared.events.Event.{Event}
use Rattle.hrana_hub.specs.declared.events.Event.TheVariants.{Opened, Text, Binary, Exchange, Lost, Moment, Poll, Stop}
use Rattle.hrana_hub.specs.Run.{Run, start, more}
use Rattle.hrana_hub.specs.State.{State}
use Rattle.hrana_hub.specs.Step.{counted}
use Rattle.hrana_hub.proofs.Counting.{GoesOn, came}
use Rattle.hrana_serve.specs.Script.{ReadsAs, IsLineOf}

line_goes_on : (line : List ℕ) (event : Event) → IsLineOf line event → GoesOn event
line_goes_on line (Opened c) h = tt
line_goes_on line (Text c text) h = tt
line_goes_on line (Binary c) h = tt
line_goes_on line (Exchange c ask) h = tt
line_goes_on line (Lost c) h = tt
line_goes_on line (Moment moment) h = tt
line_goes_on line (Poll stream) h = tt
line_goes_on line Stop h = absurd h.written

AllGoOn : List Event → Type 0
AllGoOn [] = Unit {0}
AllGoOn (event ∷ events) = GoesOn event × AllGoOn events

lines_go_on : (L : List (List ℕ)) (V : List Event) → ReadsAs L V → AllGoOn V
unfolding AllGoOn
lines_go_on [] [] h = tt
lines_go_on [] (v ∷ V) h = absurd (omega (arith, ap length h))
lines_go_on ([] ∷ L) V h = lines_go_on L V h
lines_go_on ((b ∷ bs) ∷ L) [] h = absurd h
lines_go_on ((b ∷ bs) ∷ L) (v ∷ V) h = (line_goes_on (b ∷ bs) v h.0, lines_go_on L V h.1)

last_goes_on : (V : List Event) (v : Event) → AllGoOn (V ++ v ∷ []) → AllGoOn V × GoesOn v
unfolding AllGoOn
last_goes_on [] v h = (tt, h.0)
last_goes_on (x ∷ V) v h = let r = last_goes_on V v h.1 in ((h.0, r.0), r.1)

-- as many as were counted, and nothing stopped
pub record IsCounting (s : State) (V : List Event) : Type 0 where
  pub events : s.events ≡ length V
  pub stopped : s.stopped ≡ false

counts : (token : Option (List ℕ)) (shared : Bool) (V : List Event) (K : List (List Draw)) (J : List (List Entry)) (outs : List Outs) (s : State) → AllGoOn V → Run token shared V K J outs s → IsCounting s V
counts token shared V K J outs s on start = record { events = refl; stopped = refl }
counts token shared V K J outs s on (more {events = W} {drawn = C} {entries = L} {outs = o} {s = t} run event draws added out new fitted step) =
    let both = last_goes_on W event on in
    let before = counts token shared W C L o t both.0 run in
    let h = came token shared (counted t) s added out event draws both.1 step in
    record { events = omega (arith, h.events, before.events, length-append W (event ∷ [])); stopped = h.stopped ∙ before.stopped }

pub lines_count : (token : Option (List ℕ)) (shared : Bool) (L : List (List ℕ)) (V : List Event) (K : List (List Draw)) (J : List (List Entry)) (outs : List Outs) (s : State) → ReadsAs L V → Run token shared V K J outs s → IsCounting s V
lines_count token shared L V K J outs s reads run = counts token shared V K J outs s (lines_go_on L V reads) run

-- In every run no exchange is answered twice.
use Rattle.std.proofs.Common.{◌≡◌, ◌≢◌, ◌≤◌, ◌+◌, ◌&&◌, ◌⊎◌, ℕ, Bool, true, false, cond, nat_eq, List, [], ◌∷◌, ◌++◌, Option, None, Some, refl, sym, ap, ◌∙◌, subst, arith, inl, inr, eq-eqb, ne_eqb}
use Rattle.std.proofs.lemmas.Bool.{cases_eq}
use Rattle.http_wire.specs.declared.outs.Outs.{Outs}
use Rattle.engine_core.specs.Draws.{Draw}
use Rattle.engine_core.specs.declared.entries.Entry.{Entry}
use Rattle.hrana_hub.specs.declared.events.Event.{Event}
use Rattle.hrana_hub.specs.declared.events.Event.TheVariants.{Exchange}
use Rattle.hrana_hub.specs.declared.sessions.Running.{Running as Runs}
use Rattle.hrana_hub.specs.declared.sessions.Session.{Session}
use Rattle.hrana_hub.specs.declared.sessions.Session.TheVariants.{Resting, Running}
use Rattle.hrana_hub.specs.Maps.{at, placed, without}
use Rattle.hrana_hub.specs.State.{State}
use Rattle.hrana_hub.specs.Batons.{AnsweredOnce, is_answer, answers_on, exchanges_on, running_on}
use Rattle.hrana_hub.specs.Run.{Run, start, more}
use Rattle.hrana_hub.specs.Step.{counted}
use Rattle.hrana_hub.proofs.EntryLemmas.{at_without, at_without_other}
use Rattle.hrana_hub.proofs.Kept.{run_kept}
use Rattle.hrana_hub.proofs.MapLemmas.{none_some, some_one, at_placed, at_placed_other, Rises}
use Rattle.hrana_hub.proofs.MoveSteps.{step_moves, none_on}
use Rattle.hrana_hub.proofs.Moving.{Waits, FewerBut, Ends, comes, replies, lost, Moves, still, begins_on, goes_on, hands, leaves, stops}

-- ---- each exchange that runs is known by its connection

abbrev pub RunsKnown : State → Type 0
RunsKnown s = (n : ℕ) (e : Runs) → Waits s.streams n (Running e) → at e.conn s.exchanges ≡ Some n

one_running : {e f : Runs} → ◌≡◌ {A = Session} (Running e) (Running f) → e ≡ f
one_running h = cc

module _ (s : State) (known : RunsKnown s) (out : Outs) where
  -- no other stream has the connection of an exchange that ends
  ends_at : {event : Event} (n c : ℕ) → Ends s n c out event → (at c s.exchanges ≡ None) ⊎ (at c s.exchanges ≡ Some n)
  ends_at n c (comes ask free own) = inl free
  ends_at n c (replies event e w mine own quiet) = inr (ap (λ k. at k s.exchanges) (sym mine) ∙ known n e w)
  ends_at n c (lost here quiet) = inr here

  apart : {event : Event} (n c : ℕ) → Ends s n c out event → (m : ℕ) (f : Runs) → m ≢ n → Waits s.streams m (Running f) → f.conn ≢ c
  apart n c ends m f other w same = (let there : at c s.exchanges ≡ Some m = ap (λ k. at k s.exchanges) (sym same) ∙ known m f w in elim (ends_at n c ends) [
    | inl none ↦ none_some (sym none ∙ there)
    | inr here ↦ other (some_one (sym there ∙ here))
  ])

  ended_known : {event : Event} (n c : ℕ) (now : Session) (new : State) → ((f : Runs) → Running f ≡ now → ⊥) → Ends s n c out event → Rises s.exchanges → FewerBut n now s.streams new.streams → new.exchanges ≡ without c s.exchanges → RunsKnown new
  ended_known n c now new not ends rise but es m f w = elim (but m (Running f) w) [
    | inl own ↦ absurd (not f own.1)
    | inr other ↦ ap (λ fs. at f.conn fs) es ∙ at_without_other c f.conn s.exchanges rise (apart n c ends m f other.0 other.1) ∙ known m f other.1
  ]

  moves_known : {event : Event} (new : State) → Rises s.exchanges → Moves s new out event → RunsKnown new
  moves_known new rise (still event fewer es issued even) = λ m f w. ap (λ fs. at f.conn fs) es ∙ known m f (fewer m (Running f) w)
  moves_known new rise (begins_on c ask n e mine free but es issued quiet) = λ m f w. elim (but m (Running f) w) [
    | inl own ↦ (let same : f ≡ e = one_running own.1 in
        ap (λ (r : Runs). at r.conn new.exchanges) same ∙ ap (λ fs. at e.conn fs) es ∙ ap (λ k. at k (placed c n s.exchanges)) mine ∙ at_placed c n s.exchanges ∙ ap Some (sym own.0))
    | inr other ↦ (let there = known m f other.1 in
        let off : f.conn ≢ c = λ same. none_some (sym free ∙ ap (λ k. at k s.exchanges) (sym same) ∙ there) in
        ap (λ fs. at f.conn fs) es ∙ at_placed_other c f.conn n s.exchanges off ∙ there)
  ]
  moves_known new rise (goes_on event n e g w mine but es issued quiet) = λ m f v. elim (but m (Running f) v) [
    | inl own ↦ (let same : f ≡ g = one_running own.1 in
        ap (λ (r : Runs). at r.conn new.exchanges) same ∙ ap (λ fs. at g.conn fs) es ∙ ap (λ k. at k s.exchanges) mine ∙ known n e w ∙ ap Some (sym own.0))
    | inr other ↦ ap (λ fs. at f.conn fs) es ∙ known m f other.1
  ]
  moves_known new rise (hands event n c drawn ends but es issued) = ended_known n c _ new (λ f h. cc) ends rise but es
  moves_known new rise (leaves event n c ends but es issued) = ended_known n c (Resting None) new (λ f h. cc) ends rise but es
  moves_known new rise (stops quiet ss es issued) = λ m f w. absurd (none_some (ap (λ fs. at m fs) (sym ss) ∙ w.known))

  -- ---- answers and exchanges, by connection

  at_most_one : (c : ℕ) → answers_on c (out ∷ []) ≤ 1
  at_most_one c = by (nat_eq out.conn c && is_answer out.out)
    where
      by : (b : Bool) → cond b 1 0 + 0 ≤ 1
      by true = omega arith
      by false = omega arith

  elsewhere : (c : ℕ) → out.conn ≢ c → answers_on c (out ∷ []) ≡ 0
  elsewhere c off = ap (λ b. cond (b && is_answer out.out) 1 0 + 0) (ne_eqb out.conn c off)

  comes_here : (c : ℕ) (ask : _) → exchanges_on c (Exchange c ask ∷ []) ≡ 1
  comes_here c ask = ap (λ b. cond b 1 0 + 0) (eq-eqb c c refl)

  abbrev Evens : Event → State → ℕ → Type 0
  Evens event new c = answers_on c (out ∷ []) + running_on (at c new.exchanges) ≤ exchanges_on c (event ∷ []) + running_on (at c s.exchanges)

  ended_here : {event : Event} (n c : ℕ) (new : State) → Ends s n c out event → at c new.exchanges ≡ None → Evens event new c
  ended_here n c new (comes ask free own) gone = (let one = at_most_one c in let came = comes_here c ask in let none = ap running_on gone in omega (arith, one, came, none))
  ended_here n c new (replies event e w mine own quiet) gone = (let one = at_most_one c in let none = ap running_on gone in let ran = ap running_on (ap (λ k. at k s.exchanges) (sym mine) ∙ known n e w) in omega (arith, one, none, ran))
  ended_here n c new (lost here quiet) gone = (let none = none_on c out quiet in let left = ap running_on gone in omega (arith, none, left))

  off_here : {event : Event} (n c d : ℕ) → Ends s n c out event → d ≢ c → answers_on d (out ∷ []) ≡ 0
  off_here n c d (comes ask free own) off = elsewhere d (λ e. off (sym e ∙ own))
  off_here n c d (replies event e w mine own quiet) off = elsewhere d (λ e. off (sym e ∙ own))
  off_here n c d (lost here quiet) off = none_on d out quiet

  ended_even : {event : Event} (n c : ℕ) (new : State) → Rises s.exchanges → Ends s n c out event → new.exchanges ≡ without c s.exchanges → (d : ℕ) → Evens event new d
  ended_even {event} n c new rise ends es d = elim (cases_eq d c) [
    | inl own ↦ subst (λ k. Evens event new k) (sym own) (ended_here n c new ends (ap (λ fs. at c fs) es ∙ at_without c s.exchanges rise))
    | inr off ↦ (let none = off_here n c d ends off in let same = ap running_on (ap (λ fs. at d fs) es ∙ at_without_other c d s.exchanges rise off) in omega (arith, none, same))
  ]

  moves_even : {event : Event} (new : State) → Rises s.exchanges → Moves s new out event → (d : ℕ) → Evens event new d
  moves_even new rise (still event fewer es issued even) d = (let few = even d in let same = ap (λ fs. running_on (at d fs)) es in omega (arith, few, same))
  moves_even new rise (begins_on c ask n e mine free but es issued quiet) d = (let none = none_on d out quiet in elim (cases_eq d c) [
    | inl own ↦ (let came : exchanges_on d (Exchange c ask ∷ []) ≡ 1 = ap (λ k. exchanges_on k (Exchange c ask ∷ [])) own ∙ comes_here c ask in
        let runs = ap running_on (ap (λ fs. at d fs) es ∙ ap (λ k. at k (placed c n s.exchanges)) own ∙ at_placed c n s.exchanges) in omega (arith, none, came, runs))
    | inr off ↦ (let same = ap running_on (ap (λ fs. at d fs) es ∙ at_placed_other c d n s.exchanges off) in omega (arith, none, same))
  ])
  moves_even new rise (goes_on event n e g w mine but es issued quiet) d = (let none = none_on d out quiet in let same = ap (λ fs. running_on (at d fs)) es in omega (arith, none, same))
  moves_even new rise (hands event n c drawn ends but es issued) d = ended_even n c new rise ends es d
  moves_even new rise (leaves event n c ends but es issued) d = ended_even n c new rise ends es d
  moves_even new rise (stops quiet ss es issued) d = (let none = none_on d out quiet in let left = ap (λ fs. running_on (at d fs)) es in omega (arith, none, left))

-- ---- every run

answers_more : (c : ℕ) (outs : List Outs) (out : Outs) → answers_on c (outs ++ out ∷ []) ≡ answers_on c outs + answers_on c (out ∷ [])
answers_more c [] out = omega arith
answers_more c (o ∷ outs) out = omega (arith, answers_more c outs out)

exchanges_more : (c : ℕ) (events : List Event) (event : Event) → exchanges_on c (events ++ event ∷ []) ≡ exchanges_on c events + exchanges_on c (event ∷ [])
exchanges_more c [] event = omega arith
exchanges_more c (e ∷ events) event = omega (arith, exchanges_more c events event)

pub run_known : {token : Option (List ℕ)} {shared : Bool} {events : List Event} {drawn : List (List Draw)} {entries : List (List Entry)} {outs : List Outs} {s : State} → Run token shared events drawn entries outs s → RunsKnown s
run_known start = λ n e w. absurd (none_some w.known)
run_known {token} {shared} (more {s = before} run event draws added out new fit step) = moves_known (counted before) (run_known run) out new (run_kept run).exchanges_rise (step_moves token shared before event draws added out new (run_kept run) fit step)

run_answered : {token : Option (List ℕ)} {shared : Bool} {events : List Event} {drawn : List (List Draw)} {entries : List (List Entry)} {outs : List Outs} {s : State} → Run token shared events drawn entries outs s → (c : ℕ) → answers_on c outs + running_on (at c s.exchanges) ≤ exchanges_on c events
run_answered start c = omega arith
run_answered {token} {shared} (more {events = V} {outs = O} {s = before} run event draws added out new fit step) c =
    let was = run_answered run c in
    let even = moves_even (counted before) (run_known run) out new (run_kept run).exchanges_rise (step_moves token shared before event draws added out new (run_kept run) fit step) c in
    omega (arith, was, even, answers_more c O out, exchanges_more c V event)

pub answered_once : AnsweredOnce
answered_once token shared events drawn entries outs s run c = run_answered run c

-- Once an exchange that brings a baton was accepted, that baton is never live again.
use Rattle.std.proofs.Common.{◌≡◌, ◌≤◌, ◌<◌, ◌+◌, ◌^◌, ◌&&◌, ℕ, Bool, true, false, not, nat_lt, List, [], ◌∷◌, Option, None, Some, refl, sym, ap, ◌∙◌, subst, arith, inl, inr}
use Rattle.std.proofs.lemmas.Bool.{and_parts, ltb-true, true≢false}
use Rattle.http_wire.specs.declared.asks.HttpAsk.{HttpAsk}
use Rattle.http_wire.specs.declared.outs.HttpAnswer.{HttpAnswer}
use Rattle.http_wire.specs.declared.outs.Outs.{Outs}
use Rattle.stream_requests.specs.declared.asks.Ask.{Ask}
use Rattle.pipeline_body.specs.Bodies.{NoBytesHaveTwoBodyReadings}
use Rattle.pipeline_body.specs.Exchanges.{IsAsked, route_answer, begins, asked_in, is_over}
use Rattle.pipeline_body.specs.declared.bodies.PipelineBody.{PipelineBody}
use Rattle.pipeline_body.specs.declared.exchange.Asked.{Asked}
use Rattle.pipeline_body.specs.declared.exchange.Asked.TheVariants.{Answered, Pipeline}
use Rattle.baton_store.specs.Text.{text_of}
use Rattle.baton_store.proofs.TextLemmas.{number-one}
use Rattle.engine_core.specs.Draws.{Draw, words, failed}
use Rattle.engine_core.specs.declared.entries.Entry.{Entry}
use Rattle.hrana_hub.specs.declared.events.Event.{Event}
use Rattle.hrana_hub.specs.declared.events.Event.TheVariants.{Exchange}
use Rattle.hrana_hub.specs.declared.limits.TheConstants.{MAX_EVENTS}
use Rattle.hrana_hub.specs.declared.sessions.Issued.{Issued}
use Rattle.hrana_hub.specs.declared.sessions.Running.{Running as Runs}
use Rattle.hrana_hub.specs.declared.sessions.Session.{Session}
use Rattle.hrana_hub.specs.declared.sessions.Session.TheVariants.{Resting, Running}
use Rattle.hrana_hub.specs.Maps.{at, put}
use Rattle.hrana_hub.specs.State.{Stream, State}
use Rattle.hrana_hub.specs.Arrivals.{accepts}
use Rattle.hrana_hub.specs.Batons.{NoBatonTwice}
use Rattle.hrana_hub.specs.Exchanges.{Awaits, starts_if, Does, GoesBy, GoesDrawn, GoesAsked, IsHeard}
use Rattle.hrana_hub.specs.Run.{Run, RunFrom, start, more}
use Rattle.hrana_hub.specs.Step.{ExchangeFell, ExchangeGoes, Step, is_short, counted, may_come, fits}
use Rattle.hrana_hub.specs.Talks.{Accepts, IsBy}
use Rattle.hrana_hub.proofs.Changes.{step_changes}
use Rattle.hrana_hub.proofs.Counting.{came_events}
use Rattle.hrana_hub.proofs.DeadBatons.{one_body, no_unreadable}
use Rattle.hrana_hub.proofs.Kept.{counted_kept, change_kept, run_kept, from_kept}
use Rattle.hrana_hub.proofs.MapLemmas.{none_some}
use Rattle.hrana_hub.proofs.MoveSteps.{step_moves, either}
use Rattle.hrana_hub.proofs.Moving.{Waits, FewerBut, Moves, still, begins_on, goes_on, hands, leaves, stops, handed, but_put}
use Rattle.hrana_hub.proofs.Standing.{Kept}

abbrev pub rests_with : Issued → Session
rests_with b = Resting (Some b)

-- the text is that of one of the issues so far
pub record IsOfIssue (issued : ℕ) (text : List ℕ) : Type 0 where
  pub number : ℕ
  pub drawn : List ℕ
  pub below : number < issued
  pub is : text ≡ text_of (number + 1) drawn

later_issue : (m n : ℕ) (text : List ℕ) → m ≤ n → IsOfIssue m text → IsOfIssue n text
later_issue m n text le h = record { number = h.number; drawn = h.drawn; below = omega (arith, h.below, le); is = h.is }

-- the text of the next issue is new
next_is_new : (issued : ℕ) (drawn text : List ℕ) → issued < 2 ^ 62 → IsOfIssue issued text → text ≡ text_of (issued + 1) drawn → ⊥
next_is_new issued drawn text few h e =
    let same = number-one (h.number + 1) (issued + 1) h.drawn drawn (omega (arith, few, h.below)) (omega (arith, few)) (sym h.is ∙ e) in
    omega (arith, same, h.below)

-- ---- the batons that streams rest with

-- each was issued, no two streams rest with one, and no more were issued than events came
pub record Held (s : State) : Type 0 where
  pub issued : (n : ℕ) (b : Issued) → Waits s.streams n (rests_with b) → IsOfIssue s.issued b.text
  pub apart : (n m : ℕ) (b d : Issued) → Waits s.streams n (rests_with b) → Waits s.streams m (rests_with d) → b.text ≡ d.text → n ≡ m
  pub few : s.issued ≤ s.events

-- no stream rests with the text, which was issued
pub record Spent (text : List ℕ) (s : State) : Type 0 where
  pub none : (n : ℕ) (b : Issued) → Waits s.streams n (rests_with b) → b.text ≡ text → ⊥
  pub issued : IsOfIssue s.issued text

waits_there : {s : State} {text : List ℕ} {n : ℕ} {x : Stream} (w : Awaits s text n x) → Waits s.streams n (rests_with w.baton)
waits_there {x = x} w = record { x = x; known = w.known; session = w.rests }

-- one stream alone is that of a baton, or the next that opens
pub one_stream : (s : State) (held : Held s) (baton : Option (List ℕ)) (n m : ℕ) → IsBy s n baton → IsBy s m baton → n ≡ m
one_stream s held None n m a b = a.0 ∙ sym b.0
one_stream s held (Some text) n m a b = held.apart n m a.1.baton b.1.baton (waits_there a.1) (waits_there b.1) (a.1.text_is ∙ sym b.1.text_is)

one_issued : {b d : Issued} → ◌≡◌ {A = Session} (rests_with b) (rests_with d) → b ≡ d
one_issued h = cc

module _ (s new : State) (held : Held s) where
  -- where none but this comes, and it is no baton
  held_but : (n : ℕ) (now : Session) → ((b : Issued) → rests_with b ≡ now → ⊥) → FewerBut n now s.streams new.streams → new.issued ≡ s.issued → new.issued ≤ new.events → Held new
  held_but n now not but i few = record {
    issued = λ m b w. subst (λ k. IsOfIssue k b.text) (sym i) (held.issued m b (old m b w));
    apart = λ m k b d v w e. held.apart m k b d (old m b v) (old k d w) e;
    few = few;
  }
    where
      old : (m : ℕ) (b : Issued) → Waits new.streams m (rests_with b) → Waits s.streams m (rests_with b)
      old m b w = elim (but m (rests_with b) w) [ inl own ↦ absurd (not b own.1) | inr other ↦ other.1 ]

  -- one more baton
  held_more : (n : ℕ) (drawn : List ℕ) → s.issued < 2 ^ 62 → FewerBut n (handed drawn s.issued s.now) s.streams new.streams → new.issued ≡ s.issued + 1 → new.issued ≤ new.events → Held new
  held_more n drawn small but i few = record { issued = issued; apart = apart; few = few }
    where
      text : (b : Issued) → rests_with b ≡ handed drawn s.issued s.now → b.text ≡ text_of (s.issued + 1) drawn
      text b e = ap (λ (d : Issued). d.text) (one_issued e)

      issued : (m : ℕ) (b : Issued) → Waits new.streams m (rests_with b) → IsOfIssue new.issued b.text
      issued m b w = elim (but m (rests_with b) w) [
        | inl own ↦ record { number = s.issued; drawn = drawn; below = omega (arith, i); is = text b own.1 }
        | inr other ↦ later_issue s.issued new.issued b.text (omega (arith, i)) (held.issued m b other.1)
      ]

      -- the new one is none of the old ones
      new_old : (m k : ℕ) (b d : Issued) → rests_with b ≡ handed drawn s.issued s.now → Waits s.streams k (rests_with d) → d.text ≡ b.text → ⊥
      new_old m k b d is w e = next_is_new s.issued drawn d.text small (held.issued k d w) (e ∙ text b is)

      apart : (m k : ℕ) (b d : Issued) → Waits new.streams m (rests_with b) → Waits new.streams k (rests_with d) → b.text ≡ d.text → m ≡ k
      apart m k b d v w e = elim (but m (rests_with b) v) [
        | inl own ↦ elim (but k (rests_with d) w) [ inl mine ↦ own.0 ∙ sym mine.0 | inr old ↦ absurd (new_old m k b d own.1 old.1 (sym e)) ]
        | inr other ↦ elim (but k (rests_with d) w) [ inl mine ↦ absurd (new_old k m d b mine.1 other.1 e) | inr old ↦ held.apart m k b d other.1 old.1 e ]
      ]

  moves_held : {event : Event} {out : Outs} → s.issued < 2 ^ 62 → new.events ≡ s.events → s.issued + 1 ≤ s.events → Moves s new out event → Held new
  moves_held small same ahead (still event fewer es i even) = record {
    issued = λ m b w. subst (λ k. IsOfIssue k b.text) (sym i) (held.issued m b (fewer m (rests_with b) w));
    apart = λ m k b d v w e. held.apart m k b d (fewer m (rests_with b) v) (fewer k (rests_with d) w) e;
    few = omega (arith, i, same, held.few);
  }
  moves_held small same ahead (begins_on c ask n e mine free but es i quiet) = held_but n (Running e) (λ b h. cc) but i (omega (arith, i, same, held.few))
  moves_held small same ahead (goes_on event n e g w mine but es i quiet) = held_but n (Running g) (λ b h. cc) but i (omega (arith, i, same, held.few))
  moves_held small same ahead (hands event n c drawn ends but es i) = held_more n drawn small but i (omega (arith, i, same, ahead))
  moves_held small same ahead (leaves event n c ends but es i) = held_but n (Resting None) (λ b h. cc) but i (omega (arith, i, same, held.few))
  moves_held small same ahead (stops quiet ss es i) = record {
    issued = λ m b w. absurd (none_some (ap (λ fs. at m fs) (sym ss) ∙ w.known));
    apart = λ m k b d v w e. absurd (none_some (ap (λ fs. at m fs) (sym ss) ∙ v.known));
    few = omega (arith, i, same, held.few);
  }

  -- a text that is spent stays so
  spent_but : (text : List ℕ) (n : ℕ) (now : Session) → ((b : Issued) → rests_with b ≡ now → b.text ≡ text → ⊥) → FewerBut n now s.streams new.streams → s.issued ≤ new.issued → Spent text s → Spent text new
  spent_but text n now not but le h = record {
    none = λ m b w e. elim (but m (rests_with b) w) [ inl own ↦ not b own.1 e | inr other ↦ h.none m b other.1 e ];
    issued = later_issue s.issued new.issued text le h.issued;
  }

  moves_spent : {event : Event} {out : Outs} (text : List ℕ) → s.issued < 2 ^ 62 → Moves s new out event → Spent text s → Spent text new
  moves_spent text small (still event fewer es i even) h = record { none = λ m b w e. h.none m b (fewer m (rests_with b) w) e; issued = subst (λ k. IsOfIssue k text) (sym i) h.issued }
  moves_spent text small (begins_on c ask n e mine free but es i quiet) h = spent_but text n (Running e) (λ b k. absurd (cc)) but (omega (arith, i)) h
  moves_spent text small (goes_on event n e g w mine but es i quiet) h = spent_but text n (Running g) (λ b k. absurd (cc)) but (omega (arith, i)) h
  moves_spent text small (hands event n c drawn ends but es i) h =
      spent_but text n (handed drawn s.issued s.now) (λ b k e. next_is_new s.issued drawn text small h.issued (sym e ∙ ap (λ (d : Issued). d.text) (one_issued k))) but (omega (arith, i)) h
  moves_spent text small (leaves event n c ends but es i) h = spent_but text n (Resting None) (λ b k. absurd (cc)) but (omega (arith, i)) h
  moves_spent text small (stops quiet ss es i) h = record { none = λ m b w e. absurd (none_some (ap (λ fs. at m fs) (sym ss) ∙ w.known)); issued = subst (λ k. IsOfIssue k text) (sym i) h.issued }

-- ---- every run

few_events : (s : State) (event : Event) → fits s event ≡ true → s.events < MAX_EVENTS
few_events s event f =
    let parts = and_parts (not s.stopped && nat_lt s.events MAX_EVENTS) (may_come s event) f in
    ltb-true s.events MAX_EVENTS (and_parts (not s.stopped) (nat_lt s.events MAX_EVENTS) parts.0).1

pub counted_held : (s : State) → Held s → Held (counted s)
counted_held s h = record { issued = h.issued; apart = h.apart; few = omega (arith, h.few) }

module _ (token : Option (List ℕ)) (shared : Bool) (s : State) (event : Event) (draws : List Draw) (added : List Entry) (out : Outs) (new : State) (kept : Kept s) (fit : fits s event ≡ true) (step : Step token shared s event draws added out new) where
  moves : Moves (counted s) new out event
  moves = step_moves token shared s event draws added out new kept fit step

  step_held : Held s → Held new
  step_held h = (let few = few_events s event fit in
      moves_held (counted s) new (counted_held s h) (omega (arith, few, h.few)) (came_events token shared (counted s) new added out event draws step) (omega (arith, h.few)) moves)

  step_kept : Kept new
  step_kept = change_kept shared (counted s) added out new (counted_kept s kept) (step_changes token shared s event draws added out new fit step)

  step_spent : (text : List ℕ) → Held s → Spent text s → Spent text new
  step_spent text held h = (let few = few_events s event fit in moves_spent (counted s) new (counted_held s held) text (omega (arith, few, held.few)) moves (record { none = h.none; issued = h.issued }))

pub run_held : {token : Option (List ℕ)} {shared : Bool} {events : List Event} {drawn : List (List Draw)} {entries : List (List Entry)} {outs : List Outs} {s : State} → Run token shared events drawn entries outs s → Held s
run_held start = record { issued = λ n b w. absurd (none_some w.known); apart = λ n m b d v w e. absurd (none_some v.known); few = omega arith }
run_held {token} {shared} (more {s = before} run event draws added out new fit step) = step_held token shared before event draws added out new (run_kept run) fit step (run_held run)

run_spent : {token : Option (List ℕ)} {shared : Bool} {first : State} {events : List Event} {drawn : List (List Draw)} {entries : List (List Entry)} {outs : List Outs} {s : State} (text : List ℕ) → Kept first → Held first → Spent text first → RunFrom token shared first events drawn entries outs s → Held s × Spent text s
run_spent text kept held spent start = (held, spent)
run_spent {token} {shared} text kept held spent (more {s = before} run event draws added out new fit step) =
    let was = run_spent text kept held spent run in
    let keeps = from_kept kept run in
    (step_held token shared before event draws added out new keeps fit step was.0, step_spent token shared before event draws added out new keeps fit step text was.0 was.1)

-- ---- an exchange that is accepted

module _ (law : NoBytesHaveTwoBodyReadings) (token : Option (List ℕ)) (s : State) (held : Held s) (c : ℕ) (ask : HttpAsk) (body : PipelineBody) (text : List ℕ) (n : ℕ) (draws : List Draw) (accepted : Accepts token s ask draws n body) (brings : body.baton ≡ Some text) (out : Outs) (new : State) where
  awaits_by : (baton : Option (List ℕ)) → baton ≡ Some text → IsBy s n baton → (x : Stream) × Awaits s text n x
  awaits_by None e h = absurd (cc)
  awaits_by (Some other) e h = (let same : other ≡ text = cc in subst (λ t. (x : Stream) × Awaits s t n x) same h)

  waits : (x : Stream) × Awaits s text n x
  waits = awaits_by body.baton brings accepted.by

  text_issued : IsOfIssue s.issued text
  text_issued = subst (IsOfIssue s.issued) waits.1.text_is (held.issued n waits.1.baton (waits_there waits.1))

  -- its stream rests with another from now on, or runs
  put_spent : (m : ℕ) (x y : Stream) (now : Session) → at m s.streams ≡ Some x → y.session ≡ Some now → ((b : Issued) → rests_with b ≡ now → b.text ≡ text → ⊥) → Awaits s text m x → new.streams ≡ put m y s.streams → s.issued ≤ new.issued → Spent text new
  put_spent m x y now known is not w ss le = record {
    none = λ k b v e. elim (but_put s.streams m x y now known is k (rests_with b) (subst (λ fs. Waits fs k (rests_with b)) ss v)) [
      | inl own ↦ not b own.1 e
      | inr other ↦ other.0 (held.apart k m b w.baton other.1 (waits_there w) (e ∙ sym w.text_is))
    ];
    issued = later_issue s.issued new.issued text le text_issued;
  }

  starts_spent : (over : Bool) (m : ℕ) (x : Stream) (asks : List Ask) (e : Runs) → s.issued < 2 ^ 62 → Awaits s text m x → Does (starts_if over m x asks e s) out new → Spent text new
  starts_spent true m x asks e small w d = put_spent m x _ (handed e.words s.issued s.now) w.known refl
      (λ b k h. next_is_new s.issued e.words text small text_issued (sym h ∙ ap (λ (i : Issued). i.text) (one_issued k))) w (ap (λ (t : State). t.streams) d.left) (omega (arith, ap (λ (t : State). t.issued) d.left))
  starts_spent false m x asks e small w d = put_spent m x _ (Running e) w.known refl (λ b k. absurd (cc)) w (ap (λ (t : State). t.streams) d.left) (omega (arith, ap (λ (t : State). t.issued) d.left))

  by_spent : (baton : Option (List ℕ)) (asks : List Ask) (e : Runs) → baton ≡ Some text → s.issued < 2 ^ 62 → GoesBy baton asks e s out new → Spent text new
  by_spent None asks e it small h = absurd (cc)
  by_spent (Some other) asks e it small (inl g) = (let same : other ≡ text = cc in starts_spent (is_over e.exchange) g.stream g.x asks e small (subst (λ t. Awaits s t g.stream g.x) same g.awaits) g.does)
  by_spent (Some other) asks e it small (inr dead) = (let same : other ≡ text = cc in absurd (dead.none n waits.0 (subst (λ t. Awaits s t n waits.0) (sym same) waits.1)))

  drawn_spent : (draw : Draw) (other : PipelineBody) → other ≡ body → draws ≡ draw ∷ [] → s.issued < 2 ^ 62 → GoesDrawn draw other c ask.close s out new → Spent text new
  drawn_spent failed other same one small h = (let no : failed ∷ [] ≡ words accepted.drawn ∷ [] = sym one ∙ accepted.one in absurd (cc))
  drawn_spent (words given) other same one small h = by_spent other.baton (asked_in other.asks) (record { conn = c; words = given; close = ask.close; exchange = begins other.asks }) (ap (λ (b : PipelineBody). b.baton) same ∙ brings) small h

  asked_spent : (a : Asked) → IsAsked (accepts token ask.bearer) ask a → s.issued < 2 ^ 62 → GoesAsked a c ask.close s draws out new → Spent text new
  asked_spent (Answered reply) (inl h) small goes = absurd (true≢false (sym accepted.asked.0 ∙ h.0))
  asked_spent (Answered reply) (inr h) small goes = absurd (no_unreadable law ask.body body accepted.asked.1 h.1)
  asked_spent (Pipeline other) is small goes = drawn_spent goes.0 other (one_body law ask.body other body is.1 accepted.asked.1) goes.1 small goes.2

  goes_spent : (o : Option HttpAnswer) → route_answer ask ≡ o → s.issued < 2 ^ 62 → ExchangeGoes o token s c ask draws out new → Spent text new
  goes_spent (Some reply) e small h = absurd (none_some (sym accepted.routed ∙ e))
  goes_spent None e small h = either (is_short out) (λ (f : ExchangeFell s c ask draws out new). (let no : [] ≡ words accepted.drawn ∷ [] = sym f.0 ∙ accepted.one in absurd (cc)))
      (λ (g : IsHeard token s c ask draws out new). asked_spent g.asked g.is_asked small g.goes) h

counted_by : (s : State) (n : ℕ) (baton : Option (List ℕ)) → IsBy s n baton → IsBy (counted s) n baton
counted_by s n None h = h
counted_by s n (Some text) h = (h.0, record { baton = h.1.baton; known = h.1.known; rests = h.1.rests; text_is = h.1.text_is; young = h.1.young })

pub counted_accepts : (token : Option (List ℕ)) (s : State) (ask : HttpAsk) (draws : List Draw) (n : ℕ) (body : PipelineBody) → Accepts token s ask draws n body → Accepts token (counted s) ask draws n body
counted_accepts token s ask draws n body h = record { routed = h.routed; asked = h.asked; drawn = h.drawn; one = h.one; by = counted_by s n body.baton h.by }

pub no_baton_twice : NoBytesHaveTwoBodyReadings → NoBatonTwice
no_baton_twice law token shared events drawn entries outs s run c ask body text n draws added out new fit step accepted brings later drawn' entries' outs' last more' m x w =
    let few = few_events s (Exchange c ask) fit in
    let kept = run_kept run in
    let held = run_held run in
    let spent = goes_spent law token (counted s) (counted_held s held) c ask body text n draws (counted_accepts token s ask draws n body accepted) brings out new (route_answer ask) refl (omega (arith, few, held.few)) step.1 in
    let now = step_held token shared s (Exchange c ask) draws added out new kept fit step held in
    let end = run_spent text (step_kept token shared s (Exchange c ask) draws added out new kept fit step) now spent more' in
    end.1.none m w.baton (record { x = x; known = w.known; session = w.rests }) w.text_is

-- An event is counted, and comes.
use Rattle.std.proofs.Common.{◌≡◌, ◌<◌, ◌&&◌, ℕ, Bool, true, false, not, nat_lt, List, [], Option, None, Some, MatchBool, refl, sym, ap, subst, arith, true≢false}
use Rattle.std.proofs.lemmas.Bool.{ltb-true}
use Rattle.http_wire.specs.declared.asks.HttpAsk.{HttpAsk}
use Rattle.http_wire.specs.declared.outs.Outs.{Outs}
use Rattle.serial_order.specs.Serial.{Meaning}
use Rattle.engine_core.specs.Transactions.{Lives}
use Rattle.engine_core.specs.declared.statement.BoundStmt.{BoundStmt}
use Rattle.engine_core.specs.declared.entries.Answer.{Answer}
use Rattle.engine_core.specs.Draws.{Draw}
use Rattle.engine_core.specs.declared.entries.Entry.{Entry}
use Rattle.hrana_hub.specs.declared.events.Event.{Event}
use Rattle.hrana_hub.specs.declared.events.Event.TheVariants.{Opened, Text, Binary, Exchange, Lost, Moment, Poll, Stop}
use Rattle.hrana_hub.specs.declared.limits.TheConstants.{MAX_EVENTS}
use Rattle.hrana_hub.specs.Maps.{at}
use Rattle.hrana_hub.specs.State.{Conn, State, Seen, with_state}
use Rattle.hrana_hub.specs.Adds.{Adds}
use Rattle.hrana_hub.specs.Agrees.{HubAgrees, IsCounted, IsAhead}
use Rattle.hrana_hub.specs.Arrivals.{nothing, closing, quiet}
use Rattle.hrana_hub.specs.Moments.{LossFrees}
use Rattle.hrana_hub.specs.Step.{Step, Comes, ComesOf, is_exchange, Goes, Heard, TextSteps, BinarySteps, is_short, fits, may_come, counted, with_new_conn}
use Rattle.hrana_hub.proofs.Adding.{alike, adds_from}
use Rattle.hrana_hub.proofs.Agreeing.{same_agrees}

-- ---- what fits

and_left : (a b : Bool) → (a && b) ≡ true → a ≡ true
and_left true b e = refl
and_left false b e = absurd (cc)

and_right : (a b : Bool) → (a && b) ≡ true → b ≡ true
and_right true b e = e
and_right false b e = absurd (cc)

pub fits_comes : (s : State) (event : Event) → fits s event ≡ true → may_come s event ≡ true
fits_comes s event e = and_right (not s.stopped && nat_lt s.events MAX_EVENTS) (may_come s event) e

pub fits_few : (s : State) (event : Event) → fits s event ≡ true → s.events < MAX_EVENTS
fits_few s event e = ltb-true s.events MAX_EVENTS (and_right (not s.stopped) (nat_lt s.events MAX_EVENTS) (and_left (not s.stopped && nat_lt s.events MAX_EVENTS) (may_come s event) e))

-- that it was counted makes no odds to what may come
pub comes_counted : (s : State) (event : Event) → may_come (counted s) event ≡ may_come s event
comes_counted s (Opened c) = refl
comes_counted s (Text c text) = refl
comes_counted s (Binary c) = refl
comes_counted s (Exchange c ask) = refl
comes_counted s (Lost c) = refl
comes_counted s (Moment now) = refl
comes_counted s (Poll stream) = refl
comes_counted s Stop = refl

pub counted_ahead : (s : State) → IsCounted s → s.events < MAX_EVENTS → IsAhead (counted s)
counted_ahead s c l = record { streams = omega (arith, c.streams); units = omega (arith, c.units); commits = omega (arith, c.commits); batons = omega (arith, c.batons); few = omega (arith, l) }

pub counted_agrees : {D : Type 0} (told shared : Bool) (db : D) (live : Lives D) (h : Seen) → HubAgrees told shared db live h → HubAgrees told shared db live (with_state (counted h.state) h)
counted_agrees told shared db live h a = same_agrees told shared db live h (with_state (counted h.state) h) a (record { moves = record { streams_are = refl; opened = refl; next = refl; version = refl; events = omega arith; turns = refl; noted = refl; places = omega arith }; stays = record { issued = refl; stopped = refl; store = refl } })

-- ---- the step

-- what came of the event once it was counted
pub step_adds : {X D : Type 0} {told shared : Bool} {m : Meaning D BoundStmt Answer} {db : X → D} {live : X → Lives D} {faults : X → ℕ} (engine engine' : X) (old mid new : Seen) (event : Event) (draws : List Draw) (out : Outs) → mid ≡ with_state (counted old.state) old
    → Adds told shared m db live faults engine engine' mid new (λ added. ComesOf mid.token shared mid.state event draws added out new.state) → Adds told shared m db live faults engine engine' old new (λ added. Step old.token shared old.state event draws added out new.state)
step_adds {shared = shared} engine engine' old mid new event draws out is a =
    adds_from engine engine' old mid new _ (λ added. Step old.token shared old.state event draws added out new.state) (ap (λ (h : Seen). h.noted.list) is)
    (alike old mid (ap (λ (h : Seen). h.state.streams) is) (ap (λ (h : Seen). h.turns) is) (ap (λ (h : Seen). h.noted.next) is))
    (λ added c. subst (λ (h : Seen). ComesOf h.token shared h.state event draws added out new.state) is c) a

-- it isn't an exchange: nothing is drawn for it
pub comes_of : (token : Option (List ℕ)) (shared : Bool) (s : State) (event : Event) (added : List Entry) (out : Outs) (new : State) → is_exchange event ≡ false → Comes token shared s event added out new → ComesOf token shared s event [] added out new
comes_of token shared s (Opened c) added out new e h = (refl, h)
comes_of token shared s (Text c text) added out new e h = (refl, h)
comes_of token shared s (Binary c) added out new e h = (refl, h)
comes_of token shared s (Exchange c ask) added out new e h = absurd (true≢false e)
comes_of token shared s (Lost c) added out new e h = (refl, h)
comes_of token shared s (Moment now) added out new e h = (refl, h)
comes_of token shared s (Poll stream) added out new e h = (refl, h)
comes_of token shared s Stop added out new e h = (refl, h)

-- what a loss frees is the same where it was counted
pub frees_counted : (event : Event) (old mid new : Seen) → mid ≡ with_state (counted old.state) old → LossFrees event mid new → LossFrees event old new
frees_counted event old mid new is h = by event (subst (λ (s : Seen). LossFrees event s new) is h)
  where
    by : (e : Event) → LossFrees e (with_state (counted old.state) old) new → LossFrees e old new
    by (Opened c) f = f
    by (Text c text) f = f
    by (Binary c) f = f
    by (Exchange c ask) f = f
    by (Lost c) f = f
    by (Moment now) f = f
    by (Poll stream) f = f
    by Stop f = f

-- ---- what gives no close with 1011

long : (out : Outs) (A B : Type 0) → is_short out ≡ false → B → MatchBool (is_short out) A B
long out A B e b = subst (λ c. MatchBool c A B) (sym e) b

pub opened_comes : (token : Option (List ℕ)) (shared : Bool) (s new : State) (c : ℕ) (out : Outs) → out ≡ nothing → new ≡ with_new_conn c false s → Comes token shared s (Opened c) [] out new
opened_comes token shared s new c out given left = long out _ _ (ap is_short given) (record { none = refl; given = given; left = left })

pub text_comes : (token : Option (List ℕ)) (shared : Bool) (s new : State) (c : ℕ) (text : List ℕ) (out : Outs) → TextSteps token s c text out new → Comes token shared s (Text c text) [] out new
text_comes token shared s new c text out h = h

binary_gives : (s new : State) (c : ℕ) (o : Option Conn) (out : Outs) → Heard s o (λ k. Goes (closing c k None 1003 s) [] out new) [] out new → is_short out ≡ false
binary_gives s new c None out h = ap is_short h.given
binary_gives s new c (Some k) out h = by k.closing h
  where
    by : (b : Bool) → MatchBool b (Goes (quiet s) [] out new) (Goes (closing c k None 1003 s) [] out new) → is_short out ≡ false
    by true g = ap is_short g.given
    by false g = ap is_short g.given

pub binary_comes : (token : Option (List ℕ)) (shared : Bool) (s new : State) (c : ℕ) (out : Outs) → BinarySteps s c out new → Comes token shared s (Binary c) [] out new
binary_comes token shared s new c out h = long out _ _ (binary_gives s new c (at c s.conns) out h) h

pub fits_running : (s : State) (event : Event) → fits s event ≡ true → s.stopped ≡ false
fits_running s event e = by s.stopped (and_left (not s.stopped) (nat_lt s.events MAX_EVENTS) (and_left (not s.stopped && nat_lt s.events MAX_EVENTS) (may_come s event) e))
  where
    by : (b : Bool) → not b ≡ true → b ≡ false
    by false f = refl
    by true f = absurd (true≢false (sym f))

pub not_exchange : (event : Event) → ((c : ℕ) (ask : HttpAsk) → event ≡ Exchange c ask → ⊥) → is_exchange event ≡ false
not_exchange (Opened c) other = refl
not_exchange (Text c text) other = refl
not_exchange (Binary c) other = refl
not_exchange (Exchange c ask) other = absurd (other c ask refl)
not_exchange (Lost c) other = refl
not_exchange (Moment now) other = refl
not_exchange (Poll stream) other = refl
not_exchange Stop other = refl

-- What exchanges do to the streams: one stream of exchanges comes, goes on or goes, and all else stays.
use Rattle.std.proofs.Common.{◌≡◌, ◌≢◌, ◌≤◌, ◌<◌, ◌+◌, ◌⊎◌, ℕ, Bool, true, false, List, [], length, Option, None, Some, option_to_list, refl, sym, ap, ◌∙◌, subst, arith, inl, inr}
use Rattle.std.proofs.lemmas.Bool.{cases_order}
use Rattle.hrana_value.specs.declared.StreamNo.{StreamNo}
use Rattle.stream_requests.specs.declared.asks.Ask.{Ask}
use Rattle.stream_requests.specs.declared.replies.Reply.{Reply}
use Rattle.http_wire.specs.declared.asks.HttpAsk.{HttpAsk}
use Rattle.http_wire.specs.declared.outs.Outs.{Outs}
use Rattle.engine_core.specs.declared.entries.Entry.{Entry}
use Rattle.engine_core.specs.declared.entries.Undo.TheVariants as undo
use Rattle.pipeline_body.specs.Exchanges.{is_over}
use Rattle.stream_task.specs.Adds.{next_by}
use Rattle.stream_task.specs.Laws.{ShutAddsNothing}
use Rattle.stream_task.specs.Polls.{Task, Polls}
use Rattle.stream_task.specs.Session.{is_shut}
use Rattle.stream_task.specs.Table.{Seen as Sees}
use Rattle.stream_task.specs.declared.task.Poll.{Poll as Answer}
use Rattle.stream_task.specs.declared.task.Stepped.{Stepped}
use Rattle.hrana_hub.specs.declared.events.Event.{Event}
use Rattle.hrana_hub.specs.declared.events.Event.TheVariants.{Exchange, Lost, Poll}
use Rattle.hrana_hub.specs.declared.limits.TheConstants.{MAX_CONNECTIONS, MAX_SESSIONS}
use Rattle.hrana_hub.specs.declared.sessions.Running.{Running as Runs}
use Rattle.hrana_hub.specs.Maps.{Numbered, at, put, placed, without}
use Rattle.hrana_hub.specs.State.{Conn, Stream, State, of_exchanges}
use Rattle.hrana_hub.specs.Arrivals.{Went}
use Rattle.hrana_hub.specs.Polled.{reply_in, seen_of, with_task, with_entry, later_ids}
use Rattle.hrana_hub.specs.Ended.{end_of, without_lost}
use Rattle.hrana_hub.specs.Exchanges.{SessionPolled, SessionFell, fresh_session, with_session, starts, starts_if, with_reply, replies_to, proceeds_if, concludes, gives_up, sessions_in}
use Rattle.hrana_hub.specs.Laws.{is_dead, waits_of}
use Rattle.hrana_hub.specs.Stories.{text_in}
use Rattle.hrana_hub.proofs.EntryLemmas.{at_put, at_put_other, at_without, at_without_other, rising_without, without_unknown}
use Rattle.hrana_hub.proofs.Listed.{length_placed, length_without, placed_cases, without_cases}
use Rattle.hrana_hub.proofs.MapLemmas.{none_some, at_placed, at_placed_other, Rises, rises_put, rises_placed}
use Rattle.hrana_hub.proofs.SessionSums.{sessions_put, sessions_without, sessions_placed}
use Rattle.hrana_hub.proofs.Standing.{OfSession, Kept}
use Rattle.hrana_hub.proofs.WaitSums.{share_idle, sum_put, sum_without, sum_placed}

-- ---- what the event adds

-- an exchange adds nothing, a poll what that of the stream's task adds, and a loss the end of its unit
pub data Adding (shared : Bool) (s : State) (n : ℕ) (added : List Entry) (new : State) : Event → Type 0 where
  arrives : (c : ℕ) (ask : HttpAsk) → added ≡ [] → new.next ≡ s.next → Adding shared s n added new (Exchange c ask)
  polled : (stream : StreamNo) (x : Stream) (by : Option StreamNo) (entry : Option Entry) (result : Answer Stepped) (task : Task) → n ≡ stream.0 → at stream.0 s.streams ≡ Some x → Polls shared (seen_of by s) x.task entry result task
      → added ≡ option_to_list entry → new.next ≡ next_by s.next entry → Adding shared s n added new (Poll stream)
  lost : (c : ℕ) → added ≡ end_of undo.Lost (at n s.streams) → new.next ≡ s.next → Adding shared s n added new (Lost c)

-- ---- what becomes of the streams

-- no stream of a connection stands there
abbrev pub IsSession : Option Stream → Type 0
IsSession None = Unit {0}
IsSession (Some x) = of_exchanges x ≡ true

-- no request waits there with an id
abbrev pub IsIdle : Option Stream → Type 0
IsIdle None = Unit {0}
IsIdle (Some x) = x.waits ≡ []

-- at the number was no stream of a connection, and is none; the others are as before
pub record Turned (n : ℕ) (es fs : Numbered Stream) : Type 0 where
  pub others : (m : ℕ) → m ≢ n → at m fs ≡ at m es
  pub was : IsSession (at n es)
  pub now : IsSession (at n fs)
  pub rise : Rises fs
  pub idle : IsIdle (at n es) → IsIdle (at n fs)
  pub sums : IsIdle (at n es) → (c : ℕ) → waits_of c fs ≡ waits_of c es

-- the number of a stream of exchanges that runs may have come, or one may have gone
pub record Brings (n : ℕ) (es fs : Numbered ℕ) : Type 0 where
  pub rise : Rises fs
  pub brought : (c m : ℕ) → at c fs ≡ Some m → (at c es ≡ Some m) ⊎ (m ≡ n)

pub record Touches (shared : Bool) (s : State) (n : ℕ) (new : State) : Type 0 where
  pub conns : new.conns ≡ s.conns
  pub streams : Turned n s.streams new.streams
  pub exchanges : Brings n s.exchanges new.exchanges
  pub given : n ≤ new.opened
  pub gone : n ≤ s.opened → at n s.streams ≡ None → at n new.streams ≡ None
  pub dead : ShutAddsNothing → n ≤ s.opened → is_dead (at n s.streams) ≡ true → is_dead (at n new.streams) ≡ true
  pub few : length new.conns + length new.exchanges ≤ MAX_CONNECTIONS
  pub sessions : sessions_in new.streams ≤ MAX_SESSIONS

-- ---- three ways

-- the stream has become another
turned_put : (n : ℕ) (x y : Stream) (es : Numbered Stream) → Rises es → at n es ≡ Some x → of_exchanges x ≡ true → of_exchanges y ≡ true → (x.waits ≡ [] → y.waits ≡ []) → Turned n es (put n y es)
turned_put n x y es r known is still idle =
    let there : at n (put n y es) ≡ Some y = at_put n x y es known in
    record {
      others = λ m other. at_put_other n m x y es known other;
      was = subst IsSession (sym known) is;
      now = subst IsSession (sym there) still;
      rise = rises_put n y es r;
      idle = λ h. subst IsIdle (sym there) (idle (subst IsIdle known h));
      sums = λ h c. (let none : x.waits ≡ [] = subst IsIdle known h in omega (arith, sum_put c n x y es known, share_idle c x none, share_idle c y (idle none)));
    }

sums_without : (n : ℕ) (es : Numbered Stream) (c : ℕ) → IsIdle (at n es) → waits_of c (without n es) ≡ waits_of c es
sums_without n es c h = by (at n es) refl h
  where
    by : (o : Option Stream) → at n es ≡ o → IsIdle o → waits_of c (without n es) ≡ waits_of c es
    by None e i = ap (waits_of c) (without_unknown n es e)
    by (Some x) e i = omega (arith, sum_without c n x es e, share_idle c x i)

-- the stream is gone
turned_without : (n : ℕ) (es : Numbered Stream) → Rises es → IsSession (at n es) → Turned n es (without n es)
turned_without n es r is =
    let gone : at n (without n es) ≡ None = at_without n es r in
    record {
      others = λ m other. at_without_other n m es r other;
      was = is;
      now = subst IsSession (sym gone) tt;
      rise = rising_without n es r;
      idle = λ h. subst IsIdle (sym gone) tt;
      sums = λ h c. sums_without n es c h;
    }

-- the stream has come
turned_placed : (n : ℕ) (x : Stream) (es : Numbered Stream) → Rises es → at n es ≡ None → of_exchanges x ≡ true → x.waits ≡ [] → Turned n es (placed n x es)
turned_placed n x es r none is idle =
    let there : at n (placed n x es) ≡ Some x = at_placed n x es in
    record {
      others = λ m other. at_placed_other n m x es other;
      was = subst IsSession (sym none) tt;
      now = subst IsSession (sym there) is;
      rise = rises_placed n x es r;
      idle = λ h. subst IsIdle (sym there) idle;
      sums = λ h c. omega (arith, sum_placed c n x es none, share_idle c x idle);
    }

turned_same : (n : ℕ) (es : Numbered Stream) → Rises es → IsSession (at n es) → Turned n es es
turned_same n es r is = record { others = λ m other. refl; was = is; now = is; rise = r; idle = λ h. h; sums = λ h c. refl }

turned_then : (n : ℕ) (es fs gs : Numbered Stream) → Turned n es fs → Turned n fs gs → Turned n es gs
turned_then n es fs gs h g = record {
  others = λ m other. g.others m other ∙ h.others m other;
  was = h.was;
  now = g.now;
  rise = g.rise;
  idle = λ i. g.idle (h.idle i);
  sums = λ i c. g.sums (h.idle i) c ∙ h.sums i c;
}

-- ---- the streams of exchanges that run

brings_same : (n : ℕ) (es : Numbered ℕ) → Rises es → Brings n es es
brings_same n es r = record { rise = r; brought = λ c m e. inl e }

brings_placed : (n c : ℕ) (es : Numbered ℕ) → Rises es → Brings n es (placed c n es)
brings_placed n c es r = record {
  rise = rises_placed c n es r;
  brought = λ d m e. elim (placed_cases c d n m es e) [ inl own ↦ inr own.1 | inr other ↦ inl other.1 ];
}

brings_without : (n c : ℕ) (es : Numbered ℕ) → Rises es → Brings n es (without c es)
brings_without n c es r = record { rise = rising_without c es r; brought = λ d m e. inl (without_cases c d m es r e).1 }

-- ---- a stream that has become another, or is gone

-- the stream of exchanges stands there, in the state or where it has come
pub record Stands (s : State) (n : ℕ) (x : Stream) (t : State) : Type 0 where
  pub conns : t.conns ≡ s.conns
  pub exchanges : t.exchanges ≡ s.exchanges
  pub streams : Turned n s.streams t.streams
  pub known : at n t.streams ≡ Some x
  pub session : of_exchanges x ≡ true
  pub old : n ≤ s.opened → at n s.streams ≡ Some x
  pub given : n ≤ t.opened
  pub sessions : sessions_in t.streams ≤ MAX_SESSIONS

known_given : (s : State) → Kept s → (n : ℕ) (x : Stream) → at n s.streams ≡ Some x → n ≤ s.opened
known_given s kept n x known = elim (cases_order n s.opened) [
  | inl same ↦ omega (arith, same)
  | inr order ↦ elim order [ inl less ↦ omega (arith, less) | inr more ↦ absurd (none_some (sym (kept.above n more) ∙ known)) ]
]

pub stands_known : (s : State) → Kept s → (n : ℕ) (x : Stream) → at n s.streams ≡ Some x → of_exchanges x ≡ true → Stands s n x s
stands_known s kept n x known is = record {
  conns = refl;
  exchanges = refl;
  streams = turned_same n s.streams kept.streams_rise (subst IsSession (sym known) is);
  known = known;
  session = is;
  old = λ l. known;
  given = known_given s kept n x known;
  sessions = kept.sessions;
}

-- one more, where there may be more
pub stands_fresh : (s : State) → Kept s → (c : ℕ) → sessions_in s.streams < MAX_SESSIONS → Stands s (s.opened + 1) (fresh_session s.now c (s.opened + 1)) (with_session c s)
stands_fresh s kept c few =
    let n = s.opened + 1 in
    let x = fresh_session s.now c n in
    let none : at n s.streams ≡ None = kept.above n (omega arith) in
    record {
      conns = refl;
      exchanges = refl;
      streams = turned_placed n x s.streams kept.streams_rise none refl refl;
      known = at_placed n x s.streams;
      session = refl;
      old = λ l. absurd (omega (arith, l));
      given = omega arith;
      sessions = omega (arith, sessions_placed n x s.streams none, few);
    }

-- the stream keeps of the other what is told of it
record Keeps (x y : Stream) : Type 0 where
  session : of_exchanges y ≡ true
  idle : x.waits ≡ [] → y.waits ≡ []
  shut : ShutAddsNothing → is_shut x.task.session.state ≡ true → is_shut y.task.session.state ≡ true

module _ (shared : Bool) (s : State) (kept : Kept s) (n : ℕ) (x : Stream) where
  put_touches : (t : State) → Stands s n x t → (y : Stream) → Keeps x y → (new : State) → new.conns ≡ t.conns → new.streams ≡ put n y t.streams → new.opened ≡ t.opened → Brings n s.exchanges new.exchanges → length s.conns + length new.exchanges ≤ MAX_CONNECTIONS
      → Touches shared s n new
  put_touches t h y keeps new cs ss o brings few =
      let now : at n new.streams ≡ Some y = ap (λ es. at n es) ss ∙ at_put n x y t.streams h.known in
      record {
        conns = cs ∙ h.conns;
        streams = turned_then n s.streams t.streams new.streams h.streams (subst (λ es. Turned n t.streams es) (sym ss) (turned_put n x y t.streams h.streams.rise h.known h.session keeps.session keeps.idle));
        exchanges = brings;
        given = omega (arith, h.given, o);
        gone = λ l none. absurd (none_some (sym none ∙ h.old l));
        dead = λ law l dead. ap is_dead now ∙ keeps.shut law (sym (ap is_dead (h.old l)) ∙ dead);
        few = subst (λ (w : Numbered Conn). length w + length new.exchanges ≤ MAX_CONNECTIONS) (sym (cs ∙ h.conns)) few;
        sessions = omega (arith, ap sessions_in ss, sessions_put n x y t.streams h.known (keeps.session ∙ sym h.session), h.sessions);
      }

without_touches : (shared : Bool) (s : State) → Kept s → (n : ℕ) → n ≤ s.opened → IsSession (at n s.streams) → (new : State) → new.conns ≡ s.conns → new.streams ≡ without n s.streams → new.opened ≡ s.opened → (c : ℕ) → new.exchanges ≡ without c s.exchanges → Touches shared s n new
without_touches shared s kept n given is new cs ss o c es =
    let now : at n new.streams ≡ None = ap (λ fs. at n fs) ss ∙ at_without n s.streams kept.streams_rise in
    record {
      conns = cs;
      streams = subst (λ fs. Turned n s.streams fs) (sym ss) (turned_without n s.streams kept.streams_rise is);
      exchanges = subst (λ fs. Brings n s.exchanges fs) (sym es) (brings_without n c s.exchanges kept.exchanges_rise);
      given = omega (arith, given, o);
      gone = λ l none. now;
      dead = λ law l dead. ap is_dead now;
      few = omega (arith, ap (λ fs. length fs) cs, ap (λ fs. length fs) es, length_without c s.exchanges, kept.few);
      sessions = omega (arith, ap sessions_in ss, sessions_without n s.streams, kept.sessions);
    }

-- ---- an exchange that comes

-- nothing else changes
pub record Silent (s : State) (went : Went) : Type 0 where
  pub next : went.state.next ≡ s.next
  pub opened : went.state.opened ≡ s.opened
  pub texts : text_in went.given.out ≡ []

module _ (n : ℕ) (x : Stream) (asks : List Ask) (e : Runs) where
  pub starts_silent : (t : State) → Silent t (starts n x asks e t)
  starts_silent t = by (is_over e.exchange)
    where
      by : (over : Bool) → Silent t (starts_if over n x asks e t)
      by true = record { next = refl; opened = refl; texts = refl }
      by false = record { next = refl; opened = refl; texts = refl }

  pub starts_touches : (shared : Bool) (s : State) → Kept s → (t : State) → Stands s n x t → at e.conn s.exchanges ≡ None → length s.conns + length s.exchanges < MAX_CONNECTIONS → Touches shared s n (starts n x asks e t).state
  starts_touches shared s kept t h none few = by (is_over e.exchange)
    where
      by : (over : Bool) → Touches shared s n (starts_if over n x asks e t).state
      by true = put_touches shared s kept n x t h _ (record { session = refl; idle = λ i. ap later_ids i; shut = λ law i. i }) (starts_if true n x asks e t).state refl refl refl
          (subst (λ es. Brings n s.exchanges (without e.conn es)) (sym h.exchanges) (brings_without n e.conn s.exchanges kept.exchanges_rise))
          (omega (arith, ap (λ es. length (without e.conn es)) h.exchanges, length_without e.conn s.exchanges, few))
      by false = put_touches shared s kept n x t h _ (record { session = refl; idle = λ i. i; shut = λ law i. i }) (starts_if false n x asks e t).state refl refl refl
          (subst (λ es. Brings n s.exchanges (placed e.conn n es)) (sym h.exchanges) (brings_placed n e.conn s.exchanges kept.exchanges_rise))
          (omega (arith, ap (λ es. length (placed e.conn n es)) h.exchanges, length_placed e.conn n s.exchanges none, few))

-- ---- a poll

module _ (n : ℕ) (x : Stream) (e : Runs) where
  concludes_silent : (over : Bool) (t : State) → Silent t (concludes over n x e t)
  concludes_silent true t = record { next = refl; opened = refl; texts = refl }
  concludes_silent false t = record { next = refl; opened = refl; texts = refl }

  proceeds_silent : (over : Bool) (t : State) → Silent t (proceeds_if over n x e t)
  proceeds_silent true t = concludes_silent (is_shut x.task.session.state) t
  proceeds_silent false t = record { next = refl; opened = refl; texts = refl }

replies_silent : (o : Option Reply) (n : ℕ) (x : Stream) (e : Runs) (t : State) → Silent t (replies_to o n x e t)
replies_silent None n x e t = record { next = refl; opened = refl; texts = refl }
replies_silent (Some reply) n x e t = proceeds_silent n x (with_reply reply e) (is_over (with_reply reply e).exchange) t

module _ (shared : Bool) (s : State) (kept : Kept s) (n : ℕ) (x : Stream) (known : at n s.streams ≡ Some x) (is : of_exchanges x ≡ true) (seen : Sees) (entry : Option Entry) (result : Answer Stepped) (task : Task) (polls : Polls shared seen x.task entry result task) where
  shut_on : ShutAddsNothing → is_shut x.task.session.state ≡ true → is_shut task.session.state ≡ true
  shut_on law shut = (law shared seen x.task entry result task shut polls).1

  abbrev then : State
  then = with_entry entry s

  abbrev next : Stream
  next = with_task task x

  -- the stream has become another, and the exchange may be answered
  poll_puts : (y : Stream) → Keeps x y → (new : State) → new.conns ≡ s.conns → new.streams ≡ put n y s.streams → new.opened ≡ s.opened → (new.exchanges ≡ s.exchanges) ⊎ ((c : ℕ) × (new.exchanges ≡ without c s.exchanges)) → Touches shared s n new
  poll_puts y keeps new cs ss o (inl same) = put_touches shared s kept n x s (stands_known s kept n x known is) y keeps new cs ss o
      (subst (λ es. Brings n s.exchanges es) (sym same) (brings_same n s.exchanges kept.exchanges_rise)) (omega (arith, ap (λ es. length es) same, kept.few))
  poll_puts y keeps new cs ss o (inr fewer) = put_touches shared s kept n x s (stands_known s kept n x known is) y keeps new cs ss o
      (subst (λ es. Brings n s.exchanges es) (sym fewer.1) (brings_without n fewer.0 s.exchanges kept.exchanges_rise)) (omega (arith, ap (λ es. length es) fewer.1, length_without fewer.0 s.exchanges, kept.few))

  concludes_touches : (over : Bool) (e : Runs) → Touches shared s n (concludes over n next e then).state
  concludes_touches true e = without_touches shared s kept n (known_given s kept n x known) (subst IsSession (sym known) is) _ refl refl refl e.conn refl
  concludes_touches false e = poll_puts _ (record { session = refl; idle = λ i. ap later_ids i; shut = shut_on }) _ refl refl refl (inr (e.conn, refl))

  proceeds_touches : (over : Bool) (e : Runs) → Touches shared s n (proceeds_if over n next e then).state
  proceeds_touches true e = concludes_touches (is_shut task.session.state) e
  proceeds_touches false e = poll_puts _ (record { session = refl; idle = λ i. i; shut = shut_on }) _ refl refl refl (inl refl)

  replies_touch : (o : Option Reply) (e : Runs) → Touches shared s n (replies_to o n next e then).state
  replies_touch None e = poll_puts next (record { session = is; idle = λ i. i; shut = shut_on }) _ refl refl refl (inl refl)
  replies_touch (Some reply) e = proceeds_touches (is_over (with_reply reply e).exchange) (with_reply reply e)

  gives_up_touches : (e : Runs) → Touches shared s n (gives_up n next e then)
  gives_up_touches e = poll_puts _ (record { session = refl; idle = λ i. refl; shut = shut_on }) _ refl refl refl (inr (e.conn, refl))

pub session_polled_touches : (shared : Bool) (s : State) (n : ℕ) (x : Stream) (e : Runs) (added : List Entry) (out : Outs) (new : State) → at n s.streams ≡ Some x → of_exchanges x ≡ true → SessionPolled shared s n x e added out new → Kept s → Touches shared s n new
session_polled_touches shared s n x e added out new known is p kept = subst (Touches shared s n) (sym p.left) (replies_touch shared s kept n x known is (seen_of p.by s) p.entry p.result p.task p.polls (reply_in p.result) e)

pub session_fell_touches : (shared : Bool) (s : State) (n : ℕ) (x : Stream) (e : Runs) (added : List Entry) (out : Outs) (new : State) → at n s.streams ≡ Some x → of_exchanges x ≡ true → SessionFell shared s n x e added out new → Kept s → Touches shared s n new
session_fell_touches shared s n x e added out new known is p kept = subst (Touches shared s n) (sym p.left) (gives_up_touches shared s kept n x known is (seen_of p.by s) p.entry p.result p.task p.polls e)

-- what the poll gave is told, and all else is as the entry left it
pub session_polled_silent : (shared : Bool) (s : State) (n : ℕ) (x : Stream) (e : Runs) (added : List Entry) (out : Outs) (new : State) (p : SessionPolled shared s n x e added out new) → Silent (with_entry p.entry s) (record { given = out; state = new })
session_polled_silent shared s n x e added out new p =
    let h = replies_silent (reply_in p.result) n (with_task p.task x) e (with_entry p.entry s) in
    record { next = ap (λ (t : State). t.next) p.left ∙ h.next; opened = ap (λ (t : State). t.opened) p.left ∙ h.opened; texts = ap (λ (o : Outs). text_in o.out) p.given ∙ h.texts }

-- ---- an exchange that is lost

of_session : (s : State) (n : ℕ) → OfSession s.opened s.streams n → IsSession (at n s.streams)
of_session s n h = by (at n s.streams) refl
  where
    by : (o : Option Stream) → at n s.streams ≡ o → IsSession o
    by None e = tt
    by (Some x) e = h.session x e

pub lost_touches : (shared : Bool) (s : State) (c n : ℕ) → at c s.exchanges ≡ Some n → Kept s → Touches shared s n (without_lost c n s)
lost_touches shared s c n runs kept = (let h = kept.exchange c n runs in without_touches shared s kept n h.given (of_session s n h) (without_lost c n s) refl refl refl c refl)

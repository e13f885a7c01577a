-- Each request that waits on a stream of a connection has the one id that its reply is given to.
use Rattle.std.proofs.Common.{◌≡◌, ◌≢◌, ◌+◌, ◌-◌, ◌&&◌, ◌||◌, ℕ, ℤ, Bool, true, false, not, nat_le, List, [], ◌∷◌, length, Option, None, Some, refl, sym, ap, ◌∙◌, subst, arith, inl, inr}
use Rattle.std.proofs.lemmas.Bool.{true≢false, and_parts}
use Rattle.std.proofs.lemmas.List.{length_push}
use Rattle.stream_requests.specs.declared.asks.Ask.{Ask}
use Rattle.http_wire.specs.declared.outs.Outs.{Outs}
use Rattle.engine_core.specs.Draws.{Draw}
use Rattle.engine_core.specs.declared.entries.Entry.{Entry}
use Rattle.stream_task.specs.Doing.{work_of}
use Rattle.stream_task.specs.Polls.{Task, Polls, PollsAsks, is_waiting}
use Rattle.stream_task.specs.Table.{Seen as Sees}
use Rattle.stream_task.specs.declared.task.Poll.{Poll}
use Rattle.stream_task.specs.declared.task.Poll.TheVariants.{Ready}
use Rattle.stream_task.specs.declared.task.Stepped.{Stepped}
use Rattle.stream_task.specs.declared.task.Stepped.TheVariants as stepped
use Rattle.stream_task.specs.declared.work.Work.{Work}
use Rattle.hrana_hub.specs.declared.events.Event.{Event}
use Rattle.hrana_hub.specs.Maps.{Numbered, at}
use Rattle.hrana_hub.specs.State.{Stream, State, of_exchanges}
use Rattle.hrana_hub.specs.Arrivals.{fresh, waiting}
use Rattle.hrana_hub.specs.Polled.{reply_in, is_over, still_wait, later_ids, first_id, polled, streams_left, dropped}
use Rattle.hrana_hub.specs.Moments.{is_begun, is_due, after}
use Rattle.hrana_hub.specs.declared.limits.TheConstants.{EXPIRY_MS}
use Rattle.hrana_hub.specs.Run.{Run, start, more}
use Rattle.hrana_hub.specs.Step.{counted}
use Rattle.hrana_hub.proofs.Answered.{first_paired}
use Rattle.hrana_hub.proofs.Changes.{Change, rests, comes, marks, joins, asks_for, polls, falls, touches, loses, expires, ends, step_changes}
use Rattle.hrana_hub.proofs.Kept.{counted_kept, run_kept, not_session}
use Rattle.hrana_hub.proofs.Left.{left_cases, after_cases, after_same}
use Rattle.hrana_hub.proofs.Standing.{Kept}
use Rattle.hrana_hub.proofs.Listed.{put_cases, placed_cases, without_cases, let_go_cases}
use Rattle.hrana_hub.proofs.MapLemmas.{none_some, Rises}

abbrev pub Pairs : Stream → Type 0
Pairs x = length x.waits ≡ length x.task.asks

abbrev pub EachPairs : Numbered Stream → Type 0
EachPairs streams = (n : ℕ) (x : Stream) → at n streams ≡ Some x → of_exchanges x ≡ false → Pairs x

-- ---- a stream with a request that waits

pub record First (asks : List Work) : Type 0 where
  pub w : Work
  pub rest : List Work
  pub is : asks ≡ w ∷ rest

pub first_of : (asks : List Work) → is_waiting asks ≡ true → First asks
first_of [] e = absurd (true≢false (sym e))
first_of (w ∷ rest) e = record { w = w; rest = rest; is = refl }

-- so it has a first id
pub first_waits : (ids : List ℤ) (asks : List Work) → is_waiting asks ≡ true → length ids ≡ length asks → ids ≡ first_id ids ∷ later_ids ids
first_waits [] [] e p = absurd (true≢false (sym e))
first_waits [] (w ∷ rest) e p = absurd (omega (arith, p))
first_waits (id ∷ ids) asks e p = refl

later_length : (ids : List ℤ) (n : ℕ) → length ids ≡ n + 1 → length (later_ids ids) ≡ n
later_length [] n e = absurd (omega (arith, e))
later_length (id ∷ ids) n e = omega (arith, e)

-- after a poll that found memory
pub still_paired : (shared : Bool) (seen : Sees) (old : Task) (added : Option Entry) (result : Poll Stepped) (new : Task) (ids : List ℤ) → is_waiting old.asks ≡ true → Polls shared seen old added result new → result ≢ Ready stepped.Broke
    → length ids ≡ length old.asks → length (still_wait (reply_in result) ids) ≡ length new.asks
still_paired shared seen old added result new ids waits p found e =
    let f = first_of old.asks waits in
    let long : length ids ≡ length f.rest + 1 = e ∙ ap (λ ws. length ws) f.is ∙ omega arith in
    first_paired shared seen old f.w f.rest added result new ids (subst (λ asks. PollsAsks shared seen old asks added result new) f.is p) found long (later_length ids (length f.rest) long)

paired_more : (x : Stream) (id : ℤ) (what : Ask) (w : Work) → work_of what ≡ Some w → Pairs x → Pairs (waiting id what x)
paired_more x id what w e h = rw e (omega (arith, length_push x.waits id, length_push x.task.asks w, h))

-- a stream that expires has no request
idle_length : (asks : List Work) → is_waiting asks ≡ false → length asks ≡ 0
idle_length [] e = refl
idle_length (w ∷ asks) e = absurd (true≢false e)

pub due_idle : (moment : ℕ) (x : Stream) → is_due moment x ≡ true → is_waiting x.task.asks ≡ false
due_idle moment x due =
    let held = of_exchanges x || is_begun x.task.session.state in
    let parts = and_parts (held && not (is_waiting x.task.asks)) (nat_le EXPIRY_MS (moment - x.last_answer)) due in
    by (is_waiting x.task.asks) (and_parts held (not (is_waiting x.task.asks)) parts.0).1
  where
    by : (b : Bool) → not b ≡ true → b ≡ false
    by true e = absurd (true≢false (sym e))
    by false e = refl

abbrev PairsIf : Option Stream → Type 0
PairsIf None = Unit {0}
PairsIf (Some x) = Pairs x

after_paired : (moment : ℕ) (x z : Stream) → after moment x ≡ Some z → Pairs x → Pairs z
after_paired moment x z e h = subst PairsIf e (after_cases PairsIf moment x (λ due. h) (λ due own. h ∙ idle_length x.task.asks (due_idle moment x due)) (λ due own. tt))

-- ---- every step

polls_paired : (shared : Bool) (s : State) (n : ℕ) (x : Stream) (task : Task) (entry : Option Entry) (result : Poll Stepped) (over : Bool) (seen : Sees) → Rises s.streams → EachPairs s.streams → at n s.streams ≡ Some x → of_exchanges x ≡ false → is_waiting x.task.asks ≡ true
    → Polls shared seen x.task entry result task → result ≢ Ready stepped.Broke → EachPairs (streams_left over n (polled s.now (reply_in result) task x) s.streams)
polls_paired shared s n x task entry result true seen r h known own waits p found m z e free = h m z (without_cases n m z s.streams r e).1 free
polls_paired shared s n x task entry result false seen r h known own waits p found m z e free = elim (put_cases n m x (polled s.now (reply_in result) task x) z s.streams known e) [
  | inl mine ↦ subst Pairs (sym mine.1) (still_paired shared seen x.task entry result task x.waits waits p found (h n x known own))
  | inr other ↦ h m z other.1 free
]

pub change_paired : {event : Event} (shared : Bool) (s : State) (added : List Entry) (out : Outs) (new : State) → Kept s → EachPairs s.streams → Change shared s added out new event → EachPairs new.streams
change_paired shared s added out new k h (rests event none silent left) = subst (λ (t : State). EachPairs t.streams) (sym left) h
change_paired shared s added out new k h (comes c closing none unknown few left) = subst (λ (t : State). EachPairs t.streams) (sym left) h
change_paired shared s added out new k h (marks event c l l' none silent heard marked left) = subst (λ (t : State). EachPairs t.streams) (sym left) h
change_paired shared s added out new k h (joins c text l id none heard unnamed few left) = subst (λ (t : State). EachPairs t.streams) (sym left) (λ n x e free. elim (placed_cases (s.opened + 1) n (fresh s.now c (s.opened + 1)) x s.streams e) [
  | inl own ↦ subst Pairs (sym own.1) refl
  | inr other ↦ h n x other.1 free
])
change_paired shared s added out new k h (asks_for c text l stream n x id what w none heard few named known served left) = subst (λ (t : State). EachPairs t.streams) (sym left) (λ m z e free. elim (put_cases n m x (waiting id what x) z s.streams known e) [
  | inl own ↦ subst Pairs (sym own.1) (paired_more x id what w served (h n x known (ap of_exchanges (sym own.1) ∙ free)))
  | inr other ↦ h m z other.1 free
])
change_paired shared s added out new k h (polls stream x l known own waits heard p) = subst (λ (t : State). EachPairs t.streams) (sym p.left) (polls_paired shared s stream.0 x p.task p.entry p.result (is_over (reply_in p.result) p.task) _ k.streams_rise h known own waits p.polls p.found)
change_paired shared s added out new k h (falls stream x l known own heard p) = subst (λ (t : State). EachPairs t.streams) (sym p.left) (λ m z e free. elim (put_cases stream.0 m x (dropped p.task x) z s.streams known e) [
  | inl mine ↦ subst Pairs (sym mine.1) refl
  | inr other ↦ h m z other.1 free
])
change_paired shared s added out new k h (touches event n adds silent opened touch) = (let turned = (touch k).streams in λ m z e free. h m z (sym (turned.others m (λ same. not_session (at n new.streams) z turned.now (ap (λ j. at j new.streams) (sym same) ∙ e) free)) ∙ e) free)
change_paired shared s added out new k h (loses c l known ended left) = subst (λ (t : State). EachPairs t.streams) (sym left) (λ n x e free. h n x (let_go_cases l.streams n x s.streams k.streams_rise e).1 free)
change_paired shared s added out new k h (expires moment ended left) = subst (λ (t : State). EachPairs t.streams) (sym left) (λ n z e free.
    let was = left_cases (after moment) n z s.streams k.streams_rise e in
    after_paired moment was.0 z was.2 (h n was.0 was.1 (sym (after_same moment was.0 z was.2).exchanges ∙ free)))
change_paired shared s added out new k h (ends ended left) = subst (λ (t : State). EachPairs t.streams) (sym left) (λ n x e free. absurd (none_some e))

pub run_paired : {token : Option (List ℕ)} {shared : Bool} {events : List Event} {drawn : List (List Draw)} {entries : List (List Entry)} {outs : List Outs} {s : State} → Run token shared events drawn entries outs s → EachPairs s.streams
run_paired start = λ n x e free. absurd (none_some e)
run_paired {token} {shared} (more {s = before} run event draws added out new fit step) = change_paired shared (counted before) added out new (counted_kept before (run_kept run)) (run_paired run) (step_changes token shared before event draws added out new fit step)

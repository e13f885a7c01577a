-- What is gone or dead stays so, and adds no entry.
use Rattle.std.proofs.Common.{◌≡◌, ◌≤◌, ◌+◌, ℕ, ℤ, Bool, true, false, cond, List, [], ◌∷◌, All, Option, None, Some, option_to_list, refl, sym, ap, ◌∙◌, subst, arith, inl, inr}
use Rattle.std.proofs.lemmas.Bool.{cases_eq}
use Rattle.std.proofs.lemmas.List.Elements.{All-nil, All-append, All-cons}
use Rattle.stream_requests.specs.declared.asks.Ask.{Ask}
use Rattle.http_wire.specs.declared.outs.Outs.{Outs}
use Rattle.engine_core.specs.Draws.{Draw}
use Rattle.engine_core.specs.declared.entries.Entry.{Entry}
use Rattle.engine_core.specs.declared.entries.Undo.{Undo}
use Rattle.engine_core.specs.declared.entries.Undo.TheVariants as undo
use Rattle.stream_task.specs.Adds.{undone_of}
use Rattle.stream_task.specs.Laws.{ShutAddsNothing}
use Rattle.stream_task.specs.Polls.{Task, Polls}
use Rattle.stream_task.specs.Table.{Seen as Sees}
use Rattle.stream_task.specs.declared.session.TxnState.{TxnState}
use Rattle.stream_task.specs.declared.session.TxnState.TheVariants.{Auto, Deferred, Reading, Writing, Dead, Closed}
use Rattle.stream_task.specs.declared.task.Poll.{Poll as Answer}
use Rattle.stream_task.specs.declared.task.Stepped.{Stepped}
use Rattle.hrana_hub.specs.declared.events.Event.{Event}
use Rattle.hrana_hub.specs.declared.events.Event.TheVariants.{Opened, Text, Binary, Exchange, Lost, Moment, Poll, Stop}
use Rattle.hrana_hub.specs.Maps.{Numbered, at, put, placed, without, those_left}
use Rattle.hrana_hub.specs.State.{Stream, State}
use Rattle.hrana_hub.specs.Arrivals.{fresh, waiting}
use Rattle.hrana_hub.specs.Polled.{reply_in, is_over, polled, streams_left, dropped}
use Rattle.hrana_hub.specs.Ended.{end_of, ends_of, all_ends, let_go}
use Rattle.hrana_hub.specs.Moments.{is_due, expired, after, expiries}
use Rattle.hrana_hub.specs.Run.{RunFrom, start, more}
use Rattle.hrana_hub.specs.Step.{counted}
use Rattle.hrana_hub.specs.Laws.{IsUndone, is_dead, MayAdd, DeadAddNothing}
use Rattle.hrana_hub.proofs.Changes.{Change, rests, comes, marks, joins, asks_for, polls, falls, touches, loses, expires, ends, step_changes}
use Rattle.hrana_hub.proofs.EntryLemmas.{at_put, at_put_other, at_without, at_without_other, rising_without}
use Rattle.hrana_hub.proofs.Left.{become, at_left, after_cases}
use Rattle.hrana_hub.proofs.Kept.{counted_kept, from_kept, run_kept}
use Rattle.hrana_hub.proofs.Standing.{Kept}
use Rattle.hrana_hub.proofs.Touching.{Adding, arrives, polled as polls_session, lost, Touches}
use Rattle.hrana_hub.proofs.MapLemmas.{none_some, at_placed_other, Rises}

-- ---- what a stream has until it is gone, and its number then

record Lasts (shared : Bool) (P : Option Stream → Type 0) : Type 0 where
  none : P None
  asked : (x : Stream) (id : ℤ) (what : Ask) → P (Some x) → P (Some (waiting id what x))
  told : (now : ℕ) (seen : Sees) (x : Stream) (added : Option Entry) (result : Answer Stepped) (task : Task) → Polls shared seen x.task added result task → P (Some x) → P (Some (polled now (reply_in result) task x))
  fell : (seen : Sees) (x : Stream) (added : Option Entry) (result : Answer Stepped) (task : Task) → Polls shared seen x.task added result task → P (Some x) → P (Some (dropped task x))
  dies : (x : Stream) → P (Some x) → P (Some (expired x))
  touched : (s : State) (n : ℕ) (new : State) → Touches shared s n new → n ≤ s.opened → P (at n s.streams) → P (at n new.streams)

module _ (shared : Bool) (P : Option Stream → Type 0) (lasts : Lasts shared P) (n : ℕ) where
  put_lasts : (m : ℕ) (x y : Stream) (es : Numbered Stream) → at m es ≡ Some x → (P (Some x) → P (Some y)) → P (at n es) → P (at n (put m y es))
  put_lasts m x y es there keeps h = elim (cases_eq n m) [
    | inl same ↦ subst P (sym (ap (λ j. at j (put m y es)) same ∙ at_put m x y es there)) (keeps (subst P (ap (λ j. at j es) same ∙ there) h))
    | inr other ↦ subst P (sym (at_put_other m n x y es there other)) h
  ]

  without_lasts : (m : ℕ) (es : Numbered Stream) → Rises es → P (at n es) → P (at n (without m es))
  without_lasts m es r h = elim (cases_eq n m) [
    | inl same ↦ subst P (sym (ap (λ j. at j (without m es)) same ∙ at_without m es r)) lasts.none
    | inr other ↦ subst P (sym (at_without_other m n es r other)) h
  ]

  let_go_lasts : (ms : List ℕ) (es : Numbered Stream) → Rises es → P (at n es) → P (at n (let_go ms es))
  let_go_lasts [] es r h = h
  let_go_lasts (m ∷ ms) es r h = let_go_lasts ms (without m es) (rising_without m es r) (without_lasts m es r h)

  left_lasts : (over : Bool) (m : ℕ) (x y : Stream) (es : Numbered Stream) → Rises es → at m es ≡ Some x → (P (Some x) → P (Some y)) → P (at n es) → P (at n (streams_left over m y es))
  left_lasts true m x y es r there keeps h = without_lasts m es r h
  left_lasts false m x y es r there keeps h = put_lasts m x y es there keeps h

  after_lasts : (moment : ℕ) (x : Stream) → P (Some x) → P (after moment x)
  after_lasts moment x h = after_cases P moment x (λ d. h) (λ d o. lasts.dies x h) (λ d o. lasts.none)

  become_lasts : (moment : ℕ) (o : Option Stream) → P o → P (become (after moment) o)
  become_lasts moment None h = h
  become_lasts moment (Some x) h = after_lasts moment x h

  left_over_lasts : (moment : ℕ) (es : Numbered Stream) → Rises es → P (at n es) → P (at n (those_left (after moment) es))
  left_over_lasts moment es r h = subst P (sym (at_left (after moment) n es r)) (become_lasts moment (at n es) h)

  touched_lasts : (m : ℕ) (s new : State) → n ≤ s.opened → Touches shared s m new → P (at n s.streams) → P (at n new.streams)
  touched_lasts m s new l t h = elim (cases_eq n m) [
    | inl same ↦ subst P (ap (λ j. at j new.streams) (sym same)) (lasts.touched s m new t (omega (arith, l, same)) (subst P (ap (λ j. at j s.streams) same) h))
    | inr other ↦ subst P (sym (t.streams.others n other)) h
  ]

  change_lasts : {event : Event} (s : State) (added : List Entry) (out : Outs) (new : State) → Kept s → n ≤ s.opened → P (at n s.streams) → Change shared s added out new event → P (at n new.streams)
  change_lasts s added out new k l h (rests event none silent left) = subst (λ (t : State). P (at n t.streams)) (sym left) h
  change_lasts s added out new k l h (comes c closing none unknown few left) = subst (λ (t : State). P (at n t.streams)) (sym left) h
  change_lasts s added out new k l h (marks event c j j' none silent heard marked left) = subst (λ (t : State). P (at n t.streams)) (sym left) h
  change_lasts s added out new k l h (joins c text j id none heard unnamed few left) =
      let after : at n (placed (s.opened + 1) (fresh s.now c (s.opened + 1)) s.streams) ≡ at n s.streams = at_placed_other (s.opened + 1) n (fresh s.now c (s.opened + 1)) s.streams (λ same. omega (arith, l, same)) in
      subst (λ (t : State). P (at n t.streams)) (sym left) (subst P (sym after) h)
  change_lasts s added out new k l h (asks_for c text j stream m x id what w none heard few named known served left) = subst (λ (t : State). P (at n t.streams)) (sym left) (put_lasts m x (waiting id what x) s.streams known (lasts.asked x id what) h)
  change_lasts s added out new k l h (polls stream x j known own waits heard p) = subst (λ (t : State). P (at n t.streams)) (sym p.left)
      (left_lasts (is_over (reply_in p.result) p.task) stream.0 x (polled s.now (reply_in p.result) p.task x) s.streams k.streams_rise known (lasts.told s.now _ x p.entry p.result p.task p.polls) h)
  change_lasts s added out new k l h (falls stream x j known own heard p) = subst (λ (t : State). P (at n t.streams)) (sym p.left) (put_lasts stream.0 x (dropped p.task x) s.streams known (lasts.fell _ x p.entry p.result p.task p.polls) h)
  change_lasts s added out new k l h (touches event m adds silent opened touch) = touched_lasts m s new l (touch k) h
  change_lasts s added out new k l h (loses c j known ended left) = subst (λ (t : State). P (at n t.streams)) (sym left) (let_go_lasts j.streams s.streams k.streams_rise h)
  change_lasts s added out new k l h (expires moment ended left) = subst (λ (t : State). P (at n t.streams)) (sym left) (left_over_lasts moment s.streams k.streams_rise h)
  change_lasts s added out new k l h (ends ended left) = subst (λ (t : State). P (at n t.streams)) (sym left) lasts.none

-- ---- numbers are given out once

same_opened : (s new : State) → new.opened ≡ s.opened → s.opened ≤ new.opened
same_opened s new e = omega (arith, e)

change_opened : {event : Event} (shared : Bool) (s : State) (added : List Entry) (out : Outs) (new : State) → Change shared s added out new event → s.opened ≤ new.opened
change_opened shared s added out new (rests event none silent left) = same_opened s new (ap (λ (t : State). t.opened) left)
change_opened shared s added out new (comes c closing none unknown few left) = same_opened s new (ap (λ (t : State). t.opened) left)
change_opened shared s added out new (marks event c j j' none silent heard marked left) = same_opened s new (ap (λ (t : State). t.opened) left)
change_opened shared s added out new (joins c text j id none heard unnamed few left) = (let one : new.opened ≡ s.opened + 1 = ap (λ (t : State). t.opened) left in omega (arith, one))
change_opened shared s added out new (asks_for c text j stream m x id what w none heard few named known served left) = same_opened s new (ap (λ (t : State). t.opened) left)
change_opened shared s added out new (polls stream x j known own waits heard p) = same_opened s new (ap (λ (t : State). t.opened) p.left)
change_opened shared s added out new (falls stream x j known own heard p) = same_opened s new (ap (λ (t : State). t.opened) p.left)
change_opened shared s added out new (touches event n adds silent opened touch) = opened
change_opened shared s added out new (loses c j known ended left) = same_opened s new (ap (λ (t : State). t.opened) left)
change_opened shared s added out new (expires moment ended left) = same_opened s new (ap (λ (t : State). t.opened) left)
change_opened shared s added out new (ends ended left) = same_opened s new (ap (λ (t : State). t.opened) left)

from_opened : {token : Option (List ℕ)} {shared : Bool} {first : State} {events : List Event} {drawn : List (List Draw)} {entries : List (List Entry)} {outs : List Outs} {s : State} → RunFrom token shared first events drawn entries outs s → first.opened ≤ s.opened
from_opened start = omega arith
from_opened {token} {shared} (more {s = before} run event draws added out new fit step) =
    let one : before.opened ≤ new.opened = change_opened shared (counted before) added out new (step_changes token shared before event draws added out new fit step) in
    omega (arith, from_opened run, one)

from_lasts : {token : Option (List ℕ)} {shared : Bool} {first : State} {events : List Event} {drawn : List (List Draw)} {entries : List (List Entry)} {outs : List Outs} {s : State} (P : Option Stream → Type 0) → Lasts shared P → (n : ℕ) → Kept first → n ≤ first.opened → P (at n first.streams)
    → RunFrom token shared first events drawn entries outs s → P (at n s.streams)
from_lasts P lasts n k l h start = h
from_lasts {token} {shared} P lasts n k l h (more {s = before} run event draws added out new fit step) =
    change_lasts shared P lasts n (counted before) added out new (counted_kept before (from_kept k run)) (omega (arith, l, from_opened run)) (from_lasts P lasts n k l h run) (step_changes token shared before event draws added out new fit step)

-- ---- what is gone, and what is dead

gone_lasts : (shared : Bool) → Lasts shared (λ o. o ≡ None)
gone_lasts shared = record {
  none = refl;
  asked = λ x id what e. absurd (none_some (sym e));
  told = λ now seen x added result task p e. absurd (none_some (sym e));
  fell = λ seen x added result task p e. absurd (none_some (sym e));
  dies = λ x e. absurd (none_some (sym e));
  touched = λ s n new t l e. t.gone l e;
}

dead_lasts : ShutAddsNothing → (shared : Bool) → Lasts shared (λ o. is_dead o ≡ true)
dead_lasts law shared = record {
  none = refl;
  asked = λ x id what e. e;
  told = λ now seen x added result task p e. (law shared seen x.task added result task e p).1;
  fell = λ seen x added result task p e. (law shared seen x.task added result task e p).1;
  dies = λ x e. refl;
  touched = λ s n new t l e. t.dead law l e;
}

-- ---- what events add

undone_ends : (why : Undo) (state : TxnState) → All IsUndone (option_to_list (undone_of why state))
undone_ends why (Reading unit had) = All-cons IsUndone _ [] tt (All-nil IsUndone)
undone_ends why (Writing unit) = All-cons IsUndone _ [] tt (All-nil IsUndone)
undone_ends why Auto = All-nil IsUndone
undone_ends why Deferred = All-nil IsUndone
undone_ends why (Dead cause) = All-nil IsUndone
undone_ends why Closed = All-nil IsUndone

end_undone : (why : Undo) (o : Option Stream) → All IsUndone (end_of why o)
end_undone why None = All-nil IsUndone
end_undone why (Some x) = undone_ends why x.task.session.state

ends_undone : (why : Undo) (ns : List ℕ) (es : Numbered Stream) → All IsUndone (ends_of why ns es)
ends_undone why [] es = All-nil IsUndone
ends_undone why (n ∷ ns) es = All-append IsUndone _ _ (end_undone why (at n es)) (ends_undone why ns (without n es))

all_undone : (why : Undo) (es : Numbered Stream) → All IsUndone (all_ends why es)
all_undone why [] = All-nil IsUndone
all_undone why (e ∷ es) = All-append IsUndone _ _ (end_undone why (Some e.1)) (all_undone why es)

expiries_undone : (moment : ℕ) (es : Numbered Stream) → All IsUndone (expiries moment es)
expiries_undone moment [] = All-nil IsUndone
expiries_undone moment (e ∷ es) = All-append IsUndone _ _ (by (is_due moment e.1)) (expiries_undone moment es)
  where
    by : (b : Bool) → All IsUndone (cond b (end_of undo.Expired (Some e.1)) [])
    by true = end_undone undo.Expired (Some e.1)
    by false = All-nil IsUndone

none_adds : (s : State) (event : Event) (added : List Entry) → added ≡ [] → MayAdd s event added
none_adds s (Poll stream) added e = λ dead. e
none_adds s (Opened c) added e = subst (All IsUndone) (sym e) (All-nil IsUndone)
none_adds s (Text c text) added e = subst (All IsUndone) (sym e) (All-nil IsUndone)
none_adds s (Binary c) added e = subst (All IsUndone) (sym e) (All-nil IsUndone)
none_adds s (Exchange c ask) added e = subst (All IsUndone) (sym e) (All-nil IsUndone)
none_adds s (Moment moment) added e = subst (All IsUndone) (sym e) (All-nil IsUndone)
none_adds s (Lost c) added e = subst (All IsUndone) (sym e) (All-nil IsUndone)
none_adds s Stop added e = subst (All IsUndone) (sym e) (All-nil IsUndone)

adding_adds : {event : Event} → ShutAddsNothing → (shared : Bool) (s : State) (n : ℕ) (added : List Entry) (new : State) → Adding shared s n added new event → MayAdd s event added
adding_adds law shared s n added new (arrives c ask none next) = none_adds s (Exchange c ask) added none
adding_adds law shared s n added new (polls_session stream x by entry result task here known p one next) = λ dead. one ∙ ap (λ o. option_to_list o) (law shared _ x.task entry result task (sym (ap is_dead known) ∙ dead) p).0
adding_adds law shared s n added new (lost c ended next) = subst (All IsUndone) (sym ended) (end_undone undo.Lost (at n s.streams))

change_adds : {event : Event} → ShutAddsNothing → (shared : Bool) (s : State) (added : List Entry) (out : Outs) (new : State) → Change shared s added out new event → MayAdd s event added
change_adds law shared s added out new (rests event none silent left) = none_adds s event added none
change_adds law shared s added out new (comes c closing none unknown few left) = none_adds s (Opened c) added none
change_adds law shared s added out new (marks event c j j' none silent heard marked left) = none_adds s event added none
change_adds law shared s added out new (joins c text j id none heard unnamed few left) = none_adds s (Text c text) added none
change_adds law shared s added out new (asks_for c text j stream m x id what w none heard few named known served left) = none_adds s (Text c text) added none
change_adds law shared s added out new (polls stream x j known own waits heard p) = λ dead. p.one ∙ ap (λ o. option_to_list o) (law shared _ x.task p.entry p.result p.task (sym (ap is_dead known) ∙ dead) p.polls).0
change_adds law shared s added out new (falls stream x j known own heard p) = λ dead. p.one ∙ ap (λ o. option_to_list o) (law shared _ x.task p.entry p.result p.task (sym (ap is_dead known) ∙ dead) p.polls).0
change_adds law shared s added out new (touches event n adds silent opened touch) = adding_adds law shared s n added new adds
change_adds law shared s added out new (loses c j known ended left) = subst (All IsUndone) (sym ended) (ends_undone undo.Lost j.streams s.streams)
change_adds law shared s added out new (expires moment ended left) = subst (All IsUndone) (sym ended) (expiries_undone moment s.streams)
change_adds law shared s added out new (ends ended left) = subst (All IsUndone) (sym ended) (all_undone undo.Stop s.streams)

step_adds : ShutAddsNothing → (token : Option (List ℕ)) (shared : Bool) (s : State) (event : Event) (added : List Entry) (out : Outs) (new : State) → Change shared (counted s) added out new event → MayAdd s event added
step_adds law token shared s (Opened c) added out new change = change_adds law shared (counted s) added out new change
step_adds law token shared s (Text c text) added out new change = change_adds law shared (counted s) added out new change
step_adds law token shared s (Binary c) added out new change = change_adds law shared (counted s) added out new change
step_adds law token shared s (Exchange c ask) added out new change = change_adds law shared (counted s) added out new change
step_adds law token shared s (Moment moment) added out new change = change_adds law shared (counted s) added out new change
step_adds law token shared s (Lost c) added out new change = change_adds law shared (counted s) added out new change
step_adds law token shared s (Poll stream) added out new change = change_adds law shared (counted s) added out new change
step_adds law token shared s Stop added out new change = change_adds law shared (counted s) added out new change

pub dead_add_nothing : ShutAddsNothing → DeadAddNothing
dead_add_nothing law token shared events drawn entries outs s run = record {
  gone = λ more_events more_drawn more_entries more_outs new later n l e. from_lasts (λ o. o ≡ None) (gone_lasts shared) n (run_kept run) l e later;
  dead = λ more_events more_drawn more_entries more_outs new later n l e. from_lasts (λ o. is_dead o ≡ true) (dead_lasts law shared) n (run_kept run) l e later;
  adds = λ event draws added out new fit step. step_adds law token shared s event added out new (step_changes token shared s event draws added out new fit step);
}

-- Each unit of a run began at one version: a unit that begins has the next number, and numbers rise.
use Rattle.std.proofs.Common.{◌≡◌, ◌≤◌, ◌<◌, ◌+◌, ℕ, Bool, true, false, cond, nat_lt, List, [], ◌∷◌, All, Option, None, Some, option_to_list, refl, sym, ap, ◌∙◌, subst, arith, lt-ltb}
use Rattle.std.proofs.lemmas.Bool.{ltb-true}
use Rattle.std.proofs.lemmas.List.Elements.{All-nil, All-cons, All-append}
use Rattle.http_wire.specs.declared.outs.Outs.{Outs}
use Rattle.engine_core.specs.Draws.{Draw}
use Rattle.engine_core.specs.declared.entries.Entry.{Entry}
use Rattle.engine_core.specs.declared.entries.Entry.TheVariants as entry
use Rattle.engine_core.specs.declared.entries.Undo.{Undo}
use Rattle.engine_core.specs.declared.entries.Undo.TheVariants as undo
use Rattle.stream_task.specs.Adds.{undone_of, next_by}
use Rattle.stream_task.specs.Laws.{IsNext, BegunAreNext}
use Rattle.stream_task.specs.Table.{Seen as Sees}
use Rattle.stream_task.specs.declared.session.TxnState.{TxnState}
use Rattle.stream_task.specs.declared.session.TxnState.TheVariants.{Reading, Writing}
use Rattle.hrana_hub.specs.declared.events.Event.{Event}
use Rattle.hrana_hub.specs.Maps.{Numbered, at, without}
use Rattle.hrana_hub.specs.State.{Stream, State}
use Rattle.hrana_hub.specs.Ended.{end_of, ends_of, all_ends}
use Rattle.hrana_hub.specs.Moments.{is_due, expiries}
use Rattle.hrana_hub.specs.Polled.{seen_of}
use Rattle.hrana_hub.specs.Run.{RunFrom, start, more}
use Rattle.hrana_hub.specs.Step.{counted}
use Rattle.hrana_hub.specs.Stories.{BeganAt, AreVersions}
use Rattle.hrana_hub.specs.Versions.{HasVersions, RunsHaveVersions}
use Rattle.hrana_hub.proofs.Touching.{Adding, arrives, polled, lost}
use Rattle.hrana_hub.proofs.Changes.{Change, rests, comes, marks, joins, asks_for, polls, falls, touches, loses, expires, ends, step_changes}

-- ---- the units that an event begins

-- a unit that begins has this number, which is below that of the next one
abbrev pub BeginsAt : ℕ → ℕ → Entry → Type 0
BeginsAt number next (entry.Began unit by) = (unit ≡ number) × (unit < next)
BeginsAt number next e = Unit {0}

pub record Begins (s : State) (added : List Entry) (new : State) : Type 0 where
  pub rises : s.next ≤ new.next
  pub units : All (BeginsAt s.next new.next) added

begins_none : (s : State) (added : List Entry) (new : State) → added ≡ [] → new.next ≡ s.next → Begins s added new
begins_none s added new none same = record { rises = omega (arith, same); units = subst (All (BeginsAt s.next new.next)) (sym none) (All-nil (BeginsAt s.next new.next)) }

one_begins : (by : Sees) (e : Option Entry) → IsNext by e → All (BeginsAt by.next (next_by by.next e)) (option_to_list e)
one_begins by None h = All-nil (BeginsAt by.next by.next)
one_begins by (Some (entry.Began unit stream)) h = (let below : unit < by.next + 1 = omega (arith, h) in All-cons (BeginsAt by.next (by.next + 1)) (entry.Began unit stream) [] (h, below) (All-nil (BeginsAt by.next (by.next + 1))))
one_begins by (Some e) h = All-cons (BeginsAt by.next by.next) e [] tt (All-nil (BeginsAt by.next by.next))

next_rises : (next : ℕ) (e : Option Entry) → next ≤ next_by next e
next_rises next None = omega arith
next_rises next (Some (entry.Began unit stream)) = omega arith
next_rises next (Some e) = omega arith

-- the entry of a poll
poll_begins : (s : State) (by : Sees) (e : Option Entry) (added : List Entry) (new : State) → by.next ≡ s.next → added ≡ option_to_list e → new.next ≡ next_by s.next e → IsNext by e → Begins s added new
poll_begins s by e added new i one left h = record {
  rises = omega (arith, next_rises s.next e, left);
  units = subst (All (BeginsAt s.next new.next)) (sym one) (subst (λ n. All (BeginsAt s.next n) (option_to_list e)) (sym left) (subst (λ n. All (BeginsAt n (next_by n e)) (option_to_list e)) i (one_begins by e h)));
}

-- ---- ends begin none

module _ (number next : ℕ) where
  undone_begins : (why : Undo) (state : TxnState) → All (BeginsAt number next) (option_to_list (undone_of why state))
  undone_begins why (Reading unit had) = All-cons (BeginsAt number next) _ [] tt (All-nil (BeginsAt number next))
  undone_begins why (Writing unit) = All-cons (BeginsAt number next) _ [] tt (All-nil (BeginsAt number next))
  undone_begins why state = All-nil (BeginsAt number next)

  end_begins : (why : Undo) (o : Option Stream) → All (BeginsAt number next) (end_of why o)
  end_begins why None = All-nil (BeginsAt number next)
  end_begins why (Some x) = undone_begins why x.task.session.state

  due_begins : (moment : ℕ) (x : Stream) (due : Bool) → All (BeginsAt number next) (cond due (end_of undo.Expired (Some x)) [])
  due_begins moment x true = end_begins undo.Expired (Some x)
  due_begins moment x false = All-nil (BeginsAt number next)

  ends_begin : (why : Undo) (ns : List ℕ) (es : Numbered Stream) → All (BeginsAt number next) (ends_of why ns es)
  ends_begin why [] es = All-nil (BeginsAt number next)
  ends_begin why (n ∷ ns) es = All-append (BeginsAt number next) _ _ (end_begins why (at n es)) (ends_begin why ns (without n es))

  all_begin : (why : Undo) (es : Numbered Stream) → All (BeginsAt number next) (all_ends why es)
  all_begin why [] = All-nil (BeginsAt number next)
  all_begin why (e ∷ es) = All-append (BeginsAt number next) _ _ (end_begins why (Some e.1)) (all_begin why es)

  expiries_begin : (moment : ℕ) (es : Numbered Stream) → All (BeginsAt number next) (expiries moment es)
  expiries_begin moment [] = All-nil (BeginsAt number next)
  expiries_begin moment (e ∷ es) = All-append (BeginsAt number next) _ _ (due_begins moment e.1 (is_due moment e.1)) (expiries_begin moment es)

begins_ends : (s : State) (added ended : List Entry) (new : State) → added ≡ ended → new.next ≡ s.next → All (BeginsAt s.next new.next) ended → Begins s added new
begins_ends s added ended new is same h = record { rises = omega (arith, same); units = subst (All (BeginsAt s.next new.next)) (sym is) h }

-- ---- exchanges

adding_begins : {event : Event} → BegunAreNext → (shared : Bool) (s : State) (n : ℕ) (added : List Entry) (new : State) → Adding shared s n added new event → Begins s added new
adding_begins law shared s n added new (arrives c ask none next) = begins_none s added new none next
adding_begins law shared s n added new (polled stream x by entry result task here known p one next) = poll_begins s (seen_of by s) entry added new refl one next (law shared (seen_of by s) x.task entry result task p)
adding_begins law shared s n added new (lost c ended next) = begins_ends s added _ new ended next (end_begins s.next new.next undo.Lost (at n s.streams))

-- ---- every step

pub change_begins : {event : Event} → BegunAreNext → (shared : Bool) (s : State) (added : List Entry) (out : Outs) (new : State) → Change shared s added out new event → Begins s added new
change_begins law shared s added out new (rests event none silent left) = begins_none s added new none (ap (λ (t : State). t.next) left)
change_begins law shared s added out new (comes c closing none unknown few left) = begins_none s added new none (ap (λ (t : State). t.next) left)
change_begins law shared s added out new (marks event c k k' none silent heard marked left) = begins_none s added new none (ap (λ (t : State). t.next) left)
change_begins law shared s added out new (joins c text k id none heard unnamed few left) = begins_none s added new none (ap (λ (t : State). t.next) left)
change_begins law shared s added out new (asks_for c text k stream n x id what w none heard few named known served left) = begins_none s added new none (ap (λ (t : State). t.next) left)
change_begins law shared s added out new (polls stream x k known own waits heard p) = poll_begins s (seen_of p.by s) p.entry added new refl p.one (ap (λ (t : State). t.next) p.left) (law shared (seen_of p.by s) x.task p.entry p.result p.task p.polls)
change_begins law shared s added out new (falls stream x k known own heard p) = poll_begins s (seen_of p.by s) p.entry added new refl p.one (ap (λ (t : State). t.next) p.left) (law shared (seen_of p.by s) x.task p.entry p.result p.task p.polls)
change_begins law shared s added out new (touches event n adds silent opened touch) = adding_begins law shared s n added new adds
change_begins law shared s added out new (loses c k known ended left) = begins_ends s added _ new ended (ap (λ (t : State). t.next) left) (ends_begin s.next new.next undo.Lost k.streams s.streams)
change_begins law shared s added out new (expires moment ended left) = begins_ends s added _ new ended (ap (λ (t : State). t.next) left) (expiries_begin s.next new.next moment s.streams)
change_begins law shared s added out new (ends ended left) = begins_ends s added _ new ended (ap (λ (t : State). t.next) left) (all_begin s.next new.next undo.Stop s.streams)

-- ---- what the versions of other units are makes no odds

-- these give each unit below this number one version
abbrev Agree : ℕ → (ℕ → ℕ) → (ℕ → ℕ) → Type 0
Agree next h g = (unit : ℕ) → unit < next → h unit ≡ g unit

agrees_at : (h g : ℕ → ℕ) (number next version : ℕ) (e : Entry) → Agree next h g → BeginsAt number next e → BeganAt h version e → BeganAt g version e
agrees_at h g number next version (entry.Began unit by) same b v = sym (same unit b.1) ∙ v
agrees_at h g number next version e same b v = tt

agree_on : (h g : ℕ → ℕ) (number next version : ℕ) (es : List Entry) → Agree next h g → All (BeginsAt number next) es → All (BeganAt h version) es → All (BeganAt g version) es
agree_on h g number next version es same b v = λ i d l. agrees_at h g number next version _ same (b i d l) (v i d l)

-- the units below this number began at these versions, and the others at that one
abbrev and_then : ℕ → (ℕ → ℕ) → ℕ → ℕ → ℕ
and_then next had version unit = cond (nat_lt unit next) (had unit) version

below_then : (next : ℕ) (had : ℕ → ℕ) (version : ℕ) → Agree next had (and_then next had version)
below_then next had version unit l = ap (λ b. cond b (had unit) version) (sym (lt-ltb unit next l))

begun_then : (next : ℕ) (had : ℕ → ℕ) (version above : ℕ) (e : Entry) → BeginsAt next above e → BeganAt (and_then next had version) version e
begun_then next had version above (entry.Began unit by) b = by_test (nat_lt unit next) refl
  where
    by_test : (t : Bool) → nat_lt unit next ≡ t → cond t (had unit) version ≡ version
    by_test true f = absurd (let below = ltb-true unit next f in omega (arith, below, b.0))
    by_test false f = refl
begun_then next had version above e b = tt

-- ---- every run

module _ (law : BegunAreNext) where
  -- a step leaves the number of the next unit to its event
  step_begins : (token : Option (List ℕ)) (shared : Bool) (s : State) (added : List Entry) (out : Outs) (new : State) (event : Event) → Change shared (counted s) added out new event → Begins s added new
  step_begins token shared s added out new event change = (let h = change_begins law shared (counted s) added out new change in record { rises = h.rises; units = h.units })

  are_others : {token : Option (List ℕ)} {shared : Bool} {first : State} {events : List Event} {drawn : List (List Draw)} {entries : List (List Entry)} {outs : List Outs} {s : State} (run : RunFrom token shared first events drawn entries outs s) (h g : ℕ → ℕ) → Agree s.next h g → AreVersions h run → AreVersions g run
  are_others start h g same are = tt
  are_others {token} {shared} (more {s = before} run event draws added out new fit step) h g same are =
      let b : Begins before added new = step_begins token shared before added out new event (step_changes token shared before event draws added out new fit step) in
      (are_others run h g (λ unit l. same unit (omega (arith, l, b.rises))) are.0, agree_on h g before.next new.next before.version added same b.units are.1)

  versions_of : {token : Option (List ℕ)} {shared : Bool} {first : State} {events : List Event} {drawn : List (List Draw)} {entries : List (List Entry)} {outs : List Outs} {s : State} (run : RunFrom token shared first events drawn entries outs s) → HasVersions run
  versions_of start = record { had = λ unit. 0; are = tt }
  versions_of {token} {shared} (more {s = before} run event draws added out new fit step) =
      let b : Begins before added new = step_begins token shared before added out new event (step_changes token shared before event draws added out new fit step) in
      let h = versions_of run in
      let g : ℕ → ℕ = and_then before.next h.had before.version in
      record {
        had = g;
        are = (are_others run h.had g (below_then before.next h.had before.version) h.are, (λ i d l. begun_then before.next h.had before.version new.next _ (b.units i d l)));
      }

  pub runs_have_versions : RunsHaveVersions
  runs_have_versions token shared first events drawn entries outs s run = versions_of run

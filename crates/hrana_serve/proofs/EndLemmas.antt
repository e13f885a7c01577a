-- What the end of the lines and `Stop` say of the whole run.
use Rattle.std.proofs.Common.{◌≡◌, ℕ, ◌+◌, ◌≤◌, ◌<◌, ◌⊎◌, inl, inr, Bool, true, false, List, [], ◌++◌, Option, subst, sym, refl, ap, ◌∙◌, arith, append-nil, append_assoc}
use Rattle.std.proofs.lemmas.Bool.{lt-ltb}
use Rattle.std.specs.Prelude.{nat_lt}
use Rattle.std.proofs.KnownBytes.{Appends-nil}
use Rattle.engine_core.specs.Causes.{Rose}
use Rattle.engine_core.specs.Draws.{Draw}
use Rattle.engine_core.specs.declared.entries.Entry.{Entry}
use Rattle.engine_core.specs.declared.limits.TheConstants.{MAX_INPUT_BYTES}
use Rattle.engine_core.specs.declared.status.Status.{Status}
use Rattle.engine_core.specs.declared.status.Status.TheVariants as status
use Rattle.http_wire.specs.declared.outs.Outs.{Outs}
use Rattle.hrana_hub.specs.declared.events.Event.TheVariants.{Stop}
use Rattle.hrana_hub.specs.declared.limits.TheConstants.{MAX_EVENTS}
use Rattle.hrana_hub.specs.Arrivals.{nothing}
use Rattle.hrana_hub.specs.Ended.{at_its_end}
use Rattle.hrana_hub.specs.Run.{start}
use Rattle.hrana_hub.specs.State.{State, first_state}
use Rattle.hrana_hub.specs.Step.{Step, fits, counted}
use Rattle.hrana_serve.specs.Outcome.{IsEarly, LeavesBy}
use Rattle.hrana_serve.specs.Replay.{join, Halted, StopsAs, WritesAs, PrintsFront, BreaksBy, LastStatus, unsaved, all_noted, broke, fell_short, broken_at_last, IsLinesStatus}
use Rattle.hrana_serve.specs.Story.{Replayed}
use Rattle.hrana_serve.proofs.CountLemmas.{lines_count}
use Rattle.hrana_serve.proofs.NoteLemmas.{IsLeft}
use Rattle.hrana_serve.proofs.ReplayLemmas.{whole_front}

-- ---- `Stop` fits after the lines

stop_fits : (s : State) → s.stopped ≡ false → s.events < MAX_EVENTS → fits s Stop ≡ true
stop_fits s going few = let less : nat_lt s.events MAX_EVENTS ≡ true = lt-ltb s.events MAX_EVENTS few in rw (going, less) refl

pub halted_fits : (token : Option (List ℕ)) (shared : Bool) (all : List (List ℕ)) (end : Status) (s : State) (count : ℕ) (waits : List Entry) (held holds : Option (List ℕ)) (K : List Draw) (J : List Entry)
    → Halted token shared all end s count waits held holds K J → count ≤ MAX_INPUT_BYTES + 1 → fits s Stop ≡ true
halted_fits token shared all end s count waits held holds K J h few =
    let c = lines_count token shared h.lines h.events h.drawn h.entries h.outs s h.reads h.run in
    stop_fits s c.stopped (omega (arith, c.events, h.counted))

-- ---- the last status

front_of : (end : Status) (outs : List Outs) (held holds : Option (List ℕ)) → WritesAs end outs held holds → PrintsFront held holds outs
front_of status.Done outs held holds w = whole_front held holds outs w
front_of (status.BadScript number) outs held holds w = whole_front held holds outs w
front_of end outs held holds w = w

broken_stops : (end : Status) (L all : List (List ℕ)) (s : State) → StopsAs end L all s → StopsAs (broken_at_last end) L all s
broken_stops status.Done L all s h = tt
broken_stops end L all s h = h

broken_writes : (end : Status) (outs : List Outs) (held holds : Option (List ℕ)) → WritesAs end outs held holds → WritesAs (broken_at_last end) outs held holds
broken_writes status.Done outs held holds w = whole_front held holds outs w
broken_writes end outs held holds w = w

broken_lines : (end : Status) → IsLinesStatus end → IsLinesStatus (broken_at_last end)
broken_lines status.Done h = tt
broken_lines end h = h

broken_not_done : (end : Status) → broken_at_last end ≡ status.Done → ⊥
broken_not_done status.Done e = cc
broken_not_done end e = cc

broken_write : (end : Status) → broken_at_last end ≡ status.WriteFault → end ≡ status.WriteFault
broken_write status.Done e = absurd cc
broken_write end e = e

breaks_leave : (a b : ℕ) (end : Status) → BreaksBy a b end → Rose a b ⊎ (end ≡ status.NoMemory)
breaks_leave a b status.NoMemory h = inr refl
breaks_leave a b status.JournalFault h = inl h
breaks_leave a b end h = absurd h

module _ (saved : Bool) (end last : Status) (first before now : ℕ) (waits : List Entry) (onward : before ≤ now) (since : first ≤ before) where
  stops_last : (L all : List (List ℕ)) (s : State) → LastStatus saved end last before now waits → StopsAs end L all s → StopsAs last L all s
  stops_last L all s (unsaved not is) h = subst (λ x. StopsAs x L all s) (sym is) h
  stops_last L all s (all_noted is none) h = subst (λ x. StopsAs x L all s) (sym is) h
  stops_last L all s (broke is rose) h = subst (λ x. StopsAs x L all s) (sym is) (broken_stops end L all s h)
  stops_last L all s (fell_short is) h = subst (λ x. StopsAs x L all s) (sym is) tt

  writes_last : (outs : List Outs) (held holds : Option (List ℕ)) → LastStatus saved end last before now waits → WritesAs end outs held holds → WritesAs last outs held holds
  writes_last outs held holds (unsaved not is) w = subst (λ x. WritesAs x outs held holds) (sym is) w
  writes_last outs held holds (all_noted is none) w = subst (λ x. WritesAs x outs held holds) (sym is) w
  writes_last outs held holds (broke is rose) w = subst (λ x. WritesAs x outs held holds) (sym is) (broken_writes end outs held holds w)
  writes_last outs held holds (fell_short is) w = subst (λ x. WritesAs x outs held holds) (sym is) (front_of end outs held holds w)

  pub ends_last : LastStatus saved end last before now waits → IsLinesStatus end → IsLinesStatus last
  ends_last (unsaved not is) h = subst IsLinesStatus (sym is) h
  ends_last (all_noted is none) h = subst IsLinesStatus (sym is) h
  ends_last (broke is rose) h = subst IsLinesStatus (sym is) (broken_lines end h)
  ends_last (fell_short is) h = subst IsLinesStatus (sym is) tt

  pub leaves_last : LastStatus saved end last before now waits → (saved ≡ false → BreaksBy first before end) → LeavesBy first now last waits
  leaves_last (unsaved not is) breaks filled = elim (breaks_leave first before end (breaks not)) [ inl rose ↦ inl (omega arith) | inr short ↦ inr (is ∙ short) ]
  leaves_last (all_noted is none) breaks filled = absurd (filled none)
  leaves_last (broke is rose) breaks filled = inl (omega arith)
  leaves_last (fell_short is) breaks filled = inr is

  pub done_last : LastStatus saved end last before now waits → (saved ≡ false → BreaksBy first before end) → last ≡ status.Done → waits ≡ []
  done_last (unsaved not is) breaks done = absurd (subst (BreaksBy first before) (sym is ∙ done) (breaks not))
  done_last (all_noted is none) breaks done = none
  done_last (broke is rose) breaks done = absurd (broken_not_done end (sym is ∙ done))
  done_last (fell_short is) breaks done = let no : status.NoMemory ≡ status.Done = sym is ∙ done in absurd cc

  pub saving_last : LastStatus saved end last before now waits → (end ≡ status.JournalFault → Rose first before) → last ≡ status.JournalFault → Rose first now
  saving_last (unsaved not is) fault e = let h = fault (sym is ∙ e) in omega arith
  saving_last (all_noted is none) fault e = let h = fault (sym is ∙ e) in omega arith
  saving_last (broke is rose) fault e = omega arith
  saving_last (fell_short is) fault e = let no : status.NoMemory ≡ status.JournalFault = sym is ∙ e in absurd cc

  pub write_last : (P : Type 0) → LastStatus saved end last before now waits → (end ≡ status.WriteFault → P) → last ≡ status.WriteFault → P
  write_last P (unsaved not is) fault e = fault (sym is ∙ e)
  write_last P (all_noted is none) fault e = fault (sym is ∙ e)
  write_last P (broke is rose) fault e = fault (broken_write end (sym is ∙ e))
  write_last P (fell_short is) fault e = let no : status.NoMemory ≡ status.WriteFault = sym is ∙ e in absurd cc

  -- ---- the whole run

  pub replayed_of : (token other : Option (List ℕ)) (shared : Bool) (all : List (List ℕ)) (s new : State) (count : ℕ) (left : List Entry) (held holds : Option (List ℕ)) (K draws : List Draw) (J ended : List Entry) → other ≡ token
      → LastStatus saved end last before now waits → Halted token shared all end s count left held holds K J → fits s Stop ≡ true → Step other shared s Stop draws ended nothing new → IsLeft left ended waits
      → Replayed token shared all last count waits held holds (K ++ draws) (J ++ ended)
  replayed_of token other shared all s new count left held holds K draws J ended same is h fitted step l = record {
    story = record { lines = h.lines; events = h.events; drawn = h.drawn; entries = h.entries; outs = h.outs; state = s; ended = ended; last = new };
    is_story = record {
      front = h.front;
      reads = h.reads;
      counted = h.counted;
      run = h.run;
      fitted = fitted;
      stop = subst (λ t. Step t shared s Stop [] ended nothing new) same (refl, step.1);
      drew = ap (λ l. K ++ l) step.0 ∙ append-nil K ∙ h.drew;
      joined = ap (λ x. x ++ ended) h.joined;
    };
    stops = stops_last h.lines all s is h.stops;
    writes = writes_last h.outs held holds is h.writes;
    answers = record {
      answered = h.answers.answered;
      others = h.answers.others;
      told = h.answers.told;
      untold = h.answers.untold;
      all = h.answers.all;
      given = h.answers.given;
      paired = h.answers.paired;
      writes = h.answers.writes;
      noted = h.answers.noted ++ l.taken;
      wait = ap (λ x. x ++ ended) (sym (append-nil (join h.answers.others)) ∙ h.answers.wait) ∙ append_assoc h.answers.noted left ended ∙ ap (λ x. h.answers.noted ++ x) l.all ∙ sym (append_assoc h.answers.noted l.taken waits);
    };
  }

-- ---- a run that ends before its first line

early_stops : (end : Status) (all : List (List ℕ)) → IsEarly end → StopsAs end [] all first_state
early_stops status.BadWords all h = refl
early_stops status.ReadFault all h = refl
early_stops status.InputTooLong all h = refl
early_stops status.NoMemory all h = tt
early_stops end all h = absurd h

early_writes : (end : Status) (held : Option (List ℕ)) → IsEarly end → WritesAs end [] held held
early_writes status.BadWords held h = whole_front held held [] (Appends-nil held)
early_writes status.ReadFault held h = whole_front held held [] (Appends-nil held)
early_writes status.InputTooLong held h = whole_front held held [] (Appends-nil held)
early_writes status.NoMemory held h = whole_front held held [] (Appends-nil held)
early_writes end held h = absurd h

pub early_replayed : (token : Option (List ℕ)) (shared : Bool) (all : List (List ℕ)) (end : Status) (held : Option (List ℕ)) → IsEarly end → Replayed token shared all end 0 [] held held [] []
early_replayed token shared all end held early = record {
  story = record { lines = []; events = []; drawn = []; entries = []; outs = []; state = first_state; ended = []; last = at_its_end (counted first_state) };
  is_story = record { front = record { rest = all; whole = refl }; reads = refl; counted = refl; run = start; fitted = refl; stop = (refl, (refl, refl, refl)); drew = refl; joined = refl };
  stops = early_stops end all early;
  writes = early_writes end held early;
  answers = record { answered = []; others = []; told = []; untold = []; all = refl; given = refl; paired = refl; writes = whole_front held held [] (Appends-nil held); noted = []; wait = refl };
}

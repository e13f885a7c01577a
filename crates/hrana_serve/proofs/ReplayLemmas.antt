-- Playing lines, and how they end.
use Rattle.std.proofs.Common.{◌≡◌, ℕ, ◌+◌, Bool, true, List, [], ◌∷◌, ◌++◌, Option, subst, sym, refl, ap, ◌∙◌, arith, length, length-append, append-nil, append_assoc}
use Rattle.std.proofs.lemmas.Grind.{flat_map-append}
use Rattle.std.specs.Io.KnownBytes.{Keeps, Appends}
use Rattle.std.proofs.KnownBytes.{Appends-nil, Appends-trans, Appends-kept}
use Rattle.engine_core.specs.Bytes.{IsPrefix, AppendsFront}
use Rattle.engine_core.specs.Draws.{Draw}
use Rattle.engine_core.specs.declared.entries.Entry.{Entry}
use Rattle.engine_core.specs.declared.journal.JournalFail.TheVariants as journal
use Rattle.engine_core.specs.declared.status.Status.{Status}
use Rattle.engine_core.specs.declared.status.Status.TheVariants as status
use Rattle.http_wire.specs.declared.outs.Outs.{Outs}
use Rattle.hrana_hub.specs.declared.events.Event.{Event}
use Rattle.hrana_hub.specs.Run.{Run, start, more}
use Rattle.hrana_hub.specs.State.{State, first_state}
use Rattle.hrana_serve.specs.Printed.{print, print_outs}
use Rattle.hrana_serve.specs.Replay.{join, PlaysAs, LineRun, IsUntouched, Playing, Halted, PrintsFront, AnswersNoted, StopsAs, WritesAs, is_saved, status_at, count_at}
use Rattle.hrana_serve.specs.Script.{IsBadLine}
use Rattle.hrana_serve.specs.declared.replay.LineEnd.{LineEnd}
use Rattle.hrana_serve.specs.declared.replay.LineEnd.TheVariants.{Played, Bad, Short, Unsaved, Unwritten}
use Rattle.hrana_serve.specs.declared.replay.WriteFail.TheVariants as write
use Rattle.hrana_serve.proofs.NoteLemmas.{IsLeft}
use Rattle.hrana_serve.proofs.ReadLemmas.{reads_blank, reads_more}

print_more : (outs : List Outs) (out : Outs) → print (outs ++ out ∷ []) ≡ print outs ++ print_outs out
print_more outs out = flat_map-append print_outs outs (out ∷ []) ∙ ap (λ l. print outs ++ l) (append-nil (print_outs out))

join_more : {A : Type 0} (parts : List (List A)) (part : List A) → join (parts ++ part ∷ []) ≡ join parts ++ part
join_more {A} parts part = flat_map-append (λ (l : List A). l) parts (part ∷ []) ∙ ap (λ l. join parts ++ l) (append-nil part)

-- ---- how much was written

module _ (held : Option (List ℕ)) where
  pub whole_front : (holds : Option (List ℕ)) (outs : List Outs) → Appends held holds (print outs) → PrintsFront held holds outs
  whole_front holds outs w = record {
    kept = outs;
    last = [];
    part = [];
    all = sym (append-nil outs);
    one = omega arith;
    is_part = record { rest = []; whole = refl };
    written = subst (Appends held holds) (sym (append-nil (print outs))) w;
  }

  -- a front of what the last gave
  last_front : (mid holds : Option (List ℕ)) (outs : List Outs) (out : Outs) (w : AppendsFront mid holds (print_outs out)) → Appends held mid (print outs) → PrintsFront held holds (outs ++ out ∷ [])
  last_front mid holds outs out w p = record {
    kept = outs;
    last = out ∷ [];
    part = w.front;
    all = refl;
    one = omega arith;
    is_part = record { rest = w.is_front.rest; whole = append-nil (print_outs out) ∙ w.is_front.whole };
    written = Appends-trans held mid holds _ _ p w.written;
  }

none_front : (mid holds : Option (List ℕ)) (bytes : List ℕ) → Keeps mid holds → AppendsFront mid holds bytes
none_front mid holds bytes k = record { front = []; is_front = record { rest = bytes; whole = refl }; written = Appends-kept mid mid holds [] (Appends-nil mid) k }

-- ---- what was noted

paired : (token : Option (List ℕ)) (shared : Bool) (V : List Event) (K : List (List Draw)) (J : List (List Entry)) (outs : List Outs) (s : State) → Run token shared V K J outs s → length J ≡ length outs
paired token shared V K J outs s start = refl
paired token shared V K J outs s (more {events = W} {drawn = C} {entries = L} {outs = o} {s = t} run event draws added out new fitted step) =
    let h = paired token shared W C L o t run in omega (arith, length-append L (added ∷ []), length-append o (out ∷ []))

-- all was, of events whose outs were written
all_answered : (entries : List (List Entry)) (outs : List Outs) (waits : List Entry) (held holds : Option (List ℕ)) → length entries ≡ length outs → waits ≡ [] → PrintsFront held holds outs → AnswersNoted entries outs [] waits held holds
all_answered entries outs waits held holds two none w = record {
  answered = entries;
  others = [];
  told = outs;
  untold = [];
  all = sym (append-nil entries);
  given = sym (append-nil outs);
  paired = two;
  writes = w;
  noted = [];
  wait = sym none;
}

-- not all of what the last added, of which nothing was written
last_unanswered : (entries : List (List Entry)) (outs : List Outs) (added : List Entry) (out : Outs) (waits : List Entry) (held holds : Option (List ℕ)) → length entries ≡ length outs → IsLeft [] added waits → PrintsFront held holds outs
    → AnswersNoted (entries ++ added ∷ []) (outs ++ out ∷ []) [] waits held holds
last_unanswered entries outs added out waits held holds two left w = record {
  answered = entries;
  others = added ∷ [];
  told = outs;
  untold = out ∷ [];
  all = refl;
  given = refl;
  paired = two;
  writes = w;
  noted = left.taken;
  wait = append-nil (added ++ []) ∙ append-nil added ∙ left.all;
}

-- under the same token
pub run_token : (token other : Option (List ℕ)) (shared : Bool) (line : List ℕ) (s new : State) (Written : List ℕ → Type 0) (draws : List Draw) (added : List Entry) → other ≡ token → LineRun other shared line s new Written draws added → LineRun token shared line s new Written draws added
run_token token other shared line s new Written draws added e r = subst (λ t. LineRun t shared line s new Written draws added) e r

pub plays_token : (token other : Option (List ℕ)) (shared : Bool) (line : List ℕ) (s : State) (end : LineEnd) (new : State) (mid holds : Option (List ℕ)) (draws : List Draw) (added : List Entry) → other ≡ token → PlaysAs other shared line s end new mid holds draws added → PlaysAs token shared line s end new mid holds draws added
plays_token token other shared line s end new mid holds draws added e h = subst (λ t. PlaysAs t shared line s end new mid holds draws added) e h

module _ (token : Option (List ℕ)) (shared : Bool) (held : Option (List ℕ)) where
  -- ---- one line more

  pub playing_none : (s : State) → s ≡ first_state → Playing token shared [] s 0 held held [] []
  playing_none s new = record { events = []; drawn = []; entries = []; outs = []; reads = refl; counted = refl; run = subst (Run token shared [] [] [] []) (sym new) start; drew = refl; joined = refl; printed = Appends-nil held }

  pub playing_blank : (L : List (List ℕ)) (s : State) (n : ℕ) (holds : Option (List ℕ)) (K : List Draw) (J : List Entry) → Playing token shared L s n held holds K J → Playing token shared (L ++ [] ∷ []) s n held holds K J
  playing_blank L s n holds K J p = record { events = p.events; drawn = p.drawn; entries = p.entries; outs = p.outs; reads = reads_blank L p.events p.reads; counted = p.counted; run = p.run; drew = p.drew; joined = p.joined; printed = p.printed }

  pub playing_more : (L : List (List ℕ)) (line : List ℕ) (s new : State) (n : ℕ) (mid holds : Option (List ℕ)) (K draws : List Draw) (J added : List Entry)
      → Playing token shared L s n held mid K J → LineRun token shared line s new (Appends mid holds) draws added → Playing token shared (L ++ line ∷ []) new (n + 1) held holds (K ++ draws) (J ++ added)
  playing_more L line s new n mid holds K draws J added p r = record {
    events = p.events ++ r.event ∷ [];
    drawn = p.drawn ++ draws ∷ [];
    entries = p.entries ++ added ∷ [];
    outs = p.outs ++ r.outs ∷ [];
    reads = reads_more L p.events line r.event r.filled p.reads r.is_line;
    counted = ap (λ k. k + 1) p.counted ∙ sym (length-append p.events (r.event ∷ []));
    run = more p.run r.event draws added r.outs new r.fitted r.step;
    drew = ap (λ l. l ++ draws) p.drew ∙ sym (join_more p.drawn draws);
    joined = ap (λ l. l ++ added) p.joined ∙ sym (join_more p.entries added);
    printed = subst (Appends held holds) (sym (print_more p.outs r.outs)) (Appends-trans held mid holds _ _ p.printed r.written);
  }

  -- ---- the ends

  -- the lines so far, all of which was written and noted
  stands : (L all : List (List ℕ)) (end : Status) (s : State) (n : ℕ) (waits : List Entry) (holds : Option (List ℕ)) (K : List Draw) (J : List Entry) → IsPrefix L all → StopsAs end L all s → waits ≡ []
      → (p : Playing token shared L s n held holds K J) → WritesAs end p.outs held holds → Halted token shared all end s n waits held holds K J
  stands L all end s n waits holds K J front stops none p writes = record {
    lines = L;
    events = p.events;
    drawn = p.drawn;
    entries = p.entries;
    outs = p.outs;
    front = front;
    reads = p.reads;
    counted = p.counted;
    run = p.run;
    drew = p.drew;
    joined = p.joined;
    stops = stops;
    writes = writes;
    answers = all_answered p.entries p.outs waits held holds (paired token shared p.events p.drawn p.entries p.outs s p.run) none (whole_front held holds p.outs p.printed);
  }

  pub ends_done : (L all : List (List ℕ)) (s : State) (n : ℕ) (waits : List Entry) (holds : Option (List ℕ)) (K : List Draw) (J : List Entry) → L ≡ all → waits ≡ [] → Playing token shared L s n held holds K J → Halted token shared all status.Done s n waits held holds K J
  ends_done L all s n waits holds K J whole none p = stands L all status.Done s n waits holds K J (record { rest = []; whole = sym whole ∙ sym (append-nil L) }) whole none p p.printed

  -- nothing more was added, written or changed
  untouched : (L : List (List ℕ)) (s new : State) (n : ℕ) (mid holds : Option (List ℕ)) (K draws : List Draw) (J added : List Entry) → Playing token shared L s n held mid K J → IsUntouched s new mid holds draws added → Playing token shared L new n held holds (K ++ draws) (J ++ added)
  untouched L s new n mid holds K draws J added p u = record {
    events = p.events;
    drawn = p.drawn;
    entries = p.entries;
    outs = p.outs;
    reads = p.reads;
    counted = p.counted;
    run = subst (Run token shared p.events p.drawn p.entries p.outs) (sym u.same) p.run;
    drew = ap (λ l. K ++ l) u.undrawn ∙ append-nil K ∙ p.drew;
    joined = ap (λ l. J ++ l) u.none ∙ append-nil J ∙ p.joined;
    printed = Appends-kept held mid holds _ p.printed u.silent;
  }

  -- the line's event was the last, and so much was noted and written
  ran : (L all : List (List ℕ)) (line : List ℕ) (end : Status) (s new : State) (n : ℕ) (waits : List Entry) (mid holds : Option (List ℕ)) (Written : List ℕ → Type 0) (K draws : List Draw) (J added : List Entry) → IsPrefix (L ++ line ∷ []) all → StopsAs end (L ++ line ∷ []) all new
      → (p : Playing token shared L s n held mid K J) (r : LineRun token shared line s new Written draws added) → WritesAs end (p.outs ++ r.outs ∷ []) held holds
      → AnswersNoted (p.entries ++ added ∷ []) (p.outs ++ r.outs ∷ []) [] waits held holds → Halted token shared all end new (n + 1) waits held holds (K ++ draws) (J ++ added)
  ran L all line end s new n waits mid holds Written K draws J added next stops p r writes answers = record {
    lines = L ++ line ∷ [];
    events = p.events ++ r.event ∷ [];
    drawn = p.drawn ++ draws ∷ [];
    entries = p.entries ++ added ∷ [];
    outs = p.outs ++ r.outs ∷ [];
    front = next;
    reads = reads_more L p.events line r.event r.filled p.reads r.is_line;
    counted = ap (λ k. k + 1) p.counted ∙ sym (length-append p.events (r.event ∷ []));
    run = more p.run r.event draws added r.outs new r.fitted r.step;
    drew = ap (λ l. l ++ draws) p.drew ∙ sym (join_more p.drawn draws);
    joined = ap (λ l. l ++ added) p.joined ∙ sym (join_more p.entries added);
    stops = stops;
    writes = writes;
    answers = answers;
  }

  module _ (L all : List (List ℕ)) (line : List ℕ) (s new : State) (n number : ℕ) (waits : List Entry) (mid holds : Option (List ℕ)) (K draws : List Draw) (J added : List Entry) (next : IsPrefix (L ++ line ∷ []) all) (p : Playing token shared L s n held mid K J) where
    front : IsPrefix L all
    front = record { rest = line ∷ next.rest; whole = next.whole ∙ append_assoc L (line ∷ []) next.rest }

    two : length p.entries ≡ length p.outs
    two = paired token shared p.events p.drawn p.entries p.outs s p.run

    both : (out : Outs) → length (p.entries ++ added ∷ []) ≡ length (p.outs ++ out ∷ [])
    both out = let h = two in omega (arith, length-append p.entries (added ∷ []), length-append p.outs (out ∷ []))

    unsaved : (end : Status) → StopsAs end (L ++ line ∷ []) all new → ((outs : List Outs) → PrintsFront held holds outs → WritesAs end outs held holds) → IsLeft [] added waits
        → LineRun token shared line s new (λ bytes. Keeps mid holds) draws added → Halted token shared all end new (n + 1) waits held holds (K ++ draws) (J ++ added)
    unsaved end stops writes left r =
        ran L all line end s new n waits mid holds _ K draws J added next stops p r (writes _ (last_front held mid holds p.outs r.outs (none_front mid holds (print_outs r.outs) r.written) p.printed))
        (last_unanswered p.entries p.outs added r.outs waits held holds two left (whole_front held holds p.outs (Appends-kept held mid holds _ p.printed r.written)))

    unwritten : (end : Status) → StopsAs end (L ++ line ∷ []) all new → ((outs : List Outs) → PrintsFront held holds outs → WritesAs end outs held holds) → waits ≡ []
        → LineRun token shared line s new (AppendsFront mid holds) draws added → Halted token shared all end new (n + 1) waits held holds (K ++ draws) (J ++ added)
    unwritten end stops writes none r = let w = last_front held mid holds p.outs r.outs r.written p.printed in
        ran L all line end s new n waits mid holds _ K draws J added next stops p r (writes _ w) (all_answered _ _ waits held holds (both r.outs) none w)

    pub ends_at : (end : LineEnd) → (end ≡ Played → ⊥) → number ≡ length L + 1 → (is_saved end ≡ true → waits ≡ []) → IsLeft [] added waits → PlaysAs token shared line s end new mid holds draws added
        → Halted token shared all (status_at end number) new (count_at end n) waits held holds (K ++ draws) (J ++ added)
    ends_at Played not counted saved left h = absurd (not refl)
    ends_at Bad not counted saved left h = let q = untouched L s new n mid holds K draws J added p h.0 in
        stands L all (status.BadScript number) new n waits holds (K ++ draws) (J ++ added) front (record { line = line; is_next = next; counted = counted; bad = subst (λ (t : State). IsBadLine t line) (sym h.0.same) h.1 }) (saved refl) q q.printed
    ends_at Short not counted saved left h = let q = untouched L s new n mid holds K draws J added p h in
        stands L all status.NoMemory new n waits holds (K ++ draws) (J ++ added) front tt (saved refl) q (whole_front held holds q.outs q.printed)
    ends_at (Unsaved journal.Fault) not counted saved left h = unsaved status.JournalFault tt (λ outs w. w) left h
    ends_at (Unsaved journal.NoMemory) not counted saved left h = unsaved status.NoMemory tt (λ outs w. w) left h
    ends_at (Unwritten write.Fault) not counted saved left h = unwritten status.WriteFault tt (λ outs w. w) (saved refl) h
    ends_at (Unwritten write.NoMemory) not counted saved left h = unwritten status.NoMemory tt (λ outs w. w) (saved refl) h

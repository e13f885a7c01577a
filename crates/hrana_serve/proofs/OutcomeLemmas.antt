-- What a run did, and what the top call's clauses say of it.
use Rattle.std.proofs.Common.{◌≡◌, ℕ, ◌≤◌, ◌<◌, ◌⊎◌, ◌↔◌, inl, inr, Bool, List, [], ◌++◌, Option, None, Some, IsTrue, map, subst, sym, refl, ap, ◌∙◌, arith, length}
use Rattle.std.specs.Prelude.{IfSome}
use Rattle.serial_order.specs.Serial.{Meaning}
use Rattle.engine_core.specs.Bytes.{lines_of}
use Rattle.engine_core.specs.Causes.{Rose, RoseBy}
use Rattle.engine_core.specs.Draws.{Draw}
use Rattle.engine_core.specs.Journal.{entry_of, fault_count}
use Rattle.engine_core.specs.Transactions.{Lives, NoneLive}
use Rattle.engine_core.specs.Transfer.{given_count}
use Rattle.engine_core.specs.declared.statement.BoundStmt.{BoundStmt}
use Rattle.engine_core.specs.declared.entries.Answer.{Answer}
use Rattle.engine_core.specs.declared.entries.Entry.{Entry}
use Rattle.engine_core.specs.declared.limits.TheConstants.{MAX_INPUT_BYTES}
use Rattle.engine_core.specs.declared.status.Status.{Status}
use Rattle.engine_core.specs.declared.status.Status.TheVariants as status
use Rattle.stream_task.specs.Leads.{IsExplained, StandsExplained}
use Rattle.hrana_hub.specs.Agrees.{HubStands}
use Rattle.hrana_hub.specs.State.{Seen}
use Rattle.hrana_hub.specs.Batons.{NoTokensByFailures, all_failures, no_tokens}
use Rattle.hrana_hub.specs.Drawn.{DrawsFrom, failures}
use Rattle.hrana_hub.specs.State.{first_state}
use Rattle.hrana_hub.specs.Stories.{RepliesInOrder}
use Rattle.hrana_hub.specs.Talks.{AnswersInOrder}
use Rattle.hrana_hub.specs.Versions.{RunsHaveVersions}
use Rattle.hrana_serve.specs.Clauses.{WithJournal}
use Rattle.hrana_serve.specs.Notes.{AddsNoted, with_entries}
use Rattle.hrana_serve.specs.Outcome.{Outcome, IsEarly, LeavesBy}
use Rattle.hrana_serve.specs.Story.{HasStory, HasAnswered, HasFewRefusals, HasReplies, IsFirstBad, Replayed}
use Rattle.hrana_serve.specs.Replay.{StopsAs}
use Rattle.hrana_serve.specs.Words.{IsReplay, token_in, AsksReplay}
use Rattle.hrana_serve.proofs.DrawLemmas.{failures_joined, rose_less}
use Rattle.hrana_serve.proofs.EndLemmas.{early_replayed}
use Rattle.hrana_serve.proofs.NoteLemmas.{with_none}

any_bytes : (left : Option (List ℕ)) (P : List ℕ → Type 0) → ((bytes : List ℕ) → P bytes) → IfSome left P
any_bytes None P h = tt
any_bytes (Some bytes) P h = h bytes

of_bytes : (left : Option (List ℕ)) (bytes : List ℕ) (P : List ℕ → Type 0) → IfSome left (λ all. all ≡ bytes) → P bytes → IfSome left P
of_bytes None bytes P is h = tt
of_bytes (Some all) bytes P is h = subst P (sym is) h

weaker : (left : Option (List ℕ)) (P Q : List ℕ → Type 0) → ((bytes : List ℕ) → P bytes → Q bytes) → IfSome left P → IfSome left Q
weaker None P Q f h = tt
weaker (Some bytes) P Q f h = f bytes h

early_not : (end other : Status) → IsEarly end → (IsEarly other → ⊥) → end ≡ other → ⊥
early_not end other early not is = not (subst IsEarly is early)

module _ {X D J O : Type 0} (told shared : Bool) (m : Meaning D BoundStmt Answer) (db : X → D) (live : X → Lives D) (faults : X → ℕ) (noted : J → Option (List Entry)) (broken : J → ℕ) (written : O → Option (List ℕ)) (failed : O → ℕ) where
  -- ---- a run that ends before its first line

  pub early_outcome : (engine : X) (journal : J) (sink : O) (token left : Option (List ℕ)) (end : Status) (items : List Entry) → IsEarly end → items ≡ [] → NoneLive (live engine) → IsExplained shared m (db engine) [] (db engine)
      → Outcome told shared m db live faults engine engine noted broken journal journal written failed sink sink token left end 0 items []
  early_outcome engine journal sink token left end items early none quiet explained = record {
    taken = [];
    grew = with_none (noted journal);
    replayed = any_bytes left _ (λ script. rw none (early_replayed token shared (lines_of script) end (written sink) early));
    explained = λ t. rw none explained;
    cause = rw none (omega arith);
    quiet = quiet;
    write = λ is. absurd (early_not end status.WriteFault early (λ h. h) is);
    saving = λ is. absurd (early_not end status.JournalFault early (λ h. h) is);
    leaves = λ filled. absurd (filled none);
    done = λ is. none;
  }

  -- ---- a run over a hub that was new

  pub run_outcome : (engine engine' : X) (journal journal' : J) (sink sink' : O) (token : Option (List ℕ)) (script : List ℕ) (end : Status) (count : ℕ) (items : List Entry) (K : List Draw) (old new : Seen)
      → AddsNoted told shared m db live faults engine engine' old new (noted journal) (noted journal') (Replayed token shared (lines_of script) end count new.noted.list (written sink) (written sink') K)
      → old.noted.list ≡ [] → items ≡ new.noted.list → HubStands shared m (db engine) [] (db engine) (live engine) old → StandsExplained shared m → NoneLive (live engine')
      → (end ≡ status.WriteFault → Rose (failed sink) (failed sink')) → (end ≡ status.JournalFault → Rose (broken journal) (broken journal')) → LeavesBy (broken journal) (broken journal') end new.noted.list → (end ≡ status.Done → new.noted.list ≡ [])
      → Outcome told shared m db live faults engine engine' noted broken journal journal' written failed sink sink' token (Some script) end count items K
  run_outcome engine engine' journal journal' sink sink' token script end count items K old new a none is stands law quiet write saving leaves done =
      let all : a.added ≡ a.notes.taken ++ new.noted.list = sym (ap (λ l. l ++ a.added) none) ∙ a.notes.all in
      record {
        taken = a.notes.taken;
        grew = a.notes.grew;
        replayed = rw (is, ← all) a.fact;
        explained = λ t. rw (is, ← all) (law (db engine) a.added (db engine') (live engine') _ _ _ (a.leads t (db engine) [] stands));
        cause = rw (is, ← all) a.cause;
        quiet = quiet;
        write = write;
        saving = saving;
        leaves = λ filled. leaves (λ e. filled (is ∙ e));
        done = λ e. is ∙ done e;
      }

-- ---- what the top call says

with_journal : (held holds : Option (List Entry)) (taken unsaved : List Entry) (P : List Entry → Type 0) → holds ≡ with_entries held taken → P (taken ++ unsaved) → WithJournal held holds unsaved P
with_journal None holds taken unsaved P grew h = tt
with_journal (Some old) holds taken unsaved P grew h = record { taken = taken; grew = grew; fact = h }

module _ {X D T J O : Type 0} {told shared : Bool} {m : Meaning D BoundStmt Answer} {db : X → D} {live : X → Lives D} {faults : X → ℕ} {engine engine' : X} {drawn : T → Option (List Draw)} {missed : T → ℕ} {tokens tokens' : T}
    {noted : J → Option (List Entry)} {broken : J → ℕ} {journal journal' : J} {written : O → Option (List ℕ)} {failed : O → ℕ} {sink sink' : O} {token left : Option (List ℕ)} {end : Status} {count : ℕ} {unsaved : List Entry}
    (d : DrawsFrom drawn missed tokens tokens' (Outcome told shared m db live faults engine engine' noted broken journal journal' written failed sink sink' token left end count unsaved)) where
  abbrev Drawing : (List Draw → Type 0) → Type 0
  Drawing P = DrawsFrom drawn missed tokens tokens' P

  -- the words are those of the outcome
  as_drawn : (P : List Draw → Type 0) → P d.draws → Drawing P
  as_drawn P p = record { draws = d.draws; told = d.told; cause = d.cause; holds = p }

  abbrev Ran : List ℕ → Type 0
  Ran script = Replayed token shared (lines_of script) end count unsaved (written sink) (written sink') d.draws (d.holds.taken ++ unsaved)

  -- what is said of the words, the entries and the script follows from the run
  by_script : (P : List ℕ → List Entry → List Draw → Type 0) → ((script : List ℕ) → Ran script → P script (d.holds.taken ++ unsaved) d.draws) → WithJournal (noted journal) (noted journal') unsaved (λ entries. IfSome left (λ script. Drawing (P script entries)))
  by_script P f = with_journal (noted journal) (noted journal') d.holds.taken unsaved (λ entries. IfSome left (λ script. Drawing (P script entries))) d.holds.grew
      (weaker left _ (λ script. Drawing (P script (d.holds.taken ++ unsaved))) (λ script r. as_drawn (P script (d.holds.taken ++ unsaved)) (f script r)) d.holds.replayed)

  pub journal_fits : WithJournal (noted journal) (noted journal') unsaved (λ entries. IfSome left (λ script. Drawing (λ draws. HasStory token shared (lines_of script) end count draws entries)))
  journal_fits = by_script (λ script entries draws. HasStory token shared (lines_of script) end count draws entries) (λ script r. record { story = r.story; is_story = r.is_story; stops = r.stops })

  pub serial_explains : IsTrue told → WithJournal (noted journal) (noted journal') unsaved (λ entries. IsExplained shared m (db engine) (map entry_of entries) (db engine'))
  serial_explains t = with_journal (noted journal) (noted journal') d.holds.taken unsaved (λ entries. IsExplained shared m (db engine) (map entry_of entries) (db engine')) d.holds.grew (d.holds.explained t)

  pub output_exact : WithJournal (noted journal) (noted journal') unsaved (λ entries. IfSome left (λ script. Drawing (λ draws. Replayed token shared (lines_of script) end count unsaved (written sink) (written sink') draws entries)))
  output_exact = by_script (λ script entries draws. Replayed token shared (lines_of script) end count unsaved (written sink) (written sink') draws entries) (λ script r. r)

  pub answered_is_journaled : WithJournal (noted journal) (noted journal') unsaved (λ entries. IfSome left (λ script. Drawing (λ draws. HasAnswered token shared (lines_of script) count unsaved (written sink) (written sink') draws entries)))
  answered_is_journaled = by_script (λ script entries draws. HasAnswered token shared (lines_of script) count unsaved (written sink) (written sink') draws entries) (λ script r. record { story = r.story; is_story = r.is_story; answers = r.answers })

  pub replies_in_order : RepliesInOrder → AnswersInOrder → RunsHaveVersions → WithJournal (noted journal) (noted journal') unsaved (λ entries. IfSome left (λ script. Drawing (λ draws. HasReplies token shared (lines_of script) count draws entries)))
  replies_in_order law answers versions = by_script (λ script entries draws. HasReplies token shared (lines_of script) count draws entries)
      (λ script r. (let t = r.story in let run = r.is_story.run in record {
        story = t;
        is_story = r.is_story;
        versions = versions token shared first_state t.events t.drawn t.entries t.outs t.state run;
        in_order = λ had are n. law token shared t.events t.drawn t.entries t.outs t.state run had are n;
        answered = λ had are n. answers token shared t.events t.drawn t.entries t.outs t.state run had are n;
      }))

  -- as many draws failed, at least
  few_refusals : NoTokensByFailures → (script : List ℕ) → Ran script → HasFewRefusals token shared (lines_of script) count (missed tokens) (missed tokens') d.draws (d.holds.taken ++ unsaved)
  few_refusals law script r =
      let t = r.story in
      let few = law token shared t.events t.drawn t.entries t.outs t.state r.is_story.run in
      let all : failures d.draws ≡ all_failures t.drawn = ap failures r.is_story.drew ∙ failures_joined t.drawn in
      record { story = t; is_story = r.is_story; cause = rose_less (no_tokens t.outs) (failures d.draws) (missed tokens) (missed tokens') (omega (arith, few, all)) d.cause }

  pub token_faults : NoTokensByFailures → WithJournal (noted journal) (noted journal') unsaved (λ entries. IfSome left (λ script. Drawing (λ draws. HasFewRefusals token shared (lines_of script) count (missed tokens) (missed tokens') draws entries)))
  token_faults law = by_script (λ script entries draws. HasFewRefusals token shared (lines_of script) count (missed tokens) (missed tokens') draws entries) (few_refusals law)

  -- the line that the run stopped at
  bad_line : (number : ℕ) (script : List ℕ) → end ≡ status.BadScript number → Ran script → IsFirstBad token shared (lines_of script) number count d.draws (d.holds.taken ++ unsaved)
  bad_line number script is r = record { story = r.story; is_story = r.is_story; stops = subst (λ x. StopsAs x r.story.lines (lines_of script) r.story.state) is r.stops }

  pub bad_script : (number : ℕ) → end ≡ status.BadScript number → WithJournal (noted journal) (noted journal') unsaved (λ entries. IfSome left (λ script. Drawing (λ draws. IsFirstBad token shared (lines_of script) number count draws entries)))
  bad_script number is = by_script (λ script entries draws. IsFirstBad token shared (lines_of script) number count draws entries) (λ script r. bad_line number script is r)

  pub engine_faults : WithJournal (noted journal) (noted journal') unsaved (λ entries. RoseBy (fault_count entries) (faults engine) (faults engine'))
  engine_faults = with_journal (noted journal) (noted journal') d.holds.taken unsaved (λ entries. RoseBy (fault_count entries) (faults engine) (faults engine')) d.holds.grew d.holds.cause

  -- ---- valid input is done

  done_or_short : (st : Status) → ((number : ℕ) → st ≡ status.BadScript number → ⊥) → (st ≡ status.WriteFault → ⊥) → (st ≡ status.JournalFault → ⊥) → (st ≡ status.BadWords → ⊥) → (st ≡ status.ReadFault → ⊥) → (st ≡ status.InputTooLong → ⊥)
      → (st ≡ status.Done) ⊎ (st ≡ status.NoMemory)
  done_or_short status.Done bad write saving words read long = inl refl
  done_or_short (status.BadScript number) bad write saving words read long = absurd (bad number refl)
  done_or_short status.WriteFault bad write saving words read long = absurd (write refl)
  done_or_short status.JournalFault bad write saving words read long = absurd (saving refl)
  done_or_short status.NoMemory bad write saving words read long = inr refl
  done_or_short status.BadWords bad write saving words read long = absurd (words refl)
  done_or_short status.ReadFault bad write saving words read long = absurd (read refl)
  done_or_short status.InputTooLong bad write saving words read long = absurd (long refl)

  -- where no line is bad the run is done
  abbrev IsComplete : List ℕ → List Entry → List Draw → Type 0
  IsComplete script entries draws = length script ≤ MAX_INPUT_BYTES → ((number : ℕ) → IsFirstBad token shared (lines_of script) number count draws entries → ⊥) → (end ≡ status.Done) ⊎ (end ≡ status.NoMemory)

  -- no count rose
  complete_by : (other : Option (List ℕ)) → (end ≡ status.BadWords → ⊥) → (end ≡ status.ReadFault → ⊥) → (Rose (failed sink) (failed sink') → ⊥) → (Rose (broken journal) (broken journal') → ⊥)
      → (script : List ℕ) → ((end ≡ status.InputTooLong) ↔ (MAX_INPUT_BYTES < given_count (Some script) other)) → Ran script → IsComplete script (d.holds.taken ++ unsaved) d.draws
  complete_by other words read write saving script long r fits none =
      done_or_short end (λ number is. none number (bad_line number script is r)) (λ is. write (d.holds.write is)) (λ is. saving (d.holds.saving is)) words read (λ is. (let more = long.0 is in omega (arith, more)))

  complete_in : (given other : Option (List ℕ)) → IfSome given (λ script. (end ≡ status.InputTooLong) ↔ (MAX_INPUT_BYTES < given_count given other)) → (end ≡ status.BadWords → ⊥) → (end ≡ status.ReadFault → ⊥) → (Rose (failed sink) (failed sink') → ⊥)
      → (Rose (broken journal) (broken journal') → ⊥) → IfSome given Ran → IfSome given (λ script. Drawing (IsComplete script (d.holds.taken ++ unsaved)))
  complete_in None other long words read write saving r = tt
  complete_in (Some script) other long words read write saving r = as_drawn (IsComplete script (d.holds.taken ++ unsaved)) (complete_by other words read write saving script long r)

  pub complete : (other : Option (List ℕ)) → IfSome left (λ script. (end ≡ status.InputTooLong) ↔ (MAX_INPUT_BYTES < given_count left other)) → (end ≡ status.BadWords → ⊥) → (end ≡ status.ReadFault → ⊥) → (Rose (failed sink) (failed sink') → ⊥)
      → (Rose (broken journal) (broken journal') → ⊥) → WithJournal (noted journal) (noted journal') unsaved (λ entries. IfSome left (λ script. Drawing (IsComplete script entries)))
  complete other long words read write saving = with_journal (noted journal) (noted journal') d.holds.taken unsaved (λ entries. IfSome left (λ script. Drawing (IsComplete script entries))) d.holds.grew (complete_in left other long words read write saving d.holds.replayed)

-- the outcome over the source that the script was read from
pub outcome_of : {X D J O : Type 0} {told shared : Bool} {m : Meaning D BoundStmt Answer} {db : X → D} {live : X → Lives D} {faults : X → ℕ} {engine engine' : X} {noted : J → Option (List Entry)} {broken : J → ℕ} {journal journal' : J}
    {written : O → Option (List ℕ)} {failed : O → ℕ} {sink sink' : O} {token : Option (List ℕ)} {end : Status} {count : ℕ} {unsaved : List Entry} {K : List Draw} (left : Option (List ℕ)) (script : List ℕ) → IfSome left (λ all. all ≡ script)
    → Outcome told shared m db live faults engine engine' noted broken journal journal' written failed sink sink' token (Some script) end count unsaved K
    → Outcome told shared m db live faults engine engine' noted broken journal journal' written failed sink sink' token left end count unsaved K
outcome_of left script is o = record {
  taken = o.taken;
  grew = o.grew;
  replayed = of_bytes left script _ is o.replayed;
  explained = o.explained;
  cause = o.cause;
  quiet = o.quiet;
  write = o.write;
  saving = o.saving;
  leaves = o.leaves;
  done = o.done;
}

-- ---- the words

pub token_is : (words : List (List ℕ)) (token : Option (List ℕ)) → IsReplay words token → token ≡ token_in words
token_is words None h = sym (ap token_in h)
token_is words (Some token) h = sym (ap token_in h.0)

pub asks_replay : (words : List (List ℕ)) (token : Option (List ℕ)) → IsReplay words token → AsksReplay words
asks_replay words token h = subst (IsReplay words) (token_is words token h) h

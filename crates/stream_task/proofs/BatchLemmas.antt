-- The outcomes of a batch.
use Prim.Native.Nat.{zero}
use Rattle.std.proofs.Common.{◌≡◌, ◌<◌, ℕ, suc, Bool, true, false, not, List, [], ◌∷◌, ◌++◌, length, drop, slice_get, Option, Some, None, Result, Ok, Err, refl, sym, ap, ◌∙◌, subst, inl, inr, arith, add-one, length-append, IsSomeAnd}
use Rattle.std.proofs.lemmas.Bool.{cases_Bool}
use Rattle.hrana_stmt.specs.declared.codes.Code.{Code}
use Rattle.hrana_batch.specs.Conditions.{holds_on}
use Rattle.hrana_batch.specs.Means.{IsPassedOver, Turns, no_turn, more_turns, BatchMeans}
use Rattle.hrana_batch.specs.declared.conditions.Cond.{Cond}
use Rattle.hrana_batch.specs.declared.batches.Batch.{Batch}
use Rattle.hrana_batch.specs.declared.batches.Step.{Step}
use Rattle.hrana_batch.specs.declared.outcomes.Outcome.{Outcome}
use Rattle.hrana_batch.specs.declared.outcomes.Outcome.TheVariants.{Skipped}
use Rattle.hrana_batch.specs.declared.running.Next.TheVariants as next
use Rattle.hrana_batch.proofs.MeansLemmas.{turns_mean}
use Rattle.sql_text.specs.declared.class.Class.{Class}
use Rattle.sql_text.specs.declared.prepared.Prepared.{Prepared}
use Rattle.engine_core.specs.declared.entries.Answer.{Answer}
use Rattle.engine_core.specs.declared.entries.Answer.TheVariants.{Gave, Refused}
use Rattle.engine_core.specs.declared.entries.Entry.{Entry}
use Rattle.engine_core.specs.declared.entries.Entry.TheVariants as entry
use Rattle.stream_task.specs.Session.{is_auto}
use Rattle.stream_task.specs.Checks.{ready_of}
use Rattle.stream_task.specs.Table.{plan, takes, takes_alone, begun_by, takes_begun, takes_ran, takes_upgrade, takes_ended, outcome_of}
use Rattle.stream_task.specs.Steps.{is_skipped}
use Rattle.stream_task.specs.Doing.{Session}
use Rattle.stream_task.specs.Means.{Taken, short, took, broke, unfit, took_went, took_with, took_without, class_means, ready_means, statement_means, then_means, steps_mean, Meant}
use Rattle.stream_task.specs.Laws.{OutcomesAreMeant, BatchesAreMeant}
use Rattle.stream_task.specs.declared.session.TxnState.{TxnState}
use Rattle.stream_task.specs.declared.texts.StoredText.{StoredText}
use Rattle.stream_task.specs.declared.table.Row.{Row}
use Rattle.stream_task.specs.declared.table.Row.TheVariants as row
use Rattle.stream_task.specs.declared.table.Plan.{Plan}
use Rattle.stream_task.specs.declared.table.Plan.TheVariants.{Refuses, Becomes, Adds}
use Rattle.stream_task.specs.declared.table.Went.{Went}
use Rattle.stream_task.specs.declared.table.Went.TheVariants.{Waits, Still, Out, Stopped, Short}
use Rattle.stream_task.specs.declared.work.Kind.TheVariants as kind
use Rattle.stream_task.proofs.StepLemmas.{none_left}

-- ---- a statement that runs isn't skipped

abbrev IsRun : Outcome → Type 0
IsRun Skipped = ⊥
IsRun o = Unit {0}

abbrev RunsWent : Option Went → Type 0
RunsWent (Some (Out o next)) = IsRun o
RunsWent went = Unit {0}

abbrev RunsTaken : Taken → Type 0
RunsTaken (took o next rest) = IsRun o
RunsTaken taken = Unit {0}

runs_answer : (want_rows : Bool) (given : Answer) → IsRun (outcome_of want_rows given)
runs_answer want_rows (Gave given) = tt
runs_answer want_rows (Refused refusal) = tt

runs_alone : (want_rows : Bool) (s : TxnState) (e : Entry) → RunsWent (takes_alone want_rows s e)
runs_alone want_rows s (entry.Alone by ran given has_written) = runs_answer want_rows given
runs_alone want_rows s (entry.Failed by None why) = tt
runs_alone want_rows s e = tt

runs_ran : (want_rows : Bool) (s : TxnState) (e : Entry) → RunsWent (takes_ran want_rows s e)
runs_ran want_rows s (entry.Ran unit ran given) = runs_answer want_rows given
runs_ran want_rows s (entry.Failed by (Some unit) why) = tt
runs_ran want_rows s e = tt

runs_upgrade : (want_rows : Bool) (s : TxnState) (own : ℕ) (e : Entry) → RunsWent (takes_upgrade want_rows s own e)
runs_upgrade want_rows s own (entry.Denied unit why) = tt
runs_upgrade want_rows s own (entry.Ran unit ran given) = runs_answer want_rows given
runs_upgrade want_rows s own (entry.Failed by (Some unit) why) = tt
runs_upgrade want_rows s own e = tt

runs_begun : (s : TxnState) (begun : ℕ → Went) (b : Option (Result ℕ Code)) → ((unit : ℕ) → RunsWent (Some (begun unit))) → RunsWent (takes_begun s begun b)
runs_begun s begun None h = tt
runs_begun s begun (Some (Ok unit)) h = h unit
runs_begun s begun (Some (Err c)) h = tt

runs_ended : (e : Entry) → RunsWent (takes_ended e)
runs_ended (entry.Ended unit end) = tt
runs_ended (entry.Failed by (Some unit) why) = tt
runs_ended e = tt

runs_row : (had : ℕ → ℕ) (want_rows : Bool) (s : TxnState) (r : Row) (e : Entry) → RunsWent (takes had want_rows s r e)
runs_row had want_rows s row.Alone e = runs_alone want_rows s e
runs_row had want_rows s row.ReadAlone e = runs_alone want_rows s e
runs_row had want_rows s row.Begin e = runs_begun s _ (begun_by e) (λ unit. tt)
runs_row had want_rows s row.BeginFirst e = runs_begun s _ (begun_by e) (λ unit. tt)
runs_row had want_rows s row.ReadFirst e = runs_begun s _ (begun_by e) (λ unit. tt)
runs_row had want_rows s (row.Run unit) e = runs_ran want_rows s e
runs_row had want_rows s (row.Upgrade unit began) e = runs_upgrade want_rows s unit e
runs_row had want_rows s (row.Commit unit) e = runs_ended e
runs_row had want_rows s (row.EndRead unit) e = runs_ended e
runs_row had want_rows s (row.Undo unit) e = runs_ended e

runs_went : (w : Option Went) (rest : List Entry) (more : TxnState → Taken) → RunsWent w → ((next : TxnState) → RunsTaken (more next)) → RunsTaken (took_went w rest more)
runs_went None rest more h m = tt
runs_went (Some Waits) rest more h m = tt
runs_went (Some (Still u)) rest more h m = m u
runs_went (Some (Out o u)) rest more h m = h
runs_went (Some (Stopped c u)) rest more h m = tt
runs_went (Some (Short u)) rest more h m = tt

runs_without : (p : Plan) (s : TxnState) → RunsTaken (took_without p s)
runs_without (Refuses c) s = tt
runs_without (Becomes u) s = tt
runs_without (Adds r) s = tt

runs_with : (had : ℕ → ℕ) (want_rows : Bool) (p : Plan) (s : TxnState) (e : Entry) (es : List Entry) (more : TxnState → Taken) → ((next : TxnState) → RunsTaken (more next)) → RunsTaken (took_with had want_rows p s e es more)
runs_with had want_rows (Refuses c) s e es more m = tt
runs_with had want_rows (Becomes u) s e es more m = tt
runs_with had want_rows (Adds r) s e es more m = runs_went (takes had want_rows s r e) es more (runs_row had want_rows s r e) m

runs_class : (shared : Bool) (had : ℕ → ℕ) (want_rows : Bool) (c : Class) (es : List Entry) (s : TxnState) → RunsTaken (class_means shared had want_rows c es s)
runs_class shared had want_rows c [] s = runs_without (plan shared s c) s
runs_class shared had want_rows c (e ∷ es) s = runs_with had want_rows (plan shared s c) s e es _ (λ next. runs_class shared had want_rows c es next)

runs_ready : (shared : Bool) (had : ℕ → ℕ) (want_rows : Bool) (ready : Result Prepared Code) (es : List Entry) (s : TxnState) → RunsTaken (ready_means shared had want_rows ready es s)
runs_ready shared had want_rows (Err c) es s = tt
runs_ready shared had want_rows (Ok ready) es s = runs_class shared had want_rows ready.class es s

-- ---- the turns of a batch

-- the step whose turn it is
pub record IsAt (xs : List Step) (n : ℕ) (x : Step) (rest : List Step) : Type 0 where
  pub within : n < length xs
  pub here : slice_get xs n ≡ Some x
  pub later : drop (suc n) xs ≡ rest

at_step : (n : ℕ) (xs : List Step) (x : Step) (rest : List Step) → drop n xs ≡ x ∷ rest → IsAt xs n x rest
at_step zero [] x rest e = absurd (cc)
at_step zero (y ∷ ys) x rest e = record { within = omega arith; here = ap (λ z. Some z) (let same : y ≡ x = cc in same); later = let same : ys ≡ rest = cc in same }
at_step (suc n) [] x rest e = absurd (cc)
at_step (suc n) (y ∷ ys) x rest e = let h = at_step n ys x rest e in record { within = let w : n < length ys = h.within in omega arith; here = h.here; later = h.later }

passes : (c : Option Cond) (done : List Outcome) (auto : Bool) → is_skipped c done auto ≡ true → IsSomeAnd c (λ x. holds_on done auto x ≡ false)
passes None done auto h = absurd (cc)
passes (Some c) done auto h = by_test (holds_on done auto c) h
  where
    by_test : (b : Bool) → not b ≡ true → b ≡ false
    by_test true g = absurd (cc)
    by_test false g = refl

stays : (c : Option Cond) (done : List Outcome) (auto : Bool) → is_skipped c done auto ≡ false → IsSomeAnd c (λ x. holds_on done auto x ≡ false) → ⊥
stays None done auto h p = p
stays (Some c) done auto h p = let same : true ≡ false = ap not (sym p) ∙ h in cc

next_at : (b : Batch) (done : List Outcome) (auto : Bool) (x : Step) (P : Step → Type 0) → slice_get b.steps (length done) ≡ Some x → P x → IsSomeAnd (slice_get b.steps (length done)) P
next_at b done auto x P e h = subst (λ o. IsSomeAnd o P) (sym e) h

skips_turn : (b : Batch) (autos : List Bool) (done : List Outcome) (auto : Bool) (x : Step) (rest : List Step) → IsAt b.steps (length done) x rest → is_skipped x.condition done auto ≡ true → Turns b autos done → Turns b (autos ++ auto ∷ []) (done ++ Skipped ∷ [])
skips_turn b autos done auto x rest at skip t = more_turns autos done auto next.Skip Skipped t (at.within, next_at b done auto x (IsPassedOver done auto) at.here (passes x.condition done auto skip)) (λ e. cc) (λ e. refl, λ e. refl)

run_not_skipped : (o : Outcome) → IsRun o → o ≡ Skipped → ⊥
run_not_skipped o h e = subst IsRun e h

runs_turn : (b : Batch) (autos : List Bool) (done : List Outcome) (auto : Bool) (x : Step) (rest : List Step) (o : Outcome) → IsAt b.steps (length done) x rest → is_skipped x.condition done auto ≡ false → IsRun o → Turns b autos done → Turns b (autos ++ auto ∷ []) (done ++ o ∷ [])
runs_turn b autos done auto x rest o at keep run t =
    more_turns autos done auto (next.Run (record { ref_ptr = (0, 0); now = x.stmt })) o t
    (at.within, next_at b done auto x (λ s. (IsPassedOver done auto s → ⊥) × (x.stmt ≡ s.stmt)) at.here (stays x.condition done auto keep, refl)) (λ e. cc) (λ e. absurd (run_not_skipped o run e), λ e. cc)

more_left : (b : Batch) (done : List Outcome) (o : Outcome) (x : Step) (rest : List Step) → IsAt b.steps (length done) x rest → drop (length (done ++ o ∷ [])) b.steps ≡ rest
more_left b done o x rest at = ap (λ n. drop n b.steps) (length-append done (o ∷ []) ∙ add-one (length done)) ∙ at.later

then_meant : (b : Batch) (done : List Outcome) (texts : List StoredText) (t : Taken) (more : Outcome → Session → List Entry → Meant) → ((autos : List Bool) × BatchMeans b autos done) → RunsTaken t
    → ((o : Outcome) (s : Session) (rest : List Entry) → IsRun o → OutcomesAreMeant b (more o s rest)) → OutcomesAreMeant b (then_means kind.Batch done texts t more)
then_meant b done texts (short u) more d r m = d
then_meant b done texts (took o u rest) more d r m = m o _ rest r
then_meant b done texts (broke c u rest) more d r m = tt
then_meant b done texts unfit more d r m = tt

steps_meant : (shared : Bool) (had : ℕ → ℕ) (b : Batch) (left : List Step) (done : List Outcome) (autos : List Bool) (s : Session) (es : List Entry) → drop (length done) b.steps ≡ left → Turns b autos done
    → OutcomesAreMeant b (steps_mean shared had kind.Batch left done s es)
steps_meant shared had b [] done autos s es e t = let means = turns_mean b autos done t in (none_left (length done) b.steps means.within e, (autos, means))
steps_meant shared had b (x ∷ xs) done autos s es e t = elim (cases_Bool (is_skipped x.condition done (is_auto s.state))) [
  | inl y ↦ rw y (steps_meant shared had b xs (done ++ Skipped ∷ []) (autos ++ is_auto s.state ∷ []) s es (more_left b done Skipped x xs at) (skips_turn b autos done (is_auto s.state) x xs at y t))
  | inr n ↦ rw n (then_meant b done s.texts (statement_means shared had s x.stmt es) _ (autos, turns_mean b autos done t) (runs_ready shared had x.stmt.want_rows (ready_of s.texts x.stmt) es s.state)
      (λ o next rest run. steps_meant shared had b xs (done ++ o ∷ []) (autos ++ is_auto s.state ∷ []) next rest (more_left b done o x xs at) (runs_turn b autos done (is_auto s.state) x xs o at n run t)))
]
  where
    at : IsAt b.steps (length done) x xs
    at = at_step (length done) b.steps x xs e

pub batches_meant : BatchesAreMeant
batches_meant shared had b s es = steps_meant shared had b b.steps [] [] s es refl no_turn

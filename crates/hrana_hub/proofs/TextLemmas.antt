-- Steps of a batch, as the texts are put into them one after another.
use Rattle.std.proofs.Common.{◌≡◌, ℕ, zero, suc, List, [], ◌∷◌, ◌++◌, Option, None, Some, refl, sym, ap, subst, append_assoc, slice_get}
use Rattle.std.specs.Prelude.{IfSome, IfOk, Result, Ok, Err}
use Rattle.hrana_value.specs.declared.failures.NoMemory.{NoMemory}
use Rattle.hrana_stmt.specs.declared.statements.Stmt.{Stmt}
use Rattle.hrana_stmt.specs.declared.statements.SqlRef.{SqlRef}
use Rattle.hrana_batch.specs.Conditions.{NamesBelow}
use Rattle.hrana_batch.specs.Progress.{NamesEarlierSteps}
use Rattle.hrana_batch.specs.declared.conditions.Cond.{Cond}
use Rattle.hrana_batch.specs.declared.batches.Batch.{Batch}
use Rattle.hrana_batch.specs.declared.batches.Step.{Step}
use Rattle.stream_requests.specs.declared.asks.Ask.{Ask}
use Rattle.stream_requests.specs.declared.asks.Ask.TheVariants as ask
use Rattle.stream_task.specs.Doing.{MayBeAsked}
use Rattle.stream_task.specs.declared.texts.StoredText.{StoredText}
use Rattle.hrana_hub.specs.Texts.{put_text, put_stmt, put_step, put_steps, put_ask, step_with, step_before, as_execute, as_batch, as_sequence}
use Rattle.hrana_hub.proofs.MapLemmas.{none_some, some_one}

-- these steps, and those that come behind them
abbrev pub steps_behind : List Step → Option (List Step) → Option (List Step)
steps_behind done None = None
steps_behind done (Some steps) = Some (done ++ steps)

behind_more : (done : List Step) (put : Step) (steps : Option (List Step)) → steps_behind done (step_before (Some put) steps) ≡ steps_behind (done ++ put ∷ []) steps
behind_more done put None = refl
behind_more done put (Some steps) = ap Some (simp append_assoc)

-- one more step
pub put_more : (texts : List StoredText) (done : List Step) (step put : Step) (steps : List Step) → put_step texts step ≡ Some put
    → steps_behind done (put_steps texts (step ∷ steps)) ≡ steps_behind (done ++ put ∷ []) (put_steps texts steps)
put_more texts done step put steps is = rw is (behind_more done put (put_steps texts steps))

-- ---- the conditions stay

step_condition : (step put : Step) (stmt : Option Stmt) → step_with step stmt ≡ Some put → step.condition ≡ put.condition
step_condition step put None e = absurd (none_some e)
step_condition step put (Some stmt) e = ap (λ (s : Step). s.condition) (some_one e)

-- what holds of each condition by its place holds of each still
abbrev HoldsAt : (Option Cond → Type 0) → List Step → ℕ → Type 0
HoldsAt P steps i = IfSome (slice_get steps i) (λ s. P s.condition)

put_first : (P : Option Cond → Type 0) (step : Step) (steps put : List Step) (i : ℕ) (stmt : Option Stmt) (first : Option Step) (rest : Option (List Step)) → step_with step stmt ≡ first → step_before first rest ≡ Some put
    → ((later : List Step) (k : ℕ) → rest ≡ Some later → HoldsAt P steps k → HoldsAt P later k) → HoldsAt P (step ∷ steps) i → HoldsAt P put i
put_first P step steps put i stmt None rest p e later h = absurd (none_some e)
put_first P step steps put i stmt (Some first) None p e later h = absurd (none_some e)
put_first P step steps put zero stmt (Some first) (Some rest) p e later h = subst (λ (xs : List Step). HoldsAt P xs zero) (some_one e) (subst P (step_condition step first stmt p) h)
put_first P step steps put (suc i) stmt (Some first) (Some rest) p e later h = subst (λ (xs : List Step). HoldsAt P xs (suc i)) (some_one e) (later rest i refl h)

put_conditions : (P : Option Cond → Type 0) (texts : List StoredText) (steps put : List Step) (i : ℕ) → put_steps texts steps ≡ Some put → HoldsAt P steps i → HoldsAt P put i
put_conditions P texts [] put i e h = subst (λ (xs : List Step). HoldsAt P xs i) (some_one e) tt
put_conditions P texts (step ∷ steps) put i e h =
    put_first P step steps put i (put_stmt texts step.stmt) (put_step texts step) (put_steps texts steps) refl e (λ later k is held. put_conditions P texts steps later k is held) h

-- ---- a request that may be asked may be asked with the texts put into it

put_execute : (stmt : Option Stmt) (put : Ask) → as_execute stmt ≡ Some put → MayBeAsked put
put_execute None put e = absurd (none_some e)
put_execute (Some stmt) put e = subst MayBeAsked (some_one e) tt

put_sequence : (named : Option SqlRef) (put : Ask) → as_sequence named ≡ Some put → MayBeAsked put
put_sequence None put e = absurd (none_some e)
put_sequence (Some named) put e = subst MayBeAsked (some_one e) tt

put_batch : (texts : List StoredText) (batch : Batch) (steps : Option (List Step)) (put : Ask) → NamesEarlierSteps batch → put_steps texts batch.steps ≡ steps → as_batch steps ≡ Some put → MayBeAsked put
put_batch texts batch None put earlier is e = absurd (none_some e)
put_batch texts batch (Some steps) put earlier is e =
    subst MayBeAsked (some_one e) (λ i. put_conditions (λ c. IfSome c (NamesBelow i)) texts batch.steps steps i is (earlier i))

pub put_keeps : (texts : List StoredText) (what put : Ask) → MayBeAsked what → put_ask texts what ≡ Some put → MayBeAsked put
put_keeps texts (ask.Execute stmt) put may e = put_execute (put_stmt texts stmt) put e
put_keeps texts (ask.Batch batch) put may e = put_batch texts batch (put_steps texts batch.steps) put may refl e
put_keeps texts (ask.Sequence named) put may e = put_sequence (put_text texts named) put e
put_keeps texts (ask.Cursor batch) put may e = absurd may
put_keeps texts (ask.Fetch count) put may e = absurd may
put_keeps texts ask.CloseCursor put may e = absurd may
put_keeps texts ask.GetAutocommit put may e = subst MayBeAsked (some_one e) tt
put_keeps texts (ask.StoreSql number sql) put may e = subst MayBeAsked (some_one e) tt
put_keeps texts (ask.CloseSql number) put may e = subst MayBeAsked (some_one e) tt
put_keeps texts ask.Close put may e = subst MayBeAsked (some_one e) tt

pub put_asked : (texts : List StoredText) (what : Ask) (r : Result (Option Ask) NoMemory) → MayBeAsked what → IfOk r (λ put. put ≡ put_ask texts what) → IfOk r (λ put. IfSome put MayBeAsked)
put_asked texts what (Ok None) may e = tt
put_asked texts what (Ok (Some put)) may e = put_keeps texts what put may (sym e)
put_asked texts what (Err short) may e = tt

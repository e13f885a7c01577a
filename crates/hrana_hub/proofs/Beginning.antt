-- The agreement of a new hub, of one whose entries were taken, and of one without streams.
use Rattle.std.proofs.Common.{◌≡◌, ℕ, Bool, List, [], Option, None, Some, refl, sym, ap, ◌∙◌, subst, arith, is_some, true≢false}
use Rattle.serial_order.specs.Serial.{Meaning}
use Rattle.txn_table.specs.Turns.{Turns, no_turns, has}
use Rattle.engine_core.specs.Transactions.{View}
use Rattle.engine_core.specs.declared.statement.BoundStmt.{BoundStmt}
use Rattle.engine_core.specs.declared.entries.Answer.{Answer}
use Rattle.stream_task.specs.Leads.{StandsFor, BeginsStanding}
use Rattle.stream_task.specs.Together.{States, Together, BeginsTogether, IsOwned, unit_at, numbered}
use Rattle.hrana_hub.specs.Agrees.{IsNumbered, IsCounted, IsTied, IsNew, NewHubAgrees, TakingAgrees, NothingLives, open_units}
use Rattle.hrana_hub.specs.State.{Stream, State, Seen, states_of}
use Rattle.hrana_hub.proofs.MapLemmas.{none_some, rises_nil}
use Rattle.hrana_hub.proofs.Adding.{alike, hub_stands}
use Rattle.baton_store.specs.Batons.{Batons, no_batons}
use Rattle.hrana_hub.proofs.Agreeing.{same_agrees, stays_same}
use Rattle.hrana_hub.proofs.Tied.{tied_first}

-- what holds of the first table, the first number and no stream
at_first : (P : Turns → ℕ → States → Type 0) (given : Option (List ℕ)) (h : Seen) → IsNew given h → P no_turns 1 (λ n. None) → P h.turns h.noted.next (states_of h.state.streams)
at_first P given h new p =
    subst (λ t. P t h.noted.next (states_of h.state.streams)) (sym new.turns) (subst (λ k. P no_turns k (states_of h.state.streams)) (sym new.next) (subst (λ (s : State). P no_turns 1 (states_of s.streams)) (sym new.state) p))

pub new_agrees : {D : Type 0} (told shared : Bool) (m : Meaning D BoundStmt Answer) → BeginsTogether D told shared → BeginsStanding shared m → NewHubAgrees told shared m
new_agrees told shared m begins stands token h db live new none = (
  record {
    together = at_first (λ t k states. Together told shared db live t k states) token h new (begins db live 1 none);
    waiters = λ n w. absurd (true≢false (sym w ∙ ap (λ (t : Turns). has (numbered n) t.waiters) new.turns));
    numbers = subst IsNumbered (sym new.state) (record { rising = rises_nil Stream; own = λ n x e. absurd (none_some e); opened = λ n l. refl });
    version = ap (λ (s : State). s.version) new.state ∙ sym (ap (λ (t : Turns). t.version) new.turns);
    next = ap (λ (s : State). s.next) new.state ∙ sym new.next;
    places = (let units = ap (λ (s : State). open_units s.streams) new.state in omega (arith, units));
    counts = subst IsCounted (sym new.state) (record { streams = omega arith; units = omega arith; commits = omega arith; batons = omega arith });
    tied = λ runs. subst (IsTied h.state.streams) (sym new.store) (subst (λ (s : State). IsTied s.streams no_batons) (sym new.state) tied_first);
    issued = ap (λ (b : Batons). b.issued) new.store ∙ sym (ap (λ (s : State). s.issued) new.state);
  },
  at_first (λ t k states. StandsFor shared m db [] db live t k states) token h new (stands db live none),
)

pub taken_agrees : {D : Type 0} (told shared : Bool) (m : Meaning D BoundStmt Answer) → TakingAgrees told shared m
taken_agrees told shared m old new db live taken = (
  λ h. same_agrees told shared db live old new h (stays_same old new taken.state taken.turns taken.store taken.next taken.places),
  λ first journal h. hub_stands shared m db live old new (alike old new (ap (λ (s : State). s.streams) taken.state) taken.turns taken.next) first journal h,
)

pub nothing_lives : (D : Type 0) (told shared : Bool) → NothingLives D told shared
nothing_lives D told shared h db live a empty unit = by (live unit) refl
  where
    by : (o : Option (View D)) → live unit ≡ o → o ≡ None
    by None e = refl
    by (Some view) e = absurd (let o : IsOwned (states_of h.state.streams) unit = a.together.owned unit (ap is_some e) in none_some (sym (ap (λ es. unit_at (states_of es o.stream)) empty) ∙ o.opened))

-- Arrivals add no entry, and leave what hub and engine stand for.
use Rattle.std.proofs.Common.{◌≡◌, ◌+◌, ℕ, Bool, List, [], Option, None, Some, sym, ap, ◌∙◌, subst, arith, inl, inr}
use Rattle.serial_order.specs.Serial.{Meaning}
use Rattle.http_wire.specs.declared.outs.Outs.{Outs}
use Rattle.txn_table.specs.Turns.{Turns, with_place}
use Rattle.engine_core.specs.Noted.{Noted}
use Rattle.engine_core.specs.Transactions.{Lives}
use Rattle.engine_core.specs.declared.statement.BoundStmt.{BoundStmt}
use Rattle.engine_core.specs.declared.entries.Answer.{Answer}
use Rattle.engine_core.specs.declared.entries.Entry.{Entry}
use Rattle.stream_task.specs.Leads.{StandsFor, JoinsStanding}
use Rattle.stream_task.specs.Together.{numbered}
use Rattle.hrana_hub.specs.Adds.{Adds}
use Rattle.hrana_hub.specs.Agrees.{HubAgrees, HubStands, IsNumbered}
use Rattle.hrana_hub.specs.Arrivals.{TurnsStay}
use Rattle.hrana_hub.specs.Maps.{at, placed}
use Rattle.hrana_hub.specs.State.{Stream, Seen, states_of, state_in}
use Rattle.stream_task.specs.Together.{Put}
use Rattle.stream_task.specs.declared.session.TxnState.TheVariants.{Auto}
use Rattle.hrana_hub.specs.Step.{TextSteps, BinarySteps, with_new_conn}
use Rattle.hrana_hub.proofs.Adding.{hub_stands, leads_none, adds_nothing}
use Rattle.hrana_hub.proofs.Agreeing.{same_states}
use Rattle.hrana_hub.proofs.ArrivalAgreeing.{Moves, keeps_all, puts_one, adds_one, Arrived, placed_states, text_arrived, binary_arrived, new_arrived}

-- a place more in the table leaves its version
version_stays : (old new : Seen) → TurnsStay old new → new.turns.version ≡ old.turns.version
version_stays old new (inl stay) = ap (λ (t : Turns). t.version) stay.0
version_stays old new (inr place) = ap (λ (t : Turns). t.version) place

module _ {D : Type 0} (shared : Bool) (m : Meaning D BoundStmt Answer) (db : D) (live : Lives D) (old new : Seen) where
  abbrev Stays : D → List Entry → Type 0
  Stays first journal = HubStands shared m first journal db live old → HubStands shared m first journal db live new

  joined_stands : (x : Stream) → JoinsStanding shared m → IsNumbered old.state → new.turns ≡ with_place old.turns (numbered (old.state.opened + 1)) → new.noted.next ≡ old.noted.next
      → x.task.session.state ≡ Auto → new.state.streams ≡ placed (old.state.opened + 1) x old.state.streams → (first : D) (journal : List Entry) → Stays first journal
  joined_stands x joins numbers turns next auto streams first journal h =
      let n = old.state.opened + 1 in
      let t = with_place old.turns (numbered n) in
      let free : at n old.state.streams ≡ None = numbers.opened n (omega arith) in
      let states : Put (states_of old.state.streams) (states_of (placed n x old.state.streams)) n (Some Auto) = subst (λ v. Put (states_of old.state.streams) (states_of (placed n x old.state.streams)) n (Some v)) auto (placed_states n x old.state.streams) in
      let stands : StandsFor shared m first journal db live t old.noted.next (states_of (placed n x old.state.streams)) =
      joins db live old.turns old.noted.next (states_of old.state.streams) (states_of (placed n x old.state.streams)) (numbered n) (ap state_in free) states first journal h in
      subst (λ (u : Turns). StandsFor shared m first journal db live u new.noted.next (states_of new.state.streams)) (sym turns)
      (subst (λ k. StandsFor shared m first journal db live t k (states_of new.state.streams)) (sym next) (subst (λ es. StandsFor shared m first journal db live t old.noted.next (states_of es)) (sym streams) stands))

  arrived_stands : JoinsStanding shared m → IsNumbered old.state → TurnsStay old new → new.noted.next ≡ old.noted.next → Moves old.state new.state → (first : D) (journal : List Entry) → Stays first journal
  arrived_stands joins numbers turns next (keeps_all streams opened) first journal =
      hub_stands shared m db live old new (record { version = version_stays old new turns; next = next; states = λ k. ap (λ es. states_of es k) streams }) first journal
  arrived_stands joins numbers turns next (puts_one n x y there stream state streams opened) first journal =
      hub_stands shared m db live old new (record { version = version_stays old new turns; next = next; states = λ k. ap (λ es. states_of es k) streams ∙ same_states n x y old.state.streams there state k }) first journal
  arrived_stands joins numbers turns next (adds_one x named auto streams opened) first journal = elim turns [
    | inl stay ↦ absurd (let same = stay.1 in omega (arith, same, opened))
    | inr place ↦ joined_stands x joins numbers place next auto streams first journal
  ]

module _ {X D : Type 0} {told shared : Bool} {m : Meaning D BoundStmt Answer} {db : X → D} {live : X → Lives D} {faults : X → ℕ} (engine : X) (old new : Seen) (P : List Entry → Type 0)
    (joins : JoinsStanding shared m) (agrees : HubAgrees told shared (db engine) (live engine) old) (noted : new.noted ≡ old.noted) (turns : TurnsStay old new) (holds : P []) where
  pub arrived_adds : Moves old.state new.state → Adds told shared m db live faults engine engine old new P
  arrived_adds moves = adds_nothing engine old new P (ap (λ (n : Noted). n.list) noted)
      (leads_none shared m (db engine) (live engine) old new (arrived_stands shared m (db engine) (live engine) old new joins agrees.numbers turns (ap (λ (n : Noted). n.next) noted) moves)) holds

  pub text_adds : (token : Option (List ℕ)) (c : ℕ) (text : List ℕ) (out : Outs) → TextSteps token old.state c text out new.state → Adds told shared m db live faults engine engine old new P
  text_adds token c text out steps = (let a : Arrived old.state new.state = text_arrived token old.state c text out new.state steps in arrived_adds a.moves)

  pub binary_adds : (c : ℕ) (out : Outs) → BinarySteps old.state c out new.state → Adds told shared m db live faults engine engine old new P
  binary_adds c out steps = (let a : Arrived old.state new.state = binary_arrived old.state c out new.state steps in arrived_adds a.moves)

  pub opened_adds : (c : ℕ) (closing : Bool) → new.state ≡ with_new_conn c closing old.state → Adds told shared m db live faults engine engine old new P
  opened_adds c closing state = (let a : Arrived old.state new.state = new_arrived old.state c closing new.state state in arrived_adds a.moves)

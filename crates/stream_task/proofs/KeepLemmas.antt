-- What an entry keeps of the live transactions and the turn.
use Rattle.std.proofs.Common.{◌≡◌, ◌≢◌, ◌||◌, ℕ, Bool, true, false, cond, Option, Some, None, refl, sym, ap, ap₂, ◌∙◌, subst, arith, inl, inr}
use Rattle.std.specs.Option.{IsSome}
use Rattle.std.proofs.lemmas.Bool.{cases_Bool, cases_eq}
use Rattle.hrana_value.specs.declared.StreamNo.{StreamNo}
use Rattle.serial_order.specs.Serial.{Meaning}
use Rattle.txn_table.specs.Turns.{Turns, same_stream, given_back}
use Rattle.txn_table.proofs.StreamLemmas.{true_not_false, one_of_same}
use Rattle.engine_core.specs.Engine.{is_write}
use Rattle.engine_core.specs.Transactions.{Lives, View, NoWriter, NoneLive, NoOtherWriter, SameLive, Became}
use Rattle.engine_core.specs.declared.statement.BoundStmt.{BoundStmt}
use Rattle.engine_core.specs.declared.entries.Answer.{Answer}
use Rattle.engine_core.specs.declared.entries.How.TheVariants as how
use Rattle.engine_core.specs.declared.entries.Entry.{Entry}
use Rattle.engine_core.specs.declared.entries.Entry.TheVariants as entry
use Rattle.stream_task.specs.Adds.{next_by}
use Rattle.stream_task.specs.Effect.{Effects}
use Rattle.stream_task.specs.Moved.{ComesFrom, GoneFrom, AreBelow, WritesByTurn, LivesByTurn, HasOne, StaysOne, turn_by}
use Rattle.stream_task.proofs.TurnLemmas.{none_some, some_one}
use Rattle.stream_task.proofs.OriginLemmas.{own_lives}

no_some : {X : Type 0} (o : Option X) → o ≡ None → IsSome o → ⊥
no_some None e h = true_not_false (sym h)
no_some (Some x) e h = none_some (sym e)

none_or : {X : Type 0} (o : Option X) → (IsSome o → ⊥) → o ≡ None
none_or None h = refl
none_or (Some x) h = absurd (h refl)

some_along : {X : Type 0} (o p : Option X) → o ≡ p → IsSome o → IsSome p
some_along {X} o p e h = subst (λ (x : Option X). IsSome x) e h

-- ---- numbers

apart : {D : Type 0} (live : Lives D) (n u : ℕ) → live n ≡ None → IsSome (live u) → n ≢ u
apart live n u none some e = no_some (live n) none (some_along (live u) (live n) (sym (ap live e)) some)

below_same : {D : Type 0} (live live' : Lives D) (next : ℕ) → SameLive live live' → AreBelow live next → AreBelow live' next
below_same live live' next same below n l = same n ∙ below n l

below_became : {D : Type 0} (live live' : Lives D) (next u : ℕ) (r : Option (View D)) → IsSome (live u) → Became live live' u r → AreBelow live next → AreBelow live' next
below_became live live' next u r some became below n l = became.others n (apart live n u (below n l) some) ∙ below n l

pub below_after : {D : Type 0} (told : Bool) (m : Meaning D BoundStmt Answer) (writes : Bool) (db : D) (live : Lives D) (db' : D) (live' : Lives D) (next : ℕ) (t : Turns) (s : StreamNo) (added : Option Entry)
    → Effects told m writes db live db' live' added → ComesFrom told writes db live next t s added → AreBelow live next → AreBelow live' (next_by next added)
below_after told m w db live db' live' next t s None x f below = below_same live live' next x.lives below
below_after told m w db live db' live' next t s (Some (entry.Alone by q a wrote)) x f below = below_same live live' next x.lives below
below_after told m w db live db' live' next t s (Some (entry.Began u by)) x f below = λ n l.
    let number : u ≡ next = f.1.number in
    let ne : n ≢ u = λ e. absurd (omega (arith, l, e, number)) in
    x.lives.others n ne ∙ below n (omega (arith, l))
below_after told m w db live db' live' next t s (Some (entry.Ran u q a)) x f below = below_became live live' next u _ f.lives x.lives.now below
below_after told m w db live db' live' next t s (Some (entry.Denied u why)) x f below = below_same live live' next x.lives below
below_after told m w db live db' live' next t s (Some (entry.Ended u how.Committed)) x f below = below_became live live' next u _ (own_lives told db live u f.own) x.gone below
below_after told m w db live db' live' next t s (Some (entry.Ended u how.Read)) x f below = below_became live live' next u _ f.0.lives x.lives below
below_after told m w db live db' live' next t s (Some (entry.Ended u (how.Undone why))) x f below = below_became live live' next u _ f.lives x.lives below
below_after told m w db live db' live' next t s (Some (entry.Failed by None why)) x f below = below_same live live' next x.lives below
below_after told m w db live db' live' next t s (Some (entry.Failed by (Some u) why)) x f below = below_became live live' next u _ f.1.lives x.lives below

-- ---- writers

writers_same : {D : Type 0} (live live' : Lives D) → SameLive live live' → NoWriter live → NoWriter live'
writers_same live live' same none n v e = none n v (sym (same n) ∙ e)

writers_gone : {D : Type 0} (live live' : Lives D) (u : ℕ) → Became live live' u None → NoOtherWriter live u → NoWriter live'
writers_gone live live' u became only n v e =
    let ne : n ≢ u = λ i. none_some (sym became.here ∙ sym (ap live' i) ∙ e) in
    only n v (sym (became.others n ne) ∙ e) ne

writers_now : {D : Type 0} (live live' : Lives D) (u : ℕ) (now : View D) → Became live live' u (Some now) → now.is_writer ≡ false → NoWriter live → NoWriter live'
writers_now {D} live live' u now became reads none n v e = elim (cases_eq n u) [
  | inl i ↦ ap (λ (x : View D). x.is_writer) (some_one (sym e ∙ ap live' i ∙ became.here)) ∙ reads
  | inr ne ↦ none n v (sym (became.others n ne) ∙ e)
]

writers_began : {D : Type 0} (live live' : Lives D) (db : D) (t t' : Turns) (s : StreamNo) (u : ℕ) (w : Bool) → Became live live' u (Some (record { start = db; view = db; is_writer = w })) → t'.turn ≡ cond w (Some s) t.turn → WritesByTurn live t → WritesByTurn live' t'
writers_began live live' db t t' s u true became turn writers free = absurd (none_some (sym free ∙ turn))
writers_began live live' db t t' s u false became turn writers free = writers_now live live' u _ became refl (writers (sym turn ∙ free))

-- where nobody holds the turn after a statement in a unit, it read, and nobody held it before
ran_free : (t t' : Turns) (s : StreamNo) (b : Bool) → t'.turn ≡ cond b (Some s) t.turn → t'.turn ≡ None → (b ≡ false) × (t.turn ≡ None)
ran_free t t' s true turn free = absurd (none_some (sym free ∙ turn))
ran_free t t' s false turn free = (refl, sym turn ∙ free)

writers_back : {D : Type 0} (live live' : Lives D) (t t' : Turns) (s : StreamNo) (u : ℕ) → Became live live' u None → GoneFrom live t s u → t'.turn ≡ given_back t.turn s → WritesByTurn live t → WritesByTurn live' t'
writers_back live live' t t' s u became gone turn writers free = by_turn t.turn refl
  where
    by_turn : (o : Option StreamNo) → t.turn ≡ o → NoWriter live'
    by_turn None e = writers_gone live live' u became (λ k v h ne. writers e k v h)
    by_turn (Some h) e = elim (cases_Bool (same_stream h s)) [
      | inl i ↦ writers_gone live live' u became (gone.only (e ∙ ap Some (one_of_same h s i)))
      | inr n ↦
          let back : given_back (Some h) s ≡ None = ap (λ o. given_back o s) (sym e) ∙ sym turn ∙ free in
          absurd (none_some (let f : ◌≡◌ {A = Option StreamNo} (Some h) None = rw n at back in sym f))
    ]

pub writers_after : {D : Type 0} (told : Bool) (m : Meaning D BoundStmt Answer) (writes : Bool) (db : D) (live : Lives D) (db' : D) (live' : Lives D) (next : ℕ) (t t' : Turns) (s : StreamNo) (added : Option Entry)
    → ((y : BoundStmt) → m.is_write y ≡ is_write y.class) → Effects told m writes db live db' live' added → ComesFrom told writes db live next t s added → t'.turn ≡ turn_by s writes added t.turn → WritesByTurn live t → WritesByTurn live' t'
writers_after told m w db live db' live' next t t' s None law x f turn writers free = writers_same live live' x.lives (writers (sym turn ∙ free))
writers_after told m w db live db' live' next t t' s (Some (entry.Alone by q a wrote)) law x f turn writers free = writers_same live live' x.lives (writers (sym turn ∙ free))
writers_after told m w db live db' live' next t t' s (Some (entry.Began u by)) law x f turn writers free = writers_began live live' db t t' s u w x.lives turn writers free
writers_after told m w db live db' live' next t t' s (Some (entry.Ran u q a)) law x f turn writers free =
    let reads = ran_free t t' s (is_write q.class) turn free in
    let none = writers reads.1 in
    writers_now live live' u _ x.lives.now (ap₂ (λ a b. a || b) (none u x.lives.was x.lives.is) (law q ∙ reads.0)) none
writers_after told m w db live db' live' next t t' s (Some (entry.Denied u why)) law x f turn writers free = writers_same live live' x.lives (writers (sym turn ∙ free))
writers_after told m w db live db' live' next t t' s (Some (entry.Ended u how.Committed)) law x f turn writers free = writers_gone live live' u x.gone f.only
writers_after told m w db live db' live' next t t' s (Some (entry.Ended u how.Read)) law x f turn writers free = writers_gone live live' u x.lives (λ k v h ne. writers (sym turn ∙ free) k v h)
writers_after told m w db live db' live' next t t' s (Some (entry.Ended u (how.Undone why))) law x f turn writers free = writers_back live live' t t' s u x.lives f turn writers free
writers_after told m w db live db' live' next t t' s (Some (entry.Failed by None why)) law x f turn writers free = writers_same live live' x.lives (writers (sym turn ∙ free))
writers_after told m w db live db' live' next t t' s (Some (entry.Failed by (Some u) why)) law x f turn writers free = writers_back live live' t t' s u x.lives f.1 turn writers free

-- ---- no two transactions

one_same : {D : Type 0} (live live' : Lives D) → SameLive live live' → HasOne live → HasOne live'
one_same live live' same one a b h k = one a b (some_along (live' a) (live a) (same a) h) (some_along (live' b) (live b) (same b) k)

none_same : {D : Type 0} (live live' : Lives D) → SameLive live live' → NoneLive live → NoneLive live'
none_same live live' same none n = same n ∙ none n

was_live : {D : Type 0} (live live' : Lives D) (u : ℕ) (r : Option (View D)) → Became live live' u r → IsSome (live u) → (n : ℕ) → IsSome (live' n) → IsSome (live n)
was_live live live' u r became some n h = elim (cases_eq n u) [
  | inl i ↦ some_along (live u) (live n) (sym (ap live i)) some
  | inr ne ↦ some_along (live' n) (live n) (became.others n ne) h
]

one_became : {D : Type 0} (live live' : Lives D) (u : ℕ) (r : Option (View D)) → Became live live' u r → IsSome (live u) → HasOne live → HasOne live'
one_became live live' u r became some one a b h k = one a b (was_live live live' u r became some a h) (was_live live live' u r became some b k)

none_gone : {D : Type 0} (live live' : Lives D) (u : ℕ) → Became live live' u None → IsSome (live u) → HasOne live → NoneLive live'
none_gone live live' u became some one n = none_or (live' n) (λ h.
    let same : n ≡ u = one n u (was_live live live' u None became some n h) some in
    no_some (live' n) (ap live' same ∙ became.here) h)

one_began : {D : Type 0} (live live' : Lives D) (u : ℕ) (r : Option (View D)) → Became live live' u r → NoneLive live → HasOne live'
one_began live live' u r became none a b h k = is a h ∙ sym (is b k)
  where
    is : (n : ℕ) → IsSome (live' n) → n ≡ u
    is n h = elim (cases_eq n u) [
      | inl i ↦ i
      | inr ne ↦ absurd (no_some (live' n) (became.others n ne ∙ none n) h)
    ]

-- a unit that begins is alone, where the engine doesn't share, and is to write
abbrev pub BeginsAlone : {D : Type 0} → Bool → Bool → Lives D → Option Entry → Type 0
BeginsAlone shared writes live (Some (entry.Began u by)) = shared ≡ false → NoneLive live × (writes ≡ true)
BeginsAlone shared writes live added = Unit {0}

began_turn : (t t' : Turns) (s : StreamNo) (w : Bool) → w ≡ true → t'.turn ≡ cond w (Some s) t.turn → t'.turn ≡ None → ⊥
began_turn t t' s true e turn free = none_some (sym free ∙ turn)
began_turn t t' s false e turn free = true_not_false (sym e)

pub one_after : {D : Type 0} (shared told : Bool) (m : Meaning D BoundStmt Answer) (writes : Bool) (db : D) (live : Lives D) (db' : D) (live' : Lives D) (next : ℕ) (t t' : Turns) (s : StreamNo) (added : Option Entry)
    → Effects told m writes db live db' live' added → ComesFrom told writes db live next t s added → t'.turn ≡ turn_by s writes added t.turn → BeginsAlone shared writes live added → LivesByTurn shared live t → StaysOne shared live live' t'
one_after shared told m w db live db' live' next t t' s None x f turn b quiet alone one = (one_same live live' x.lives one, λ free. none_same live live' x.lives (quiet alone (sym turn ∙ free)))
one_after shared told m w db live db' live' next t t' s (Some (entry.Alone by q a wrote)) x f turn b quiet alone one = (one_same live live' x.lives one, λ free. none_same live live' x.lives (quiet alone (sym turn ∙ free)))
one_after shared told m w db live db' live' next t t' s (Some (entry.Began u by)) x f turn b quiet alone one = (one_began live live' u _ x.lives (b alone).0, λ free. absurd (began_turn t t' s w (b alone).1 turn free))
one_after shared told m w db live db' live' next t t' s (Some (entry.Ran u q a)) x f turn b quiet alone one =
    (one_became live live' u _ x.lives.now f.lives one, λ free. absurd (no_some (live u) (quiet alone (ran_free t t' s (is_write q.class) turn free).1 u) f.lives))
one_after shared told m w db live db' live' next t t' s (Some (entry.Denied u why)) x f turn b quiet alone one = (one_same live live' x.lives one, λ free. none_same live live' x.lives (quiet alone (sym turn ∙ free)))
one_after shared told m w db live db' live' next t t' s (Some (entry.Ended u how.Committed)) x f turn b quiet alone one =
    let some = own_lives told db live u f.own in (one_became live live' u _ x.gone some one, λ free. none_gone live live' u x.gone some one)
one_after shared told m w db live db' live' next t t' s (Some (entry.Ended u how.Read)) x f turn b quiet alone one = (one_became live live' u _ x.lives f.0.lives one, λ free. none_gone live live' u x.lives f.0.lives one)
one_after shared told m w db live db' live' next t t' s (Some (entry.Ended u (how.Undone why))) x f turn b quiet alone one = (one_became live live' u _ x.lives f.lives one, λ free. none_gone live live' u x.lives f.lives one)
one_after shared told m w db live db' live' next t t' s (Some (entry.Failed by None why)) x f turn b quiet alone one = (one_same live live' x.lives one, λ free. none_same live live' x.lives (quiet alone (sym turn ∙ free)))
one_after shared told m w db live db' live' next t t' s (Some (entry.Failed by (Some u) why)) x f turn b quiet alone one = (one_became live live' u _ x.lives f.1.lives one, λ free. none_gone live live' u x.lives f.1.lives one)

-- Streams that expire, the first that is due after the other.
use Rattle.std.proofs.Common.{◌≡◌, ◌≢◌, ◌<◌, ◌+◌, ◌-◌, ◌⊎◌, ◌&&◌, ◌||◌, ℕ, Bool, true, false, cond, nat_le, nat_lt, List, [], ◌∷◌, ◌++◌, Option, None, Some, MatchBool, refl, sym, ap, ◌∙◌, subst, arith, inl, inr, append_assoc, true≢false}
use Rattle.std.specs.Option.{IsSome}
use Rattle.std.proofs.lemmas.Bool.{cases_Bool, cases_eq, leb-false}
use Rattle.http_wire.specs.declared.outs.Outs.{Outs}
use Rattle.txn_table.specs.Turns.{has}
use Rattle.engine_core.specs.declared.entries.Entry.{Entry}
use Rattle.engine_core.specs.declared.entries.Undo.TheVariants as undo
use Rattle.engine_core.specs.Transactions.{Lives}
use Rattle.stream_task.specs.Session.{open_of}
use Rattle.stream_task.specs.Together.{Put, AgreesAt, numbered}
use Rattle.hrana_hub.specs.Maps.{Numbered, at, put, without, left_at, and_left, those_left}
use Rattle.hrana_hub.specs.State.{Stream, State, Seen, states_of, state_in, of_exchanges}
use Rattle.hrana_hub.specs.Agrees.{HubAgrees, IsNumbered, open_units}
use Rattle.hrana_hub.specs.Arrivals.{nothing, quiet}
use Rattle.hrana_hub.specs.Ended.{end_of}
use Rattle.hrana_hub.specs.Moments.{is_due, expired, left_of, after, first_due, expiries, at_moment, Expire}
use Rattle.hrana_hub.specs.declared.limits.TheConstants.{EXPIRY_MS}
use Rattle.hrana_hub.specs.Step.{MomentAt, Goes}
use Rattle.txn_table.specs.Turns.{Turns}
use Rattle.hrana_hub.proofs.EntryLemmas.{is_apart, at_put_other, at_without_other, without_first}
use Rattle.hrana_hub.proofs.MapLemmas.{none_some, some_one, at_first, at_later, put_first, put_later, AllAbove, Rises, rises_head, rises_tail}
use Rattle.hrana_hub.proofs.Agreeing.{put_states, numbers_put, units_put}
use Rattle.hrana_hub.proofs.Waiting.{known_put}

-- ---- what is left of a stream that expired

pub after_due : (now : ℕ) (x : Stream) → is_due now x ≡ true → after now x ≡ left_of x
after_due now x e = rw e refl

pub after_other : (now : ℕ) (x : Stream) → is_due now x ≡ false → after now x ≡ Some x
after_other now x e = rw e refl

-- a stream of a connection that expired isn't due any more
not_due : (now : ℕ) (x : Stream) → of_exchanges x ≡ false → is_due now (expired x) ≡ false
not_due now x e = ap (λ b. (b || false) && true && nat_le EXPIRY_MS (now - x.last_answer)) e

pub record IsDead (n : ℕ) (x : Stream) (old new : State) : Type 0 where
  pub states : Put (states_of old.streams) (states_of new.streams) n (Some (expired x).task.session.state)
  pub others : (k : ℕ) → k ≢ n → IsSome (at k old.streams) → IsSome (at k new.streams)
  pub numbers : IsNumbered new
  pub units : open_units new.streams + open_of x.task.session.state ≡ open_units old.streams

pub dead_of : (n : ℕ) (x : Stream) (old new : State) → IsNumbered old → at n old.streams ≡ Some x → new.streams ≡ put n (expired x) old.streams → new.opened ≡ old.opened → IsDead n x old new
dead_of n x old new h known streams opened = record {
  states = subst (λ es. Put (states_of old.streams) (states_of es) n (Some (expired x).task.session.state)) (sym streams) (put_states n x (expired x) old.streams known);
  others = λ k ne some. subst (λ es. IsSome (at k es)) (sym streams) (known_put n k x (expired x) old.streams known some);
  numbers = numbers_put old new n x (expired x) known refl streams opened h;
  units = (let units = units_put n x (expired x) old.streams known in let left = ap open_units streams in omega (arith, units, left));
}

-- ---- the first that is due

-- those below the number aren't due
abbrev pub NoneBelow : ℕ → ℕ → Numbered Stream → Type 0
NoneBelow now from [] = Unit {0}
NoneBelow now from (e ∷ es) = (e.0 < from → is_due now e.1 ≡ false) × NoneBelow now from es

above_below : (now n : ℕ) (es : Numbered Stream) → AllAbove n es → NoneBelow now n es
above_below now n [] a = tt
above_below now n (e ∷ es) a = ((λ l. absurd (omega (arith, l, a.0))), above_below now n es a.1)

pub none_below_first : (now : ℕ) (es : Numbered Stream) → NoneBelow now 0 es
none_below_first now [] = tt
none_below_first now (e ∷ es) = ((λ l. absurd (omega (arith, l))), none_below_first now es)

-- how many are due
abbrev pub due_count : ℕ → Numbered Stream → ℕ
due_count now [] = 0
due_count now (e ∷ es) = cond (is_due now e.1) 1 0 + due_count now es

-- what was found is due, and those before it aren't
pub data Found (now n : ℕ) : Numbered Stream → Type 0 where
  here : (e : ℕ × Stream) (es : Numbered Stream) → n ≡ e.0 → is_due now e.1 ≡ true → AllAbove n es → Found now n (e ∷ es)
  later : (e : ℕ × Stream) (es : Numbered Stream) → n ≢ e.0 → is_due now e.1 ≡ false → Found now n es → Found now n (e ∷ es)

found_above : (m now n : ℕ) {es : Numbered Stream} → Found now n es → AllAbove m es → m < n
found_above m now n (here e es own due above) a = omega (arith, own, a.0)
found_above m now n (later e es other due f) a = found_above m now n f a.1

found_later : (now n : ℕ) (e : ℕ × Stream) (es : Numbered Stream) → Rises (e ∷ es) → is_due now e.1 ≡ false → Found now n es → Found now n (e ∷ es)
found_later now n e es r q more = (let l : e.0 < n = found_above e.0 now n more (rises_head e es r) in later e es (λ same. omega (arith, same, l)) q more)

found_by : (now from n : ℕ) (e : ℕ × Stream) (es : Numbered Stream) → Rises (e ∷ es) → (e.0 < from → is_due now e.1 ≡ false) → (first_due now from es ≡ Some n → Found now n es)
    → (p : Bool) → nat_le from e.0 ≡ p → (q : Bool) → is_due now e.1 ≡ q → cond (p && q) (Some e.0) (first_due now from es) ≡ Some n → Found now n (e ∷ es)
found_by now from n e es r b on true p true q g = (let own : e.0 ≡ n = some_one g in here e es (sym own) q (subst (λ k. AllAbove k es) own (rises_head e es r)))
found_by now from n e es r b on true p false q g = found_later now n e es r q (on g)
found_by now from n e es r b on false p true q g = absurd (true≢false (sym q ∙ b (leb-false from e.0 p)))
found_by now from n e es r b on false p false q g = found_later now n e es r q (on g)

pub found : (now from n : ℕ) (es : Numbered Stream) → Rises es → NoneBelow now from es → first_due now from es ≡ Some n → Found now n es
found now from n [] r b f = absurd (none_some f)
found now from n (e ∷ es) r b f = found_by now from n e es r b.0 (λ g. found now from n es (rises_tail e es r) b.1 g) (nat_le from e.0) refl (is_due now e.1) refl f

-- ---- what it leaves

-- what has become of the stream is none that is due
pub data Left (now n : ℕ) (x : Stream) : Option Stream → Type 0 where
  gone : Left now n x None
  stays : (y : Stream) → is_due now y ≡ false → Left now n x (Some y)

pub left_as : (now n : ℕ) (x : Stream) → Left now n x (left_of x)
left_as now n x = by (of_exchanges x) refl
  where
    by : (b : Bool) → of_exchanges x ≡ b → Left now n x (cond b None (Some (expired x)))
    by true e = gone
    by false e = stays (expired x) (not_due now x e)

pub found_known : (now n : ℕ) {es : Numbered Stream} → Found now n es → (x : Stream) × (at n es ≡ Some x)
found_known now n (here e es own due above) = (e.1, at_first n e es own)
found_known now n (later e es other due f) = (let k = found_known now n f in (k.0, at_later n e es other ∙ k.1))

-- the first is gone, or has become another
left_first : (n : ℕ) (o : Option Stream) (e : ℕ × Stream) (es : Numbered Stream) → n ≡ e.0 → left_at n o (e ∷ es) ≡ and_left e.0 o es
left_first n None e es own = ap (λ k. without k (e ∷ es)) own ∙ without_first e es
left_first n (Some y) e es own = put_first n y e es own

left_later : (n : ℕ) (o : Option Stream) (e : ℕ × Stream) (es : Numbered Stream) → n ≢ e.0 → left_at n o (e ∷ es) ≡ e ∷ left_at n o es
left_later n None e es other = ap (λ b. cond b es (e ∷ without n es)) (is_apart n e.0 other)
left_later n (Some y) e es other = put_later n y e es other

module _ (now n : ℕ) (x : Stream) (o : Option Stream) (left : Left now n x o) where
  none_expire : (k : ℕ) (es : Numbered Stream) → expiries now (and_left k o es) ≡ expiries now es
  none_expire k es = by left
    where
      by : {p : Option Stream} → Left now n x p → expiries now (and_left k p es) ≡ expiries now es
      by gone = refl
      by (stays y quiet) = rw quiet refl

  expiries_found : {es : Numbered Stream} → Found now n es → at n es ≡ Some x → expiries now es ≡ end_of undo.Expired (at n es) ++ expiries now (left_at n o es)
  expiries_found (here e es own due above) k = rw (left_first n o e es own, at_first n e es own, due) (ap (λ l. end_of undo.Expired (Some e.1) ++ l) (sym (none_expire e.0 es)))
  expiries_found (later e es other due f) k = rw (left_later n o e es other, at_later n e es other, due) (expiries_found f (sym (at_later n e es other) ∙ k))

  those_here : (k : ℕ) (es : Numbered Stream) → those_left (after now) (and_left k o es) ≡ and_left k o (those_left (after now) es)
  those_here k es = by left
    where
      by : {p : Option Stream} → Left now n x p → those_left (after now) (and_left k p es) ≡ and_left k p (those_left (after now) es)
      by gone = refl
      by (stays y quiet) = rw quiet refl

  those_found : {es : Numbered Stream} → o ≡ left_of x → Found now n es → at n es ≡ Some x → those_left (after now) es ≡ those_left (after now) (left_at n o es)
  those_found is (here e es own due above) k =
      let same : e.1 ≡ x = some_one (sym (at_first n e es own) ∙ k) in
      rw (left_first n o e es own) (ap (λ (p : Option Stream). and_left e.0 p (those_left (after now) es)) (after_due now e.1 due ∙ ap left_of same ∙ sym is) ∙ sym (those_here e.0 es))
  those_found is (later e es other due f) k = rw (left_later n o e es other) (ap (and_left e.0 (after now e.1)) (those_found is f (sym (at_later n e es other) ∙ k)))

  none_count : (k : ℕ) (es : Numbered Stream) → due_count now (and_left k o es) ≡ due_count now es
  none_count k es = by left
    where
      by : {p : Option Stream} → Left now n x p → due_count now (and_left k p es) ≡ due_count now es
      by gone = refl
      by (stays y quiet) = rw quiet (omega arith)

  pub count_found : {es : Numbered Stream} → Found now n es → due_count now (left_at n o es) + 1 ≡ due_count now es
  count_found (here e es own due above) = rw (left_first n o e es own, due) (omega (arith, none_count e.0 es))
  count_found (later e es other due f) = rw (left_later n o e es other) (omega (arith, count_found f))

  none_below : (k : ℕ) (es : Numbered Stream) → n ≡ k → AllAbove n es → NoneBelow now n (and_left k o es)
  none_below k es own above = by left
    where
      by : {p : Option Stream} → Left now n x p → NoneBelow now n (and_left k p es)
      by gone = above_below now n es above
      by (stays y quiet) = ((λ l. quiet), above_below now n es above)

  pub below_found : {es : Numbered Stream} → Found now n es → NoneBelow now n (left_at n o es)
  below_found (here e es own due above) = rw (left_first n o e es own) (none_below e.0 es own above)
  below_found (later e es other due f) = rw (left_later n o e es other) ((λ l. due), below_found f)

  -- the entries so far, and those of the streams that are left
  pub expiries_on : (all done one : List Entry) (es : Numbered Stream) → Found now n es → at n es ≡ Some x → all ≡ done ++ expiries now es → one ≡ end_of undo.Expired (at n es) → all ≡ (done ++ one) ++ expiries now (left_at n o es)
  expiries_on all done one es f k e is =
      e ∙ ap (λ l. done ++ l) (expiries_found f k ∙ ap (λ l. l ++ expiries now (left_at n o es)) (sym is)) ∙ sym (append_assoc done one (expiries now (left_at n o es)))

  pub those_on : (all es : Numbered Stream) → o ≡ left_of x → Found now n es → at n es ≡ Some x → all ≡ those_left (after now) es → all ≡ those_left (after now) (left_at n o es)
  those_on all es is f k e = e ∙ those_found is f k

-- ---- where none is due any more

abbrev pub AllQuiet : ℕ → Numbered Stream → Type 0
AllQuiet now [] = Unit {0}
AllQuiet now (e ∷ es) = (is_due now e.1 ≡ false) × AllQuiet now es

quiet_by : (now from : ℕ) (e : ℕ × Stream) (es : Numbered Stream) → (e.0 < from → is_due now e.1 ≡ false) → (first_due now from es ≡ None → AllQuiet now es)
    → (p : Bool) → nat_le from e.0 ≡ p → (q : Bool) → is_due now e.1 ≡ q → cond (p && q) (Some e.0) (first_due now from es) ≡ None → AllQuiet now (e ∷ es)
quiet_by now from e es b on true p true q g = absurd (none_some (sym g))
quiet_by now from e es b on true p false q g = (q, on g)
quiet_by now from e es b on false p true q g = (b (leb-false from e.0 p), on g)
quiet_by now from e es b on false p false q g = (q, on g)

pub all_quiet : (now from : ℕ) (es : Numbered Stream) → NoneBelow now from es → first_due now from es ≡ None → AllQuiet now es
all_quiet now from [] b f = tt
all_quiet now from (e ∷ es) b f = quiet_by now from e es b.0 (λ g. all_quiet now from es b.1 g) (nat_le from e.0) refl (is_due now e.1) refl f

pub quiet_expiries : (now : ℕ) (es : Numbered Stream) → AllQuiet now es → expiries now es ≡ []
quiet_expiries now [] q = refl
quiet_expiries now (e ∷ es) q = rw (q.0) (quiet_expiries now es q.1)

pub quiet_left : (now : ℕ) (es : Numbered Stream) → AllQuiet now es → those_left (after now) es ≡ es
quiet_left now [] q = refl
quiet_left now (e ∷ es) q = rw (q.0) (ap (λ fs. e ∷ fs) (quiet_left now es q.1))

pub quiet_at : (now n : ℕ) (x : Stream) (es : Numbered Stream) → AllQuiet now es → at n es ≡ Some x → is_due now x ≡ false
quiet_at now n x [] q k = absurd (none_some k)
quiet_at now n x (e ∷ es) q k = elim (cases_eq n e.0) [
  | inl own ↦ ap (is_due now) (some_one (sym k ∙ at_first n e es own)) ∙ q.0
  | inr other ↦ quiet_at now n x es q.1 (sym (at_later n e es other) ∙ k)
]

-- ---- all of them

above_one : {A : Type 0} (m : ℕ) (o : Option A) (k : ℕ) (fs : Numbered A) → m < k → AllAbove m fs → AllAbove m (and_left k o fs)
above_one m None k fs l h = h
above_one m (Some y) k fs l h = (l, h)

pub above_left : {A : Type 0} (f : A → Option A) (m : ℕ) (es : Numbered A) → AllAbove m es → AllAbove m (those_left f es)
above_left f m [] a = tt
above_left f m (e ∷ es) a = above_one m (f e.1) e.0 (those_left f es) a.0 (above_left f m es a.1)

none_above : {A : Type 0} (n : ℕ) (es : Numbered A) → AllAbove n es → at n es ≡ None
none_above n [] a = refl
none_above n (e ∷ es) a = at_later n e es (λ own. omega (arith, own, a.0)) ∙ none_above n es a.1

pub at_left : {A : Type 0} (f : A → Option A) (n : ℕ) (x : A) (es : Numbered A) → Rises es → at n es ≡ Some x → at n (those_left f es) ≡ f x
at_left f n x [] r k = absurd (none_some k)
at_left {A} f n x (e ∷ es) r k = elim (cases_eq n e.0) [
  | inl own ↦ here (f e.1) own ∙ ap f (some_one (sym (at_first n e es own) ∙ k))
  | inr other ↦ later (f e.1) other ∙ at_left f n x es (rises_tail e es r) (sym (at_later n e es other) ∙ k)
]
  where
    here : (o : Option A) → n ≡ e.0 → at n (and_left e.0 o (those_left f es)) ≡ o
    here None own = none_above n (those_left f es) (above_left f n es (subst (λ m. AllAbove m es) (sym own) (rises_head e es r)))
    here (Some y) own = at_first n (e.0, y) (those_left f es) own

    later : (o : Option A) → n ≢ e.0 → at n (and_left e.0 o (those_left f es)) ≡ at n (those_left f es)
    later None other = refl
    later (Some y) other = at_later n (e.0, y) (those_left f es) other

-- ---- who waits

-- each stream that was due is still to expire, or waits for no turn
abbrev pub Silent : ℕ → Seen → Seen → Type 0
Silent now old mid = (n : ℕ) (x : Stream) → at n old.state.streams ≡ Some x → is_due now x ≡ true → (at n mid.state.streams ≡ Some x) ⊎ (has (numbered n) mid.turns.waiters ≡ false)

pub silent_first : (now : ℕ) (old : Seen) → Silent now old old
silent_first now old n x k due = inl k

-- another stream is as it was
left_other : (n k : ℕ) (x : Stream) (o : Option Stream) (es : Numbered Stream) → Rises es → at n es ≡ Some x → k ≢ n → at k (left_at n o es) ≡ at k es
left_other n k x None es r known other = at_without_other n k es r other
left_other n k x (Some y) es r known other = at_put_other n k x y es known other

pub silent_on : (now n : ℕ) (x : Stream) (o : Option Stream) (old mid new : Seen) → Rises mid.state.streams → at n mid.state.streams ≡ Some x → new.state.streams ≡ left_at n o mid.state.streams → has (numbered n) new.turns.waiters ≡ false
    → ((k : ℕ) → has (numbered k) new.turns.waiters ≡ true → has (numbered k) mid.turns.waiters ≡ true) → Silent now old mid → Silent now old new
silent_on now n x o old mid new rises known streams silent fewer h k y is due = elim (cases_eq k n) [
  | inl own ↦ inr (ap (λ j. has (numbered j) new.turns.waiters) own ∙ silent)
  | inr other ↦ elim (h k y is due) [
    | inl stands ↦ inl (ap (λ es. at k es) streams ∙ left_other n k x o mid.state.streams rises known other ∙ stands)
    | inr past ↦ inr (elim (cases_Bool (has (numbered k) new.turns.waiters)) [
      | inl waits ↦ absurd (true≢false (sym (fewer k waits) ∙ past))
      | inr fine ↦ fine
    ])
  ]
]

left_turn : {D : Type 0} (told : Bool) (db : D) (live : Lives D) (t : Turns) (n : ℕ) (x : Stream) → AgreesAt told db live t n (state_in (left_of x)) → t.turn ≢ Some (numbered n)
left_turn told db live t n x h = by (of_exchanges x) h
  where
    by : (b : Bool) → AgreesAt told db live t n (state_in (cond b None (Some (expired x)))) → t.turn ≢ Some (numbered n)
    by true g = g
    by false g = g

pub expire_frees : {D : Type 0} (told shared : Bool) (db : D) (live : Lives D) (now : ℕ) (old new : Seen) → Rises old.state.streams → HubAgrees told shared db live new → AllQuiet now new.state.streams → new.state.streams ≡ those_left (after now) old.state.streams → Silent now old new → Expire now old new
expire_frees told shared db live now old new rises a quiet streams silent n x known due =
    let stands : at n new.state.streams ≡ left_of x = ap (λ es. at n es) streams ∙ at_left (after now) n x old.state.streams rises known ∙ after_due now x due in
    record {
      stream = stands;
      turn = left_turn told db live new.turns n x (subst (λ o. AgreesAt told db live new.turns n o) (ap state_in stands) (a.together.agree n));
      waits = elim (silent n x known due) [
        | inl still ↦ absurd (true≢false (sym due ∙ quiet_at now n x new.state.streams quiet still))
        | inr fine ↦ fine
      ];
    }

-- ---- a moment

pub moment_rests : (s : State) (now : ℕ) (out : Outs) → nat_lt now s.now ≡ true → out ≡ nothing → MomentAt s now [] out s
moment_rests s now out early given = subst (λ b. MatchBool b (Goes (quiet s) [] out s) (([] ≡ expiries now s.streams) × (out ≡ nothing) × (s ≡ at_moment now s))) (sym early) (record { none = refl; given = given; left = refl })

pub moment_comes : (s : State) (now : ℕ) (added : List Entry) (out : Outs) (new : State) → nat_lt now s.now ≡ false → added ≡ expiries now s.streams → out ≡ nothing → new ≡ at_moment now s → MomentAt s now added out new
moment_comes s now added out new comes ends given left = subst (λ b. MatchBool b (Goes (quiet s) added out new) ((added ≡ expiries now s.streams) × (out ≡ nothing) × (new ≡ at_moment now s))) (sym comes) (ends, given, left)

-- Who waits for the turn is a stream of the hub, also after a poll and an end.
use Rattle.std.proofs.Common.{◌≡◌, ◌≢◌, ◌⊎◌, ◌||◌, ℕ, Bool, true, false, not, cond, List, [], ◌∷◌, ◌++◌, Option, None, Some, refl, sym, ap, ◌∙◌, is_some, true≢false, inl, inr}
use Rattle.std.specs.Option.{IsSome}
use Rattle.std.proofs.lemmas.Bool.{cases_eq, or_cases}
use Rattle.std.proofs.lemmas.Map.Views.{any-filter_same}
use Rattle.hrana_value.specs.declared.StreamNo.{StreamNo}
use Rattle.txn_table.specs.Turns.{Turns, has, same_stream, queued, after_loss}
use Rattle.txn_table.specs.Turns.{without as without_number}
use Rattle.txn_table.proofs.StreamLemmas.{one_of_same, or_true}
use Rattle.engine_core.specs.declared.entries.Entry.{Entry}
use Rattle.stream_task.specs.Moved.{Rests}
use Rattle.stream_task.specs.Together.{numbered}
use Rattle.hrana_hub.specs.Maps.{Numbered, at, put}
use Rattle.hrana_hub.specs.State.{Stream}
use Rattle.hrana_hub.proofs.EntryLemmas.{at_put, at_put_other}

-- ---- lists of streams

pub has_gone : (stream : StreamNo) (xs : List StreamNo) → has stream (without_number stream xs) ≡ false
has_gone stream xs = any-filter_same (λ x. same_stream x stream) (λ x. not (same_stream x stream)) false (λ k e. ap not e) xs

has_left : (k s : StreamNo) (xs : List StreamNo) → has k (without_number s xs) ≡ true → has k xs ≡ true
has_left k s [] h = h
has_left k s (x ∷ xs) h = by (has_left k s xs) (same_stream x s) h
  where
    by : (has k (without_number s xs) ≡ true → has k xs ≡ true) → (b : Bool) → has k (cond (not b) (x ∷ without_number s xs) (without_number s xs)) ≡ true → (same_stream x k || has k xs) ≡ true
    by later true g = rw (later g) (or_true (same_stream x k))
    by later false g = elim (or_cases (same_stream x k) (has k (without_number s xs)) g) [
      | inl e ↦ rw e refl
      | inr r ↦ rw (later r) (or_true (same_stream x k))
    ]

has_pushed : (k s : StreamNo) (xs : List StreamNo) → has k (xs ++ s ∷ []) ≡ true → (has k xs ≡ true) ⊎ (s ≡ k)
has_pushed k s [] h = elim (or_cases (same_stream s k) false h) [
  | inl e ↦ inr (one_of_same s k e)
  | inr never ↦ absurd (true≢false (sym never))
]
has_pushed k s (x ∷ xs) h = elim (or_cases (same_stream x k) (has k (xs ++ s ∷ [])) h) [
  | inl e ↦ inl (rw e refl)
  | inr r ↦ elim (has_pushed k s xs r) [
    | inl was ↦ inl (rw was (or_true (same_stream x k)))
    | inr here ↦ inr here
  ]
]

has_queued : (k s : StreamNo) (xs : List StreamNo) → has k (queued s xs) ≡ true → (has k xs ≡ true) ⊎ (s ≡ k)
has_queued k s xs h = by (has s xs) h
  where
    by : (b : Bool) → has k (cond b xs (xs ++ s ∷ [])) ≡ true → (has k xs ≡ true) ⊎ (s ≡ k)
    by true g = inl g
    by false g = has_pushed k s xs g

-- who waits after the entry of a stream waited before, or is that stream
waited : (k s : StreamNo) (waits : Bool) (added : Option Entry) (t t' : Turns) → Rests s waits added t t' → has k t'.waiters ≡ true → (has k t.waiters ≡ true) ⊎ (s ≡ k)
waited k s true None t t' r h = has_queued k s t.waiters (sym (ap (λ (u : Turns). has k u.waiters) r) ∙ h)
waited k s false None t t' r h = inl (sym (ap (λ (u : Turns). has k u.waiters) r) ∙ h)
waited k s waits (Some e) t t' r h = elim r.1 [
  | inl stay ↦ inl (sym (ap (has k) stay) ∙ h)
  | inr gone ↦ inl (has_left k s t.waiters (sym (ap (has k) gone) ∙ h))
]

-- ---- the streams of the hub

-- who waits is one of these
abbrev pub AreKnown : List StreamNo → Numbered Stream → Type 0
AreKnown waiters es = (n : ℕ) → has (numbered n) waiters ≡ true → IsSome (at n es)

pub known_put : (n k : ℕ) (x y : Stream) (es : Numbered Stream) → at n es ≡ Some x → IsSome (at k es) → IsSome (at k (put n y es))
known_put n k x y es e some = elim (cases_eq k n) [
  | inl i ↦ ap is_some (ap (λ j. at j (put n y es)) i ∙ at_put n x y es e)
  | inr ne ↦ ap is_some (at_put_other n k x y es e ne) ∙ some
]

pub waiters_put : (n : ℕ) (x y : Stream) (es : Numbered Stream) (waits : Bool) (added : Option Entry) (t t' : Turns) → at n es ≡ Some x → Rests (numbered n) waits added t t' → AreKnown t.waiters es → AreKnown t'.waiters (put n y es)
waiters_put n x y es waits added t t' e r h k w = elim (waited (numbered k) (numbered n) waits added t t' r w) [
  | inl was ↦ known_put n k x y es e (h k was)
  | inr here ↦ known_put n k x y es e (ap is_some (ap (λ j. at j es) (sym (ap (λ (s : StreamNo). s.0) here)) ∙ e))
]

-- who waits after the end of a stream waited before, and is another one
pub waits_on : (n k : ℕ) (added : Option Entry) (t between t' : Turns) → Rests (numbered n) false added t between → t' ≡ after_loss between (numbered n) → has (numbered k) t'.waiters ≡ true → (k ≢ n) × (has (numbered k) t.waiters ≡ true)
waits_on n k added t between t' r lost w =
    let left : has (numbered k) (without_number (numbered n) between.waiters) ≡ true = sym (ap (λ (u : Turns). has (numbered k) u.waiters) lost) ∙ w in
    let other : k ≢ n = λ i. true≢false (sym left ∙ (ap (λ j. has (numbered j) (without_number (numbered n) between.waiters)) i ∙ has_gone (numbered n) between.waiters)) in
    elim (waited (numbered k) (numbered n) false added t between r (has_left (numbered k) (numbered n) between.waiters left)) [
      | inl was ↦ (other, was)
      | inr here ↦ absurd (other (sym (ap (λ (s : StreamNo). s.0) here)))
    ]

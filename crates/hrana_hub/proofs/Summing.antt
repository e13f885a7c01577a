-- What is known of all streams but one, after a change at that one.
use Rattle.std.proofs.Common.{◌≡◌, ◌≢◌, ◌≤◌, ◌<◌, ◌+◌, ◌-◌, ◌⊎◌, ◌&&◌, ℕ, Bool, true, false, cond, nat_le, [], ◌∷◌, length, Option, None, Some, refl, sym, ap, ◌∙◌, subst, arith, inl, inr}
use Rattle.std.proofs.lemmas.Bool.{cases_eq, leb-true, cases_Bool}
use Rattle.hrana_hub.specs.declared.streams.Summary.{Summary}
use Rattle.hrana_hub.specs.declared.limits.TheConstants.{EXPIRY_MS}
use Rattle.hrana_hub.specs.Maps.{Numbered, at, put, placed, without}
use Rattle.hrana_hub.specs.State.{Stream, of_exchanges}
use Rattle.hrana_hub.specs.Exchanges.{sessions_in}
use Rattle.hrana_hub.specs.Moments.{may_expire, is_due, first_due}
use Rattle.hrana_hub.specs.Summaries.{IsCalm, Sums, left_out, session_of}
use Rattle.hrana_hub.proofs.EntryLemmas.{at_put, at_put_other, put_unknown}
use Rattle.hrana_hub.proofs.MapLemmas.{none_some, some_one, at_first, at_later, at_placed, at_placed_other, Rises, rises_head, rises_tail, none_above}
use Rattle.hrana_hub.proofs.SessionSums.{sessions_changed, sessions_gone, sessions_placed}

-- ---- one stream

-- what gave its last answer then, and whatever may not expire
pub calm_by : (x : Stream) (until : ℕ) → (may_expire x ≡ true → until ≤ x.last_answer + EXPIRY_MS) → IsCalm until x
calm_by x until h now l = by (may_expire x) refl
  where
    by : (b : Bool) → may_expire x ≡ b → b && nat_le EXPIRY_MS (now - x.last_answer) ≡ false
    by false e = refl
    by true e = elim (cases_Bool (nat_le EXPIRY_MS (now - x.last_answer))) [
      | inl late ↦ (let far = leb-true EXPIRY_MS (now - x.last_answer) late in let bound = h e in absurd (omega (arith, l, far, bound)))
      | inr early ↦ early
    ]

pub calm_earlier : (a b : ℕ) (x : Stream) → a ≤ b → IsCalm b x → IsCalm a x
calm_earlier a b x le h now l = h now (omega (arith, l, le))

-- ---- at most as many as there are

one_at_most : (b : Bool) → cond b 1 0 ≤ 1
one_at_most true = omega arith
one_at_most false = omega arith

pub sessions_few : (es : Numbered Stream) → sessions_in es ≤ length es
sessions_few [] = omega arith
sessions_few (e ∷ es) = omega (arith, sessions_few es, one_at_most (of_exchanges e.1))

-- ---- the stream that is left out has changed

module _ (known : Summary) (n : ℕ) (es : Numbered Stream) (but : known.but ≡ Some n) (sums : Sums known es) where
  counted : known.sessions + session_of (at n es) ≡ sessions_in es
  counted = subst (λ o. known.sessions + session_of (left_out o es) ≡ sessions_in es) but sums.sessions

  counts : (fs : Numbered Stream) → known.sessions + session_of (at n fs) ≡ sessions_in fs → ((m : ℕ) → m ≢ n → at m fs ≡ at m es) → Sums known fs
  counts fs all others = record {
    sessions = subst (λ o. known.sessions + session_of (left_out o fs) ≡ sessions_in fs) (sym but) all;
    calm = λ m x there apart. sums.calm m x (sym (others m (λ own. apart (but ∙ ap Some (sym own)))) ∙ there) apart;
  }

  sums_known : (x w : Stream) → at n es ≡ Some x → Sums known (put n w es)
  sums_known x w there = counts (put n w es)
      (let now = ap session_of (at_put n x w es there) in let was = ap session_of there in omega (arith, counted, sessions_changed n x w es there, now, was)) (λ m other. at_put_other n m x w es there other)

  pub sums_put : (w : Stream) → Sums known (put n w es)
  sums_put w = by (at n es) refl
    where
      by : (o : Option Stream) → at n es ≡ o → Sums known (put n w es)
      by None e = subst (Sums known) (sym (put_unknown n w es e)) sums
      by (Some x) e = sums_known x w e

  pub sums_placed : (x : Stream) → at n es ≡ None → Sums known (placed n x es)
  sums_placed x free = counts (placed n x es)
      (let now = ap session_of (at_placed n x es) in let was = ap session_of free in omega (arith, counted, sessions_placed n x es free, now, was)) (λ m other. at_placed_other n m x es other)

  pub sums_without : (fs : Numbered Stream) → fs ≡ without n es → at n fs ≡ None → ((m : ℕ) → m ≢ n → at m fs ≡ at m es) → Sums known fs
  sums_without fs is gone others = counts fs
      (let now = ap session_of gone in let all = ap sessions_in is in omega (arith, counted, sessions_gone n es, now, all)) others

-- ---- none is due

-- what stands at a number later on stands there
behind : (e : ℕ × Stream) (es : Numbered Stream) → Rises (e ∷ es) → (n : ℕ) (x : Stream) → at n es ≡ Some x → at n (e ∷ es) ≡ Some x
behind e es rises n x there = at_later n e es (λ own. none_some (sym (none_above e.0 es (rises_head e es rises)) ∙ ap (λ k. at k es) (sym own) ∙ there)) ∙ there

pub none_due : (now from : ℕ) (es : Numbered Stream) → Rises es → ((n : ℕ) (x : Stream) → at n es ≡ Some x → is_due now x ≡ false) → first_due now from es ≡ None
none_due now from [] rises calm = refl
none_due now from (e ∷ es) rises calm = by (nat_le from e.0) (is_due now e.1) (calm e.0 e.1 (at_first e.0 e es refl)) (none_due now from es (rises_tail e es rises) (λ n x there. calm n x (behind e es rises n x there)))
  where
    by : (within due : Bool) → due ≡ false → first_due now from es ≡ None → cond (within && due) (Some e.0) (first_due now from es) ≡ None
    by true due not_due later = ap (λ b. cond b (Some e.0) (first_due now from es)) not_due ∙ later
    by false due not_due later = later

-- ---- a look at each

-- each is calm, or comes still
abbrev pub Passed : ℕ → Numbered Stream → Numbered Stream → Type 0
Passed until all rest = (n : ℕ) (x : Stream) → at n all ≡ Some x → (at n rest ≡ Some x) ⊎ IsCalm until x

pub passed_one : (until mine : ℕ) (all : Numbered Stream) (e : ℕ × Stream) (before rest : Numbered Stream) → before ≡ e ∷ rest → IsCalm mine e.1 → (next : ℕ) → next ≤ until → next ≤ mine → Passed until all before → Passed next all rest
passed_one until mine all e before rest is calm next a b h n x there = by (h n x there)
  where
    here : (at n (e ∷ rest) ≡ Some x) → (at n rest ≡ Some x) ⊎ IsCalm next x
    here f = elim (cases_eq n e.0) [
      | inl own ↦ inr (subst (IsCalm next) (some_one (sym (at_first n e rest own) ∙ f)) (calm_earlier next mine e.1 b calm))
      | inr other ↦ inl (sym (at_later n e rest other) ∙ f)
    ]

    by : (at n before ≡ Some x) ⊎ IsCalm until x → (at n rest ≡ Some x) ⊎ IsCalm next x
    by (inl f) = here (subst (λ l. at n l ≡ Some x) is f)
    by (inr f) = inr (calm_earlier next until x a f)

pub all_passed : (until : ℕ) (all rest : Numbered Stream) → rest ≡ [] → Passed until all rest → (n : ℕ) (x : Stream) → at n all ≡ Some x → IsCalm until x
all_passed until all rest is h n x there = elim (h n x there) [ inl f ↦ absurd (none_some (ap (λ l. at n l) (sym is) ∙ f)) | inr f ↦ f ]

-- ---- the stream that was left out counts again, or another is left out

module _ (known : Summary) (n : ℕ) (es : Numbered Stream) (but : known.but ≡ Some n) (sums : Sums known es) where
  pub settled_gone : at n es ≡ None → Sums (record { but = None; sessions = known.sessions; calm_until = known.calm_until }) es
  settled_gone gone = record {
    sessions = (let was = ap session_of gone in omega (arith, counted known n es but sums, was));
    calm = λ m x there apart. sums.calm m x there (λ own. none_some (sym gone ∙ ap (λ k. at k es) (number_one (sym but ∙ own)) ∙ there));
  }
    where
      number_one : {a b : ℕ} → ◌≡◌ {A = Option ℕ} (Some a) (Some b) → a ≡ b
      number_one e = some_one e

  pub settled_known : (x : Stream) (count until mine : ℕ) → at n es ≡ Some x → count ≡ known.sessions + session_of (Some x) → until ≤ known.calm_until → until ≤ mine → IsCalm mine x → Sums (record { but = None; sessions = count; calm_until = until }) es
  settled_known x count until mine there is a b calm = record {
    sessions = (let was = ap session_of there in omega (arith, counted known n es but sums, was, is));
    calm = λ m y f apart. elim (cases_eq m n) [
      | inl own ↦ subst (IsCalm until) (some_one (sym there ∙ ap (λ k. at k es) (sym own) ∙ f)) (calm_earlier until mine x b calm)
      | inr other ↦ calm_earlier until known.calm_until y a (sums.calm m y f (λ e. other (some_one (sym e ∙ but))))
    ];
  }

  -- there is room to count it
  pub counts_on : (x : Stream) → at n es ≡ Some x → of_exchanges x ≡ true → (known.sessions < length es → ⊥) → ⊥
  counts_on x there of full = full (let was = ap session_of there in let one = ap {B = ℕ} (λ b. cond b 1 0) of in omega (arith, counted known n es but sums, was, one, sessions_few es))

module _ (known : Summary) (n : ℕ) (es : Numbered Stream) (all : known.but ≡ None) (sums : Sums known es) where
  every : known.sessions ≡ sessions_in es
  every = (let none = subst (λ o. known.sessions + session_of (left_out o es) ≡ sessions_in es) all sums.sessions in omega (arith, none))

  pub left_out_now : (count : ℕ) → count + session_of (at n es) ≡ known.sessions → Sums (record { but = Some n; sessions = count; calm_until = known.calm_until }) es
  left_out_now count is = record {
    sessions = is ∙ every;
    calm = λ m x there apart. sums.calm m x there (λ e. none_some (sym all ∙ e));
  }

  -- it was counted
  pub at_least : session_of (at n es) ≤ known.sessions
  at_least = (let all = every in omega (arith, all, sessions_gone n es))

  pub all_counted : known.sessions ≡ sessions_in es
  all_counted = every

  pub all_calm : (now : ℕ) → now < known.calm_until → (m : ℕ) (x : Stream) → at m es ≡ Some x → is_due now x ≡ false
  all_calm now l m x there = sums.calm m x there (λ e. none_some (sym all ∙ e)) now l

-- what a look at each found
pub looked_ahead : (es : Numbered Stream) (count until : ℕ) → count ≡ sessions_in es → ((n : ℕ) (x : Stream) → at n es ≡ Some x → IsCalm until x) → Sums (record { but = None; sessions = count; calm_until = until }) es
looked_ahead es count until is calm = record { sessions = omega (arith, is); calm = λ n x there apart. calm n x there }

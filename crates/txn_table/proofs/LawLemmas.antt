-- Laws over every list of calls, by induction on runs.
use Rattle.std.proofs.Common.{◌≡◌, ◌≢◌, ℕ, ◌+◌, List, ◌∷◌, Option, Some, None, refl, sym, ap, ◌∙◌, arith, inl, inr, nat_lt}
use Rattle.std.proofs.lemmas.Bool.{cases_Bool, ltb-true, ltb-false}
use Rattle.hrana_value.specs.declared.StreamNo.{StreamNo}
use Rattle.txn_table.specs.Turns.{Turns, same_stream, now_or, grant_of, after_grant, given_back}
use Rattle.txn_table.specs.History.{Call, wanted, Run, nothing, reserves, refuses, wants, commits, ends, loses, Holds, commits_of}
use Rattle.txn_table.specs.Laws.{OneHolder, IsFresh, IsUpgrade, MayWait, IsGranted, GrantsExact, VersionsExact}
use Rattle.txn_table.specs.declared.table.Need.{Need}
use Rattle.txn_table.specs.declared.table.Need.TheVariants.{Alone, Begin, Upgrade}
use Rattle.txn_table.specs.declared.table.Grant.{Grant}
use Rattle.txn_table.specs.declared.table.Grant.TheVariants.{Now, Wait, Stale, Held}
use Rattle.txn_table.proofs.StreamLemmas.{same, other, true_not_false}

pub some_one : {X : Type 0} {x y : X} → ◌≡◌ {A = Option X} (Some x) (Some y) → x ≡ y
some_one e = cc

pub none_some : {X : Type 0} {x : X} → ◌≡◌ {A = Option X} None (Some x) → ⊥
none_some e = cc

-- ---- the turn given back

given_other : (holder stream : StreamNo) → stream ≢ holder → given_back (Some holder) stream ≡ Some holder
given_other holder stream ne = rw (other holder stream (λ e. ne (sym e))) refl

pub given_some : (turn : Option StreamNo) (stream holder : StreamNo) → given_back turn stream ≡ Some holder → (turn ≡ Some holder) × (stream ≢ holder)
given_some None stream holder e = absurd (none_some e)
given_some (Some h) stream holder e = elim (cases_Bool (same_stream h stream)) [
  | inl t ↦ absurd (none_some (let f : ◌≡◌ {A = Option StreamNo} None (Some holder) = rw t at e in f))
  | inr n ↦
      let f : ◌≡◌ {A = Option StreamNo} (Some h) (Some holder) = rw n at e in
      (f, λ g. true_not_false (sym (same h stream (some_one f ∙ sym g)) ∙ n))
]

-- ---- what a grant says of the turn

abbrev IsBy : Option StreamNo → ℕ → Grant → Type 0
IsBy turn version (Now v) = (turn ≡ None) × (v ≡ version)
IsBy turn version (Wait holder) = Unit {0}
IsBy turn version (Stale had now) = Unit {0}
IsBy turn version (Held holder) = Unit {0}

by_wait : (turn : Option StreamNo) (version : ℕ) → IsBy turn version (now_or Wait turn version)
by_wait None version = (refl, refl)
by_wait (Some holder) version = tt

by_held : (turn : Option StreamNo) (version : ℕ) → IsBy turn version (now_or Held turn version)
by_held None version = (refl, refl)
by_held (Some holder) version = tt

by_grant : (t : Turns) (need : Need) → IsBy t.turn t.version (grant_of t need)
by_grant t Alone = by_wait t.turn t.version
by_grant t Begin = by_wait t.turn t.version
by_grant t (Upgrade had) = elim (cases_Bool (nat_lt had t.version)) [
  | inl e ↦ rw e tt
  | inr e ↦ rw e (by_held t.turn t.version)
]

-- ---- runs

-- who holds the turn by the calls holds it in the table, and the other way round
record Stands (past : List Call) (t : Turns) : Type 0 where
  there : (stream : StreamNo) (version : ℕ) → Holds past stream version → (t.turn ≡ Some stream) × (version ≡ t.version)
  back : (stream : StreamNo) → t.turn ≡ Some stream → Holds past stream t.version
  version : t.version ≡ commits_of past

stands_want : (past : List Call) (t : Turns) (stream : StreamNo) (need : Need) (grant : Grant) → IsBy t.turn t.version grant → Stands past t
    → Stands (wanted stream need grant ∷ past) (after_grant t stream grant)
stands_want past t stream need (Now v) by st = record {
  there = λ s w h. elim h [
    | inl is ↦ (ap Some is.0, sym is.1 ∙ by.1)
    | inr old ↦ absurd (none_some (sym by.0 ∙ (st.there s w old).0))
  ];
  back = λ s e. inl (some_one e, by.1);
  version = st.version;
}
stands_want past t stream need (Wait holder) by st = record { there = st.there; back = st.back; version = st.version }
stands_want past t stream need (Stale had now) by st = record { there = st.there; back = st.back; version = st.version }
stands_want past t stream need (Held holder) by st = record { there = st.there; back = st.back; version = st.version }

stands : (past : List Call) (t : Turns) → Run past t → Stands past t
stands past t nothing = record { there = λ s v h. absurd h; back = λ s e. none_some e; version = refl }
stands past t (reserves {past = p} {t = u} run stream) = let st = stands p u run in record { there = st.there; back = st.back; version = st.version }
stands past t (refuses {past = p} {t = u} run stream) = let st = stands p u run in record { there = st.there; back = st.back; version = st.version }
stands past t (wants {past = p} {t = u} run stream need place free) = stands_want p u stream need (grant_of u need) (by_grant u need) (stands p u run)
stands past t (commits {past = p} {t = u} run stream holds few) =
    let st = stands p u run in
    record {
      there = λ s v h. absurd (h.0 (some_one (sym holds ∙ (st.there s v h.1).0)));
      back = λ s e. absurd (none_some e);
      version = ap (λ n. n + 1) st.version;
    }
stands past t (ends {past = p} {t = u} run stream) =
    let st = stands p u run in
    record {
      there = λ s v h. (ap (λ o. given_back o stream) (st.there s v h.1).0 ∙ given_other s stream h.0, (st.there s v h.1).1);
      back = λ s e. let g = given_some u.turn stream s e in (g.1, st.back s g.0);
      version = st.version;
    }
stands past t (loses {past = p} {t = u} run stream) =
    let st = stands p u run in
    record {
      there = λ s v h. (ap (λ o. given_back o stream) (st.there s v h.1).0 ∙ given_other s stream h.0, (st.there s v h.1).1);
      back = λ s e. let g = given_some u.turn stream s e in (g.1, st.back s g.0);
      version = st.version;
    }

-- ---- the laws

pub one_holder : OneHolder
one_holder past t run a b v w x y =
    let st = stands past t run in
    some_one (sym (st.there a v x).0 ∙ (st.there b w y).0)

pub versions_exact : VersionsExact
versions_exact past t run = let st = stands past t run in (st.version, λ s v h. (st.there s v h).1 ∙ st.version)

waits : (past : List Call) (t : Turns) (need : Need) (turn : Option StreamNo) → t.turn ≡ turn → Stands past t → MayWait need → IsFresh past need → IsGranted past need (now_or Wait turn t.version)
waits past t need None e st may fresh = (st.version, fresh, λ s v h. none_some (sym e ∙ (st.there s v h).0))
waits past t need (Some holder) e st may fresh = (may, (t.version, st.back holder e))

held : (past : List Call) (t : Turns) (need : Need) (turn : Option StreamNo) → t.turn ≡ turn → Stands past t → IsUpgrade need → IsFresh past need → IsGranted past need (now_or Held turn t.version)
held past t need None e st may fresh = (st.version, fresh, λ s v h. none_some (sym e ∙ (st.there s v h).0))
held past t need (Some holder) e st may fresh = (may, fresh, (t.version, st.back holder e))

pub grants_exact : GrantsExact
grants_exact past t Alone run = waits past t Alone t.turn refl (stands past t run) tt tt
grants_exact past t Begin run = waits past t Begin t.turn refl (stands past t run) tt tt
grants_exact past t (Upgrade had) run =
    let st = stands past t run in
    elim (cases_Bool (nat_lt had t.version)) [
      | inl e ↦ rw e (refl, st.version, ltb-true _ _ e)
      | inr e ↦ rw e (held past t (Upgrade had) t.turn refl st tt (omega (arith, st.version, ltb-false had t.version e)))
    ]

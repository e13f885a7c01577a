-- On stores.
use Rattle.std.proofs.Common.{◌≡◌, ◌≢◌, ℕ, ◌+◌, ◌-◌, ◌^◌, ◌<◌, ◌≤◌, Bool, true, false, not, List, [], ◌∷◌, ◌++◌, length, get_or, take, drop, map, Option, Some, None, slice_get, refl, sym, ap, subst, ◌∙◌, arith, inl, inr, nat_lt, lit<}
use Rattle.std.specs.Option.{IsSomeAnd}
use Rattle.std.specs.List.{All, AllPairs, Any, Contains, filter, remove}
use Rattle.std.specs.List.Sorted.{IsPartitionedBy, IsPartitionPoint}
use Rattle.std.proofs.lemmas.Bool.{cases_order, cases_lt, ltb-true, lt-ltb}
use Rattle.std.proofs.lemmas.List.{get_or_default, get_or-drop, length-drop, take-append-drop, get_or_append_left, take_more, length-append, length-map, get_or-map}
use Rattle.std.proofs.lemmas.Option.{slice_get_read, get_or_from_slice_get}
use Rattle.std.proofs.lemmas.List.Elements.{All-push, All-append, All-map, All-filter, filter_passes, Contains-append_left}
use Rattle.std.proofs.lemmas.List.Quantifiers.{all_pairs_push, all_pairs_remove, Any-push}
use Rattle.std.proofs.lemmas.List.Kept.{AllPairs-filter}
use Rattle.hrana_value.specs.declared.StreamNo.{StreamNo}
use Rattle.baton_store.specs.Text.{text_of}
use Rattle.baton_store.specs.Batons.{Batons, no_batons, same_stream, with_place, HasNone, with_baton, next_baton, without, Lives, Accepts, IsDue, IsLowestDue, IsDueAmong, IsNamed, IsSound, MomentsRise}
use Rattle.baton_store.specs.declared.limits.TheConstants.{BATON_LIFE_MS}
use Rattle.baton_store.specs.declared.store.Unused.{Unused}
use Rattle.baton_store.proofs.ListLemmas.{All-remove, All-removed, Contains-filter, length-contained, within, holds_at}

-- ---- soundness

pub sound_none : IsSound no_batons
sound_none = record {
  few = lit< tt;
  rising = λ i j d lt in'. absurd (omega arith);
  numbered = λ k d lt. absurd (omega arith);
  named = λ k d lt. absurd (omega arith);
  apart = λ i j d lt in'. absurd (omega arith);
  placed = λ k d lt. absurd (omega arith);
}

pub sound_place : (b : Batons) (stream : StreamNo) → IsSound b → IsSound (with_place b stream)
sound_place b stream s = record {
  few = s.few;
  rising = s.rising;
  numbered = s.numbered;
  named = s.named;
  apart = s.apart;
  placed = λ k d lt. Contains-append_left b.reserved (stream ∷ []) (get_or b.unused k d).stream (s.placed k d lt);
}

pub sound_baton : (b : Batons) (stream : StreamNo) (words : List ℕ) (now : ℕ) → IsSound b → Contains b.reserved stream → HasNone b stream → b.issued < 2 ^ 64 - 1
    → IsSound (with_baton b stream words now)
sound_baton b stream words now s reserved none few =
    let u = next_baton b stream words now in
    record {
      few = omega (arith, few);
      rising = all_pairs_push (λ v w. v.number < w.number) b.unused u s.rising (λ k d lt. let h : (get_or b.unused k d).number ≤ b.issued = s.numbered k d lt in omega arith);
      numbered = All-push (λ v. v.number ≤ b.issued + 1) b.unused u (λ k d lt. let h : (get_or b.unused k d).number ≤ b.issued = s.numbered k d lt in omega arith) (omega arith);
      named = All-push IsNamed b.unused u s.named (record { few = omega (arith, few); words = words; text = refl });
      apart = all_pairs_push (λ v w. v.stream ≢ w.stream) b.unused u s.apart none;
      placed = All-push (λ v. Contains b.reserved v.stream) b.unused u s.placed reserved;
    }

pub sound_remove : (b : Batons) (i : ℕ) → IsSound b → i < length b.unused → IsSound (record b { unused = remove b.unused i })
sound_remove b i s lt = record {
  few = s.few;
  rising = all_pairs_remove (λ v w. v.number < w.number) b.unused i lt s.rising;
  numbered = All-remove (λ v. v.number ≤ b.issued) b.unused i s.numbered;
  named = All-remove IsNamed b.unused i s.named;
  apart = all_pairs_remove (λ v w. v.stream ≢ w.stream) b.unused i lt s.apart;
  placed = All-remove (λ v. Contains b.reserved v.stream) b.unused i s.placed;
}

pub sound_without : (b : Batons) (stream : StreamNo) → IsSound b → IsSound (without b stream)
sound_without b stream s =
    let p : Unused → Bool = λ u. not (same_stream u.stream stream) in
    let q : StreamNo → Bool = λ x. not (same_stream x stream) in
    let kept : All (λ u. Contains b.reserved u.stream) (filter p b.unused) = All-filter p (λ u. Contains b.reserved u.stream) b.unused s.placed in
    record {
      few = s.few;
      rising = AllPairs-filter (λ v w. v.number < w.number) p b.unused s.rising;
      numbered = All-filter p (λ v. v.number ≤ b.issued) b.unused s.numbered;
      named = All-filter p IsNamed b.unused s.named;
      apart = AllPairs-filter (λ v w. v.stream ≢ w.stream) p b.unused s.apart;
      placed = λ k d lt. Contains-filter q b.reserved (get_or (filter p b.unused) k d).stream (filter_passes p b.unused k d lt) (kept k d lt);
    }

-- there is a place for a stream's baton
pub room_for : (b : Batons) (stream : StreamNo) → IsSound b → Contains b.reserved stream → HasNone b stream → length b.unused + 1 ≤ length b.reserved
room_for b stream s reserved none =
    let f : Unused → StreamNo = λ u. u.stream in
    let u0 : Unused = record { number = 0; baton = record { text = [] }; stream = stream; at = 0 } in
    let ss : List StreamNo = map f b.unused in
    let n : length ss ≡ length b.unused = length-map b.unused f in
    let at : (k : ℕ) (e : StreamNo) → k < length b.unused → get_or ss k e ≡ (get_or b.unused k u0).stream = λ k e lt. get_or-map f b.unused k u0 e lt in
    let apart : AllPairs (λ x y. x ≢ y) ss = λ i j d lt inside same. s.apart i j u0 lt (omega (arith, n, inside)) (sym (at i d (omega (arith, n, inside))) ∙ (same ∙ at j d (omega (arith, n, inside)))) in
    let all : AllPairs (λ x y. x ≢ y) (ss ++ stream ∷ []) = all_pairs_push (λ x y. x ≢ y) ss stream apart (λ k d lt same. none k u0 (omega (arith, n, lt)) (sym (at k d (omega (arith, n, lt))) ∙ same)) in
    let inside : All (Contains b.reserved) (ss ++ stream ∷ []) = All-push (Contains b.reserved) ss stream (All-map (Contains b.reserved) f b.unused s.placed) reserved in
    let h = length-contained (ss ++ stream ∷ []) b.reserved all inside in
    omega (arith, h, n, length-append ss (stream ∷ []))

-- ---- places

pub partitioned : (unused : List Unused) (n : ℕ) → AllPairs (λ u v. u.number < v.number) unused → IsPartitionedBy (λ u. nat_lt u.number n) unused
partitioned unused n rising i j d le lt below = elim (cases_order i j) [
  | inl same ↦ subst (λ k. nat_lt (get_or unused k d).number n ≡ true) (sym same) below
  | inr order ↦ elim order [
    | inl less ↦ let h : (get_or unused i d).number < (get_or unused j d).number = rising i j d less lt in lt-ltb _ _ (omega (arith, h, ltb-true _ _ below))
    | inr more ↦ absurd (omega arith)
  ]
]

true_not_false : true ≡ false → ⊥
true_not_false e = cc

-- what isn't found at its place isn't there
pub not_there : (unused : List Unused) (n i : ℕ) → AllPairs (λ u v. u.number < v.number) unused → IsPartitionPoint (λ u. nat_lt u.number n ≡ true) (λ u. nat_lt u.number n ≡ false) unused i
    → ((d : Unused) → i < length unused → (get_or unused i d).number ≢ n) → All (λ u. u.number ≢ n) unused
not_there unused n i rising point other k d lt same = elim (cases_order k i) [
  | inl here ↦ other d (omega arith) (subst (λ m. (get_or unused m d).number ≡ n) here same)
  | inr order ↦ elim order [
    | inl below ↦ let h = ltb-true _ _ (point.0 k d (omega arith) below) in omega arith
    | inr above ↦
        let h : (get_or unused i d).number < (get_or unused k d).number = rising i k d above lt in
        let g = point.1 i d (omega arith) (omega arith) in
        let t = lt-ltb (get_or unused i d).number n (omega arith) in
        absurd (true_not_false (sym t ∙ g))
  ]
]

-- two places with one number are one
only_at : (unused : List Unused) (i k : ℕ) (d : Unused) → AllPairs (λ u v. u.number < v.number) unused → i < length unused → k < length unused
    → (get_or unused i d).number ≡ (get_or unused k d).number → i ≡ k
only_at unused i k d rising a b same = elim (cases_order i k) [
  | inl e ↦ e
  | inr order ↦ elim order [
    | inl below ↦ let h : (get_or unused i d).number < (get_or unused k d).number = rising i k d below b in absurd (omega arith)
    | inr above ↦ let h : (get_or unused k d).number < (get_or unused i d).number = rising k i d above a in absurd (omega arith)
  ]
]

-- where the baton of a text's number doesn't accept the text, none does
pub only_one : (unused : List Unused) (text : List ℕ) (now number i : ℕ) (u : Unused) → AllPairs (λ u v. u.number < v.number) unused → All IsNamed unused
    → ((n : ℕ) (words : List ℕ) → n < 2 ^ 64 → text ≡ text_of n words → ◌≡◌ {A = Option ℕ} (Some number) (Some n))
    → IsSomeAnd (slice_get unused i) (λ v. v.number ≡ number) → (((get_or unused i u).baton.text ≡ text) × Lives (get_or unused i u) now → ⊥)
    → All (λ v. v.baton.text ≡ text → v.at + BATON_LIFE_MS ≤ now) unused
only_one unused text now number i u rising named tells here denies k d lt same =
    let v = get_or unused k d in
    let inside : i < length unused = within (λ v. v.number ≡ number) unused i here in
    let n = named k d lt in
    let e : number ≡ v.number = same_some (tells v.number n.words n.few (sym same ∙ n.text)) in
    let j : i ≡ k = only_at unused i k d rising inside lt (holds_at (λ v. v.number ≡ number) unused i d here ∙ e) in
    let is : get_or unused i u ≡ v = get_or_default unused i u d inside ∙ ap (λ m. get_or unused m d) j in
    elim (cases_lt now (v.at + BATON_LIFE_MS)) [
      | inl young ↦ absurd (denies (subst (λ w. (w.baton.text ≡ text) × Lives w now) (sym is) (same, young)))
      | inr old ↦ old
    ]
  where
    same_some : {a b : ℕ} → ◌≡◌ {A = Option ℕ} (Some a) (Some b) → a ≡ b
    same_some e = cc

-- ---- acceptance

pub accepted : (old new : Batons) (text : List ℕ) (now i : ℕ) (u : Unused) → IsSomeAnd (slice_get old.unused i) (λ v. (v.baton.text ≡ text) × Lives v now) → u ≡ get_or old.unused i u
    → new ≡ record old { unused = remove old.unused i } → Accepts old text now u.stream new
accepted old new text now i u here read used =
    let P : Unused → Type 0 = λ v. (v.baton.text ≡ text) × Lives v now in
    let holds : P u = subst P (sym read) (holds_at P old.unused i u here) in
    record {
      place = i;
      unused = u;
      at_place = slice_get_read old.unused (length old.unused) i u refl (within P old.unused i here) read;
      same_text = holds.0;
      same_stream = refl;
      lives = holds.1;
      used = used;
    }

-- the stream of a baton that was taken away has its place and no other
pub freed : (b : Batons) (i : ℕ) (u : Unused) → IsSound b → i < length b.unused → u ≡ get_or b.unused i u → Contains b.reserved u.stream × All (λ v. v.stream ≢ u.stream) (remove b.unused i)
freed b i u s inside read = (
  subst (λ (v : Unused). Contains b.reserved v.stream) (sym read) (s.placed i u inside),
  All-removed (λ v w. v.stream ≢ w.stream) (λ v w apart e. apart (sym e)) b.unused i u s.apart inside (sym read),
)

-- ---- streams that are due

Any-append_left : {X : Type 0} (P : X → Type 0) (xs ys : List X) → Any P xs → Any P (xs ++ ys)
Any-append_left P xs ys has = (has.0, has.1, omega (arith, has.2, length-append xs ys), get_or_append_left xs ys has.1 has.0 has.2 ∙ has.3, has.4)

pub due_more : (seen : List Unused) (u : Unused) (now : ℕ) (lowest : StreamNo) → IsLowestDue seen now lowest → IsDue u now → u.stream.0 ≤ lowest.0 → IsLowestDue (seen ++ u ∷ []) now u.stream
due_more seen u now lowest is due lower = record {
  is_due = Any-push (λ v. (v.stream ≡ u.stream) × IsDue v now) seen u (refl, due);
  lowest = All-push (λ v. IsDue v now → u.stream.0 ≤ v.stream.0) seen u (λ k d lt d'. let h : lowest.0 ≤ (get_or seen k d).stream.0 = is.lowest k d lt d' in omega arith) (λ d'. omega arith);
}

pub due_first : (seen : List Unused) (u : Unused) (now : ℕ) → All (λ v. now < v.at + BATON_LIFE_MS) seen → IsDue u now → IsLowestDue (seen ++ u ∷ []) now u.stream
due_first seen u now none due = record {
  is_due = Any-push (λ v. (v.stream ≡ u.stream) × IsDue v now) seen u (refl, due);
  lowest = All-push (λ v. IsDue v now → u.stream.0 ≤ v.stream.0) seen u (λ k d lt d'. let h : now < (get_or seen k d).at + BATON_LIFE_MS = none k d lt in absurd (omega arith)) (λ d'. omega arith);
}

-- one more that isn't due
pub due_same : (seen : List Unused) (u : Unused) (now : ℕ) (answer : Option StreamNo) → IsDueAmong seen now answer → Lives u now → IsDueAmong (seen ++ u ∷ []) now answer
due_same seen u now None is lives = All-push (λ v. now < v.at + BATON_LIFE_MS) seen u is lives
due_same seen u now (Some s) is lives = record {
  is_due = Any-append_left (λ v. (v.stream ≡ s) × IsDue v now) seen (u ∷ []) is.is_due;
  lowest = All-push (λ v. IsDue v now → s.0 ≤ v.stream.0) seen u is.lowest (λ d'. absurd (omega arith));
}

-- one more that is due, and no lower
pub due_lower : (seen : List Unused) (u : Unused) (now : ℕ) (s : StreamNo) → IsLowestDue seen now s → s.0 ≤ u.stream.0 → IsLowestDue (seen ++ u ∷ []) now s
due_lower seen u now s is lower = record {
  is_due = Any-append_left (λ v. (v.stream ≡ s) × IsDue v now) seen (u ∷ []) is.is_due;
  lowest = All-push (λ v. IsDue v now → s.0 ≤ v.stream.0) seen u is.lowest (λ d'. lower);
}

-- one step of a walk over the batons
pub due_step : (us : List Unused) (i : ℕ) (d : Unused) (now : ℕ) (answer : Option StreamNo) → i < length us → IsDueAmong (take i us ++ get_or us i d ∷ []) now answer → IsDueAmong (take (i + 1) us) now answer
due_step us i d now answer lt is = rw (take_more us i d lt) is

-- ---- moments that rise

pub rising_to : (us : List Unused) (last : Unused) (now : ℕ) → MomentsRise us → slice_get us (length us - 1) ≡ Some last → last.at ≤ now → All (λ u. u.at ≤ now) us
rising_to us last now rise e le k d lt =
    let at : get_or us (length us - 1) d ≡ last = get_or_from_slice_get us (length us - 1) last d e in
    let g : (get_or us (length us - 1) d).at ≤ now = subst (λ (v : Unused). v.at ≤ now) (sym at) le in
    elim (cases_order k (length us - 1)) [
      | inl same ↦ subst (λ (m : ℕ). (get_or us m d).at ≤ now) (sym same) g
      | inr order ↦ elim order [
        | inl below ↦ let h : (get_or us k d).at ≤ (get_or us (length us - 1) d).at = rise k (length us - 1) d below (omega arith) in omega arith
        | inr above ↦ absurd (omega arith)
      ]
    ]

pub rising_push : (us : List Unused) (u : Unused) → MomentsRise us × All (λ v. v.at ≤ u.at) us → MomentsRise (us ++ u ∷ [])
rising_push us u rise = all_pairs_push (λ v w. v.at ≤ w.at) us u rise.0 rise.1

-- more that aren't due
due_with : (seen more : List Unused) (now : ℕ) (answer : Option StreamNo) → All (λ v. Lives v now) more → IsDueAmong seen now answer → IsDueAmong (seen ++ more) now answer
due_with seen more now None lives is = All-append (λ v. now < v.at + BATON_LIFE_MS) seen more is lives
due_with seen more now (Some s) lives is = record {
  is_due = Any-append_left (λ v. (v.stream ≡ s) × IsDue v now) seen more is.is_due;
  lowest = All-append (λ v. IsDue v now → s.0 ≤ v.stream.0) seen more is.lowest (λ k d lt due. let h : now < (get_or more k d).at + BATON_LIFE_MS = lives k d lt in absurd (omega arith));
}

-- where the moments rise, none is due from one on that lives
pub due_rest : (us : List Unused) (i : ℕ) (d : Unused) (now : ℕ) (answer : Option StreamNo) → MomentsRise us → i < length us → Lives (get_or us i d) now → IsDueAmong (take i us) now answer → IsDueAmong us now answer
due_rest us i d now answer rise inside young is =
    let lives : All (λ v. Lives v now) (drop i us) = λ k e lt.
    let at : get_or us i e ≡ get_or us i d = get_or_default us i e d inside in
    let here : now < (get_or us i e).at + BATON_LIFE_MS = subst (λ (v : Unused). now < v.at + BATON_LIFE_MS) (sym at) young in
    let there : now < (get_or us (i + k) e).at + BATON_LIFE_MS = elim (cases_order i (i + k)) [
      | inl same ↦ subst (λ (m : ℕ). now < (get_or us m e).at + BATON_LIFE_MS) same here
      | inr order ↦ elim order [
        | inl below ↦ let h : (get_or us i e).at ≤ (get_or us (i + k) e).at = rise i (i + k) e below (omega (arith, lt, length-drop i us)) in omega arith
        | inr above ↦ absurd (omega arith)
      ]
    ] in
    subst (λ (v : Unused). now < v.at + BATON_LIFE_MS) (sym (get_or-drop i us k e)) there in
    subst (λ (vs : List Unused). IsDueAmong vs now answer) (take-append-drop i us) (due_with (take i us) (drop i us) now answer lives is)

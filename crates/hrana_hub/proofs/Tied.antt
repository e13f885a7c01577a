-- The store of batons and the streams of exchanges, after a change at one stream.
use Rattle.std.proofs.Common.{◌≡◌, ◌≢◌, ◌+◌, ◌<◌, ℕ, true, not, cond, List, [], ◌∷◌, get_or, Option, None, Some, Contains, refl, sym, ap, ◌∙◌, subst, arith, true≢false, inl, inr}
use Rattle.std.specs.Prelude.{◌↔◌, is_some}
use Rattle.std.specs.List.{remove}
use Rattle.std.proofs.lemmas.Bool.{cases_eq, ne_eqb}
use Rattle.std.proofs.lemmas.Option.{slice_get-get_or}
use Rattle.std.proofs.lemmas.List.Elements.{Contains-append_left, Contains-push}
use Rattle.hrana_value.specs.declared.StreamNo.{StreamNo}
use Rattle.baton_store.specs.Text.{text_of}
use Rattle.baton_store.specs.Batons.{Batons, no_batons, HasBaton, HasNone, Accepts, Denies, Frees, same_stream, next_baton, with_place, with_baton, without as store_without}
use Rattle.baton_store.specs.declared.limits.TheConstants.{BATON_LIFE_MS}
use Rattle.baton_store.specs.declared.store.Redeem.TheVariants.{Live}
use Rattle.baton_store.specs.declared.store.Unused.{Unused}
use Rattle.baton_store.proofs.ListLemmas.{Contains-filter}
use Rattle.baton_store.proofs.LawLemmas.{Has-left, Has-last, Has-pushed, Has-at, Has-still, Has-before, Has-none, Has-filtered, Has-filter, old_has}
use Rattle.stream_task.specs.Together.{numbered}
use Rattle.hrana_hub.specs.declared.sessions.Issued.{Issued}
use Rattle.hrana_hub.specs.declared.sessions.Running.{Running as Exchange}
use Rattle.hrana_hub.specs.declared.sessions.Session.{Session}
use Rattle.hrana_hub.specs.declared.sessions.Session.TheVariants.{Resting, Running}
use Rattle.hrana_hub.specs.Maps.{Numbered, at, put, placed, without}
use Rattle.hrana_hub.specs.State.{Stream, of_exchanges}
use Rattle.hrana_hub.specs.Agrees.{IsTied, rests_for}
use Rattle.hrana_hub.proofs.EntryLemmas.{at_put, at_put_other, at_without, at_without_other}
use Rattle.hrana_hub.proofs.MapLemmas.{none_some, some_one, at_placed, at_placed_other, Rises}

-- ---- what a stream waits for

-- it waits for no exchange that brings a baton
abbrev pub AwaitsNone : Option Session → Type 0
AwaitsNone session = (baton : Issued) → session ≡ Some (Resting (Some baton)) → ⊥

none_awaits_none : AwaitsNone None
none_awaits_none baton e = none_some e

pub rests_awaits_none : (session : Option Session) → session ≡ Some (Resting None) → AwaitsNone session
rests_awaits_none session rests baton e = absurd (cc)

pub runs_awaits_none : (session : Option Session) (exchange : Exchange) → session ≡ Some (Running exchange) → AwaitsNone session
runs_awaits_none session exchange runs baton e = absurd (cc)

resting_one : {a b : Issued} → ◌≡◌ {A = Option Session} (Some (Resting (Some a))) (Some (Resting (Some b))) → a ≡ b
resting_one e = cc

abbrev session_in : Option Stream → Option Session
session_in None = None
session_in (Some x) = x.session

-- ---- stream by stream

-- what the store has of the stream of this number is what a stream that waits for this wants
record TiesAt (session : Option Session) (n : ℕ) (store : Batons) : Type 0 where
  placed : is_some session ≡ true → Contains store.reserved (numbered n)
  held : (text : List ℕ) (moment : ℕ) → HasBaton store.unused text (numbered n) moment ↔ (session ≡ Some (rests_for text moment))

ties_at : (n : ℕ) (es : Numbered Stream) (store : Batons) → IsTied es store → TiesAt (session_in (at n es)) n store
ties_at n es store tied = by (at n es) refl
  where
    by : (o : Option Stream) → at n es ≡ o → TiesAt (session_in o) n store
    by None e = record {
      placed = λ some. absurd (true≢false (sym some));
      held = λ text moment. (λ has. let w = (tied.held n text moment).0 has in absurd (none_some (sym e ∙ w.1)), λ waits. absurd (none_some waits));
    }
    by (Some x) e = record {
      placed = tied.placed n x e;
      held = λ text moment. (
        λ has.
            let w = (tied.held n text moment).0 has in
            subst (λ (y : Stream). y.session ≡ Some (rests_for text moment)) (some_one (sym w.1 ∙ e)) w.2,
        λ waits. (tied.held n text moment).1 (x, e, waits),
      );
    }

stream_at : (n : ℕ) (x : Stream) (es : Numbered Stream) (store : Batons) → at n es ≡ Some x → IsTied es store → TiesAt x.session n store
stream_at n x es store e tied = subst (λ (o : Option Stream). TiesAt (session_in o) n store) e (ties_at n es store tied)

none_at : (n : ℕ) (es : Numbered Stream) (store : Batons) → at n es ≡ None → IsTied es store → TiesAt None n store
none_at n es store e tied = subst (λ (o : Option Stream). TiesAt (session_in o) n store) e (ties_at n es store tied)

waiting_at : (o : Option Stream) (text : List ℕ) (moment : ℕ) → session_in o ≡ Some (rests_for text moment) → (x : Stream) × (o ≡ Some x) × (x.session ≡ Some (rests_for text moment))
waiting_at None text moment waits = absurd (none_some waits)
waiting_at (Some x) text moment waits = (x, refl, waits)

tied_by : (es : Numbered Stream) (store : Batons) → ((n : ℕ) → TiesAt (session_in (at n es)) n store) → IsTied es store
tied_by es store ties = record {
  placed = λ n x e some. (ties n).placed (ap (λ (o : Option Stream). is_some (session_in o)) e ∙ some);
  held = λ n text moment. (λ has. waiting_at (at n es) text moment (((ties n).held text moment).0 has), λ w. ((ties n).held text moment).1 (ap session_in w.1 ∙ w.2));
}

-- a stream that waits for no baton has none
ties_none : (session : Option Session) (n : ℕ) (store : Batons) → (is_some session ≡ true → Contains store.reserved (numbered n)) → AwaitsNone session → HasNone store (numbered n) → TiesAt session n store
ties_none session n store place awaits none = record {
  placed = place;
  held = λ text moment. (λ has. absurd (Has-none store.unused text (numbered n) moment none has), λ waits. absurd (awaits (record { text = text; at = moment }) waits));
}

has_none : (session : Option Session) (n : ℕ) (store : Batons) → AwaitsNone session → TiesAt session n store → HasNone store (numbered n)
has_none session n store awaits ties k d inside same =
    let u = get_or store.unused k d in
    let has : HasBaton store.unused u.baton.text (numbered n) u.at = subst (λ (s : StreamNo). HasBaton store.unused u.baton.text s u.at) same (Has-at store.unused k u (slice_get-get_or store.unused k d inside)) in
    awaits (record { text = u.baton.text; at = u.at }) ((ties.held u.baton.text u.at).0 has)

-- ---- a change at one stream

other_number : (k n : ℕ) → k ≢ n → numbered k ≢ numbered n
other_number k n other same = other (ap (λ (s : StreamNo). s.0) same)

-- the store has of the other streams what it had
record KeepsOthers (n : ℕ) (old new : Batons) : Type 0 where
  places : (k : ℕ) → k ≢ n → Contains old.reserved (numbered k) → Contains new.reserved (numbered k)
  batons : (k : ℕ) (text : List ℕ) (moment : ℕ) → k ≢ n → HasBaton new.unused text (numbered k) moment ↔ HasBaton old.unused text (numbered k) moment

keeps_all : (n : ℕ) (store : Batons) → KeepsOthers n store store
keeps_all n store = record { places = λ k other has. has; batons = λ k text moment other. (λ has. has, λ has. has) }

keeps_trans : (n : ℕ) (a b c : Batons) → KeepsOthers n a b → KeepsOthers n b c → KeepsOthers n a c
keeps_trans n a b c first second = record {
  places = λ k other has. second.places k other (first.places k other has);
  batons = λ k text moment other. (
    λ has. (first.batons k text moment other).0 ((second.batons k text moment other).0 has),
    λ has. (second.batons k text moment other).1 ((first.batons k text moment other).1 has),
  );
}

keeps_place : (n : ℕ) (store : Batons) → KeepsOthers n store (with_place store (numbered n))
keeps_place n store = record {
  places = λ k other has. Contains-append_left store.reserved (numbered n ∷ []) (numbered k) has;
  batons = λ k text moment other. (λ has. has, λ has. has);
}

keeps_baton : (n : ℕ) (store : Batons) (words : List ℕ) (now : ℕ) → KeepsOthers n store (with_baton store (numbered n) words now)
keeps_baton n store words now =
    let u = next_baton store (numbered n) words now in
    record {
      places = λ k other has. has;
      batons = λ k text moment other. (
        λ has. elim (Has-pushed store.unused u text (numbered k) moment has) [
          | inl is ↦ absurd (other_number k n other (sym is.1))
          | inr old ↦ old
        ],
        λ has. Has-left store.unused (u ∷ []) text (numbered k) moment has,
      );
    }

keeps_without : (n : ℕ) (store : Batons) → KeepsOthers n store (store_without store (numbered n))
keeps_without n store = record {
  places = λ k other has. Contains-filter (λ s. not (same_stream s (numbered n))) store.reserved (numbered k) (passes k other) has;
  batons = λ k text moment other. (
    λ has. (Has-filtered store.unused (numbered n) text (numbered k) moment has).1,
    λ has. Has-filter store.unused (numbered n) text (numbered k) moment (λ same. other_number k n other (sym same)) has,
  );
}
  where
    passes : (k : ℕ) → k ≢ n → not (same_stream (numbered k) (numbered n)) ≡ true
    passes k other = ap not (ne_eqb k n other)

keeps_accepted : (n : ℕ) (text : List ℕ) (now : ℕ) (old new : Batons) → Accepts old text now (numbered n) new → KeepsOthers n old new
keeps_accepted n text now old new accepts =
    let used : new.unused ≡ remove old.unused accepts.place = ap (λ (b : Batons). b.unused) accepts.used in
    let reserved : new.reserved ≡ old.reserved = ap (λ (b : Batons). b.reserved) accepts.used in
    record {
      places = λ k other has. subst (λ (ss : List StreamNo). Contains ss (numbered k)) (sym reserved) has;
      batons = λ k brought moment other. (
        λ has. Has-before old.unused accepts.place brought (numbered k) moment (subst (λ (us : List Unused). HasBaton us brought (numbered k) moment) used has),
        λ has. subst (λ (us : List Unused). HasBaton us brought (numbered k) moment) (sym used)
            (Has-still old.unused accepts.place accepts.unused brought (numbered k) moment accepts.at_place (λ same. other_number k n other (sym same ∙ accepts.same_stream)) has),
      );
    }

module _ (n : ℕ) (es : Numbered Stream) (old new : Batons) where
  changed : (fs : Numbered Stream) → ((k : ℕ) → k ≢ n → at k fs ≡ at k es) → KeepsOthers n old new → TiesAt (session_in (at n fs)) n new → IsTied es old → IsTied fs new
  changed fs same keeps here tied = tied_by fs new (λ k. elim (cases_eq k n) [
    | inl is ↦ subst (λ (j : ℕ). TiesAt (session_in (at j fs)) j new) (sym is) here
    | inr other ↦ there k other (ties_at k es old tied)
  ])
    where
      there : (k : ℕ) → k ≢ n → TiesAt (session_in (at k es)) k old → TiesAt (session_in (at k fs)) k new
      there k other ties =
          let e : session_in (at k fs) ≡ session_in (at k es) = ap session_in (same k other) in
          record {
            placed = λ some. keeps.places k other (ties.placed (sym (ap (λ (o : Option Session). is_some o) e) ∙ some));
            held = λ text moment. (
              λ has. e ∙ (ties.held text moment).0 ((keeps.batons k text moment other).0 has),
              λ waits. (keeps.batons k text moment other).1 ((ties.held text moment).1 (sym e ∙ waits)),
            );
          }

  put_changed : (x y : Stream) → at n es ≡ Some x → KeepsOthers n old new → TiesAt y.session n new → IsTied es old → IsTied (put n y es) new
  put_changed x y e keeps here = changed (put n y es) (λ k other. at_put_other n k x y es e other) keeps (subst (λ (o : Option Stream). TiesAt (session_in o) n new) (sym (at_put n x y es e)) here)

  placed_changed : (y : Stream) → KeepsOthers n old new → TiesAt y.session n new → IsTied es old → IsTied (placed n y es) new
  placed_changed y keeps here = changed (placed n y es) (λ k other. at_placed_other n k y es other) keeps (subst (λ (o : Option Stream). TiesAt (session_in o) n new) (sym (at_placed n y es)) here)

  without_changed : Rises es → KeepsOthers n old new → TiesAt None n new → IsTied es old → IsTied (without n es) new
  without_changed rises keeps here = changed (without n es) (λ k other. at_without_other n k es rises other) keeps (subst (λ (o : Option Stream). TiesAt (session_in o) n new) (sym (at_without n es rises)) here)

-- ---- what holds of one stream

pub tied_has_place : (n : ℕ) (x : Stream) (es : Numbered Stream) (store : Batons) → at n es ≡ Some x → of_exchanges x ≡ true → IsTied es store → Contains store.reserved (numbered n)
tied_has_place n x es store e ours tied = tied.placed n x e ours

pub tied_has_none : (n : ℕ) (x : Stream) (es : Numbered Stream) (store : Batons) → at n es ≡ Some x → AwaitsNone x.session → IsTied es store → HasNone store (numbered n)
tied_has_none n x es store e awaits tied = has_none x.session n store awaits (stream_at n x es store e tied)

pub fresh_has_none : (n : ℕ) (es : Numbered Stream) (store : Batons) → at n es ≡ None → IsTied es store → HasNone store (numbered n)
fresh_has_none n es store e tied = has_none None n store none_awaits_none (none_at n es store e tied)

-- ---- the store stays

pub tied_first : IsTied [] no_batons
tied_first = tied_by [] no_batons (λ n. record { placed = λ some. absurd (true≢false (sym some)); held = λ text moment. (λ has. absurd has, λ waits. absurd (none_some waits)) })

pub tied_same : (es : Numbered Stream) (store store' : Batons) → store' ≡ store → IsTied es store → IsTied es store'
tied_same es store store' same tied = subst (λ (b : Batons). IsTied es b) (sym same) tied

pub tied_same_streams : (es es' : Numbered Stream) (store : Batons) → es' ≡ es → IsTied es store → IsTied es' store
tied_same_streams es es' store same tied = subst (λ (fs : Numbered Stream). IsTied fs store) (sym same) tied

pub tied_put : (n : ℕ) (x y : Stream) (es : Numbered Stream) (store : Batons) → at n es ≡ Some x → y.session ≡ x.session → IsTied es store → IsTied (put n y es) store
tied_put n x y es store e same tied = put_changed n es store store x y e (keeps_all n store) (subst (λ (o : Option Session). TiesAt o n store) (sym same) (stream_at n x es store e tied)) tied

pub tied_placed : (n : ℕ) (y : Stream) (es : Numbered Stream) (store : Batons) → at n es ≡ None → y.session ≡ None → IsTied es store → IsTied (placed n y es) store
tied_placed n y es store e same tied = placed_changed n es store store y (keeps_all n store) (subst (λ (o : Option Session). TiesAt o n store) (sym same) (none_at n es store e tied)) tied

-- neither before nor now it waits for a baton
pub tied_rests : (n : ℕ) (x y : Stream) (es : Numbered Stream) (store : Batons) → at n es ≡ Some x → AwaitsNone x.session → AwaitsNone y.session → of_exchanges x ≡ true → IsTied es store → IsTied (put n y es) store
tied_rests n x y es store e before after ours tied =
    put_changed n es store store x y e (keeps_all n store) (ties_none y.session n store (λ some. tied.placed n x e ours) after (tied_has_none n x es store e before tied)) tied

-- ---- a stream has a place, and gives it back

pub tied_opens : (n : ℕ) (y : Stream) (es : Numbered Stream) (store : Batons) → at n es ≡ None → y.session ≡ Some (Resting None) → IsTied es store → IsTied (placed n y es) (with_place store (numbered n))
tied_opens n y es store e rests tied =
    let new = with_place store (numbered n) in
    placed_changed n es store new y (keeps_place n store) (ties_none y.session n new (λ some. Contains-push store.reserved (numbered n)) (rests_awaits_none y.session rests) (fresh_has_none n es store e tied)) tied

-- what is not there wants nothing of the store
ties_gone : (n : ℕ) (store : Batons) → TiesAt None n (store_without store (numbered n))
ties_gone n store = record {
  placed = λ some. absurd (true≢false (sym some));
  held = λ text moment. (λ has. absurd ((Has-filtered store.unused (numbered n) text (numbered n) moment has).0 refl), λ waits. absurd (none_some waits));
}

pub tied_forgets : (n : ℕ) (es : Numbered Stream) (store : Batons) → at n es ≡ None → IsTied es store → IsTied es (store_without (with_place store (numbered n)) (numbered n))
tied_forgets n es store e tied =
    let between = with_place store (numbered n) in
    let new = store_without between (numbered n) in
    changed n es store new es (λ k other. refl) (keeps_trans n store between new (keeps_place n store) (keeps_without n between)) (subst (λ (o : Option Stream). TiesAt (session_in o) n new) (sym e) (ties_gone n between)) tied

pub tied_without : (n : ℕ) (x : Stream) (es : Numbered Stream) (store : Batons) → Rises es → at n es ≡ Some x → IsTied es store
    → IsTied (without n es) (cond (of_exchanges x) (store_without store (numbered n)) store)
tied_without n x es store rises e tied = by x.session refl
  where
    by : (session : Option Session) → x.session ≡ session → IsTied (without n es) (cond (is_some session) (store_without store (numbered n)) store)
    by None is = without_changed n es store store rises (keeps_all n store) (subst (λ (o : Option Session). TiesAt o n store) is (stream_at n x es store e tied)) tied
    by (Some session) is = without_changed n es store (store_without store (numbered n)) rises (keeps_without n store) (ties_gone n store) tied

-- ---- a baton is issued

-- it waits for the next baton of the store, which is issued to it
ties_issued : (session : Option Session) (n : ℕ) (store : Batons) (words : List ℕ) (now : ℕ) → Contains store.reserved (numbered n) → HasNone store (numbered n) → session ≡ Some (rests_for (text_of (store.issued + 1) words) now)
    → TiesAt session n (with_baton store (numbered n) words now)
ties_issued session n store words now place none rests =
    let u = next_baton store (numbered n) words now in
    record {
      placed = λ some. place;
      held = λ text moment. (
        λ has. elim (Has-pushed store.unused u text (numbered n) moment has) [
          | inl is ↦ rests ∙ (ap (λ (t : List ℕ). Some (rests_for t now)) is.0 ∙ ap (λ (m : ℕ). Some (rests_for text m)) is.2)
          | inr old ↦ absurd (Has-none store.unused text (numbered n) moment none old)
        ],
        λ waits.
            let same = resting_one (sym rests ∙ waits) in
            Has-last store.unused u text (numbered n) moment (ap (λ (b : Issued). b.text) same, refl, ap (λ (b : Issued). b.at) same),
      );
    }

pub tied_issues : (n : ℕ) (x y : Stream) (es : Numbered Stream) (store : Batons) (words : List ℕ) (now : ℕ) → at n es ≡ Some x → of_exchanges x ≡ true → HasNone store (numbered n)
    → y.session ≡ Some (rests_for (text_of (store.issued + 1) words) now) → IsTied es store → IsTied (put n y es) (with_baton store (numbered n) words now)
tied_issues n x y es store words now e ours none rests tied =
    put_changed n es store (with_baton store (numbered n) words now) x y e (keeps_baton n store words now) (ties_issued y.session n store words now (tied.placed n x e ours) none rests) tied

-- ---- a text is brought

pub tied_uses : (n : ℕ) (x y : Stream) (es : Numbered Stream) (store store' : Batons) (text : List ℕ) (now : ℕ) → at n es ≡ Some x → Accepts store text now (numbered n) store' → Frees (Live (numbered n)) store'
    → AwaitsNone y.session → IsTied es store → IsTied (put n y es) store'
tied_uses n x y es store store' text now e accepts frees awaits tied =
    put_changed n es store store' x y e (keeps_accepted n text now store store' accepts) (ties_none y.session n store' (λ some. frees.0) awaits frees.1) tied

-- a stream waits for the exchange that brings this text, and not for too long
pub record IsAwaited (n : ℕ) (es : Numbered Stream) (text : List ℕ) (now : ℕ) : Type 0 where
  pub x : Stream
  pub baton : Issued
  pub known : at n es ≡ Some x
  pub rests : x.session ≡ Some (Resting (Some baton))
  pub text_is : baton.text ≡ text
  pub young : now < baton.at + BATON_LIFE_MS

pub accepts_awaits : (n : ℕ) (es : Numbered Stream) (store store' : Batons) (text : List ℕ) (now : ℕ) → Accepts store text now (numbered n) store' → IsTied es store → IsAwaited n es text now
accepts_awaits n es store store' text now accepts tied =
    let u = accepts.unused in
    let has : HasBaton store.unused u.baton.text (numbered n) u.at = subst (λ (s : StreamNo). HasBaton store.unused u.baton.text s u.at) accepts.same_stream (Has-at store.unused accepts.place u accepts.at_place) in
    let w = (tied.held n u.baton.text u.at).0 has in
    record { x = w.0; baton = record { text = u.baton.text; at = u.at }; known = w.1; rests = w.2; text_is = accepts.same_text; young = accepts.lives }

pub denies_none : (es : Numbered Stream) (store store' : Batons) (text : List ℕ) (now : ℕ) → Denies store text now store' → IsTied es store
    → (n : ℕ) (x : Stream) (baton : Issued) → at n es ≡ Some x → x.session ≡ Some (Resting (Some baton)) → baton.text ≡ text → now < baton.at + BATON_LIFE_MS → ⊥
denies_none es store store' text now denies tied n x baton e rests same young =
    let has : HasBaton store.unused baton.text (numbered n) baton.at = (tied.held n baton.text baton.at).1 (x, e, rests) in
    let old = old_has store.unused text (numbered n) baton.at now denies.none (subst (λ (t : List ℕ). HasBaton store.unused t (numbered n) baton.at) same has) in
    omega arith

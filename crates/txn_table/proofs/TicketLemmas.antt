-- On tickets.
use Rattle.std.proofs.Common.{◌≡◌, ◌≢◌, ℕ, zero, suc, ◌+◌, ◌<◌, ◌≤◌, true, false, Option, Some, None, List, [], ◌∷◌, ◌++◌, length, get_or, set, slice_get, refl, sym, ap, subst, ◌∙◌, arith, inl, inr, nat_lt}
use Rattle.std.specs.List.{All, AllPairs, Contains, insert, remove}
use Rattle.std.specs.List.Sorted.{IsPartitionedBy, IsPartitionPoint}
use Rattle.std.proofs.lemmas.Bool.{cases_order, cases_lt, ltb-true, lt-ltb, ltb-false, le-ltb, ne_eqb}
use Rattle.std.proofs.lemmas.List.{get_or_default}
use Rattle.std.proofs.lemmas.List.Elements.{All-push, Contains-get_or}
use Rattle.std.proofs.lemmas.List.Quantifiers.{all_pairs_push, all_pairs_remove}
use Rattle.hrana_value.specs.declared.StreamNo.{StreamNo}
use Rattle.txn_table.specs.declared.tickets.Ticket.{Ticket}
use Rattle.txn_table.specs.Turns.{same_stream, has, without, queued, placed}
use Rattle.txn_table.specs.Tickets.{streams_of, IsRising, AreInOrder, AreApart, AreHeld, HasNone, IsAt, IsBetween, IsAmong, IsWaiterOf, AreSound}
use Rattle.txn_table.proofs.StreamLemmas.{stream_one, same, other, or_true}
use Rattle.txn_table.proofs.ListLemmas.{within, holds_at, AllPairs-tail, AllPairs-insert, Contains-insert, All-remove, Contains-remove, length-contained}

-- ---- a search in halves

pub partitioned : (places : List Ticket) (n : ℕ) → IsRising places → IsPartitionedBy (λ p. nat_lt p.stream.0 n) places
partitioned places n rising i j d le lt below = elim (cases_order i j) [
  | inl e ↦ subst (λ k. nat_lt (get_or places k d).stream.0 n ≡ true) (sym e) below
  | inr order ↦ elim order [
    | inl less ↦ let h : (get_or places i d).stream.0 < (get_or places j d).stream.0 = rising i j d less lt in lt-ltb _ _ (omega (arith, h, ltb-true _ _ below))
    | inr more ↦ absurd (omega arith)
  ]
]

pub between : (places : List Ticket) (stream : StreamNo) (i : ℕ) → IsRising places → i ≤ length places
    → IsPartitionPoint (λ p. nat_lt p.stream.0 stream.0 ≡ true) (λ p. nat_lt p.stream.0 stream.0 ≡ false) places i
    → ((d : Ticket) → i < length places → (get_or places i d).stream.0 ≢ stream.0) → IsBetween places stream i
between places stream i rising bound point ne = record {
  bound = bound;
  below = λ k d lt. ltb-true _ _ (point.0 k d (omega arith) lt);
  above = λ k d le lt.
      let here : stream.0 ≤ (get_or places i d).stream.0 = ltb-false _ _ (point.1 i d (omega arith) (omega arith)) in
      let apart : (get_or places i d).stream.0 ≢ stream.0 = ne d (omega arith) in
      elim (cases_order k i) [
        | inl e ↦ subst (λ m. stream.0 < (get_or places m d).stream.0) (sym e) (omega arith)
        | inr order ↦ elim order [
          | inl less ↦ absurd (omega arith)
          | inr more ↦ let h : (get_or places i d).stream.0 < (get_or places k d).stream.0 = rising i k d more lt in omega arith
        ]
      ];
}

pub numbers_partitioned : (waiters : List Ticket) (n : ℕ) → AreInOrder waiters → IsPartitionedBy (λ w. nat_lt w.number n) waiters
numbers_partitioned waiters n in_order i j d le lt below = elim (cases_order i j) [
  | inl e ↦ subst (λ k. nat_lt (get_or waiters k d).number n ≡ true) (sym e) below
  | inr order ↦ elim order [
    | inl less ↦ let h : (get_or waiters i d).number ≤ (get_or waiters j d).number = in_order i j d less lt in lt-ltb _ _ (omega (arith, h, ltb-true _ _ below))
    | inr more ↦ absurd (omega arith)
  ]
]

-- ---- which streams stand in a list

pub none_between : (places : List Ticket) (stream : StreamNo) (i : ℕ) → IsBetween places stream i → HasNone places stream
none_between places stream i b k d lt e =
    let f : (get_or places k d).stream.0 ≡ stream.0 = ap (λ (s : StreamNo). s.0) e in
    elim (cases_lt k i) [
      | inl less ↦ let h = b.below k d less in omega arith
      | inr more ↦ let h = b.above k d more lt in omega arith
    ]

none_head : (x : Ticket) (xs : List Ticket) (s : StreamNo) → HasNone (x ∷ xs) s → x.stream ≢ s
none_head x xs s none = none 0 x (omega arith)

none_tail : (x : Ticket) (xs : List Ticket) (s : StreamNo) → HasNone (x ∷ xs) s → HasNone xs s
none_tail x xs s none k d lt = none (suc k) d (omega arith)

pub has_none : (xs : List Ticket) (s : StreamNo) → HasNone xs s → has s (streams_of xs) ≡ false
has_none [] s none = refl
has_none (x ∷ xs) s none = rw (other x.stream s (none_head x xs s none)) (has_none xs s (none_tail x xs s none))

pub has_at : (xs : List Ticket) (s : StreamNo) (i : ℕ) → IsAt xs s i → has s (streams_of xs) ≡ true
has_at [] s i at = absurd at
has_at (x ∷ xs) s zero at = rw (same x.stream s at) refl
has_at (x ∷ xs) s (suc i) at = rw (has_at xs s i at) (or_true (same_stream x.stream s))

-- the stream of a ticket in a list
pub has_ticket : (xs : List Ticket) (x : Ticket) → Contains xs x → has x.stream (streams_of xs) ≡ true
has_ticket [] x h = absurd (omega (arith, h.1))
has_ticket (y ∷ ys) x (zero, lt, e) = rw (same y.stream x.stream (ap (λ (t : Ticket). t.stream) e)) refl
has_ticket (y ∷ ys) x (suc k, lt, e) = rw (has_ticket ys x (k, omega arith, e)) (or_true (same_stream y.stream x.stream))

pub without_none : (xs : List Ticket) (s : StreamNo) → HasNone xs s → without s (streams_of xs) ≡ streams_of xs
without_none [] s none = refl
without_none (x ∷ xs) s none = rw (other x.stream s (none_head x xs s none)) (ap (λ ys. x.stream ∷ ys) (without_none xs s (none_tail x xs s none)))

rest_none : (x : Ticket) (xs : List Ticket) (s : StreamNo) → AreApart (x ∷ xs) → x.stream ≡ s → HasNone xs s
rest_none x xs s apart e k d lt f = apart 0 (suc k) d (omega arith) (omega arith) (e ∙ sym f)

head_other : (x : Ticket) (xs : List Ticket) (s : StreamNo) (i : ℕ) → AreApart (x ∷ xs) → IsAt xs s i → x.stream ≢ s
head_other x xs s i apart at e =
    let P : Ticket → Type 0 = λ y. y.stream ≡ s in
    let inside : i < length xs = within P xs i at in
    apart 0 (suc i) x (omega arith) (omega arith) (e ∙ sym (holds_at P xs i x at))

-- the list without the ticket of a stream
pub without_at : (xs : List Ticket) (s : StreamNo) (i : ℕ) → AreApart xs → IsAt xs s i → streams_of (remove xs i) ≡ without s (streams_of xs)
without_at [] s i apart at = absurd at
without_at (x ∷ xs) s zero apart at = rw (same x.stream s at) (sym (without_none xs s (rest_none x xs s apart at)))
without_at (x ∷ xs) s (suc i) apart at =
    rw (other x.stream s (head_other x xs s i apart at)) (ap (λ ys. x.stream ∷ ys) (without_at xs s i (AllPairs-tail (λ (v w : Ticket). v.stream ≢ w.stream) x xs apart) at))

pub queued_none : (xs : List Ticket) (y : Ticket) → HasNone xs y.stream → streams_of (xs ++ y ∷ []) ≡ queued y.stream (streams_of xs)
queued_none xs y none = rw (has_none xs y.stream none) (pushed xs)
  where
    pushed : (zs : List Ticket) → streams_of (zs ++ y ∷ []) ≡ streams_of zs ++ y.stream ∷ []
    pushed [] = refl
    pushed (z ∷ zs) = ap (λ ys. z.stream ∷ ys) (pushed zs)

pub queued_at : (xs : List Ticket) (s : StreamNo) (i : ℕ) → IsAt xs s i → streams_of xs ≡ queued s (streams_of xs)
queued_at xs s i at = rw (has_at xs s i at) refl

pub apart_rising : (xs : List Ticket) → IsRising xs → AreApart xs
apart_rising xs rising i j d lt inside e =
    let h : (get_or xs i d).stream.0 < (get_or xs j d).stream.0 = rising i j d lt inside in
    let f : (get_or xs i d).stream.0 ≡ (get_or xs j d).stream.0 = ap (λ (s : StreamNo). s.0) e in
    omega arith

-- a stream is put at its place
pub placed_between : (xs : List Ticket) (i : ℕ) (y : Ticket) → IsBetween xs y.stream i → streams_of (insert xs i y) ≡ placed y.stream (streams_of xs)
placed_between [] zero y b = refl
placed_between [] (suc i) y b = absurd (omega (arith, b.bound))
placed_between (x ∷ xs) zero y b =
    let h : y.stream.0 < x.stream.0 = b.above 0 x (omega arith) (omega arith) in
    rw (le-ltb x.stream.0 y.stream.0 (omega arith), ne_eqb x.stream.0 y.stream.0 (λ e. omega arith)) refl
placed_between (x ∷ xs) (suc i) y b =
    let h : x.stream.0 < y.stream.0 = b.below 0 x (omega arith) in
    let rest : IsBetween xs y.stream i = record {
      bound = omega (arith, b.bound);
      below = λ k d lt. b.below (suc k) d (omega arith);
      above = λ k d le lt. b.above (suc k) d (omega arith) (omega arith);
    } in
    rw (lt-ltb x.stream.0 y.stream.0 h) (ap (λ ys. x.stream ∷ ys) (placed_between xs i y rest))

-- a stream that is there
pub placed_at : (xs : List Ticket) (s : StreamNo) (i : ℕ) → IsRising xs → IsAt xs s i → streams_of xs ≡ placed s (streams_of xs)
placed_at [] s i rising at = absurd at
placed_at (x ∷ xs) s zero rising at =
    let e : x.stream.0 ≡ s.0 = ap (λ (t : StreamNo). t.0) at in
    rw (le-ltb x.stream.0 s.0 (omega arith), same x.stream s at) refl
placed_at (x ∷ xs) s (suc i) rising at =
    let P : Ticket → Type 0 = λ y. y.stream ≡ s in
    let inside : i < length xs = within P xs i at in
    let e : (get_or xs i x).stream.0 ≡ s.0 = ap (λ (t : StreamNo). t.0) (holds_at P xs i x at) in
    let h : x.stream.0 < (get_or xs i x).stream.0 = rising 0 (suc i) x (omega arith) (omega arith) in
    rw (lt-ltb x.stream.0 s.0 (omega arith)) (ap (λ ys. x.stream ∷ ys) (placed_at xs s i (AllPairs-tail (λ (p q : Ticket). p.stream.0 < q.stream.0) x xs rising) at))

-- ---- a new ticket at a stream's place

stream_set : (xs : List Ticket) (i : ℕ) (y : Ticket) (k : ℕ) (d : Ticket) → IsAt xs y.stream i → (get_or (set xs i y) k d).stream ≡ (get_or xs k d).stream
stream_set [] i y k d at = absurd at
stream_set (x ∷ xs) zero y zero d at = sym at
stream_set (x ∷ xs) zero y (suc k) d at = refl
stream_set (x ∷ xs) (suc i) y zero d at = refl
stream_set (x ∷ xs) (suc i) y (suc k) d at = stream_set xs i y k d at

pub streams_set : (xs : List Ticket) (i : ℕ) (y : Ticket) → IsAt xs y.stream i → streams_of (set xs i y) ≡ streams_of xs
streams_set [] i y at = absurd at
streams_set (x ∷ xs) zero y at = ap (λ s. s ∷ streams_of xs) (sym at)
streams_set (x ∷ xs) (suc i) y at = ap (λ ys. x.stream ∷ ys) (streams_set xs i y at)

length_set : (xs : List Ticket) (i : ℕ) (y : Ticket) → length (set xs i y) ≡ length xs
length_set [] i y = refl
length_set (x ∷ xs) zero y = refl
length_set (x ∷ xs) (suc i) y = ap (λ n. suc n) (length_set xs i y)

rising_set : (xs : List Ticket) (i : ℕ) (y : Ticket) → IsRising xs → IsAt xs y.stream i → IsRising (set xs i y)
rising_set xs i y rising at a b d lt inside =
    let h : (get_or xs a d).stream.0 < (get_or xs b d).stream.0 = rising a b d lt (omega (arith, length_set xs i y)) in
    let e : (get_or (set xs i y) a d).stream.0 ≡ (get_or xs a d).stream.0 = ap (λ (t : StreamNo). t.0) (stream_set xs i y a d at) in
    let f : (get_or (set xs i y) b d).stream.0 ≡ (get_or xs b d).stream.0 = ap (λ (t : StreamNo). t.0) (stream_set xs i y b d at) in
    omega (arith, e, f, h)

held_set : (xs : List Ticket) (i : ℕ) (y w : Ticket) → IsAt xs y.stream i → w.stream ≢ y.stream → Contains xs w → Contains (set xs i y) w
held_set [] i y w at ne has = absurd at
held_set (x ∷ xs) zero y w at ne (zero, lt, e) = absurd (ne (ap (λ (t : Ticket). t.stream) (sym e) ∙ at))
held_set (x ∷ xs) zero y w at ne (suc k, lt, e) = (suc k, omega arith, e)
held_set (x ∷ xs) (suc i) y w at ne (zero, lt, e) = (0, omega arith, e)
held_set (x ∷ xs) (suc i) y w at ne (suc k, lt, e) = let r = held_set xs i y w at ne (k, omega arith, e) in (suc r.0, omega (arith, r.1), r.2)

set_here : (xs : List Ticket) (i : ℕ) (y : Ticket) → IsAt xs y.stream i → Contains (set xs i y) y
set_here [] i y at = absurd at
set_here (x ∷ xs) zero y at = (0, omega arith, refl)
set_here (x ∷ xs) (suc i) y at = let r = set_here xs i y at in (suc r.0, omega (arith, r.1), r.2)

-- ---- what the calls keep

pub sound_place : (places waiters : List Ticket) (last i : ℕ) (y : Ticket) → AreSound places waiters last → IsBetween places y.stream i → AreSound (insert places i y) waiters last
sound_place places waiters last i y s b = record {
  rising = AllPairs-insert (λ (p q : Ticket). p.stream.0 < q.stream.0) places i y s.rising b.bound b.below b.above;
  in_order = s.in_order;
  apart = s.apart;
  held = λ k d lt. Contains-insert places i (get_or waiters k d) y b.bound (s.held k d lt);
  given = s.given;
}

pub sound_queue : (places waiters : List Ticket) (last i : ℕ) (y : Ticket) → AreSound places waiters last → IsAt places y.stream i → HasNone waiters y.stream → last ≤ y.number
    → AreSound (set places i y) (waiters ++ y ∷ []) y.number
sound_queue places waiters last i y s at none more = record {
  rising = rising_set places i y s.rising at;
  in_order = all_pairs_push (λ (v w : Ticket). v.number ≤ w.number) waiters y s.in_order (λ k d lt. let h : (get_or waiters k d).number ≤ last = s.given k d lt in omega arith);
  apart = all_pairs_push (λ (v w : Ticket). v.stream ≢ w.stream) waiters y s.apart none;
  held = All-push (Contains (set places i y)) waiters y (λ k d lt. held_set places i y (get_or waiters k d) at (none k d lt) (s.held k d lt)) (set_here places i y at);
  given = All-push (λ (w : Ticket). w.number ≤ y.number) waiters y (λ k d lt. let h : (get_or waiters k d).number ≤ last = s.given k d lt in omega arith) (omega arith);
}

pub sound_leave : (places waiters : List Ticket) (last i : ℕ) (stream : StreamNo) → AreSound places waiters last → IsAt waiters stream i → AreSound places (remove waiters i) last
sound_leave places waiters last i stream s at =
    let inside = within (λ (w : Ticket). w.stream ≡ stream) waiters i at in
    record {
      rising = s.rising;
      in_order = all_pairs_remove (λ (v w : Ticket). v.number ≤ w.number) waiters i inside s.in_order;
      apart = all_pairs_remove (λ (v w : Ticket). v.stream ≢ w.stream) waiters i inside s.apart;
      held = All-remove (Contains places) waiters i s.held;
      given = All-remove (λ (w : Ticket). w.number ≤ last) waiters i s.given;
    }

pub sound_give_back : (places waiters : List Ticket) (last i : ℕ) (stream : StreamNo) → AreSound places waiters last → IsAt places stream i → HasNone waiters stream
    → AreSound (remove places i) waiters last
sound_give_back places waiters last i stream s at none =
    let P : Ticket → Type 0 = λ p. p.stream ≡ stream in
    let inside : i < length places = within P places i at in
    let x : Ticket = get_or places i (record { number = 0; stream = stream }) in
    let is : get_or places i x ≡ x = get_or_default places i x (record { number = 0; stream = stream }) inside in
    let of : x.stream ≡ stream = holds_at P places i (record { number = 0; stream = stream }) at in
    record {
      rising = all_pairs_remove (λ (p q : Ticket). p.stream.0 < q.stream.0) places i inside s.rising;
      in_order = s.in_order;
      apart = s.apart;
      held = λ k d lt. Contains-remove places i x (get_or waiters k d) inside is (λ e. none k d lt (ap (λ (t : Ticket). t.stream) (sym e) ∙ of)) (s.held k d lt);
      given = s.given;
    }

-- there is room for the ticket of a stream that doesn't wait
pub room_for : (places waiters : List Ticket) (last i : ℕ) (stream : StreamNo) → AreSound places waiters last → IsAt places stream i → HasNone waiters stream → length waiters + 1 ≤ length places
room_for places waiters last i stream s at none =
    let P : Ticket → Type 0 = λ p. p.stream ≡ stream in
    let inside : i < length places = within P places i at in
    let x : Ticket = get_or places i (record { number = 0; stream = stream }) in
    let of : x.stream ≡ stream = holds_at P places i (record { number = 0; stream = stream }) at in
    let apart : AllPairs (λ (v w : Ticket). v ≢ w) (waiters ++ x ∷ []) = all_pairs_push (λ (v w : Ticket). v ≢ w) waiters x
    (λ a b d lt in' e. s.apart a b d lt in' (ap (λ (t : Ticket). t.stream) e)) (λ k d lt e. none k d lt (ap (λ (t : Ticket). t.stream) e ∙ of)) in
    let held : All (Contains places) (waiters ++ x ∷ []) = All-push (Contains places) waiters x s.held (Contains-get_or places i (record { number = 0; stream = stream }) inside) in
    omega (arith, length-contained (waiters ++ x ∷ []) places apart held, length_pushed waiters x)
  where
    length_pushed : (xs : List Ticket) (y : Ticket) → length (xs ++ y ∷ []) ≡ length xs + 1
    length_pushed [] y = omega arith
    length_pushed (z ∷ zs) y = omega (arith, length_pushed zs y)

-- ---- where a waiter stands

ticket_one : (x y : Ticket) → x.number ≡ y.number → x.stream.0 ≡ y.stream.0 → x ≡ y
ticket_one x y e f = ap (λ (n : ℕ). let t : Ticket = record { number = n; stream = x.stream } in t) e ∙ ap (λ (s : StreamNo). let t : Ticket = record { number = y.number; stream = s } in t) (stream_one x.stream y.stream f)

pub ticket_at : (xs : List Ticket) (i : ℕ) (d y : Ticket) → i < length xs → (get_or xs i d).number ≡ y.number → (get_or xs i d).stream.0 ≡ y.stream.0 → slice_get xs i ≡ Some y
ticket_at [] i d y lt e f = absurd (omega arith)
ticket_at (x ∷ xs) zero d y lt e f = ap Some (ticket_one x y e f)
ticket_at (x ∷ xs) (suc i) d y lt e f = ticket_at xs i d y (omega arith) e f

-- the ticket of a stream is one
only_at : (places : List Ticket) (i j : ℕ) (d : Ticket) → IsRising places → i < length places → j < length places → (get_or places i d).stream ≡ (get_or places j d).stream → i ≡ j
only_at places i j d rising a b e = elim (cases_order i j) [
  | inl same ↦ same
  | inr order ↦ elim order [
    | inl less ↦ absurd (apart_rising places rising i j d less b e)
    | inr more ↦ absurd (apart_rising places rising j i d more a (sym e))
  ]
]

-- the stream waits with the ticket at its place
pub waiter_among : (places waiters : List Ticket) (stream : StreamNo) (i : ℕ) (d : Ticket) (answer : Option ℕ) → IsRising places → AreHeld places waiters → IsAt places stream i
    → IsAmong waiters (get_or places i d) answer → IsWaiterOf waiters stream answer
waiter_among places waiters stream i d None rising held at none = λ k e lt f.
    let P : Ticket → Type 0 = λ p. p.stream ≡ stream in
    let w : Ticket = get_or waiters k e in
    let has : Contains places w = held k e lt in
    let inside : i < length places = within P places i at in
    let j : has.0 ≡ i = only_at places has.0 i w rising has.1 inside (ap (λ (t : Ticket). t.stream) has.2 ∙ (f ∙ sym (holds_at P places i w at))) in
    none k e lt (sym has.2 ∙ (ap (λ n. get_or places n w) j ∙ get_or_default places i w d inside))
waiter_among places waiters stream i d (Some j) rising held at is =
    let P : Ticket → Type 0 = λ p. p.stream ≡ stream in
    rw is (holds_at P places i d at)

pub none_held : (places waiters : List Ticket) (stream : StreamNo) → HasNone places stream → AreHeld places waiters → HasNone waiters stream
none_held places waiters stream none held k d lt e =
    let has : Contains places (get_or waiters k d) = held k d lt in
    none has.0 (get_or waiters k d) has.1 (ap (λ (t : Ticket). t.stream) has.2 ∙ e)

-- ---- streams and their tickets

stream_at : (xs : List Ticket) (k : ℕ) (d : Ticket) → get_or (streams_of xs) k d.stream ≡ (get_or xs k d).stream
stream_at [] k d = refl
stream_at (x ∷ xs) zero d = refl
stream_at (x ∷ xs) (suc k) d = stream_at xs k d

length_streams : (xs : List Ticket) → length (streams_of xs) ≡ length xs
length_streams [] = refl
length_streams (x ∷ xs) = ap (λ n. suc n) (length_streams xs)

pub none_of_streams : (xs : List Ticket) (stream : StreamNo) → All (λ (x : StreamNo). x ≢ stream) (streams_of xs) → HasNone xs stream
none_of_streams xs stream all k d lt e = all k d.stream (omega (arith, length_streams xs)) (stream_at xs k d ∙ e)

-- behind the tickets of one number stand those of higher ones
pub past_numbers : (waiters : List Ticket) (i : ℕ) (d ticket : Ticket) → AreInOrder waiters → i < length waiters → ((k : ℕ) (e : Ticket) → k < i → get_or waiters k e ≢ ticket)
    → ((k : ℕ) (e : Ticket) → i ≤ k → k < length waiters → ticket.number ≤ (get_or waiters k e).number) → (get_or waiters i d).number ≢ ticket.number → All (λ (w : Ticket). w ≢ ticket) waiters
past_numbers waiters i d ticket in_order lt none up ne k e inside f = elim (cases_lt k i) [
  | inl less ↦ none k e less f
  | inr more ↦
      let a : ticket.number ≤ (get_or waiters i d).number = up i d (omega arith) lt in
      let b : (get_or waiters k e).number ≡ ticket.number = ap (λ (t : Ticket). t.number) f in
      let g : (get_or waiters i d).number ≤ (get_or waiters k e).number = elim (cases_order i k) [
        | inl same ↦ omega (arith, ap (λ (t : Ticket). t.number) (get_or_default waiters i d e lt ∙ ap (λ n. get_or waiters n e) same))
        | inr order ↦ elim order [
          | inl below ↦ let h : (get_or waiters i e).number ≤ (get_or waiters k e).number = in_order i k e below inside in omega (arith, ap (λ (t : Ticket). t.number) (get_or_default waiters i d e lt))
          | inr above ↦ absurd (omega arith)
        ]
      ] in
      ne (omega arith)
]

-- the first waiter has a place
pub has_first : (places waiters : List Ticket) (w : Ticket) → AreHeld places waiters → ◌≡◌ {A = Option Ticket} (Some w) (slice_get waiters 0) → has w.stream (streams_of places) ≡ true
has_first places [] w held e = absurd (let f : ◌≡◌ {A = Option Ticket} (Some w) None = e in cc)
has_first places (x ∷ xs) w held e =
    let f : w ≡ x = some_one e in
    has_ticket places w (subst (λ y. Contains places y) (sym f) (held 0 x (omega arith)))
  where
    some_one : {a b : Ticket} → ◌≡◌ {A = Option Ticket} (Some a) (Some b) → a ≡ b
    some_one e = cc

-- Every step keeps what holds of connections and streams.
use Rattle.std.proofs.Common.{◌≡◌, ◌≢◌, ◌≤◌, ◌<◌, ◌+◌, ℕ, ℤ, Bool, true, false, cond, List, [], ◌∷◌, ◌++◌, length, Option, None, Some, Contains, refl, sym, ap, ◌∙◌, subst, arith, inl, inr, not, nat_eq}
use Rattle.std.proofs.lemmas.Bool.{cases_eq, true≢false}
use Rattle.std.proofs.lemmas.List.{length_push}
use Rattle.std.proofs.lemmas.List.Elements.{Contains-append_left, Contains-push, Contains-push_cases}
use Rattle.stream_requests.specs.declared.asks.Ask.{Ask}
use Rattle.stream_requests.specs.declared.replies.Reply.{Reply}
use Rattle.http_wire.specs.declared.outs.Outs.{Outs}
use Rattle.engine_core.specs.Draws.{Draw}
use Rattle.engine_core.specs.declared.entries.Entry.{Entry}
use Rattle.hrana_hub.specs.declared.events.Event.{Event}
use Rattle.hrana_hub.specs.declared.limits.TheConstants.{MAX_CONNECTIONS, MAX_STREAMS, MAX_OUTSTANDING}
use Rattle.hrana_hub.specs.Maps.{Numbered, at, put, placed, without, those_left}
use Rattle.hrana_hub.specs.State.{Conn, Stream, State, first_state, of_exchanges}
use Rattle.hrana_hub.specs.Arrivals.{fresh, joined, waiting, waited, with_conn, with_stream, with_request, is_close, shut}
use Rattle.hrana_hub.specs.Polled.{Polled, PollFell, reply_in, is_over, polled, streams_left, without_stream, replied, dropped, with_entry, with_streams}
use Rattle.hrana_hub.specs.Ended.{let_go, without_conn, at_its_end}
use Rattle.hrana_hub.specs.Exchanges.{sessions_in}
use Rattle.hrana_hub.specs.Moments.{after, at_moment}
use Rattle.hrana_hub.specs.Step.{counted, new_conn, with_new_conn}
use Rattle.hrana_hub.specs.Laws.{IsWithin, InEveryRun, LimitsHold}
use Rattle.hrana_hub.specs.Run.{Run, RunFrom, start, more}
use Rattle.hrana_hub.proofs.Changes.{Change, rests, comes, marks, joins, asks_for, polls, falls, touches, loses, expires, ends, IsMarked, filter_few, step_changes}
use Rattle.hrana_hub.proofs.EntryLemmas.{at_put, at_put_other, at_without_other, length_put, rising_without}
use Rattle.hrana_hub.proofs.Left.{at_left_none, at_left_some, left_cases, rises_left, after_same, after_stands, sessions_left}
use Rattle.hrana_hub.proofs.Listed.{contains_none, contains_without, without_contains, put_cases, placed_cases, without_cases, apart_none, length_placed, length_without, rises_let_go, let_go_cases, let_go_other, let_go_none}
use Rattle.hrana_hub.proofs.MapLemmas.{none_some, some_one, at_placed, at_placed_other, Rises, rises_nil, rises_put, rises_placed}
use Rattle.hrana_hub.proofs.SessionSums.{sessions_put, sessions_without, sessions_placed, sessions_let_go}
use Rattle.hrana_hub.proofs.Standing.{Owned, ConnKept, StreamKept, OfSession, Kept}
use Rattle.hrana_hub.proofs.Touching.{IsSession, Touches}

first_kept : Kept first_state
first_kept = record {
  conns_rise = rises_nil Conn;
  streams_rise = rises_nil Stream;
  exchanges_rise = rises_nil ℕ;
  above = λ n l. refl;
  few = omega arith;
  sessions = omega arith;
  conn = λ c k e. absurd (none_some e);
  stream = λ n x e own. absurd (none_some e);
  exchange = λ c n e. absurd (none_some e);
}

pub counted_kept : (s : State) → Kept s → Kept (counted s)
counted_kept s h = record { conns_rise = h.conns_rise; streams_rise = h.streams_rise; exchanges_rise = h.exchanges_rise; above = h.above; few = h.few; sessions = h.sessions; conn = h.conn; stream = h.stream; exchange = h.exchange }

-- ---- parts of it

module _ (conns : Numbered Conn) (streams : Numbered Stream) where
  -- the connection has become another with the same streams, and more
  stream_put : (c : ℕ) (k k' : Conn) (n : ℕ) (x : Stream) → at c conns ≡ Some k → (Contains k.streams n → Contains k'.streams n) → StreamKept conns n x → StreamKept (put c k' conns) n x
  stream_put c k k' n x there keeps h = elim (cases_eq x.conn c) [
    | inl same ↦ (let own : h.k ≡ k = some_one (sym h.known ∙ ap (λ d. at d conns) same ∙ there) in record {
      k = k';
      known = ap (λ d. at d (put c k' conns)) same ∙ at_put c k k' conns there;
      lists = keeps (subst (λ (l : Conn). Contains l.streams n) own h.lists);
    })
    | inr other ↦ record { k = h.k; known = at_put_other c x.conn k k' conns there other ∙ h.known; lists = h.lists }
  ]

  stream_placed : (c : ℕ) (k : Conn) (n : ℕ) (x : Stream) → at c conns ≡ None → StreamKept conns n x → StreamKept (placed c k conns) n x
  stream_placed c k n x none h = record { k = h.k; known = at_placed_other c x.conn k conns (apart_none c x.conn h.k conns none h.known) ∙ h.known; lists = h.lists }

  -- the stream has become another of the same connection
  conn_put : (c n : ℕ) (k : Conn) (x y : Stream) → at n streams ≡ Some x → y.conn ≡ x.conn → of_exchanges y ≡ of_exchanges x → ConnKept streams c k → ConnKept (put n y streams) c k
  conn_put c n k x y there same as_much h = record {
    within = h.within;
    owned = λ m l. (let o = h.owned m l in elim (cases_eq m n) [
      | inl e ↦ (let is : o.x ≡ x = some_one (sym o.known ∙ ap (λ j. at j streams) e ∙ there) in record { x = y; known = ap (λ j. at j (put n y streams)) e ∙ at_put n x y streams there; conn = same ∙ ap (λ (z : Stream). z.conn) (sym is) ∙ o.conn; own = as_much ∙ ap of_exchanges (sym is) ∙ o.own })
      | inr ne ↦ record { x = o.x; known = at_put_other n m x y streams there ne ∙ o.known; conn = o.conn; own = o.own }
    ]);
  }

  -- the streams of these numbers are as before
  conn_as : (fs : Numbered Stream) (c : ℕ) (k : Conn) → ((m : ℕ) → Owned streams c m → Contains k.streams m → at m fs ≡ at m streams) → ConnKept streams c k → ConnKept fs c k
  conn_as fs c k same h = record { within = h.within; owned = λ m l. (let o = h.owned m l in record { x = o.x; known = same m o l ∙ o.known; conn = o.conn; own = o.own }) }

  conn_placed : (c n : ℕ) (k : Conn) (y : Stream) → at n streams ≡ None → ConnKept streams c k → ConnKept (placed n y streams) c k
  conn_placed c n k y none h = conn_as (placed n y streams) c k (λ m o l. at_placed_other n m y streams (apart_none n m o.x streams none o.known)) h

  conn_without : (c n : ℕ) (k : Conn) → Rises streams → ((m : ℕ) → Contains k.streams m → m ≢ n) → ConnKept streams c k → ConnKept (without n streams) c k
  conn_without c n k r apart h = conn_as (without n streams) c k (λ m o l. at_without_other n m streams r (apart m l)) h

  -- it lists no more, and is within its limits
  conn_fewer : (c : ℕ) (k k' : Conn) → IsWithin k' → ((m : ℕ) → Contains k'.streams m → Contains k.streams m) → ConnKept streams c k → ConnKept streams c k'
  conn_fewer c k k' within fewer h = record { within = within; owned = λ m l. h.owned m (fewer m l) }

-- a number of a stream of exchanges, while the others change
session_as : (opened now : ℕ) (es fs : Numbered Stream) (n : ℕ) → opened ≤ now → ((z : Stream) → at n fs ≡ Some z → (x : Stream) × (at n es ≡ Some x) × (of_exchanges z ≡ of_exchanges x)) → OfSession opened es n → OfSession now fs n
session_as opened now es fs n le was h = record { given = omega (arith, le, h.given); session = λ z e. (let w = was z e in w.2 ∙ h.session w.0 w.1) }

-- where one has become another
session_put : (opened n m : ℕ) (x y : Stream) (es : Numbered Stream) → at n es ≡ Some x → of_exchanges y ≡ of_exchanges x → OfSession opened es m → OfSession opened (put n y es) m
session_put opened n m x y es there same h = session_as opened opened es (put n y es) m (omega arith) (λ z e. elim (put_cases n m x y z es there e) [
  | inl own ↦ (x, ap (λ j. at j es) own.0 ∙ there, ap of_exchanges own.1 ∙ same)
  | inr other ↦ (z, other.1, refl)
]) h

-- ---- one change of the state

above_put : (s : State) (n : ℕ) (x y : Stream) → Kept s → at n s.streams ≡ Some x → (m : ℕ) → s.opened < m → at m (put n y s.streams) ≡ None
above_put s n x y h there m l = at_put_other n m x y s.streams there (λ same. none_some (sym (h.above m l) ∙ ap (λ j. at j s.streams) same ∙ there)) ∙ h.above m l

comes_kept : (s : State) (c : ℕ) (closing : Bool) → Kept s → at c s.conns ≡ None → length s.conns + length s.exchanges < MAX_CONNECTIONS → Kept (with_new_conn c closing s)
comes_kept s c closing h none l = record {
  conns_rise = rises_placed c (new_conn closing) s.conns h.conns_rise;
  streams_rise = h.streams_rise;
  exchanges_rise = h.exchanges_rise;
  above = h.above;
  few = omega (arith, length_placed c (new_conn closing) s.conns none, l);
  sessions = h.sessions;
  conn = λ d k e. elim (placed_cases c d (new_conn closing) k s.conns e) [
    | inl own ↦ subst (λ (l : Conn). ConnKept s.streams d l) (sym own.1) (record { within = record { streams = omega arith; requests = omega arith; texts = omega arith; bytes = omega arith }; owned = λ m no. absurd (contains_none m no) })
    | inr old ↦ h.conn d k old.1
  ];
  stream = λ n x e own. stream_placed s.conns s.streams c (new_conn closing) n x none (h.stream n x e own);
  exchange = h.exchange;
}

marked_within : (k k' : Conn) → IsMarked k k' → IsWithin k → IsWithin k'
marked_within k k' m h =
    let fit = m.texts (record { few = h.texts; short = h.bytes }) in
    record { streams = omega (arith, ap (λ ns. length ns) m.streams, h.streams); requests = omega (arith, m.outstanding, h.requests); texts = fit.few; bytes = fit.short }

marks_kept : (s : State) (c : ℕ) (k k' : Conn) → Kept s → at c s.conns ≡ Some k → IsMarked k k' → Kept (with_conn c k' s)
marks_kept s c k k' h there m = record {
  conns_rise = rises_put c k' s.conns h.conns_rise;
  streams_rise = h.streams_rise;
  exchanges_rise = h.exchanges_rise;
  above = h.above;
  few = omega (arith, length_put c k' s.conns, h.few);
  sessions = h.sessions;
  conn = λ d l e. elim (put_cases c d k k' l s.conns there e) [
    | inl own ↦ subst (λ (l : Conn). ConnKept s.streams d l) (sym own.1) (subst (λ j. ConnKept s.streams j k') (sym own.0) (conn_fewer s.conns s.streams c k k' (marked_within k k' m (h.conn c k there).within) (λ n i. subst (λ ns. Contains ns n) m.streams i) (h.conn c k there)))
    | inr old ↦ h.conn d l old.1
  ];
  stream = λ n x e own. stream_put s.conns s.streams c k k' n x there (λ i. subst (λ ns. Contains ns n) (sym m.streams) i) (h.stream n x e own);
  exchange = h.exchange;
}

joins_kept : (s : State) (c : ℕ) (k : Conn) (id : ℤ) → Kept s → at c s.conns ≡ Some k → length k.streams < MAX_STREAMS → Kept (with_stream c k id s)
joins_kept s c k id h there l =
    let n = s.opened + 1 in
    let y = fresh s.now c n in
    let k' = joined id n k in
    let none : at n s.streams ≡ None = h.above n (omega arith) in
    let old = h.conn c k there in
    record {
      conns_rise = rises_put c k' s.conns h.conns_rise;
      streams_rise = rises_placed n y s.streams h.streams_rise;
      exchanges_rise = h.exchanges_rise;
      above = λ m g. at_placed_other n m y s.streams (λ same. omega (arith, same, g)) ∙ h.above m (omega (arith, g));
      few = omega (arith, length_put c k' s.conns, h.few);
      sessions = omega (arith, sessions_placed n y s.streams none, h.sessions);
      conn = λ d j e. elim (put_cases c d k k' j s.conns there e) [
        | inl own ↦ subst (λ (l : Conn). ConnKept (placed n y s.streams) d l) (sym own.1) (subst (λ d. ConnKept (placed n y s.streams) d k') (sym own.0) (record {
          within = record { streams = omega (arith, length_push k.streams n, l); requests = old.within.requests; texts = old.within.texts; bytes = old.within.bytes };
          owned = λ m i. elim (Contains-push_cases k.streams n m i) [
            | inl was ↦ (conn_placed s.conns s.streams c n k y none old).owned m was
            | inr same ↦ record { x = y; known = ap (λ j. at j (placed n y s.streams)) (sym same) ∙ at_placed n y s.streams; conn = refl; own = refl }
          ];
        }))
        | inr other ↦ conn_placed s.conns s.streams d n j y none (h.conn d j other.1)
      ];
      stream = λ m x e free. elim (placed_cases n m y x s.streams e) [
        | inl own ↦ subst (λ (z : Stream). StreamKept (put c k' s.conns) m z) (sym own.1) (record { k = k'; known = at_put c k k' s.conns there; lists = subst (λ j. Contains (k.streams ++ n ∷ []) j) (sym own.0) (Contains-push k.streams n) })
        | inr other ↦ stream_put s.conns s.streams c k k' m x there (Contains-append_left k.streams (n ∷ []) m) (h.stream m x other.1 free)
      ];
      exchange = λ d m e. (let old = h.exchange d m e in session_as s.opened n s.streams (placed n y s.streams) m (omega arith) (λ z f. (z, sym (at_placed_other n m y s.streams (λ same. omega (arith, same, old.given))) ∙ f, refl)) old);
    }

asks_kept : (s : State) (c : ℕ) (k : Conn) (stream : ℤ) (n : ℕ) (x : Stream) (id : ℤ) (what : Ask) → Kept s → at c s.conns ≡ Some k → k.outstanding < MAX_OUTSTANDING → at n s.streams ≡ Some x → Kept (with_request c k stream n x id what s)
asks_kept s c k stream n x id what h there l known =
    let y = waiting id what x in
    let k' = waited stream (is_close what) k in
    let old = h.conn c k there in
    record {
      conns_rise = rises_put c k' s.conns h.conns_rise;
      streams_rise = rises_put n y s.streams h.streams_rise;
      exchanges_rise = h.exchanges_rise;
      above = above_put s n x y h known;
      few = omega (arith, length_put c k' s.conns, h.few);
      sessions = omega (arith, sessions_put n x y s.streams known refl, h.sessions);
      conn = λ d j f. elim (put_cases c d k k' j s.conns there f) [
        | inl own ↦ subst (λ (l : Conn). ConnKept (put n y s.streams) d l) (sym own.1) (subst (λ d. ConnKept (put n y s.streams) d k') (sym own.0)
            (conn_put s.conns s.streams c n k' x y known refl refl (conn_fewer s.conns s.streams c k k' (record { streams = old.within.streams; requests = omega (arith, l); texts = old.within.texts; bytes = old.within.bytes }) (λ m i. i) old)))
        | inr other ↦ conn_put s.conns s.streams d n j x y known refl refl (h.conn d j other.1)
      ];
      stream = λ m z f free. elim (put_cases n m x y z s.streams known f) [
        | inl own ↦ (let was = h.stream n x known (ap of_exchanges (sym own.1) ∙ free) in let now : StreamKept s.conns n y = record { k = was.k; known = was.known; lists = was.lists } in
            subst (λ (z : Stream). StreamKept (put c k' s.conns) m z) (sym own.1) (subst (λ m. StreamKept (put c k' s.conns) m y) (sym own.0) (stream_put s.conns s.streams c k k' n y there (λ i. i) now)))
        | inr other ↦ stream_put s.conns s.streams c k k' m z there (λ i. i) (h.stream m z other.1 free)
      ];
      exchange = λ d m e. session_put s.opened n m x y s.streams known refl (h.exchange d m e);
    }

-- ---- polls

module _ (s : State) (n : ℕ) (x : Stream) (k : Conn) (h : Kept s) (known : at n s.streams ≡ Some x) (its : of_exchanges x ≡ false) (there : at x.conn s.conns ≡ Some k) where
  -- the connection is another with the same streams, and the stream another of it
  tells_kept : (k' : Conn) (y : Stream) → IsWithin k' → k'.streams ≡ k.streams → y.conn ≡ x.conn → of_exchanges y ≡ of_exchanges x → (new : State) → new.conns ≡ put x.conn k' s.conns → new.streams ≡ put n y s.streams → new.exchanges ≡ s.exchanges → new.opened ≡ s.opened → Kept new
  tells_kept k' y within lists conn as_much new cs ss es o =
      let old = h.conn x.conn k there in
      let keeps : (m : ℕ) → Contains k.streams m → Contains k'.streams m = λ m i. subst (λ ns. Contains ns m) (sym lists) i in
      record {
        conns_rise = subst (λ es. Rises es) (sym cs) (rises_put x.conn k' s.conns h.conns_rise);
        streams_rise = subst (λ es. Rises es) (sym ss) (rises_put n y s.streams h.streams_rise);
        exchanges_rise = subst (λ es. Rises es) (sym es) h.exchanges_rise;
        above = λ m g. ap (λ es. at m es) ss ∙ above_put s n x y h known m (omega (arith, g, o));
        few = omega (arith, ap (λ es. length es) cs, ap (λ es. length es) es, length_put x.conn k' s.conns, h.few);
        sessions = omega (arith, ap sessions_in ss, sessions_put n x y s.streams known as_much, h.sessions);
        conn = λ d j f. subst (λ es. ConnKept es d j) (sym ss) (elim (put_cases x.conn d k k' j s.conns there (ap (λ es. at d es) (sym cs) ∙ f)) [
          | inl own ↦ subst (λ (l : Conn). ConnKept (put n y s.streams) d l) (sym own.1) (subst (λ d. ConnKept (put n y s.streams) d k') (sym own.0)
              (conn_put s.conns s.streams x.conn n k' x y known conn as_much (conn_fewer s.conns s.streams x.conn k k' within (λ m i. subst (λ ns. Contains ns m) lists i) old)))
          | inr other ↦ conn_put s.conns s.streams d n j x y known conn as_much (h.conn d j other.1)
        ]);
        stream = λ m z f free. subst (λ es. StreamKept es m z) (sym cs) (elim (put_cases n m x y z s.streams known (ap (λ es. at m es) (sym ss) ∙ f)) [
          | inl own ↦ (let was = h.stream n x known its in let now : StreamKept s.conns n y = record { k = was.k; known = ap (λ d. at d s.conns) conn ∙ was.known; lists = was.lists } in
              subst (λ (z : Stream). StreamKept (put x.conn k' s.conns) m z) (sym own.1) (subst (λ m. StreamKept (put x.conn k' s.conns) m y) (sym own.0) (stream_put s.conns s.streams x.conn k k' n y there (keeps n) now)))
          | inr other ↦ stream_put s.conns s.streams x.conn k k' m z there (keeps m) (h.stream m z other.1 free)
        ]);
        exchange = λ d m e. subst (λ (i : ℕ). OfSession i new.streams m) (sym o) (subst (λ fs. OfSession s.opened fs m) (sym ss) (session_put s.opened n m x y s.streams known as_much (h.exchange d m (ap (λ fs. at d fs) (sym es) ∙ e))));
      }

  -- the stream is gone, and its connection doesn't list it
  leaves_kept : (k' : Conn) → IsWithin k' → k'.streams ≡ without_stream n k.streams → (new : State) → new.conns ≡ put x.conn k' s.conns → new.streams ≡ without n s.streams → new.exchanges ≡ s.exchanges → new.opened ≡ s.opened → Kept new
  leaves_kept k' within lists new cs ss es o =
      let old = h.conn x.conn k there in
      let lists_of : (m : ℕ) → Contains k'.streams m → (m ≢ n) × Contains k.streams m = λ m i. contains_without n m k.streams (subst (λ ns. Contains ns m) lists i) in
      record {
        conns_rise = subst (λ es. Rises es) (sym cs) (rises_put x.conn k' s.conns h.conns_rise);
        streams_rise = subst (λ es. Rises es) (sym ss) (rising_without n s.streams h.streams_rise);
        exchanges_rise = subst (λ es. Rises es) (sym es) h.exchanges_rise;
        above = λ m g. ap (λ es. at m es) ss ∙ (let none : at m s.streams ≡ None = h.above m (omega (arith, g, o)) in at_without_other n m s.streams h.streams_rise (λ same. none_some (sym none ∙ ap (λ j. at j s.streams) same ∙ known)) ∙ none);
        few = omega (arith, ap (λ es. length es) cs, ap (λ es. length es) es, length_put x.conn k' s.conns, h.few);
        sessions = omega (arith, ap sessions_in ss, sessions_without n s.streams, h.sessions);
        conn = λ d j f. subst (λ es. ConnKept es d j) (sym ss) (elim (put_cases x.conn d k k' j s.conns there (ap (λ es. at d es) (sym cs) ∙ f)) [
          | inl own ↦ subst (λ (l : Conn). ConnKept (without n s.streams) d l) (sym own.1) (subst (λ d. ConnKept (without n s.streams) d k') (sym own.0)
              (conn_without s.conns s.streams x.conn n k' h.streams_rise (λ m i. (lists_of m i).0) (conn_fewer s.conns s.streams x.conn k k' within (λ m i. (lists_of m i).1) old)))
          | inr other ↦ (let was = h.conn d j other.1 in conn_without s.conns s.streams d n j h.streams_rise (λ m i same. (let own = was.owned m i in other.0 (sym own.conn ∙ ap (λ (z : Stream). z.conn) (some_one (sym own.known ∙ ap (λ i. at i s.streams) same ∙ known))))) was)
        ]);
        stream = λ m z f free. subst (λ es. StreamKept es m z) (sym cs) (let was = without_cases n m z s.streams h.streams_rise (ap (λ es. at m es) (sym ss) ∙ f) in
            stream_put s.conns s.streams x.conn k k' m z there (λ i. subst (λ ns. Contains ns m) (sym lists) (without_contains n m k.streams was.0 i)) (h.stream m z was.1 free));
        exchange = λ d m e. subst (λ (i : ℕ). OfSession i new.streams m) (sym o) (subst (λ fs. OfSession s.opened fs m) (sym ss) (session_as s.opened s.opened s.streams (without n s.streams) m (omega arith) (λ z f. (z, (without_cases n m z s.streams h.streams_rise f).1, refl)) (h.exchange d m (ap (λ fs. at d fs) (sym es) ∙ e))));
      }

replied_within : (n : ℕ) (over : Bool) (reply : Option Reply) (k : Conn) → IsWithin k → IsWithin (replied n over reply k)
replied_within n over reply k h = record { streams = by over; requests = omega (arith, h.requests); texts = h.texts; bytes = h.bytes }
  where
    by : (b : Bool) → length (cond b (without_stream n k.streams) k.streams) ≤ MAX_STREAMS
    by true = omega (arith, filter_few (λ stream. not (nat_eq stream n)) k.streams, h.streams)
    by false = h.streams

polls_kept : (shared : Bool) (s : State) (n : ℕ) (x : Stream) (k : Conn) (added : List Entry) (out : Outs) (new : State) → Kept s → at n s.streams ≡ Some x → of_exchanges x ≡ false → at x.conn s.conns ≡ Some k → Polled shared s n x.conn x k added out new → Kept new
polls_kept shared s n x k added out new h known own there p = by (is_over (reply_in p.result) p.task) p.left
  where
    by : (over : Bool) → new ≡ with_entry p.entry (with_conn x.conn (replied n over (reply_in p.result) k) (with_streams (streams_left over n (polled s.now (reply_in p.result) p.task x) s.streams) s)) → Kept new
    by true left = leaves_kept s n x k h known own there (replied n true (reply_in p.result) k) (replied_within n true (reply_in p.result) k (h.conn x.conn k there).within) refl new (ap (λ (t : State). t.conns) left) (ap (λ (t : State). t.streams) left) (ap (λ (t : State). t.exchanges) left) (ap (λ (t : State). t.opened) left)
    by false left = tells_kept s n x k h known own there (replied n false (reply_in p.result) k) (polled s.now (reply_in p.result) p.task x) (replied_within n false (reply_in p.result) k (h.conn x.conn k there).within) refl refl refl new (ap (λ (t : State). t.conns) left) (ap (λ (t : State). t.streams) left) (ap (λ (t : State). t.exchanges) left) (ap (λ (t : State). t.opened) left)

falls_kept : (shared : Bool) (s : State) (n : ℕ) (x : Stream) (k : Conn) (added : List Entry) (out : Outs) (new : State) → Kept s → at n s.streams ≡ Some x → of_exchanges x ≡ false → at x.conn s.conns ≡ Some k → PollFell shared s n x.conn x k added out new → Kept new
falls_kept shared s n x k added out new h known own there p =
    let old = (h.conn x.conn k there).within in
    tells_kept s n x k h known own there (shut k) (dropped p.task x) (record { streams = old.streams; requests = old.requests; texts = old.texts; bytes = old.bytes }) refl refl refl new (ap (λ (t : State). t.conns) p.left) (ap (λ (t : State). t.streams) p.left) (ap (λ (t : State). t.exchanges) p.left) (ap (λ (t : State). t.opened) p.left)

-- ---- ends

loses_kept : (s : State) (c : ℕ) (k : Conn) → Kept s → at c s.conns ≡ Some k → Kept (without_conn c k s)
loses_kept s c k h there = record {
  conns_rise = rising_without c s.conns h.conns_rise;
  streams_rise = rises_let_go k.streams s.streams h.streams_rise;
  exchanges_rise = h.exchanges_rise;
  above = λ m g. (let none = h.above m g in let_go_none k.streams m s.streams h.streams_rise none);
  few = omega (arith, length_without c s.conns, h.few);
  sessions = omega (arith, sessions_let_go k.streams s.streams, h.sessions);
  conn = λ d j f.
      (let was = without_cases c d j s.conns h.conns_rise f in
      conn_as s.conns s.streams (let_go k.streams s.streams) d j
      (λ m own l. let_go_other k.streams m s.streams h.streams_rise (λ mine. (let its = (h.conn c k there).owned m mine in was.0 (sym own.conn ∙ ap (λ (z : Stream). z.conn) (some_one (sym own.known ∙ its.known)) ∙ its.conn))))
      (h.conn d j was.1));
  stream = λ m z f own. (let was = let_go_cases k.streams m z s.streams h.streams_rise f in let old = h.stream m z was.1 own in record {
    k = old.k;
    known = at_without_other c z.conn s.conns h.conns_rise (λ same. was.0 (subst (λ (l : Conn). Contains l.streams m) (some_one (sym old.known ∙ ap (λ d. at d s.conns) same ∙ there)) old.lists)) ∙ old.known;
    lists = old.lists;
  });
  exchange = λ d m e. session_as s.opened s.opened s.streams (let_go k.streams s.streams) m (omega arith) (λ z f. (z, (let_go_cases k.streams m z s.streams h.streams_rise f).1, refl)) (h.exchange d m e);
}

expires_kept : (s : State) (moment : ℕ) → Kept s → Kept (at_moment moment s)
expires_kept s moment h = record {
  conns_rise = h.conns_rise;
  streams_rise = rises_left (after moment) s.streams h.streams_rise;
  exchanges_rise = h.exchanges_rise;
  above = λ n l. at_left_none (after moment) n s.streams (h.above n l);
  few = h.few;
  sessions = omega (arith, sessions_left moment s.streams, h.sessions);
  conn = λ c k e. (let old = h.conn c k e in record {
    within = old.within;
    owned = λ n i. (let o = old.owned n i in let z = after_stands moment o.x o.own in record { x = z.0; known = at_left_some (after moment) n o.x s.streams h.streams_rise o.known ∙ z.1; conn = z.2.conn ∙ o.conn; own = z.2.exchanges ∙ o.own });
  });
  stream = λ n z e own.
      (let was = left_cases (after moment) n z s.streams h.streams_rise e in
      let same = after_same moment was.0 z was.2 in
      let old = h.stream n was.0 was.1 (sym same.exchanges ∙ own) in
      record { k = old.k; known = ap (λ d. at d s.conns) same.conn ∙ old.known; lists = old.lists });
  exchange = λ d m e. session_as s.opened s.opened s.streams (those_left (after moment) s.streams) m (omega arith) (λ z f. (let was = left_cases (after moment) m z s.streams h.streams_rise f in (was.0, was.1, (after_same moment was.0 z was.2).exchanges))) (h.exchange d m e);
}

ends_kept : (s : State) → Kept (at_its_end s)
ends_kept s = record {
  conns_rise = rises_nil Conn;
  streams_rise = rises_nil Stream;
  exchanges_rise = rises_nil ℕ;
  above = λ n l. refl;
  few = omega arith;
  sessions = omega arith;
  conn = λ c k e. absurd (none_some e);
  stream = λ n x e own. absurd (none_some e);
  exchange = λ c n e. absurd (none_some e);
}

-- ---- exchanges

-- what stands at the number is no stream of a connection
pub not_session : (o : Option Stream) (x : Stream) → IsSession o → o ≡ Some x → of_exchanges x ≡ false → ⊥
not_session o x is e own = true≢false (sym (subst IsSession e is) ∙ own)

touches_kept : (shared : Bool) (s new : State) (n : ℕ) → Kept s → s.opened ≤ new.opened → Touches shared s n new → Kept new
touches_kept shared s new n h opened t =
    let turned = t.streams in
    let apart : (m : ℕ) (x : Stream) → at m s.streams ≡ Some x → of_exchanges x ≡ false → m ≢ n = λ m x e own same. not_session (at n s.streams) x turned.was (ap (λ j. at j s.streams) (sym same) ∙ e) own in
    let apart_now : (m : ℕ) (x : Stream) → at m new.streams ≡ Some x → of_exchanges x ≡ false → m ≢ n = λ m x e own same. not_session (at n new.streams) x turned.now (ap (λ j. at j new.streams) (sym same) ∙ e) own in
    record {
      conns_rise = subst (λ es. Rises es) (sym t.conns) h.conns_rise;
      streams_rise = turned.rise;
      exchanges_rise = t.exchanges.rise;
      above = λ m l. turned.others m (λ same. omega (arith, same, l, t.given)) ∙ h.above m (omega (arith, l, opened));
      few = t.few;
      sessions = t.sessions;
      conn = λ c k e. conn_as s.conns s.streams new.streams c k (λ m o l. turned.others m (apart m o.x o.known o.own)) (h.conn c k (ap (λ es. at c es) (sym t.conns) ∙ e));
      stream = λ m x e own. subst (λ es. StreamKept es m x) (sym t.conns) (h.stream m x (sym (turned.others m (apart_now m x e own)) ∙ e) own);
      exchange = λ c m e. elim (cases_eq m n) [
        | inl same ↦ record { given = omega (arith, same, t.given); session = λ x f. subst IsSession (ap (λ j. at j new.streams) (sym same) ∙ f) turned.now }
        | inr other ↦ elim (t.exchanges.brought c m e) [
          | inl old ↦ session_as s.opened new.opened s.streams new.streams m opened (λ z f. (z, sym (turned.others m other) ∙ f, refl)) (h.exchange c m old)
          | inr mine ↦ absurd (other mine)
        ]
      ];
    }

-- ---- every step

pub change_kept : {event : Event} (shared : Bool) (s : State) (added : List Entry) (out : Outs) (new : State) → Kept s → Change shared s added out new event → Kept new
change_kept shared s added out new h (rests event none silent left) = subst Kept (sym left) h
change_kept shared s added out new h (comes c closing none unknown few left) = subst Kept (sym left) (comes_kept s c closing h unknown few)
change_kept shared s added out new h (marks event c k k' none silent heard marked left) = subst Kept (sym left) (marks_kept s c k k' h heard.known marked)
change_kept shared s added out new h (joins c text k id none heard unnamed few left) = subst Kept (sym left) (joins_kept s c k id h heard.known few)
change_kept shared s added out new h (asks_for c text k stream n x id what w none heard few named known served left) = subst Kept (sym left) (asks_kept s c k stream n x id what h heard.known few known)
change_kept shared s added out new h (polls stream x k known own waits heard p) = polls_kept shared s stream.0 x k added out new h known own heard.known p
change_kept shared s added out new h (falls stream x k known own heard p) = falls_kept shared s stream.0 x k added out new h known own heard.known p
change_kept shared s added out new h (touches event n adds silent opened touch) = touches_kept shared s new n h opened (touch h)
change_kept shared s added out new h (loses c k known ended left) = subst Kept (sym left) (loses_kept s c k h known)
change_kept shared s added out new h (expires moment ended left) = subst Kept (sym left) (expires_kept s moment h)
change_kept shared s added out new h (ends ended left) = subst Kept (sym left) (ends_kept s)

pub from_kept : {token : Option (List ℕ)} {shared : Bool} {first : State} {events : List Event} {drawn : List (List Draw)} {entries : List (List Entry)} {outs : List Outs} {s : State} → Kept first → RunFrom token shared first events drawn entries outs s → Kept s
from_kept h start = h
from_kept {token} {shared} h (more {s = before} run event draws added out new fit step) = change_kept shared (counted before) added out new (counted_kept before (from_kept h run)) (step_changes token shared before event draws added out new fit step)

pub run_kept : {token : Option (List ℕ)} {shared : Bool} {events : List Event} {drawn : List (List Draw)} {entries : List (List Entry)} {outs : List Outs} {s : State} → Run token shared events drawn entries outs s → Kept s
run_kept run = from_kept first_kept run

pub limits : InEveryRun LimitsHold
limits token shared events drawn entries outs s run = (let h = run_kept run in record { connections = h.few; sessions = h.sessions; each = λ c k e. (h.conn c k e).within })

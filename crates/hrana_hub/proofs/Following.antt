-- In every run the replies of each stream of a connection are those of its requests, in their order.
use Rattle.std.proofs.Common.{◌≡◌, ◌≢◌, ◌≤◌, ◌<◌, ◌+◌, ◌-◌, ◌&&◌, ◌||◌, ℕ, ℤ, Bool, true, false, not, cond, nat_eq, nat_le, List, [], ◌∷◌, All, Option, None, Some, option_to_list, refl, sym, ap, ◌∙◌, subst, arith, inl, inr, eq-eqb, ne_eqb}
use Rattle.std.proofs.lemmas.Bool.{cases_eq, and_parts, or_cases, true≢false}
use Rattle.hrana_value.specs.declared.StreamNo.{StreamNo}
use Rattle.stream_requests.specs.declared.asks.Ask.{Ask}
use Rattle.http_wire.specs.declared.outs.Outs.{Outs}
use Rattle.engine_core.specs.Draws.{Draw}
use Rattle.engine_core.specs.declared.entries.Entry.{Entry}
use Rattle.stream_task.specs.Doing.{work_of}
use Rattle.stream_task.specs.Laws.{TaskMeans}
use Rattle.stream_task.specs.Polls.{is_waiting}
use Rattle.stream_task.specs.declared.work.Work.{Work}
use Rattle.hrana_hub.specs.declared.events.Event.{Event}
use Rattle.hrana_hub.specs.declared.events.Event.TheVariants as event
use Rattle.hrana_hub.specs.Maps.{at, put}
use Rattle.hrana_hub.specs.State.{Conn, Stream, State, of_exchanges}
use Rattle.hrana_hub.specs.Arrivals.{fresh, joined, waiting, waited, with_conn, with_stream, with_request, is_close, shut}
use Rattle.hrana_hub.specs.Ended.{without_conn, at_its_end}
use Rattle.hrana_hub.specs.Moments.{is_begun, is_due, expired, after, at_moment}
use Rattle.hrana_hub.specs.declared.limits.TheConstants.{EXPIRY_MS}
use Rattle.hrana_hub.specs.Polled.{Polled, PollFell, reply_in, is_over, polled, streams_left, replied, dropped}
use Rattle.hrana_hub.specs.Run.{Run, start, more}
use Rattle.hrana_hub.specs.Step.{counted, new_conn, with_new_conn}
use Rattle.hrana_hub.specs.Stories.{Story, no_story, new_session, HasTold, story, told_on, turned, text_in, BeganAt, AreVersions, Tells, IsHeard, InOrder, RepliesInOrder}
use Rattle.hrana_hub.proofs.Changes.{Change, rests, comes, marks, joins, asks_for, polls, falls, touches, loses, expires, ends, IsOpen, IsSilent, step_changes}
use Rattle.hrana_hub.proofs.EntryLemmas.{at_put, at_put_other, at_without, at_without_other}
use Rattle.hrana_hub.proofs.Kept.{counted_kept, run_kept, not_session}
use Rattle.hrana_hub.proofs.Left.{at_left_none, at_left_some, after_due, after_other, left_dead, left_gone}
use Rattle.hrana_hub.proofs.Standing.{Kept}
use Rattle.hrana_hub.proofs.Touching.{Adding, arrives, polled as polls_session, lost, Touches}
use Rattle.hrana_hub.proofs.Untold.{ids_none, asks_none, used_none, expires_none}
use Rattle.hrana_hub.proofs.Listed.{put_cases, placed_cases, without_cases, let_go_cases}
use Rattle.hrana_hub.proofs.MapLemmas.{none_some, some_one, at_placed, at_placed_other}
use Rattle.hrana_hub.proofs.Paired.{EachPairs, run_paired, due_idle}
use Rattle.hrana_hub.proofs.Telling.{extended, told_is, told_same, drop_behind, expired_front, expired_tells, nothing_more, tells_front, none_front, more_front, asked_front, fresh_tells, asked_tells, polled_tells}

-- what is kept of the story of a number: it is empty until a stream has the number
record Follows (shared : Bool) (had : ℕ → ℕ) (n : ℕ) (t : Story) (s : State) : Type 0 where
  fresh : s.opened < n → t ≡ no_story
  order : InOrder shared had t s n

module _ (shared : Bool) (had : ℕ → ℕ) (n : ℕ) where
  -- the story stays, and a stream that is there and heard was so before
  stays : (t t' : Story) (s new : State) → t' ≡ t → s.opened ≤ new.opened → ((x : Stream) → at n new.streams ≡ Some x → at n s.streams ≡ Some x) → ((x : Stream) → at n s.streams ≡ Some x → of_exchanges x ≡ false → IsHeard new x → IsHeard s x) → Follows shared had n t s → Follows shared had n t' new
  stays t t' s new same rises there heard h = subst (λ u. Follows shared had n u new) (sym same) (record {
    fresh = λ l. h.fresh (omega (arith, l, rises));
    order = record { whole = λ x e own i. h.order.whole x (there x e) own (heard x (there x e) own i); front = h.order.front };
  })

-- ---- who is heard

-- a connection that was heard has become another
heard_put : (s new : State) (c : ℕ) (k k' : Conn) → IsOpen s c k → new.conns ≡ put c k' s.conns → (x : Stream) → IsHeard new x → IsHeard s x
heard_put s new c k k' o is x i = elim (put_cases c x.conn k k' i.k s.conns o.known (ap (λ es. at x.conn es) (sym is) ∙ i.known)) [
  | inl own ↦ record { k = k; known = ap (λ d. at d s.conns) own.0 ∙ o.known; unshut = o.heard }
  | inr other ↦ record { k = i.k; known = other.1; unshut = i.unshut }
]

-- it was closed, so it is another one that is heard
shut_put : (s new : State) (c : ℕ) (k k' : Conn) → IsOpen s c k → k'.closing ≡ true → new.conns ≡ put c k' s.conns → (x : Stream) → IsHeard new x → x.conn ≢ c
shut_put s new c k k' o closed is x i = elim (put_cases c x.conn k k' i.k s.conns o.known (ap (λ es. at x.conn es) (sym is) ∙ i.known)) [
  | inl own ↦ absurd (true≢false (sym closed ∙ ap (λ (l : Conn). l.closing) (sym own.1) ∙ i.unshut))
  | inr other ↦ other.0
]

no_asks : (asks : List Work) → is_waiting asks ≡ false → asks ≡ []
no_asks [] e = refl
no_asks (w ∷ asks) e = absurd (true≢false e)

-- what is due and is a stream of a connection holds a transaction
due_begun : (moment : ℕ) (x : Stream) → is_due moment x ≡ true → of_exchanges x ≡ false → is_begun x.task.session.state ≡ true
due_begun moment x due own =
    let held = of_exchanges x || is_begun x.task.session.state in
    let parts = and_parts (held && not (is_waiting x.task.asks)) (nat_le EXPIRY_MS (moment - x.last_answer)) due in
    elim (or_cases (of_exchanges x) (is_begun x.task.session.state) (and_parts held (not (is_waiting x.task.asks)) parts.0).0) [
      | inl is ↦ absurd (true≢false (sym is ∙ own))
      | inr begun ↦ begun
    ]

-- ---- one change

module _ (law : TaskMeans) (shared : Bool) (had : ℕ → ℕ) (n : ℕ) (t : Story) (s : State) (kept : Kept s) (pairs : EachPairs s.streams) (h : Follows shared had n t s) where
  abbrev Goes : Event → List Entry → Outs → State → Type 0
  Goes event added out new = Follows shared had n (told_on n t event s added out new) new

  -- nothing of the stream changed
  quiet_follows : (event : Event) (added : List Entry) (out : Outs) (new : State) → added ≡ [] → IsSilent event out → at n new.streams ≡ at n s.streams → s.opened ≤ new.opened → ((x : Stream) → at n s.streams ≡ Some x → IsHeard new x → IsHeard s x) → Goes event added out new
  quiet_follows event added out new none silent same rises heard =
      stays shared had n t _ s new (told_same n t event s added out new (expires_none n event s new same) (ids_none n event s new same) (asks_none n event s new same) (used_none n event added none) (silent n)) rises (λ x e. sym same ∙ e) (λ x e own i. heard x e i) h

  comes_follows : (c : ℕ) (closing : Bool) (added : List Entry) (out : Outs) → at c s.conns ≡ None → Goes (event.Opened c) added out (with_new_conn c closing s)
  comes_follows c closing added out none = stays shared had n t _ s (with_new_conn c closing s) (told_same n t (event.Opened c) s added out (with_new_conn c closing s) refl refl refl refl refl) (omega arith) (λ x e. e)
      (λ x e own i. (let its = kept.stream n x e own in elim (placed_cases c x.conn (new_conn closing) i.k s.conns i.known) [
        | inl same ↦ absurd (none_some (sym none ∙ ap (λ d. at d s.conns) (sym same.0) ∙ its.known))
        | inr other ↦ record { k = i.k; known = other.1; unshut = i.unshut }
      ])) h

  joins_follows : (c : ℕ) (text : List ℕ) (k : Conn) (id : ℤ) (added : List Entry) (out : Outs) → added ≡ [] → IsOpen s c k → Goes (event.Text c text) added out (with_stream c k id s)
  joins_follows c text k id added out none o = elim (cases_eq n (s.opened + 1)) [
    | inl own ↦
        (let new = with_stream c k id s in
        let y = fresh s.now c (s.opened + 1) in
        let before : at n s.streams ≡ None = kept.above n (omega (arith, own)) in
        let now : at n new.streams ≡ Some y = ap (λ m. at m new.streams) own ∙ at_placed (s.opened + 1) y s.streams in
        let first : t ≡ no_story = h.fresh (omega (arith, own)) in
        let same : told_on n t (event.Text c text) s added out new ≡ no_story = told_same n t (event.Text c text) s added out new refl (rw (before, now) refl) (rw (before, now) refl) refl refl ∙ first in
        subst (λ u. Follows shared had n u new) (sym same) (record {
          fresh = λ l. refl;
          order = record { whole = λ x e free i. subst (λ z. Tells shared had no_story z) (some_one (sym now ∙ e)) (fresh_tells shared had s.now c (s.opened + 1)); front = none_front shared had };
        }))
    | inr other ↦ quiet_follows (event.Text c text) added out (with_stream c k id s) none (λ m. refl) (at_placed_other (s.opened + 1) n (fresh s.now c (s.opened + 1)) s.streams other) (omega arith)
        (λ x e i. heard_put s (with_stream c k id s) c k (joined id (s.opened + 1) k) o refl x i)
  ]

  asks_follows : (c : ℕ) (text : List ℕ) (k : Conn) (stream : ℤ) (m : ℕ) (x : Stream) (id : ℤ) (what : Ask) (added : List Entry) (out : Outs) → added ≡ [] → IsOpen s c k → at m s.streams ≡ Some x → Goes (event.Text c text) added out (with_request c k stream m x id what s)
  asks_follows c text k stream m x id what added out none o known = elim (cases_eq n m) [
    | inl own ↦
        (let new = with_request c k stream m x id what s in
        let y = waiting id what x in
        let before : at n s.streams ≡ Some x = ap (λ j. at j s.streams) own ∙ known in
        let now : at n new.streams ≡ Some y = ap (λ j. at j new.streams) own ∙ at_put m x y s.streams known in
        let told : told_on n t (event.Text c text) s added out new ≡ extended t (id ∷ []) (option_to_list (work_of what)) [] [] = told_is n t (event.Text c text) s added out new (id ∷ []) (option_to_list (work_of what)) [] [] refl (rw (before, now) (drop_behind x.waits (id ∷ []))) (rw (before, now) (drop_behind x.task.asks (option_to_list (work_of what)))) refl refl in
        let was : of_exchanges x ≡ false → IsHeard new x → Tells shared had t x = λ free i. h.order.whole x before free (heard_put s new c k (waited stream (is_close what) k) o refl x i) in
        subst (λ u. Follows shared had n u new) (sym told) (record {
          fresh = λ l. absurd (none_some (sym (kept.above n l) ∙ before));
          order = record { whole = λ z e free i. subst (λ z. IsHeard new z → Tells shared had (extended t (id ∷ []) (option_to_list (work_of what)) [] []) z) (some_one (sym now ∙ e)) (λ j. asked_tells shared had t x id what (was (ap of_exchanges (some_one (sym now ∙ e)) ∙ free) (record { k = j.k; known = j.known; unshut = j.unshut }))) i; front = asked_front shared had t (id ∷ []) (option_to_list (work_of what)) h.order.front };
        }))
    | inr other ↦ quiet_follows (event.Text c text) added out (with_request c k stream m x id what s) none (λ j. refl) (at_put_other m n x (waiting id what x) s.streams known other) (omega arith)
        (λ z e i. heard_put s (with_request c k stream m x id what s) c k (waited stream (is_close what) k) o refl z i)
  ]

  -- ---- a poll

  other_poll : (stream : StreamNo) (added : List Entry) (out : Outs) (new : State) → n ≢ stream.0 → at n new.streams ≡ at n s.streams → s.opened ≤ new.opened → ((x : Stream) → at n s.streams ≡ Some x → IsHeard new x → IsHeard s x) → Goes (event.Poll stream) added out new
  other_poll stream added out new other same rises heard =
      let off : nat_eq stream.0 n ≡ false = ne_eqb stream.0 n (λ e. other (sym e)) in
      stays shared had n t _ s new (told_same n t (event.Poll stream) s added out new refl refl refl (ap (λ b. cond b added []) off) (ap (λ b. cond b (text_in out.out) []) off)) rises (λ x e. sym same ∙ e) (λ x e own i. heard x e i) h

  own_poll : (stream : StreamNo) (added : List Entry) (out : Outs) (new : State) → n ≡ stream.0 → told_on n t (event.Poll stream) s added out new ≡ extended t [] [] added (text_in out.out)
  own_poll stream added out new own =
      let on : nat_eq stream.0 n ≡ true = eq-eqb stream.0 n (sym own) in
      told_is n t (event.Poll stream) s added out new [] [] added (text_in out.out) refl refl refl (ap (λ b. cond b added []) on) (ap (λ b. cond b (text_in out.out) []) on)

  left_at : (over : Bool) (m : ℕ) (x y : Stream) → at m s.streams ≡ Some x → n ≢ m → at n (streams_left over m y s.streams) ≡ at n s.streams
  left_at true m x y known other = at_without_other m n s.streams kept.streams_rise other
  left_at false m x y known other = at_put_other m n x y s.streams known other

  left_own : (over : Bool) (m : ℕ) (x y z : Stream) → at m s.streams ≡ Some x → at m (streams_left over m y s.streams) ≡ Some z → y ≡ z
  left_own true m x y z known e = absurd (none_some (sym (at_without m s.streams kept.streams_rise) ∙ e))
  left_own false m x y z known e = some_one (sym (at_put m x y s.streams known) ∙ e)

  polls_follow : (stream : StreamNo) (x : Stream) (k : Conn) (added : List Entry) (out : Outs) (new : State) → at stream.0 s.streams ≡ Some x → of_exchanges x ≡ false → is_waiting x.task.asks ≡ true → IsOpen s x.conn k → All (BeganAt had s.version) added → Polled shared s stream.0 x.conn x k added out new → Goes (event.Poll stream) added out new
  polls_follow stream x k added out new known its waits o began p =
      let reply = reply_in p.result in
      let over = is_over reply p.task in
      let y = polled s.now reply p.task x in
      let conns : new.conns ≡ put x.conn (replied stream.0 over reply k) s.conns = ap (λ (u : State). u.conns) p.left in
      let streams : new.streams ≡ streams_left over stream.0 y s.streams = ap (λ (u : State). u.streams) p.left in
      let opened : new.opened ≡ s.opened = ap (λ (u : State). u.opened) p.left in
      elim (cases_eq n stream.0) [
        | inl own ↦
            (let before : at n s.streams ≡ Some x = ap (λ j. at j s.streams) own ∙ known in
            let was : Tells shared had t x = h.order.whole x before its (record { k = k; known = o.known; unshut = o.heard }) in
            let now : Tells shared had (extended t [] [] added (text_in out.out)) y = polled_tells law shared had s stream.0 x k added out new t waits (pairs stream.0 x known its) began p was in
            subst (λ u. Follows shared had n u new) (sym (own_poll stream added out new own)) (record {
              fresh = λ l. absurd (none_some (sym (kept.above n (omega (arith, l, opened))) ∙ before));
              order = record {
                whole = λ z e free i. subst (λ z. Tells shared had (extended t [] [] added (text_in out.out)) z) (left_own over stream.0 x y z known (ap (λ es. at stream.0 es) (sym streams) ∙ ap (λ j. at j new.streams) (sym own) ∙ e)) now;
                front = tells_front shared had (extended t [] [] added (text_in out.out)) y now;
              };
            }))
        | inr other ↦ other_poll stream added out new other (ap (λ es. at n es) streams ∙ left_at over stream.0 x y known other) (omega (arith, opened)) (λ z e i. heard_put s new x.conn k (replied stream.0 over reply k) o conns z i)
      ]

  falls_follow : (stream : StreamNo) (x : Stream) (k : Conn) (added : List Entry) (out : Outs) (new : State) → at stream.0 s.streams ≡ Some x → IsOpen s x.conn k → PollFell shared s stream.0 x.conn x k added out new → Goes (event.Poll stream) added out new
  falls_follow stream x k added out new known o p =
      let y = dropped p.task x in
      let conns : new.conns ≡ put x.conn (shut k) s.conns = ap (λ (u : State). u.conns) p.left in
      let streams : new.streams ≡ put stream.0 y s.streams = ap (λ (u : State). u.streams) p.left in
      let opened : new.opened ≡ s.opened = ap (λ (u : State). u.opened) p.left in
      elim (cases_eq n stream.0) [
        | inl own ↦
            (let before : at n s.streams ≡ Some x = ap (λ j. at j s.streams) own ∙ known in
            let now : at n new.streams ≡ Some y = ap (λ es. at n es) streams ∙ ap (λ j. at j (put stream.0 y s.streams)) own ∙ at_put stream.0 x y s.streams known in
            let silent : extended t [] [] added (text_in out.out) ≡ extended t [] [] added [] = ap (λ (w : Outs). extended t [] [] added (text_in w.out)) p.given in
            subst (λ u. Follows shared had n u new) (sym (own_poll stream added out new own ∙ silent)) (record {
              fresh = λ l. absurd (none_some (sym (kept.above n (omega (arith, l, opened))) ∙ before));
              order = record {
                whole = λ z e free i. absurd (shut_put s new x.conn k (shut k) o refl conns z i (ap (λ (w : Stream). w.conn) (sym (some_one (sym now ∙ e)))));
                front = more_front shared had t added h.order.front;
              };
            }))
        | inr other ↦ other_poll stream added out new other (ap (λ es. at n es) streams ∙ at_put_other stream.0 n x y s.streams known other) (omega (arith, opened)) (λ z e i. heard_put s new x.conn k (shut k) o conns z i)
      ]

  -- ---- ends

  loses_follow : (c : ℕ) (k : Conn) (added : List Entry) (out : Outs) → Goes (event.Lost c) added out (without_conn c k s)
  loses_follow c k added out = stays shared had n t _ s (without_conn c k s) (told_same n t (event.Lost c) s added out (without_conn c k s) refl refl refl refl refl) (omega arith)
      (λ x e. (let_go_cases k.streams n x s.streams kept.streams_rise e).1)
      (λ x e own i. record { k = i.k; known = (without_cases c x.conn i.k s.conns kept.conns_rise i.known).1; unshut = i.unshut }) h

  -- the stream doesn't expire
  stays_at : (moment : ℕ) (added : List Entry) (out : Outs) → at n (at_moment moment s).streams ≡ at n s.streams → Goes (event.Moment moment) added out (at_moment moment s)
  stays_at moment added out same =
      stays shared had n t _ s (at_moment moment s) (told_same n t (event.Moment moment) s added out (at_moment moment s) (expires_none n (event.Moment moment) s (at_moment moment s) same) refl refl refl refl) (omega arith)
      (λ x e. sym same ∙ e) (λ x e own i. record { k = i.k; known = i.known; unshut = i.unshut }) h

  -- a stream of a connection is dead then
  expires_here : (moment : ℕ) (x : Stream) (added : List Entry) (out : Outs) → at n s.streams ≡ Some x → is_due moment x ≡ true → of_exchanges x ≡ false → Goes (event.Moment moment) added out (at_moment moment s)
  expires_here moment x added out known due own =
      let new = at_moment moment s in
      let now : at n new.streams ≡ Some (expired x) = at_left_some (after moment) n x s.streams kept.streams_rise known ∙ after_due moment x due ∙ left_dead x own in
      let left = (expired x).task.session in
      let told : told_on n t (event.Moment moment) s added out new ≡ turned true left t = rw (known, now, due_begun moment x due own) (ap (turned true left) (nothing_more t)) in
      subst (λ u. Follows shared had n u new) (sym told) (record {
        fresh = λ l. absurd (none_some (sym (kept.above n l) ∙ known));
        order = record {
          whole = λ z e free i. subst (λ z. IsHeard new z → Tells shared had (turned true left t) z) (some_one (sym now ∙ e))
              (λ j. expired_tells shared had t x (no_asks x.task.asks (due_idle moment x due)) (h.order.whole x known own (record { k = j.k; known = j.known; unshut = j.unshut }))) i;
          front = expired_front shared had t left h.order.front;
        };
      })

  -- a stream of exchanges is gone, and its chapter ends if it held a transaction
  goes_here : (moment : ℕ) (x : Stream) (added : List Entry) (out : Outs) → at n s.streams ≡ Some x → is_due moment x ≡ true → of_exchanges x ≡ true → Goes (event.Moment moment) added out (at_moment moment s)
  goes_here moment x added out known due is = by (is_begun x.task.session.state) refl
    where
      gone : at n (at_moment moment s).streams ≡ None
      gone = at_left_some (after moment) n x s.streams kept.streams_rise known ∙ after_due moment x due ∙ left_gone x is

      -- nothing is said of a stream that is gone
      front_follows : (u : Story) → HasTold shared had u → Follows shared had n u (at_moment moment s)
      front_follows u front = record { fresh = λ l. absurd (none_some (sym (kept.above n l) ∙ known)); order = record { whole = λ z e free i. absurd (none_some (sym gone ∙ e)); front = front } }

      by : (b : Bool) → is_begun x.task.session.state ≡ b → Goes (event.Moment moment) added out (at_moment moment s)
      by true begun =
          let told : told_on n t (event.Moment moment) s added out (at_moment moment s) ≡ turned true new_session t = rw (known, gone, begun) (ap (turned true new_session) (nothing_more t)) in
          subst (λ u. Follows shared had n u (at_moment moment s)) (sym told) (front_follows (turned true new_session t) (expired_front shared had t new_session h.order.front))
      by false begun =
          let told : told_on n t (event.Moment moment) s added out (at_moment moment s) ≡ t = rw (known, gone, begun) (nothing_more t) in
          subst (λ u. Follows shared had n u (at_moment moment s)) (sym told) (front_follows t h.order.front)

  expires_follow : (moment : ℕ) (added : List Entry) (out : Outs) → Goes (event.Moment moment) added out (at_moment moment s)
  expires_follow moment added out = by (at n s.streams) refl
    where
      due_at : (x : Stream) → at n s.streams ≡ Some x → is_due moment x ≡ true → (b : Bool) → of_exchanges x ≡ b → Goes (event.Moment moment) added out (at_moment moment s)
      due_at x e due true is = goes_here moment x added out e due is
      due_at x e due false own = expires_here moment x added out e due own

      at_due : (x : Stream) → at n s.streams ≡ Some x → (b : Bool) → is_due moment x ≡ b → Goes (event.Moment moment) added out (at_moment moment s)
      at_due x e true due = due_at x e due (of_exchanges x) refl
      at_due x e false due = stays_at moment added out (at_left_some (after moment) n x s.streams kept.streams_rise e ∙ after_other moment x due ∙ sym e)

      by : (o : Option Stream) → at n s.streams ≡ o → Goes (event.Moment moment) added out (at_moment moment s)
      by None e = stays_at moment added out (at_left_none (after moment) n s.streams e ∙ sym e)
      by (Some x) e = at_due x e (is_due moment x) refl

  -- ---- exchanges

  -- the entries of its polls are added to the story of a stream of exchanges, and nothing is told
  touches_story : (e : Event) (added : List Entry) (out : Outs) (new : State) (m : ℕ) (used : List Entry) → told_on n t e s added out new ≡ extended t [] [] used [] → (n ≢ m → used ≡ []) → s.opened ≤ new.opened → Touches shared s m new → Goes e added out new
  touches_story e added out new m used told none opened touch =
      let same : n ≢ m → extended t [] [] used [] ≡ t = λ other. ap (λ l. extended t [] [] l []) (none other) ∙ nothing_more t in
      subst (λ u. Follows shared had n u new) (sym told) (record {
        fresh = λ l. same (λ own. omega (arith, own, l, touch.given)) ∙ h.fresh (omega (arith, l, opened));
        order = record {
          whole = λ x f free i.
              (let other : n ≢ m = λ own. not_session (at m new.streams) x touch.streams.now (ap (λ j. at j new.streams) (sym own) ∙ f) free in
              let heard : IsHeard s x = record { k = i.k; known = ap (λ es. at x.conn es) (sym touch.conns) ∙ i.known; unshut = i.unshut } in
              subst (λ u. Tells shared had u x) (sym (same other)) (h.order.whole x (sym (touch.streams.others n other) ∙ f) free heard));
          front = more_front shared had t used h.order.front;
        };
      })

  touches_follow : {e : Event} (added : List Entry) (out : Outs) (new : State) (m : ℕ) → Adding shared s m added new e → IsSilent e out → s.opened ≤ new.opened → Touches shared s m new → Goes e added out new
  touches_follow added out new m (arrives c ask none next) silent opened touch =
      touches_story (event.Exchange c ask) added out new m [] (told_is n t (event.Exchange c ask) s added out new [] [] [] [] refl refl refl refl refl) (λ other. refl) opened touch
  touches_follow added out new m (lost c ended next) silent opened touch =
      touches_story (event.Lost c) added out new m [] (told_is n t (event.Lost c) s added out new [] [] [] [] refl refl refl refl refl) (λ other. refl) opened touch
  touches_follow added out new m (polls_session stream x by entry result task here known p one next) silent opened touch =
      let used : List Entry = cond (nat_eq stream.0 n) added [] in
      touches_story (event.Poll stream) added out new m used (told_is n t (event.Poll stream) s added out new [] [] used [] refl refl refl refl (silent n))
      (λ other. ap (λ b. cond b added []) (ne_eqb stream.0 n (λ same. other (sym (here ∙ same))))) opened touch

  ends_follow : (added : List Entry) (out : Outs) → Goes event.Stop added out (at_its_end s)
  ends_follow added out = stays shared had n t _ s (at_its_end s) (told_same n t event.Stop s added out (at_its_end s) refl refl refl refl refl) (omega arith) (λ x e. absurd (none_some e)) (λ x e own i. absurd (none_some i.known)) h

  change_follows : {e : Event} (added : List Entry) (out : Outs) (new : State) → All (BeganAt had s.version) added → Change shared s added out new e → Goes e added out new
  change_follows added out new began (rests e none silent left) = subst (λ u. Goes e added out u) (sym left) (quiet_follows e added out s none silent refl (omega arith) (λ x f i. i))
  change_follows added out new began (comes c closing none unknown few left) = subst (λ u. Goes (event.Opened c) added out u) (sym left) (comes_follows c closing added out unknown)
  change_follows added out new began (marks e c k k' none silent o marked left) = subst (λ u. Goes e added out u) (sym left) (quiet_follows e added out (with_conn c k' s) none silent refl (omega arith) (λ x f i. heard_put s (with_conn c k' s) c k k' o refl x i))
  change_follows added out new began (joins c text k id none o unnamed few left) = subst (λ u. Goes (event.Text c text) added out u) (sym left) (joins_follows c text k id added out none o)
  change_follows added out new began (asks_for c text k stream m x id what w none o few named known served left) = subst (λ u. Goes (event.Text c text) added out u) (sym left) (asks_follows c text k stream m x id what added out none o known)
  change_follows added out new began (polls stream x k known own waits o p) = polls_follow stream x k added out new known own waits o began p
  change_follows added out new began (falls stream x k known own o p) = falls_follow stream x k added out new known o p
  change_follows added out new began (touches e m adds silent opened touch) = touches_follow added out new m adds silent opened (touch kept)
  change_follows added out new began (loses c k known ended left) = subst (λ u. Goes (event.Lost c) added out u) (sym left) (loses_follow c k added out)
  change_follows added out new began (expires moment ended left) = subst (λ u. Goes (event.Moment moment) added out u) (sym left) (expires_follow moment added out)
  change_follows added out new began (ends ended left) = subst (λ u. Goes event.Stop added out u) (sym left) (ends_follow added out)

-- ---- every run

-- that the event was counted makes no odds to the story
told_counted : (n : ℕ) (t : Story) (e : Event) (s : State) (added : List Entry) (out : Outs) (new : State) → told_on n t e (counted s) added out new ≡ told_on n t e s added out new
told_counted n t (event.Text c text) s added out new = refl
told_counted n t (event.Opened c) s added out new = refl
told_counted n t (event.Binary c) s added out new = refl
told_counted n t (event.Exchange c ask) s added out new = refl
told_counted n t (event.Lost c) s added out new = refl
told_counted n t (event.Moment moment) s added out new = refl
told_counted n t (event.Poll stream) s added out new = refl
told_counted n t event.Stop s added out new = refl

counted_follows : (shared : Bool) (had : ℕ → ℕ) (n : ℕ) (t : Story) (s : State) → Follows shared had n t s → Follows shared had n t (counted s)
counted_follows shared had n t s h = record { fresh = h.fresh; order = record { whole = λ x e own i. h.order.whole x e own (record { k = i.k; known = i.known; unshut = i.unshut }); front = h.order.front } }

module _ (law : TaskMeans) where
  run_follows : {token : Option (List ℕ)} {shared : Bool} {events : List Event} {drawn : List (List Draw)} {entries : List (List Entry)} {outs : List Outs} {s : State} (run : Run token shared events drawn entries outs s) (had : ℕ → ℕ) → AreVersions had run → (n : ℕ) → Follows shared had n (story n run) s
  run_follows {shared} start had versions n = record { fresh = λ l. refl; order = record { whole = λ x e own i. absurd (none_some e); front = none_front shared had } }
  run_follows {token} {shared} (more {s = before} run event draws added out new fit step) had versions n =
      subst (λ t. Follows shared had n t new) (told_counted n (story n run) event before added out new)
      (change_follows law shared had n (story n run) (counted before) (counted_kept before (run_kept run)) (run_paired run) (counted_follows shared had n (story n run) before (run_follows run had versions.0 n)) added out new versions.1
      (step_changes token shared before event draws added out new fit step))

  pub replies_in_order : RepliesInOrder
  replies_in_order token shared events drawn entries outs s run had versions n = (run_follows run had versions n).order

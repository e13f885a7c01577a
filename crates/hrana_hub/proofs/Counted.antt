-- In every run a connection counts its requests that wait.
use Rattle.std.proofs.Common.{◌≡◌, ◌≢◌, ◌≤◌, ◌+◌, ℕ, ℤ, Bool, true, false, cond, List, [], ◌∷◌, ◌++◌, length, Option, None, Some, Contains, refl, sym, ap, ◌∙◌, subst, arith, inl, inr}
use Rattle.std.proofs.lemmas.Bool.{cases_eq, true≢false}
use Rattle.std.proofs.lemmas.List.{length_push}
use Rattle.stream_requests.specs.declared.asks.Ask.{Ask}
use Rattle.stream_requests.specs.declared.asks.Ask.TheVariants as ask
use Rattle.stream_requests.specs.declared.replies.Reply.{Reply}
use Rattle.http_wire.specs.declared.outs.Outs.{Outs}
use Rattle.engine_core.specs.Draws.{Draw}
use Rattle.engine_core.specs.declared.entries.Entry.{Entry}
use Rattle.stream_task.specs.Doing.{work_of}
use Rattle.stream_task.specs.Laws.{HasNoClose, ClosesLast, ByCloses, ClosesAlone}
use Rattle.stream_task.specs.Laws.{is_close as is_close_work}
use Rattle.stream_task.specs.Polls.{Task, is_waiting}
use Rattle.stream_task.specs.declared.session.TxnState.{TxnState}
use Rattle.stream_task.specs.declared.session.TxnState.TheVariants.{Auto, Deferred, Reading, Writing, Dead, Closed}
use Rattle.stream_task.specs.declared.work.Work.{Work}
use Rattle.stream_task.specs.declared.work.Work.TheVariants as work
use Rattle.hrana_hub.specs.declared.events.Event.{Event}
use Rattle.hrana_hub.specs.Maps.{Numbered, Ids, at, put, placed, without, those_left, id_at, without_id}
use Rattle.hrana_hub.specs.State.{Conn, Stream, State, of_exchanges}
use Rattle.hrana_hub.specs.Arrivals.{fresh, joined, waiting, waited, with_stream, with_request, is_close, shut}
use Rattle.hrana_hub.specs.Polled.{Polled, PollFell, reply_in, is_over, is_closed, still_wait, first_id, later_ids, replies, polled, streams_left, replied, dropped, seen_of}
use Rattle.hrana_hub.specs.Ended.{let_go, without_conn}
use Rattle.hrana_hub.specs.Moments.{after, at_moment}
use Rattle.hrana_hub.specs.Run.{Run, start, more}
use Rattle.hrana_hub.specs.Step.{counted, new_conn, with_new_conn}
use Rattle.hrana_hub.specs.Laws.{InEveryRun, WaitsAreCounted, waits_of}
use Rattle.hrana_hub.proofs.Changes.{Change, rests, comes, marks, joins, asks_for, polls, falls, touches, loses, expires, ends, IsOpen, IsMarked, step_changes}
use Rattle.hrana_hub.proofs.EntryLemmas.{at_put_other}
use Rattle.hrana_hub.proofs.Left.{left_cases, after_cases, after_same, sum_left}
use Rattle.hrana_hub.proofs.IdLists.{Lead, Apart, lead_weaker, lead_both, lead_at, lead_placed, lead_without, apart_placed, apart_without, freed}
use Rattle.hrana_hub.proofs.Kept.{counted_kept, run_kept, not_session}
use Rattle.hrana_hub.proofs.Standing.{Kept}
use Rattle.hrana_hub.proofs.Touching.{IsSession, IsIdle, Touches}
use Rattle.hrana_hub.proofs.Listed.{put_cases, placed_cases, without_cases, let_go_cases}
use Rattle.hrana_hub.proofs.MapLemmas.{none_some, some_one, at_placed, at_placed_other, Rises}
use Rattle.hrana_hub.proofs.Paired.{EachPairs, first_waits, run_paired}
use Rattle.hrana_hub.proofs.WaitSums.{share, share_none, share_all, sum_put, sum_without, sum_placed, sum_none, sum_let_go, share_idle}

-- ---- closes

-- a close is the last request of a stream of a connection, and one that is closed has none
pub record Closing (x : Stream) : Type 0 where
  pub last : ClosesLast x.task.asks
  pub closed : x.task.session.state ≡ Closed → x.task.asks ≡ []

-- a stream to which an id leads: it wasn't asked to close
pub record Named (c : ℕ) (x : Stream) : Type 0 where
  pub conn : x.conn ≡ c
  pub own : of_exchanges x ≡ false
  pub none : HasNoClose x.task.asks
  pub unclosed : x.task.session.state ≢ Closed

-- a number to which an id of the connection leads
pub record Leads (opened : ℕ) (streams : Numbered Stream) (c n : ℕ) : Type 0 where
  pub given : n ≤ opened
  pub named : (x : Stream) → at n streams ≡ Some x → Named c x

-- ---- what is kept

pub record ConnCounts (opened : ℕ) (streams : Numbered Stream) (c : ℕ) (k : Conn) : Type 0 where
  pub counted : k.closing ≡ false → k.outstanding ≡ waits_of c streams
  pub at_most : waits_of c streams ≤ k.outstanding
  pub leads : Lead (λ n. Leads opened streams c n) k.ids
  pub apart : Apart k.ids

pub record Counts (s : State) : Type 0 where
  pub conn : (c : ℕ) (k : Conn) → at c s.conns ≡ Some k → ConnCounts s.opened s.streams c k
  pub stream : (n : ℕ) (x : Stream) → at n s.streams ≡ Some x → of_exchanges x ≡ false → Closing x
  -- no request of a stream of exchanges waits with an id
  pub idle : (n : ℕ) (x : Stream) → at n s.streams ≡ Some x → of_exchanges x ≡ true → x.waits ≡ []

pub counted_counts : (s : State) → Counts s → Counts (counted s)
counted_counts s h = record { conn = h.conn; stream = h.stream; idle = h.idle }

-- ---- requests behind others

no_close_more : (ws : List Work) (w : Work) → HasNoClose ws → is_close_work w ≡ false → HasNoClose (ws ++ w ∷ [])
no_close_more [] w h o = (o, tt)
no_close_more (v ∷ ws) w h o = (h.0, no_close_more ws w h.1 o)

close_last : (ws : List Work) (w : Work) → HasNoClose ws → ClosesLast (ws ++ w ∷ [])
close_last [] w h = ((λ e. refl), tt)
close_last (v ∷ ws) w h = ((λ e. absurd (true≢false (sym e ∙ h.0))), close_last ws w h.1)

as_work : (what : Ask) (v w : Work) → ◌≡◌ {A = Option Work} (Some v) (Some w) → is_close_work v ≡ false → is_close_work w ≡ false
as_work what v w e o = ap is_close_work (sym (some_one e)) ∙ o

no_close_work : (what : Ask) (w : Work) → is_close what ≡ false → work_of what ≡ Some w → is_close_work w ≡ false
no_close_work (ask.Execute stmt) w o e = as_work (ask.Execute stmt) _ w e refl
no_close_work (ask.Batch batch) w o e = as_work (ask.Batch batch) _ w e refl
no_close_work (ask.Sequence named) w o e = as_work (ask.Sequence named) _ w e refl
no_close_work ask.GetAutocommit w o e = as_work ask.GetAutocommit _ w e refl
no_close_work ask.Close w o e = absurd (true≢false o)
no_close_work (ask.Cursor batch) w o e = absurd (none_some e)
no_close_work (ask.Fetch count) w o e = absurd (none_some e)
no_close_work ask.CloseCursor w o e = absurd (none_some e)
no_close_work (ask.StoreSql number sql) w o e = as_work (ask.StoreSql number sql) _ w e refl
no_close_work (ask.CloseSql number) w o e = as_work (ask.CloseSql number) _ w e refl

-- ---- a connection while streams change

-- what stands at a number now stood there before, as another
pub record Was (c : ℕ) (es : Numbered Stream) (m : ℕ) (z : Stream) : Type 0 where
  pub x : Stream
  pub there : at m es ≡ Some x
  pub named : Named c x → Named c z

was_same : (c m : ℕ) (es : Numbered Stream) (z : Stream) → at m es ≡ Some z → Was c es m z
was_same c m es z e = record { x = z; there = e; named = λ h. h }

leads_on : (opened c : ℕ) (es fs : Numbered Stream) → ((m : ℕ) (z : Stream) → at m fs ≡ Some z → Was c es m z) → (ids : Ids) → Lead (λ n. Leads opened es c n) ids → Lead (λ n. Leads opened fs c n) ids
leads_on opened c es fs was ids h = lead_weaker (λ n. Leads opened es c n) (λ n. Leads opened fs c n) ids (λ n l. record { given = l.given; named = λ z e. (let w = was n z e in w.named (l.named w.x w.there)) }) h

-- as many requests of it wait
pub conn_on : (opened c : ℕ) (k : Conn) (es fs : Numbered Stream) → waits_of c fs ≡ waits_of c es → ((m : ℕ) (z : Stream) → at m fs ≡ Some z → Was c es m z) → ConnCounts opened es c k → ConnCounts opened fs c k
conn_on opened c k es fs same was h = record {
  counted = λ o. h.counted o ∙ sym same;
  at_most = omega (arith, same, h.at_most);
  leads = leads_on opened c es fs was k.ids h.leads;
  apart = h.apart;
}

-- one connection has become another, and of the others the same is known
conns_put : (opened : ℕ) (streams : Numbered Stream) (conns : Numbered Conn) (c : ℕ) (k k' : Conn) → at c conns ≡ Some k → ConnCounts opened streams c k' → ((d : ℕ) (j : Conn) → d ≢ c → at d conns ≡ Some j → ConnCounts opened streams d j)
    → (d : ℕ) (j : Conn) → at d (put c k' conns) ≡ Some j → ConnCounts opened streams d j
conns_put opened streams conns c k k' there own others d j e = elim (put_cases c d k k' j conns there e) [
  | inl mine ↦ subst (λ (l : Conn). ConnCounts opened streams d l) (sym mine.1) (subst (λ b. ConnCounts opened streams b k') (sym mine.0) own)
  | inr other ↦ others d j other.0 other.1
]

-- of what was put and is one of exchanges, or isn't, this holds, and so it does of what was there
streams_put : (b : Bool) (P : Stream → Type 0) (n : ℕ) (x y : Stream) (es : Numbered Stream) → at n es ≡ Some x → (of_exchanges y ≡ b → P y) → ((m : ℕ) (z : Stream) → at m es ≡ Some z → of_exchanges z ≡ b → P z) → (m : ℕ) (z : Stream) → at m (put n y es) ≡ Some z → of_exchanges z ≡ b → P z
streams_put b P n x y es there p h m z e is = elim (put_cases n m x y z es there e) [
  | inl own ↦ subst P (sym own.1) (p (ap of_exchanges (sym own.1) ∙ is))
  | inr other ↦ h m z other.1 is
]

abbrev Idle : Stream → Type 0
Idle x = x.waits ≡ []

-- the stream of a connection has become another, so the idle ones are as before
idle_put : (n : ℕ) (x y : Stream) (es : Numbered Stream) → at n es ≡ Some x → of_exchanges y ≡ false → ((m : ℕ) (z : Stream) → at m es ≡ Some z → of_exchanges z ≡ true → Idle z) → (m : ℕ) (z : Stream) → at m (put n y es) ≡ Some z → of_exchanges z ≡ true → Idle z
idle_put n x y es there own h = streams_put true Idle n x y es there (λ is. absurd (true≢false (sym is ∙ own))) h

was_put : (c n : ℕ) (x y : Stream) (es : Numbered Stream) → at n es ≡ Some x → (Named c x → Named c y) → (m : ℕ) (z : Stream) → at m (put n y es) ≡ Some z → Was c es m z
was_put c n x y es there named m z e = elim (put_cases n m x y z es there e) [
  | inl own ↦ record { x = x; there = ap (λ j. at j es) own.0 ∙ there; named = λ h. subst (Named c) (sym own.1) (named h) }
  | inr other ↦ was_same c m es z other.1
]

-- a stream of another connection has become another of that one
other_put : (opened c n : ℕ) (k : Conn) (x y : Stream) (es : Numbered Stream) → at n es ≡ Some x → y.conn ≡ x.conn → c ≢ x.conn → ConnCounts opened es c k → ConnCounts opened (put n y es) c k
other_put opened c n k x y es there same other h =
    conn_on opened c k es (put n y es)
    (omega (arith, sum_put c n x y es there, share_none c x (λ e. other (sym e)), share_none c y (λ e. other (sym e ∙ same))))
    (was_put c n x y es there (λ named. absurd (other (sym named.conn)))) h

other_without : (opened c n : ℕ) (k : Conn) (x : Stream) (es : Numbered Stream) → Rises es → at n es ≡ Some x → c ≢ x.conn → ConnCounts opened es c k → ConnCounts opened (without n es) c k
other_without opened c n k x es r there other h =
    conn_on opened c k es (without n es) (omega (arith, sum_without c n x es there, share_none c x (λ e. other (sym e))))
    (λ m z e. was_same c m es z (without_cases n m z es r e).1) h

-- ---- connections come and are marked

comes_counts : (s : State) (c : ℕ) (closing : Bool) → Kept s → Counts s → at c s.conns ≡ None → Counts (with_new_conn c closing s)
comes_counts s c closing kept h none =
    let no_waits : waits_of c s.streams ≡ 0 = sum_none c s.streams kept.streams_rise (λ n x e. no_share n x e (of_exchanges x) refl) in
    record {
      conn = λ d j e. elim (placed_cases c d (new_conn closing) j s.conns e) [
        | inl own ↦ subst (λ (l : Conn). ConnCounts s.opened s.streams d l) (sym own.1) (subst (λ b. ConnCounts s.opened s.streams b (new_conn closing)) (sym own.0) (record { counted = λ o. sym no_waits; at_most = omega (arith, no_waits); leads = tt; apart = tt }))
        | inr other ↦ h.conn d j other.1
      ];
      stream = h.stream;
      idle = h.idle;
    }
  where
    no_share : (n : ℕ) (x : Stream) → at n s.streams ≡ Some x → (b : Bool) → of_exchanges x ≡ b → share c x ≡ 0
    no_share n x e true is = share_idle c x (h.idle n x e is)
    no_share n x e false own = share_none c x (λ same. none_some (sym none ∙ ap (λ d. at d s.conns) (sym same) ∙ (kept.stream n x e own).known))

marks_counts : (s : State) (c : ℕ) (k k' : Conn) → Counts s → IsOpen s c k → IsMarked k k' → (d : ℕ) (j : Conn) → at d (put c k' s.conns) ≡ Some j → ConnCounts s.opened s.streams d j
marks_counts s c k k' h o m =
    let old = h.conn c k o.known in
    conns_put s.opened s.streams s.conns c k k' o.known (record {
      counted = λ unshut. m.outstanding ∙ old.counted o.heard;
      at_most = omega (arith, m.outstanding, old.at_most);
      leads = subst (Lead (λ n. Leads s.opened s.streams c n)) (sym m.ids) old.leads;
      apart = subst Apart (sym m.ids) old.apart;
    }) (λ d j other e. h.conn d j e)

-- ---- a stream opens

fresh_closing : (now c n : ℕ) → Closing (fresh now c n)
fresh_closing now c n = record { last = tt; closed = λ e. refl }

fresh_named : (now c n : ℕ) → Named c (fresh now c n)
fresh_named now c n = record { conn = refl; own = refl; none = tt; unclosed = λ e. true≢false (sym (ap is_closed e)) }

share_fresh : (b : Bool) → ◌≡◌ {A = ℕ} (cond b 0 0) 0
share_fresh true = refl
share_fresh false = refl

module _ (s : State) (c : ℕ) (kept : Kept s) (h : Counts s) where
  abbrev one_more : Numbered Stream
  one_more = placed (s.opened + 1) (fresh s.now c (s.opened + 1)) s.streams

  lead_more : (d n : ℕ) → Leads s.opened s.streams d n → Leads (s.opened + 1) one_more d n
  lead_more d n l = record {
    given = omega (arith, l.given);
    named = λ x e. l.named x (sym (at_placed_other (s.opened + 1) n (fresh s.now c (s.opened + 1)) s.streams (λ same. omega (arith, same, l.given))) ∙ e);
  }

  more_waits : (d : ℕ) → waits_of d one_more ≡ waits_of d s.streams
  more_waits d = (let none : share d (fresh s.now c (s.opened + 1)) ≡ 0 = share_fresh _ in omega (arith, none, sum_placed d (s.opened + 1) (fresh s.now c (s.opened + 1)) s.streams (kept.above (s.opened + 1) (omega arith))))

  conn_more : (d : ℕ) (j : Conn) → ConnCounts s.opened s.streams d j → ConnCounts (s.opened + 1) one_more d j
  conn_more d j old = record {
    counted = λ o. old.counted o ∙ sym (more_waits d);
    at_most = omega (arith, more_waits d, old.at_most);
    leads = lead_weaker (λ n. Leads s.opened s.streams d n) (λ n. Leads (s.opened + 1) one_more d n) j.ids (lead_more d) old.leads;
    apart = old.apart;
  }

  joins_counts : (k : Conn) (id : ℤ) → at c s.conns ≡ Some k → Counts (with_stream c k id s)
  joins_counts k id there =
      let n = s.opened + 1 in
      let old = h.conn c k there in
      let now = conn_more c k old in
      let own : Leads n one_more c n = record { given = omega arith; named = λ x e. subst (Named c) (some_one (sym (at_placed n (fresh s.now c n) s.streams) ∙ e)) (fresh_named s.now c n) } in
      record {
        conn = conns_put n one_more s.conns c k (joined id n k) there (record {
          counted = now.counted;
          at_most = now.at_most;
          leads = lead_placed (λ m. Leads n one_more c m) id n k.ids own now.leads;
          apart = apart_placed id n k.ids (lead_weaker (λ m. Leads s.opened s.streams c m) (λ m. m ≢ n) k.ids (λ m l same. omega (arith, same, l.given)) old.leads) old.apart;
        }) (λ d j other e. conn_more d j (h.conn d j e));
        stream = λ m z e own. elim (placed_cases n m (fresh s.now c n) z s.streams e) [
          | inl mine ↦ subst Closing (sym mine.1) (fresh_closing s.now c n)
          | inr other ↦ h.stream m z other.1 own
        ];
        idle = λ m z e is. elim (placed_cases n m (fresh s.now c n) z s.streams e) [
          | inl mine ↦ absurd (true≢false (sym is ∙ ap of_exchanges mine.1))
          | inr other ↦ h.idle m z other.1 is
        ];
      }

-- ---- a request is accepted

module _ (s : State) (c : ℕ) (k : Conn) (stream : ℤ) (n : ℕ) (x : Stream) (id : ℤ) (what : Ask) (w : Work) (h : Counts s) (o : IsOpen s c k) (leads : id_at stream k.ids ≡ Some n) (known : at n s.streams ≡ Some x) (served : work_of what ≡ Some w) where
  abbrev then : Stream
  then = waiting id what x

  asked_is : then.task.asks ≡ x.task.asks ++ w ∷ []
  asked_is = rw served refl

  its : Named c x
  its = (lead_at (λ m. Leads s.opened s.streams c m) stream n k.ids (h.conn c k o.known).leads leads).named x known

  asked_closing : Closing then
  asked_closing = record { last = subst ClosesLast (sym asked_is) (close_last x.task.asks w its.none); closed = λ e. absurd (its.unclosed e) }

  asked_named : is_close what ≡ false → Named c x → Named c then
  asked_named no_close h = record { conn = h.conn; own = h.own; none = subst HasNoClose (sym asked_is) (no_close_more x.task.asks w h.none (no_close_work what w no_close served)); unclosed = h.unclosed }

  -- a close frees the id, and no other leads to the stream
  asked_leads : (closes : Bool) → is_close what ≡ closes → Lead (λ m. Leads s.opened (put n then s.streams) c m) (cond closes (without_id stream k.ids) k.ids)
  asked_leads true e = (let old = h.conn c k o.known in
      lead_both (λ m. Leads s.opened s.streams c m) (λ m. m ≢ n) (λ m. Leads s.opened (put n then s.streams) c m) (without_id stream k.ids)
      (λ m l apart. record { given = l.given; named = λ z f. l.named z (sym (at_put_other n m x then s.streams known apart) ∙ f) })
      (lead_without (λ m. Leads s.opened s.streams c m) stream k.ids old.leads) (freed stream n k.ids old.apart leads))
  asked_leads false e = leads_on s.opened c s.streams (put n then s.streams) (was_put c n x then s.streams known (asked_named e)) k.ids (h.conn c k o.known).leads

  asked_apart : (closes : Bool) → Apart (cond closes (without_id stream k.ids) k.ids)
  asked_apart true = apart_without stream k.ids (h.conn c k o.known).apart
  asked_apart false = (h.conn c k o.known).apart

  asks_waits : waits_of c (put n then s.streams) ≡ waits_of c s.streams + 1
  asks_waits = omega (arith, sum_put c n x then s.streams known, share_all c x its.conn, share_all c then its.conn, length_push x.waits id)

  asks_counts : Counts (with_request c k stream n x id what s)
  asks_counts =
      let old = h.conn c k o.known in
      record {
        conn = conns_put s.opened (put n then s.streams) s.conns c k (waited stream (is_close what) k) o.known (record {
          counted = λ unshut. omega (arith, asks_waits, old.counted unshut);
          at_most = omega (arith, asks_waits, old.at_most);
          leads = asked_leads (is_close what) refl;
          apart = asked_apart (is_close what);
        }) (λ d j other e. other_put s.opened d n j x then s.streams known refl (λ same. other (same ∙ its.conn)) (h.conn d j e));
        stream = streams_put false Closing n x then s.streams known (λ own. asked_closing) h.stream;
        idle = idle_put n x then s.streams known its.own h.idle;
      }

-- ---- a poll

no_waiting : (asks : List Work) → is_waiting asks ≡ true → asks ≢ []
no_waiting asks waits e = true≢false (sym waits ∙ ap is_waiting e)

closed_is : (state : TxnState) → is_closed state ≡ true → state ≡ Closed
closed_is Closed e = refl
closed_is Auto e = absurd (true≢false (sym e))
closed_is Deferred e = absurd (true≢false (sym e))
closed_is (Reading unit had) e = absurd (true≢false (sym e))
closed_is (Writing unit) e = absurd (true≢false (sym e))
closed_is (Dead cause) e = absurd (true≢false (sym e))

over_closed : (r : Option Reply) (task : Task) → is_over r task ≡ true → task.session.state ≡ Closed
over_closed None task e = absurd (true≢false (sym e))
over_closed (Some r) task e = closed_is task.session.state e

-- a reply takes one of the ids
still_and : (r : Option Reply) (ids : List ℤ) → ids ≡ first_id ids ∷ later_ids ids → length (still_wait r ids) + replies r ≡ length ids
still_and None ids e = omega arith
still_and (Some r) ids e = (let long : length ids ≡ length (first_id ids ∷ later_ids ids) = ap (λ l. length l) e in omega (arith, long))

-- what a close leaves behind it
behind_close : (asks rest : List Work) → asks ≡ work.Close ∷ rest → ClosesLast asks → rest ≡ []
behind_close asks rest e h = (subst ClosesLast e h).0 refl

module _ (law : ClosesAlone) (shared : Bool) (s : State) (n : ℕ) (x : Stream) (k : Conn) (kept : Kept s) (pairs : EachPairs s.streams) (h : Counts s) (known : at n s.streams ≡ Some x) (own : of_exchanges x ≡ false) (o : IsOpen s x.conn k) where
  named_by : (task : Task) (result : _) → ByCloses x.task result task → (c : ℕ) → Named c x → (x.task.asks ≡ work.Close ∷ task.asks → ⊥)
  named_by task result b c i e = true≢false (subst HasNoClose e i.none).0

  module _ (added : List Entry) (out : Outs) (new : State) (waits : is_waiting x.task.asks ≡ true) (p : Polled shared s n x.conn x k added out new) where
    abbrev given : Option Reply
    given = reply_in p.result

    abbrev next : Stream
    next = polled s.now given p.task x

    by : ByCloses x.task p.result p.task
    by = law shared (seen_of p.by s) x.task p.entry p.result p.task (λ e. no_waiting x.task.asks waits ((h.stream n x known own).closed e)) p.polls

    one_less : length next.waits + replies given ≡ length x.waits
    one_less = still_and given x.waits (first_waits x.waits x.task.asks waits (pairs n x known own))

    next_named : (c : ℕ) → Named c x → Named c next
    next_named c i = record { conn = i.conn; own = i.own; none = by.none i.none; unclosed = λ e. named_by p.task p.result by c i (by.closed e).0 }

    next_closing : Closing next
    next_closing = (let its = h.stream n x known own in record { last = by.last its.last; closed = λ e. behind_close x.task.asks p.task.asks (by.closed e).0 its.last })

    -- a stream that is closed had one request that waited
    over_waits : is_over given p.task ≡ true → length x.waits ≡ replies given
    over_waits e =
        let close = by.closed (over_closed given p.task e) in
        let rest : p.task.asks ≡ [] = behind_close x.task.asks p.task.asks close.0 (h.stream n x known own).last in
        let asks : length x.task.asks ≡ 1 = ap (λ l. length l) (close.0 ∙ ap (λ l. work.Close ∷ l) rest) ∙ omega arith in
        let one : replies given ≡ 1 = ap (λ r. replies (reply_in r)) close.1 in
        omega (arith, pairs n x known own, asks, one)

    left_waits : (over : Bool) → is_over given p.task ≡ over → waits_of x.conn (streams_left over n next s.streams) + replies given ≡ waits_of x.conn s.streams
    left_waits true e = omega (arith, sum_without x.conn n x s.streams known, share_all x.conn x refl, over_waits e)
    left_waits false e = omega (arith, sum_put x.conn n x next s.streams known, share_all x.conn x refl, share_all x.conn next refl, one_less)

    left_was : (over : Bool) (c m : ℕ) (z : Stream) → at m (streams_left over n next s.streams) ≡ Some z → Was c s.streams m z
    left_was true c m z e = was_same c m s.streams z (without_cases n m z s.streams kept.streams_rise e).1
    left_was false c m z e = was_put c n x next s.streams known (next_named c) m z e

    left_other : (over : Bool) (d : ℕ) (j : Conn) → d ≢ x.conn → ConnCounts s.opened s.streams d j → ConnCounts s.opened (streams_left over n next s.streams) d j
    left_other true d j other old = other_without s.opened d n j x s.streams kept.streams_rise known other old
    left_other false d j other old = other_put s.opened d n j x next s.streams known refl other old

    left_closing : (over : Bool) (m : ℕ) (z : Stream) → at m (streams_left over n next s.streams) ≡ Some z → of_exchanges z ≡ false → Closing z
    left_closing true m z e free = h.stream m z (without_cases n m z s.streams kept.streams_rise e).1 free
    left_closing false m z e free = streams_put false Closing n x next s.streams known (λ its. next_closing) h.stream m z e free

    left_idle : (over : Bool) (m : ℕ) (z : Stream) → at m (streams_left over n next s.streams) ≡ Some z → of_exchanges z ≡ true → Idle z
    left_idle true m z e is = h.idle m z (without_cases n m z s.streams kept.streams_rise e).1 is
    left_idle false m z e is = idle_put n x next s.streams known own h.idle m z e is

    polls_conns : (over : Bool) → is_over given p.task ≡ over → (d : ℕ) (j : Conn) → at d (put x.conn (replied n over given k) s.conns) ≡ Some j → ConnCounts s.opened (streams_left over n next s.streams) d j
    polls_conns over e =
        let old = h.conn x.conn k o.known in
        let all : k.outstanding ≡ waits_of x.conn s.streams = old.counted o.heard in
        let left = left_waits over e in
        conns_put s.opened (streams_left over n next s.streams) s.conns x.conn k (replied n over given k) o.known (record {
          counted = λ unshut. omega (arith, all, left);
          at_most = omega (arith, all, left);
          leads = leads_on s.opened x.conn s.streams (streams_left over n next s.streams) (left_was over x.conn) k.ids old.leads;
          apart = old.apart;
        }) (λ d j other f. left_other over d j other (h.conn d j f))

    polls_counts : Counts new
    polls_counts = subst Counts (sym p.left) (record { conn = polls_conns (is_over given p.task) refl; stream = left_closing (is_over given p.task); idle = left_idle (is_over given p.task) })

  -- ---- a poll that met want of memory

  module _ (added : List Entry) (out : Outs) (new : State) (p : PollFell shared s n x.conn x k added out new) where
    abbrev empty : Stream
    empty = dropped p.task x

    empty_named : (c : ℕ) → Named c x → Named c empty
    empty_named c i =
        let by = law shared (seen_of p.by s) x.task p.entry p.result p.task i.unclosed p.polls in
        record { conn = i.conn; own = i.own; none = tt; unclosed = λ e. named_by p.task p.result by c i (by.closed e).0 }

    falls_counts : Counts new
    falls_counts =
        let old = h.conn x.conn k o.known in
        let none : share x.conn empty ≡ 0 = share_all x.conn empty refl in
        subst Counts (sym p.left) (record {
          conn = conns_put s.opened (put n empty s.streams) s.conns x.conn k (shut k) o.known (record {
            counted = λ unshut. absurd (true≢false unshut);
            at_most = omega (arith, sum_put x.conn n x empty s.streams known, none, old.at_most);
            leads = leads_on s.opened x.conn s.streams (put n empty s.streams) (was_put x.conn n x empty s.streams known (empty_named x.conn)) k.ids old.leads;
            apart = old.apart;
          }) (λ d j other e. other_put s.opened d n j x empty s.streams known refl other (h.conn d j e));
          stream = streams_put false Closing n x empty s.streams known (λ its. record { last = tt; closed = λ e. refl }) h.stream;
          idle = idle_put n x empty s.streams known own h.idle;
        })

-- ---- ends

loses_counts : (s : State) (c : ℕ) (k : Conn) → Kept s → Counts s → at c s.conns ≡ Some k → Counts (without_conn c k s)
loses_counts s c k kept h there = record {
  conn = λ d j e.
      (let was = without_cases c d j s.conns kept.conns_rise e in
      let apart : (n : ℕ) → Contains k.streams n → (x : Stream) → at n s.streams ≡ Some x → x.conn ≢ d = λ n i x f same.
      (let own = (kept.conn c k there).owned n i in was.0 (sym same ∙ ap (λ (z : Stream). z.conn) (some_one (sym f ∙ own.known)) ∙ own.conn)) in
      conn_on s.opened d j s.streams (let_go k.streams s.streams) (sum_let_go d k.streams s.streams kept.streams_rise apart)
      (λ m z f. was_same d m s.streams z (let_go_cases k.streams m z s.streams kept.streams_rise f).1) (h.conn d j was.1));
  stream = λ m z e own. h.stream m z (let_go_cases k.streams m z s.streams kept.streams_rise e).1 own;
  idle = λ m z e is. h.idle m z (let_go_cases k.streams m z s.streams kept.streams_rise e).1 is;
}

-- a stream that expires has no request, and isn't closed
record Lasts (x z : Stream) : Type 0 where
  closing : Closing x → Closing z
  named : (c : ℕ) → Named c x → Named c z
  idle : Idle x → Idle z

abbrev LastsIf : Stream → Option Stream → Type 0
LastsIf x None = Unit {0}
LastsIf x (Some z) = Lasts x z

after_lasts : (moment : ℕ) (x z : Stream) → after moment x ≡ Some z → Lasts x z
after_lasts moment x z e = subst (LastsIf x) e (after_cases (LastsIf x) moment x
    (λ due. record { closing = λ h. h; named = λ c h. h; idle = λ h. h })
    (λ due own. record { closing = λ h. record { last = tt; closed = λ e. refl }; named = λ c h. record { conn = h.conn; own = h.own; none = tt; unclosed = λ e. cc }; idle = λ h. h })
    (λ due own. tt))

expires_counts : (s : State) (moment : ℕ) → Kept s → Counts s → Counts (at_moment moment s)
expires_counts s moment kept h =
    let r = kept.streams_rise in
    let left : Numbered Stream = those_left (after moment) s.streams in
    record {
      conn = λ c k e. conn_on s.opened c k s.streams left (sum_left c moment s.streams r h.idle)
          (λ m z f. (let was = left_cases (after moment) m z s.streams r f in record { x = was.0; there = was.1; named = (after_lasts moment was.0 z was.2).named c })) (h.conn c k e);
      stream = λ m z f own. (let was = left_cases (after moment) m z s.streams r f in (after_lasts moment was.0 z was.2).closing (h.stream m was.0 was.1 (sym (after_same moment was.0 z was.2).exchanges ∙ own)));
      idle = λ m z f is. (let was = left_cases (after moment) m z s.streams r f in (after_lasts moment was.0 z was.2).idle (h.idle m was.0 was.1 (sym (after_same moment was.0 z was.2).exchanges ∙ is)));
    }

-- ---- exchanges

idle_at : (o : Option Stream) → IsSession o → ((x : Stream) → o ≡ Some x → of_exchanges x ≡ true → Idle x) → IsIdle o
idle_at None is h = tt
idle_at (Some x) is h = h x refl is

module _ (shared : Bool) (s new : State) (n : ℕ) (h : Counts s) (opened : s.opened ≤ new.opened) (t : Touches shared s n new) where
  abbrev before_idle : IsIdle (at n s.streams)
  before_idle = idle_at (at n s.streams) t.streams.was (λ x e is. h.idle n x e is)

  apart_now : (m : ℕ) (z : Stream) → at m new.streams ≡ Some z → of_exchanges z ≡ false → m ≢ n
  apart_now m z e own same = not_session (at n new.streams) z t.streams.now (ap (λ j. at j new.streams) (sym same) ∙ e) own

  -- an id leads to no stream of exchanges
  not_led : (c : ℕ) → Leads s.opened s.streams c n → (z : Stream) → at n new.streams ≡ Some z → ⊥
  not_led c l z e = by (at n s.streams) refl
    where
      by : (o : Option Stream) → at n s.streams ≡ o → ⊥
      by None none = none_some (sym (t.gone l.given none) ∙ e)
      by (Some x) there = not_session (at n s.streams) x t.streams.was there (l.named x there).own

  still_named : (c m : ℕ) → Leads s.opened s.streams c m → (z : Stream) → at m new.streams ≡ Some z → Named c z
  still_named c m l z e = elim (cases_eq m n) [
    | inl same ↦ absurd (not_led c (subst (λ j. Leads s.opened s.streams c j) same l) z (ap (λ j. at j new.streams) (sym same) ∙ e))
    | inr other ↦ l.named z (sym (t.streams.others m other) ∙ e)
  ]

  touches_counts : Counts new
  touches_counts = record {
    conn = λ c k e. (let old = h.conn c k (ap (λ es. at c es) (sym t.conns) ∙ e) in let same : waits_of c new.streams ≡ waits_of c s.streams = t.streams.sums before_idle c in record {
      counted = λ unshut. old.counted unshut ∙ sym same;
      at_most = omega (arith, same, old.at_most);
      leads = lead_weaker (λ m. Leads s.opened s.streams c m) (λ m. Leads new.opened new.streams c m) k.ids (λ m l. record { given = omega (arith, l.given, opened); named = still_named c m l }) old.leads;
      apart = old.apart;
    });
    stream = λ m z e own. h.stream m z (sym (t.streams.others m (apart_now m z e own)) ∙ e) own;
    idle = λ m z e is. elim (cases_eq m n) [
      | inl same ↦ subst IsIdle (ap (λ j. at j new.streams) (sym same) ∙ e) (t.streams.idle before_idle)
      | inr other ↦ h.idle m z (sym (t.streams.others m other) ∙ e) is
    ];
  }

-- ---- every step

pub change_counts : {event : Event} → ClosesAlone → (shared : Bool) (s : State) (added : List Entry) (out : Outs) (new : State) → Kept s → EachPairs s.streams → Counts s → Change shared s added out new event → Counts new
change_counts law shared s added out new kept pairs h (rests event none silent left) = subst Counts (sym left) h
change_counts law shared s added out new kept pairs h (comes c closing none unknown few left) = subst Counts (sym left) (comes_counts s c closing kept h unknown)
change_counts law shared s added out new kept pairs h (marks event c k k' none silent heard marked left) = subst Counts (sym left) (record { conn = marks_counts s c k k' h heard marked; stream = h.stream; idle = h.idle })
change_counts law shared s added out new kept pairs h (joins c text k id none heard unnamed few left) = subst Counts (sym left) (joins_counts s c kept h k id heard.known)
change_counts law shared s added out new kept pairs h (asks_for c text k stream n x id what w none heard few named known served left) = subst Counts (sym left) (asks_counts s c k stream n x id what w h heard named known served)
change_counts law shared s added out new kept pairs h (polls stream x k known own waits heard p) = polls_counts law shared s stream.0 x k kept pairs h known own heard added out new waits p
change_counts law shared s added out new kept pairs h (falls stream x k known own heard p) = falls_counts law shared s stream.0 x k kept pairs h known own heard added out new p
change_counts law shared s added out new kept pairs h (touches event n adds silent opened touch) = touches_counts shared s new n h opened (touch kept)
change_counts law shared s added out new kept pairs h (loses c k known ended left) = subst Counts (sym left) (loses_counts s c k kept h known)
change_counts law shared s added out new kept pairs h (expires moment ended left) = subst Counts (sym left) (expires_counts s moment kept h)
change_counts law shared s added out new kept pairs h (ends ended left) = subst Counts (sym left) (record { conn = λ c k e. absurd (none_some e); stream = λ n x e own. absurd (none_some e); idle = λ n x e is. absurd (none_some e) })

pub run_counts : {token : Option (List ℕ)} {shared : Bool} {events : List Event} {drawn : List (List Draw)} {entries : List (List Entry)} {outs : List Outs} {s : State} → ClosesAlone → Run token shared events drawn entries outs s → Counts s
run_counts law start = record { conn = λ c k e. absurd (none_some e); stream = λ n x e own. absurd (none_some e); idle = λ n x e is. absurd (none_some e) }
run_counts {token} {shared} law (more {s = before} run event draws added out new fit step) =
    change_counts law shared (counted before) added out new (counted_kept before (run_kept run)) (run_paired run) (counted_counts before (run_counts law run)) (step_changes token shared before event draws added out new fit step)

pub waits_counted : ClosesAlone → InEveryRun WaitsAreCounted
waits_counted law token shared events drawn entries outs s run =
    let kept = run_kept run in
    let h = run_counts law run in
    record {
      paired = run_paired run;
      listed = λ n x e own. (let its = kept.stream n x e own in record { k = its.k; known = its.known; lists = its.lists });
      counted = λ c k e. (h.conn c k e).counted;
      at_most = λ c k e. (h.conn c k e).at_most;
    }

-- A poll of a stream whose exchange runs, in the talk of the stream.
use Rattle.std.proofs.Common.{◌≡◌, ◌≢◌, ◌≤◌, ◌+◌, ℕ, ℤ, Bool, true, false, List, [], ◌∷◌, ◌++◌, length, map, All, Option, None, Some, refl, sym, ap, ◌∙◌, subst, arith, append-nil}
use Rattle.std.specs.Prelude.{pos}
use Rattle.hrana_value.specs.declared.StreamNo.{StreamNo}
use Rattle.stream_requests.specs.declared.replies.Reply.{Reply}
use Rattle.http_wire.specs.declared.outs.Outs.{Outs}
use Rattle.pipeline_body.specs.Exchanges.{EachHasItsResult, after, begins, is_over, pipeline_answer}
use Rattle.engine_core.specs.Draws.{Draw}
use Rattle.engine_core.specs.declared.entries.Entry.{Entry}
use Rattle.stream_task.specs.Laws.{TaskMeans, replies, said_by}
use Rattle.stream_task.specs.Polls.{Task, Polls, is_waiting}
use Rattle.stream_task.specs.Session.{is_shut}
use Rattle.stream_task.specs.declared.task.Poll.{Poll as Answer}
use Rattle.stream_task.specs.declared.task.Poll.TheVariants.{Ready, Pending}
use Rattle.stream_task.specs.declared.task.Stepped.{Stepped}
use Rattle.stream_task.specs.declared.task.Stepped.TheVariants as stepped
use Rattle.stream_task.specs.declared.work.Work.{Work}
use Rattle.stream_task.specs.Table.{Seen as Sees}
use Rattle.hrana_hub.specs.declared.events.Event.TheVariants.{Poll}
use Rattle.hrana_hub.specs.declared.sessions.Running.{Running as Runs}
use Rattle.hrana_hub.specs.declared.sessions.Session.TheVariants.{Resting, Running}
use Rattle.hrana_hub.specs.Maps.{at, put, without}
use Rattle.hrana_hub.specs.State.{Stream, State}
use Rattle.hrana_hub.specs.Arrivals.{nothing}
use Rattle.hrana_hub.specs.Polled.{reply_in, seen_of, still_wait, with_entry, with_task, passed, dropped}
use Rattle.hrana_hub.specs.Exchanges.{SessionPolled, SessionFell, in_session, answers_with, next_baton, proceeds_if, concludes, with_reply, replies_to}
use Rattle.hrana_hub.specs.Stories.{BeganAt}
use Rattle.hrana_hub.specs.Talks.{Talk, then, answers_in}
use Rattle.hrana_hub.proofs.EntryLemmas.{at_put, at_without}
use Rattle.hrana_hub.proofs.Moving.{handed}
use Rattle.hrana_hub.proofs.Paired.{still_paired}
use Rattle.hrana_hub.proofs.Standing.{Kept}
use Rattle.hrana_hub.proofs.Talking.{Rests, Under, Owns, tells_front, rests_front, under_tells, runs_under, answered_rests, fell_front, after_more}
use Rattle.hrana_hub.proofs.TalkSteps.{Follows, Goes', polling, becomes, vanishes}
use Rattle.hrana_hub.proofs.Telling.{versioned}

-- ---- how many requests are left

abbrev ids_of : List Work → List ℤ
ids_of asks = map (λ w. pos 0) asks

-- a poll that gives no reply leaves as many, and one that gives one leaves one fewer
abbrev replies_count : Option Reply → ℕ
replies_count None = 0
replies_count (Some r) = 1

still_count : (o : Option Reply) (ids : List ℤ) (m k : ℕ) → length ids ≡ k → (k ≡ 0 → ⊥) → length (still_wait o ids) ≡ m → replies_count o + m ≡ k
still_count None ids m k e some h = omega (arith, e, h)
still_count (Some r) [] m k e some h = absurd (some (sym e))
still_count (Some r) (id ∷ ids) m k e some h = omega (arith, e, h)

waits_some : (asks : List Work) → is_waiting asks ≡ true → length asks ≡ 0 → ⊥
waits_some [] e h = cc
waits_some (w ∷ asks) e h = omega (arith, h)

left_count : (shared : Bool) (seen : Sees) (old : Task) (added : Option Entry) (result : Answer Stepped) (new : Task) → is_waiting old.asks ≡ true → Polls shared seen old added result new → result ≢ Ready stepped.Broke → replies_count (reply_in result) + length new.asks ≡ length old.asks
left_count shared seen old added result new waits p found =
    let long : length (ids_of old.asks) ≡ length old.asks = ids_long old.asks in
    still_count (reply_in result) (ids_of old.asks) (length new.asks) (length old.asks) long (waits_some old.asks waits) (still_paired shared seen old added result new (ids_of old.asks) waits p found long)
  where
    ids_long : (asks : List Work) → length (ids_of asks) ≡ length asks
    ids_long [] = refl
    ids_long (w ∷ asks) = omega (arith, ids_long asks)

-- what is said by a poll
abbrev said : Option Reply → List Reply
said None = []
said (Some r) = r ∷ []

said_is : (result : Answer Stepped) → said_by result ≡ said (reply_in result)
said_is (Ready (stepped.Replied r)) = refl
said_is (Ready stepped.Ran) = refl
said_is (Ready stepped.Idle) = refl
said_is (Ready stepped.Broke) = refl
said_is Pending = refl

-- ---- the poll

module _ (law : TaskMeans) (each : EachHasItsResult) (token : Option (List ℕ)) (shared : Bool) (had : ℕ → ℕ) (n : ℕ) (t : Talk) (s : State) (h : Follows shared had n t s) (draws : List Draw) (added : List Entry) (out : Outs) (new : State)
    (stream : StreamNo) (own : stream.0 ≡ n) (kept : Kept s) (x : Stream) (known : at n s.streams ≡ Some x) (e : Runs) (is : x.session ≡ Some (Running e)) where
  under : Under shared had t x e
  under = subst (λ o. Owns shared had o t x) is (h.own x known)

  abbrev Polled' : Type 0
  Polled' = Goes' token shared had n t s (Poll stream) draws added out new

  abbrev told' : List Outs → Talk
  told' answers = record { accepted = []; used = added; answers = answers }

  on : (answers : List Outs) → answers_in out out.out ≡ answers → Follows shared had n (then t (told' answers)) new → Polled'
  on answers there f = polling token shared had n t s h draws added out new stream own answers there f

  there : (y : Stream) (m : ℕ) → m ≡ n → new.streams ≡ put m y s.streams → at n new.streams ≡ Some y
  there y m same ss = ap (λ fs. at n fs) ss ∙ ap (λ j. at n (put j y s.streams)) same ∙ at_put n x y s.streams known

  gone : (m : ℕ) → m ≡ n → new.streams ≡ without m s.streams → at n new.streams ≡ None
  gone m same ss = ap (λ fs. at n fs) ss ∙ ap (λ j. at n (without j s.streams)) same ∙ at_without n s.streams kept.streams_rise

  pub no_memory : SessionFell shared s stream.0 x e added out new → Polled'
  no_memory p =
      let opened : s.opened ≤ new.opened = omega (arith, ap (λ (u : State). u.opened) p.left) in
      let y : Stream = in_session (Resting None) (passed s.now (dropped p.task (with_task p.task x))) in
      on (out ∷ []) (ap (λ (o : Outs). answers_in out o.out) p.given)
      (becomes token shared had n t s h draws added out new stream own kept x known opened y (there y stream.0 own (ap (λ (u : State). u.streams) p.left)) (then t (told' (out ∷ [])))
      (fell_front shared had t x e added out under p.given) tt)

  -- ---- by the reply

  module _ (task : Task) (entry : Option Entry) where
    abbrev y : Stream
    y = with_task task x

    abbrev Means : List Reply → Type 0
    Means told = (later : List Work) (rest : List Entry) → replies shared had (x.task.asks ++ later) x.task.session (added ++ rest) ≡ told ++ replies shared had (task.asks ++ later) task.session rest

    joins_none : (mine : List Reply) → after (mine ++ []) (begins under.a.asks) ≡ after [] (after mine (begins under.a.asks))
    joins_none mine = ap (λ l. after l (begins under.a.asks)) (append-nil mine)

    -- no reply yet
    runs_on : Means [] → length task.asks ≡ length x.task.asks → out ≡ nothing → new ≡ (replies_to None stream.0 y e (with_entry entry s)).state → Polled'
    runs_on means count given left =
        let opened : s.opened ≤ new.opened = omega (arith, ap (λ (u : State). u.opened) left) in
        let u : Talk = then t (told' []) in
        let now : Under shared had u y e = runs_under shared had t x e under added [] y means e refl refl refl (omega (arith, count)) joins_none in
        on [] (ap (λ (o : Outs). answers_in out o.out) given)
        (becomes token shared had n t s h draws added out new stream own kept x known opened y (there y stream.0 own (ap (λ (v : State). v.streams) left)) u (tells_front shared had u y (under_tells shared had u y e is now)) (subst (λ o. Owns shared had o u y) (sym is) now))

    module _ (r : Reply) (means : Means (r ∷ [])) (count : 1 + length task.asks ≡ length x.task.asks) where
      abbrev f : Runs
      f = with_reply r e

      joins_one : (mine : List Reply) → after (mine ++ r ∷ []) (begins under.a.asks) ≡ after (r ∷ []) (after mine (begins under.a.asks))
      joins_one mine = after_more mine r (begins under.a.asks)

      -- more requests are left
      replied_on : out ≡ nothing → new ≡ (proceeds_if false stream.0 y f (with_entry entry s)).state → Polled'
      replied_on given left =
          let opened : s.opened ≤ new.opened = omega (arith, ap (λ (u : State). u.opened) left) in
          let u : Talk = then t (told' []) in
          let z : Stream = in_session (Running f) y in
          let now : Under shared had u z f = runs_under shared had t x e under added (r ∷ []) z means f refl refl refl (omega (arith, count)) joins_one in
          on [] (ap (λ (o : Outs). answers_in out o.out) given)
          (becomes token shared had n t s h draws added out new stream own kept x known opened z (there z stream.0 own (ap (λ (v : State). v.streams) left)) u (tells_front shared had u z (under_tells shared had u z f refl now)) now)

      module _ (over : is_over f.exchange ≡ true) where
        answered_as : (z : Stream) → z.task ≡ task → (baton : Option (List ℕ)) → out ≡ answers_with f.conn (pipeline_answer f.exchange.results baton f.close) → Rests shared had (then t (told' (out ∷ []))) z
        answered_as z same baton given = answered_rests shared had t x e under added (r ∷ []) z (λ later rest. means later rest ∙ ap (λ (k : Task). (r ∷ []) ++ replies shared had (k.asks ++ later) k.session rest) (sym same)) each f refl refl refl
            (let long = ap (λ (k : Task). length k.asks) same in omega (arith, count, long)) joins_one over baton out given

        -- it goes on with a new baton
        hands_on : out ≡ (concludes false stream.0 y f (with_entry entry s)).given → new ≡ (concludes false stream.0 y f (with_entry entry s)).state → Polled'
        hands_on given left =
            let opened : s.opened ≤ new.opened = omega (arith, ap (λ (u : State). u.opened) left) in
            let u : Talk = then t (told' (out ∷ [])) in
            let z : Stream = in_session (handed f.words s.issued s.now) (passed s.now y) in
            let now : Rests shared had u z = answered_as z refl (Some (next_baton f.words (with_entry entry s))) given in
            on (out ∷ []) (ap (λ (o : Outs). answers_in out o.out) given)
            (becomes token shared had n t s h draws added out new stream own kept x known opened z (there z stream.0 own (ap (λ (v : State). v.streams) left)) u (rests_front shared had u z now) now)

        -- it is gone with the answer
        leaves_now : out ≡ (concludes true stream.0 y f (with_entry entry s)).given → new ≡ (concludes true stream.0 y f (with_entry entry s)).state → Polled'
        leaves_now given left =
            let opened : s.opened ≤ new.opened = omega (arith, ap (λ (u : State). u.opened) left) in
            let u : Talk = then t (told' (out ∷ [])) in
            on (out ∷ []) (ap (λ (o : Outs). answers_in out o.out) given)
            (vanishes token shared had n t s h draws added out new stream own kept x known opened (gone stream.0 own (ap (λ (v : State). v.streams) left)) u (rests_front shared had u y (answered_as y refl None given)))

        concludes_on : (shut : Bool) → out ≡ (concludes shut stream.0 y f (with_entry entry s)).given → new ≡ (concludes shut stream.0 y f (with_entry entry s)).state → Polled'
        concludes_on true given left = leaves_now given left
        concludes_on false given left = hands_on given left

      proceeds_on : (over : Bool) → is_over f.exchange ≡ over → out ≡ (proceeds_if over stream.0 y f (with_entry entry s)).given → new ≡ (proceeds_if over stream.0 y f (with_entry entry s)).state → Polled'
      proceeds_on true is_it given left = concludes_on is_it (is_shut task.session.state) given left
      proceeds_on false is_it given left = replied_on given left

    by_reply : (o : Option Reply) → Means (said o) → replies_count o + length task.asks ≡ length x.task.asks → out ≡ (replies_to o stream.0 y e (with_entry entry s)).given → new ≡ (replies_to o stream.0 y e (with_entry entry s)).state → Polled'
    by_reply None means count given left = runs_on means (omega (arith, count)) given left
    by_reply (Some r) means count given left = proceeds_on r means count (is_over (with_reply r e).exchange) refl given left

  -- a poll that found memory
  pub session_goes : is_waiting x.task.asks ≡ true → All (BeganAt had s.version) added → SessionPolled shared s stream.0 x e added out new → Polled'
  session_goes waits began p =
      let had_seen = versioned had (seen_of p.by s) p.entry (subst (λ l. All (BeganAt had s.version) l) p.one began) in
      by_reply p.task p.entry (reply_in p.result)
      (λ later rest. ap (λ l. replies shared had (x.task.asks ++ later) x.task.session (l ++ rest)) p.one ∙ law shared had (seen_of p.by s) x.task p.entry p.result p.task had_seen p.polls p.found later rest
      ∙ ap (λ l. l ++ replies shared had (p.task.asks ++ later) p.task.session rest) (said_is p.result))
      (left_count shared (seen_of p.by s) x.task p.entry p.result p.task waits p.polls p.found) p.given p.left

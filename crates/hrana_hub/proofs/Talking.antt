-- The talk of a stream of exchanges goes on: where it opens, over each exchange that is accepted, over each poll.
use Rattle.std.proofs.Common.{◌≡◌, ◌≤◌, ◌+◌, ℕ, Bool, true, false, List, [], ◌∷◌, ◌++◌, length, length-append, Option, None, Some, refl, sym, ap, ◌∙◌, subst, arith, append-nil, append_assoc}
use Rattle.std.proofs.lemmas.Bool.{eqb-true}
use Rattle.stream_requests.specs.declared.asks.Ask.{Ask}
use Rattle.stream_requests.specs.declared.replies.Reply.{Reply}
use Rattle.http_wire.specs.declared.outs.Outs.{Outs}
use Rattle.pipeline_body.specs.declared.bodies.PipeAsk.{PipeAsk}
use Rattle.pipeline_body.specs.Exchanges.{Progress, EachHasItsResult, after, answered, begins, asked_in, is_over, results_of, pipeline_answer}
use Rattle.engine_core.specs.declared.entries.Entry.{Entry}
use Rattle.stream_task.specs.Laws.{replies}
use Rattle.stream_task.specs.declared.work.Work.{Work}
use Rattle.hrana_hub.specs.declared.sessions.Issued.{Issued}
use Rattle.hrana_hub.specs.declared.sessions.Running.{Running as Runs}
use Rattle.hrana_hub.specs.declared.sessions.Session.{Session}
use Rattle.hrana_hub.specs.declared.sessions.Session.TheVariants.{Resting, Running}
use Rattle.hrana_hub.specs.State.{Stream}
use Rattle.hrana_hub.specs.Exchanges.{answers_with, empty_503, works_of}
use Rattle.hrana_hub.specs.Stories.{new_session}
use Rattle.hrana_hub.specs.Talks.{Accepted, Talk, no_talk, then, works_in, AreAnswers, no_more, results, falls, GoesOn, running, Tells, HasTold}

-- ---- answers, all of which are there

-- each of the exchanges has its answer, with the results of its requests
pub data Whole : List Accepted → List Reply → List Outs → Type 0 where
  none : Whole [] [] []
  one_more : (before : List Accepted) (told : List Reply) (answers : List Outs) (a : Accepted) (mine : List Reply) (baton : Option (List ℕ)) → Whole before told answers → length mine ≡ length (asked_in a.asks)
      → Whole (before ++ a ∷ []) (told ++ mine) (answers ++ answers_with a.conn (pipeline_answer (results_of a.asks mine) baton a.close) ∷ [])

pub whole_count : (before : List Accepted) (told : List Reply) (answers : List Outs) → Whole before told answers → length before ≡ length answers
whole_count _ _ _ none = refl
whole_count _ _ _ (one_more before told answers a mine baton h count) = (let was = whole_count before told answers h in omega (arith, was, length-append before (a ∷ []), length-append answers (answers_with a.conn (pipeline_answer (results_of a.asks mine) baton a.close) ∷ [])))

-- what comes behind them
pub behind_whole : (may_fall : Bool) (before : List Accepted) (told : List Reply) (answers : List Outs) → Whole before told answers → (left : List Accepted) (rest : List Reply) (more : List Outs) → AreAnswers may_fall left rest more → AreAnswers may_fall (before ++ left) (told ++ rest) (answers ++ more)
behind_whole may_fall _ _ _ none left rest more h = h
behind_whole may_fall _ _ _ (one_more before told answers a mine baton w count) left rest more h =
    let out = answers_with a.conn (pipeline_answer (results_of a.asks mine) baton a.close) in
    subst (λ l. AreAnswers may_fall l ((told ++ mine) ++ rest) ((answers ++ out ∷ []) ++ more)) (sym (append_assoc before (a ∷ []) left))
    (subst (λ l. AreAnswers may_fall (before ++ a ∷ left) l ((answers ++ out ∷ []) ++ more)) (sym (append_assoc told mine rest))
    (subst (λ l. AreAnswers may_fall (before ++ a ∷ left) (told ++ (mine ++ rest)) l) (sym (append_assoc answers (out ∷ []) more))
    (behind_whole may_fall before told answers w (a ∷ left) (mine ++ rest) (out ∷ more) (results may_fall a left mine rest baton more count h))))

pub whole_answers : (may_fall : Bool) (before : List Accepted) (told : List Reply) (answers : List Outs) → Whole before told answers → (left : List Accepted) (rest : List Reply) → AreAnswers may_fall (before ++ left) (told ++ rest) answers
whole_answers may_fall before told answers w left rest = subst (λ l. AreAnswers may_fall (before ++ left) (told ++ rest) l) (append-nil answers) (behind_whole may_fall before told answers w left rest [] (no_more may_fall left rest))

only_whole : (may_fall : Bool) (before : List Accepted) (told : List Reply) (answers : List Outs) → Whole before told answers → AreAnswers may_fall before told answers
only_whole may_fall before told answers w = subst (λ l. AreAnswers may_fall l told answers) (append-nil before) (subst (λ l. AreAnswers may_fall (before ++ []) l answers) (append-nil told) (whole_answers may_fall before told answers w [] []))

-- answers none of which is empty are answers
pub none_fell : (accepted : List Accepted) (told : List Reply) (answers : List Outs) → AreAnswers false accepted told answers → AreAnswers true accepted told answers
none_fell _ _ _ (no_more may_fall left told) = no_more true left told
none_fell _ _ _ (results may_fall a left mine told baton answers count h) = results true a left mine told baton answers count (none_fell left told answers h)

-- ---- requests

pub works_more : (accepted : List Accepted) (a : Accepted) → works_in (accepted ++ a ∷ []) ≡ works_in accepted ++ works_of (asked_in a.asks)
works_more [] a = append-nil (works_of (asked_in a.asks))
works_more (b ∷ accepted) a = ap (λ l. works_of (asked_in b.asks) ++ l) (works_more accepted a) ∙ sym (append_assoc (works_of (asked_in b.asks)) (works_in accepted) (works_of (asked_in a.asks)))

pub after_more : (mine : List Reply) (r : Reply) (p : Progress) → after (mine ++ r ∷ []) p ≡ answered r (after mine p)
after_more [] r p = refl
after_more (m ∷ mine) r p = after_more mine r (answered m p)

-- ---- a talk and what comes behind it

pub then_none : (t : Talk) → then t no_talk ≡ t
then_none t = ap (λ l. record { accepted = l; used = t.used ++ []; answers = t.answers ++ [] }) (append-nil t.accepted)
    ∙ ap (λ l. record { accepted = t.accepted; used = l; answers = t.answers ++ [] }) (append-nil t.used)
    ∙ ap (λ l. record { accepted = t.accepted; used = t.used; answers = l }) (append-nil t.answers)

-- ---- where a stream stands

module _ (shared : Bool) (had : ℕ → ℕ) where
  -- it waits for its next exchange
  pub record Rests (t : Talk) (x : Stream) : Type 0 where
    pub told : List Reply
    pub whole : Whole t.accepted told t.answers
    pub idle : x.task.asks ≡ []
    pub means : (later : List Work) (rest : List Entry) → replies shared had (works_in t.accepted ++ later) new_session (t.used ++ rest) ≡ told ++ replies shared had (x.task.asks ++ later) x.task.session rest

  -- an exchange of it runs: the last, which has these replies so far
  pub record Under (t : Talk) (x : Stream) (e : Runs) : Type 0 where
    pub before : List Accepted
    pub a : Accepted
    pub accepted : t.accepted ≡ before ++ a ∷ []
    pub told : List Reply
    pub whole : Whole before told t.answers
    pub mine : List Reply
    pub conn : e.conn ≡ a.conn
    pub close : e.close ≡ a.close
    pub exchange : e.exchange ≡ after mine (begins a.asks)
    pub left : length mine + length x.task.asks ≡ length (asked_in a.asks)
    pub means : (later : List Work) (rest : List Entry) → replies shared had (works_in t.accepted ++ later) new_session (t.used ++ rest) ≡ (told ++ mine) ++ replies shared had (x.task.asks ++ later) x.task.session rest

  -- by what it waits for
  abbrev pub Owns : Option Session → Talk → Stream → Type 0
  Owns None t x = (t.accepted ≡ []) × (t.answers ≡ [])
  Owns (Some (Resting None)) t x = Unit {0}
  Owns (Some (Resting (Some baton))) t x = Rests t x
  Owns (Some (Running e)) t x = Under t x e

  -- ---- what is told of it

  pub rests_tells : (t : Talk) (x : Stream) (b : Issued) → x.session ≡ Some (Resting (Some b)) → Rests t x → Tells shared had t x
  rests_tells t x b is h = record {
    told = h.told;
    answers = only_whole false t.accepted h.told t.answers h.whole;
    all = (let count = whole_count t.accepted h.told t.answers h.whole in let idle = ap running is in omega (arith, count, idle));
    means = h.means;
  }

  pub under_tells : (t : Talk) (x : Stream) (e : Runs) → x.session ≡ Some (Running e) → Under t x e → Tells shared had t x
  under_tells t x e is h = record {
    told = h.told ++ h.mine;
    answers = subst (λ l. AreAnswers false l (h.told ++ h.mine) t.answers) (sym h.accepted) (whole_answers false h.before h.told t.answers h.whole (h.a ∷ []) h.mine);
    all = (let count = whole_count h.before h.told t.answers h.whole in let runs = ap running is in let all = ap (λ l. length l) h.accepted in omega (arith, count, runs, all, length-append h.before (h.a ∷ [])));
    means = h.means;
  }

  pub owns_tells : (o : Option Session) (t : Talk) (x : Stream) → x.session ≡ o → GoesOn o → Owns o t x → Tells shared had t x
  owns_tells None t x is on h = absurd on
  owns_tells (Some (Resting None)) t x is on h = absurd on
  owns_tells (Some (Resting (Some b))) t x is on h = rests_tells t x b is h
  owns_tells (Some (Running e)) t x is on h = under_tells t x e is h

  pub rests_front : (t : Talk) (x : Stream) → Rests t x → HasTold shared had t
  rests_front t x h = record {
    told = h.told;
    answers = only_whole true t.accepted h.told t.answers h.whole;
    means = λ later rest. (_, h.means later rest);
  }

  pub tells_front : (t : Talk) (x : Stream) → Tells shared had t x → HasTold shared had t
  tells_front t x h = record { told = h.told; answers = none_fell t.accepted h.told t.answers h.answers; means = λ later rest. (_, h.means later rest) }

  -- a stream of a connection has no exchanges
  pub none_front : (t : Talk) → t.accepted ≡ [] → t.answers ≡ [] → HasTold shared had t
  none_front t a b = record { told = []; answers = subst (λ l. AreAnswers true l [] t.answers) (sym a) (subst (λ l. AreAnswers true [] [] l) (sym b) (no_more true [] [])); means = λ later rest. (_, refl) }

  -- ---- an exchange begins

  abbrev pub accepting : ℕ → List PipeAsk → Bool → List Outs → Talk
  accepting c asks close answers = record { accepted = record { conn = c; asks = asks; close = close } ∷ []; used = []; answers = answers }

  -- what is asked of a stream that has nothing to do
  asked_means : (t : Talk) (x : Stream) (told : List Reply) (c : ℕ) (asks : List PipeAsk) (close : Bool) (answers : List Outs) → x.task.asks ≡ []
      → ((later : List Work) (rest : List Entry) → replies shared had (works_in t.accepted ++ later) new_session (t.used ++ rest) ≡ told ++ replies shared had (x.task.asks ++ later) x.task.session rest)
      → (later : List Work) (rest : List Entry)
      → replies shared had (works_in (then t (accepting c asks close answers)).accepted ++ later) new_session ((then t (accepting c asks close answers)).used ++ rest) ≡ told ++ replies shared had (works_of (asked_in asks) ++ later) x.task.session rest
  asked_means t x told c asks close answers idle means later rest =
      let ws = works_of (asked_in asks) in
      ap (λ l. replies shared had (l ++ later) new_session ((t.used ++ []) ++ rest)) (works_more t.accepted (record { conn = c; asks = asks; close = close }))
      ∙ ap (λ l. replies shared had l new_session ((t.used ++ []) ++ rest)) (append_assoc (works_in t.accepted) ws later)
      ∙ ap (λ l. replies shared had (works_in t.accepted ++ (ws ++ later)) new_session (l ++ rest)) (append-nil t.used)
      ∙ means (ws ++ later) rest
      ∙ ap (λ l. told ++ replies shared had (l ++ (ws ++ later)) x.task.session rest) idle

  pub begins_under : (t : Talk) (x y : Stream) (e : Runs) (c : ℕ) (asks : List PipeAsk) (close : Bool) → Rests t x → e.conn ≡ c → e.close ≡ close → e.exchange ≡ begins asks → length (works_of (asked_in asks)) ≡ length (asked_in asks)
      → y.task.asks ≡ works_of (asked_in asks) → y.task.session ≡ x.task.session → Under (then t (accepting c asks close [])) y e
  begins_under t x y e c asks close h conn shuts is count ws same = record {
    before = t.accepted;
    a = record { conn = c; asks = asks; close = close };
    accepted = refl;
    told = h.told;
    whole = subst (λ l. Whole t.accepted h.told l) (sym (append-nil t.answers)) h.whole;
    mine = [];
    conn = conn;
    close = shuts;
    exchange = is;
    left = (let long = ap (λ l. length l) ws in omega (arith, long, count));
    means = λ later rest.
        asked_means t x h.told c asks close [] h.idle h.means later rest
        ∙ ap (λ l. h.told ++ replies shared had (l ++ later) x.task.session rest) (sym ws) ∙ ap (λ s. h.told ++ replies shared had (y.task.asks ++ later) s rest) (sym same)
        ∙ ap (λ l. l ++ replies shared had (y.task.asks ++ later) y.task.session rest) (sym (append-nil h.told));
  }

  no_items : {A : Type 0} (xs : List A) → length xs ≡ 0 → xs ≡ []
  no_items [] e = refl
  no_items (x ∷ xs) e = absurd (omega (arith, e))

  no_works : (asks : List Ask) → length asks ≡ 0 → works_of asks ≡ []
  no_works asks e = ap works_of (no_items asks e)

  -- nothing is left to poll: it is answered at once
  pub begins_rests : (law : EachHasItsResult) (t : Talk) (x y : Stream) (e : Runs) (c : ℕ) (asks : List PipeAsk) (close : Bool) (baton : Option (List ℕ)) (out : Outs) → Rests t x → e.conn ≡ c → e.close ≡ close → e.exchange ≡ begins asks → is_over e.exchange ≡ true
      → out ≡ answers_with e.conn (pipeline_answer e.exchange.results baton e.close) → y.task.asks ≡ x.task.asks → y.task.session ≡ x.task.session → Rests (then t (accepting c asks close (out ∷ []))) y
  begins_rests law t x y e c asks close baton out h conn shuts is over given same session =
      let each = law asks [] (omega arith) in
      let a : Accepted = record { conn = c; asks = asks; close = close } in
      let empty : length (asked_in asks) ≡ 0 = sym (eqb-true 0 (length (asked_in asks)) (sym each.1 ∙ ap is_over (sym is) ∙ over)) in
      let told_out : out ≡ answers_with c (pipeline_answer (results_of asks []) baton close) =
      given ∙ ap (λ k. answers_with k (pipeline_answer e.exchange.results baton e.close)) conn ∙ ap (λ b. answers_with c (pipeline_answer e.exchange.results baton b)) shuts ∙ ap (λ (p : Progress). answers_with c (pipeline_answer p.results baton close)) is
      ∙ ap (λ l. answers_with c (pipeline_answer l baton close)) each.0 in
      record {
        told = h.told ++ [];
        whole = subst (λ o. Whole (t.accepted ++ a ∷ []) (h.told ++ []) (t.answers ++ o ∷ [])) (sym told_out) (one_more t.accepted h.told t.answers a [] baton h.whole (sym empty));
        idle = same ∙ h.idle;
        means = λ later rest.
            asked_means t x h.told c asks close (out ∷ []) h.idle h.means later rest
            ∙ ap (λ l. h.told ++ replies shared had (l ++ later) x.task.session rest) (no_works (asked_in asks) empty)
            ∙ ap (λ l. h.told ++ replies shared had (l ++ later) x.task.session rest) (sym (same ∙ h.idle)) ∙ ap (λ s. h.told ++ replies shared had (y.task.asks ++ later) s rest) (sym session)
            ∙ ap (λ l. l ++ replies shared had (y.task.asks ++ later) y.task.session rest) (sym (append-nil h.told));
      }

  -- ---- a poll

  abbrev pub polling : List Entry → List Outs → Talk
  polling added answers = record { accepted = []; used = added; answers = answers }

  polled_means : (t : Talk) (x : Stream) (told : List Reply) (added : List Entry) (answers : List Outs)
      → ((later : List Work) (rest : List Entry) → replies shared had (works_in t.accepted ++ later) new_session (t.used ++ rest) ≡ told ++ replies shared had (x.task.asks ++ later) x.task.session rest)
      → (later : List Work) (rest : List Entry)
      → replies shared had (works_in (then t (polling added answers)).accepted ++ later) new_session ((then t (polling added answers)).used ++ rest) ≡ told ++ replies shared had (x.task.asks ++ later) x.task.session (added ++ rest)
  polled_means t x told added answers means later rest =
      ap (λ l. replies shared had (works_in l ++ later) new_session ((t.used ++ added) ++ rest)) (append-nil t.accepted)
      ∙ ap (λ l. replies shared had (works_in t.accepted ++ later) new_session l) (append_assoc t.used added rest)
      ∙ means later (added ++ rest)

  module _ (t : Talk) (x : Stream) (e : Runs) (h : Under t x e) (added : List Entry) (said : List Reply) (y : Stream)
      (law : (later : List Work) (rest : List Entry) → replies shared had (x.task.asks ++ later) x.task.session (added ++ rest) ≡ said ++ replies shared had (y.task.asks ++ later) y.task.session rest) where
    says_means : (answers : List Outs) (later : List Work) (rest : List Entry)
        → replies shared had (works_in (then t (polling added answers)).accepted ++ later) new_session ((then t (polling added answers)).used ++ rest) ≡ ((h.told ++ h.mine) ++ said) ++ replies shared had (y.task.asks ++ later) y.task.session rest
    says_means answers later rest =
        polled_means t x (h.told ++ h.mine) added answers h.means later rest
        ∙ ap (λ l. (h.told ++ h.mine) ++ l) (law later rest)
        ∙ sym (append_assoc (h.told ++ h.mine) said (replies shared had (y.task.asks ++ later) y.task.session rest))

    -- the exchange runs on
    pub runs_under : (f : Runs) → f.conn ≡ e.conn → f.close ≡ e.close → f.exchange ≡ after said e.exchange → length said + length y.task.asks ≡ length x.task.asks → ((mine : List Reply) → after (mine ++ said) (begins h.a.asks) ≡ after said (after mine (begins h.a.asks)))
        → Under (then t (polling added [])) y f
    runs_under f conn shuts is count joins = record {
      before = h.before;
      a = h.a;
      accepted = append-nil t.accepted ∙ h.accepted;
      told = h.told;
      whole = subst (λ l. Whole h.before h.told l) (sym (append-nil t.answers)) h.whole;
      mine = h.mine ++ said;
      conn = conn ∙ h.conn;
      close = shuts ∙ h.close;
      exchange = is ∙ ap (λ p. after said p) h.exchange ∙ sym (joins h.mine);
      left = (let was = h.left in omega (arith, was, count, length-append h.mine said));
      means = λ later rest. says_means [] later rest ∙ ap (λ l. l ++ replies shared had (y.task.asks ++ later) y.task.session rest) (append_assoc h.told h.mine said);
    }

    -- the exchange is answered, by the poll that gave the last reply
    module _ (each : EachHasItsResult) (f : Runs) (conn : f.conn ≡ e.conn) (shuts : f.close ≡ e.close) (is : f.exchange ≡ after said e.exchange) (count : length said + length y.task.asks ≡ length x.task.asks)
        (joins : (mine : List Reply) → after (mine ++ said) (begins h.a.asks) ≡ after said (after mine (begins h.a.asks))) (over : is_over f.exchange ≡ true)
        (baton : Option (List ℕ)) (out : Outs) (given : out ≡ answers_with f.conn (pipeline_answer f.exchange.results baton f.close)) where
      all_mine : List Reply
      all_mine = h.mine ++ said

      few : length all_mine ≤ length (asked_in h.a.asks)
      unfolding all_mine
      few = (let was = h.left in omega (arith, was, count, length-append h.mine said))

      progress : f.exchange ≡ after all_mine (begins h.a.asks)
      unfolding all_mine
      progress = is ∙ ap (λ p. after said p) h.exchange ∙ sym (joins h.mine)

      all_there : length all_mine ≡ length (asked_in h.a.asks)
      all_there = eqb-true (length all_mine) (length (asked_in h.a.asks)) (sym (each h.a.asks all_mine few).1 ∙ ap is_over (sym progress) ∙ over)

      told_out : out ≡ answers_with h.a.conn (pipeline_answer (results_of h.a.asks all_mine) baton h.a.close)
      told_out = given ∙ ap (λ k. answers_with k (pipeline_answer f.exchange.results baton f.close)) (conn ∙ h.conn) ∙ ap (λ b. answers_with h.a.conn (pipeline_answer f.exchange.results baton b)) (shuts ∙ h.close)
          ∙ ap (λ (p : Progress). answers_with h.a.conn (pipeline_answer p.results baton h.a.close)) progress ∙ ap (λ l. answers_with h.a.conn (pipeline_answer l baton h.a.close)) (each h.a.asks all_mine few).0

      pub answered_rests : Rests (then t (polling added (out ∷ []))) y
      unfolding all_mine
      answered_rests = record {
        told = h.told ++ (h.mine ++ said);
        whole = subst (λ l. Whole l (h.told ++ all_mine) (t.answers ++ out ∷ [])) (sym (append-nil t.accepted ∙ h.accepted)) (subst (λ o. Whole (h.before ++ h.a ∷ []) (h.told ++ all_mine) (t.answers ++ o ∷ [])) (sym told_out)
            (one_more h.before h.told t.answers h.a all_mine baton h.whole all_there));
        idle = no_items y.task.asks (let was = h.left in let all = all_there in omega (arith, was, count, all, length-append h.mine said));
        means = λ later rest. says_means (out ∷ []) later rest ∙ ap (λ l. l ++ replies shared had (y.task.asks ++ later) y.task.session rest) (append_assoc h.told h.mine said);
      }

  -- there was no memory: the empty 503 is the last answer
  pub fell_front : (t : Talk) (x : Stream) (e : Runs) (added : List Entry) (out : Outs) → Under t x e → out ≡ empty_503 e.conn e.close → HasTold shared had (then t (polling added (out ∷ [])))
  fell_front t x e added out h given = record {
    told = h.told ++ h.mine;
    answers =
        (let told_out : out ≡ empty_503 h.a.conn h.a.close = given ∙ ap (λ k. empty_503 k e.close) h.conn ∙ ap (λ b. empty_503 h.a.conn b) h.close in
        subst (λ l. AreAnswers true l (h.told ++ h.mine) (t.answers ++ out ∷ [])) (sym (append-nil t.accepted ∙ h.accepted))
        (behind_whole true h.before h.told t.answers h.whole (h.a ∷ []) h.mine (out ∷ []) (subst (λ o. AreAnswers true (h.a ∷ []) h.mine (o ∷ [])) (sym told_out) (falls h.a [] h.mine))));
    means = λ later rest. (_, polled_means t x (h.told ++ h.mine) added (out ∷ []) h.means later rest);
  }

  -- a stream that opens
  pub fresh_rests : (x : Stream) → x.task.asks ≡ [] → x.task.session ≡ new_session → Rests no_talk x
  fresh_rests x idle session = record { told = []; whole = none; idle = idle; means = λ later rest. ap (λ l. replies shared had (l ++ later) new_session rest) (sym idle) ∙ ap (λ s. replies shared had (x.task.asks ++ later) s rest) (sym session) }

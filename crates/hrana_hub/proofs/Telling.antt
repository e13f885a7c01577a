-- The story of a stream goes on: where it opens, over each request that is accepted, over each poll.
use Rattle.std.proofs.Common.{◌≡◌, ℕ, ℤ, Bool, true, false, List, [], ◌∷◌, ◌++◌, map, drop, length, All, Option, None, Some, option_to_list, refl, sym, ap, ◌∙◌, subst, append-nil, append_assoc}
use Rattle.std.proofs.lemmas.List.{map-append}
use Rattle.std.proofs.lemmas.List.Elements.{All-head}
use Rattle.stream_requests.specs.declared.asks.Ask.{Ask}
use Rattle.stream_requests.specs.declared.replies.Reply.{Reply}
use Rattle.http_wire.specs.declared.outs.Outs.{Outs}
use Rattle.engine_core.specs.declared.entries.Entry.{Entry}
use Rattle.engine_core.specs.declared.entries.Entry.TheVariants as entry
use Rattle.stream_task.specs.Doing.{Session, work_of}
use Rattle.stream_task.specs.Laws.{replies, said_by, TaskMeans}
use Rattle.stream_task.specs.Polls.{is_waiting}
use Rattle.stream_task.specs.Table.{IsVersioned}
use Rattle.stream_task.specs.Table.{Seen as Sees}
use Rattle.stream_task.specs.declared.task.Poll.{Poll}
use Rattle.stream_task.specs.declared.task.Poll.TheVariants.{Ready, Pending}
use Rattle.stream_task.specs.declared.task.Stepped.{Stepped}
use Rattle.stream_task.specs.declared.task.Stepped.TheVariants as stepped
use Rattle.stream_task.specs.declared.work.Work.{Work}
use Rattle.hrana_hub.specs.declared.events.Event.{Event}
use Rattle.hrana_hub.specs.Maps.{at}
use Rattle.hrana_hub.specs.Moments.{expired}
use Rattle.hrana_hub.specs.State.{Conn, Stream, State}
use Rattle.hrana_hub.specs.Arrivals.{fresh, waiting}
use Rattle.hrana_hub.specs.Polled.{Polled, reply_in, first_id, later_ids, still_wait, answer, polled, seen_of}
use Rattle.hrana_hub.specs.Stories.{Story, Chapter, no_story, told_on, turned, meant, text_in, ids_by, asks_by, used_by, told_by, expires_by, session_in, BeganAt, answer_text, Tells, HasTold}
use Rattle.hrana_hub.proofs.Paired.{Pairs, first_waits}

-- ---- what an event adds to a story

abbrev pub extended : Story → List ℤ → List Work → List Entry → List (List ℕ) → Story
extended t ids asks used texts = record { ids = t.ids ++ ids; before = t.before; start = t.start; asks = t.asks ++ asks; used = t.used ++ used; texts = t.texts ++ texts }

pub told_is : (n : ℕ) (t : Story) (event : Event) (s : State) (added : List Entry) (out : Outs) (new : State) (ids : List ℤ) (asks : List Work) (used : List Entry) (texts : List (List ℕ))
    → expires_by n event s new ≡ false → ids_by n event s new ≡ ids → asks_by n event s new ≡ asks → used_by n event added ≡ used → told_by n event out ≡ texts → told_on n t event s added out new ≡ extended t ids asks used texts
told_is n t event s added out new ids asks used texts e a b c d =
    ap (λ z. turned z (session_in (at n new.streams)) (extended t (ids_by n event s new) (asks_by n event s new) (used_by n event added) (told_by n event out))) e
    ∙ ap (λ z. extended t z (asks_by n event s new) (used_by n event added) (told_by n event out)) a
    ∙ ap (λ z. extended t ids z (used_by n event added) (told_by n event out)) b
    ∙ ap (λ z. extended t ids asks z (told_by n event out)) c
    ∙ ap (λ z. extended t ids asks used z) d

pub nothing_more : (t : Story) → extended t [] [] [] [] ≡ t
nothing_more t =
    ap (λ z. record { ids = z; before = t.before; start = t.start; asks = t.asks ++ []; used = t.used ++ []; texts = t.texts ++ [] }) (append-nil t.ids)
    ∙ ap (λ z. record { ids = t.ids; before = t.before; start = t.start; asks = z; used = t.used ++ []; texts = t.texts ++ [] }) (append-nil t.asks)
    ∙ ap (λ z. record { ids = t.ids; before = t.before; start = t.start; asks = t.asks; used = z; texts = t.texts ++ [] }) (append-nil t.used)
    ∙ ap (λ z. record { ids = t.ids; before = t.before; start = t.start; asks = t.asks; used = t.used; texts = z }) (append-nil t.texts)

pub told_same : (n : ℕ) (t : Story) (event : Event) (s : State) (added : List Entry) (out : Outs) (new : State) → expires_by n event s new ≡ false → ids_by n event s new ≡ [] → asks_by n event s new ≡ [] → used_by n event added ≡ [] → told_by n event out ≡ [] → told_on n t event s added out new ≡ t
told_same n t event s added out new e a b c d = told_is n t event s added out new [] [] [] [] e a b c d ∙ nothing_more t

pub drop_behind : {A : Type 0} (xs ys : List A) → drop (length xs) (xs ++ ys) ≡ ys
drop_behind [] ys = refl
drop_behind (x ∷ xs) ys = drop_behind xs ys

-- ---- what was told is the front

pub tells_front : (shared : Bool) (had : ℕ → ℕ) (t : Story) (x : Stream) → Tells shared had t x → HasTold shared had t
tells_front shared had t x h = record { told = h.told; texts = h.texts; others = x.waits; ids = h.ids; means = λ later rest. (_, h.means later rest) }

pub none_front : (shared : Bool) (had : ℕ → ℕ) → HasTold shared had no_story
none_front shared had = record { told = []; texts = refl; others = []; ids = refl; means = λ later rest. (_, refl) }

-- an entry whose reply wasn't told
pub more_front : (shared : Bool) (had : ℕ → ℕ) (t : Story) (used : List Entry) → HasTold shared had t → HasTold shared had (extended t [] [] used [])
more_front shared had t used h = record {
  told = h.told;
  texts = append-nil t.texts ∙ h.texts;
  others = h.others;
  ids = append-nil t.ids ∙ h.ids;
  means = λ later rest. (let m = h.means later (used ++ rest) in (m.0, ap (λ l. meant shared had t.before t.start (l ++ later) ((t.used ++ used) ++ rest)) (append-nil t.asks) ∙ ap (λ l. meant shared had t.before t.start (t.asks ++ later) l) (append_assoc t.used used rest) ∙ m.1));
}

-- more requests behind them
pub asked_front : (shared : Bool) (had : ℕ → ℕ) (t : Story) (ids : List ℤ) (asks : List Work) → HasTold shared had t → HasTold shared had (extended t ids asks [] [])
asked_front shared had t ids asks h = record {
  told = h.told;
  texts = append-nil t.texts ∙ h.texts;
  others = h.others ++ ids;
  ids = ap (λ l. l ++ ids) h.ids ∙ append_assoc (map (λ r. r.0) h.told) h.others ids;
  means = λ later rest. (let m = h.means (asks ++ later) rest in (m.0, ap (λ l. meant shared had t.before t.start ((t.asks ++ asks) ++ later) (l ++ rest)) (append-nil t.used) ∙ ap (λ l. meant shared had t.before t.start l (t.used ++ rest)) (append_assoc t.asks asks later) ∙ m.1));
}

-- ---- where a stream expires

meant_more : (shared : Bool) (had : ℕ → ℕ) (cs : List Chapter) (start after : Session) (asks later : List Work) (used rest : List Entry)
    → meant shared had (cs ++ record { start = start; asks = asks; used = used } ∷ []) after later rest ≡ meant shared had cs start asks used ++ replies shared had later after rest
meant_more shared had [] start after asks later used rest = refl
meant_more shared had (c ∷ cs) start after asks later used rest =
    ap (λ l. replies shared had c.asks c.start c.used ++ l) (meant_more shared had cs start after asks later used rest)
    ∙ sym (append_assoc (replies shared had c.asks c.start c.used) (meant shared had cs start asks used) (replies shared had later after rest))

-- what the chapter means, where nothing comes behind it
chapter_means : (shared : Bool) (had : ℕ → ℕ) (t : Story) (all : List Reply) → meant shared had t.before t.start (t.asks ++ []) (t.used ++ []) ≡ all → meant shared had t.before t.start t.asks t.used ≡ all
chapter_means shared had t all e = ap (λ l. meant shared had t.before t.start l t.used) (sym (append-nil t.asks)) ∙ ap (λ l. meant shared had t.before t.start (t.asks ++ []) l) (sym (append-nil t.used)) ∙ e

pub expired_front : (shared : Bool) (had : ℕ → ℕ) (t : Story) (after : Session) → HasTold shared had t → HasTold shared had (turned true after t)
expired_front shared had t after h = record {
  told = h.told;
  texts = h.texts;
  others = h.others;
  ids = h.ids;
  means = λ later rest.
      (let m = h.means [] [] in
      let left = replies shared had later after rest in
      (m.0 ++ left, meant_more shared had t.before t.start after t.asks later t.used rest ∙ ap (λ l. l ++ left) (chapter_means shared had t _ m.1) ∙ append_assoc (map (λ r. r.1) h.told) m.0 left));
}

pub expired_tells : (shared : Bool) (had : ℕ → ℕ) (t : Story) (x : Stream) → x.task.asks ≡ [] → Tells shared had t x → Tells shared had (turned true (expired x).task.session t) (expired x)
expired_tells shared had t x idle h = record {
  told = h.told;
  texts = h.texts;
  ids = h.ids;
  means = λ later rest.
      (let after = (expired x).task.session in
      let left = replies shared had later after rest in
      let said = map (λ r. r.1) h.told in
      let all : meant shared had t.before t.start t.asks t.used ≡ said ++ [] = chapter_means shared had t _ (h.means [] []) ∙ ap (λ asks. said ++ replies shared had (asks ++ []) x.task.session []) idle in
      meant_more shared had t.before t.start after t.asks later t.used rest ∙ ap (λ l. l ++ left) (all ∙ append-nil said));
}

-- ---- a stream that opens, and one that is asked

pub fresh_tells : (shared : Bool) (had : ℕ → ℕ) (now c n : ℕ) → Tells shared had no_story (fresh now c n)
fresh_tells shared had now c n = record { told = []; texts = refl; ids = refl; means = λ later rest. refl }

pub asked_tells : (shared : Bool) (had : ℕ → ℕ) (t : Story) (x : Stream) (id : ℤ) (what : Ask) → Tells shared had t x → Tells shared had (extended t (id ∷ []) (option_to_list (work_of what)) [] []) (waiting id what x)
asked_tells shared had t x id what h =
    let ws = option_to_list (work_of what) in
    record {
      told = h.told;
      texts = append-nil t.texts ∙ h.texts;
      ids = ap (λ l. l ++ id ∷ []) h.ids ∙ append_assoc (map (λ r. r.0) h.told) x.waits (id ∷ []);
      means = λ later rest.
          ap (λ l. meant shared had t.before t.start ((t.asks ++ ws) ++ later) (l ++ rest)) (append-nil t.used)
          ∙ ap (λ l. meant shared had t.before t.start l (t.used ++ rest)) (append_assoc t.asks ws later)
          ∙ h.means (ws ++ later) rest
          ∙ ap (λ l. map (λ r. r.1) h.told ++ replies shared had l x.task.session rest) (sym (append_assoc x.task.asks ws later));
    }

-- ---- a poll

-- what it tells
abbrev told_in : List ℤ → Poll Stepped → List (ℤ × Reply)
told_in ids (Ready (stepped.Replied r)) = (first_id ids, r) ∷ []
told_in ids other = []

told_texts : (c : ℕ) (ids : List ℤ) (result : Poll Stepped) → text_in (answer c ids (reply_in result)).out ≡ map answer_text (told_in ids result)
told_texts c ids (Ready (stepped.Replied r)) = refl
told_texts c ids (Ready stepped.Ran) = refl
told_texts c ids (Ready stepped.Idle) = refl
told_texts c ids (Ready stepped.Broke) = refl
told_texts c ids Pending = refl

told_replies : (ids : List ℤ) (result : Poll Stepped) → said_by result ≡ map (λ r. r.1) (told_in ids result)
told_replies ids (Ready (stepped.Replied r)) = refl
told_replies ids (Ready stepped.Ran) = refl
told_replies ids (Ready stepped.Idle) = refl
told_replies ids (Ready stepped.Broke) = refl
told_replies ids Pending = refl

told_ids : (ids : List ℤ) (result : Poll Stepped) → ids ≡ first_id ids ∷ later_ids ids → ids ≡ map (λ r. r.0) (told_in ids result) ++ still_wait (reply_in result) ids
told_ids ids (Ready (stepped.Replied r)) e = e
told_ids ids (Ready stepped.Ran) e = refl
told_ids ids (Ready stepped.Idle) e = refl
told_ids ids (Ready stepped.Broke) e = refl
told_ids ids Pending e = refl

-- a unit that began did so at the version that the poll saw
pub versioned : (had : ℕ → ℕ) (seen : Sees) (e : Option Entry) → All (BeganAt had seen.version) (option_to_list e) → IsVersioned had seen e
versioned had seen None h = tt
versioned had seen (Some (entry.Began unit by)) h = All-head (BeganAt had seen.version) (entry.Began unit by) [] h
versioned had seen (Some e) h = tt

pub polled_tells : TaskMeans → (shared : Bool) (had : ℕ → ℕ) (s : State) (n : ℕ) (x : Stream) (k : Conn) (added : List Entry) (out : Outs) (new : State) (t : Story) → is_waiting x.task.asks ≡ true → Pairs x → All (BeganAt had s.version) added
    → (p : Polled shared s n x.conn x k added out new) → Tells shared had t x → Tells shared had (extended t [] [] added (text_in out.out)) (polled s.now (reply_in p.result) p.task x)
polled_tells law shared had s n x k added out new t waits paired began p h =
    let mine = told_in x.waits p.result in
    let still = still_wait (reply_in p.result) x.waits in
    let before : List ℤ = map (λ r. r.0) h.told in
    let said : List Reply = map (λ r. r.1) h.told in
    let had_seen : IsVersioned had (seen_of p.by s) p.entry = versioned had (seen_of p.by s) p.entry (subst (λ l. All (BeganAt had s.version) l) p.one began) in
    record {
      told = h.told ++ mine;
      texts = ap (λ l. l ++ text_in out.out) h.texts ∙ ap (λ l. map answer_text h.told ++ l) (ap (λ (o : Outs). text_in o.out) p.given ∙ told_texts x.conn x.waits p.result) ∙ sym (map-append answer_text h.told mine);
      ids = append-nil t.ids ∙ h.ids ∙ ap (λ l. before ++ l) (told_ids x.waits p.result (first_waits x.waits x.task.asks waits paired)) ∙ sym (append_assoc before (map (λ r. r.0) mine) still) ∙ ap (λ l. l ++ still) (sym (map-append (λ r. r.0) h.told mine));
      means = λ later rest.
          (let left = replies shared had (p.task.asks ++ later) p.task.session rest in
          ap (λ l. meant shared had t.before t.start (l ++ later) ((t.used ++ added) ++ rest)) (append-nil t.asks)
          ∙ ap (λ l. meant shared had t.before t.start (t.asks ++ later) l) (append_assoc t.used added rest)
          ∙ h.means later (added ++ rest)
          ∙ ap (λ l. said ++ replies shared had (x.task.asks ++ later) x.task.session (l ++ rest)) p.one
          ∙ ap (λ l. said ++ l) (law shared had (seen_of p.by s) x.task p.entry p.result p.task had_seen p.polls p.found later rest)
          ∙ sym (append_assoc said (said_by p.result) left)
          ∙ ap (λ l. l ++ left) (ap (λ l. said ++ l) (told_replies x.waits p.result) ∙ sym (map-append (λ r. r.1) h.told mine)));
    }

-- What calls of the hub add, one after another.
use Rattle.std.proofs.Common.{◌≡◌, ◌≤◌, ◌+◌, ℕ, Bool, List, [], ◌∷◌, ◌++◌, Option, None, Some, IsTrue, option_to_list, append-nil, append_assoc, refl, sym, ap, ◌∙◌, subst, arith, inl, inr}
use Rattle.serial_order.specs.Serial.{Meaning}
use Rattle.hrana_value.specs.declared.StreamNo.{StreamNo}
use Rattle.txn_table.specs.Turns.{Turns}
use Rattle.engine_core.specs.Causes.{RoseBy}
use Rattle.engine_core.specs.Journal.{fault_count}
use Rattle.engine_core.specs.Transactions.{Lives}
use Rattle.engine_core.specs.declared.statement.BoundStmt.{BoundStmt}
use Rattle.engine_core.specs.declared.entries.Answer.{Answer}
use Rattle.engine_core.specs.declared.entries.Answer.TheVariants.{Gave, Refused}
use Rattle.engine_core.specs.declared.entries.Entry.{Entry}
use Rattle.engine_core.specs.declared.entries.Entry.TheVariants as entry
use Rattle.stream_task.specs.Adds.{AddsOne}
use Rattle.stream_task.specs.Effect.{RefusesByCause, RefusalHasCause, faults_by}
use Rattle.stream_task.specs.Leads.{StandsFor, Stands, StartsBy}
use Rattle.stream_task.specs.Together.{States, unit_at}
use Rattle.hrana_hub.specs.State.{Seen, states_of}
use Rattle.hrana_hub.specs.Adds.{Adds, RefuseByCause, LeadsOn}
use Rattle.hrana_hub.specs.Agrees.{HubStands}

-- ---- causes

answers_by : (told : Bool) (a b f g : ℕ) (given : Answer) → g ≤ a → b ≤ f → RefusalHasCause told a b given → RefusalHasCause told g f given
answers_by told a b f g (Gave result) l m h = tt
answers_by told a b f g (Refused code) l m (inl sure) = inl sure
answers_by told a b f g (Refused code) l m (inr rose) = inr (omega (arith, rose))

-- over more calls
refuses_by : (told : Bool) (a b f g : ℕ) (e : Entry) → g ≤ a → b ≤ f → RefusesByCause told a b (Some e) → RefusesByCause told g f (Some e)
refuses_by told a b f g (entry.Alone by stmt given wrote) l m h = answers_by told a b f g given l m h
refuses_by told a b f g (entry.Ran unit stmt given) l m h = answers_by told a b f g given l m h
refuses_by told a b f g (entry.Began unit by) l m h = tt
refuses_by told a b f g (entry.Denied unit why) l m h = tt
refuses_by told a b f g (entry.Ended unit end) l m h = tt
refuses_by told a b f g (entry.Failed by unit cause) l m h = tt

refuse_by : (told : Bool) (a b f g : ℕ) (es : List Entry) → g ≤ a → b ≤ f → RefuseByCause told a b es → RefuseByCause told g f es
refuse_by told a b f g [] l m h = tt
refuse_by told a b f g (e ∷ es) l m h = (refuses_by told a b f g e l m h.0, refuse_by told a b f g es l m h.1)

refuse_both : (told : Bool) (f g : ℕ) (es ds : List Entry) → RefuseByCause told f g es → RefuseByCause told f g ds → RefuseByCause told f g (es ++ ds)
refuse_both told f g [] ds h i = i
refuse_both told f g (e ∷ es) ds h i = (h.0, refuse_both told f g es ds h.1 i)

faults_both : (es ds : List Entry) → fault_count (es ++ ds) ≡ fault_count es + fault_count ds
faults_both [] ds = omega arith
faults_both (e ∷ es) ds = omega (arith, faults_both es ds)

faults_one : (e : Option Entry) → fault_count (option_to_list e) ≡ faults_by e
faults_one None = refl
faults_one (Some e) = omega arith

refuse_one : (told : Bool) (f g : ℕ) (e : Option Entry) → RefusesByCause told f g e → RefuseByCause told f g (option_to_list e)
refuse_one told f g None h = tt
refuse_one told f g (Some e) h = (h, tt)

-- ---- what hub and engine stand for

-- what they stand for rests on these alone
pub record Alike (old new : Seen) : Type 0 where
  pub version : new.turns.version ≡ old.turns.version
  pub next : new.noted.next ≡ old.noted.next
  pub states : (n : ℕ) → states_of new.state.streams n ≡ states_of old.state.streams n

pub alike : (old new : Seen) → new.state.streams ≡ old.state.streams → new.turns ≡ old.turns → new.noted.next ≡ old.noted.next → Alike old new
alike old new streams turns next = record { version = ap (λ (t : Turns). t.version) turns; next = next; states = λ n. ap (λ es. states_of es n) streams }

module _ {D : Type 0} (shared : Bool) (m : Meaning D BoundStmt Answer) (db : D) (live : Lives D) where
  stands_alike : (t t' : Turns) (next next' : ℕ) (states states' : States) → t'.version ≡ t.version → next' ≡ next → ((n : ℕ) → states' n ≡ states n)
      → (first : D) (journal : List Entry) → StandsFor shared m first journal db live t next states → StandsFor shared m first journal db live t' next' states'
  stands_alike t t' next next' states states' version number same first journal h =
      let s : Stands db live t next states h.machine = h.stands in
      record {
        machine = h.machine;
        run = h.run;
        turns = h.turns;
        stands = record {
          database = s.database;
          version = s.version ∙ sym version;
          number = s.number ∙ sym number;
          units = s.units;
          streams = λ unit its e. ap unit_at (same its.stream) ∙ s.streams unit its e;
          starts = λ unit its e. subst (λ v. StartsBy v (states' its.stream) its.start) (sym version) (subst (λ o. StartsBy t.version o its.start) (sym (same its.stream)) (s.starts unit its e));
        };
      }

  pub hub_stands : (old new : Seen) → Alike old new → (first : D) (journal : List Entry) → HubStands shared m first journal db live old → HubStands shared m first journal db live new
  hub_stands old new a first journal h =
      stands_alike old.turns new.turns old.noted.next new.noted.next (states_of old.state.streams) (states_of new.state.streams) a.version a.next a.states first journal h

  -- no entry leads on to where they stood
  pub leads_none : (old new : Seen) → ((first : D) (journal : List Entry) → HubStands shared m first journal db live old → HubStands shared m first journal db live new) → LeadsOn shared m db live db live old new []
  leads_none old new stand first journal h = subst (λ j. HubStands shared m first j db live new) (sym (append-nil journal)) (stand first journal h)

-- ---- what is added

module _ {X D : Type 0} {told shared : Bool} {m : Meaning D BoundStmt Answer} {db : X → D} {live : X → Lives D} {faults : X → ℕ} where
  -- nothing, where they stand for the same
  pub adds_nothing : (engine : X) (old new : Seen) (P : List Entry → Type 0) → new.noted.list ≡ old.noted.list → LeadsOn shared m (db engine) (live engine) (db engine) (live engine) old new [] → P [] → Adds told shared m db live faults engine engine old new P
  adds_nothing engine old new P list leads p = record {
    added = [];
    grew = list ∙ sym (append-nil old.noted.list);
    cause = omega arith;
    refused = tt;
    leads = λ sure. leads;
    holds = p;
  }

  pub adds_none : (engine : X) (old new : Seen) (P : List Entry → Type 0) → new.noted.list ≡ old.noted.list → Alike old new → P [] → Adds told shared m db live faults engine engine old new P
  adds_none engine old new P list same p = adds_nothing engine old new P list (leads_none shared m (db engine) (live engine) old new (hub_stands shared m (db engine) (live engine) old new same)) p

  -- one call after another
  pub adds_on : (engine between engine' : X) (old mid new : Seen) (P Q R : List Entry → Type 0) → faults engine ≤ faults between → faults between ≤ faults engine'
      → Adds told shared m db live faults engine between old mid P → Adds told shared m db live faults between engine' mid new Q → ((a b : List Entry) → P a → Q b → R (a ++ b)) → Adds told shared m db live faults engine engine' old new R
  adds_on engine between engine' old mid new P Q R l n a b both = record {
    added = a.added ++ b.added;
    grew = b.grew ∙ ap (λ es. es ++ b.added) a.grew ∙ append_assoc old.noted.list a.added b.added;
    cause = (let sum = faults_both a.added b.added in omega (arith, a.cause, b.cause, sum));
    refused = refuse_both told (faults engine) (faults engine') a.added b.added (refuse_by told (faults engine) (faults between) (faults engine') (faults engine) a.added (omega arith) n a.refused)
        (refuse_by told (faults between) (faults engine') (faults engine') (faults engine) b.added l (omega arith) b.refused);
    leads = λ sure first journal h.
        subst (λ j. HubStands shared m first j (db engine') (live engine') new) (append_assoc journal a.added b.added) (b.leads sure first (journal ++ a.added) (a.leads sure first journal h));
    holds = both a.added b.added a.holds b.holds;
  }

  -- the same entries, in other words
  pub adds_as : (engine engine' : X) (old new : Seen) (P Q : List Entry → Type 0) → ((a : List Entry) → P a → Q a) → Adds told shared m db live faults engine engine' old new P → Adds told shared m db live faults engine engine' old new Q
  adds_as engine engine' old new P Q more a = record { added = a.added; grew = a.grew; cause = a.cause; refused = a.refused; leads = a.leads; holds = more a.added a.holds }

  -- after what adds nothing
  pub adds_from : (engine engine' : X) (old mid new : Seen) (P Q : List Entry → Type 0) → mid.noted.list ≡ old.noted.list → Alike old mid → ((a : List Entry) → P a → Q a)
      → Adds told shared m db live faults engine engine' mid new P → Adds told shared m db live faults engine engine' old new Q
  adds_from engine engine' old mid new P Q list same more a = record {
    added = a.added;
    grew = a.grew ∙ ap (λ es. es ++ a.added) list;
    cause = a.cause;
    refused = a.refused;
    leads = λ sure first journal h. a.leads sure first journal (hub_stands shared m (db engine) (live engine) old mid same first journal h);
    holds = more a.added a.holds;
  }

  -- before what adds nothing
  pub adds_until : (engine engine' : X) (old mid new : Seen) (P Q : List Entry → Type 0) → new.noted.list ≡ mid.noted.list → Alike mid new → ((a : List Entry) → P a → Q a)
      → Adds told shared m db live faults engine engine' old mid P → Adds told shared m db live faults engine engine' old new Q
  adds_until engine engine' old mid new P Q list same more a = record {
    added = a.added;
    grew = list ∙ a.grew;
    cause = a.cause;
    refused = a.refused;
    leads = λ sure first journal h. hub_stands shared m (db engine') (live engine') mid new same first (journal ++ a.added) (a.leads sure first journal h);
    holds = more a.added a.holds;
  }

  -- the entry of a stream
  pub adds_one : (stream : StreamNo) (engine engine' : X) (t t' : Turns) (old new : Seen) (waits : Bool) (P : Option Entry → Type 0) (Q : List Entry → Type 0) → (a : AddsOne told m db live faults stream engine engine' t t' old.noted new.noted waits P)
      → (IsTrue told → LeadsOn shared m (db engine) (live engine) (db engine') (live engine') old new (option_to_list a.added)) → Q (option_to_list a.added) → Adds told shared m db live faults engine engine' old new Q
  adds_one stream engine engine' t t' old new waits P Q a leads q = record {
    added = option_to_list a.added;
    grew = a.grew;
    cause = subst (λ n. RoseBy n (faults engine) (faults engine')) (sym (faults_one a.added)) a.cause;
    refused = refuse_one told (faults engine) (faults engine') a.added a.refused;
    leads = leads;
    holds = q;
  }

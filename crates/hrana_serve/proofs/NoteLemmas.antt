-- What events add, one after another, and what of it the journal took.
use Rattle.std.proofs.Common.{◌≡◌, ℕ, ◌+◌, Bool, List, [], ◌∷◌, ◌++◌, drop, Option, None, Some, refl, sym, ap, ◌∙◌, subst, arith, append_assoc, append-nil}
use Rattle.std.specs.Prelude.{MatchOption}
use Rattle.serial_order.specs.Serial.{Meaning}
use Rattle.engine_core.specs.Causes.{RoseBy}
use Rattle.engine_core.specs.Journal.{fault_count}
use Rattle.engine_core.specs.Notes.{with_entry}
use Rattle.engine_core.specs.Transactions.{Lives}
use Rattle.engine_core.specs.declared.statement.BoundStmt.{BoundStmt}
use Rattle.engine_core.specs.declared.entries.Answer.{Answer}
use Rattle.engine_core.specs.declared.entries.Entry.{Entry}
use Rattle.hrana_hub.specs.Adds.{Adds}
use Rattle.hrana_hub.specs.Agrees.{HubStands, OnlyTaken, TakingAgrees}
use Rattle.hrana_hub.specs.State.{Seen}
use Rattle.hrana_serve.specs.Notes.{Notes, AddsNoted, with_entries}

-- ---- the journal's list

pub with_none : (held : Option (List Entry)) → held ≡ with_entries held []
with_none None = refl
with_none (Some list) = ap Some (sym (append-nil list))

with_more : (held : Option (List Entry)) (taken : List Entry) (e : Entry) → with_entry (with_entries held taken) e ≡ with_entries held (taken ++ e ∷ [])
with_more None taken e = refl
with_more (Some list) taken e = ap Some (append_assoc list taken (e ∷ []))

with_both : (held : Option (List Entry)) (xs ys : List Entry) → with_entries (with_entries held xs) ys ≡ with_entries held (xs ++ ys)
with_both None xs ys = refl
with_both (Some list) xs ys = ap Some (append_assoc list xs ys)

pub notes_none : (held : Option (List Entry)) (waits : List Entry) → Notes held held waits waits
notes_none held waits = record { taken = []; all = refl; grew = with_none held }

pub notes_as : (held holds : Option (List Entry)) (waited other waits : List Entry) → waited ≡ other → Notes held holds waited waits → Notes held holds other waits
notes_as held holds waited other waits e n = record { taken = n.taken; all = sym e ∙ n.all; grew = n.grew }

-- the first that waits was noted, and taken
notes_more : (held mid holds : Option (List Entry)) (waited before after : List Entry) (first e : Entry) → before ≡ first ∷ drop 1 before → before ≡ e ∷ after → holds ≡ with_entry mid first → Notes held mid waited before → Notes held holds waited after
notes_more held mid holds waited before after first e is took noted n =
    let both : first ∷ drop 1 before ≡ e ∷ after = sym is ∙ took in
    let same : first ≡ e = cc in
    record {
      taken = n.taken ++ e ∷ [];
      all = n.all ∙ ap (λ l. n.taken ++ l) took ∙ sym (append_assoc n.taken (e ∷ []) after);
      grew = noted ∙ ap (λ x. with_entry mid x) same ∙ ap (λ l. with_entry l e) n.grew ∙ with_more held n.taken e;
    }

pub notes_taken : (held mid holds : Option (List Entry)) (waited before after : List Entry) (first : Entry) (result : Option Entry) → before ≡ first ∷ drop 1 before → MatchOption result (before ≡ []) (λ e. before ≡ e ∷ after)
    → holds ≡ with_entry mid first → Notes held mid waited before → Notes held holds waited after
notes_taken held mid holds waited before after first None is took noted n = let no : first ∷ drop 1 before ≡ [] = sym is ∙ took in absurd cc
notes_taken held mid holds waited before after first (Some e) is took noted n = notes_more held mid holds waited before after first e is took noted n

pub notes_then : (held mid holds : Option (List Entry)) (waited between added waits : List Entry) → Notes held mid waited between → Notes mid holds (between ++ added) waits → Notes held holds (waited ++ added) waits
notes_then held mid holds waited between added waits p q = record {
  taken = p.taken ++ q.taken;
  all = ap (λ l. l ++ added) p.all ∙ append_assoc p.taken between added ∙ ap (λ l. p.taken ++ l) q.all ∙ sym (append_assoc p.taken q.taken waits);
  grew = q.grew ∙ ap (λ l. with_entries l q.taken) p.grew ∙ with_both held p.taken q.taken;
}

pub taken_then : (a b c : Seen) → OnlyTaken a b → OnlyTaken b c → OnlyTaken a c
taken_then a b c p q = record { state = q.state ∙ p.state; turns = q.turns ∙ p.turns; store = q.store ∙ p.store; next = q.next ∙ p.next; places = omega (arith, p.places, q.places) }

-- ---- what was added

fault_count-append : (J K : List Entry) → fault_count (J ++ K) ≡ fault_count J + fault_count K
fault_count-append [] K = omega arith
fault_count-append (e ∷ J) K = let h = fault_count-append J K in omega arith

RoseBy-more : (m n a b c : ℕ) → RoseBy m a b → RoseBy n b c → RoseBy (m + n) a c
RoseBy-more m n a b c p q = omega arith

-- what waits at last is the end of what was added behind what waited
pub record IsLeft (waited added waits : List Entry) : Type 0 where
  pub taken : List Entry
  pub all : waited ++ added ≡ taken ++ waits

module _ {X D : Type 0} (told shared : Bool) (m : Meaning D BoundStmt Answer) (db : X → D) (live : X → Lives D) (faults : X → ℕ) where
  -- what the one call added, and then the other
  pub adds_then : (x y z : X) (a b c : Seen) (held mid holds : Option (List Entry)) (P Q R : List Entry → Type 0)
      → AddsNoted told shared m db live faults x y a b held mid P → AddsNoted told shared m db live faults y z b c mid holds Q
      → ((p q : List Entry) → P p → Q q → IsLeft b.noted.list q c.noted.list → R (p ++ q)) → AddsNoted told shared m db live faults x z a c held holds R
  adds_then x y z a b c held mid holds P Q R p q join = record {
    added = p.added ++ q.added;
    notes = notes_as held holds ((a.noted.list ++ p.added) ++ q.added) (a.noted.list ++ (p.added ++ q.added)) c.noted.list (append_assoc a.noted.list p.added q.added)
        (notes_then held mid holds (a.noted.list ++ p.added) b.noted.list q.added c.noted.list p.notes q.notes);
    cause = subst (λ n. RoseBy n (faults x) (faults z)) (sym (fault_count-append p.added q.added)) (RoseBy-more _ _ (faults x) (faults y) (faults z) p.cause q.cause);
    leads = λ t first journal h. subst (λ J. HubStands shared m first J (db z) (live z) c) (append_assoc journal p.added q.added) (q.leads t first (journal ++ p.added) (p.leads t first journal h));
    fact = join p.added q.added p.fact q.fact (record { taken = q.notes.taken; all = q.notes.all });
  }

  -- the same entries, of which another fact holds
  pub adds_as : (x y : X) (a b : Seen) (held holds : Option (List Entry)) (P R : List Entry → Type 0)
      → AddsNoted told shared m db live faults x y a b held holds P → ((added : List Entry) → P added → R added) → AddsNoted told shared m db live faults x y a b held holds R
  adds_as x y a b held holds P R p f = record { added = p.added; notes = p.notes; cause = p.cause; leads = p.leads; fact = f p.added p.fact }

  -- nothing was added
  pub adds_none : (x : X) (a : Seen) (held : Option (List Entry)) (P : List Entry → Type 0) → P [] → AddsNoted told shared m db live faults x x a a held held P
  adds_none x a held P h = record {
    added = [];
    notes = notes_as held held a.noted.list (a.noted.list ++ []) a.noted.list (sym (append-nil a.noted.list)) (notes_none held a.noted.list);
    cause = omega arith;
    leads = λ t first journal stands. subst (λ J. HubStands shared m first J (db x) (live x) a) (sym (append-nil journal)) stands;
    fact = h;
  }

  -- a step, after which nothing was noted
  pub adds_unnoted : (x y : X) (a b : Seen) (held : Option (List Entry)) (P : List Entry → Type 0) → Adds told shared m db live faults x y a b P → AddsNoted told shared m db live faults x y a b held held P
  adds_unnoted x y a b held P p = record {
    added = p.added;
    notes = notes_as held held b.noted.list (a.noted.list ++ p.added) b.noted.list p.grew (notes_none held b.noted.list);
    cause = p.cause;
    leads = p.leads;
    fact = p.holds;
  }

  -- a step, after which the journal took entries
  pub adds_noted : (x y : X) (a b c : Seen) (held holds : Option (List Entry)) (P : List Entry → Type 0) → TakingAgrees told shared m → Adds told shared m db live faults x y a b P
      → Notes held holds b.noted.list c.noted.list → OnlyTaken b c → AddsNoted told shared m db live faults x y a c held holds P
  adds_noted x y a b c held holds P law p n only = record {
    added = p.added;
    notes = notes_as held holds b.noted.list (a.noted.list ++ p.added) c.noted.list p.grew n;
    cause = p.cause;
    leads = λ t first journal h. (law b c (db y) (live y) only).1 first (journal ++ p.added) (p.leads t first journal h);
    fact = p.holds;
  }

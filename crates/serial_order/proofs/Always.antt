-- What every entry of a run keeps, of the state alone and of the state beside its journal.
use Rattle.std.proofs.Common.{◌≡◌, ℕ, suc, ◌+◌, ◌≤◌, Bool, true, List, [], ◌∷◌, Option, Some, None, refl, sym, ap, ◌∙◌, subst, inl, inr, add_assoc, add-zero, arith}
use Rattle.serial_order.specs.Journal.{Entry, Alone, Began, Ran, Denied, Ended, Failed, Commit, ReadOnly, Undone, Txn, commits, units, is_open}
use Rattle.serial_order.specs.Serial.{Meaning, after}
use Rattle.serial_order.specs.Machine.{Live, State, start, IsFree, IsAt, Step, Run}
use Rattle.serial_order.specs.Explained.{begun, begins, IsOpenAnd, database_at, view_of}
use Rattle.serial_order.proofs.Lists.{All-weaken, found}
use Rattle.serial_order.proofs.Fold.{Placed}
use Rattle.serial_order.proofs.Keep.{at_cases, of_live}
use Rattle.serial_order.proofs.Law.{kept_by_run}
use Rattle.serial_order.proofs.Explain.{next, start_reached}
use Rattle.serial_order.proofs.Local.{at_is}
use Rattle.serial_order.proofs.Words.{words}

-- from the next number on no unit is live
abbrev IsFresh : {D : Type 0} → State D → Type 0
IsFresh st = (k : ℕ) → st.next ≤ k → st.live k ≡ None

fresh_same : {D : Type 0} (old new : State D) → new.next ≡ old.next → ((k : ℕ) → new.live k ≡ old.live k) → IsFresh old → IsFresh new
fresh_same old new n l h k w = l k ∙ h k (omega arith)

fresh_at : {D : Type 0} (old new : State D) (u : ℕ) (o : Live D) (r : Option (Live D)) → new.next ≡ old.next → old.live u ≡ Some o → IsAt old new u r → IsFresh old → IsFresh new
fresh_at old new u o r n is a h k w =
    let none = h k (omega arith) in
    a.others k (λ e. let one : None ≡ Some o = sym none ∙ ap old.live e ∙ is in cc) ∙ none

fresh_step : {D S A : Type 0} (m : Meaning D S A) (old : State D) (e : Entry S A) (new : State D) → Step m old e new → IsFresh old → IsFresh new
unfolding words
fresh_step m old (Alone s q a w) new b h = fresh_same old new b.next b.live h
fresh_step m old (Began u s) new b h = λ k l. let n = b.next in let v = b.number in b.live.others k (λ e. omega arith) ∙ h k (omega arith)
fresh_step m old (Ran u q a) new b h = fresh_at old new u b.unit _ b.next b.is b.live h
fresh_step m old (Denied u d) new b h = fresh_same old new b.same.next b.same.live h
fresh_step m old (Ended u Commit) new b h = fresh_at old new u b.unit None b.next b.is b.live h
fresh_step m old (Ended u ReadOnly) new b h = fresh_at old new u b.unit None b.next b.is b.live h
fresh_step m old (Ended u (Undone undo)) new b h = fresh_at old new u b.unit None b.next b.is b.live h
fresh_step m old (Failed s None cause) new b h = fresh_same old new b.same.next b.same.live h
fresh_step m old (Failed s (Some u) cause) new b h = fresh_at old new u b.unit None b.next b.is b.live h

fresh_all : {D S A : Type 0} (m : Meaning D S A) (old : State D) (es : List (Entry S A)) (new : State D) → Run m old es new → IsFresh old → IsFresh new
unfolding words
fresh_all m old [] new r h = subst (λ st. IsFresh st) (sym r) h
fresh_all m old (e ∷ es) new r h = fresh_all m r.0 es new r.2 (fresh_step m old e r.0 r.1 h)

pub fresh_law : {D S A : Type 0} (m : Meaning D S A) (db : D) (es : List (Entry S A)) (end : State D) → Run m (start db) es end → (k : ℕ) → end.next ≤ k → end.live k ≡ None
fresh_law m db es end r = fresh_all m (start db) es end r (λ k l. refl)

-- two live units of one stream are one
abbrev IsOneEach : {D : Type 0} → State D → Type 0
IsOneEach {D} st = (j k : ℕ) (o p : Live D) → st.live j ≡ Some o → st.live k ≡ Some p → o.stream ≡ p.stream → j ≡ k

-- each live unit was live before, on its stream
abbrev WasLive : {D : Type 0} → State D → State D → Type 0
WasLive {D} old new = (k : ℕ) (p : Live D) → new.live k ≡ Some p → (o : Live D) × (old.live k ≡ Some o) × (o.stream ≡ p.stream)

was_same : {D : Type 0} (old new : State D) → ((k : ℕ) → new.live k ≡ old.live k) → WasLive old new
was_same old new l k p e = (p, sym (l k) ∙ e, refl)

was_at : {D : Type 0} (old new : State D) (u : ℕ) (o : Live D) (r : Option (Live D)) → old.live u ≡ Some o → ((p : Live D) → r ≡ Some p → o.stream ≡ p.stream) → IsAt old new u r → WasLive old new
was_at old new u o r is f a k p e = elim (at_cases old new u r k p a e) [ inl w ↦ (o, ap old.live w.0 ∙ is, f p w.1) | inr w ↦ (p, w.1, refl) ]

one_was : {D : Type 0} (old new : State D) → WasLive old new → IsOneEach old → IsOneEach new
one_was old new w h j k o p e f s = let x = w j o e in let y = w k p f in h j k x.0 y.0 x.1 y.1 (x.2 ∙ s ∙ sym y.2)

one_begun : {D : Type 0} (old new : State D) (u s : ℕ) (o : Live D) → o.stream ≡ s → IsFree old s → IsAt old new u (Some o) → IsOneEach old → IsOneEach new
one_begun {D} old new u s o is f a h j k p q e g t = elim (at_cases old new u (Some o) j p a e) [
  | inl x ↦ elim (at_cases old new u (Some o) k q a g) [
    | inl y ↦ x.0 ∙ sym y.0
    | inr y ↦ let same : o ≡ p = cc in absurd (f k q y.1 (sym t ∙ sym (ap (λ (z : Live D). z.stream) same) ∙ is))
  ]
  | inr x ↦ elim (at_cases old new u (Some o) k q a g) [
    | inl y ↦ let same : o ≡ q = cc in absurd (f j p x.1 (t ∙ sym (ap (λ (z : Live D). z.stream) same) ∙ is))
    | inr y ↦ h j k p q x.1 y.1 t
  ]
]

ran_stream : {D : Type 0} (s v : ℕ) (d : D) (w : Bool) (p : Live D) → Some (record { stream = s; start = v; view = d; is_writer = w }) ≡ Some p → s ≡ p.stream
ran_stream {D} s v d w p e = let same : record { stream = s; start = v; view = d; is_writer = w } ≡ p = cc in ap (λ (z : Live D). z.stream) same

one_step : {D S A : Type 0} (m : Meaning D S A) (old : State D) (e : Entry S A) (new : State D) → Step m old e new → IsOneEach old → IsOneEach new
unfolding words
one_step m old (Alone s q a w) new b h = one_was old new (was_same old new b.live) h
one_step m old (Began u s) new b h = one_begun old new u s _ refl b.free b.live h
one_step m old (Ran u q a) new b h = one_was old new (was_at old new u b.unit _ b.is (λ p e. ran_stream _ _ _ _ p e) b.live) h
one_step m old (Denied u d) new b h = one_was old new (was_same old new b.same.live) h
one_step m old (Ended u Commit) new b h = one_was old new (was_at old new u b.unit None b.is (λ p e. cc) b.live) h
one_step m old (Ended u ReadOnly) new b h = one_was old new (was_at old new u b.unit None b.is (λ p e. cc) b.live) h
one_step m old (Ended u (Undone undo)) new b h = one_was old new (was_at old new u b.unit None b.is (λ p e. cc) b.live) h
one_step m old (Failed s None cause) new b h = one_was old new (was_same old new b.same.live) h
one_step m old (Failed s (Some u) cause) new b h = one_was old new (was_at old new u b.unit None b.is (λ p e. cc) b.live) h

one_all : {D S A : Type 0} (m : Meaning D S A) (old : State D) (es : List (Entry S A)) (new : State D) → Run m old es new → IsOneEach old → IsOneEach new
unfolding words
one_all m old [] new r h = subst (λ st. IsOneEach st) (sym r) h
one_all m old (e ∷ es) new r h = one_all m r.0 es new r.2 (one_step m old e r.0 r.1 h)

pub one_unit_law : {D S A : Type 0} (m : Meaning D S A) (db : D) (es : List (Entry S A)) (end : State D) → Run m (start db) es end → (j k : ℕ) (o p : Live D) → end.live j ≡ Some o → end.live k ≡ Some p → o.stream ≡ p.stream → j ≡ k
one_unit_law {D} m db es end r = one_all m (start db) es end r (λ j k o p e. cc)

-- the next number counts the units that began
next_all : {D S A : Type 0} (m : Meaning D S A) (old : State D) (es : List (Entry S A)) (new : State D) → Run m old es new → new.next ≡ old.next + begins es
unfolding words
next_all m old [] new r = ap (λ st. st.next) r ∙ sym (add-zero old.next)
next_all m old (e ∷ es) new r = next_all m r.0 es new r.2 ∙ ap (λ n. n + begins es) (next m old e r.0 r.1) ∙ add_assoc old.next (begun e) (begins es)

pub next_law : {D S A : Type 0} (m : Meaning D S A) (db : D) (es : List (Entry S A)) (end : State D) → Run m (start db) es end → end.next ≡ suc (begins es)
next_law m db es end r = next_all m (start db) es end r ∙ omega arith

pub version_law : {D S A : Type 0} (m : Meaning D S A) (db : D) (es : List (Entry S A)) (end : State D) → Run m (start db) es end → end.version ≡ commits es
version_law m db es end r = (kept_by_run m db es end r).2.version

pub writer_law : {D S A : Type 0} (m : Meaning D S A) (db : D) (es : List (Entry S A)) (end : State D) → Run m (start db) es end → (u : ℕ) (o : Live D) → end.live u ≡ Some o → o.is_writer ≡ true → o.start ≡ end.version
writer_law m db es end r u o i w = let k = (kept_by_run m db es end r).2 in k.writers u o i w ∙ sym k.version

pub one_writer_law : {D S A : Type 0} (m : Meaning D S A) (db : D) (es : List (Entry S A)) (end : State D) → Run m (start db) es end → (j k : ℕ) (o p : Live D) → end.live j ≡ Some o → end.live k ≡ Some p → o.is_writer ≡ true → p.is_writer ≡ true → j ≡ k
one_writer_law m db es end r j k o p e f v w = (kept_by_run m db es end r).2.one j k o p e f v w

pub base_law : {D S A : Type 0} (m : Meaning D S A) (db : D) (es : List (Entry S A)) (end : State D) → Run m (start db) es end → end.db ≡ database_at m db (units es) (commits es)
base_law m db es end r =
    let k = kept_by_run m db es end r in
    k.2.db ∙ subst (λ d. k.0 (commits es) ≡ database_at m d (units es) (commits es)) k.1
    (at_is m k.0 (commits es) (units es) (All-weaken _ _ (units es) (λ t g. g.placed) k.2.each) k.2.once (commits es) (omega arith))

-- a live unit is open in the journal, with its stream, its version and its view
pub view_law : {D S A : Type 0} (m : Meaning D S A) (db : D) (es : List (Entry S A)) (end : State D) → Run m (start db) es end → (u : ℕ) (o : Live D) → end.live u ≡ Some o → IsOpenAnd es u (λ t. (o.stream ≡ t.stream) × (o.start ≡ t.version) × (o.view ≡ view_of m db (units es) t))
unfolding words
view_law {D} {S} {A} m db es end r u o i =
    let k = kept_by_run m db es end r in
    let placed = All-weaken _ (Placed m k.0 (commits es)) (units es) (λ t g. g.placed) k.2.each in
    let here : (v : ℕ) → v ≤ commits es → k.0 v ≡ database_at m db (units es) v = λ v l. subst (λ d. k.0 v ≡ database_at m d (units es) v) k.1 (at_is m k.0 (commits es) (units es) placed k.2.once v l) in
    found (λ (t : Txn S A). (o.stream ≡ t.stream) × (o.start ≡ t.version) × (o.view ≡ view_of m db (units es) t)) (is_open u) (units es)
    (All-weaken _ _ (units es) (λ t g e. let w = of_live m k.0 (commits es) end.live u o t i g e in (w.stream, w.start, w.view ∙ ap (λ d. after m d t.work) (here t.version g.placed.past))) k.2.each)
    (k.2.listed u o i)

pub started_law : {D S A : Type 0} (m : Meaning D S A) (db : D) (es : List (Entry S A)) (end : State D) → Run m (start db) es end → (u : ℕ) (o : Live D) → end.live u ≡ Some o → o.start ≤ end.version
started_law m db es end r u o i = let k = kept_by_run m db es end r in let l = start_reached m k.0 (commits es) (units es) end u o i k.2 in let v = k.2.version in omega arith

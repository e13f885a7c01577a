-- A journal judged entry by entry, with no machine.
use Rattle.std.proofs.Common.{◌≡◌, ◌↔◌, ◌<◌, ℕ, suc, Bool, filter, length, List, [], ◌∷◌, ◌++◌, sym, subst, append_assoc, append-nil}
use Rattle.serial_order.specs.Journal.{Entry, Txn, commits, units}
use Rattle.serial_order.specs.Serial.{Meaning, commits_as, serial}
use Rattle.serial_order.specs.Explained.{begins, Order, Keeps, ExplainedAfter, Explained, LawfulAfter, Lawful, IsAnswer}
use Rattle.serial_order.proofs.Order.{same_units}
use Rattle.serial_order.proofs.Law.{one_commit}
use Rattle.serial_order.proofs.Check.{Sound, sound_at_start, check_law}
use Rattle.serial_order.proofs.Local.{sound_all, entry_law}
use Rattle.serial_order.proofs.Words.{words}

lawful_last : {D S A : Type 0} (m : Meaning D S A) (es rest : List (Entry S A)) (e : Entry S A) → LawfulAfter m es (rest ++ e ∷ []) → LawfulAfter m es rest × Order m (es ++ rest) e × Keeps m (es ++ rest) e
unfolding words
lawful_last m es [] e h = (tt, subst (λ us. Order m us e) (sym (append-nil es)) h.0, subst (λ us. Keeps m us e) (sym (append-nil es)) h.1)
lawful_last m es (x ∷ rest) e h =
    let k = lawful_last m (es ++ x ∷ []) rest e h.2 in
    ((h.0, h.1, k.0), subst (λ us. Order m us e) (append_assoc es (x ∷ []) rest) k.1, subst (λ us. Keeps m us e) (append_assoc es (x ∷ []) rest) k.2)

lawful_push : {D S A : Type 0} (m : Meaning D S A) (es rest : List (Entry S A)) (e : Entry S A) → LawfulAfter m es rest → Order m (es ++ rest) e → Keeps m (es ++ rest) e → LawfulAfter m es (rest ++ e ∷ [])
unfolding words
lawful_push m es [] e h o k = (subst (λ us. Order m us e) (append-nil es) o, subst (λ us. Keeps m us e) (append-nil es) k, tt)
lawful_push m es (x ∷ rest) e h o k =
    (h.0, h.1, lawful_push m (es ++ x ∷ []) rest e h.2 (subst (λ us. Order m us e) (sym (append_assoc es (x ∷ []) rest)) o) (subst (λ us. Keeps m us e) (sym (append_assoc es (x ∷ []) rest)) k))

pub lawful_entry_law : {D S A : Type 0} (m : Meaning D S A) (es : List (Entry S A)) (e : Entry S A) → Lawful m (es ++ e ∷ []) ↔ (Lawful m es × Order m es e × Keeps m es e)
unfolding words
lawful_entry_law m es e = (λ h. lawful_last m [] es e h, λ h. lawful_push m [] es e h.0 h.1 h.2)

explained_front : {D S A : Type 0} (m : Meaning D S A) (db : D) (es rest : List (Entry S A)) (e : Entry S A) → ExplainedAfter m db es (rest ++ e ∷ []) → ExplainedAfter m db es rest
unfolding words
explained_front m db es [] e h = tt
explained_front m db es (x ∷ rest) e h = (h.0, h.1, h.2, explained_front m db (es ++ x ∷ []) rest e h.3)

pub explained_entry_law : {D S A : Type 0} (m : Meaning D S A) (db : D) (es : List (Entry S A)) (e : Entry S A) → Explained m db (es ++ e ∷ []) ↔ (Explained m db es × Order m es e × Keeps m es e × IsAnswer m db es e)
unfolding words
explained_entry_law m db es e = (
  λ h.
      let whole = (check_law m db (es ++ e ∷ [])).0 h in
      let k = lawful_last m [] es e whole.0 in
      let front = explained_front m db [] es e h in
      let before = (check_law m db es).0 front in
      (front, k.1, k.2, (entry_law m db es e before.0 k.1 before.1).0 whole.1),
  λ h.
      let front = (check_law m db es).0 h.0 in
      (check_law m db (es ++ e ∷ [])).1 (lawful_push m [] es e front.0 h.1 h.2, (entry_law m db es e front.0 h.1 front.1).1 h.3),
)

-- in a lawful journal each version is made by one unit, and each unit stands in the serial order as often as in the journal
lawful_sound : {D S A : Type 0} (m : Meaning D S A) (db : D) (es : List (Entry S A)) → Lawful m es → (at : ℕ → D) × Sound m at (commits es) (begins es) (units es)
unfolding words
lawful_sound m db es l = let s = sound_all m (λ k. db) [] es l (sound_at_start m db) in (s.0, s.2)

pub lawful_commit_law : {D S A : Type 0} (m : Meaning D S A) (db : D) (es : List (Entry S A)) → Lawful m es → (v : ℕ) → v < commits es → (t : Txn S A) × (filter (commits_as (suc v)) (units es) ≡ t ∷ []) × (t.version ≡ v)
lawful_commit_law m db es l v w = let s = lawful_sound m db es l in one_commit m s.0 (commits es) (units es) s.1.placed s.1.once v w

pub lawful_units_law : {D S A : Type 0} (m : Meaning D S A) (db : D) (es : List (Entry S A)) → Lawful m es → (p : Txn S A → Bool) → length (filter p (serial es)) ≡ length (filter p (units es))
unfolding words
lawful_units_law m db es l p = let s = lawful_sound m db es l in same_units m s.0 (commits es) (units es) s.1.placed p

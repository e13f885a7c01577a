-- The numbers to which the ids of a connection lead.
use Rattle.std.proofs.Common.{◌≡◌, ◌≢◌, ℕ, ℤ, Bool, true, false, cond, [], ◌∷◌, Some, sym, subst}
use Rattle.std.specs.Ordering.{int_cmp, match_ordering}
use Rattle.std.specs.declared.cmp.Ordering.{Ordering}
use Rattle.std.specs.declared.cmp.Ordering.TheVariants.{Less, Equal, Greater}
use Rattle.std.specs.BTreeMap.{is_at}
use Rattle.hrana_hub.specs.Maps.{Ids, id_at, id_placed, without_id}
use Rattle.hrana_hub.proofs.MapLemmas.{none_some, some_one}

-- each number to which an id leads has P
abbrev pub Lead : (ℕ → Type 0) → Ids → Type 0
Lead P [] = Unit {0}
Lead P (e ∷ es) = P e.1 × Lead P es

-- no two ids lead to one number
abbrev pub Apart : Ids → Type 0
Apart [] = Unit {0}
Apart (e ∷ es) = Lead (λ n. n ≢ e.1) es × Apart es

pub lead_weaker : (P Q : ℕ → Type 0) (ids : Ids) → ((n : ℕ) → P n → Q n) → Lead P ids → Lead Q ids
lead_weaker P Q [] f h = tt
lead_weaker P Q (e ∷ es) f h = (f e.1 h.0, lead_weaker P Q es f h.1)

pub lead_both : (P Q R : ℕ → Type 0) (ids : Ids) → ((n : ℕ) → P n → Q n → R n) → Lead P ids → Lead Q ids → Lead R ids
lead_both P Q R [] f h g = tt
lead_both P Q R (e ∷ es) f h g = (f e.1 h.0 g.0, lead_both P Q R es f h.1 g.1)

pub lead_at : (P : ℕ → Type 0) (id : ℤ) (n : ℕ) (ids : Ids) → Lead P ids → id_at id ids ≡ Some n → P n
lead_at P id n [] h e = absurd (none_some e)
lead_at P id n (x ∷ ids) h e = by (is_at (int_cmp id) x.0) (lead_at P id n ids h.1) e
  where
    by : (b : Bool) → (id_at id ids ≡ Some n → P n) → cond b (Some x.1) (id_at id ids) ≡ Some n → P n
    by true later f = subst P (some_one f) h.0
    by false later f = later f

-- ---- an id is given

pub lead_placed : (P : ℕ → Type 0) (id : ℤ) (n : ℕ) (ids : Ids) → P n → Lead P ids → Lead P (id_placed id n ids)
lead_placed P id n [] p h = (p, tt)
lead_placed P id n (x ∷ ids) p h = by (int_cmp id x.0) (lead_placed P id n ids p h.1)
  where
    by : (o : Ordering) → Lead P (id_placed id n ids) → Lead P (match_ordering o ((id, n) ∷ x ∷ ids) ((x.0, n) ∷ ids) (x ∷ id_placed id n ids))
    by Less later = (p, h)
    by Equal later = (p, h.1)
    by Greater later = (h.0, later)

pub apart_placed : (id : ℤ) (n : ℕ) (ids : Ids) → Lead (λ m. m ≢ n) ids → Apart ids → Apart (id_placed id n ids)
apart_placed id n [] f a = (tt, tt)
apart_placed id n (x ∷ ids) f a = by (int_cmp id x.0) (apart_placed id n ids f.1 a.1)
  where
    by : (o : Ordering) → Apart (id_placed id n ids) → Apart (match_ordering o ((id, n) ∷ x ∷ ids) ((x.0, n) ∷ ids) (x ∷ id_placed id n ids))
    by Less later = (f, a)
    by Equal later = (f.1, a.1)
    by Greater later = (lead_placed (λ m. m ≢ x.1) id n ids (λ e. f.0 (sym e)) a.0, later)

-- ---- an id is freed

pub lead_without : (P : ℕ → Type 0) (id : ℤ) (ids : Ids) → Lead P ids → Lead P (without_id id ids)
lead_without P id [] h = h
lead_without P id (x ∷ ids) h = by (is_at (int_cmp id) x.0) (lead_without P id ids h.1)
  where
    by : (b : Bool) → Lead P (without_id id ids) → Lead P (cond b ids (x ∷ without_id id ids))
    by true later = h.1
    by false later = (h.0, later)

pub apart_without : (id : ℤ) (ids : Ids) → Apart ids → Apart (without_id id ids)
apart_without id [] a = a
apart_without id (x ∷ ids) a = by (is_at (int_cmp id) x.0) (apart_without id ids a.1)
  where
    by : (b : Bool) → Apart (without_id id ids) → Apart (cond b ids (x ∷ without_id id ids))
    by true later = a.1
    by false later = (lead_without (λ n. n ≢ x.1) id ids a.0, later)

-- no other id leads to its number
pub freed : (id : ℤ) (n : ℕ) (ids : Ids) → Apart ids → id_at id ids ≡ Some n → Lead (λ m. m ≢ n) (without_id id ids)
freed id n [] a e = tt
freed id n (x ∷ ids) a e = by (is_at (int_cmp id) x.0) (freed id n ids a.1) e
  where
    by : (b : Bool) → (id_at id ids ≡ Some n → Lead (λ m. m ≢ n) (without_id id ids)) → cond b (Some x.1) (id_at id ids) ≡ Some n → Lead (λ m. m ≢ n) (cond b ids (x ∷ without_id id ids))
    by true later f = subst (λ k. Lead (λ m. m ≢ k) ids) (some_one f) a.0
    by false later f = ((λ same. lead_at (λ m. m ≢ x.1) id n ids a.0 f (sym same)), later f)

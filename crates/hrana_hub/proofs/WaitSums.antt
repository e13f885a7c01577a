-- How many requests of a connection wait, after a change of its streams.
use Rattle.std.proofs.Common.{◌≡◌, ◌≢◌, ◌+◌, ℕ, Bool, true, false, cond, nat_eq, List, [], ◌∷◌, length, Option, None, Some, Contains, refl, sym, ap, ◌∙◌, subst, arith, nat_cmp, eq-eqb, ne_eqb}
use Rattle.std.specs.Ordering.{is_eq, match_ordering}
use Rattle.std.specs.declared.cmp.Ordering.{Ordering}
use Rattle.std.specs.declared.cmp.Ordering.TheVariants.{Less, Equal, Greater}
use Rattle.std.specs.BTreeMap.{is_at}
use Rattle.hrana_hub.specs.Maps.{Numbered, at, put, placed, without}
use Rattle.hrana_hub.specs.State.{Stream}
use Rattle.hrana_hub.specs.Ended.{let_go}
use Rattle.hrana_hub.specs.Laws.{waits_of}
use Rattle.hrana_hub.proofs.EntryLemmas.{at_first, rising_without, without_first, without_unknown}
use Rattle.hrana_hub.proofs.Listed.{contains_here, contains_later, without_cases}
use Rattle.hrana_hub.proofs.MapLemmas.{none_some, some_one, Rises}

-- how many requests of the connection wait on this stream
abbrev pub share : ℕ → Stream → ℕ
share c x = cond (nat_eq x.conn c) (length x.waits) 0

pub share_none : (c : ℕ) (x : Stream) → x.conn ≢ c → share c x ≡ 0
share_none c x other = ap (λ b. cond b (length x.waits) 0) (ne_eqb x.conn c other)

pub share_all : (c : ℕ) (x : Stream) → x.conn ≡ c → share c x ≡ length x.waits
share_all c x own = ap (λ b. cond b (length x.waits) 0) (eq-eqb x.conn c own)

-- where none of its requests waits with an id
pub share_idle : (c : ℕ) (x : Stream) → x.waits ≡ [] → share c x ≡ 0
share_idle c x idle = ap (λ ids. cond (nat_eq x.conn c) (length ids) 0) idle ∙ by (nat_eq x.conn c)
  where
    by : (b : Bool) → ◌≡◌ {A = ℕ} (cond b 0 0) 0
    by true = refl
    by false = refl

pub sum_put : (c n : ℕ) (x y : Stream) (es : Numbered Stream) → at n es ≡ Some x → waits_of c (put n y es) + share c x ≡ waits_of c es + share c y
sum_put c n x y [] f = absurd (none_some f)
sum_put c n x y (e ∷ es) f = by (is_at (nat_cmp n) e.0) (sum_put c n x y es) f
  where
    by : (b : Bool) → (at n es ≡ Some x → waits_of c (put n y es) + share c x ≡ waits_of c es + share c y) → cond b (Some e.1) (at n es) ≡ Some x
        → waits_of c (cond b ((e.0, y) ∷ es) (e ∷ put n y es)) + share c x ≡ waits_of c (e ∷ es) + share c y
    by true later g = (let same : share c e.1 ≡ share c x = ap (share c) (some_one g) in omega (arith, same))
    by false later g = omega (arith, later g)

pub sum_without : (c n : ℕ) (x : Stream) (es : Numbered Stream) → at n es ≡ Some x → waits_of c (without n es) + share c x ≡ waits_of c es
sum_without c n x [] f = absurd (none_some f)
sum_without c n x (e ∷ es) f = by (is_at (nat_cmp n) e.0) (sum_without c n x es) f
  where
    by : (b : Bool) → (at n es ≡ Some x → waits_of c (without n es) + share c x ≡ waits_of c es) → cond b (Some e.1) (at n es) ≡ Some x
        → waits_of c (cond b es (e ∷ without n es)) + share c x ≡ waits_of c (e ∷ es)
    by true later g = (let same : share c e.1 ≡ share c x = ap (share c) (some_one g) in omega (arith, same))
    by false later g = omega (arith, later g)

pub sum_placed : (c n : ℕ) (y : Stream) (es : Numbered Stream) → at n es ≡ None → waits_of c (placed n y es) ≡ waits_of c es + share c y
sum_placed c n y [] f = omega arith
sum_placed c n y (e ∷ es) f = by (nat_cmp n e.0) (sum_placed c n y es) f
  where
    by : (o : Ordering) → (at n es ≡ None → waits_of c (placed n y es) ≡ waits_of c es + share c y) → cond (is_eq o) (Some e.1) (at n es) ≡ None
        → waits_of c (match_ordering o ((n, y) ∷ e ∷ es) ((e.0, y) ∷ es) (e ∷ placed n y es)) ≡ waits_of c (e ∷ es) + share c y
    by Less later g = omega arith
    by Equal later g = absurd (none_some (sym g))
    by Greater later g = omega (arith, later g)

-- where none of its requests waits on any stream
pub sum_none : (c : ℕ) (es : Numbered Stream) → Rises es → ((n : ℕ) (x : Stream) → at n es ≡ Some x → share c x ≡ 0) → waits_of c es ≡ 0
sum_none c [] r h = refl
sum_none c (e ∷ es) r h =
    let rest : without e.0 (e ∷ es) ≡ es = without_first e es in
    let rises : Rises es = subst (λ (fs : Numbered Stream). Rises fs) rest (rising_without e.0 (e ∷ es) r) in
    let later : waits_of c es ≡ 0 = sum_none c es rises (λ n x f. h n x (without_cases e.0 n x (e ∷ es) r (ap (λ fs. at n fs) rest ∙ f)).1) in
    omega (arith, later, h e.0 e.1 (at_first e es))

-- streams of other connections are let go of
pub sum_let_go : (c : ℕ) (ns : List ℕ) (es : Numbered Stream) → Rises es → ((n : ℕ) → Contains ns n → (x : Stream) → at n es ≡ Some x → x.conn ≢ c) → waits_of c (let_go ns es) ≡ waits_of c es
sum_let_go c [] es r h = refl
sum_let_go c (n ∷ ns) es r h =
    sum_let_go c ns (without n es) (rising_without n es r) (λ m i x f. h m (contains_later n m ns i) x (without_cases n m x es r f).1)
    ∙ by (at n es) refl
  where
    by : (o : Option Stream) → at n es ≡ o → waits_of c (without n es) ≡ waits_of c es
    by None f = ap (λ fs. waits_of c fs) (without_unknown n es f)
    by (Some x) f = omega (arith, sum_without c n x es f, share_none c x (h n (contains_here n ns) x f))

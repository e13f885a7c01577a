-- How many streams of exchanges there are, after a change of the streams.
use Rattle.std.proofs.Common.{◌≡◌, ◌≤◌, ◌+◌, ℕ, Bool, true, false, cond, List, [], ◌∷◌, None, Some, sym, ap, arith, nat_cmp}
use Rattle.std.specs.Ordering.{is_eq, match_ordering}
use Rattle.std.specs.declared.cmp.Ordering.{Ordering}
use Rattle.std.specs.declared.cmp.Ordering.TheVariants.{Less, Equal, Greater}
use Rattle.std.specs.BTreeMap.{is_at}
use Rattle.hrana_hub.specs.Maps.{Numbered, at, put, placed, without}
use Rattle.hrana_hub.specs.State.{Stream, of_exchanges}
use Rattle.hrana_hub.specs.Ended.{let_go}
use Rattle.hrana_hub.specs.Exchanges.{sessions_in}
use Rattle.hrana_hub.specs.Summaries.{session_of}
use Rattle.hrana_hub.proofs.MapLemmas.{none_some, some_one}

-- 1 for a stream of exchanges
abbrev one_if : Bool → ℕ
one_if b = cond b 1 0

-- what stands at the number has become this
pub sessions_changed : (n : ℕ) (x y : Stream) (es : Numbered Stream) → at n es ≡ Some x → sessions_in (put n y es) + one_if (of_exchanges x) ≡ sessions_in es + one_if (of_exchanges y)
sessions_changed n x y [] f = absurd (none_some f)
sessions_changed n x y (e ∷ es) f = by (is_at (nat_cmp n) e.0) (λ g. sessions_changed n x y es g) f
  where
    by : (b : Bool) → (at n es ≡ Some x → sessions_in (put n y es) + one_if (of_exchanges x) ≡ sessions_in es + one_if (of_exchanges y)) → cond b (Some e.1) (at n es) ≡ Some x
        → sessions_in (cond b ((e.0, y) ∷ es) (e ∷ put n y es)) + one_if (of_exchanges x) ≡ sessions_in (e ∷ es) + one_if (of_exchanges y)
    by true later g = (let own = ap (λ (z : Stream). one_if (of_exchanges z)) (some_one g) in omega (arith, own))
    by false later g = omega (arith, later g)

pub sessions_put : (n : ℕ) (x y : Stream) (es : Numbered Stream) → at n es ≡ Some x → of_exchanges y ≡ of_exchanges x → sessions_in (put n y es) ≡ sessions_in es
sessions_put n x y es f same = (let own = ap one_if same in omega (arith, own, sessions_changed n x y es f))

-- nothing stands at it any more
pub sessions_gone : (n : ℕ) (es : Numbered Stream) → sessions_in (without n es) + session_of (at n es) ≡ sessions_in es
sessions_gone n [] = omega arith
sessions_gone n (e ∷ es) = by (is_at (nat_cmp n) e.0) (sessions_gone n es)
  where
    by : (b : Bool) → sessions_in (without n es) + session_of (at n es) ≡ sessions_in es → sessions_in (cond b es (e ∷ without n es)) + session_of (cond b (Some e.1) (at n es)) ≡ sessions_in (e ∷ es)
    by true later = omega arith
    by false later = omega (arith, later)

pub sessions_without : (n : ℕ) (es : Numbered Stream) → sessions_in (without n es) ≤ sessions_in es
sessions_without n es = omega (arith, sessions_gone n es)

pub sessions_placed : (n : ℕ) (y : Stream) (es : Numbered Stream) → at n es ≡ None → sessions_in (placed n y es) ≡ sessions_in es + one_if (of_exchanges y)
sessions_placed n y [] f = omega arith
sessions_placed n y (e ∷ es) f = by (nat_cmp n e.0) (sessions_placed n y es) f
  where
    by : (o : Ordering) → (at n es ≡ None → sessions_in (placed n y es) ≡ sessions_in es + one_if (of_exchanges y)) → cond (is_eq o) (Some e.1) (at n es) ≡ None
        → sessions_in (match_ordering o ((n, y) ∷ e ∷ es) ((e.0, y) ∷ es) (e ∷ placed n y es)) ≡ sessions_in (e ∷ es) + one_if (of_exchanges y)
    by Less later g = omega arith
    by Equal later g = absurd (none_some (sym g))
    by Greater later g = omega (arith, later g)

pub sessions_let_go : (ns : List ℕ) (es : Numbered Stream) → sessions_in (let_go ns es) ≤ sessions_in es
sessions_let_go [] es = omega arith
sessions_let_go (n ∷ ns) es = omega (arith, sessions_let_go ns (without n es), sessions_without n es)

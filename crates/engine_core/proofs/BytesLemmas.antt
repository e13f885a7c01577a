-- Lemmas on what writes do to a sink's bytes.
use Rattle.std.proofs.Common.{ℕ, ◌+◌, List, Option, subst, sym, take, drop, take-append-drop, length, length-drop, arith, ◌-◌, ◌≤◌}
use Rattle.std.proofs.Math.Seq.{take-add}
use Rattle.std.proofs.lemmas.List.{take_rest}
use Rattle.std.proofs.KnownBytes.{Appends-trans, Appends-kept}
use Rattle.std.specs.Io.KnownBytes.{Appends, Keeps}
use Rattle.engine_core.specs.Bytes.{AppendsFront}

-- the next m bytes went out after the first n, from the slice `&xs[n..]`
pub Appends-take_more : (a b c : Option (List ℕ)) (xs : List ℕ) (n m : ℕ) → Appends a b (take n xs) → Appends b c (take m (take (length xs - n) (drop n xs)))
    → Appends a c (take (n + m) xs)
Appends-take_more a b c xs n m p q =
    subst (Appends a c) (sym (take-add n m xs)) (Appends-trans a b c _ _ p (subst (λ l. Appends b c (take m l)) (take_rest xs n) q))

pub within_rest : (xs : List ℕ) (n m : ℕ) → n ≤ length xs → m ≤ length (take (length xs - n) (drop n xs)) → n + m ≤ length xs
within_rest xs n m p q = let h = simp (take_rest, length-drop) at q in omega arith

-- the first n bytes went out, and then no more
pub AppendsFront-take : (a b c : Option (List ℕ)) (xs : List ℕ) (n : ℕ) → Appends a b (take n xs) → Keeps b c → AppendsFront a c xs
AppendsFront-take a b c xs n p q =
    record { front = take n xs; is_front = record { rest = drop n xs; whole = sym (take-append-drop n xs) }; written = Appends-kept a b c _ p q }

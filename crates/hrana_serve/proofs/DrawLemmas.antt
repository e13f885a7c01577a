-- What calls draw from the tokens, one after another.
use Rattle.std.proofs.Common.{◌≡◌, ◌≤◌, ◌+◌, ◌^◌, ℕ, List, [], ◌∷◌, ◌++◌, length, length-append, Option, Some, sym, ap, ◌∙◌, subst, arith, append-nil, append_assoc}
use Rattle.engine_core.specs.Causes.{RoseBy}
use Rattle.engine_core.specs.Draws.{Draw}
use Rattle.hrana_hub.specs.Batons.{all_failures}
use Rattle.hrana_hub.specs.Drawn.{DrawsFrom, failures}
use Rattle.hrana_serve.specs.Replay.{join}

failures-append : (c d : List Draw) → failures (c ++ d) ≡ failures c + failures d
failures-append [] d = omega arith
failures-append (draw ∷ c) d = let h = failures-append c d in omega (arith, h)

rose_more : (m n a b c : ℕ) → RoseBy m a b → RoseBy n b c → RoseBy (m + n) a c
rose_more m n a b c p q = omega arith

pub rose_less : (m n a b : ℕ) → m ≤ n → RoseBy n a b → RoseBy m a b
rose_less m n a b l p = omega arith

-- the failures of each event, and those of all
pub failures_joined : (drawn : List (List Draw)) → failures (join drawn) ≡ all_failures drawn
failures_joined [] = omega arith
failures_joined (draws ∷ drawn) = failures-append draws (join drawn) ∙ ap (λ n. failures draws + n) (failures_joined drawn)

module _ {T : Type 0} (drawn : T → Option (List Draw)) (faults : T → ℕ) where
  -- nothing is drawn
  pub draws_none : (tokens : T) (P : List Draw → Type 0) → P [] → DrawsFrom drawn faults tokens tokens P
  draws_none tokens P p = record { draws = []; told = λ before e few. e ∙ ap Some (sym (append-nil before)); cause = omega arith; holds = p }

  -- the same draws, of which another fact holds
  pub draws_as : (tokens tokens' : T) (P Q : List Draw → Type 0) → DrawsFrom drawn faults tokens tokens' P → ((draws : List Draw) → P draws → Q draws) → DrawsFrom drawn faults tokens tokens' Q
  draws_as tokens tokens' P Q d f = record { draws = d.draws; told = d.told; cause = d.cause; holds = f d.draws d.holds }

  -- what the one call drew, and then the other
  pub draws_then : (t u v : T) (P Q R : List Draw → Type 0) → DrawsFrom drawn faults t u P → DrawsFrom drawn faults u v Q → ((c d : List Draw) → P c → Q d → R (c ++ d)) → DrawsFrom drawn faults t v R
  draws_then t u v P Q R p q join = record {
    draws = p.draws ++ q.draws;
    told = λ before e few.
        (let both = length-append p.draws q.draws in
        let first : length before + length p.draws ≤ 2 ^ 63 = omega (arith, few, both) in
        let second : length (before ++ p.draws) + length q.draws ≤ 2 ^ 63 = omega (arith, few, both, length-append before p.draws) in
        q.told (before ++ p.draws) (p.told before e first) second ∙ ap Some (append_assoc before p.draws q.draws));
    cause = subst (λ n. RoseBy n (faults t) (faults v)) (sym (failures-append p.draws q.draws)) (rose_more _ _ (faults t) (faults u) (faults v) p.cause q.cause);
    holds = join p.draws q.draws p.holds q.holds;
  }

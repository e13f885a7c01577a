-- Lemmas on what tokens and clocks in memory tell.
use Rattle.std.proofs.Common.{◌≡◌, ℕ, ◌+◌, ◌-◌, ◌^◌, ◌<◌, min, Bool, true, false, cond, eqb, List, [], ◌∷◌, ◌++◌, map, length, Some, sym, ap, subst, ◌∙◌, arith}
use Rattle.std.specs.Prelude.{Contains}
use Rattle.std.specs.List.{list_any, range_with_len}
use Rattle.std.proofs.lemmas.Bool.{eq-eqb, eqb-true, false_from_ne_true}
use Rattle.std.proofs.lemmas.List.Folds.{list_any_at}
use Rattle.std.proofs.lemmas.List.FromFn.{map-range_with_len_more, length-map-range_with_len}
use Rattle.std.proofs.lemmas.Map.Views.{Contains-from_any}
use Rattle.engine_core.specs.Draws.{Draw, words, failed, draw_at, draws_of}
use Rattle.engine_core.specs.Listed.{Listed, FailsAsListed}

-- what was told are the values of a function at n numbers in a row, and one more of them is told
pub told_more : {X : Type 0} (f : ℕ → X) (a n j next : ℕ) (x : X) → a + n ≡ j → next ≡ min (n + 1) (2 ^ 64 - 1) → (n < 2 ^ 63 → f j ≡ x) → (told : List X)
    → Some (map f (range_with_len a n)) ≡ Some told → length told < 2 ^ 63 → Some (map f (range_with_len a next)) ≡ Some (told ++ x ∷ [])
told_more f a n j next x place counted value told same small =
    let is_told : map f (range_with_len a n) ≡ told = cc in
    let few : n < 2 ^ 63 = subst (λ k. k < 2 ^ 63) (sym (ap length is_told) ∙ length-map-range_with_len f a n) small in
    let is_next : next ≡ n + 1 = omega arith in
    let more : map f (range_with_len a (n + 1)) ≡ map f (range_with_len a n) ++ f j ∷ [] = map-range_with_len_more f a n j place in
    ap (λ l. Some l) (ap (λ k. map f (range_with_len a k)) is_next ∙ more ∙ ap (λ l. l ++ f j ∷ []) is_told ∙ ap (λ y. told ++ y ∷ []) (value few))

draw_at-listed : (fail_at : List ℕ) (number : ℕ) → Contains fail_at number → draw_at fail_at number ≡ failed
draw_at-listed fail_at number listed =
    ap (λ b. cond b failed (words (0 ∷ 0 ∷ []))) (list_any_at (eqb number) fail_at listed.0 number listed.1 (eq-eqb number _ (sym listed.2)))

draw_at-other : (fail_at : List ℕ) (number : ℕ) → (Contains fail_at number → ⊥) → draw_at fail_at number ≡ words (0 ∷ 0 ∷ [])
draw_at-other fail_at number other =
    ap (λ b. cond b failed (words (0 ∷ 0 ∷ []))) (false_from_ne_true (list_any (eqb number) fail_at) (λ any. other (Contains-from_any {eq = eqb} eqb-true number fail_at any)))

next_number : (calls : ℕ) → calls < 2 ^ 63 → min (calls + 1) (2 ^ 64 - 1) ≡ calls + 1
next_number calls few = omega arith

-- tokens in memory tell the draw of a call that is listed, and of another
told_draw : (old new : Listed) (fails : Bool) (draw : Draw) → FailsAsListed old new fails → (old.calls < 2 ^ 63 → draw_at old.fail_at (old.calls + 1) ≡ draw) → (draws : List Draw)
    → Some (draws_of old) ≡ Some draws → length draws < 2 ^ 63 → Some (draws_of new) ≡ Some (draws ++ draw ∷ [])
told_draw old new fails draw call value draws same small =
    subst (λ fail_at. Some (map (draw_at fail_at) (range_with_len 1 new.calls)) ≡ Some (draws ++ draw ∷ [])) (sym call.same)
    (told_more (draw_at old.fail_at) 1 old.calls (old.calls + 1) new.calls draw (omega arith) call.counted value draws same small)

pub told_failed : (old new : Listed) (fails : Bool) → FailsAsListed old new fails → fails ≡ true → (draws : List Draw) → Some (draws_of old) ≡ Some draws → length draws < 2 ^ 63
    → Some (draws_of new) ≡ Some (draws ++ failed ∷ [])
told_failed old new fails call is_true = told_draw old new fails failed call
    (λ few. draw_at-listed old.fail_at (old.calls + 1) (subst (λ k. Contains old.fail_at k) (next_number old.calls few) (call.exact.0 is_true)))

pub told_words : (old new : Listed) (fails : Bool) → FailsAsListed old new fails → fails ≡ false → (draws : List Draw) → Some (draws_of old) ≡ Some draws → length draws < 2 ^ 63
    → Some (draws_of new) ≡ Some (draws ++ words (0 ∷ 0 ∷ []) ∷ [])
told_words old new fails call is_false = told_draw old new fails (words (0 ∷ 0 ∷ [])) call
    (λ few. draw_at-other old.fail_at (old.calls + 1) (λ listed. let is_true : fails ≡ true = call.exact.1 (subst (λ k. Contains old.fail_at k) (sym (next_number old.calls few)) listed) in cc))

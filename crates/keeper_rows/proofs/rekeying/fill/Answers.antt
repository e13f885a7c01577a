use Rattle.std.proofs.Common.{◌≡◌, ◌∙◌, ℕ, ◌+◌, ◌&&◌, ◌||◌, cond, length, true, false, not, is_some, Some, refl, sym, ap, subst, arith, ⊎_elim}
use Rattle.std.proofs.lemmas.Bool.{cases_lt}
use Rattle.hrana_value.specs.declared.value.Value.{Value}
use Rattle.keeper_formulas.specs.Values.{value_at, is_null, is_equal}
use Rattle.keeper_rows.specs.Keys.{rowid_of_key, HasKeys, stay, changed_up_to}
use Rattle.keeper_rows.proofs.RekeyLemmas.{fills_start, fills_one, sound_when_free}
use Rattle.keeper_rows.proofs.rekeying.fill.Goals as goal

pub loop-number-init : goal.loop-number-init
loop-number-init c = record {
  filled = λ from old new moves has. fills_start c.args.index.now c.args.index.now.column from c.args.olds.now c.args.news.now old new moves has;
  sound = λ from old new moves i less. absurd (omega (arith, less));
  column = refl;
}

pub loop-number-preserved : goal.loop-number-preserved
loop-number-preserved c =
    let index = c.loop-number.index in
    let next = c.fill_row.new.index in
    let i = c.loop-number.number in
    let was = c.index-olds-number.result in
    let is = c.index-news-number.result in
    let column = c.args.index.now.column in
    let same = c.loop-number.invariant.column in
    let free = subst (λ (k : ℕ). true ≡ (is_equal (value_at is.values k) (value_at was.values k) || not (is_null (value_at is.values k) || is_some (rowid_of_key index (value_at is.values k))))) same (sym c.if-not-branch.false ∙ c.in_ok-fill_row.ensures.free) in
    let puts = subst (λ (k : ℕ). (key : Value) → rowid_of_key next key ≡ cond (not (is_equal (value_at is.values k) (value_at was.values k)) && is_equal (value_at is.values k) key) (Some is.rowid) (rowid_of_key index key)) same (c.in_ok-fill_row.ensures.fills c.if-not-branch.false) in
    record {
      filled = λ from old new moves has.
          let e : (from + i) + 1 ≡ from + (i + 1) = omega arith in
          subst (λ n. HasKeys next (changed_up_to n (λ q. stay (old q) (new q)) new)) e
          (fills_one index next old new (from + i) is.rowid (value_at was.values column) (value_at is.values column) (moves.was i was (omega arith) c.index-olds-number.is) (moves.is i is (omega arith) c.index-news-number.is) free puts (c.loop-number.invariant.filled from old new moves has));
      sound = λ from old new moves j less.
          ⊎_elim
          (λ before. c.loop-number.invariant.sound from old new moves j before)
          (λ most.
          let e : i ≡ j = omega (arith, less, most) in
          subst (λ n. is_null (new (from + n)) ≡ false) e (ap is_null (moves.is i is (omega arith) c.index-news-number.is) ∙ sound_when_free (value_at was.values column) (value_at is.values column) (is_some (rowid_of_key index (value_at is.values column))) free))
          (cases_lt j i);
      column = c.in_ok-fill_row.ensures.column ∙ same;
    }

pub returns-clause-fills : goal.returns-clause-fills
returns-clause-fills c = λ from old new moves has.
    let e : c.loop-number.number ≡ length c.args.olds.now = let most = c.loop-number-test.false in let least = c.loop-number.auto.number-end in omega (arith, most, least) in
    subst (λ n. HasKeys c.loop-number.index (changed_up_to (from + n) (λ q. stay (old q) (new q)) new)) e (c.loop-number.invariant.filled from old new moves has)

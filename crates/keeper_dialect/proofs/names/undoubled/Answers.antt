use Rattle.std.proofs.Common.{◌≡◌, [], ◌+◌, ◌++◌, length, get_or, ap, sym, ◌∙◌, subst, arith, true, false, string_bytes, ◌<◌, ◌≤◌}
use Rattle.std.specs.Prelude.{◌==◌, ◌&&◌}
use Rattle.std.specs.Str.{IsCharBoundary}
use Rattle.std.proofs.lemmas.Str.{IsCharBoundary-start}
use Rattle.keeper_dialect.specs.Terms.{undoubled}
use Rattle.keeper_dialect.proofs.NameLemmas.{doubled_step, single_step, quote_ends, both_quotes, last_step}
use Rattle.keeper_dialect.proofs.names.undoubled.Goals as goal

pub loop-at-init : goal.loop-at-init
loop-at-init c = record {
  single = ap (λ bytes. bytes ++ [] ++ undoubled c.args.quote c.args.text.now) c.new-single.ensures.bytes;
  same = c.as_bytes-bytes.ensures.value;
  order = omega arith;
  within = omega arith;
  between = IsCharBoundary-start c.args.text.now c.utf8.text;
}

pub loop-at-preserved-then-is_doubled : goal.loop-at-preserved-then-is_doubled
loop-at-preserved-then-is_doubled c =
    let same = c.loop-at.invariant.same in
    let within : c.loop-at.at + 1 < length c.args.text.now = omega (arith, ap length same, c.loop-at-test.true) in
    let test : (get_or c.args.text.now c.loop-at.at 0 == c.args.quote && get_or c.args.text.now (c.loop-at.at + 1) 0 == c.args.quote) ≡ true = ap (λ t. get_or t c.loop-at.at 0 == c.args.quote && get_or t (c.loop-at.at + 1) 0 == c.args.quote) (sym same) ∙ sym c.is_doubled.ensures ∙ c.if-is_doubled.true in
    let quotes = both_quotes c.args.quote (get_or c.args.text.now c.loop-at.at 0) (get_or c.args.text.now (c.loop-at.at + 1) 0) test in
    let two : c.loop-at.at + 1 + 1 ≡ c.loop-at.at + 2 = omega arith in
    record {
      single = doubled_step c.args.quote c.args.text.now c.loop-at.from c.loop-at.at (string_bytes c.loop-at.single) (string_bytes c.push_str.new.self) (undoubled c.args.quote c.args.text.now) c.loop-at.invariant.order within test (c.in_ok-push_str.ensures.bytes ∙ ap (λ ys. string_bytes c.loop-at.single ++ ys) c.range.ensures.value) c.loop-at.invariant.single;
      same = same;
      order = omega arith;
      within = omega arith;
      between = subst (IsCharBoundary c.args.text.now) two (quote_ends c.args.quote c.args.text.now (c.loop-at.at + 1) c.utf8.text c.requires within quotes.1);
    }

pub loop-at-preserved : goal.loop-at-preserved
loop-at-preserved c =
    let same = c.loop-at.invariant.same in
    let within : c.loop-at.at + 1 < length c.args.text.now = omega (arith, ap length same, c.loop-at-test.true) in
    let test : (get_or c.args.text.now c.loop-at.at 0 == c.args.quote && get_or c.args.text.now (c.loop-at.at + 1) 0 == c.args.quote) ≡ false = ap (λ t. get_or t c.loop-at.at 0 == c.args.quote && get_or t (c.loop-at.at + 1) 0 == c.args.quote) (sym same) ∙ sym c.is_doubled.ensures ∙ c.if-is_doubled.false in
    record {
      single = single_step c.args.quote c.args.text.now c.loop-at.from c.loop-at.at (string_bytes c.loop-at.single) (undoubled c.args.quote c.args.text.now) c.loop-at.invariant.order within test c.loop-at.invariant.single;
      same = same;
      order = omega (arith, c.loop-at.invariant.order);
      within = omega arith;
      between = c.loop-at.invariant.between;
    }

pub returns : goal.returns
returns c =
    let short : length c.args.text.now ≤ c.loop-at.at + 1 = omega (arith, ap length c.loop-at.invariant.same, c.loop-at-test.false) in
    let order = c.loop-at.invariant.order in
    c.from_string.ensures ∙ c.in_ok-push_str-2.ensures.bytes ∙ last_step c.args.quote c.args.text.now c.loop-at.from c.loop-at.at (string_bytes c.loop-at.single) _ _ order short c.range_from.ensures.value c.loop-at.invariant.single

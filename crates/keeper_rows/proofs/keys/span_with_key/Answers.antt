use Rattle.std.proofs.Common.{is_some, refl, sym, ap, ◌∙◌}
use Rattle.keeper_rows.proofs.IndexLemmas.{encloses_none, encloses_one}
use Rattle.keeper_rows.proofs.keys.span_with_key.Goals as goal

pub returns-in_default : goal.returns-in_default
returns-in_default c =
    encloses_none c.args.index.now c.args.index.now.column c.args.rows.now c.args.key.now _ c.requires (ap is_some (sym c.get.ensures ∙ c.in_default.is)) refl refl

pub returns-then-is_keyed : goal.returns-then-is_keyed
returns-then-is_keyed c =
    encloses_one c.args.index.now c.args.index.now.column c.args.rows.now c.args.key.now c.in-Some-place_of_rowid.place c.one_place.result c.requires (sym c.is_keyed.ensures ∙ c.if-is_keyed.true) c.one_place.ensures.from c.one_place.ensures.to

use Rattle.std.proofs.Common.{◌≡◌, ◌∙◌, sym, ap, not}
use Rattle.std.specs.Prelude.{false, true}
use Rattle.std.proofs.lemmas.Bool.{cond-true, cond-false}
use Rattle.sql_text.specs.Parameters.{has_number, numbered, inserted}
use Rattle.sql_text.proofs.ParameterLemmas.{table_has, table_more, kept_more}
use Rattle.sql_text.proofs.parameter_table.ParameterTable.add.Goals as goal
use Rattle.sql_text.proofs.parameter_table.ParameterTable.add.Goals.{After-is_empty}

-- whether the number came before
occurs : (c : After-is_empty) → not c.is_empty.result ≡ has_number c.args.self.now c.args.number
occurs c = ap not c.is_empty.ensures ∙ table_has c.self.inside.texts c.args.number c.from-place.result _ c.from-place.ensures c.self.told c.requires.small ∙ ap (λ ps. has_number ps c.args.number) c.self.view_is

pub invariant_of-self : goal.invariant_of-self
invariant_of-self c = kept_more c.self.inside.texts c.args.number c.from-place.result _ c.from-place.ensures c.self.told c.requires.small c.self.inside.greatest c.max-self-inside.result c.self.inside.are_named c.args.text c.self.invariant c.max-self-inside.ensures (sym c.is_empty.ensures ∙ c.if-is_empty.true) c.requires.some

pub returns-then-is_empty : goal.returns-then-is_empty
returns-then-is_empty c =
    let new : has_number c.args.self.now c.args.number ≡ false = sym (occurs (goal.at.returns-then-is_empty c).After-is_empty) ∙ ap not c.if-is_empty.true in
    table_more c.self.inside.texts c.args.number c.from-place.result _ c.from-place.ensures c.self.told c.requires.small c.args.text (sym c.is_empty.ensures ∙ c.if-is_empty.true) c.requires.some
    ∙ ap (inserted (numbered c.args.number c.args.text.now)) c.self.view_is
    ∙ sym (cond-false (has_number c.args.self.now c.args.number) c.args.self.now (inserted (numbered c.args.number c.args.text.now) c.args.self.now) new)

pub returns-else-is_empty : goal.returns-else-is_empty
returns-else-is_empty c =
    let seen : has_number c.args.self.now c.args.number ≡ true = sym (occurs (goal.at.returns-else-is_empty c).After-is_empty) ∙ ap not c.if-is_empty.false in
    sym (cond-true (has_number c.args.self.now c.args.number) c.args.self.now (inserted (numbered c.args.number c.args.text.now) c.args.self.now) seen)

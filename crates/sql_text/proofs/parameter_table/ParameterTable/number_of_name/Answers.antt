use Rattle.std.proofs.Common.{◌≡◌, ◌∙◌, sym, ap, subst, arith}
use Rattle.std.specs.Prelude.{All}
use Rattle.sql_text.specs.Parameters.{number_of_name}
use Rattle.sql_text.proofs.ParameterLemmas.{name_other, name_found, unnamed_none}
use Rattle.sql_text.proofs.parameter_table.ParameterTable.number_of_name.Goals as goal

pub returns-then-not-self-clause-number : goal.returns-then-not-self-clause-number
returns-then-not-self-clause-number c =
    sym (unnamed_none c.args.prefix c.args.name.now c.args.self.now c.requires (subst (All (λ p. p.prefix ≡ 63)) c.self.view_is (c.self.invariant.unnamed c.if-not-self.true)))

pub returns-then-is_name-clause-number : goal.returns-then-is_name-clause-number
returns-then-is_name-clause-number c =
    sym (name_found c.self.inside.texts c.loop-number.number c.from.result _ c.from.ensures c.self.told (omega (arith, c.self.invariant.small)) c.args.prefix c.args.name.now (sym c.is_name.ensures ∙ c.if-is_name.true))
    ∙ c.loop-number.invariant ∙ ap (number_of_name c.args.prefix c.args.name.now) c.self.view_is

pub loop-number-preserved : goal.loop-number-preserved
loop-number-preserved c =
    sym (name_other c.self.inside.texts c.loop-number.number c.from.result _ c.from.ensures c.self.told (omega (arith, c.self.invariant.small)) c.args.prefix c.args.name.now (sym c.is_name.ensures ∙ c.if-is_name.false))
    ∙ c.loop-number.invariant

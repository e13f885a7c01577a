use Rattle.std.proofs.Common.{ℕ, Bool, List, subst}
use Rattle.keeper_dialect.specs.Tokens.{Token}
use Rattle.keeper_dialect.specs.Reading.{StopsAs, sign_at}
use Rattle.keeper_dialect.specs.Terms.{expr_at}
use Rattle.keeper_dialect.specs.Lists.{new_name_at, setting_at, set_at}
use Rattle.keeper_dialect.specs.Taken.{is_taken}
use Rattle.keeper_dialect.proofs.ReadingLemmas.{handed_on, stops_then, stops_behind}
use Rattle.keeper_dialect.proofs.lists.ColExprPart.read.Goals as goal
use Rattle.keeper_dialect.proofs.lists.ColExprPart.read.Goals.{In_err-column}

pub returns-in_err-column-clause-stops : goal.returns-in_err-column-clause-stops
unfolding setting_at
returns-in_err-column-clause-stops c =
    handed_on c.from_residual.result c.in_err-column.field-0.0 (set_at c.args.arg4.now c.args.reader.now) c.from_residual.ensures.1
    (subst (λ (t : List ℕ → Bool). StopsAs (setting_at t c.args.reader.now) c.in_err-column.field-0.0) (λ i name. c.requires name i) (stops_then (new_name_at (is_taken c.args.taken.now) c.args.reader.now) _ c.in_err-column.field-0.0 c.in_err-column.ensures.stops))

pub returns-in_err-sign-clause-stops : goal.returns-in_err-sign-clause-stops
unfolding setting_at
returns-in_err-sign-clause-stops c =
    let mid : List Token = c.new_name.new.self in
    handed_on c.from_residual-in_err-sign.result c.in_err-sign.field-0.0 (set_at c.args.arg4.now c.args.reader.now) c.from_residual-in_err-sign.ensures.1
    (subst (λ (t : List ℕ → Bool). StopsAs (setting_at t c.args.reader.now) c.in_err-sign.field-0.0) (λ i name. c.requires name i)
    (stops_behind (new_name_at (is_taken c.args.taken.now) c.args.reader.now) _ _ mid c.in_err-sign.field-0.0 c.in_ok-column.ensures.read (stops_then (sign_at 61 mid) _ c.in_err-sign.field-0.0 c.in_err-sign.ensures.stops)))

pub returns-in_err-expr-clause-stops : goal.returns-in_err-expr-clause-stops
unfolding setting_at
returns-in_err-expr-clause-stops c =
    let mid : List Token = c.new_name.new.self in
    let right : List Token = c.sign.new.self in
    handed_on c.from_residual-in_err-expr.result c.in_err-expr.field-0.0 (set_at c.args.arg4.now c.args.reader.now) c.from_residual-in_err-expr.ensures.1
    (subst (λ (t : List ℕ → Bool). StopsAs (setting_at t c.args.reader.now) c.in_err-expr.field-0.0) (λ i name. c.requires name i)
    (stops_behind (new_name_at (is_taken c.args.taken.now) c.args.reader.now) _ _ mid c.in_err-expr.field-0.0 c.in_ok-column.ensures.read
    (stops_behind (sign_at 61 mid) _ _ right c.in_err-expr.field-0.0 c.in_ok-sign.ensures.read (stops_then (expr_at right) _ c.in_err-expr.field-0.0 c.in_err-expr.ensures.stops))))

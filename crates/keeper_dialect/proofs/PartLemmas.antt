-- The parts of each list leave no more tokens than there were.
use Rattle.std.proofs.Common.{false, List, length, refl, arith}
use Rattle.keeper_dialect.specs.declared.query.ColDef.{ColDef}
use Rattle.keeper_dialect.specs.declared.query.Expr.{Expr}
use Rattle.keeper_dialect.specs.declared.query.Item.{Item}
use Rattle.keeper_dialect.specs.Reading.{Shrinks}
use Rattle.keeper_dialect.specs.Terms.{expr_at}
use Rattle.keeper_dialect.specs.Lists.{is_among, is_set, new_name_at, tuple_at, set_at, item_at, col_def_at}
use Rattle.keeper_dialect.proofs.Shorter.{new_name_within, expr_within, tuple_within, set_within, item_within, col_def_within}

pub names_shrink : Shrinks (λ done. new_name_at (is_among done)) is_among
names_shrink = record { less = λ done ts. (new_name_within (is_among done) ts (length ts) (omega arith)).few; free = λ name. refl }

pub exprs_shrink : Shrinks {A = Expr} (λ done. expr_at) (λ done name. false)
exprs_shrink = record { less = λ done ts. (expr_within ts (length ts) (omega arith)).few; free = λ name. refl }

pub tuples_shrink : Shrinks {A = List Expr} (λ done. tuple_at) (λ done name. false)
tuples_shrink = record { less = λ done ts. (tuple_within ts (length ts) (omega arith)).few; free = λ name. refl }

pub sets_shrink : Shrinks set_at is_set
sets_shrink = record { less = λ done ts. (set_within done ts (length ts) (omega arith)).few; free = λ name. refl }

pub items_shrink : Shrinks {A = Item} (λ done. item_at) (λ done name. false)
items_shrink = record { less = λ done ts. (item_within ts (length ts) (omega arith)).few; free = λ name. refl }

pub cols_shrink : Shrinks {A = ColDef} col_def_at (λ done name. false)
cols_shrink = record { less = λ done ts. (col_def_within done ts (length ts) (omega arith)).few; free = λ name. refl }

use Rattle.std.proofs.Common.{ap}
use Rattle.keeper_formulas.specs.declared.formulas.Picture.TheVariants as picture
use Rattle.keeper_formulas.specs.Each.{map_ok}
use Rattle.memory_keeper.specs.Tables.{picture_of}
use Rattle.keeper_formulas.proofs.EachLemmas.{gives_refused, refuses_map_ok}
use Rattle.memory_keeper.proofs.select.picture_of.Goals as goal

pub returns-in_err-resolve_each-in-List : goal.returns-in_err-resolve_each-in-List
returns-in_err-resolve_each-in-List c =
    gives_refused (picture_of c.args.columns.now c.args.bound.now c.args.shown.now) _ _ c.from_residual.ensures.1
    (rw (c.in-List.is, ← c.as_slice.ensures) (refuses_map_ok picture.List _ _ c.in_err-resolve_each-in-List.ensures))

pub returns-in_ok-resolve_each-in-List : goal.returns-in_ok-resolve_each-in-List
returns-in_ok-resolve_each-in-List c = rw (c.in-List.is, ← c.as_slice.ensures) (ap (map_ok picture.List) c.in_ok-resolve_each-in-List.ensures)

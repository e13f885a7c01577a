use Rattle.std.proofs.Common.{◌≡◌, length, ◌∙◌, arith}
use Rattle.std.specs.List.{zip}
use Rattle.keeper_formulas.specs.Each.{each}
use Rattle.memory_keeper.specs.Tables.{tuple_equation}
use Rattle.keeper_formulas.proofs.EachLemmas.{each_more, each_all, refuses_each, gives_refused}
use Rattle.memory_keeper.proofs.TableLemmas.{tuple_of_even, pair_at, length_of_zip}
use Rattle.memory_keeper.proofs.insert.tuple_of.Goals as goal

pub returns-in_err-tuple_equation : goal.returns-in_err-tuple_equation
returns-in_err-tuple_equation c =
    let f = tuple_equation c.args.bound.now in
    let places = c.args.places.now in
    let exprs = c.args.exprs.now in
    let i = c.loop-index.index in
    let even : length places ≡ length exprs = c.if-places-exprs.false in
    let long = length_of_zip places exprs even in
    rw (tuple_of_even c.args.bound.now places exprs even)
    (gives_refused (each f (zip places exprs)) _ _ c.from_residual.ensures.1
    (refuses_each f (zip places exprs) i _ _ _ c.loop-index.invariant (omega (arith, long)) (pair_at places exprs i c.index-exprs-index.result (omega arith) (omega arith) c.index-exprs-index.is) c.in_err-tuple_equation.ensures))

pub loop-index-preserved : goal.loop-index-preserved
loop-index-preserved c =
    let f = tuple_equation c.args.bound.now in
    let places = c.args.places.now in
    let exprs = c.args.exprs.now in
    let i = c.loop-index.index in
    let long = length_of_zip places exprs c.if-places-exprs.false in
    rw c.in_ok-push.ensures.ok
    (each_more f (zip places exprs) i _ _ _ c.loop-index.invariant (omega (arith, long)) (pair_at places exprs i c.index-exprs-index.result (omega arith) (omega arith) c.index-exprs-index.is) c.in_ok-tuple_equation.ensures)

pub returns : goal.returns
returns c =
    let f = tuple_equation c.args.bound.now in
    let places = c.args.places.now in
    let exprs = c.args.exprs.now in
    let even : length places ≡ length exprs = c.if-places-exprs.false in
    let long = length_of_zip places exprs even in
    tuple_of_even c.args.bound.now places exprs even ∙ each_all f (zip places exprs) c.loop-index.index _ c.loop-index.invariant (omega (arith, long))

use Rattle.std.proofs.Common.{arith, sym}
use Rattle.std.proofs.lemmas.List.{length-take, take_all}
use Rattle.http_wire.proofs.look.front_of.Goals as goal

pub slice_bounds-result-end : goal.slice_bounds-result-end
slice_bounds-result-end c =
    let above = c.if-held-le-MAX_HEAD_BYTES.false in omega (arith, length-take 16384 c.args.held.now)

pub returns-then-held-le-MAX_HEAD_BYTES : goal.returns-then-held-le-MAX_HEAD_BYTES
returns-then-held-le-MAX_HEAD_BYTES c = sym (take_all 16384 c.args.held.now c.if-held-le-MAX_HEAD_BYTES.true)

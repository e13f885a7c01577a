use Rattle.std.proofs.Common.{◌≡◌, drop, arith}
use Rattle.std.proofs.lemmas.List.{at_drop_all}
use Rattle.stream_task.specs.Texts.{stored_bytes}
use Rattle.stream_task.proofs.texts.stored_bytes.Goals as goal

pub returns : goal.returns
returns c =
    let none : stored_bytes (drop c.loop-text.text-index c.args.texts.now) ≡ 0 = at_drop_all stored_bytes c.args.texts.now c.loop-text.text-index c.loop-text-test.false in
    omega (arith, none, c.loop-text.invariant.counted, c.loop-text.invariant.fits)

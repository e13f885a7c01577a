use Rattle.std.proofs.Common.{◌≡◌, ◌++◌, flat_map, string_bytes}
use Rattle.engine_core.specs.Bytes.{lines_of}
use Rattle.hrana_serve.specs.Lines.{lines_left}
use Rattle.hrana_serve.specs.Printed.{print_line}
use Rattle.hrana_serve.proofs.PrintLemmas.{answer_is}
use Rattle.hrana_serve.proofs.prints.print_answer.Goals as goal

pub returns : goal.returns
returns c =
    let all : c.loop-left.printed.items ++ flat_map (print_line (string_bytes c.in_ok-head.head)) (lines_left c.loop-left.left) ≡ flat_map (print_line (string_bytes c.in_ok-head.head)) (lines_of c.args.answer.now.body) = c.loop-left.invariant in
    answer_is _ _ c.args.answer.now.body _ _ c.in_ok-head.ensures.ok (rw c.in_default.is at all)

use Rattle.std.proofs.Common.{◌≡◌, ◌++◌, flat_map, string_bytes}
use Rattle.engine_core.specs.Bytes.{lines_of}
use Rattle.hrana_serve.specs.Lines.{lines_left, left_measure}
use Rattle.hrana_serve.specs.Printed.{print_line}
use Rattle.hrana_serve.proofs.prints.print_answer.Given as goal

abbrev pub invariant-loop-left : goal.invariant-loop-left
invariant-loop-left l = l.printed.items ++ flat_map (print_line (string_bytes l.head)) (lines_left l.left) ≡ flat_map (print_line (string_bytes l.head)) (lines_of l.answer.body)

abbrev pub decreases-loop-left : goal.decreases-loop-left
decreases-loop-left l = left_measure l.left

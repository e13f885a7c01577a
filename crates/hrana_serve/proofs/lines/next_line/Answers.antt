use Rattle.std.proofs.lemmas.List.{take_rest}
use Rattle.hrana_serve.proofs.LineLemmas.{cut_at, cut_none}
use Rattle.hrana_serve.proofs.lines.next_line.Goals as goal

pub returns-in-Some-clause-lines : goal.returns-in-Some-clause-lines
returns-in-Some-clause-lines c = rw take_rest (cut_at c.args.bytes.now c.in-Some.at c.in-Some.ensures)

pub returns-in-None-clause-lines : goal.returns-in-None-clause-lines
returns-in-None-clause-lines c = cut_none c.args.bytes.now c.in-None.ensures

use Rattle.std.specs.Prelude.{codes}
use Rattle.serde_json.specs.View.{view}
use Rattle.hrana_value.specs.Members.{part_at}
use Rattle.hrana_value.specs.Trees.{OptionalTree, OptionalStands}
use Rattle.hrana_value.proofs.DeclineLemmas.{Reads-both-ok, Reads-both-failed, Reads-at}
use Rattle.hrana_stmt.specs.Tree.{StmtTree, StmtStands}
use Rattle.hrana_batch.specs.Tree.{CondTree, CondStands}
use Rattle.hrana_batch.proofs.batch_json.step_of_json.Goals as goal

pub returns-in-Ok : goal.returns-in-Ok
returns-in-Ok c =
    let condition = part_at (codes "condition") (view c.args.json.now) in let stmt = part_at (codes "stmt") (view c.args.json.now) in
    Reads-both-ok {m = λ o. OptionalTree CondTree o condition} {n = λ s. StmtTree s stmt} {s = OptionalStands (CondStands c.args.step) condition} {t = StmtStands stmt} c.both_readings.ensures c.in-Ok.is
    (search (Reads-at (OptionalTree CondTree) (OptionalStands (CondStands c.args.step)))) (search (Reads-at StmtTree StmtStands)) (λ h. record { condition = h.0; stmt = h.1 })

pub returns-in-Err : goal.returns-in-Err
returns-in-Err c =
    let condition = part_at (codes "condition") (view c.args.json.now) in let stmt = part_at (codes "stmt") (view c.args.json.now) in
    Reads-both-failed {m = λ o. OptionalTree CondTree o condition} {n = λ s. StmtTree s stmt} {s = OptionalStands (CondStands c.args.step) condition} {t = StmtStands stmt} c.both_readings.ensures c.in-Err.is
    (search (Reads-at (OptionalTree CondTree) (OptionalStands (CondStands c.args.step)))) (search (Reads-at StmtTree StmtStands))

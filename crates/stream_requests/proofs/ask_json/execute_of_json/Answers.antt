use Rattle.std.proofs.Common.{codes, refl}
use Rattle.serde_json.specs.View.{view}
use Rattle.hrana_value.specs.Members.{part_at}
use Rattle.hrana_stmt.specs.Tree.{StmtTree, StmtStands}
use Rattle.stream_requests.specs.declared.asks.Ask.TheVariants.{Execute}
use Rattle.stream_requests.specs.declared.asks.AskKind.TheVariants as kind
use Rattle.stream_requests.specs.Asks.{IsAskOf}
use Rattle.stream_requests.proofs.Readings.{part_made, part_failed}
use Rattle.stream_requests.proofs.ask_json.execute_of_json.Goals as goal

pub returns-in-Ok : goal.returns-in-Ok
returns-in-Ok c =
    let t = view c.args.json.now in
    part_made StmtTree StmtStands (λ a. IsAskOf kind.Execute a t) (view c.member_or_null.result.now) (part_at (codes "stmt") t) c.stmt_of_json.result c.in-Ok.stmt (Execute c.in-Ok.stmt) c.member_or_null.ensures c.in-Ok.is c.stmt_of_json.ensures (λ h. record { kind = refl; members = h })

pub returns-in-Err : goal.returns-in-Err
returns-in-Err c =
    let t = view c.args.json.now in
    part_failed StmtTree StmtStands (λ a. IsAskOf kind.Execute a t) (view c.member_or_null.result.now) (part_at (codes "stmt") t) c.stmt_of_json.result c.in-Err.fail c.member_or_null.ensures c.in-Err.is c.stmt_of_json.ensures

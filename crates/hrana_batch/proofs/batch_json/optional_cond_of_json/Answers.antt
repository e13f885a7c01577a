use Rattle.std.proofs.Common.{sym, subst}
use Rattle.serde_json.specs.View.{view}
use Rattle.hrana_value.specs.Declines.{Reads}
use Rattle.hrana_value.proofs.PartLemmas.{optional_some, is_null_false}
use Rattle.hrana_batch.specs.Tree.{CondTree, CondStands}
use Rattle.hrana_batch.proofs.batch_json.optional_cond_of_json.Goals as goal

pub returns-in-Ok : goal.returns-in-Ok
returns-in-Ok c =
    let t = view c.args.json.now in
    optional_some CondTree (CondStands c.args.step) t c.in-Ok.cond (is_null_false t (sym c.if-is_null.ensures)) (subst (Reads (λ d. CondTree d t) (CondStands c.args.step t)) c.in-Ok.is c.cond_of_json.ensures)

use Rattle.std.proofs.Common.{sym, ◌∙◌, ap, length}
use Rattle.serde_json.specs.View.{view}
use Rattle.hrana_stmt.specs.Tree.{count_of}
use Rattle.hrana_stmt.proofs.ArgumentLemmas.{count_of-Array}
use Rattle.hrana_batch.proofs.batch_json.count.Goals as goal

pub returns-in-Array : goal.returns-in-Array
returns-in-Array c = ap length c.as_slice.ensures.value ∙ sym (ap (λ j. count_of (view j)) c.in-Array.is ∙ count_of-Array c.in-Array.items)

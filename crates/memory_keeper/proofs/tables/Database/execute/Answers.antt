use Rattle.std.proofs.Common.{◌≡◌, length, ◌∙◌}
use Rattle.memory_keeper.proofs.NameLemmas.{names_kept}
use Rattle.memory_keeper.proofs.tables.Database.execute.Goals as goal

pub invariant_of-self : goal.invariant_of-self
invariant_of-self c =
    let old = c.self.inside.tables.items in
    let counted : c.len-count.result ≡ length old = c.len-count.ensures ∙ c.self.inside.tables.ok.0 in
    let kept = names_kept c.self.inside.names old c.execute-answer.new.tables.items c.args.stmt.now c.execute-answer.result c.execute-answer.ensures.runs c.self.invariant in
    (rw (c.as_slice.ensures.value, c.take.ensures.value, counted) at c.grown_names.ensures) kept

use Rattle.std.proofs.Common.{All, length, sym, ◌∙◌, subst}
use Rattle.stream_task.specs.Doing.{IsWithin}
use Rattle.stream_task.proofs.StepLemmas.{within_order, names_earlier}
use Rattle.stream_task.proofs.cutting.sequence_of_text.Goals as goal

pub steps_at-requires-clause-within : goal.steps_at-requires-clause-within
steps_at-requires-clause-within c = subst (All (IsWithin (length c.args.text.now))) (sym c.deref.ensures.value) (within_order _ _ _ c.in_ok-spans.ensures.in_order)

pub new-requires : goal.new-requires
new-requires c = names_earlier c.args.text.now c.deref.result.now _ (c.from_vec.ensures ∙ c.in_ok-steps.ensures)

use Rattle.std.proofs.Common.{◌≡◌, drop}
use Rattle.stream_task.specs.Checks.{stored_text}
use Rattle.stream_task.proofs.texts.stored_text.Given as goal

-- the texts that were passed have other numbers
abbrev pub invariant-loop-text : goal.invariant-loop-text
invariant-loop-text l = stored_text l.id l.texts ≡ stored_text l.id (drop l.text-index l.texts)

use Rattle.std.proofs.Common.{◌≡◌, ◌≤◌, ◌+◌, length, ℕ, drop, None}
use Rattle.std.specs.Prelude.{is_some, slice_index_or}
use Rattle.std.specs.Option.{option_copied}
use Rattle.std.specs.List.{list_all}
use Rattle.sql_text.specs.declared.limits.TheConstants.{MAX_PARAMETERS}
use Rattle.sql_text.specs.Binding.{number_met, last_given}
use Rattle.sql_text.proofs.binding.note_named.Given as goal

abbrev pub invariant-loop-arg : goal.invariant-loop-arg
invariant-loop-arg l = record {
  room : length l.table ≡ MAX_PARAMETERS + 1;
  all_meet : list_all (λ arg. is_some (number_met l.parameters arg.name)) (drop l.arg-index l.named) ≡ list_all (λ arg. is_some (number_met l.parameters arg.name)) l.named;
  last : (n : ℕ) → n ≤ MAX_PARAMETERS → last_given l.parameters n (option_copied (slice_index_or l.table n None)) (drop l.arg-index l.named) ≡ last_given l.parameters n None l.named;
}

use Rattle.std.proofs.Common.{◌≡◌, ◌≤◌, take}
use Rattle.std.specs.Prelude.{sum_by}
use Rattle.engine_core.specs.Results.{value_size}
use Rattle.engine_core.specs.declared.limits.TheConstants.{MAX_RESULT_BYTES}
use Rattle.engine_core.proofs.plain_keeper.fits.Given as goal

abbrev pub invariant-loop-value : goal.invariant-loop-value
invariant-loop-value l = record {
  counted : l.size ≡ sum_by value_size (take l.value-index l.column);
  within : l.size ≤ MAX_RESULT_BYTES;
}

use Rattle.std.proofs.Common.{◌≡◌, ◌+◌, take}
use Rattle.engine_core.specs.declared.limits.TheConstants.{MAX_RESULT_BYTES}
use Rattle.engine_core.specs.Results.{rows_size}
use Rattle.memory_keeper.proofs.select.fits.Given as goal

abbrev pub invariant-loop-row : goal.invariant-loop-row
invariant-loop-row l = l.left + rows_size (take l.row-index l.rows) ≡ MAX_RESULT_BYTES

use Rattle.std.proofs.Common.{refl, ap, ◌∙◌}
use Rattle.stream_task.specs.Checks.{coded}
use Rattle.stream_task.proofs.CheckLemmas.{none_stored, ready_by_text, refused_text}
use Rattle.stream_task.proofs.checks.check.Goals as goal

pub returns-in_default-clause-exact : goal.returns-in_default-clause-exact
returns-in_default-clause-exact c = none_stored _ _ c.in_default.ensures

pub returns-in-Ok-clause-exact : goal.returns-in-Ok-clause-exact
returns-in-Ok-clause-exact c = record {
  ready = c.in-Ok.field-0;
  passed = ready_by_text _ _ _ _ _ c.in-Some.ensures c.as_slice.ensures c.as_slice-2.ensures ∙ ap coded c.in-Ok.ensures.exact;
  is_ready = record { sql = refl; class = refl; values = refl };
}

pub returns-in-Err-clause-exact : goal.returns-in-Err-clause-exact
returns-in-Err-clause-exact c = refused_text _ _ _ _ _ c.in-Err.fail _ c.in-Some.ensures c.as_slice.ensures c.as_slice-2.ensures c.in-Err.ensures.exact c.fail_of.ensures

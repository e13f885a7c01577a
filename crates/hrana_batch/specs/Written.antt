-- The trees that batches and their results are written as.
use Rattle.std.specs.Prelude.{List, map, Option, None, Some, codes, ℕ}
use Rattle.serde_json.specs.Data.{Data, null, number, unsigned, string, array, object, Members, member, no_members}
use Rattle.serde_json.specs.View.{items_of}
use Rattle.hrana_stmt.specs.Written.{stmt_data, result_data, error_data}
use Rattle.hrana_batch.specs.declared.conditions.Cond.{Cond, fold-Cond}
use Rattle.hrana_batch.specs.declared.conditions.Cond.TheOpen.{Cond-F}
use Rattle.hrana_batch.specs.declared.batches.Step.{Step}
use Rattle.hrana_batch.specs.declared.batches.Batch.{Batch}
use Rattle.hrana_batch.specs.declared.outcomes.Outcome.{Outcome}
use Rattle.hrana_batch.specs.declared.outcomes.Outcome.TheVariants.{Skipped, Done, Failed}
use Rattle.hrana_batch.specs.declared.outcomes.BatchResult.{BatchResult}

-- ---- conditions

abbrev pub type_member : List ℕ → Members
type_member kind = member (codes "type") (string kind) no_members

abbrev pub step_cond : List ℕ → ℕ → Data
step_cond kind step = object (member (codes "step") (number (unsigned step)) (type_member kind))

abbrev pub not_cond : Data → Data
not_cond part = object (member (codes "cond") part (type_member (codes "not")))

abbrev pub list_cond : List ℕ → List Data → Data
list_cond kind parts = object (member (codes "conds") (array (items_of parts)) (type_member kind))

-- one level, with each part already written
abbrev pub cond_level : Cond-F Data → Data
cond_level (Cond-F.StepOk step) = step_cond (codes "ok") step
cond_level (Cond-F.StepError step) = step_cond (codes "error") step
cond_level (Cond-F.Not part) = not_cond part
cond_level (Cond-F.All parts) = list_cond (codes "and") parts
cond_level (Cond-F.Any parts) = list_cond (codes "or") parts
cond_level Cond-F.Autocommit = object (type_member (codes "is_autocommit"))

abbrev pub cond_data : Cond → Data
cond_data = fold-Cond Data cond_level

-- ---- batches

-- a step of these parts: a condition that is absent is left out
abbrev pub step_object : Option Data → Data → Data
step_object None stmt = object (member (codes "stmt") stmt no_members)
step_object (Some condition) stmt = object (member (codes "condition") condition (member (codes "stmt") stmt no_members))

abbrev pub optional_cond : Option Cond → Option Data
optional_cond None = None
optional_cond (Some c) = Some (cond_data c)

abbrev pub step_data : Step → Data
step_data s = step_object (optional_cond s.condition) (stmt_data s.stmt)

abbrev pub batch_object : Data → Data
batch_object steps = object (member (codes "steps") steps no_members)

abbrev pub batch_data : Batch → Data
batch_data b = batch_object (array (items_of (map step_data b.steps)))

-- ---- results of batches

abbrev pub result_entry : Outcome → Data
result_entry Skipped = null
result_entry (Done r) = result_data r
result_entry (Failed e) = null

abbrev pub error_entry : Outcome → Data
error_entry Skipped = null
error_entry (Done r) = null
error_entry (Failed e) = error_data e

abbrev pub batch_result_object : Data → Data → Data
batch_result_object errors results = object (member (codes "step_errors") errors (member (codes "step_results") results no_members))

abbrev pub batch_result_data : BatchResult → Data
batch_result_data r = batch_result_object (array (items_of (map error_entry r.outcomes))) (array (items_of (map result_entry r.outcomes)))

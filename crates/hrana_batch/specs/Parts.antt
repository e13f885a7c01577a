-- Forms of steps and outcomes by their parts.
use Rattle.std.specs.Prelude.{◌⊎◌, List, Option, None, Some}
use Rattle.serde_json.specs.Data.{Data, Items, item}
use Rattle.hrana_value.specs.declared.failures.Decline.{Decline}
use Rattle.hrana_value.specs.declared.failures.Decline.TheVariants.{Shape}
use Rattle.hrana_value.specs.Declines.{EitherStands, Only}
use Rattle.hrana_value.specs.Trees.{ItemsTree, ArrayTree, ArrayStands, OptionalStands}
use Rattle.hrana_stmt.specs.Tree.{IsGiven, StmtResultStands, WireErrorStands}
use Rattle.hrana_batch.specs.declared.conditions.Cond.{Cond}
use Rattle.hrana_batch.specs.declared.outcomes.Outcome.{Outcome}
use Rattle.hrana_batch.specs.Tree.{CondTree, ResultEntryTree, ErrorEntryTree, PartsClash}

-- what an optional condition is written as is a form of it
abbrev pub CondReadsBack : Option Cond → Option Data → Type 0
CondReadsBack None None = Unit {0}
CondReadsBack (Some c) (Some d) = CondTree c d
CondReadsBack c d = ⊥

-- ---- outcomes

-- the entries of one place in `step_results` and `step_errors`
abbrev pub OutcomeTree : Outcome → Data → Data → Type 0
OutcomeTree o r e = ResultEntryTree o r × ErrorEntryTree o e

abbrev pub EntriesStand : Data → Data → Decline → Type 0
EntriesStand r e = EitherStands (EitherStands (OptionalStands StmtResultStands r) (OptionalStands WireErrorStands e)) (Only Shape (IsGiven r × IsGiven e))

-- the entries of two lists of one length, place by place
abbrev pub OutcomesTree : List Outcome → Items → Items → Type 0
OutcomesTree os rs es = ItemsTree ResultEntryTree os rs × ItemsTree ErrorEntryTree os es

abbrev pub OutcomesStand : Items → Items → Decline → Type 0
OutcomesStand (item r rs) (item e es) k = EntriesStand r e k ⊎ OutcomesStand rs es k
OutcomesStand rs es k = ⊥

-- `BatchResultTree` of the parts `step_results` and `step_errors`
abbrev pub OutcomePartsTree : List Outcome → Data → Data → Type 0
OutcomePartsTree os results errors = ArrayTree ResultEntryTree os results × ArrayTree ErrorEntryTree os errors

abbrev pub OutcomePartsStand : Data → Data → Decline → Type 0
OutcomePartsStand results errors =
    EitherStands (EitherStands (ArrayStands (OptionalStands StmtResultStands) results) (ArrayStands (OptionalStands WireErrorStands) errors)) (Only Shape (PartsClash results errors))

use Rattle.std.proofs.Common.{None, ℕ, Option, subst, ◌<◌, ◌-◌, ◌^◌}
use Rattle.engine_core.specs.Noted.{IsNumbered}
use Rattle.hrana_value.specs.declared.StreamNo.{StreamNo}
use Rattle.stream_task.specs.Act.{IsGranted}
use Rattle.stream_task.specs.Table.{MayAdd, takes, IsTaken}
use Rattle.stream_task.proofs.RowLemmas.{some_taken, numbered, commits_by_turn, granted_first}
use Rattle.stream_task.proofs.statement.run_row.Goals as goal

pub settle_turn-requires-clause-holds : goal.settle_turn-requires-clause-holds
settle_turn-requires-clause-holds g c = commits_by_turn _ c.args.stream c.args.stmt c.args.row c.args.turns.now _ c.requires.turn (c.act-entry.ensures.entry None 0 (granted_first c.args.row))

pub took-went-requires : goal.took-went-requires
took-went-requires g c = some_taken _ _ _ _ c.args.stream c.args.stmt c.args.row _ (c.act-entry.ensures.entry None 0 (granted_first c.args.row))

pub push-requires-clause-unit : goal.push-requires-clause-unit
push-requires-clause-unit g c =
    let few : c.next_unit-next.result < 2 ^ 64 - 1 = rw c.next_unit-next.ensures c.requires.few.1 in
    subst (λ (n : ℕ). IsNumbered n c.act-entry.result) c.next_unit-next.ensures
    (numbered _ c.args.stream c.args.stmt c.args.row _ few (c.act-entry.ensures.entry None 0 (granted_first c.args.row)))

pub returns-clause-runs : goal.returns-clause-runs
returns-clause-runs g c = record {
  e = c.act-entry.result;
  may = λ (by : Option StreamNo) (version : ℕ) (h : IsGranted c.args.row by version).
      subst (λ (n : ℕ). MayAdd (record { by = by; version = version; next = n }) c.args.stream c.args.stmt c.args.row c.act-entry.result) c.next_unit-next.ensures
      (c.act-entry.ensures.entry by version h);
  pushed = record { grew = c.push.ensures.list; next = c.push.ensures.next; spare = c.push.ensures.spare };
  effect = c.act-entry.ensures.effect;
  turn = c.settle_turn.ensures;
  cause = c.act-entry.ensures.cause;
  refused = c.act-entry.ensures.refused;
  taken = subst (λ (v : ℕ). IsTaken (takes (λ unit. v) c.args.want_rows c.args.state c.args.row c.act-entry.result) c.took-went.result) c.version-version.ensures c.took-went.ensures.taken;
  goes = c.took-went.ensures.goes;
}

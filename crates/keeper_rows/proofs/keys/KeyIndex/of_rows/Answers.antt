use Rattle.std.proofs.Common.{[], subst}
use Rattle.keeper_rows.specs.Keys.{HasKeys, keys_at}
use Rattle.keeper_rows.proofs.keys.KeyIndex.of_rows.Goals as goal

pub returns-then-branch-clause-keys : goal.returns-then-branch-clause-keys
returns-then-branch-clause-keys c = subst (λ column. HasKeys c.add_rows.new.self (keys_at column c.args.rows.now)) c.new-index.ensures.column (c.in_ok-add_rows.ensures.keys c.if-branch.true [] c.new-index.ensures.keys)

use Rattle.std.proofs.Common.{Some}
use Rattle.keeper_rows.proofs.KeyLemmas.{updates_bytes}
use Rattle.keeper_rows.proofs.keys.put_vec.Goals as goal

pub returns : goal.returns
returns g c = updates_bytes (λ key. key.items) c.args.map.now c.insert.new.self c.args.key.items (Some c.args.value) c.in_ok-insert.ensures.updates

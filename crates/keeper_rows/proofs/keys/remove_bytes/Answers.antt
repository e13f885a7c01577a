use Rattle.std.proofs.Common.{None}
use Rattle.keeper_rows.proofs.KeyLemmas.{updates_bytes}
use Rattle.keeper_rows.proofs.keys.remove_bytes.Goals as goal

pub returns : goal.returns
returns c = updates_bytes (λ key. key.items) c.args.map.now c.remove.new.self c.args.key.now None c.remove.ensures.updates

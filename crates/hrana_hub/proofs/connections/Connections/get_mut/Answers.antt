use Rattle.std.proofs.Common.{refl, sym}
use Rattle.hrana_hub.proofs.MapLemmas.{at_gap}
use Rattle.hrana_hub.proofs.connections.Connections.get_mut.Goals as goal

pub returns-in-Err : goal.returns-in-Err
returns-in-Err c = (refl, record { writes_back = tt; value = sym (at_gap c.args.conn c.args.self.now c.in-Err.field-0 c.in-Err.ensures) })

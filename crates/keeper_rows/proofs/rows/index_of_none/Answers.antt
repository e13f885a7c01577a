use Rattle.std.proofs.Common.{refl}
use Rattle.keeper_rows.proofs.rows.index_of_none.Goals as goal

pub returns-in-Some : goal.returns-in-Some
returns-in-Some c = (c.new.ensures.keys, refl)

use Rattle.keeper_dialect.proofs.ReadLemmas.{read_is_a_select}
use Rattle.keeper_dialect.proofs.laws.each_read_is_a_select.Goals as goal

pub returns : goal.returns
returns c = read_is_a_select

use Rattle.keeper_dialect.proofs.ExactQueries.{one_query}
use Rattle.keeper_dialect.proofs.laws.no_text_is_two_queries.Goals as goal

pub returns : goal.returns
returns c = one_query

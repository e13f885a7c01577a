use Rattle.keeper_dialect.proofs.ExactQueries.{query_of-sound, query_of-complete}
use Rattle.keeper_dialect.proofs.laws.queries_are_read.Goals as goal

pub returns : goal.returns
returns c = record { sound = query_of-sound; complete = query_of-complete }

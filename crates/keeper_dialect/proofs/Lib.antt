-- Where the clauses are proved whose proofs aren't found by the check alone.
-- parse: reads, refuses             parser/parse/Answers, ExactQueries (Exact, ExactTerms, ExactLists, ExactParts)
-- parse: stops                      parser/parse/Answers, Stopping (Forward, ForwardTerms, ForwardLists, ForwardCols, ForwardQueries, TokenEnds)
-- no_text_is_two_queries            ExactQueries
-- queries_are_read                  ExactQueries
-- no_query_stops                    Stopping
-- no_text_stops_at_two_places       Stopping
-- each_read_is_a_select             ReadLemmas
-- Reader::separated: read, stops    reader/Reader/separated, CommaLemmas, ReadingLemmas
-- Reader::separated: its requires   PartLemmas, Shorter
-- Part::read of names and settings  lists/TxtPart/read, lists/ColExprPart/read, TakenLemmas
-- Reader::adds: read, stops         reader/Reader/adds, ReadingLemmas, Shorter
-- tokens_of                         tokens/tokens_of, TokenLemmas
-- undoubled, without_quotes         names, NameLemmas
-- source_text, Reader::behind       lists/source_text, reader/Reader/behind
-- digits_value                      terms/digits_value
-- Taken::take: takes                taken/insert
pub mod TokenLemmas
pub mod NameLemmas
pub mod ReadingLemmas
pub mod Shorter
pub mod CommaLemmas
pub mod PartLemmas
pub mod Exact
pub mod ExactTerms
pub mod ExactLists
pub mod ExactParts
pub mod ExactQueries
pub mod ReadLemmas
pub mod Forward
pub mod ForwardTerms
pub mod ForwardLists
pub mod ForwardCols
pub mod ForwardQueries
pub mod TokenEnds
pub mod Stopping
pub mod TakenLemmas

-- Where the clauses are proved that the check doesn't prove by itself:
--   batch_of_json: reads                          batch_json/, by BatchReadings, FitsLemmas; conditions in condition_json/+conditions, by CondReadings, DepthLemmas, WithinLemmas
--   batch_of_json: fits, earlier                  batch_json/batch_of_json, by FitsLemmas
--   cond_of_json: Reads                           condition_json/, by CondLaws; the depth in condition_json/+depth, by CondLemmas
--   no_tree_is_two_conditions                     condition_json/, by CondLaws
--   no_tree_is_two_batches, fitting_batches_are_read    batch_json/, by FitsLemmas
--   batch_to_json, cond_to_json: written, reads_back    batch_json/, by BatchWritten; condition_json/+writing, by CondWritten
--   batch_result_of_json: Reads                   result_json/, by OutcomeReadings, ShapeLemmas
--   no_tree_is_two_batch_results, batch_results_are_read    result_json/, by OutcomeLaws
--   batch_result_to_json: written, reads_back     result_json/, by Depths
--   send of conditions, batches and their results    sending/, by CondWritten, SentItems
--   holds                                         holding/+holds, by CondLemmas, CondLevels, SizeLemmas
--   turns_are_meant                               running/turns_are_meant, by MeansLemmas
pub mod BatchReadings
pub mod BatchWritten
pub mod CondLaws
pub mod CondLemmas
pub mod CondLevels
pub mod CondReadings
pub mod CondWritten
pub mod DepthLemmas
pub mod Depths
pub mod FitsLemmas
pub mod MeansLemmas
pub mod OutcomeLaws
pub mod OutcomeReadings
pub mod SentItems
pub mod ShapeLemmas
pub mod SizeLemmas
pub mod WithinLemmas
pub mod WrittenItems

-- Where the clauses are proved that the check doesn't prove by itself:
--   ask_kind_of_name                              ask_kinds/, by AskNameLemmas, NameLemmas
--   ask_of_json, stored_of_json: Reads            ask_json/, by Readings, AskLemmas
--   no_members_are_two_asks, fitting_asks_are_read    ask_json/, by AskLemmas
--   reply_of_json: Reads                          reply_json/batch_reply_of_json, by Readings
--   no_members_are_two_replies, replies_are_read  reply_json/, by ReplyLemmas
--   entry_of_json: Reads                          entry_json/entry_of_json, by EntryLemmas, NameLemmas
--   no_tree_is_two_entries, entries_are_read      entry_json/, by EntryLemmas
--   no_tree_is_two_pipeline_results, pipeline_results_are_read, of_json of results    result_json/, by ResultLemmas
--   send_response, send of results                result_text/, by FrontLemmas, ResultWritten
--   send of entries, send_error_as                sending/
-- AskWritten, BatchFacts, Depths, FirstLemmas and JsonTextLemmas serve the crates above.
pub mod AskLemmas
pub mod AskNameLemmas
pub mod AskWritten
pub mod BatchFacts
pub mod Depths
pub mod EntryLemmas
pub mod FirstLemmas
pub mod FrontLemmas
pub mod JsonTextLemmas
pub mod NameLemmas
pub mod Readings
pub mod ReplyLemmas
pub mod ResultLemmas
pub mod ResultWritten

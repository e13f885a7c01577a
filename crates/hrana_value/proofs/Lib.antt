-- Where the clauses are proved that the check doesn't prove by itself:
--   List: copy                                    list/List/copy
--   list_of_json, optional_list_of_json: Reads    forms/items_of_json, by DeclineLemmas, ItemsLemmas
--   value_of_json: Reads                          tree/, by TreeLemmas, Base64Lemmas, IntegerLemmas
--   no_tree_is_two_values, no_value_is_declined   tree/, by TreeLemmas
--   value_kinds_differ                            tree/value_kinds_differ, by NameLemmas
--   JsonText, send_list, text_of, json_of         sending/, by SendingLemmas, WrittenLemmas
--   value_to_json: written, reads_back            written/value_to_json, by Depths
--   int64_of_text                                 integers/are_digits
--   index_of                                      names/index_of
-- PartLemmas, TextLemmas, ArrayLemmas, Depths and NoFloats serve the crates above too.
pub mod ArrayLemmas
pub mod Base64Lemmas
pub mod DeclineLemmas
pub mod Depths
pub mod IntegerLemmas
pub mod ItemsLemmas
pub mod NameLemmas
pub mod NoFloats
pub mod PartLemmas
pub mod SendingLemmas
pub mod TextLemmas
pub mod TreeLemmas
pub mod WrittenLemmas

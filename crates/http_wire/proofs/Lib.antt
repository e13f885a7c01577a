-- Where the clauses are proved that the check doesn't prove by itself:
--   answer_bytes, upgrade_bytes             answers/
--   lists                                   fields/{trimmed, comma_in, lists}, by FieldsLemmas
--   has_field, first_value, any_.., each_is fields/, the invariants of their loops
--   length_of                               verdict/length_of, by NumberLemmas
--   look_at: head, refusals, waiting        look/, by LookLemmas over WireLemmas and httparse's laws of its grammar
--   Wire::feed                              feeding/Wire/read, by feeds_refusal and held_is of LookLemmas
--   bytes_have_one_answer_list, fronts_stay_answered, no_bytes_are_without_answers, any_cut_is_taken_in_order,
--   nothing_is_held_back                    laws/, by RunLemmas over WireLemmas (what bytes give is one thing, and stays)
pub mod WireLemmas
pub mod RunLemmas
pub mod FieldsLemmas
pub mod NumberLemmas
pub mod LookLemmas

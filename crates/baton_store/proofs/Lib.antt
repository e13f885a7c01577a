-- Where the clauses are proved that the check doesn't prove by itself:
--   baton_of: text, ascii, symbols; number_of    text/, by TextLemmas
--   place_of, live_place                    store/, by StoreLemmas, ListLemmas
--   BatonStore::due                         store/{lower_due, lowest_due}, by StoreLemmas; that moments rise in store/still_rise
--   BatonStore::issue: takes no memory      store/BatonStore/issue, by room_for of StoreLemmas over length-contained of ListLemmas
--   BatonStore::redeem: answer, free        store/BatonStore/redeem, by accepted and freed of StoreLemmas
--   BatonStore::forget                      store/BatonStore/forget
--   the invariant of BatonStore             store/BatonStore/, by sound_.. of StoreLemmas
--   live_exactly_by_the_calls, no_two_issues_give_one_text, a_text_is_accepted_once    laws/, by LawLemmas
pub mod TextLemmas
pub mod ListLemmas
pub mod StoreLemmas
pub mod LawLemmas

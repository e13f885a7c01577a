-- Where the clauses are proved whose proofs aren't found by the check alone.
-- chosen_count                      conditions/chosen_count, RowLemmas
-- breaks_key, TableRows::has_key    rows/TableRows/has_key, KeyLemmas, IndexLemmas
-- rows_at                           spans/rows_at
-- put_vec                           keys/put_vec
-- TableRows, its invariant          IndexLemmas, KeyLemmas: keys/KeyIndex (add_rows, of_rows), rows/index_of_none, rows/grown_index
-- TableRows::span_of                rows/TableRows/span_of, rows/span_of, keys/span_with_key, conditions/sum_of_constants, NarrowLemmas
-- TableRows::candidates             rows/TableRows/candidates, NarrowLemmas
-- TableRows::replace                rows/TableRows (replace, replace_anew), rekeying, RekeyLemmas
-- TableRows::remove_chosen          rows (remove_only, retain_rows), leaving, LeavingLemmas
pub mod RowLemmas
pub mod NarrowLemmas
pub mod KeyLemmas
pub mod IndexLemmas
pub mod LeavingLemmas
pub mod RekeyLemmas

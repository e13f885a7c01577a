-- Where the clauses are proved whose proofs aren't found by the check alone.
-- Engine for MemoryKeeper: alone, run     by Database::execute; the laws of its meaning stand in specs/Meaning
-- Database::execute: runs                 tables/Database/execute, queries, ExecLemmas, NameLemmas
-- Database, its invariant                 names/TableNames/add_tables, NameLemmas
-- class_refuses_nothing                   ClassLemmas
-- a SELECT                                select, queries/selected_from, RowLemmas
-- an INSERT                               insert, queries/insert_into, TableLemmas
-- an UPDATE                               update, queries/update_in, UpdateLemmas
-- a DELETE                                delete, queries/delete_from
pub mod RowLemmas
pub mod NameLemmas
pub mod UpdateLemmas
pub mod TableLemmas
pub mod ExecLemmas
pub mod ClassLemmas

-- From clause to file. What isn't listed is proved with no file of its own.
-- each_text_has_one_list_of_pieces   pieces/each_text_has_one_list_of_pieces, PieceLists
-- first_piece: quotes, runs          pieces/{quote_end, comment_end, run_end}, PieceLemmas
-- piece_at: later, within, stands    pieces/piece_at, PieceLists over PieceSizes
-- piece_at: between                  pieces/piece_at, BoundaryLemmas, BoundarySpans
-- class_of                           scan/{with_piece, class_at_end, class_of}, FoundLemmas over ClassLemmas
-- split: spans, in_order, closed     spans/split, SpanLemmas
-- split: between                     spans/split, BoundarySpans
-- each_piece_is_its_slice            spans/each_piece_is_its_slice, SpanLemmas
-- statement_of: statement, class     statements/statement_of, StatementLemmas
-- each_run_has_its_pieces            statements/each_run_has_its_pieces, StatementLemmas over CutLemmas
-- each_statement_reads_as_its_text   statements/each_statement_reads_as_its_text, StatementLemmas
-- next_parameter: number, taken      parameters/{digits_value, Parameters}, UnnamedLemmas; parameter_table, ParameterLemmas
-- bind: exact, count                 scan, binding/{note_named, values_by, bind_named, bind}, BindLemmas
-- prepare                            scan, FoundLemmas; prepared/{one_found, text_at, prepare}, PreparedLemmas over StatementLemmas
pub mod PieceLemmas
pub mod PieceSizes
pub mod PieceLists
pub mod ClassLemmas
pub mod SpanLemmas
pub mod FoundLemmas
pub mod ParameterLemmas
pub mod UnnamedLemmas
pub mod BindLemmas
pub mod BoundaryLemmas
pub mod BoundarySpans
pub mod CutLemmas
pub mod StatementLemmas
pub mod PreparedLemmas

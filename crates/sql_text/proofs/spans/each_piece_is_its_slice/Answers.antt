use Rattle.sql_text.proofs.SpanLemmas as lemmas
use Rattle.sql_text.proofs.spans.each_piece_is_its_slice.Goals as goal

pub returns : goal.returns
returns c = lemmas.each_piece_is_its_slice

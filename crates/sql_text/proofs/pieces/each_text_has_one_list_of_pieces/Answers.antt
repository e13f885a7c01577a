use Rattle.sql_text.proofs.PieceLists.{each_text_has_one_list}
use Rattle.sql_text.proofs.pieces.each_text_has_one_list_of_pieces.Goals as goal

pub returns : goal.returns
returns c = each_text_has_one_list

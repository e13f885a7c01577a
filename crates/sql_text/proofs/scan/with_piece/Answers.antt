use Rattle.std.proofs.Common.{sym, ◌∙◌}
use Rattle.sql_text.proofs.FoundLemmas.{takes_skipped, takes_cut}
use Rattle.sql_text.proofs.scan.with_piece.Goals as goal

pub returns-in-Skipped : goal.returns-in-Skipped
returns-in-Skipped c = takes_skipped c.args.found c.args.piece.kind c.args.bytes.now c.args.start (sym c.role_of.ensures ∙ c.in-Skipped.is)

pub returns-in-Cuts : goal.returns-in-Cuts
returns-in-Cuts c = takes_cut c.args.found c.ended.result c.args.piece.kind c.args.bytes.now c.args.start (sym c.role_of.ensures ∙ c.in-Cuts.is) c.ended.ensures

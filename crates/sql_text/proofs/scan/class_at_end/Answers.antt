use Rattle.std.proofs.Common.{true, false, [], ◌∙◌, sym, ap}
use Rattle.sql_text.specs.declared.scan.Found.TheVariants.{Nothing, Open}
use Rattle.sql_text.specs.Class.{class_of_words}
use Rattle.sql_text.specs.Found.{class_with}
use Rattle.sql_text.proofs.FoundLemmas.{gives_same, words-none}
use Rattle.sql_text.proofs.scan.class_at_end.Goals as goal

pub returns-in-Nothing : goal.returns-in-Nothing
returns-in-Nothing c = λ spans class gives.
    (gives_same c.args.found Nothing spans class [] c.in-Nothing.is gives).1 ∙ ap class_of_words (words-none false)

pub returns-in-Open : goal.returns-in-Open
returns-in-Open c = λ spans class gives.
    (gives_same c.args.found (Open c.in-Open.field-0 c.in-Open.so_far) spans class [] c.in-Open.is gives).1 ∙ ap (class_with c.in-Open.so_far) (words-none true) ∙ sym c.class_here.ensures

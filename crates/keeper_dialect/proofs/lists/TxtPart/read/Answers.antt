use Rattle.std.proofs.Common.{ℕ, Bool, List, subst}
use Rattle.std.specs.Prelude.{IfErr}
use Rattle.keeper_dialect.specs.Reading.{StopsAs}
use Rattle.keeper_dialect.specs.Lists.{new_name_at}
use Rattle.keeper_dialect.specs.Taken.{is_taken}
use Rattle.keeper_dialect.proofs.TakenLemmas.{takes_one}
use Rattle.keeper_dialect.proofs.lists.TxtPart.read.Goals as goal

pub returns-clause-stops : goal.returns-clause-stops
returns-clause-stops c = subst (λ (t : List ℕ → Bool). IfErr c.new_name.result (StopsAs (new_name_at t c.args.reader.now))) (λ i name. c.requires name i) c.new_name.ensures.stops

pub returns-clause-takes : goal.returns-clause-takes
returns-clause-takes c = takes_one (λ (name : List ℕ). name) c.args.arg4.now (is_taken c.args.taken.now) (is_taken c.new_name.new.taken) c.requires c.new_name.result c.new_name.ensures.takes

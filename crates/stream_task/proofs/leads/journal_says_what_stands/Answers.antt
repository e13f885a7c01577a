use Rattle.std.proofs.Common.{sym, ◌∙◌}
use Rattle.stream_task.proofs.LeadsLaws.{stands_as_kept, stands_at_nothing}
use Rattle.stream_task.proofs.leads.journal_says_what_stands.Goals as goal

pub returns-clause-kept : goal.returns-clause-kept
returns-clause-kept g c = λ first journal db live t next states f.
    let said = c.serial_order.ensures in
    stands_as_kept _ _ first journal db live t next states f (said.version _ _ _ _ f.run) (said.next _ _ _ _ f.run) (said.committed _ _ _ _ f.run) (said.view _ _ _ _ f.run)

pub returns-clause-explained : goal.returns-clause-explained
returns-clause-explained g c = λ first journal db live t next states f.
    let said = c.serial_order.ensures in
    record {
      explained = said.explained _ _ _ _ f.run;
      database = sym f.stands.database ∙ said.database _ _ _ _ f.run;
      order = λ alone. said.turns _ _ _ _ (f.turns alone);
      apart = λ alone. said.apart _ _ _ _ (f.turns alone);
    }

pub returns-clause-nothing : goal.returns-clause-nothing
returns-clause-nothing g c = stands_at_nothing _ _

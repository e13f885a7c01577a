use Rattle.std.proofs.Common.{OnOk, subst, sym}
use Rattle.serde_json.specs.Events.{SendsValue}
use Rattle.hrana_journal.specs.Lines.{entry_data}
use Rattle.hrana_journal.proofs.entry_text.send_entry.Goals as goal

pub returns-in-Alone-clause-sends : goal.returns-in-Alone-clause-sends
returns-in-Alone-clause-sends g c =
    let w = g.S.Serializer.written in
    subst (λ entry. OnOk c.send_alone.result (SendsValue (entry_data entry) (w c.args.out.now) (w c.send_alone.new.out))) (sym c.in-Alone.is) c.send_alone.ensures.sends

pub returns-in-Ran-clause-sends : goal.returns-in-Ran-clause-sends
returns-in-Ran-clause-sends g c =
    let w = g.S.Serializer.written in
    subst (λ entry. OnOk c.send_ran.result (SendsValue (entry_data entry) (w c.args.out.now) (w c.send_ran.new.out))) (sym c.in-Ran.is) c.send_ran.ensures.sends

use Rattle.stream_task.proofs.AdvanceLemmas.{adds_more, adds_none, answer_is, answer_polls, answer_waits, answer_agrees, answer_texts, poll_starts, poll_polls, poll_texts, store_work, store_agrees, store_waits, store_polls, close_sql_work, close_sql_polls, close_polls}
use Rattle.std.proofs.Common.{refl, sym, ap, ◌∙◌, rules, FitsSigned, w32}
use Rattle.std.proofs.lemmas.Int.{to_z-of_z}
use Rattle.stream_task.specs.Advance.{waits_on, texts_left}
use Rattle.stream_task.proofs.advance.advance.Goals as goal

pub returns-in-Answer-clause-adds : goal.returns-in-Answer-clause-adds
returns-in-Answer-clause-adds g c =
    adds_none _ _ _ _ _ _ _ _ _ _ _ (answer_waits c.args.state c.in-Answer.answer (answer_is _ _ _ c.in-Answer.answer c.todo_of.ensures c.in-Answer.is))
    (answer_polls _ _ _ _ _ _ c.in-Answer.answer c.todo_of.ensures c.in-Answer.is)

pub returns-in-Answer-clause-agrees : goal.returns-in-Answer-clause-agrees
returns-in-Answer-clause-agrees g c = answer_agrees _ _ _ _ _ c.args.state c.in-Answer.answer (answer_is _ _ _ c.in-Answer.answer c.todo_of.ensures c.in-Answer.is) c.requires.agrees

pub poll_running-requires-clause-starts : goal.poll_running-requires-clause-starts
poll_running-requires-clause-starts g c = (poll_starts _ _ _ c.in-Poll.running c.todo_of.ensures c.in-Poll.is).0

pub poll_running-requires-clause-open : goal.poll_running-requires-clause-open
poll_running-requires-clause-open g c = (poll_starts _ _ _ c.in-Poll.running c.todo_of.ensures c.in-Poll.is).1

pub poll_running-requires-clause-reserved : goal.poll_running-requires-clause-reserved
poll_running-requires-clause-reserved g c = c.requires.reserved (poll_starts _ _ _ c.in-Poll.running c.todo_of.ensures c.in-Poll.is).1

pub returns-in-Poll-clause-adds : goal.returns-in-Poll-clause-adds
returns-in-Poll-clause-adds g c = adds_more _ _ _ _ _ _ _ _ _ _ _ _ _ _ _ _ refl (poll_polls _ _ _ _ _ _ c.in-Poll.running c.poll_running.result c.todo_of.ensures c.in-Poll.is) c.poll_running.ensures.adds

pub returns-in-Close-clause-adds : goal.returns-in-Close-clause-adds
returns-in-Close-clause-adds g c = adds_more _ _ _ _ _ _ _ _ _ _ _ _ _ _ _ _ refl (close_polls _ _ _ _ _ _ c.close.result c.todo_of.ensures c.in-Close.is) c.close.ensures.adds

pub returns-in-Answer-clause-texts : goal.returns-in-Answer-clause-texts
returns-in-Answer-clause-texts g c = sym (answer_texts _ _ _ c.in-Answer.answer c.todo_of.ensures c.in-Answer.is)

pub returns-in-Poll-clause-texts : goal.returns-in-Poll-clause-texts
returns-in-Poll-clause-texts g c = sym (poll_texts _ _ _ c.in-Poll.running c.poll_running.result c.todo_of.ensures c.in-Poll.is)

pub returns-in-Close-clause-texts : goal.returns-in-Close-clause-texts
returns-in-Close-clause-texts g c = sym (ap (texts_left c.args.texts.now c.args.work) c.close.ensures.adds.holds.answer)

pub returns-in-StoreSql-clause-adds : goal.returns-in-StoreSql-clause-adds
returns-in-StoreSql-clause-adds g c =
    adds_none _ _ _ _ _ _ _ _ _ _ _ (store_waits c.args.state _ c.store_sql.ensures.answer)
    (store_polls _ _ _ _ _ _ c.in-StoreSql.text c.store_sql.result c.todo_of.ensures c.in-StoreSql.is c.store_sql.ensures.answer)

pub returns-in-StoreSql-clause-agrees : goal.returns-in-StoreSql-clause-agrees
returns-in-StoreSql-clause-agrees g c = store_agrees _ _ _ _ _ c.args.state _ c.store_sql.ensures.answer c.requires.agrees

pub returns-in-StoreSql-clause-texts : goal.returns-in-StoreSql-clause-texts
returns-in-StoreSql-clause-texts g c = c.store_sql.ensures.texts ∙ ap (λ w. texts_left c.args.texts.now w c.store_sql.result) (sym (store_work _ _ _ c.in-StoreSql.text c.todo_of.ensures c.in-StoreSql.is))

pub returns-in-CloseSql-clause-adds : goal.returns-in-CloseSql-clause-adds
returns-in-CloseSql-clause-adds g c =
    adds_none _ _ _ _ _ _ _ _ _ _ _ (ap waits_on c.close_sql.ensures.answer)
    (close_sql_polls _ _ _ _ _ _ c.in-CloseSql.id c.close_sql.result c.todo_of.ensures c.in-CloseSql.is c.close_sql.ensures.answer)

pub returns-in-CloseSql-clause-texts : goal.returns-in-CloseSql-clause-texts
returns-in-CloseSql-clause-texts g c =
    let fits : FitsSigned w32 c.in-CloseSql.id = search rules in
    (simp to_z-of_z at c.close_sql.ensures.texts) ∙ ap (λ w. texts_left c.args.texts.now w c.close_sql.result) (sym (close_sql_work _ _ _ c.in-CloseSql.id c.todo_of.ensures c.in-CloseSql.is))

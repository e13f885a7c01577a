use Rattle.std.proofs.Common.{◌≡◌, length, arith}
use Rattle.std.proofs.lemmas.Bool.Decides.{nat_tests}
use Rattle.std.proofs.lemmas.Result.{on_ok_weaker}
use Rattle.hrana_stmt.proofs.SendingLemmas.{front_given}
use Rattle.hrana_stmt.proofs.statement_text.send_list_unless_empty.Goals as goal

pub returns-clause-sends : goal.returns-clause-sends
returns-clause-sends g c =
    let w = g.S.Serializer.written in
    let given : length c.args.items.now ≡ 0 → ⊥ = λ none. grind (arith, nat_tests) in
    on_ok_weaker c.send_list.result (λ sent. front_given c.args.items.now c.args.name.now _ (w c.args.out.now) (w c.key.new.self) (w c.send_list.new.out) given c.in_ok-key.ensures sent) c.send_list.ensures.sends

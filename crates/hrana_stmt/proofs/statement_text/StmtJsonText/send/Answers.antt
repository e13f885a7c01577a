use Rattle.std.proofs.Common.{Some, subst, codes}
use Rattle.std.proofs.lemmas.Result.{on_ok_weaker}
use Rattle.serde.specs.Event.{Logs, map_begins}
use Rattle.serde_json.specs.Data.{array}
use Rattle.hrana_value.specs.Written.{values_data}
use Rattle.hrana_value.specs.Sent.{SendsFront}
use Rattle.hrana_stmt.specs.Written.{is_empty, member_unless, named_args_data}
use Rattle.hrana_value.specs.Tree.{ValueTree}
use Rattle.hrana_value.specs.Trees.{ArrayTree}
use Rattle.hrana_stmt.specs.Tree.{NamedArgTree}
use Rattle.hrana_stmt.proofs.StmtWritten.{stmt_back}
use Rattle.hrana_stmt.proofs.statement_text.StmtJsonText.send.Goals as goal

pub returns-clause-sends : goal.returns-clause-sends
returns-clause-sends g c =
    let w = g.S.Serializer.written in
    let begun = subst (λ n. Logs (w c.args.out.now) (w c.begin_map.new.self) (map_begins (Some n))) c.member_count.ensures c.in_ok-begin_map.ensures in
    let args = subst (λ vs. SendsFront (member_unless (is_empty vs) (codes "args") (array (values_data vs))) (w c.begin_map.new.self) (w c.send_list_unless_empty.new.out)) c.as_slice.ensures c.in_ok-send_list_unless_empty.ensures.sends in
    let named = subst (λ ns. SendsFront (member_unless (is_empty ns) (codes "named_args") (named_args_data ns)) (w c.send_list_unless_empty.new.out) (w c.send_list_unless_empty-2.new.out)) c.as_slice-2.ensures c.in_ok-send_list_unless_empty-2.ensures.sends in
    on_ok_weaker c.end_map.result (λ e. (
      w c.begin_map.new.self,
      begun,
      args _ _ (named _ _ (c.in_ok-send_sql.ensures.sends _ _ (c.in_ok-send_want_rows.ensures _ _ e))),
    )) c.end_map.ensures

pub returns-clause-back : goal.returns-clause-back
returns-clause-back g c =
    let args = subst (λ vs. ArrayTree ValueTree vs (array (values_data vs))) c.as_slice.ensures c.in_ok-send_list_unless_empty.ensures.back in
    let named = subst (λ ns. ArrayTree NamedArgTree ns (named_args_data ns)) c.as_slice-2.ensures c.in_ok-send_list_unless_empty-2.ensures.back in
    on_ok_weaker c.end_map.result (λ e. stmt_back c.args.self.now args named c.in_ok-send_sql.ensures.fits) c.end_map.ensures

use Rattle.std.proofs.lemmas.Result.{on_ok_weaker}
use Rattle.ws_messages.specs.WrittenClient.{kind_member}
use Rattle.ws_messages.proofs.FrontLemmas.{id_sent}
use Rattle.ws_messages.proofs.request_text.end_on_stream.Goals as goal

pub returns-clause-sends : goal.returns-clause-sends
returns-clause-sends g c = on_ok_weaker c.end_with_kind.result (λ e. id_sent _ c.args.stream_id _ _ c.ranges.stream_id c.in_ok-send_id.ensures.sends (kind_member c.args.kind) (g.S.Serializer.written c.end_with_kind.new.out) e) c.end_with_kind.ensures

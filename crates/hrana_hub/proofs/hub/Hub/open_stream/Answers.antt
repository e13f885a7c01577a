use Rattle.std.proofs.Common.{◌≡◌, ◌∙◌, sym, ap, None, Ok, false, length, nat_le}
use Rattle.std.proofs.lemmas.Int.{to_z-of_z}
use Rattle.stream_requests.specs.declared.replies.Reply.TheVariants as reply
use Rattle.ws_messages.specs.Server.{answering}
use Rattle.hrana_hub.specs.declared.limits.TheConstants.{MAX_STREAMS}
use Rattle.hrana_hub.specs.Arrivals.{saying, opens, with_stream}
use Rattle.hrana_hub.specs.Maps.{at, id_at}
use Rattle.hrana_hub.specs.State.{Conn, Seen}
use Rattle.hrana_hub.proofs.ArrivalLemmas.{opens_is, arrives_as, none_at}
use Rattle.hrana_hub.proofs.MapLemmas.{some_one}
use Rattle.hrana_hub.proofs.hub.Hub.open_stream.Goals as goal

pub returns : goal.returns
returns c = λ k known.
    let old = c.args.self.now in
    let conn = c.args.conn in
    let id = c.args.id in
    let fits = c.ranges.id in
    let its = c.ranges.request_id in
    let there = ap (λ (s : Seen). at conn s.state.conns) c.self.view_is ∙ known in
    let same = some_one (sym c.in-Some.ensures ∙ there) in
    let stream_of = simp to_z-of_z at c.stream_of.ensures in
    let free : id_at id k.ids ≡ None = ap (λ (l : Conn). id_at id l.ids) (sym same) ∙ (sym stream_of ∙ none_at c.stream_of.result (sym c.is_some.ensures ∙ c.if-is_some.false)) in
    let few : nat_le MAX_STREAMS (length k.streams) ≡ false = ap (λ (l : Conn). nat_le MAX_STREAMS (length l.streams)) (sym same) ∙ sym c.if-is_full.ensures in
    arrives_as (saying conn (answering c.args.request_id reply.StreamOpened) (with_stream conn k id old.state)) (opens (id_at id k.ids) conn k c.args.request_id id old.state) (Ok c.in_ok-outs.outs) old c.join.new.self
    (opens_is (id_at id k.ids) conn k c.args.request_id id old.state free few) (simp to_z-of_z at c.in_ok-outs.ensures, simp to_z-of_z at (c.in_ok-join.ensures.ok k known))

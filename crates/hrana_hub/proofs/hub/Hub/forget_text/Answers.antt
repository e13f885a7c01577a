use Rattle.std.proofs.Common.{◌∙◌, ap, w32}
use Rattle.std.proofs.lemmas.Int.{to_z-of_z}
use Rattle.stream_requests.specs.declared.replies.Reply.TheVariants as reply
use Rattle.ws_messages.specs.Server.{answering}
use Rattle.hrana_hub.specs.Arrivals.{tells, with_texts}
use Rattle.hrana_hub.specs.Maps.{at, put}
use Rattle.hrana_hub.specs.State.{Seen}
use Rattle.stream_task.specs.Texts.{without_text}
use Rattle.hrana_hub.specs.contracts.hub.Hub.{the_view}
use Rattle.hrana_hub.proofs.ArrivalLemmas.{conn_after}
use Rattle.hrana_hub.proofs.hub.Hub.forget_text.Goals as goal

pub returns : goal.returns
returns c = λ k known.
    let h = c.self.inside in
    let given = c.in_ok-outs.ensures ∙ ap (λ id. tells c.args.conn (answering id reply.SqlClosed)) (to_z-of_z w32 c.args.request_id c.ranges.request_id) in
    let there = ap (λ (s : Seen). at c.args.conn s.state.conns) c.self.view_is ∙ known in
    let left = c.forget_text.ensures k there ∙ ap (λ id. put c.args.conn (with_texts (without_text id k.texts) k) h.conns) (to_z-of_z w32 c.args.id c.ranges.id) in (
      given,
      conn_after c.args.conn (with_texts (without_text c.args.id k.texts) k) c.forget_text.new.self (the_view h) c.args.self.now c.self.view_is left,
    )

use Rattle.std.proofs.Common.{◌∙◌, ap, Some}
use Rattle.hrana_hub.specs.Maps.{put}
use Rattle.hrana_hub.specs.Polled.{replied}
use Rattle.hrana_hub.specs.State.{Conn}
use Rattle.hrana_hub.proofs.MapLemmas.{some_one}
use Rattle.hrana_hub.proofs.connections.Connections.answered.Goals as goal

pub returns-in-Some : goal.returns-in-Some
returns-in-Some c = λ k reply is.
    let known = some_one (c.in-Some.ensures.value ∙ is) in
    ap (λ (x : Conn). put c.args.conn x c.args.self.now) (c.answered.ensures reply ∙ ap (replied c.args.stream c.args.over (Some reply)) known)

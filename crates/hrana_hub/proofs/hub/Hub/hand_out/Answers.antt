use Rattle.std.proofs.Common.{◌≡◌, ◌∙◌, ◌+◌, Some, ap}
use Rattle.pipeline_body.specs.Exchanges.{pipeline_answer}
use Rattle.baton_store.specs.Text.{text_of}
use Rattle.hrana_hub.specs.Exchanges.{answers_with, next_baton}
use Rattle.hrana_hub.specs.Maps.{at}
use Rattle.hrana_hub.specs.State.{Seen}
use Rattle.hrana_hub.specs.contracts.hub.Hub.{the_view}
use Rattle.hrana_hub.proofs.ExchangePolling.{handed_out}
use Rattle.hrana_hub.proofs.hub.Hub.hand_out.Goals as goal

-- the text is that of the next baton
named : (c : goal.After-answers_with) → c.issue-baton.result.text ≡ next_baton c.args.words c.args.self.now.state
named c = c.issue-baton.ensures.text ∙ ap (λ (h : Seen). text_of (h.store.issued + 1) c.args.words) c.self.view_is ∙ ap (λ k. text_of (k + 1) c.args.words) c.requires.issued

pub returns-clause-given : goal.returns-clause-given
returns-clause-given c = λ results close e. c.answers_with.ensures ∙ ap (answers_with c.args.conn) (c.with_baton.ensures results close e ∙ ap (λ t. pipeline_answer results (Some t) close) (named c))

pub returns-clause-hub : goal.returns-clause-hub
returns-clause-hub c = λ x known.
    handed_out c.args.stream c.args.conn c.args.words x (the_view c.self.inside) c.args.self.now (the_view c.self-2.inside) c.issue-baton.result.text c.issue-baton.new.self c.remove-stream.new.self c.self.view_is (named c) c.issue-baton.ensures.store
    (c.self-2.view_is ∙ c.rest_with.ensures x (ap (λ (h : Seen). at c.args.stream h.state.streams) c.self.view_is ∙ known)) c.remove-stream.ensures.rest

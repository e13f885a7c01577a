use Rattle.std.proofs.Common.{◌∙◌, false, true≢false, [], sym, ap, subst}
use Rattle.hrana_hub.specs.Moments.{LossFrees}
use Rattle.hrana_hub.specs.Step.{Comes, TextSteps, is_exchange}
use Rattle.hrana_hub.proofs.ArrivalAgreeing.{text_agrees, binary_agrees, opened_agrees}
use Rattle.hrana_hub.proofs.ArrivalAdding.{text_adds, binary_adds, opened_adds}
use Rattle.hrana_hub.proofs.Stepping.{opened_comes, text_comes, binary_comes}
use Rattle.hrana_hub.proofs.hub.Hub.happen.Goals as goal

pub returns-in-Opened-clause-agrees : goal.returns-in-Opened-clause-agrees
returns-in-Opened-clause-agrees g c = opened_agrees _ _ _ _ c.in-Opened.conn false c.args.self.now c.open.new.self c.a_stream_joins.ensures c.requires.ahead c.requires.agrees c.open.ensures.state c.open.ensures.rest

pub returns-in-Text-clause-agrees : goal.returns-in-Text-clause-agrees
returns-in-Text-clause-agrees g c = text_agrees _ _ _ _ c.args.self.now.token c.in-Text.conn _ c.text-in-Text.result c.args.self.now c.text-in-Text.new.self c.a_stream_joins.ensures c.requires.ahead c.requires.agrees c.text-in-Text.ensures.step c.text-in-Text.ensures.rest

pub returns-in-Binary-clause-agrees : goal.returns-in-Binary-clause-agrees
returns-in-Binary-clause-agrees g c = binary_agrees _ _ _ _ c.in-Binary.conn c.binary.result c.args.self.now c.binary.new.self c.a_stream_joins.ensures c.requires.ahead c.requires.agrees c.binary.ensures.step c.binary.ensures.rest

pub returns-in-Opened-clause-adds : goal.returns-in-Opened-clause-adds
returns-in-Opened-clause-adds g c =
    let s = c.args.self.now.state in
    let new = c.open.new.self.state in
    let token = c.args.self.now.token in
    opened_adds c.args.engine.now c.args.self.now c.open.new.self _ c.a_joined_stream_stands.ensures c.requires.agrees c.open.ensures.rest.noted c.open.ensures.rest.turns
    (subst (λ e. Comes token g.E.Engine.SHARED s e [] c.open.result new) (sym c.in-Opened.is) (opened_comes token g.E.Engine.SHARED s new c.in-Opened.conn c.open.result c.open.ensures.given c.open.ensures.state)) c.in-Opened.conn false c.open.ensures.state

pub returns-in-Text-clause-adds : goal.returns-in-Text-clause-adds
returns-in-Text-clause-adds g c =
    let s = c.args.self.now.state in
    let new = c.text-in-Text.new.self.state in
    let token = c.args.self.now.token in
    let steps = subst (λ text. TextSteps token s c.in-Text.conn text c.text-in-Text.result new) c.as_slice.ensures c.text-in-Text.ensures.step in
    text_adds c.args.engine.now c.args.self.now c.text-in-Text.new.self _ c.a_joined_stream_stands.ensures c.requires.agrees c.text-in-Text.ensures.rest.noted c.text-in-Text.ensures.rest.turns
    (subst (λ e. Comes token g.E.Engine.SHARED s e [] c.text-in-Text.result new) (sym c.in-Text.is) (text_comes token g.E.Engine.SHARED s new c.in-Text.conn _ c.text-in-Text.result steps)) token c.in-Text.conn _ c.text-in-Text.result c.text-in-Text.ensures.step

pub returns-in-Binary-clause-adds : goal.returns-in-Binary-clause-adds
returns-in-Binary-clause-adds g c =
    let s = c.args.self.now.state in
    let new = c.binary.new.self.state in
    let token = c.args.self.now.token in
    binary_adds c.args.engine.now c.args.self.now c.binary.new.self _ c.a_joined_stream_stands.ensures c.requires.agrees c.binary.ensures.rest.noted c.binary.ensures.rest.turns
    (subst (λ e. Comes token g.E.Engine.SHARED s e [] c.binary.result new) (sym c.in-Binary.is) (binary_comes token g.E.Engine.SHARED s new c.in-Binary.conn c.binary.result c.binary.ensures.step)) c.in-Binary.conn c.binary.result c.binary.ensures.step

pub returns-in-Moment-clause-freed : goal.returns-in-Moment-clause-freed
returns-in-Moment-clause-freed g c = subst (λ e. LossFrees e c.args.self.now c.moment.new.self) (sym c.in-Moment.is) c.moment.ensures.freed

pub returns-in-Exchange-clause-adds : goal.returns-in-Exchange-clause-adds
returns-in-Exchange-clause-adds g c = absurd (true≢false (sym (ap is_exchange c.in-Exchange.is) ∙ c.requires.other))

pub returns-in-Exchange-clause-agrees : goal.returns-in-Exchange-clause-agrees
returns-in-Exchange-clause-agrees g c = absurd (true≢false (sym (ap is_exchange c.in-Exchange.is) ∙ c.requires.other))

pub returns-in-Exchange-clause-freed : goal.returns-in-Exchange-clause-freed
returns-in-Exchange-clause-freed g c = absurd (true≢false (sym (ap is_exchange c.in-Exchange.is) ∙ c.requires.other))

use Rattle.std.proofs.Common.{Some, sym, ◌∙◌, ap}
use Rattle.serde_json.specs.View.{view}
use Rattle.ws_messages.proofs.ServerLemmas.{response_read}
use Rattle.ws_messages.proofs.response_json.response_of_json.Goals as goal

pub returns-in-Some-kind_of_name : goal.returns-in-Some-kind_of_name
returns-in-Some-kind_of_name c =
    let k = c.in-Some-kind_of_name.kind in
    response_read k (view c.args.json.now) c.response_of_kind.result (sym c.in-Some.ensures ∙ ap Some (sym c.in-Some-kind_of_name.ensures)) c.response_of_kind.ensures

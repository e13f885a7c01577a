use Rattle.std.proofs.Common.{Some, codes, sym, ◌∙◌, ap, refl}
use Rattle.serde_json.specs.View.{view}
use Rattle.hrana_value.proofs.TextLemmas.{apart}
use Rattle.ws_messages.proofs.RequestLemmas.{request_read, unknown_read}
use Rattle.ws_messages.proofs.request_json.request_of_json.Goals as goal

pub returns-in-Some-kind_of_name : goal.returns-in-Some-kind_of_name
returns-in-Some-kind_of_name c =
    let k = c.in-Some-kind_of_name.kind in
    request_read k (view c.args.json.now) c.request_of_members.result (sym c.in-Some.ensures ∙ ap Some (sym c.in-Some-kind_of_name.ensures)) c.request_of_members.ensures

pub returns-in-None : goal.returns-in-None
returns-in-None c =
    let s = c.in-Some.text.now in
    unknown_read (view c.args.json.now) s (sym c.in-Some.ensures) (λ e. apart (Some s) s (codes "describe") (sym c.if-eq.ensures) refl (ap Some e)) c.in-None.ensures

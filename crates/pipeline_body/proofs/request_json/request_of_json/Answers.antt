use Rattle.std.proofs.Common.{Some, codes, sym, ◌∙◌, ap, refl}
use Rattle.serde_json.specs.View.{view}
use Rattle.hrana_value.proofs.TextLemmas.{apart}
use Rattle.pipeline_body.proofs.RequestLemmas.{request_read, unknown_read}
use Rattle.pipeline_body.proofs.request_json.request_of_json.Goals as goal

pub returns-in-Some-pipeline_kind_of_name : goal.returns-in-Some-pipeline_kind_of_name
returns-in-Some-pipeline_kind_of_name c =
    let arm = c.in-Some-pipeline_kind_of_name in
    request_read arm.kind (view c.args.json.now) c.ask_of_json.result (record { over_http = arm.ensures.0; name = sym c.in-Some.ensures ∙ ap Some (sym arm.ensures.1) }) c.ask_of_json.ensures

pub returns-in-None : goal.returns-in-None
returns-in-None c =
    let s = c.in-Some.text.now in
    unknown_read (view c.args.json.now) s (sym c.in-Some.ensures) (λ e. apart (Some s) s (codes "describe") (sym c.if-eq.ensures) refl (ap Some e)) c.in-None.ensures

use Rattle.std.proofs.Common.{◌≡◌, Some, sym, ap, ◌∙◌, subst}
use Rattle.serde_json.specs.Data.{Data}
use Rattle.serde_json.specs.Read.{read}
use Rattle.serde_json.specs.View.{view}
use Rattle.hrana_value.proofs.sending.json_of.Goals as goal

same_of : (d e : Data) → Some d ≡ Some e → d ≡ e
same_of d e p = cc p

pub returns-in-Ok : goal.returns-in-Ok
returns-in-Ok g c =
    let read_as = sym c.in-Ok.ensures.ok ∙ ap read c.as_str.ensures ∙ c.in_ok-text.ensures.reads_back c.requires in
    let same : view c.in-Ok.json ≡ g.T.JsonText.form c.args.value.now = same_of _ _ read_as in
    record { written = same; reads_back = subst (g.T.JsonText.tree c.args.value.now) (sym same) c.in_ok-text.ensures.back }

use Rattle.std.proofs.Common.{Some, codes, sym, ◌∙◌, ap}
use Rattle.serde_json.specs.View.{view}
use Rattle.hrana_value.specs.Members.{HasText}
use Rattle.hrana_value.specs.declared.value.Value.TheVariants.{Text}
use Rattle.hrana_value.proofs.TreeLemmas.{value_read}
use Rattle.hrana_value.proofs.tree.text_value_of_json.Goals as goal

pub returns : goal.returns
returns c =
    let has : HasText (view c.args.json.now) (codes "value") c.in_ok-new.field-0 = sym c.in-Some.ensures ∙ ap Some (sym c.in_ok-new.ensures) in
    value_read (Text c.in_ok-new.field-0) (view c.args.json.now) (c.requires, has)

use Rattle.std.proofs.Common.{sym}
use Rattle.serde_json.specs.View.{view}
use Rattle.hrana_value.specs.declared.value.Value.TheVariants.{Blob}
use Rattle.hrana_value.proofs.TreeLemmas.{value_read}
use Rattle.hrana_value.proofs.tree.blob_of_json.Goals as goal

pub returns : goal.returns
returns c = value_read (Blob c.in_ok-bytes_of_base64.field-0) (view c.args.json.now) (c.requires, (c.in-Some.text.now, sym c.in-Some.ensures, c.in_ok-bytes_of_base64.ensures.ok))

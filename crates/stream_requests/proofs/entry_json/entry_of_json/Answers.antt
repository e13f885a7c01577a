use Rattle.std.proofs.Common.{Some, sym, ◌∙◌, ap}
use Rattle.serde_json.specs.View.{view}
use Rattle.stream_requests.proofs.EntryLemmas.{entry_read}
use Rattle.stream_requests.proofs.entry_json.entry_of_json.Goals as goal

pub returns-in-Some-entry_kind_of : goal.returns-in-Some-entry_kind_of
returns-in-Some-entry_kind_of c =
    let k = c.in-Some-entry_kind_of.kind in
    entry_read k (view c.args.json.now) c.entry_of_members.result (sym c.in-Some.ensures ∙ ap Some (sym c.in-Some-entry_kind_of.ensures)) c.entry_of_members.ensures

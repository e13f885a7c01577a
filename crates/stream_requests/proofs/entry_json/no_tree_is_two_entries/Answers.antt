use Rattle.stream_requests.proofs.EntryLemmas.{EntryTree-one}
use Rattle.stream_requests.proofs.entry_json.no_tree_is_two_entries.Goals as goal

pub returns : goal.returns
returns c = EntryTree-one

use Rattle.stream_requests.proofs.EntryLemmas.{EntryTree-none}
use Rattle.stream_requests.proofs.entry_json.entries_are_read.Goals as goal

pub returns : goal.returns
returns c = EntryTree-none

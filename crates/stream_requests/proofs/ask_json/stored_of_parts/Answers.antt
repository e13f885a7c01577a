use Rattle.hrana_value.proofs.DeclineLemmas.{Reads-joined}
use Rattle.stream_requests.proofs.ask_json.stored_of_parts.Goals as goal

pub returns : goal.returns
returns c = Reads-joined c.both_readings.ensures c.int32_of_json-id.ensures.reads c.stored_text_of_json.ensures

use Rattle.hrana_value.proofs.DeclineLemmas.{Reads-joined}
use Rattle.ws_messages.proofs.request_json.asked_of_parts.Goals as goal

pub returns : goal.returns
returns c = Reads-joined c.both_readings.ensures c.int32_of_json-stream_id.ensures.reads c.ask_of_json.ensures

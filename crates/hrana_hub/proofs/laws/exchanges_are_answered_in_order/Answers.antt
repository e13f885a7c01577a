use Rattle.hrana_hub.proofs.TalkRuns.{answers_in_order}
use Rattle.hrana_hub.proofs.laws.exchanges_are_answered_in_order.Goals as goal

pub returns : goal.returns
returns c = answers_in_order c.replies_stand_in_order.ensures c.no_bytes_have_two_body_readings.ensures c.each_request_has_its_result.ensures c.asks_of_bodies_fit.ensures c.streams_are_closed_by_closes.ensures

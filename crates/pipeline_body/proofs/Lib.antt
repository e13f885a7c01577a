-- Where the clauses are proved that the check doesn't prove by itself:
--   decode_pipeline: ok, refused                  request_json/, pipelines/limited_body_of_json, by RequestLemmas, BodyLemmas
--   no_tree_is_two_pipeline_bodies, fitting_asks_are_taken    pipelines/, by BodyLemmas, RequestLemmas
--   no_bytes_have_two_body_readings               pipelines/, by BodyLemmas
--   encode_pipeline: written, reads_back          sending/, pipelines/encode_pipeline, by WrittenLemmas
--   decode_pipeline_answer: refused               answers/told_answer_of_json, by AnswerLemmas
--   no_tree_is_two_pipeline_answers, pipeline_answers_are_read    answers/, by AnswerLemmas
--   no_bytes_have_two_answer_readings             answers/, by AnswerLemmas
--   encode_pipeline_answer: written, reads_back   sending/, answers/encode_pipeline_answer, by WrittenLemmas
--   each_request_has_its_result, asks_of_bodies_fit    exchange/, by ExchangeLemmas
--   Exchange::into_blank_answer, BlankAnswer::with_baton      batons/, by BatonLemmas
pub mod AnswerLemmas
pub mod BodyLemmas
pub mod RequestLemmas
pub mod WrittenLemmas
pub mod ExchangeLemmas
pub mod BatonLemmas

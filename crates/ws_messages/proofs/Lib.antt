-- Where the clauses are proved that the check doesn't prove by itself:
--   kind_of_name, request_kinds_differ            kinds/, by KindLemmas
--   decode_client: ok, declined                   request_json/, client/numbered_of_json, by RequestLemmas
--   no_tree_is_two_client_messages, fitting_client_messages_are_read    client/, by ClientLemmas, RequestLemmas
--   no_text_has_two_client_answers                client/, by AnswerLemmas
--   encode_client: written, reads_back            request_text/, sending/, client/encode_client, by ClientWritten, FrontLemmas
--   decode_server: ok, violation, declined        response_json/, server/ok_of_json, by ServerLemmas
--   no_tree_is_two_server_messages, server_messages_are_read    server/, by ServerLemmas
--   no_text_has_two_server_answers                server/, by ServerAnswerLemmas
--   encode_server: written, reads_back            sending/, server/encode_server, by ServerWritten, FrontLemmas
pub mod AnswerLemmas
pub mod ClientLemmas
pub mod ClientWritten
pub mod FrontLemmas
pub mod KindLemmas
pub mod RequestLemmas
pub mod ServerAnswerLemmas
pub mod ServerLemmas
pub mod ServerWritten

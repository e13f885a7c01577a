use Rattle.std.proofs.Common.{inl, sym, ap, ◌∙◌}
use Rattle.std.proofs.lemmas.Int.{to_z-of_z}
use Rattle.std.specs.Int.{w32}
use Rattle.serde_json.specs.View.{view}
use Rattle.stream_requests.proofs.BatchFacts.{results_none}
use Rattle.stream_requests.proofs.ReplyLemmas.{ReplyMembers-none}
use Rattle.ws_messages.specs.Failures.{rest_failure}
use Rattle.ws_messages.proofs.ServerLemmas.{ok_rest, rest_violates, rest_declines}
use Rattle.ws_messages.proofs.server.ok_of_json.Goals as goal

pub returns-in-Err-clause-violation : goal.returns-in-Err-clause-violation
returns-in-Err-clause-violation c = λ why e.
    let t = view c.args.json.now in let id = c.in-Some.request_id in let f = c.in-Err.fail in
    rest_violates (ReplyMembers-none results_none) t id f why (inl c.requires) c.in-Some.ensures (ok_rest t (view c.member_or_null.result.now) f c.member_or_null.ensures c.requires c.in-Err.ensures.declined)
    (sym (c.rest_failure.ensures ∙ ap (λ z. rest_failure z f) (to_z-of_z w32 id c.in-Some.ensures.fits)) ∙ e)

pub returns-in-Err-clause-declined : goal.returns-in-Err-clause-declined
returns-in-Err-clause-declined c = λ i d e.
    let t = view c.args.json.now in let id = c.in-Some.request_id in let f = c.in-Err.fail in
    rest_declines t id f i d (inl c.requires) c.in-Some.ensures (ok_rest t (view c.member_or_null.result.now) f c.member_or_null.ensures c.requires c.in-Err.ensures.declined)
    (sym (c.rest_failure.ensures ∙ ap (λ z. rest_failure z f) (to_z-of_z w32 id c.in-Some.ensures.fits)) ∙ e)

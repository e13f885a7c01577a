use Rattle.std.proofs.Common.{◌≡◌, ap, ◌∙◌, arith}
use Rattle.pipeline_body.specs.Batons.{blank}
use Rattle.pipeline_body.proofs.BatonLemmas.{body_of, has_place}
use Rattle.pipeline_body.proofs.batons.blank_answer.Goals as goal

pub invariant_of-result : goal.invariant_of-result
invariant_of-result c =
    let written : c.into_bytes.result.items ≡ body_of c.args.results blank =
    ap (λ v. v.items) c.into_bytes.ensures.value ∙ (c.into_string.ensures ∙ (c.in_ok-text.ensures.written ∙ ap (body_of c.args.results) c.in_ok-blank_baton.ensures)) in
    omega (arith, has_place c.args.results c.into_bytes.result.items written, c.into_bytes.result.ok)

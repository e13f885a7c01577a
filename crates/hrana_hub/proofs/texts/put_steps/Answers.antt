use Rattle.std.proofs.Common.{◌∙◌, sym, ap, List}
use Rattle.hrana_batch.specs.declared.batches.Step.{Step}
use Rattle.hrana_hub.specs.Texts.{put_steps}
use Rattle.hrana_hub.proofs.TextLemmas.{steps_behind, put_more}
use Rattle.hrana_hub.proofs.texts.put_steps.Goals as goal

pub loop-step-preserved : goal.loop-step-preserved
loop-step-preserved c =
    let texts = c.args.texts.now in
    let left = c.next.new.self.rest.items in
    let put = put_more texts c.loop-step.put c.in-Some.step c.in-Some-2.step left (sym c.in_ok-step.ensures ∙ c.in-Some-2.is) in
    let step = c.in-Some.ensures.steps.0 in
    let same = ap (λ (steps : List Step). steps_behind c.loop-step.put (put_steps texts steps)) (sym step) in
    rw c.in_ok-push-in-Some-2.ensures.ok (sym put ∙ (same ∙ c.loop-step.invariant))

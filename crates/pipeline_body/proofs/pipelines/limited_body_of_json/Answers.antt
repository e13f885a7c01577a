use Rattle.std.proofs.Common.{subst}
use Rattle.serde_json.specs.View.{view}
use Rattle.hrana_value.specs.Declines.{IsFirst, IsDeclinedAs}
use Rattle.pipeline_body.specs.Bodies.{BodyStands}
use Rattle.pipeline_body.proofs.BodyLemmas.{BodyTree-none}
use Rattle.pipeline_body.proofs.pipelines.limited_body_of_json.Goals as goal

pub returns-in-Err-Declined-clause-refused : goal.returns-in-Err-Declined-clause-refused
returns-in-Err-Declined-clause-refused c =
    let t = view c.args.json.now in let arm = c.in-Err-Declined in
    let first : IsFirst (BodyStands t) arm.field-0-0 = subst (IsDeclinedAs (BodyStands t)) arm.field-0-is arm.ensures.declined in
    λ b tree. BodyTree-none b t tree arm.field-0-0 first.stands_itself

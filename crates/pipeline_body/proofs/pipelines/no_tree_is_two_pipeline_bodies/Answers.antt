use Rattle.pipeline_body.proofs.BodyLemmas.{BodyTree-one}
use Rattle.pipeline_body.proofs.pipelines.no_tree_is_two_pipeline_bodies.Goals as goal

pub returns : goal.returns
returns c = BodyTree-one c.no_members_are_two_asks.ensures

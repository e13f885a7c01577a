use Rattle.pipeline_body.proofs.BodyLemmas.{BodyReading-one}
use Rattle.pipeline_body.proofs.pipelines.no_bytes_have_two_body_readings.Goals as goal

pub returns : goal.returns
returns c = BodyReading-one c.no_tree_is_two_pipeline_bodies.ensures

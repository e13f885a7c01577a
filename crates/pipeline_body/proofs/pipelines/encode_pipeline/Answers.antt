use Rattle.pipeline_body.proofs.WrittenLemmas.{encoded_body}
use Rattle.pipeline_body.proofs.pipelines.encode_pipeline.Goals as goal

pub returns-clause-reads_back : goal.returns-clause-reads_back
returns-clause-reads_back c = let text = c.text_of.ensures in encoded_body c.args.body.now c.text_of.result c.requires text.utf8 text.reads_back text.back

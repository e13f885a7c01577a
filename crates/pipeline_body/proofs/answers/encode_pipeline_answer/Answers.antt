use Rattle.pipeline_body.proofs.WrittenLemmas.{encoded_answer}
use Rattle.pipeline_body.proofs.answers.encode_pipeline_answer.Goals as goal

pub returns-clause-reads_back : goal.returns-clause-reads_back
returns-clause-reads_back c = let text = c.text_of.ensures in encoded_answer c.args.answer.now c.text_of.result c.requires text.utf8 text.reads_back text.back

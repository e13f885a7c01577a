use Rattle.serde_json.specs.View.{view}
use Rattle.hrana_batch.proofs.BatchReadings.{batch_read}
use Rattle.hrana_batch.proofs.FitsLemmas.{read_fits, read_earlier}
use Rattle.hrana_batch.proofs.batch_json.batch_of_json.Goals as goal

pub returns-clause-reads : goal.returns-clause-reads
returns-clause-reads c = batch_read (view c.args.json.now) (view c.member_or_null.result.now) c.batch_of_parts.result c.member_or_null.ensures c.batch_of_parts.ensures

pub returns-clause-fits : goal.returns-clause-fits
returns-clause-fits c = read_fits (view c.args.json.now) c.batch_of_parts.result (batch_read (view c.args.json.now) (view c.member_or_null.result.now) c.batch_of_parts.result c.member_or_null.ensures c.batch_of_parts.ensures)

pub returns-clause-earlier : goal.returns-clause-earlier
returns-clause-earlier c = read_earlier (view c.args.json.now) c.batch_of_parts.result (batch_read (view c.args.json.now) (view c.member_or_null.result.now) c.batch_of_parts.result c.member_or_null.ensures c.batch_of_parts.ensures)

use Rattle.std.proofs.Common.{arith}
use Rattle.hrana_value.proofs.WrittenLemmas.{blob_back}
use Rattle.hrana_value.proofs.sending.send_blob.Goals as goal

pub returns-in-Ok-clause-back : goal.returns-in-Ok-clause-back
returns-in-Ok-clause-back g c = blob_back c.args.bytes.now (λ i. let h = c.type_inv.bytes i in omega arith)

pub returns-in-Err-clause-back : goal.returns-in-Err-clause-back
returns-in-Err-clause-back g c = blob_back c.args.bytes.now (λ i. let h = c.type_inv.bytes i in omega arith)

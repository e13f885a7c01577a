use Rattle.std.proofs.Common.{◌≡◌, All, length}
use Rattle.stream_requests.specs.Results.{IsPipelineReply}
use Rattle.pipeline_body.specs.Exchanges.{passed}
use Rattle.pipeline_body.proofs.exchange.Exchange.pass.Given as goal

abbrev pub invariant-loop-why : goal.invariant-loop-why
invariant-loop-why l = record {
  passed : passed l.fn.self.results l.fn.self.left ≡ passed l.self-inside.results l.self-inside.left.items;
  formed : All IsPipelineReply l.self-inside.results;
}

abbrev pub decreases-loop-why : goal.decreases-loop-why
decreases-loop-why l = length l.self-inside.left.items

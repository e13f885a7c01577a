use Rattle.std.proofs.Common.{◌≡◌, ◌++◌, map}
use Rattle.pipeline_body.specs.Exchanges.{asked_in, place_of}
use Rattle.pipeline_body.proofs.exchange.Exchange.begin.Given as goal

-- the requests so far, and those that are left
abbrev pub invariant-loop-ask : goal.invariant-loop-ask
invariant-loop-ask l = record {
  places : map place_of l.fn.asks ≡ l.left.items ++ map place_of l.ask-iterator.rest.items;
  asked : asked_in l.fn.asks ≡ l.asked ++ asked_in l.ask-iterator.rest.items;
}

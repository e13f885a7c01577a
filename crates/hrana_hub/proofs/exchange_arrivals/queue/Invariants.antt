use Rattle.std.proofs.Common.{◌≡◌, ◌++◌}
use Rattle.hrana_hub.specs.Exchanges.{works_of}
use Rattle.hrana_hub.proofs.exchange_arrivals.queue.Given as goal

-- the requests so far, and those that are left
abbrev pub invariant-loop-ask : goal.invariant-loop-ask
invariant-loop-ask l = works_of l.fn.asks ≡ l.queued ++ works_of l.ask-iterator.rest.items

-- Whom a stream answers.
use Rattle.std.specs.Prelude.{List, Option, None, Some}
use Rattle.stream_task.specs.Polls.{with_asks}
use Rattle.stream_task.specs.declared.work.Work.{Work}
use Rattle.hrana_hub.specs.declared.sessions.Running.{Running as Exchange}
use Rattle.hrana_hub.specs.declared.sessions.Session.{Session}
use Rattle.hrana_hub.specs.declared.sessions.Session.TheVariants.{Resting, Running}
use Rattle.hrana_hub.specs.declared.slot.Asker.{Asker}
use Rattle.hrana_hub.specs.declared.slot.Asker.TheVariants as asker
use Rattle.hrana_hub.specs.State.{Stream}

abbrev pub exchange_in : Option Session → Option Exchange
exchange_in None = None
exchange_in (Some (Resting baton)) = None
exchange_in (Some (Running e)) = Some e

-- the exchange of it that runs
abbrev pub running_of : Stream → Option Exchange
running_of x = exchange_in x.session

abbrev pub asker_in : Option Session → Stream → Asker
asker_in None x = asker.Connection x.conn
asker_in (Some (Resting baton)) x = asker.Nobody
asker_in (Some (Running e)) x = asker.Exchange e.conn e.close

abbrev pub asker_of : Stream → Asker
asker_of x = asker_in x.session x

-- it is asked these, in the place of what it waited with
abbrev pub asks_these : List Work → Stream → Stream
asks_these works x = record x { task = with_asks x.task x.task.session.state works }

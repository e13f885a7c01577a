-- What comes in by sockets.
use Rattle.std.specs.Prelude.{◌≢◌, Option, Some, Result, Ok}
use Rattle.hrana_value.specs.declared.failures.NoMemory.{NoMemory}
use Rattle.http_wire.specs.declared.asks.WireFail.TheVariants as wire
use Rattle.hrana_front.specs.declared.front.Took.TheVariants as took
use Rattle.hrana_front.specs.declared.plain.Heard.{Heard}
use Rattle.hrana_front.specs.declared.plain.Heard.TheVariants as heard

-- what came isn't refused for want of memory
abbrev pub NeverForMemory : Result (Option Heard) NoMemory → Type 0
NeverForMemory result = result ≢ Ok (Some (heard.Took (took.Refused wire.NoMemory)))

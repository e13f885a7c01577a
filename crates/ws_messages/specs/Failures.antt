-- What is answered where the rest of a numbered message of the server could not be read.
use Rattle.std.specs.Prelude.{ℤ}
use Rattle.hrana_value.specs.declared.failures.Decline.TheVariants.{Float}
use Rattle.hrana_value.specs.declared.failures.ReadFail.{ReadFail}
use Rattle.hrana_value.specs.declared.failures.ReadFail.TheVariants as reading
use Rattle.ws_messages.specs.declared.messages.MsgFail.{MsgFail}
use Rattle.ws_messages.specs.declared.messages.MsgFail.TheVariants.{Violation, Declined, NoMemory}
use Rattle.ws_messages.specs.declared.messages.Why.TheVariants.{BadReply}

-- a float is declined, and all else is a bad reply
abbrev pub rest_failure : ℤ → ReadFail → MsgFail
rest_failure id (reading.Declined Float) = Declined id Float
rest_failure id (reading.Declined d) = Violation BadReply
rest_failure id reading.NoMemory = NoMemory

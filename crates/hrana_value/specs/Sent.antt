-- What is sent of an object, front by front.
use Rattle.serde.specs.Event.{Log}
use Rattle.serde_json.specs.Data.{Members}
use Rattle.serde_json.specs.Events.{SendsMembers}

-- the members that stand first are sent: whatever then sends the others and the end has sent all of them
abbrev pub SendsFront : (Members → Members) → Log → Log → Type 0
SendsFront front old new = (rest : Members) (end : Log) → SendsMembers rest new end → SendsMembers (front rest) old end

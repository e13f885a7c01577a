-- What is answered where a tree could not be read.
use Rattle.hrana_value.specs.declared.failures.Decline.TheVariants.{Float}
use Rattle.hrana_value.specs.declared.failures.ReadFail.{ReadFail}
use Rattle.hrana_value.specs.declared.failures.ReadFail.TheVariants as reading
use Rattle.pipeline_body.specs.declared.bodies.BodyFail.{BodyFail}
use Rattle.pipeline_body.specs.declared.bodies.BodyFail.TheVariants.{Shape, Declined, NoMemory}

-- a float is declined, and all else has no form
abbrev pub answer_failure : ReadFail → BodyFail
answer_failure (reading.Declined Float) = Declined Float
answer_failure (reading.Declined d) = Shape
answer_failure reading.NoMemory = NoMemory

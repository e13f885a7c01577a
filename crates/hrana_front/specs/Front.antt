-- The calls that a front tells, and what they leave.
use Rattle.std.specs.Prelude.{◌≡◌, ℕ, ◌+◌, List, [], ◌∷◌, ◌++◌, Option, Some, None, option_map, Result, Ok, Err}
use Rattle.hrana_value.specs.declared.failures.NoMemory.{NoMemory}
use Rattle.http_wire.specs.declared.outs.Outs.{Outs}
use Rattle.hrana_front.specs.declared.calls.FrontCall.{FrontCall}
use Rattle.hrana_front.specs.declared.calls.FrontCall.TheVariants as call
use Rattle.hrana_front.specs.declared.front.FrontFail.{FrontFail}
use Rattle.hrana_front.specs.declared.front.FrontFail.TheVariants as fail
use Rattle.hrana_front.specs.declared.front.Accepted.{Accepted}
use Rattle.hrana_front.specs.declared.front.Accepted.TheVariants as accepted
use Rattle.hrana_front.specs.declared.front.Took.{Took}
use Rattle.hrana_front.specs.declared.front.Put.{Put}

-- a call with its answer; none where it had no memory
abbrev pub listen_call : List ℕ → Result (Unit {0}) FrontFail → Option FrontCall
listen_call addr (Err fail.NoMemory) = None
listen_call addr result = Some (call.Listen addr result)

abbrev pub accept_call : Result Accepted FrontFail → Option FrontCall
accept_call (Err fail.NoMemory) = None
accept_call result = Some (call.Accept result)

abbrev pub take_call : ℕ → Result Took NoMemory → Option FrontCall
take_call conn (Ok given) = Some (call.Take conn given)
take_call conn (Err none) = None

abbrev pub put_call : Outs → Result Put NoMemory → Option FrontCall
put_call outs (Ok became) = Some (call.Put outs became)
put_call outs (Err none) = None

-- the calls, where they are told, with one more where there is one
abbrev pub with_call : Option (List FrontCall) → Option FrontCall → Option (List FrontCall)
with_call told (Some made) = option_map (λ calls. calls ++ made ∷ []) told
with_call told None = told

-- how many connections were given, after a call of `accept`
abbrev pub given_after : ℕ → Result Accepted FrontFail → ℕ
given_after given (Ok (accepted.New conn)) = given + 1
given_after given result = given

-- a new connection has the number after those that were given
abbrev pub IsNext : ℕ → Accepted → Type 0
IsNext given (accepted.New conn) = conn ≡ given + 1
IsNext given answer = Unit {0}

-- the outs that were put, where they are told, after a call of `put`
abbrev pub with_put : Option (List Outs) → Outs → Result Put NoMemory → Option (List Outs)
with_put puts outs (Ok became) = option_map (λ list. list ++ outs ∷ []) puts
with_put puts outs (Err none) = puts

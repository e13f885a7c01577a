-- How a connection over sockets ends.
use Rattle.std.specs.Prelude.{ℕ, nat_lt, Bool, not, ◌||◌, if◌then◌else◌}
use Rattle.hrana_front.specs.declared.socket_limits.TheConstants.{LEAVING_MS}
use Rattle.hrana_front.specs.declared.ends.Stay.{Stay}
use Rattle.hrana_front.specs.declared.ends.Stay.TheVariants as stay

-- over where it ended or had its time; else its last bytes go first
abbrev pub stay_of : Bool → Bool → ℕ → Stay
stay_of unsent ended waited =
    if ended || not (nat_lt waited LEAVING_MS) then stay.Over
    else (if unsent then stay.Send else stay.Drain)

-- The items that a front in memory gives, and which call is given which.
use Rattle.std.specs.Prelude.{ℕ, ◌+◌, ◌-◌, ◌^◌, ◌==◌, nat_lt, List, ◌∷◌, Bool, true, false, IsTrue, if◌then◌else◌, Result, Ok, Err}
use Rattle.std.specs.List.{list_all}
use Rattle.http_wire.specs.declared.asks.WireFail.TheVariants as wire
use Rattle.hrana_front.specs.declared.front.FrontFail.{FrontFail}
use Rattle.hrana_front.specs.declared.front.FrontFail.TheVariants as fail
use Rattle.hrana_front.specs.declared.front.Accepted.{Accepted}
use Rattle.hrana_front.specs.declared.front.Accepted.TheVariants as accepted
use Rattle.hrana_front.specs.declared.front.Took.{Took}
use Rattle.hrana_front.specs.declared.front.Took.TheVariants as took
use Rattle.hrana_front.specs.declared.items.FrontItem.{FrontItem}
use Rattle.hrana_front.specs.declared.items.FrontItem.TheVariants as item

-- an item carries neither `NotYet` nor a refusal for want of memory
abbrev pub is_givable : FrontItem → Bool
is_givable (item.Take conn took.NotYet) = false
is_givable (item.Take conn (took.Refused wire.NoMemory)) = false
is_givable other = true

abbrev pub AreGivable : List FrontItem → Type 0
AreGivable items = IsTrue (list_all is_givable items)

-- the next item is for a call of `accept`
abbrev pub is_for_accept : List FrontItem → Bool
is_for_accept (item.New ∷ items) = true
is_for_accept (item.Stop ∷ items) = true
is_for_accept items = false

-- what `accept` gives after so many connections: one more, where there is a number for it, or the end
abbrev pub next_accepted : List FrontItem → ℕ → Result Accepted FrontFail
next_accepted (item.New ∷ items) given = if nat_lt given (2 ^ 32 - 1) then Ok (accepted.New (given + 1)) else Err fail.Failed
next_accepted (item.Stop ∷ items) given = Ok accepted.Stop
next_accepted items given = Ok accepted.NotYet

-- the items that are left after a call of `accept`
abbrev pub items_after_accept : List FrontItem → List FrontItem
items_after_accept (item.New ∷ items) = items
items_after_accept (item.Stop ∷ items) = items
items_after_accept items = items

-- the next item is for a call of `take` on this connection
abbrev pub is_for_take : List FrontItem → ℕ → Bool
is_for_take (item.Take owner given ∷ items) conn = owner == conn
is_for_take items conn = false

-- what `take` gives
abbrev pub next_taken : List FrontItem → ℕ → Took
next_taken (item.Take owner given ∷ items) conn = if owner == conn then given else took.NotYet
next_taken items conn = took.NotYet

-- the items that are left after a call of `take`
abbrev pub items_after_take : List FrontItem → ℕ → List FrontItem
items_after_take (item.Take owner given ∷ items) conn = if owner == conn then items else item.Take owner given ∷ items
items_after_take items conn = items

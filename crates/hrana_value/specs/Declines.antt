-- Which kind of decline is answered where several stand, and what a reader's answer says of a tree.
use Rattle.std.specs.Prelude.{◌≡◌, ℕ, ◌<◌, ◌⊎◌, List, ◌++◌, ◌∷◌, [], Result, Ok, Err, IfOk, IfErr, nat_lt, if◌then◌else◌, Vec}
use Rattle.std.specs.declared.alloc.Global.{Global}
use Rattle.hrana_value.specs.declared.failures.Decline.{Decline}
use Rattle.hrana_value.specs.declared.failures.Decline.TheVariants.{Unknown, Describe, Shape, BothSql, BadStep, Range, Float}
use Rattle.hrana_value.specs.declared.failures.ReadFail.{ReadFail}
use Rattle.hrana_value.specs.declared.failures.ReadFail.TheVariants.{Declined, NoMemory}

-- the place of a kind in the order
abbrev pub rank_of : Decline → ℕ
rank_of Unknown = 0
rank_of Describe = 1
rank_of Shape = 2
rank_of BothSql = 3
rank_of BadStep = 4
rank_of Range = 5
rank_of Float = 6

-- the kind stands, and no earlier one does
pub record IsFirst (stands : Decline → Type 0) (kind : Decline) : Type 0 where
  pub stands_itself : stands kind
  pub none_before : (k : Decline) → rank_of k < rank_of kind → stands k → ⊥

abbrev pub NoneStands : (Decline → Type 0) → Type 0
NoneStands stands = (k : Decline) → stands k → ⊥

-- a decline stands in a tree with two parts where it stands in one of them
abbrev pub EitherStands : (Decline → Type 0) → (Decline → Type 0) → Decline → Type 0
EitherStands s t k = s k ⊎ t k

-- this one kind stands, where p holds
abbrev pub Only : Decline → Type 0 → Decline → Type 0
Only kind p k = (k ≡ kind) × p

-- a failure to read names the first kind that stands
abbrev pub IsDeclinedAs : (Decline → Type 0) → ReadFail → Type 0
IsDeclinedAs stands (Declined kind) = IsFirst stands kind
IsDeclinedAs stands NoMemory = Unit {0}

-- What a reader answers for a tree: a message that may be written as the tree, where no decline stands, and else
-- the first kind that does.
pub record Reads {A : Type 0} (message : A → Type 0) (stands : Decline → Type 0) (answer : Result A ReadFail) : Type 0 where
  pub ok : IfOk answer message
  pub undeclined : IfOk answer (λ m. NoneStands stands)
  pub declined : IfErr answer (IsDeclinedAs stands)

-- the failure of two readings that both failed: want of memory, or the earlier kind
abbrev pub earlier_of : ReadFail → ReadFail → ReadFail
earlier_of NoMemory f = NoMemory
earlier_of (Declined a) NoMemory = NoMemory
earlier_of (Declined a) (Declined b) = if nat_lt (rank_of b) (rank_of a) then Declined b else Declined a

-- two readings in one
abbrev pub both_of : {A B : Type 0} → Result A ReadFail → Result B ReadFail → Result (A × B) ReadFail
both_of (Ok a) (Ok b) = Ok (a, b)
both_of (Ok a) (Err f) = Err f
both_of (Err e) (Ok b) = Err e
both_of (Err e) (Err f) = Err (earlier_of e f)

-- the readings of a list and of one item more
abbrev pub more_of : {A : Type 0} → Result (List A) ReadFail → Result A ReadFail → Result (List A) ReadFail
more_of (Ok xs) (Ok x) = Ok (xs ++ x ∷ [])
more_of (Ok xs) (Err f) = Err f
more_of (Err e) (Ok x) = Err e
more_of (Err e) (Err f) = Err (earlier_of e f)

-- the list that was read into a `Vec`
abbrev pub items_of_reading : {A : Type 0} → Result (Vec A Global) ReadFail → Result (List A) ReadFail
items_of_reading (Ok v) = Ok v.items
items_of_reading (Err e) = Err e

-- a reading that takes no memory
abbrev pub TakesNoMemory : {A : Type 0} → Result A ReadFail → Type 0
TakesNoMemory answer = IfErr answer (λ e. e ≡ NoMemory → ⊥)

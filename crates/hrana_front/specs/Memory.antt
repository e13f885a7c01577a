-- The front in memory: what it answers, and what it leaves.
use Rattle.std.specs.Prelude.{◌≡◌, ℕ, ◌+◌, ◌-◌, ◌^◌, ◌==◌, min, List, [], ◌∷◌, ◌++◌, length, Bool, true, false, is_err, if◌then◌else◌, Result, Ok, Err}
use Rattle.std.specs.List.{list_any}
use Rattle.hrana_value.specs.declared.failures.NoMemory.{NoMemory}
use Rattle.http_wire.specs.declared.outs.Outs.{Outs}
use Rattle.hrana_front.specs.Front.{given_after}
use Rattle.hrana_front.specs.Items.{is_for_accept, next_accepted, items_after_accept, is_for_take, next_taken, items_after_take}
use Rattle.hrana_front.specs.declared.calls.FrontCall.{FrontCall}
use Rattle.hrana_front.specs.declared.calls.FrontCall.TheVariants as call
use Rattle.hrana_front.specs.declared.front.FrontFail.{FrontFail}
use Rattle.hrana_front.specs.declared.front.FrontFail.TheVariants as fail
use Rattle.hrana_front.specs.declared.front.Accepted.{Accepted}
use Rattle.hrana_front.specs.declared.front.Took.{Took}
use Rattle.hrana_front.specs.declared.front.Took.TheVariants as took
use Rattle.hrana_front.specs.declared.front.Put.{Put}
use Rattle.hrana_front.specs.declared.front.Put.TheVariants as put
use Rattle.hrana_front.specs.declared.items.FrontItem.{FrontItem}

-- the items that are left, the numbers of the calls that fail, the calls made with their answers, the outs that were put,
-- how many connections were given, and the count of faults
pub record Memory : Type 0 where
  pub items : List FrontItem
  pub fail_at : List ℕ
  pub calls : List FrontCall
  pub outs : List Outs
  pub given : ℕ
  pub faults : ℕ

-- before any call
abbrev pub memory_at_first : List FrontItem → List ℕ → Memory
memory_at_first items fail_at = record { items = items; fail_at = fail_at; calls = []; outs = []; given = 0; faults = 0 }

-- the next call is one that fails, by its number
abbrev pub fails_next : Memory → Bool
fails_next m = list_any (λ listed. listed == length m.calls + 1) m.fail_at

-- the count of faults after a call. It stays at its last value once it is there.
abbrev pub faults_after : ℕ → Bool → ℕ
faults_after faults failed = if failed then min (faults + 1) (2 ^ 64 - 1) else faults

-- ---- `listen`

abbrev pub listen_answer : Memory → Result (Unit {0}) FrontFail
listen_answer m = if fails_next m then Err fail.Failed else Ok tt

abbrev pub after_listen : Memory → List ℕ → Memory
after_listen m addr =
    record m {
      calls = m.calls ++ call.Listen addr (listen_answer m) ∷ [];
      faults = faults_after m.faults (fails_next m);
    }

-- the answer is that one and leaves that, or there was no memory and nothing changed
abbrev pub ListensOr : Memory → Memory → List ℕ → Result (Unit {0}) FrontFail → Type 0
ListensOr old new addr (Err fail.NoMemory) = new ≡ old
ListensOr old new addr result = (result ≡ listen_answer old) × (new ≡ after_listen old addr)

-- ---- `accept`

abbrev pub accept_answer : Memory → Result Accepted FrontFail
accept_answer m = if fails_next m then Err fail.Failed else next_accepted m.items m.given

abbrev pub after_accept : Memory → Memory
after_accept m =
    record m {
      items = items_after_accept m.items;
      calls = m.calls ++ call.Accept (accept_answer m) ∷ [];
      given = given_after m.given (accept_answer m);
      faults = faults_after m.faults (is_err (accept_answer m));
    }

abbrev pub AcceptsOr : Memory → Memory → Result Accepted FrontFail → Type 0
AcceptsOr old new (Err fail.NoMemory) = new ≡ old
AcceptsOr old new result = (result ≡ accept_answer old) × (new ≡ after_accept old)

-- the call doesn't fail, and the next item isn't for it
abbrev pub NoneForAccept : Memory → Type 0
NoneForAccept m = (fails_next m ≡ false) × (is_for_accept m.items ≡ false)

-- ---- `take`

abbrev pub take_answer : Memory → ℕ → Took
take_answer m conn = if fails_next m then took.Gone else next_taken m.items conn

abbrev pub is_gone : Took → Bool
is_gone took.Gone = true
is_gone answer = false

abbrev pub after_take : Memory → ℕ → Memory
after_take m conn =
    record m {
      items = items_after_take m.items conn;
      calls = m.calls ++ call.Take conn (take_answer m conn) ∷ [];
      faults = faults_after m.faults (is_gone (take_answer m conn));
    }

abbrev pub TakesOr : Memory → Memory → ℕ → Result Took NoMemory → Type 0
TakesOr old new conn (Ok answer) = (answer ≡ take_answer old conn) × (new ≡ after_take old conn)
TakesOr old new conn (Err none) = new ≡ old

abbrev pub NoneForTake : Memory → ℕ → Type 0
NoneForTake m conn = (fails_next m ≡ false) × (is_for_take m.items conn ≡ false)

-- ---- `put`

abbrev pub put_answer : Memory → Put
put_answer m = if fails_next m then put.Gone else put.Sent

abbrev pub after_put : Memory → Outs → Memory
after_put m outs =
    record m {
      calls = m.calls ++ call.Put outs (put_answer m) ∷ [];
      outs = m.outs ++ outs ∷ [];
      faults = faults_after m.faults (fails_next m);
    }

abbrev pub PutsOr : Memory → Memory → Outs → Result Put NoMemory → Type 0
PutsOr old new outs (Ok answer) = (answer ≡ put_answer old) × (new ≡ after_put old outs)
PutsOr old new outs (Err none) = new ≡ old

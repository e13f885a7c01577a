-- The calls of an object in memory that fail: their numbers are listed, counted from 1 over all calls of the object.
use Rattle.std.specs.Prelude.{◌≡◌, ◌↔◌, ℕ, ◌+◌, ◌-◌, ◌^◌, min, drop, List, Contains, Bool, IsTrue, Result, OnOk, OnErr}
use Rattle.engine_core.specs.declared.byte_source.ByteSource.{ByteSource}
use Rattle.engine_core.specs.declared.byte_sink.ByteSink.{ByteSink}
use Rattle.engine_core.specs.declared.count_tokens.CountTokens.{CountTokens}
use Rattle.engine_core.specs.declared.failing.Failing.{Failing}
use Rattle.engine_core.specs.declared.listed_calls.ListedCalls.{ListedCalls}

-- the bytes that a source in memory has left, those that a sink in memory was given, and the faults of both
abbrev pub source_left : ByteSource → List ℕ
source_left s = drop s.at s.bytes.items

abbrev pub source_faults : ByteSource → ℕ
source_faults s = s.faults

abbrev pub sink_bytes : ByteSink → List ℕ
sink_bytes s = s.bytes.items

abbrev pub sink_faults : ByteSink → ℕ
sink_faults s = s.faults

-- the listed numbers, and how many calls there were
pub record Listed : Type 0 where
  pub fail_at : List ℕ
  pub calls : ℕ

abbrev pub source_calls : ByteSource → Listed
source_calls s = record { fail_at = s.fail_at.items; calls = s.calls }

abbrev pub sink_calls : ByteSink → Listed
sink_calls s = record { fail_at = s.fail_at.items; calls = s.calls }

abbrev pub calls_of : ListedCalls → Listed
calls_of l = record { fail_at = l.fail_at.items; calls = l.calls }

abbrev pub faults_of : ListedCalls → ℕ
faults_of l = l.faults

abbrev pub token_calls : CountTokens → Listed
token_calls t = calls_of t.listed

abbrev pub token_faults : CountTokens → ℕ
token_faults t = faults_of t.listed

abbrev pub engine_calls : {E D : Type 0} → Failing E D → Listed
engine_calls f = calls_of f.listed

-- the next call fails. The count of calls stays at its last value once it is there.
abbrev pub FailsNext : Listed → Type 0
FailsNext l = Contains l.fail_at (min (l.calls + 1) (2 ^ 64 - 1))

-- the next call was counted, and is one that fails exactly where it is listed
pub record FailsAsListed (old new : Listed) (fails : Bool) : Type 0 where
  pub same : new.fail_at ≡ old.fail_at
  pub counted : new.calls ≡ min (old.calls + 1) (2 ^ 64 - 1)
  pub exact : IsTrue fails ↔ FailsNext old

-- A call was counted. It failed where it is listed, and it is a fault exactly where it failed.
pub record CountsCall {T E : Type 0} (old new : Listed) (before now : ℕ) (result : Result T E) : Type 0 where
  pub same : new.fail_at ≡ old.fail_at
  pub counted : new.calls ≡ min (old.calls + 1) (2 ^ 64 - 1)
  pub listed : OnOk result (¬ FailsNext old)
  pub no_fault : OnOk result (now ≡ before)
  pub fault : OnErr result (now ≡ min (before + 1) (2 ^ 64 - 1))

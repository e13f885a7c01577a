-- What a look at the bytes that are held tells.
use Rattle.std.specs.Prelude.{◌≡◌, ◌≢◌, ℕ, ◌≤◌, List, length, drop}
use Rattle.httparse.specs.Grammar.{RequestHead}
use Rattle.http_wire.specs.declared.look.Look.{Look}
use Rattle.http_wire.specs.declared.look.Look.TheVariants.{Wait, Found, Switched, Refusal}
use Rattle.http_wire.specs.declared.asks.WireFail.TheVariants.{NoMemory}
use Rattle.http_wire.specs.declared.verdict.Head.{Head}
use Rattle.http_wire.specs.Request.{request_of}
use Rattle.http_wire.specs.Head.{read_of}
use Rattle.http_wire.specs.Wire.{HasHead, IsAsk, IsUpgrade, IsRefused, MayWait, WaitsBelow}

-- the first thing that the bytes give, with the number of bytes that it takes; or the number of bytes to wait for
abbrev pub Sees : List ℕ → Look → Type 0
Sees held (Wait need) = MayWait held × WaitsBelow need held
Sees held (Found ask count) = (count ≤ length held) × IsAsk held ask (drop count held)
Sees held (Switched key chosen count) = (count ≤ length held) × IsUpgrade held key chosen (drop count held)
Sees held (Refusal fail) = (fail ≢ NoMemory) × IsRefused held fail

-- the head that was read is at the front of the bytes, and takes so many
abbrev pub IsHeadOf : List ℕ → ℕ → Head → Type 0
IsHeadOf held count head = (h : RequestHead) × HasHead held h (drop count held) × (read_of head ≡ request_of h)

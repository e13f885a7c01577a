-- What the bytes of a connection ask for, in whatever pieces they come (RFC 9112, section 2; RFC 6455, section 4).
use Rattle.std.specs.Prelude.{◌≡◌, ◌⊎◌, ℕ, ◌<◌, ◌≤◌, Bool, true, false, if◌then◌else◌, List, [], ◌∷◌, ◌++◌, length, Result, Ok, Err, ⊤}
use Rattle.std.specs.List.{AllByRecursion}
use Rattle.httparse.specs.Grammar.{RequestHead, ReadsRequest, print_request}
use Rattle.http_wire.specs.declared.asks.HttpAsk.{HttpAsk}
use Rattle.http_wire.specs.declared.asks.Chosen.{Chosen}
use Rattle.http_wire.specs.declared.asks.Key.{Key}
use Rattle.http_wire.specs.declared.asks.Fed.{Fed}
use Rattle.http_wire.specs.declared.asks.Fed.TheVariants.{More, Ask, Upgrade}
use Rattle.http_wire.specs.declared.asks.WireFail.{WireFail}
use Rattle.http_wire.specs.declared.asks.WireFail.TheVariants.{Bad400, NoMemory}
use Rattle.http_wire.specs.declared.verdict.Verdict.TheVariants.{Refuse, Switch, Serve}
use Rattle.http_wire.specs.declared.feeding.Stage.{Stage}
use Rattle.http_wire.specs.declared.feeding.Stage.TheVariants.{Reading, Upgraded, Refused}
use Rattle.http_wire.specs.declared.limits.TheConstants.{MAX_HEAD_BYTES, MAX_FIELDS}
use Rattle.http_wire.specs.Request.{request_of, verdict_of, ask_of}

-- the bytes begin with the head, which keeps the limits, and then rest
pub record HasHead (bytes : List ℕ) (h : RequestHead) (rest : List ℕ) : Type 0 where
  pub reads : ReadsRequest bytes h rest
  pub few_fields : length h.fields ≤ MAX_FIELDS
  pub short : length (print_request h) ≤ MAX_HEAD_BYTES

-- however the bytes go on, they don't begin with a head
abbrev pub NeverHasHead : List ℕ → Type 0
NeverHasHead bytes = (more : List ℕ) (h : RequestHead) (rest : List ℕ) → HasHead (bytes ++ more) h rest → ⊥

-- a whole request, and then rest
abbrev pub IsAsk : List ℕ → HttpAsk → List ℕ → Type 0
IsAsk bytes ask rest =
    (h : RequestHead) × HasHead bytes h (ask.body ++ rest)
    × (verdict_of (request_of h) ≡ Serve (length ask.body)) × (ask ≡ ask_of (request_of h) ask.body)

-- the head of an upgrade, and then rest
abbrev pub IsUpgrade : List ℕ → Key → Chosen → List ℕ → Type 0
IsUpgrade bytes key chosen rest =
    (h : RequestHead) × HasHead bytes h rest × (verdict_of (request_of h) ≡ Switch key chosen)

-- a head that is refused, or what can't become a head
abbrev pub IsRefused : List ℕ → WireFail → Type 0
IsRefused bytes fail =
    ((h : RequestHead) × (rest : List ℕ) × HasHead bytes h rest × (verdict_of (request_of h) ≡ Refuse fail))
    ⊎ ((fail ≡ Bad400) × NeverHasHead bytes)

-- the first thing that the bytes give, and the rest after it
abbrev pub Gives : List ℕ → Result Fed WireFail → List ℕ → Type 0
Gives bytes (Ok More) rest = ⊥
Gives bytes (Ok (Ask ask)) rest = IsAsk bytes ask rest
Gives bytes (Ok (Upgrade key chosen)) rest = IsUpgrade bytes key chosen rest
Gives bytes (Err fail) rest = IsRefused bytes fail × (rest ≡ bytes)

-- after an ask more may come, after an upgrade or a refusal nothing does
abbrev pub GoesOn : Result Fed WireFail → Type 0 → Type 0 → Type 0
GoesOn (Ok (Ask ask)) more last = more
GoesOn (Ok More) more last = last
GoesOn (Ok (Upgrade key chosen)) more last = last
GoesOn (Err fail) more last = last

-- the bytes give the answers, one after the other, and rest comes after the last of them
abbrev pub Takes : List ℕ → List (Result Fed WireFail) → List ℕ → Type 0
Takes bytes [] rest = rest ≡ bytes
Takes bytes (answer ∷ answers) rest =
    (after : List ℕ) × Gives bytes answer after
    × GoesOn answer (Takes after answers rest) ((answers ≡ []) × (rest ≡ after))

-- all that the bytes give, the asks in order and then the upgrade or the refusal where one comes, and
-- the rest that is left
abbrev pub WireMeans : List ℕ → List (Result Fed WireFail) → List ℕ → Type 0
WireMeans bytes [] rest = (rest ≡ bytes) × ((given : Result Fed WireFail) (after : List ℕ) → Gives bytes given after → ⊥)
WireMeans bytes (answer ∷ answers) rest =
    (after : List ℕ) × Gives bytes answer after
    × GoesOn answer (WireMeans after answers rest) ((answers ≡ []) × (rest ≡ after))

-- nothing has to be answered yet: what the bytes give, if they give anything, is the refusal of what can't become a
-- head, before MAX_HEAD_BYTES are held
abbrev pub MayWait : List ℕ → Type 0
MayWait bytes = (given : Result Fed WireFail) (after : List ℕ) → Gives bytes given after → NeverHasHead bytes × (length bytes < MAX_HEAD_BYTES)

-- as long as there are fewer bytes than need, nothing has to be answered
abbrev pub WaitsBelow : ℕ → List ℕ → Type 0
WaitsBelow need bytes = (more : List ℕ) → length (bytes ++ more) < need → MayWait (bytes ++ more)

-- what a wire holds: the bytes that no answer took
pub record Held : Type 0 where
  pub bytes : List ℕ
  pub stage : Stage

-- a call of `feed` that reads; held are the bytes with the piece
abbrev pub Reads : Held → List ℕ → Result Fed WireFail → Held → Type 0
Reads old held (Ok More) new = (new ≡ record { bytes = held; stage = Reading }) × MayWait held
Reads old held (Ok (Ask ask)) new = (new.stage ≡ Reading) × IsAsk held ask new.bytes
Reads old held (Ok (Upgrade key chosen)) new = (new.stage ≡ Upgraded) × IsUpgrade held key chosen new.bytes
Reads old held (Err NoMemory) new = new ≡ old
Reads old held (Err fail) new = (new ≡ record { bytes = held; stage = Refused fail }) × IsRefused held fail

-- after an upgrade a piece is kept
abbrev pub Keeps : Held → List ℕ → Result Fed WireFail → Held → Type 0
Keeps old held (Ok More) new = new ≡ record { bytes = held; stage = Upgraded }
Keeps old held (Ok (Ask ask)) new = ⊥
Keeps old held (Ok (Upgrade key chosen)) new = ⊥
Keeps old held (Err NoMemory) new = new ≡ old
Keeps old held (Err fail) new = ⊥

-- one call of `feed`, by what came before it
abbrev pub FeedsAt : Stage → Held → List ℕ → Result Fed WireFail → Held → Type 0
FeedsAt Reading old piece answer new = Reads old (old.bytes ++ piece) answer new
FeedsAt Upgraded old piece answer new = Keeps old (old.bytes ++ piece) answer new
FeedsAt (Refused fail) old piece answer new = (answer ≡ Err fail) × (new ≡ old)

abbrev pub Feeds : Held → List ℕ → Result Fed WireFail → Held → Type 0
Feeds old piece answer new = FeedsAt old.stage old piece answer new

-- one call of `feed` in a run: what it was given, and what it answered
pub record Call : Type 0 where
  pub piece : List ℕ
  pub answer : Result Fed WireFail

-- calls of `feed`, one after the other
abbrev pub Runs : Held → List Call → Held → Type 0
Runs old [] new = new ≡ old
Runs old (call ∷ calls) new = (next : Held) × Feeds old call.piece call.answer next × Runs next calls new

-- want of memory changes nothing
abbrev pub was_taken : Result Fed WireFail → Bool
was_taken (Ok fed) = true
was_taken (Err NoMemory) = false
was_taken (Err fail) = true

-- the bytes of the pieces that were taken, joined
abbrev pub bytes_of : List Call → List ℕ
bytes_of [] = []
bytes_of (call ∷ calls) = if was_taken call.answer then call.piece ++ bytes_of calls else bytes_of calls

abbrev pub is_told : Result Fed WireFail → Bool
is_told (Ok More) = false
is_told (Ok (Ask ask)) = true
is_told (Ok (Upgrade key chosen)) = true
is_told (Err NoMemory) = false
is_told (Err fail) = true

-- the answers other than `More` and want of memory
abbrev pub told_by : List Call → List (Result Fed WireFail)
told_by [] = []
told_by (call ∷ calls) = if is_told call.answer then call.answer ∷ told_by calls else told_by calls

-- told is given, where a refusal that is repeated counts once; nothing else comes after a refusal
abbrev pub CountsOnce : List (Result Fed WireFail) → List (Result Fed WireFail) → Type 0
CountsOnce [] given = given ≡ []
CountsOnce (Ok fed ∷ told) given = (later : List (Result Fed WireFail)) × CountsOnce told later × (given ≡ Ok fed ∷ later)
CountsOnce (Err fail ∷ told) given = AllByRecursion (λ answer. answer ≡ Err fail) told × (given ≡ Err fail ∷ [])

abbrev pub start : Held
start = record { bytes = []; stage = Reading }

-- what a wire holds is the rest, but after a refusal
abbrev pub LeavesRest : Stage → List ℕ → List ℕ → Type 0
LeavesRest Reading held rest = held ≡ rest
LeavesRest Upgraded held rest = held ≡ rest
LeavesRest (Refused fail) held rest = ⊤

abbrev pub IsFrontOf : {A : Type 0} → List A → List A → Type 0
IsFrontOf {A} front all = (more : List A) × (all ≡ front ++ more)

-- all that the bytes give begins with the answers
abbrev pub BeginsWith : List ℕ → List (Result Fed WireFail) → Type 0
BeginsWith bytes given = (all : List (Result Fed WireFail)) (left : List ℕ) → WireMeans bytes all left → IsFrontOf given all

-- The calls of a run, however the bytes were cut: their answers are a front of what the joined bytes give, taken off them
-- in order, and the wire holds what none of them took.
abbrev pub AnyCut : Type 0
AnyCut =
    (calls : List Call) (end : Held) → Runs start calls end
    → (given : List (Result Fed WireFail)) × (rest : List ℕ)
    × CountsOnce (told_by calls) given × BeginsWith (bytes_of calls) given
    × Takes (bytes_of calls) given rest × LeavesRest end.stage end.bytes rest

-- Bytes have one list of answers, and one rest.
abbrev pub OneAnswerList : Type 0
OneAnswerList =
    (bytes : List ℕ) (answers others : List (Result Fed WireFail)) (rest left : List ℕ)
    → WireMeans bytes answers rest → WireMeans bytes others left → (answers ≡ others) × (rest ≡ left)

-- What a front gives, every continuation gives.
abbrev pub FrontsStay : Type 0
FrontsStay =
    (front more : List ℕ) (answers all : List (Result Fed WireFail)) (rest left : List ℕ)
    → WireMeans front answers rest → WireMeans (front ++ more) all left → IsFrontOf answers all

-- No bytes are without an answer list.
abbrev pub NoneWithout : Type 0
NoneWithout =
    (bytes : List ℕ) → ((answers : List (Result Fed WireFail)) (rest : List ℕ) → WireMeans bytes answers rest → ⊥) → ⊥

-- the answers are asks
abbrev pub GivesAsks : List (Result Fed WireFail) → Type 0
GivesAsks answers = AllByRecursion (λ answer. GoesOn answer ⊤ ⊥) answers

-- Where a run of calls ended with `More` and no upgrade, nothing is held back but the refusal of what can't become a
-- head, and that only before MAX_HEAD_BYTES are held.
abbrev pub NothingHeldBack : Type 0
NothingHeldBack =
    (bytes : List ℕ) (given all : List (Result Fed WireFail)) (rest left : List ℕ)
    → Takes bytes given rest → MayWait rest → WireMeans bytes all left → GivesAsks given
    → (all ≡ given) ⊎ ((all ≡ given ++ Err Bad400 ∷ []) × NeverHasHead rest × (length rest < MAX_HEAD_BYTES))

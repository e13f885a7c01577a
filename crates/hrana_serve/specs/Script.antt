-- The lines of a script and the events that they stand for.
use Rattle.std.specs.Prelude.{◌≡◌, ◌≢◌, ◌<◌, ◌^◌, List, ℕ, [], ◌∷◌, ◌++◌, All, Option, None, Some, true, false, bytes_eq, cond, codes, decimal, IsUtf8}
use Rattle.http_wire.specs.declared.asks.HttpAsk.{HttpAsk}
use Rattle.http_wire.specs.declared.asks.Method.{Method}
use Rattle.http_wire.specs.declared.asks.Method.TheVariants as method
use Rattle.hrana_hub.specs.declared.events.Event.{Event}
use Rattle.hrana_hub.specs.declared.events.Event.TheVariants.{Opened, Text, Binary, Exchange, Lost, Moment, Poll, Stop}
use Rattle.hrana_hub.specs.State.{State}
use Rattle.hrana_hub.specs.Step.{fits}

-- ---- an exchange

-- UTF-8 without a space, and not empty
pub record IsWord (word : List ℕ) : Type 0 where
  pub filled : word ≢ []
  pub whole : All (λ byte. byte ≢ 32) word
  pub text : IsUtf8 word

abbrev pub method_of : List ℕ → Method
method_of word = cond (bytes_eq word (codes "GET")) method.Get (cond (bytes_eq word (codes "POST")) method.Post method.Other)

-- `-` stands for no token
abbrev pub bearer_of : List ℕ → Option (List ℕ)
bearer_of word = cond (bytes_eq word (codes "-")) None (Some word)

-- what follows a word: a space and more, or nothing
abbrev pub behind : Option (List ℕ) → List ℕ
behind None = []
behind (Some rest) = 32 ∷ rest

-- a body that is missing is empty
abbrev pub body_of : Option (List ℕ) → List ℕ
body_of None = []
body_of (Some body) = body

-- the method, the path and the token, each a word, and then the rest
pub record AreWords (text method_word path token_word : List ℕ) (rest : Option (List ℕ)) : Type 0 where
  pub written : text ≡ method_word ++ 32 ∷ (path ++ 32 ∷ (token_word ++ behind rest))
  pub method_is : IsWord method_word
  pub path_is : IsWord path
  pub token_is : IsWord token_word

-- the text of a request; what follows its words is its body
pub record IsAskText (text : List ℕ) (ask : HttpAsk) : Type 0 where
  pub method_word : List ℕ
  pub token_word : List ℕ
  pub rest : Option (List ℕ)
  pub words : AreWords text method_word ask.path token_word rest
  pub method : ask.method ≡ method_of method_word
  pub bearer : ask.bearer ≡ bearer_of token_word
  pub body : ask.body ≡ body_of rest
  pub stays : ask.close ≡ false

-- ---- a line

-- The line that an event is written as. Numbers are decimal, without a sign or a leading zero. `Stop` has no line.
abbrev pub IsWritten : List ℕ → Event → Type 0
IsWritten line (Opened conn) = line ≡ codes "+ " ++ decimal conn
IsWritten line (Text conn text) = line ≡ codes "> " ++ (decimal conn ++ 32 ∷ text)
IsWritten line (Binary conn) = line ≡ codes "# " ++ decimal conn
IsWritten line (Exchange conn ask) = (text : List ℕ) × (line ≡ codes "? " ++ (decimal conn ++ 32 ∷ text)) × IsAskText text ask
IsWritten line (Lost conn) = line ≡ codes "- " ++ decimal conn
IsWritten line (Moment moment) = line ≡ codes "@ " ++ decimal moment
IsWritten line (Poll stream) = line ≡ codes "! " ++ decimal stream.0
IsWritten line Stop = ⊥

-- the numbers of the event are of its types
abbrev pub HasNumbers : Event → Type 0
HasNumbers (Opened conn) = conn < 2 ^ 32
HasNumbers (Text conn text) = conn < 2 ^ 32
HasNumbers (Binary conn) = conn < 2 ^ 32
HasNumbers (Exchange conn ask) = conn < 2 ^ 32
HasNumbers (Lost conn) = conn < 2 ^ 32
HasNumbers (Moment moment) = moment < 2 ^ 64
HasNumbers (Poll stream) = stream.0 < 2 ^ 64
HasNumbers Stop = Unit {0}

-- the line stands for the event
pub record IsLineOf (line : List ℕ) (event : Event) : Type 0 where
  pub written : IsWritten line event
  pub numbers : HasNumbers event

-- no line stands for two events
abbrev pub OneEventALine : Type 0
OneEventALine = (line : List ℕ) (e f : Event) → IsLineOf line e → IsLineOf line f → e ≡ f

-- The lines stand for the events. Empty lines are passed over.
abbrev pub ReadsAs : List (List ℕ) → List Event → Type 0
ReadsAs [] events = events ≡ []
ReadsAs ([] ∷ lines) events = ReadsAs lines events
ReadsAs ((byte ∷ bytes) ∷ lines) [] = ⊥
ReadsAs ((byte ∷ bytes) ∷ lines) (event ∷ events) = IsLineOf (byte ∷ bytes) event × ReadsAs lines events

-- the line isn't empty, and no event that it stands for fits
pub record IsBadLine (s : State) (line : List ℕ) : Type 0 where
  pub filled : line ≡ [] → ⊥
  pub unfit : (event : Event) → IsLineOf line event → fits s event ≡ true → ⊥

-- What an event doesn't add to the story of a stream that it leaves as it was.
use Rattle.std.proofs.Common.{◌≡◌, ◌&&◌, ℕ, Bool, true, false, not, cond, nat_eq, List, [], ◌∷◌, drop, length, refl, ap, ◌∙◌}
use Rattle.engine_core.specs.declared.entries.Entry.{Entry}
use Rattle.hrana_hub.specs.declared.events.Event.{Event}
use Rattle.hrana_hub.specs.declared.events.Event.TheVariants.{Opened, Text, Binary, Exchange, Lost, Moment, Poll, Stop}
use Rattle.hrana_hub.specs.Maps.{at}
use Rattle.hrana_hub.specs.State.{State}
use Rattle.hrana_hub.specs.Stories.{ids_in, asks_in, ids_by, asks_by, used_by, expires_by, is_begun_in}

-- it doesn't expire
pub expires_none : (n : ℕ) (event : Event) (s new : State) → at n new.streams ≡ at n s.streams → expires_by n event s new ≡ false
expires_none n (Moment moment) s new e = ap (λ o. is_begun_in (at n s.streams) && not (is_begun_in o)) e ∙ by (is_begun_in (at n s.streams))
  where
    by : (b : Bool) → (b && not b) ≡ false
    by true = refl
    by false = refl
expires_none n (Opened c) s new e = refl
expires_none n (Text c text) s new e = refl
expires_none n (Binary c) s new e = refl
expires_none n (Exchange c ask) s new e = refl
expires_none n (Lost c) s new e = refl
expires_none n (Poll stream) s new e = refl
expires_none n Stop s new e = refl

drop_same : {A : Type 0} (xs : List A) → drop (length xs) xs ≡ []
drop_same [] = refl
drop_same (x ∷ xs) = drop_same xs

-- no request comes
pub ids_none : (n : ℕ) (event : Event) (s new : State) → at n new.streams ≡ at n s.streams → ids_by n event s new ≡ []
ids_none n (Text c text) s new e = ap (λ o. drop (length (ids_in (at n s.streams))) (ids_in o)) e ∙ drop_same (ids_in (at n s.streams))
ids_none n (Opened c) s new e = refl
ids_none n (Binary c) s new e = refl
ids_none n (Exchange c ask) s new e = refl
ids_none n (Lost c) s new e = refl
ids_none n (Poll stream) s new e = refl
ids_none n (Moment moment) s new e = refl
ids_none n Stop s new e = refl

pub asks_none : (n : ℕ) (event : Event) (s new : State) → at n new.streams ≡ at n s.streams → asks_by n event s new ≡ []
asks_none n (Text c text) s new e = ap (λ o. drop (length (asks_in (at n s.streams))) (asks_in o)) e ∙ drop_same (asks_in (at n s.streams))
asks_none n (Opened c) s new e = refl
asks_none n (Binary c) s new e = refl
asks_none n (Exchange c ask) s new e = refl
asks_none n (Lost c) s new e = refl
asks_none n (Poll stream) s new e = refl
asks_none n (Moment moment) s new e = refl
asks_none n Stop s new e = refl

cond_nil : {A : Type 0} (b : Bool) → ◌≡◌ {A = List A} (cond b [] []) []
cond_nil true = refl
cond_nil false = refl

-- no entry is added
pub used_none : (n : ℕ) (event : Event) (added : List Entry) → added ≡ [] → used_by n event added ≡ []
used_none n (Poll stream) added e = ap (λ l. cond (nat_eq stream.0 n) l []) e ∙ cond_nil (nat_eq stream.0 n)
used_none n (Opened c) added e = refl
used_none n (Text c text) added e = refl
used_none n (Binary c) added e = refl
used_none n (Exchange c ask) added e = refl
used_none n (Lost c) added e = refl
used_none n (Moment moment) added e = refl
used_none n Stop added e = refl

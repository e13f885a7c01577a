-- The calls of a store so far, and which batons live by them.
use Rattle.std.specs.Prelude.{◌≡◌, ◌≢◌, ◌+◌, ◌-◌, ◌^◌, ◌<◌, ◌⊎◌, ℕ, List, [], ◌∷◌, Contains}
use Rattle.hrana_value.specs.declared.StreamNo.{StreamNo}
use Rattle.baton_store.specs.Text.{text_of}
use Rattle.baton_store.specs.Batons.{Batons, no_batons, HasNone, with_place, with_baton, without, Redeems}
use Rattle.baton_store.specs.declared.limits.TheConstants.{BATON_LIFE_MS}
use Rattle.baton_store.specs.declared.store.Redeem.{Redeem}
use Rattle.baton_store.specs.declared.store.Redeem.TheVariants.{Live, Dead}

-- one call, with its arguments and what it gave
pub data Call : Type 0 where
  reserved : StreamNo → Call
  -- the stream, the moment and the text of the baton
  issued : StreamNo → ℕ → List ℕ → Call
  -- the text, the moment and the answer
  redeemed : List ℕ → ℕ → Redeem → Call
  forgot : StreamNo → Call

-- These calls, the last one first, lead from a new store to this one.
pub data Run : List Call → Batons → Type 0 where
  nothing : Run [] no_batons
  reserves : {past : List Call} {store : Batons} → Run past store → (stream : StreamNo) → Run (reserved stream ∷ past) (with_place store stream)
  issues : {past : List Call} {store : Batons} → Run past store → (stream : StreamNo) (words : List ℕ) (now : ℕ)
      → Contains store.reserved stream → HasNone store stream → store.issued < 2 ^ 64 - 1
      → Run (issued stream now (text_of (store.issued + 1) words) ∷ past) (with_baton store stream words now)
  redeems : {past : List Call} {store : Batons} → Run past store → (text : List ℕ) (now : ℕ) (answer : Redeem) (new : Batons) → Redeems store text now answer new
      → Run (redeemed text now answer ∷ past) new
  forgets : {past : List Call} {store : Batons} → Run past store → (stream : StreamNo) → Run (forgot stream ∷ past) (without store stream)

-- The text was issued to the stream at this moment, and since then it wasn't accepted and the stream wasn't forgotten.
abbrev pub IsHeld : List Call → List ℕ → StreamNo → ℕ → Type 0
IsHeld [] text stream at = ⊥
IsHeld (reserved placed ∷ past) text stream at = IsHeld past text stream at
IsHeld (issued to moment given ∷ past) text stream at = ((given ≡ text) × (to ≡ stream) × (moment ≡ at)) ⊎ IsHeld past text stream at
IsHeld (redeemed brought moment (Live found) ∷ past) text stream at = (brought ≢ text) × IsHeld past text stream at
IsHeld (redeemed brought moment Dead ∷ past) text stream at = IsHeld past text stream at
IsHeld (forgot gone ∷ past) text stream at = (gone ≢ stream) × IsHeld past text stream at

-- It is held, and the moment is less than its life past its issue.
pub record IsLive (past : List Call) (text : List ℕ) (now : ℕ) (stream : StreamNo) : Type 0 where
  pub at : ℕ
  pub held : IsHeld past text stream at
  pub young : now < at + BATON_LIFE_MS

-- the texts that were issued, the last one first
abbrev pub issued_texts : List Call → List (List ℕ)
issued_texts [] = []
issued_texts (reserved stream ∷ past) = issued_texts past
issued_texts (issued stream at text ∷ past) = text ∷ issued_texts past
issued_texts (redeemed text now answer ∷ past) = issued_texts past
issued_texts (forgot stream ∷ past) = issued_texts past

-- the texts that were accepted, the last one first
abbrev pub accepted_texts : List Call → List (List ℕ)
accepted_texts [] = []
accepted_texts (reserved stream ∷ past) = accepted_texts past
accepted_texts (issued stream at text ∷ past) = accepted_texts past
accepted_texts (redeemed text now (Live stream) ∷ past) = text ∷ accepted_texts past
accepted_texts (redeemed text now Dead ∷ past) = accepted_texts past
accepted_texts (forgot stream ∷ past) = accepted_texts past

-- the text is none of them
abbrev pub IsNotIn : List ℕ → List (List ℕ) → Type 0
IsNotIn text [] = Unit {0}
IsNotIn text (first ∷ texts) = (text ≢ first) × IsNotIn text texts

-- no two of them are one
abbrev pub AreApart : List (List ℕ) → Type 0
AreApart [] = Unit {0}
AreApart (first ∷ texts) = IsNotIn first texts × AreApart texts

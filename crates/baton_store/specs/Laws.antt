-- Laws over every list of calls.
use Rattle.std.specs.Prelude.{◌≡◌, ◌↔◌, ℕ, List}
use Rattle.hrana_value.specs.declared.StreamNo.{StreamNo}
use Rattle.baton_store.specs.Batons.{Batons, Redeems}
use Rattle.baton_store.specs.History.{Call, Run, IsLive, issued_texts, accepted_texts, AreApart}
use Rattle.baton_store.specs.declared.store.Redeem.{Redeem}
use Rattle.baton_store.specs.declared.store.Redeem.TheVariants.{Live}

-- A text is accepted exactly where it lives by the calls before.
abbrev pub LiveExactly : Type 0
LiveExactly = (past : List Call) (store new : Batons) (text : List ℕ) (now : ℕ) (answer : Redeem) → Run past store → Redeems store text now answer new
    → (stream : StreamNo) → (answer ≡ Live stream) ↔ IsLive past text now stream

-- No two issues give one text.
abbrev pub TextsDiffer : Type 0
TextsDiffer = (past : List Call) (store : Batons) → Run past store → AreApart (issued_texts past)

-- No text is accepted twice.
abbrev pub AcceptedOnce : Type 0
AcceptedOnce = (past : List Call) (store : Batons) → Run past store → AreApart (accepted_texts past)

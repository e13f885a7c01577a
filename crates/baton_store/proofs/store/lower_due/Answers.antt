use Rattle.std.proofs.Common.{◌≡◌, ◌+◌, true, false, inl, inr}
use Rattle.std.proofs.lemmas.Bool.{cases_lt}
use Rattle.baton_store.specs.Batons.{IsDue}
use Rattle.baton_store.specs.declared.limits.TheConstants.{BATON_LIFE_MS}
use Rattle.baton_store.proofs.StoreLemmas.{due_first}
use Rattle.baton_store.proofs.store.lower_due.Goals as goal

not_true : false ≡ true → ⊥
not_true e = cc

pub returns-in-None : goal.returns-in-None
returns-in-None c seen is =
    let due : IsDue c.args.unused.now c.args.now = elim (cases_lt c.args.now (c.args.unused.now.at + BATON_LIFE_MS)) [
      | inl young ↦ absurd (not_true (c.if-lives.ensures.1 young))
      | inr old ↦ old
    ] in
    due_first seen c.args.unused.now c.args.now (rw c.in-None.is at is) due

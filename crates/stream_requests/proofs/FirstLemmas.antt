-- The first kind of decline is one.
use Rattle.std.proofs.Common.{◌≡◌, inl, inr, refl, arith}
use Rattle.std.proofs.lemmas.Bool.{cases_lt}
use Rattle.hrana_value.specs.declared.failures.Decline.{Decline}
use Rattle.hrana_value.specs.declared.failures.Decline.TheVariants.{Unknown, Describe, Shape, BothSql, BadStep, Range, Float}
use Rattle.hrana_value.specs.Declines.{rank_of, IsFirst}

rank_of-one : (d e : Decline) → rank_of d ≡ rank_of e → d ≡ e
rank_of-one Unknown Unknown h = refl
rank_of-one Describe Describe h = refl
rank_of-one Shape Shape h = refl
rank_of-one BothSql BothSql h = refl
rank_of-one BadStep BadStep h = refl
rank_of-one Range Range h = refl
rank_of-one Float Float h = refl
rank_of-one d e h = absurd (omega (arith, h))

pub IsFirst-one : (stands : Decline → Type 0) (d e : Decline) → IsFirst stands d → IsFirst stands e → d ≡ e
IsFirst-one stands d e p q = elim (cases_lt (rank_of d) (rank_of e)) [
  | inl less ↦ absurd (q.none_before d less p.stands_itself)
  | inr more ↦ elim (cases_lt (rank_of e) (rank_of d)) [
    | inl less ↦ absurd (p.none_before e less q.stands_itself)
    | inr same ↦ rank_of-one d e (omega arith)
  ]
]

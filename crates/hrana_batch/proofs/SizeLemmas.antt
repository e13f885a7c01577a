-- The size of a condition, by which recursions over conditions end.
use denote.Param.Weighed.{most, at_most}
use Rattle.std.proofs.Common.{◌≡◌, ℕ, ◌<◌, ◌≤◌, List, length, get_or, subst, sym}
use Rattle.hrana_batch.specs.declared.conditions.Cond.{Cond}
use Rattle.hrana_batch.proofs.conditions.Cond.TheLaws.{the_size}

abbrev pub size_of : Cond → ℕ
size_of c = the_size c

abbrev pub largest : List Cond → ℕ
largest cs = most the_size cs

pub size-item : (cs : List Cond) (i : ℕ) (c : Cond) → i < length cs → c ≡ get_or cs i c → size_of c ≤ largest cs
size-item cs i c h e = subst (λ d. the_size d ≤ most the_size cs) (sym e) (at_most the_size cs i c h)

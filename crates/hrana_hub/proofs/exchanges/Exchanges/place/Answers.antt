use Rattle.std.proofs.Common.{rules}
use Rattle.std.proofs.lemmas.List.Sorted.{answers_always}
use Rattle.hrana_hub.proofs.MapLemmas.{searched}
use Rattle.hrana_hub.proofs.exchanges.Exchanges.place.Goals as goal

-- the closure gives an entry's number
pub returns : goal.returns
returns c =
    let facts = c.binary_search_by_key.ensures in
    let by_number = facts.position (λ entry. entry.0) (answers_always _ _ _ (λ f a r g called. search rules)) in
    rw (← c.self.view_is, ← c.deref.ensures.value) (searched _ _ _ (rw c.deref.ensures.value c.self.invariant.rising) facts.bound by_number)

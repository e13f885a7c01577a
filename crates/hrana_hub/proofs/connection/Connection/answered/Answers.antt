use Rattle.std.proofs.Common.{ℕ, not, nat_eq, rules, refl}
use Rattle.std.proofs.lemmas.Fn.{filter_same}
use Rattle.hrana_hub.proofs.connection.Connection.answered.Goals as goal

pub returns-then-over : goal.returns-then-over
returns-then-over c = λ reply.
    let e = filter_same _ (λ (number : ℕ). not (nat_eq number c.args.stream)) _ (λ x b f called. search rules) _ _ c.retain.ensures.filtered in
    rw (← c.self.view_is, c.if-over.true, c.saturating_sub-self-inside.ensures) (rw e refl)

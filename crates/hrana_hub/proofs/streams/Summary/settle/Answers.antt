use Rattle.std.proofs.Common.{◌≡◌, ◌+◌, ℕ, cond, None, Some, sym, ap, subst, arith}
use Rattle.hrana_hub.specs.declared.streams.Summary.{Summary}
use Rattle.hrana_hub.specs.Summaries.{Sums, session_of}
use Rattle.hrana_hub.proofs.Summing.{settled_known, counts_on}
use Rattle.hrana_hub.proofs.streams.Summary.settle.Goals as goal
use Rattle.hrana_hub.proofs.streams.Summary.settle.Goals.{then-of_exchanges+then-self-len, else-of_exchanges, else-of_exchanges-via-then-of_exchanges+else-self-len, else-of_exchanges-via-else-of_exchanges}

pub returns-after-of_exchanges-clause-sums : goal.returns-after-of_exchanges-clause-sums
returns-after-of_exchanges-clause-sums c =
    let old : Summary = c.args.self.now in
    let es = c.args.slots.now.entries in
    let n = c.in-Some.number in
    let x = c.in-Some-get.slot.now in
    elim c.if-of_exchanges.branch [
      | then-of_exchanges+then-self-len w ↦ by (old.sessions + 1) w.self-is (let one = ap {B = ℕ} (λ b. cond b 1 0) (w.if-of_exchanges.ensures) in omega (arith, one))
      | else-of_exchanges w ↦ by old.sessions w.self-is (elim w.else-of_exchanges.branch [
        | else-of_exchanges-via-then-of_exchanges+else-self-len u ↦ absurd (counts_on old n es c.in-Some.is c.requires x (sym c.in-Some-get.ensures.value) (sym (u.if-of_exchanges.ensures)) (λ few. (let long = u.len.ensures.len in omega (arith, few, long, u.if-self-len.false))))
        | else-of_exchanges-via-else-of_exchanges u ↦ (let none = ap {B = ℕ} (λ b. cond b 1 0) (u.if-of_exchanges.ensures) in omega (arith, none))
      ])
    ]
  where
    by : (count : ℕ) → c.if-of_exchanges.self ≡ record { but = None; sessions = count; calm_until = c.args.self.now.calm_until } → count ≡ c.args.self.now.sessions + session_of (Some c.in-Some-get.slot.now)
        → Sums (record { but = c.if-of_exchanges.self.but; sessions = c.if-of_exchanges.self.sessions; calm_until = c.min-self.result }) c.args.slots.now.entries
    by count is e =
        let same = ap (λ (k : Summary). k.calm_until) is in
        let least = c.min-self.ensures in
        subst (λ (k : Summary). Sums (record { but = k.but; sessions = k.sessions; calm_until = c.min-self.result }) c.args.slots.now.entries) (sym is)
        (settled_known c.args.self.now c.in-Some.number c.args.slots.now.entries c.in-Some.is c.requires c.in-Some-get.slot.now count c.min-self.result c.calm_until.result (sym c.in-Some-get.ensures.value) e (omega (arith, least, same)) (omega (arith, least)) c.calm_until.ensures)

use Rattle.std.proofs.Common.{◌∙◌, sym, ap, subst, Some, ℕ, get_or}
use Rattle.std.specs.List.{remove}
use Rattle.hrana_hub.specs.Maps.{Numbered, at}
use Rattle.hrana_hub.proofs.EntryLemmas.{at_without, rising_without, without_unknown}
use Rattle.hrana_hub.proofs.MapLemmas.{Rises, at_place, remove_place, at_gap}
use Rattle.hrana_hub.proofs.exchanges.Exchanges.remove.Goals as goal

pub invariant_of-self : goal.invariant_of-self
invariant_of-self c =
    let left = c.remove.ensures.items ∙ (ap (λ (es : Numbered ℕ). remove es c.in-Ok.place) c.self.view_is ∙ remove_place c.args.conn c.args.self.now c.in-Ok.place c.in-Ok.ensures) in
    record {
      rising = rw left (rising_without c.args.conn c.args.self.now (subst Rises c.self.view_is c.self.invariant.rising));
      room = rw c.remove.ensures.capacity c.self.invariant.room;
    }

pub returns-in-Ok-clause-stream : goal.returns-in-Ok-clause-stream
returns-in-Ok-clause-stream c =
    let e = c.remove.result in
    ap (λ (f : ℕ × ℕ). Some f.1) (c.remove.ensures.value ∙ ap (λ (es : Numbered ℕ). get_or es c.in-Ok.place e) c.self.view_is)
    ∙ sym (at_place c.args.conn c.args.self.now c.in-Ok.place e c.in-Ok.ensures)

pub returns-in-Ok-clause-rest : goal.returns-in-Ok-clause-rest
returns-in-Ok-clause-rest c = c.remove.ensures.items ∙ (ap (λ (es : Numbered ℕ). remove es c.in-Ok.place) c.self.view_is ∙ remove_place c.args.conn c.args.self.now c.in-Ok.place c.in-Ok.ensures)

pub returns-in-Err-clause-stream : goal.returns-in-Err-clause-stream
returns-in-Err-clause-stream c = sym (at_gap c.args.conn c.args.self.now c.in-Err.field-0 c.in-Err.ensures)

pub returns-in-Err-clause-rest : goal.returns-in-Err-clause-rest
returns-in-Err-clause-rest c = sym (without_unknown c.args.conn c.args.self.now (at_gap c.args.conn c.args.self.now c.in-Err.field-0 c.in-Err.ensures))

pub returns-in-Ok-clause-gone : goal.returns-in-Ok-clause-gone
returns-in-Ok-clause-gone c =
    let left = c.remove.ensures.items ∙ (ap (λ (es : Numbered ℕ). remove es c.in-Ok.place) c.self.view_is ∙ remove_place c.args.conn c.args.self.now c.in-Ok.place c.in-Ok.ensures) in
    ap (at c.args.conn) left ∙ at_without c.args.conn c.args.self.now (subst Rises c.self.view_is c.self.invariant.rising)

pub returns-in-Err-clause-gone : goal.returns-in-Err-clause-gone
returns-in-Err-clause-gone c = at_gap c.args.conn c.args.self.now c.in-Err.field-0 c.in-Err.ensures

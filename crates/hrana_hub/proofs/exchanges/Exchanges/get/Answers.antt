use Rattle.std.proofs.Common.{◌∙◌, sym, ap, Some, ℕ, get_or}
use Rattle.hrana_hub.specs.Maps.{Numbered}
use Rattle.hrana_hub.proofs.MapLemmas.{at_place, at_gap}
use Rattle.hrana_hub.proofs.exchanges.Exchanges.get.Goals as goal

pub returns-in-Ok : goal.returns-in-Ok
returns-in-Ok c =
    let e = c.index.result.now in
    sym (at_place c.args.conn c.args.self.now c.in-Ok.place e c.in-Ok.ensures ∙ ap (λ (f : ℕ × ℕ). Some f.1) (sym (c.index.ensures ∙ ap (λ (es : Numbered ℕ). get_or es c.in-Ok.place e) c.self.view_is)))

pub returns-in-Err : goal.returns-in-Err
returns-in-Err c = sym (at_gap c.args.conn c.args.self.now c.in-Err.field-0 c.in-Err.ensures)

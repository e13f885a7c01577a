use Rattle.std.proofs.Common.{◌≡◌, ◌≤◌, length, sym, ap, subst, ◌∙◌}
use Rattle.keeper_rows.specs.Spans.{replaced}
use Rattle.keeper_rows.proofs.KeyLemmas.{exchanged_back}
use Rattle.keeper_rows.proofs.rows.TableRows.replace_anew.Goals as goal

pub returns-in-Ok-None-clause-left : goal.returns-in-Ok-None-clause-left
returns-in-Ok-None-clause-left c = λ _.
    let old = c.self.inside.items.items in
    let whole : old ≡ c.args.self.now = cc in
    let span = c.args.span in
    c.exchange-in-Ok-None.ensures.put
    ∙ ap (λ l. replaced l span c.exchange.new.news.items) c.exchange.ensures.put
    ∙ exchanged_back old c.args.news.items c.exchange.new.news.items span c.requires.ordered (subst (λ l. span.to ≤ length l) (sym whole) c.requires.within) c.requires.as_many c.exchange.ensures.taken
    ∙ whole

pub returns-clause-err : goal.returns-clause-err
returns-clause-err c =
    let old = c.self.inside.items.items in
    let whole : old ≡ c.args.self.now = cc in
    let span = c.args.span in
    c.exchange-in-Err.ensures.put
    ∙ ap (λ l. replaced l span c.exchange.new.news.items) c.exchange.ensures.put
    ∙ exchanged_back old c.args.news.items c.exchange.new.news.items span c.requires.ordered (subst (λ l. span.to ≤ length l) (sym whole) c.requires.within) c.requires.as_many c.exchange.ensures.taken
    ∙ whole

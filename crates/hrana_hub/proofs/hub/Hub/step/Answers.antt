use Rattle.std.proofs.Common.{◌∙◌, sym, ap, subst, arith}
use Rattle.hrana_hub.specs.State.{Seen}
use Rattle.hrana_hub.specs.Agrees.{HubAgrees, IsAhead}
use Rattle.hrana_hub.specs.Step.{may_come}
use Rattle.hrana_hub.proofs.Drawing.{drawn_as}
use Rattle.hrana_hub.proofs.Stepping.{fits_comes, fits_few, fits_running, comes_counted, counted_ahead, counted_agrees, step_adds, frees_counted}
use Rattle.hrana_hub.proofs.hub.Hub.step.Goals as goal

pub count-requires : goal.count-requires
count-requires g c = omega (arith, fits_few c.args.self.now.state c.args.event c.requires.fits)

pub come-requires-clause-may : goal.come-requires-clause-may
come-requires-clause-may g c =
    ap (λ (h : Seen). may_come h.state c.args.event) c.count.ensures ∙ comes_counted c.args.self.now.state c.args.event ∙ fits_comes c.args.self.now.state c.args.event c.requires.fits

pub come-requires-clause-ahead : goal.come-requires-clause-ahead
come-requires-clause-ahead g c =
    subst (λ (h : Seen). IsAhead h.state) (sym c.count.ensures)
    (counted_ahead c.args.self.now.state c.requires.agrees.counts (fits_few c.args.self.now.state c.args.event c.requires.fits))

pub come-requires-clause-agrees : goal.come-requires-clause-agrees
come-requires-clause-agrees g c = subst (HubAgrees _ _ _ _) (sym c.count.ensures) (counted_agrees _ _ _ _ c.args.self.now c.requires.agrees)

pub returns-clause-adds : goal.returns-clause-adds
returns-clause-adds g c = drawn_as _ _ _ _ _ _ (λ draws h. step_adds _ _ c.args.self.now c.count.new.self c.come.new.self c.args.event draws c.come.result c.count.ensures h) c.come.ensures.adds

pub returns-clause-freed : goal.returns-clause-freed
returns-clause-freed g c = frees_counted c.args.event c.args.self.now c.count.new.self c.come.new.self c.count.ensures c.come.ensures.freed

pub come-requires-clause-running : goal.come-requires-clause-running
come-requires-clause-running g c = ap (λ (h : Seen). h.state.stopped) c.count.ensures ∙ fits_running c.args.self.now.state c.args.event c.requires.fits

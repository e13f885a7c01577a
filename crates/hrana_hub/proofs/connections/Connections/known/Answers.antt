use Rattle.std.proofs.Common.{◌∙◌, sym, ap, subst, refl, Some, ℕ, get_or}
use Rattle.hrana_hub.specs.State.{Conn}
use Rattle.hrana_hub.specs.Maps.{Numbered}
use Rattle.hrana_hub.proofs.MapLemmas.{Rises, at_place, set_known, rises_put}
use Rattle.hrana_hub.proofs.connections.Connections.known.Goals as goal

pub invariant_of-self-lent : goal.invariant_of-self-lent
invariant_of-self-lent c = λ w.
    let is = set_known c.args.conn w c.args.self.now c.self.inside.items.items c.args.place c.index_mut.result.now c.requires c.self.view_is c.index_mut.ensures.value in
    record {
      rising = rw is (rises_put c.args.conn w c.args.self.now (subst Rises c.self.view_is c.self.invariant.rising));
      room = c.self.invariant.room;
    }

pub returns : goal.returns
returns c =
    let e = c.index_mut.result.now in
    let p = c.requires in (
      (refl, λ w. set_known c.args.conn w c.args.self.now c.self.inside.items.items c.args.place e p c.self.view_is c.index_mut.ensures.value),
      record {
        writes_back = tt;
        value = at_place c.args.conn c.args.self.now c.args.place e p ∙ ap (λ (f : ℕ × Conn). Some f.1) (sym (c.index_mut.ensures.value ∙ ap (λ (es : Numbered Conn). get_or es c.args.place e) c.self.view_is));
      },
    )

use Rattle.std.proofs.Common.{◌≡◌, ◌≤◌, ◌∙◌, ℕ, refl, sym, ap, subst, length, arith}
use Rattle.hrana_hub.specs.Maps.{Numbered}
use Rattle.hrana_hub.specs.declared.limits.TheConstants.{MAX_CONNECTIONS}
use Rattle.hrana_hub.proofs.MapLemmas.{Rises, at_place, insert_room, rises_placed, none_some}
use Rattle.hrana_hub.proofs.exchanges.Exchanges.begin.Goals as goal

pub invariant_of-self : goal.invariant_of-self
invariant_of-self c =
    let now = c.args.self.now in
    let same : length c.self.inside.items.items ≡ length now = ap (λ (es : Numbered ℕ). length es) c.self.view_is in
    let room : MAX_CONNECTIONS ≤ c.self.inside.items.cap = c.self.invariant.room in
    let put = insert_room c.args.conn c.args.stream c.args.stream now c.self.inside.items.items c.insert-put.new.self.items c.in-Err.place _ c.in-Err.ensures c.self.view_is refl
    (c.insert-put.ensures.succeeds (omega (arith, same, room, c.self.inside.items.ok))) c.insert-put.ensures.items in
    record {
      rising = rw put (rises_placed c.args.conn c.args.stream now (subst Rises c.self.view_is c.self.invariant.rising));
      room = omega (arith, room, c.insert-put.ensures.capacity);
    }

pub returns-in-Err : goal.returns-in-Err
returns-in-Err c =
    let now = c.args.self.now in
    let same : length c.self.inside.items.items ≡ length now = ap (λ (es : Numbered ℕ). length es) c.self.view_is in
    let room : MAX_CONNECTIONS ≤ c.self.inside.items.cap = c.self.invariant.room in
    insert_room c.args.conn c.args.stream c.args.stream now c.self.inside.items.items c.insert-put.new.self.items c.in-Err.place _ c.in-Err.ensures c.self.view_is refl
    (c.insert-put.ensures.succeeds (omega (arith, same, room, c.self.inside.items.ok))) c.insert-put.ensures.items

pub returns-in_default : goal.returns-in_default
returns-in_default c = absurd (none_some (sym c.requires.unknown ∙ at_place c.args.conn c.args.self.now c.in_default.field-0 (0, c.args.stream) c.in_default.ensures))

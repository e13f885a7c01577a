use Rattle.std.proofs.Common.{◌≡◌, Bool, true, false, cond, refl, ◌∙◌}
use Rattle.std.specs.Prelude.{◌||◌, string_bytes}
use Rattle.std.specs.BTreeSet.{contains_text}
use Rattle.std.specs.Str.{bytes_eq}
use Rattle.std.proofs.lemmas.Map.Text.{btree_set_updates_text}
use Rattle.keeper_dialect.proofs.taken.insert.Goals as goal

either : (a b : Bool) → cond a true b ≡ (a || b)
either true b = refl
either false b = refl

pub returns-clause-takes : goal.returns-clause-takes
returns-clause-takes c = λ bytes. btree_set_updates_text (string_bytes c.args.name) c.args.names.now c.insert.new.self true c.in_ok-insert.ensures.updates bytes ∙ either (bytes_eq (string_bytes c.args.name) bytes) (contains_text c.args.names.now bytes)

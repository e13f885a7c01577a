-- The parts of a tree are less deep than it.
use Rattle.std.proofs.Common.{◌≡◌, ℕ, zero, suc, ◌<◌, ◌≤◌, List, [], ◌∷◌, length, get_or, Option, Some, ◌∙◌, ap, sym, subst, arith, max}
use Rattle.std.specs.Prelude.{unwrap_or}
use Rattle.std.specs.Ordering.{nat_cmp, match_ordering}
use Rattle.std.proofs.Common.{Ordering, Less, Equal, Greater, Vec, Global}
use Rattle.std.specs.Cmp.Lexicographic.{slice_cmp}
use Rattle.serde_json.specs.Data.{Data, null, boolean, number, string, array, object, Members, no_members, member, depth, items_depth, members_depth}
use Rattle.serde_json.specs.Find.{get_member}
use Rattle.serde_json.specs.View.{view, items_view}
use Rattle.serde_json.specs.declared.value.Value.{Value as Json}
use Rattle.serde_json.specs.declared.value.Value.TheVariants.{Array}
use Rattle.serde_json.proofs.Views.{view-Array}
use Rattle.hrana_value.specs.Members.{part_at}
use Rattle.hrana_batch.specs.Tree.{HasKind}

abbrev depth_or_none : Option Data → ℕ
depth_or_none o = depth (unwrap_or o null)

chosen : (o : Ordering) (rest : Option Data) (e : Data) (n : ℕ) → depth_or_none rest ≤ n → depth_or_none (match_ordering o rest (Some e) rest) ≤ max (depth e) n
chosen Less rest e n h = omega (arith, h)
chosen Equal rest e n h = omega arith
chosen Greater rest e n h = omega (arith, h)

found_depth : (k : List ℕ) (ms : Members) → depth_or_none (get_member k ms) ≤ members_depth ms
found_depth k no_members = omega arith
found_depth k (member l e ms) = chosen (slice_cmp nat_cmp k l) (get_member k ms) e (members_depth ms) (found_depth k ms)

part_depth : (t : Data) (kind name : List ℕ) → HasKind t kind → depth (part_at name t) < depth t
part_depth null kind name h = cc h
part_depth (boolean b) kind name h = cc h
part_depth (number n) kind name h = cc h
part_depth (string s) kind name h = cc h
part_depth (array ds) kind name h = cc h
part_depth (object ms) kind name h = omega (arith, found_depth name ms)

pub member_depth : (t d : Data) (kind name : List ℕ) → HasKind t kind → d ≡ part_at name t → depth d < depth t
member_depth t d kind name h e = subst (λ x. depth x < depth t) (sym e) (part_depth t kind name h)

pub item_depth : (js : List Json) (i : ℕ) (j : Json) → i < length js → j ≡ get_or js i j → depth (view j) ≤ items_depth (items_view js)
item_depth [] i j h e = absurd (omega arith)
item_depth (k ∷ js) zero j h e = let same : depth (view j) ≡ depth (view k) = ap (λ x. depth (view x)) e in omega (arith, same)
item_depth (k ∷ js) (suc i) j h e = omega (arith, item_depth js i j (omega arith) e)

pub array_depth : (j : Json) (v : Vec Json Global) (js : List Json) → j ≡ Array v → js ≡ v.items → depth (view j) ≡ suc (items_depth (items_view js))
array_depth j v js e same = ap (λ x. depth (view x)) e ∙ ap depth (view-Array v) ∙ ap (λ l. suc (items_depth (items_view l))) (sym same)

use Rattle.std.proofs.Common.{◌≡◌, Some, None, cond, ap, ◌∙◌, arith}
use Rattle.std.specs.Option.{option_or}
use Rattle.std.specs.Str.{str_eq_ignore_ascii_case}
use Rattle.memory_keeper.specs.Names.{place_of_name}
use Rattle.memory_keeper.proofs.NameLemmas.{names_more}
use Rattle.memory_keeper.proofs.names.TableNames.add_tables.Goals as goal

pub loop-place-preserved : goal.loop-place-preserved
loop-place-preserved c = λ has.
    let names = c.loop-place.self in
    let place = c.loop-place.place in
    let table = c.index-tables-place.result in
    let named : c.as_str.result.now ≡ table.name = cc c.as_str.ensures in
    names_more names c.add.new.self c.args.tables.now place table (omega arith) c.index-tables-place.is (c.loop-place.invariant has)
    (λ other. c.in_ok-add.ensures other ∙ ap (λ n. option_or (place_of_name names other) (cond (str_eq_ignore_ascii_case n other) (Some place) None)) named)

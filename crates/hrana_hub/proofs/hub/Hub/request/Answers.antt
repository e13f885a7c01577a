use Rattle.std.proofs.Common.{rules, w32}
use Rattle.std.specs.Prelude.{FitsSigned}
use Rattle.std.proofs.lemmas.Int.{to_z-of_z}
use Rattle.hrana_hub.proofs.hub.Hub.request.Goals as goal

pub returns-in-OpenStream : goal.returns-in-OpenStream
returns-in-OpenStream c = λ k known.
    let fits : FitsSigned w32 c.in-OpenStream.id = search rules in
    let its = c.ranges.request_id in
    rw c.in-OpenStream.is (simp to_z-of_z at (c.open_stream.ensures k known))

pub returns-in-OnStream : goal.returns-in-OnStream
returns-in-OnStream c = λ k known.
    let fits : FitsSigned w32 c.in-OnStream.stream_id = search rules in
    let its = c.ranges.request_id in
    rw c.in-OnStream.is (simp to_z-of_z at (c.ask.ensures k known))

pub returns-in-StoreSql : goal.returns-in-StoreSql
returns-in-StoreSql c = λ k known.
    let fits : FitsSigned w32 c.in-StoreSql.id = search rules in
    let its = c.ranges.request_id in
    rw c.in-StoreSql.is (simp to_z-of_z at (c.store.ensures k known))

use Rattle.std.proofs.Common.{◌≡◌, map, drop}
use Rattle.httparse.specs.Borrowed.{header_parts}
use Rattle.http_wire.specs.Fields.{any_value, lists}
use Rattle.http_wire.proofs.fields.any_lists.Given as goal

abbrev pub invariant-loop-field : goal.invariant-loop-field
invariant-loop-field l =
    any_value (lists l.comparison l.word) l.name (map header_parts (drop l.field-index l.fields)) ≡ any_value (lists l.comparison l.word) l.name (map header_parts l.fields)

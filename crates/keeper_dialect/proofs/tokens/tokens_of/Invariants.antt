use Rattle.std.proofs.Common.{◌≡◌, ◌≤◌, ◌-◌, ◌++◌, length, drop}
use Rattle.std.specs.Prelude.{slice_range}
use Rattle.std.specs.Str.{IsCharBoundary}
use Rattle.sql_text.specs.Pieces.{pieces}
use Rattle.keeper_dialect.specs.Tokens.{tokens_from, tokens_of, views}
use Rattle.keeper_dialect.proofs.tokens.tokens_of.Given as goal

abbrev pub invariant-loop-at : goal.invariant-loop-at
invariant-loop-at l = record {
  read : views l.tokens.items ++ tokens_from l.seen (slice_range l.sql l.from l.at) l.at (pieces (drop l.at l.sql)) ≡ tokens_of l.sql;
  same : l.text ≡ l.sql;
  order : l.from ≤ l.at;
  within : l.at ≤ length l.sql;
  starts : IsCharBoundary l.sql l.from;
  between : IsCharBoundary l.sql l.at;
}

abbrev pub decreases-loop-at : goal.decreases-loop-at
decreases-loop-at l = length l.text - l.at

use Rattle.std.proofs.Common.{◌≡◌, ◌≤◌, ◌-◌, ◌++◌, length, drop, string_bytes}
use Rattle.std.specs.Prelude.{slice_range}
use Rattle.std.specs.Str.{IsCharBoundary}
use Rattle.keeper_dialect.specs.Terms.{undoubled}
use Rattle.keeper_dialect.proofs.names.undoubled.Given as goal

abbrev pub invariant-loop-at : goal.invariant-loop-at
invariant-loop-at l = record {
  single : string_bytes l.single ++ slice_range l.text l.from l.at ++ undoubled l.quote (drop l.at l.text) ≡ undoubled l.quote l.text;
  same : l.bytes ≡ l.text;
  order : l.from ≤ l.at;
  within : l.at ≤ length l.text;
  between : IsCharBoundary l.text l.from;
}

abbrev pub decreases-loop-at : goal.decreases-loop-at
decreases-loop-at l = length l.bytes - l.at

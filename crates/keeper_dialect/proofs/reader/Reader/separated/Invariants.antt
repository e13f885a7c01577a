use Rattle.std.proofs.Common.{◌≡◌, ℕ, List, length}
use Rattle.keeper_dialect.specs.Reading.{separated, separated_behind}
use Rattle.keeper_dialect.specs.Taken.{is_taken}
use Rattle.keeper_dialect.proofs.reader.Reader.separated.Given as goal

abbrev pub invariant-parts : goal.invariant-parts
invariant-parts g l = record {
  list : separated_behind g.T.Part.read_at l.parts l.self ≡ separated g.T.Part.read_at l.fn.self;
  taken : (name : List ℕ) → is_taken l.taken name ≡ g.T.Part.is_taken_by l.parts name;
}

abbrev pub decreases-parts : goal.decreases-parts
decreases-parts g l = length l.self

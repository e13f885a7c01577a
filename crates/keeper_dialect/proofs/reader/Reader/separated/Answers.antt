use Rattle.std.proofs.Common.{◌∷◌, ◌++◌, [], ◌∙◌, sym, ap, subst}
use Rattle.keeper_dialect.specs.Reading.{separated, StopsAs}
use Rattle.keeper_dialect.proofs.ReadingLemmas.{handed_on}
use Rattle.keeper_dialect.proofs.CommaLemmas.{list_begins, next_stops, list_goes, list_shorter, list_ends}
use Rattle.keeper_dialect.proofs.reader.Reader.separated.Goals as goal

pub parts-init : goal.parts-init
parts-init g c = record {
  list = list_begins g.T.Part.read_at c.new-parts.result c.args.self.now c.new-parts.ensures;
  taken = λ name. c.new-taken.ensures name ∙ sym (c.requires.free name) ∙ ap (λ xs. g.T.Part.is_taken_by xs name) (sym c.new-parts.ensures);
}

pub read-requires : goal.read-requires
read-requires g c = λ name. c.parts.invariant.taken name ∙ ap (λ xs. g.T.Part.is_taken_by xs name) (sym c.as_slice.ensures)

pub returns-in_err-part-clause-stops : goal.returns-in_err-part-clause-stops
returns-in_err-part-clause-stops g c =
    handed_on c.from_residual.result c.in_err-part.field-0.0 (separated g.T.Part.read_at c.args.self.now) c.from_residual.ensures.1
    (next_stops g.T.Part.read_at c.parts.parts c.parts.self c.in_err-part.field-0.0 _ c.parts.invariant.list (subst (λ xs. StopsAs (g.T.Part.read_at xs c.parts.self) c.in_err-part.field-0.0) c.as_slice.ensures c.in_err-part.ensures.stops))

pub returns-then-not-takes-clause-read : goal.returns-then-not-takes-clause-read
returns-then-not-takes-clause-read g c =
    list_ends g.T.Part.read_at c.parts.parts c.push.new.self c.parts.self _ _ c.takes.new.self _ c.parts.invariant.list (ap (λ xs. g.T.Part.read_at xs c.parts.self) (sym c.as_slice.ensures) ∙ c.in_ok-part.ensures.read) c.if-not-takes.ensures.found c.if-not-takes.ensures.left c.in_ok-push.ensures.ok

pub parts-smaller : goal.parts-smaller
parts-smaller g c =
    list_shorter g.T.Part.read_at c.requires c.parts.parts c.parts.self _ _ c.takes.new.self (ap (λ xs. g.T.Part.read_at xs c.parts.self) (sym c.as_slice.ensures) ∙ c.in_ok-part.ensures.read) c.if-not-takes.ensures.found c.if-not-takes.ensures.left

pub parts-preserved : goal.parts-preserved
parts-preserved g c = record {
  list = list_goes g.T.Part.read_at c.requires c.parts.parts c.push.new.self c.parts.self _ _ c.takes.new.self _ c.parts.invariant.list (ap (λ xs. g.T.Part.read_at xs c.parts.self) (sym c.as_slice.ensures) ∙ c.in_ok-part.ensures.read) c.if-not-takes.ensures.found c.if-not-takes.ensures.left c.in_ok-push.ensures.ok;
  taken = λ name. c.in_ok-part.ensures.takes name ∙ ap (λ xs. g.T.Part.is_taken_by xs name) (ap (λ xs. xs ++ c.in_ok-part.part ∷ []) c.as_slice.ensures ∙ sym c.in_ok-push.ensures.ok);
}

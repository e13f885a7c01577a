use Rattle.std.proofs.Common.{◌≡◌, ◌∙◌, [], subst, Some, Ok, Bool, List, drop, sym, ap}
use Rattle.keeper_dialect.specs.declared.query.Add.{Add}
use Rattle.keeper_dialect.specs.declared.query.Term.{Term}
use Rattle.keeper_dialect.specs.declared.query.DialectFail.{DialectFail}
use Rattle.keeper_dialect.specs.Tokens.{Token}
use Rattle.keeper_dialect.specs.Reading.{Reading, and_then, symbol_at, StopsAs}
use Rattle.keeper_dialect.specs.Terms.{term_at, operator_of, operand_at, add_at, adds_at}
use Rattle.keeper_dialect.proofs.ReadingLemmas.{then_ok, stops_then, handed_on, stops_repeated, goes_repeated, ends_repeated}
use Rattle.keeper_dialect.proofs.Shorter.{adds_go_on}
use Rattle.keeper_dialect.proofs.reader.Reader.adds.Goals as goal
use Rattle.keeper_dialect.proofs.reader.Reader.adds.Goals.{In_ok-push}

-- the term behind an operator
behind : Bool → List Token → Reading Add
behind minus ts = and_then (term_at ts) (λ t rest. Ok (record { minus = minus; term = t }, rest))

part : (ts : List Token) (minus : Bool) → Some minus ≡ operator_of (symbol_at ts) → add_at [] ts ≡ Some (behind minus (drop 1 ts))
unfolding behind
part ts minus is = ap (λ o. operand_at o (drop 1 ts)) (sym is)

behind_stops : (minus : Bool) (ts us : List Token) (e : DialectFail) → us ≡ ts → StopsAs (term_at us) e → StopsAs (behind minus ts) e
unfolding behind
behind_stops minus ts us e same stops = stops_then (term_at ts) _ e (subst (λ vs. StopsAs (term_at vs) e) same stops)

behind_read : (minus : Bool) (ts us : List Token) (t : Term) (rest : List Token) → us ≡ ts → term_at us ≡ Ok (t, rest) → behind minus ts ≡ Ok (record { minus = minus; term = t }, rest)
unfolding behind
behind_read minus ts us t rest same is = then_ok (term_at ts) _ t rest (ap term_at (sym same) ∙ is)

found : (c : In_ok-push) → add_at c.loop-minus.adds c.loop-minus.self ≡ Some (Ok (record { minus = c.in-Some.minus; term = c.in_ok-term.term }, c.term.new.self))
found c = part c.loop-minus.self c.in-Some.minus c.in-Some.ensures.operator ∙ ap (λ r. Some r) (behind_read c.in-Some.minus (drop 1 c.loop-minus.self) c.operator.new.self c.in_ok-term.term c.term.new.self c.in-Some.ensures.left c.in_ok-term.ensures.read)

pub returns-in_err-term-clause-stops : goal.returns-in_err-term-clause-stops
returns-in_err-term-clause-stops c =
    handed_on c.from_residual.result c.in_err-term.field-0.0 (adds_at c.args.self.now) c.from_residual.ensures.1
    (stops_repeated add_at adds_go_on c.loop-minus.adds c.loop-minus.self _ c.in_err-term.field-0.0 (adds_at c.args.self.now) c.loop-minus.invariant (part c.loop-minus.self c.in-Some.minus c.in-Some.ensures.operator) (behind_stops c.in-Some.minus (drop 1 c.loop-minus.self) c.operator.new.self c.in_err-term.field-0.0 c.in-Some.ensures.left c.in_err-term.ensures.stops))

pub loop-minus-smaller : goal.loop-minus-smaller
loop-minus-smaller c = adds_go_on.shortens c.loop-minus.adds c.loop-minus.self _ _ (found c)

pub loop-minus-preserved : goal.loop-minus-preserved
loop-minus-preserved c = goes_repeated add_at adds_go_on c.loop-minus.adds c.push.new.self c.loop-minus.self _ _ _ c.loop-minus.invariant (found c) c.in_ok-push.ensures.ok

pub returns-clause-read : goal.returns-clause-read
returns-clause-read c = ends_repeated add_at c.loop-minus.adds c.loop-minus.self c.operator.new.self _ c.loop-minus.invariant (ap (λ o. operand_at o (drop 1 c.loop-minus.self)) (sym c.in_default.ensures.operator)) c.in_default.ensures.left

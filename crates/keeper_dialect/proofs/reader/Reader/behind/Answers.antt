use Rattle.std.proofs.Common.{◌≡◌, ◌-◌, ◌∙◌, ℕ, List, length, take, sym, ap}
use Rattle.std.proofs.lemmas.List.{length-map, take-map}
use Rattle.keeper_dialect.specs.Tokens.{Token, view, views}
use Rattle.keeper_dialect.specs.Lists.{front}
use Rattle.keeper_dialect.specs.declared.tokens.Token.{Token as HeldToken}
use Rattle.keeper_dialect.proofs.reader.Reader.behind.Goals as goal

-- the front of tokens, without where their texts lie
front_views : (tokens rest : List HeldToken) (left : List Token) (n : ℕ) → views rest ≡ left → n ≡ length tokens - length rest → views (take n tokens) ≡ front (views tokens) left
front_views tokens rest left n same is =
    sym (take-map view n tokens) ∙ ap (λ m. take m (views tokens)) (is ∙ (λ i. sym (length-map tokens view) i - sym (length-map rest view) i) ∙ ap (λ us. length (views tokens) - length us) same)

pub returns : goal.returns
returns c = front_views c.args.tokens.now c.self.inside.rest.now c.args.self.now c.saturating_sub.result c.self.view_is c.saturating_sub.ensures

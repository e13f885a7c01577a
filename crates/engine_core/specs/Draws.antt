-- The words that were drawn.
use Rattle.std.specs.Prelude.{◌≡◌, ℕ, ◌^◌, ◌<◌, ◌==◌, List, [], ◌∷◌, ◌++◌, map, length, Option, Some, Result, Ok, Err, if◌then◌else◌}
use Rattle.std.specs.List.{list_any, range_with_len}
use Rattle.engine_core.specs.Listed.{Listed, token_calls}
use Rattle.engine_core.specs.declared.outside.Failed.{Failed}
use Rattle.engine_core.specs.declared.count_tokens.CountTokens.{CountTokens}

-- what a call drew: its two words, or nothing
pub data Draw : Type 0 where
  words : List ℕ → Draw
  failed : Draw

abbrev pub draw_of : Result (List ℕ) Failed → Draw
draw_of (Ok given) = words given
draw_of (Err fail) = failed

-- A call told its draw, where those before it were told. Tokens may stop telling after 2 ^ 63 draws.
abbrev pub TellsDraw : Option (List Draw) → Option (List Draw) → Result (List ℕ) Failed → Type 0
TellsDraw old new result = (draws : List Draw) → old ≡ Some draws → length draws < 2 ^ 63 → new ≡ Some (draws ++ draw_of result ∷ [])

-- ---- tokens in memory

-- what the call of this number draws: nothing where it is listed, and zeros elsewhere
abbrev pub draw_at : List ℕ → ℕ → Draw
draw_at fail_at number = if list_any (λ listed. number == listed) fail_at then failed else words (0 ∷ 0 ∷ [])

-- what the calls so far drew
abbrev pub draws_of : Listed → List Draw
draws_of l = map (draw_at l.fail_at) (range_with_len 1 l.calls)

abbrev pub token_draws : CountTokens → List Draw
token_draws t = draws_of (token_calls t)

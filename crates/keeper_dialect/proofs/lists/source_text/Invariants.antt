use Rattle.std.proofs.Common.{◌≡◌, ◌+◌, take, string_bytes}
use Rattle.keeper_dialect.specs.Tokens.{views}
use Rattle.keeper_dialect.specs.Lists.{source_text}
use Rattle.keeper_dialect.proofs.lists.source_text.Given as goal

abbrev pub invariant-loop-token : goal.invariant-loop-token
invariant-loop-token l = string_bytes l.source ≡ source_text (views (take (l.token-index + 1) l.tokens))

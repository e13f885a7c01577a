use Rattle.std.proofs.Common.{◌-◌, get_or, length, ap, sym, ◌∙◌, arith}
use Rattle.keeper_dialect.proofs.NameLemmas.{quote_starts, quote_ends}
use Rattle.keeper_dialect.proofs.names.without_quotes.Goals as goal

pub range-requires-clause-start_boundary : goal.range-requires-clause-start_boundary
range-requires-clause-start_boundary c positive =
    let same = c.as_bytes-bytes.ensures.value in
    quote_ends c.args.quote c.args.text.now 0 c.utf8.text c.requires (omega (arith, ap length same)) (ap (λ t. get_or t 0 0) (sym same) ∙ c.if-bytes-quote.true)

pub range-requires-clause-end_boundary : goal.range-requires-clause-end_boundary
range-requires-clause-end_boundary c =
    let same = c.as_bytes-bytes.ensures.value in
    quote_starts c.args.quote c.args.text.now (length c.args.text.now - 1) c.requires (omega (arith, ap length same)) (ap (λ t. get_or t (length t - 1) 0) (sym same) ∙ c.if-bytes-quote-2.true)

use Rattle.std.proofs.Common.{◌≡◌, ◌∙◌, sym, ap, string_bytes, rules}
use Rattle.std.specs.Fmt.{decimal}
use Rattle.std.proofs.lemmas.Fmt.{IsAscii-decimal}
use Rattle.std.proofs.lemmas.Str.{IsUtf8-from_ascii}
use Rattle.hrana_serve.proofs.ScriptLemmas.{no_number, one_number}
use Rattle.hrana_serve.proofs.script.number_of.Goals as goal

pub returns-in_default-clause-none : goal.returns-in_default-clause-none
returns-in_default-clause-none c = λ _ n lt e. c.in_default.ensures.cases.0 (rw e (IsUtf8-from_ascii (decimal n) (IsAscii-decimal n lt)))

pub returns-in_default-parse-clause-none : goal.returns-in_default-parse-clause-none
returns-in_default-parse-clause-none c = λ _ n lt e. no_number n _ lt (c.in-Ok.ensures.cases.0 ∙ e) c.in_default-parse.ensures.value.0

pub returns-clause-none : goal.returns-clause-none
returns-clause-none c = λ _ n lt e.
    let same = one_number c.in-Ok-parse.number n _ lt (c.in-Ok.ensures.cases.0 ∙ e) c.in-Ok-parse.ensures.value.0 in
    let text : string_bytes c.in-Ok-to_string.written ≡ decimal c.in-Ok-parse.number = search (rules, c.in-Ok-to_string.ensures.ok) in
    c.is_same.ensures.differs c.if-is_same.false (c.as_bytes.ensures.value ∙ text ∙ ap decimal same ∙ sym e)

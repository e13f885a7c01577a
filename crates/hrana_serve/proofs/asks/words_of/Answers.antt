use Rattle.hrana_serve.proofs.AskLemmas.{no_rest, first_is, no_last, second_is, third_is, not_a_word, after_word}
use Rattle.hrana_serve.proofs.asks.words_of.Goals as goal

pub returns-in_err-after : goal.returns-in_err-after
returns-in_err-after c = rw (c.from_residual.ensures) (λ m p t a h. no_rest _ _ c.first_word.ensures.whole (after_word _ _ _ _ c.first_word.ensures.parts c.in_err-after.was) m p t a h)

pub returns-in_err-last : goal.returns-in_err-last
returns-in_err-last c = rw (c.from_residual-in_err-last.ensures) (λ m p t a h.
    (let first = first_is _ _ _ c.first_word.ensures.whole (after_word _ _ _ _ c.first_word.ensures.parts c.in_ok-after.was) m p t a h in
    no_last _ _ c.first_word-2.ensures.whole (after_word _ _ _ _ c.first_word-2.ensures.parts c.in_err-last.was) p t a h.path_is first.after_is))

pub returns-in_err-method : goal.returns-in_err-method
returns-in_err-method c = rw (c.from_residual-in_err-method.ensures) (λ m p t a h.
    (let first = first_is _ _ _ c.first_word.ensures.whole (after_word _ _ _ _ c.first_word.ensures.parts c.in_ok-after.was) m p t a h in
    not_a_word _ m c.in_err-method.ensures first.word h.method_is))

pub returns-in_err-path : goal.returns-in_err-path
returns-in_err-path c = rw (c.from_residual-in_err-path.ensures) (λ m p t a h.
    (let first = first_is _ _ _ c.first_word.ensures.whole (after_word _ _ _ _ c.first_word.ensures.parts c.in_ok-after.was) m p t a h in
    let second = second_is _ _ _ c.first_word-2.ensures.whole (after_word _ _ _ _ c.first_word-2.ensures.parts c.in_ok-last.was) p t a h.path_is first.after_is in
    not_a_word _ p c.in_err-path.ensures second.word h.path_is))

pub returns-in_err-token : goal.returns-in_err-token
returns-in_err-token c = rw (c.from_residual-in_err-token.ensures) (λ m p t a h.
    (let first = first_is _ _ _ c.first_word.ensures.whole (after_word _ _ _ _ c.first_word.ensures.parts c.in_ok-after.was) m p t a h in
    let second = second_is _ _ _ c.first_word-2.ensures.whole (after_word _ _ _ _ c.first_word-2.ensures.parts c.in_ok-last.was) p t a h.path_is first.after_is in
    not_a_word _ t c.in_err-token.ensures (third_is _ _ _ c.first_word-3.ensures.whole c.first_word-3.ensures.parts t a h.token_is second.last_is) h.token_is))

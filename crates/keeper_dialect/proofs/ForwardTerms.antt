-- Words, signs, names and terms go forward.
use Rattle.std.proofs.Common.{◌≡◌, ℕ, Bool, true, false, cond, eqb-true, List, [], ◌∷◌, length, Option, Some, None, refl, sym, ap, ◌∙◌, subst, codes, append-nil}
use Rattle.std.specs.Prelude.{◌==◌, ◌&&◌, pos}
use Rattle.keeper_dialect.specs.declared.tokens.Keyword.{Keyword}
use Rattle.keeper_dialect.specs.declared.tokens.Keyword.TheVariants as keyword
use Rattle.keeper_dialect.specs.declared.tokens.Symbol.{Symbol}
use Rattle.keeper_dialect.specs.declared.tokens.Symbol.TheVariants as symbol
use Rattle.keeper_dialect.specs.declared.query.Term.{Term}
use Rattle.keeper_dialect.specs.declared.query.Term.TheVariants as term
use Rattle.keeper_dialect.specs.Tokens.{Token, is_same_name}
use Rattle.keeper_dialect.specs.Reading.{Reading, is_keyword, is_sign, keyword_at, sign_at}
use Rattle.keeper_dialect.specs.Terms.{one_at, name_of, name_at, number_of, number_at, is_text, digits_behind, blob_or_name, word_term_at, other_term_of, other_term_at, term_at}
use Rattle.keeper_dialect.specs.Query.{is_end}
use Rattle.keeper_dialect.specs.Grammar.{standing, Keyed, Signed, Name, IsTerm, number, negative, null, name}
use Rattle.keeper_dialect.proofs.ExactTerms.{tested, term_at-symbol, other_is, number_is, blob_front}
use Rattle.keeper_dialect.proofs.Exact.{end_is}
use Rattle.keeper_dialect.proofs.Forward.{Ended, last, next, Outcome, went, stopped, Begun, begun, Going, head_of, outcome_behind, going_one}

-- some token of a kind
abbrev pub some_token : Symbol → List ℕ → Token
some_token s bytes = record { symbol = s; before = []; text = bytes; start = 0 }

keyword_self : (k : Keyword) → is_keyword k (symbol.Keyword k) ≡ true
keyword_self keyword.Count = refl
keyword_self keyword.Create = refl
keyword_self keyword.Delete = refl
keyword_self keyword.From = refl
keyword_self keyword.Insert = refl
keyword_self keyword.Into = refl
keyword_self keyword.Key = refl
keyword_self keyword.Null = refl
keyword_self keyword.Primary = refl
keyword_self keyword.Select = refl
keyword_self keyword.Set = refl
keyword_self keyword.Table = refl
keyword_self keyword.Update = refl
keyword_self keyword.Values = refl
keyword_self keyword.Where = refl

pub going_keyword : (k : Keyword) → Going (Keyed k) (keyword_at k)
unfolding keyword_at
going_keyword k = going_one (λ t. standing (is_keyword k t.symbol)) (keyword_at k) (λ t ts. tested (is_keyword k t.symbol) (t ∷ ts)) (λ t end. ap (λ s. standing (is_keyword k s)) (end_is t.symbol end)) (some_token (symbol.Keyword k) []) tt (ap standing (keyword_self k))

pub going_sign : (s : ℕ) → (s == s) ≡ true → Going (Signed s) (sign_at s)
unfolding sign_at
going_sign s same = going_one (λ t. standing (is_sign s t.symbol)) (sign_at s) (λ t ts. tested (is_sign s t.symbol) (t ∷ ts)) (λ t end. ap (λ r. standing (is_sign s r)) (end_is t.symbol end)) (some_token (symbol.Sign s) []) tt (ap standing same)

pub going_name : Going Name name_at
unfolding name_at
going_name = going_one (λ t. name_of t.symbol t.text) name_at (λ t ts. refl) (λ t end. ap (λ s. name_of s t.text) (end_is t.symbol end)) (some_token symbol.Word []) [] refl

pub tail_ended : (t : Token) (us : List Token) → Ended (t ∷ us) → is_end t.symbol ≡ false → Ended us
tail_ended t us (last u vs end) differs = let wrong : true ≡ false = sym end ∙ differs in cc wrong
tail_ended t us (next u vs ended) differs = ended

-- a term of one token
one_outcome : (P : Term → List Token → Type 0) (G : List Token → Type 0) (at : List Token → Reading Term) (o : Option Term) (t : Token) (us : List Token) → ((ws : List Token) → at (t ∷ ws) ≡ one_at o (t ∷ ws)) → ((y : Term) → o ≡ Some y → P y (t ∷ [])) → G [] → ((y : Term) → o ≡ Some y → Ended us) → Outcome P G at (t ∷ us)
one_outcome P G at None t us same is begins ended = stopped (record { front = []; token = t; rest = us; begins = begins; whole = refl; stops = same })
one_outcome P G at (Some y) t us same is begins ended =
    let h = head_of us (ended y refl) in
    went (record { value = y; front = t ∷ []; token = h.token; rest = h.rest; is = is y refl; ended = h.ended; whole = ap (λ us. t ∷ us) h.whole; goes = λ other. same (h.token ∷ other) })

some_term : Begun IsTerm []
some_term = begun term.Null (some_token (symbol.Keyword keyword.Null) [] ∷ []) (null (some_token (symbol.Keyword keyword.Null) []) refl)

other_at : (s : Symbol) (t : Token) (ws : List Token) → t.symbol ≡ s → other_term_at (t ∷ ws) ≡ one_at (other_term_of s t.text) (t ∷ ws)
unfolding other_term_at
other_at s t ws is = ap (λ s. one_at (other_term_of s t.text) (t ∷ ws)) is

number_at-one : (minus : Bool) (t : Token) (ws : List Token) → number_at minus (t ∷ ws) ≡ one_at (number_of minus t.symbol t.text) (t ∷ ws)
unfolding number_at
number_at-one minus t ws = refl

-- a term that is one token, neither a word nor a number
other_outcome : (s : Symbol) (t : Token) (us : List Token) → t.symbol ≡ s → ((ws : List Token) → term_at (t ∷ ws) ≡ other_term_at (t ∷ ws)) → ((y : Term) → other_term_of s t.text ≡ Some y → Ended us) → Outcome IsTerm (Begun IsTerm) term_at (t ∷ us)
other_outcome s t us is same ended = one_outcome IsTerm (Begun IsTerm) term_at (other_term_of s t.text) t us (λ ws. same ws ∙ other_at s t ws is) (λ y value. other_is s t y is value) some_term ended

number_outcome : (t : Token) (us : List Token) → t.symbol ≡ symbol.Number → Ended us → Outcome IsTerm (Begun IsTerm) term_at (t ∷ us)
number_outcome t us is ended = one_outcome IsTerm (Begun IsTerm) term_at (number_of false t.symbol t.text) t us (λ ws. term_at-symbol symbol.Number (t ∷ ws) is ∙ number_at-one false t ws) (λ y value. let n = number_is false t.symbol t y refl value in subst (λ z. IsTerm z (t ∷ [])) n.3 (number t n.0 n.1 n.2)) some_term (λ y value. ended)

-- a number behind a minus
negative_outcome : (m : Token) (us : List Token) → m.symbol ≡ symbol.Sign 45 → Ended us → Outcome IsTerm (Begun IsTerm) term_at (m ∷ us)
negative_outcome m us minus ended =
    let h = head_of us ended in
    let behind : Outcome (λ y vs. IsTerm y (m ∷ vs)) (λ vs. Begun IsTerm (m ∷ vs)) (number_at true) (h.token ∷ h.rest) =
    one_outcome (λ y vs. IsTerm y (m ∷ vs)) (λ vs. Begun IsTerm (m ∷ vs)) (number_at true) (number_of true h.token.symbol h.token.text) h.token h.rest (λ ws. number_at-one true h.token ws) (λ y value. let n = number_is true h.token.symbol h.token y refl value in subst (λ z. IsTerm z (m ∷ h.token ∷ [])) n.3 (negative m h.token n.0 minus n.1 n.2)) zero_behind (λ y value. let n = number_is true h.token.symbol h.token y refl value in tail_ended h.token h.rest h.ended (ap is_end n.1)) in
    subst (λ vs. Outcome IsTerm (Begun IsTerm) term_at (m ∷ vs)) (sym h.whole) (outcome_behind (λ y vs. IsTerm y (m ∷ vs)) IsTerm (λ vs. Begun IsTerm (m ∷ vs)) (Begun IsTerm) (number_at true) term_at m (h.token ∷ h.rest) behind (λ x vs p. p) (λ vs p. p) (λ ws. term_at-symbol (symbol.Sign 45) (m ∷ ws) minus))
  where
    zero_behind : Begun IsTerm (m ∷ [])
    zero_behind = begun (term.Number (pos 0)) (some_token symbol.Number [] ∷ []) (negative m (some_token symbol.Number []) (pos 0) minus refl refl)

-- a run of digits is a text
digits_text : (s : Symbol) (b : Bool) (o : Option (List ℕ)) (bytes : List ℕ) → cond (is_text s && b) o None ≡ Some bytes → is_end s ≡ false
digits_text (symbol.Keyword k) b o bytes is = refl
digits_text symbol.Word b o bytes is = refl
digits_text symbol.QuotedName b o bytes is = refl
digits_text symbol.Text b o bytes is = refl
digits_text symbol.Number b o bytes is = refl
digits_text (symbol.Parameter n) b o bytes is = refl
digits_text (symbol.Sign c) b o bytes is = refl
digits_text symbol.Stray b o bytes is = refl
digits_text symbol.End b o bytes is = cc is

-- a word, of which the next token says whether it is a blob
word_outcome : (t : Token) (us : List Token) → t.symbol ≡ symbol.Word → Ended us → Outcome IsTerm (Begun IsTerm) term_at (t ∷ us)
unfolding word_term_at
word_outcome t us is ended =
    let h = head_of us ended in
    subst (λ vs. Outcome IsTerm (Begun IsTerm) term_at (t ∷ vs)) (sym h.whole) (by_word (is_same_name t.text (codes "X")) h.token h.rest h.ended refl)
  where
    read : (u : Token) (b : Bool) (o : Option (List ℕ)) → is_same_name t.text (codes "X") ≡ b → cond b (digits_behind (u ∷ [])) None ≡ o → (ws : List Token) → term_at (t ∷ u ∷ ws) ≡ blob_or_name t.text o (u ∷ ws)
    read u b o word digits ws = term_at-symbol symbol.Word (t ∷ u ∷ ws) is ∙ ap (λ c. blob_or_name t.text (cond c (digits_behind (u ∷ ws)) None) (u ∷ ws)) word ∙ ap (λ o. blob_or_name t.text o (u ∷ ws)) digits

    named : (u : Token) (vs : List Token) → Ended (u ∷ vs) → ((ws : List Token) → term_at (t ∷ u ∷ ws) ≡ blob_or_name t.text None (u ∷ ws)) → Outcome IsTerm (Begun IsTerm) term_at (t ∷ u ∷ vs)
    named u vs ended reads = went (record { value = term.Name t.text; front = t ∷ []; token = u; rest = vs; is = name t t.text (ap (λ s. name_of s t.text) is); ended = ended; whole = refl; goes = reads })

    by_digits : (o : Option (List ℕ)) (u : Token) (vs : List Token) → Ended (u ∷ vs) → is_same_name t.text (codes "X") ≡ true → digits_behind (u ∷ []) ≡ o → Outcome IsTerm (Begun IsTerm) term_at (t ∷ u ∷ vs)
    by_digits None u vs ended word digits = named u vs ended (read u true None word digits)
    by_digits (Some bytes) u vs ended word digits =
        let h = head_of vs (tail_ended u vs ended (digits_text u.symbol (length u.before == 0) _ bytes digits)) in
        let f = blob_front t (u ∷ []) bytes is word digits in
        went (record { value = term.Blob bytes; front = t ∷ u ∷ []; token = h.token; rest = h.rest; is = subst (IsTerm (term.Blob bytes)) (sym (append-nil f.front) ∙ sym f.whole) f.is; ended = h.ended; whole = ap (λ ws. t ∷ u ∷ ws) h.whole; goes = λ other. read u true (Some bytes) word digits (h.token ∷ other) })

    by_word : (b : Bool) (u : Token) (vs : List Token) → Ended (u ∷ vs) → is_same_name t.text (codes "X") ≡ b → Outcome IsTerm (Begun IsTerm) term_at (t ∷ u ∷ vs)
    by_word true u vs ended word = by_digits (digits_behind (u ∷ [])) u vs ended word refl
    by_word false u vs ended word = named u vs ended (read u false None word refl)

term_outcome_by : (s : Symbol) (t : Token) (us : List Token) → t.symbol ≡ s → Ended (t ∷ us) → Outcome IsTerm (Begun IsTerm) term_at (t ∷ us)
term_outcome_by (symbol.Keyword k) t us is ended = other_outcome (symbol.Keyword k) t us is (λ ws. term_at-symbol (symbol.Keyword k) (t ∷ ws) is) (λ y value. tail_ended t us ended (ap is_end is))
term_outcome_by symbol.Word t us is ended = word_outcome t us is (tail_ended t us ended (ap is_end is))
term_outcome_by symbol.QuotedName t us is ended = other_outcome symbol.QuotedName t us is (λ ws. term_at-symbol symbol.QuotedName (t ∷ ws) is) (λ y value. tail_ended t us ended (ap is_end is))
term_outcome_by symbol.Text t us is ended = other_outcome symbol.Text t us is (λ ws. term_at-symbol symbol.Text (t ∷ ws) is) (λ y value. tail_ended t us ended (ap is_end is))
term_outcome_by symbol.Number t us is ended = number_outcome t us is (tail_ended t us ended (ap is_end is))
term_outcome_by (symbol.Parameter n) t us is ended = other_outcome (symbol.Parameter n) t us is (λ ws. term_at-symbol (symbol.Parameter n) (t ∷ ws) is) (λ y value. tail_ended t us ended (ap is_end is))
term_outcome_by (symbol.Sign b) t us is ended = by_minus (b == 45) refl
  where
    by_minus : (m : Bool) → (b == 45) ≡ m → Outcome IsTerm (Begun IsTerm) term_at (t ∷ us)
    by_minus true minus = negative_outcome t us (is ∙ ap (λ c. symbol.Sign c) (eqb-true b 45 minus)) (tail_ended t us ended (ap is_end is))
    by_minus false minus = other_outcome (symbol.Sign b) t us is (λ ws. term_at-symbol (symbol.Sign b) (t ∷ ws) is ∙ ap (λ m. cond m (number_at true ws) (other_term_at (t ∷ ws))) minus) (λ y value. tail_ended t us ended (ap is_end is))
term_outcome_by symbol.Stray t us is ended = other_outcome symbol.Stray t us is (λ ws. term_at-symbol symbol.Stray (t ∷ ws) is) (λ y value. tail_ended t us ended (ap is_end is))
term_outcome_by symbol.End t us is ended = other_outcome symbol.End t us is (λ ws. term_at-symbol symbol.End (t ∷ ws) is) (λ y value. cc value)

term_outcome : (ts : List Token) → Ended ts → Outcome IsTerm (Begun IsTerm) term_at ts
term_outcome ts ended = let h = head_of ts ended in subst (Outcome IsTerm (Begun IsTerm) term_at) (sym h.whole) (term_outcome_by h.token.symbol h.token h.rest refl h.ended)

pub going_term : Going IsTerm term_at
going_term = record {
  forward = record { outcome = term_outcome };
  able = record { value = term.Null; tokens = some_token (symbol.Keyword keyword.Null) [] ∷ []; is = null (some_token (symbol.Keyword keyword.Null) []) refl };
}

-- Words, signs, names and terms are read exactly.
use Rattle.std.proofs.Common.{◌≡◌, ℕ, ℤ, Bool, true, false, cond, eqb-true, List, [], ◌∷◌, ◌++◌, length, drop, Option, Some, None, Ok, Err, refl, sym, ap, ◌∙◌, subst, codes}
use Rattle.std.specs.Prelude.{Result, ◌==◌, ◌&&◌, not}
use Rattle.std.proofs.lemmas.Bool.{and_parts}
use Rattle.std.proofs.lemmas.List.{nil_from_length}
use Rattle.sql_text.specs.Parameters.{digits_value}
use Rattle.hex.specs.Hex.{decode_of}
use Rattle.hex.specs.declared.error.FromHexError.{FromHexError}
use Rattle.keeper_dialect.specs.declared.tokens.Keyword.{Keyword}
use Rattle.keeper_dialect.specs.declared.tokens.Keyword.TheVariants as keyword
use Rattle.keeper_dialect.specs.declared.tokens.Symbol.{Symbol}
use Rattle.keeper_dialect.specs.declared.tokens.Symbol.TheVariants as symbol
use Rattle.keeper_dialect.specs.declared.query.Term.{Term}
use Rattle.keeper_dialect.specs.declared.query.Term.TheVariants as term
use Rattle.keeper_dialect.specs.Tokens.{Token, is_same_name}
use Rattle.keeper_dialect.specs.Reading.{Reading, symbol_at, text_at, before_at, place_at, is_keyword, is_sign, keyword_at, sign_at}
use Rattle.keeper_dialect.specs.Terms.{one_at, name_of, name_at, signed, number_term, number_of, number_at, is_text, ok_of, digits_behind, blob_or_name, word_term_at, without_quotes, unquoted, other_term_of, other_term_at, unsigned_term_by, term_at}
use Rattle.keeper_dialect.specs.Grammar.{Keyed, Signed, Name, IsTerm, number, negative, text, blob, null, parameter, name}
use Rattle.keeper_dialect.proofs.Exact.{Front, Exact, any, same_value, exact_one}
use Rattle.keeper_dialect.proofs.ReadingLemmas.{same_rest}

abbrev pub passed : Bool → List Token → Reading (Unit {0})
passed test ts = cond test (Ok (tt, drop 1 ts)) (Err (place_at ts))

abbrev pub found : Bool → Option (Unit {0})
found test = cond test (Some tt) None

pub tested : (test : Bool) (ts : List Token) → passed test ts ≡ one_at (found test) ts
tested true ts = refl
tested false ts = refl

pub exact_keyword : (k : Keyword) → Exact (Keyed k) any (keyword_at k)
unfolding keyword_at
exact_keyword k = exact_one _ (keyword_at k) (λ t ts. tested (is_keyword k t.symbol) (t ∷ ts)) (λ x rest is. cc is)

pub exact_sign : (s : ℕ) → Exact (Signed s) any (sign_at s)
unfolding sign_at
exact_sign s = exact_one _ (sign_at s) (λ t ts. tested (is_sign s t.symbol) (t ∷ ts)) (λ x rest is. cc is)

pub exact_name : Exact Name any name_at
unfolding name_at
exact_name = exact_one _ name_at (λ t ts. refl) (λ x rest is. cc is)

-- what may follow a term: no run of digits of a blob
abbrev pub no_text : Symbol → Bool
no_text s = not (is_text s)

text_is : (s : Symbol) → is_text s ≡ true → s ≡ symbol.Text
text_is (symbol.Keyword k) is = cc is
text_is symbol.Word is = cc is
text_is symbol.QuotedName is = cc is
text_is symbol.Text is = refl
text_is symbol.Number is = cc is
text_is (symbol.Parameter n) is = cc is
text_is (symbol.Sign b) is = cc is
text_is symbol.Stray is = cc is
text_is symbol.End is = cc is

null_is : (k : Keyword) → is_keyword keyword.Null (symbol.Keyword k) ≡ true → k ≡ keyword.Null
null_is keyword.Count is = cc is
null_is keyword.Create is = cc is
null_is keyword.Delete is = cc is
null_is keyword.From is = cc is
null_is keyword.Insert is = cc is
null_is keyword.Into is = cc is
null_is keyword.Key is = cc is
null_is keyword.Null is = refl
null_is keyword.Primary is = cc is
null_is keyword.Select is = cc is
null_is keyword.Set is = cc is
null_is keyword.Table is = cc is
null_is keyword.Update is = cc is
null_is keyword.Values is = cc is
null_is keyword.Where is = cc is

-- a term by what its first token is
pub term_at-symbol : (s : Symbol) (ts : List Token) → symbol_at ts ≡ s → term_at ts ≡ cond (is_sign 45 s) (number_at true (drop 1 ts)) (unsigned_term_by s ts)
unfolding term_at
term_at-symbol s ts is = ap (λ s. cond (is_sign 45 s) (number_at true (drop 1 ts)) (unsigned_term_by s ts)) is

number_at-is : (minus : Bool) (t : Token) (rest : List Token) (n : ℤ) → t.symbol ≡ symbol.Number → signed minus (digits_value 0 t.text) ≡ Some n → number_at minus (t ∷ rest) ≡ Ok (term.Number n, rest)
unfolding number_at
number_at-is minus t rest n is value = ap (λ s. one_at (number_of minus s t.text) (t ∷ rest)) is ∙ ap (λ o. one_at (number_term o) (t ∷ rest)) value

other_at-is : (s : Symbol) (t : Token) (rest : List Token) (x : Term) → t.symbol ≡ s → other_term_of s t.text ≡ Some x → other_term_at (t ∷ rest) ≡ Ok (x, rest)
unfolding other_term_at
other_at-is s t rest x is value = ap (λ s. one_at (other_term_of s t.text) (t ∷ rest)) is ∙ ap (λ o. one_at o (t ∷ rest)) value

no_digits : (rest : List Token) → no_text (symbol_at rest) ≡ true → digits_behind rest ≡ None
no_digits rest other = by_text (is_text (symbol_at rest)) other
  where
    by_text : (b : Bool) → not b ≡ true → cond (b && length (before_at rest) == 0) (ok_of (decode_of (without_quotes 39 (text_at rest)))) None ≡ None
    by_text true wrong = cc wrong
    by_text false right = refl

word_at-name : (t : Token) (rest : List Token) → no_text (symbol_at rest) ≡ true → word_term_at (t ∷ rest) ≡ Ok (term.Name t.text, rest)
unfolding word_term_at
word_at-name t rest other = by_word (is_same_name t.text (codes "X"))
  where
    by_word : (b : Bool) → blob_or_name t.text (cond b (digits_behind rest) None) rest ≡ Ok (term.Name t.text, rest)
    by_word true = ap (λ o. blob_or_name t.text o rest) (no_digits rest other)
    by_word false = refl

digits_are : (t : Token) (rest : List Token) (bytes : List ℕ) → t.symbol ≡ symbol.Text → t.before ≡ [] → decode_of (without_quotes 39 t.text) ≡ Ok bytes → digits_behind (t ∷ rest) ≡ Some bytes
digits_are t rest bytes is at_once digits = ap (λ s. cond (is_text s && length t.before == 0) (ok_of (decode_of (without_quotes 39 t.text))) None) is ∙ ap (λ bs. cond (length bs == 0) (ok_of (decode_of (without_quotes 39 t.text))) None) at_once ∙ ap ok_of digits

word_at-blob : (x t : Token) (rest : List Token) (bytes : List ℕ) → is_same_name x.text (codes "X") ≡ true → digits_behind (t ∷ rest) ≡ Some bytes → word_term_at (x ∷ t ∷ rest) ≡ Ok (term.Blob bytes, rest)
unfolding word_term_at
word_at-blob x t rest bytes word digits = ap (λ b. blob_or_name x.text (cond b (digits_behind (t ∷ rest)) None) (t ∷ rest)) word ∙ ap (λ o. blob_or_name x.text o (t ∷ rest)) digits

named_term : (s : Symbol) (t : Token) (rest : List Token) (word : List ℕ) → t.symbol ≡ s → name_of s t.text ≡ Some word → no_text (symbol_at rest) ≡ true → term_at (t ∷ rest) ≡ Ok (term.Name word, rest)
named_term (symbol.Keyword k) t rest word is named other = cc named
named_term symbol.Word t rest word is named other = let same : t.text ≡ word = cc named in term_at-symbol symbol.Word (t ∷ rest) is ∙ word_at-name t rest other ∙ ap (λ n. Ok (term.Name n, rest)) same
named_term symbol.QuotedName t rest word is named other = let same : unquoted 34 t.text ≡ word = cc named in term_at-symbol symbol.QuotedName (t ∷ rest) is ∙ other_at-is symbol.QuotedName t rest (term.Name (unquoted 34 t.text)) is refl ∙ ap (λ n. Ok (term.Name n, rest)) same
named_term symbol.Text t rest word is named other = cc named
named_term symbol.Number t rest word is named other = cc named
named_term (symbol.Parameter n) t rest word is named other = cc named
named_term (symbol.Sign b) t rest word is named other = cc named
named_term symbol.Stray t rest word is named other = cc named
named_term symbol.End t rest word is named other = cc named

term_complete : (x : Term) (us rest : List Token) → IsTerm x us → no_text (symbol_at rest) ≡ true → term_at (us ++ rest) ≡ Ok (x, rest)
term_complete x us rest (number t n is value) other = term_at-symbol symbol.Number (t ∷ rest) is ∙ number_at-is false t rest n is value
term_complete x us rest (negative m t n minus is value) other = term_at-symbol (symbol.Sign 45) (m ∷ t ∷ rest) minus ∙ number_at-is true t rest n is value
term_complete x us rest (text t is) other = term_at-symbol symbol.Text (t ∷ rest) is ∙ other_at-is symbol.Text t rest _ is refl
term_complete x us rest (blob w t bytes is word digits at_once decoded) other = term_at-symbol symbol.Word (w ∷ t ∷ rest) is ∙ word_at-blob w t rest bytes word (digits_are t rest bytes digits at_once decoded)
term_complete x us rest (null t is) other = term_at-symbol (symbol.Keyword keyword.Null) (t ∷ rest) is ∙ other_at-is (symbol.Keyword keyword.Null) t rest term.Null is refl
term_complete x us rest (parameter t n is) other = term_at-symbol (symbol.Parameter n) (t ∷ rest) is ∙ other_at-is (symbol.Parameter n) t rest (term.Param n) is refl
term_complete x us rest (name t n named) other = named_term t.symbol t rest n refl named other

-- and back: the term of a token that is neither a word nor a number
pub other_is : (s : Symbol) (t : Token) (x : Term) → t.symbol ≡ s → other_term_of s t.text ≡ Some x → IsTerm x (t ∷ [])
other_is (symbol.Keyword k) t x is value = by_null (is_keyword keyword.Null (symbol.Keyword k)) refl value
  where
    by_null : (b : Bool) → is_keyword keyword.Null (symbol.Keyword k) ≡ b → cond b (Some term.Null) None ≡ Some x → IsTerm x (t ∷ [])
    by_null true same_rank value = let same : term.Null ≡ x = cc value in subst (λ y. IsTerm y (t ∷ [])) same (null t (is ∙ ap (λ j. symbol.Keyword j) (null_is k same_rank)))
    by_null false other value = cc value
other_is symbol.Word t x is value = cc value
other_is symbol.QuotedName t x is value = let same : term.Name (unquoted 34 t.text) ≡ x = cc value in subst (λ y. IsTerm y (t ∷ [])) same (name t (unquoted 34 t.text) (ap (λ s. name_of s t.text) is))
other_is symbol.Text t x is value = let same : term.Text (unquoted 39 t.text) ≡ x = cc value in subst (λ y. IsTerm y (t ∷ [])) same (text t is)
other_is symbol.Number t x is value = cc value
other_is (symbol.Parameter n) t x is value = let same : term.Param n ≡ x = cc value in subst (λ y. IsTerm y (t ∷ [])) same (parameter t n is)
other_is (symbol.Sign b) t x is value = cc value
other_is symbol.Stray t x is value = cc value
other_is symbol.End t x is value = cc value

pub number_is : (minus : Bool) (s : Symbol) (t : Token) (x : Term) → t.symbol ≡ s → number_of minus s t.text ≡ Some x → (n : ℤ) × (t.symbol ≡ symbol.Number) × (signed minus (digits_value 0 t.text) ≡ Some n) × (term.Number n ≡ x)
number_is minus (symbol.Keyword k) t x is value = cc value
number_is minus symbol.Word t x is value = cc value
number_is minus symbol.QuotedName t x is value = cc value
number_is minus symbol.Text t x is value = cc value
number_is minus symbol.Number t x is value = by_sign (signed minus (digits_value 0 t.text)) refl value
  where
    by_sign : (o : Option ℤ) → signed minus (digits_value 0 t.text) ≡ o → number_term o ≡ Some x → (n : ℤ) × (t.symbol ≡ symbol.Number) × (signed minus (digits_value 0 t.text) ≡ Some n) × (term.Number n ≡ x)
    by_sign None fits value = cc value
    by_sign (Some n) fits value = (n, is, fits, cc value)
number_is minus (symbol.Parameter n) t x is value = cc value
number_is minus (symbol.Sign b) t x is value = cc value
number_is minus symbol.Stray t x is value = cc value
number_is minus symbol.End t x is value = cc value

-- what one token gives, which is then passed
one_front : (P : Term → List Token → Type 0) (o : Option Term) (t : Token) (ts : List Token) (x : Term) (rest : List Token) → one_at o (t ∷ ts) ≡ Ok (x, rest) → ((y : Term) → o ≡ Some y → P y (t ∷ [])) → Front P x (t ∷ ts) rest
one_front P None t ts x rest read is = cc read
one_front P (Some y) t ts x rest read is = subst (λ z. Front P z (t ∷ ts) rest) (same_value y x ts rest _ refl read) (record { front = t ∷ []; is = is y refl; whole = ap (λ us. t ∷ us) (same_rest y x ts rest _ refl read) })

other_sound : (t : Token) (ts : List Token) (x : Term) (rest : List Token) → other_term_at (t ∷ ts) ≡ Ok (x, rest) → Front IsTerm x (t ∷ ts) rest
unfolding other_term_at
other_sound t ts x rest read = one_front IsTerm (other_term_of t.symbol t.text) t ts x rest read (λ y value. other_is t.symbol t y refl value)

number_sound : (t : Token) (ts : List Token) (x : Term) (rest : List Token) → number_at false (t ∷ ts) ≡ Ok (x, rest) → Front IsTerm x (t ∷ ts) rest
unfolding number_at
number_sound t ts x rest read = one_front IsTerm (number_of false t.symbol t.text) t ts x rest read (λ y value. let is = number_is false t.symbol t y refl value in subst (λ z. IsTerm z (t ∷ [])) is.3 (number t is.0 is.1 is.2))

negative_sound : (m : Token) (ts : List Token) (x : Term) (rest : List Token) → m.symbol ≡ symbol.Sign 45 → number_at true ts ≡ Ok (x, rest) → Front IsTerm x (m ∷ ts) rest
unfolding number_at
negative_sound m [] x rest minus read = cc read
negative_sound m (t ∷ ts) x rest minus read =
    let behind = one_front (λ y us. IsTerm y (m ∷ us)) (number_of true t.symbol t.text) t ts x rest read (λ y value. let is = number_is true t.symbol t y refl value in subst (λ z. IsTerm z (m ∷ t ∷ [])) is.3 (negative m t is.0 minus is.1 is.2)) in
    record { front = m ∷ behind.front; is = behind.is; whole = ap (λ us. m ∷ us) behind.whole }

-- a word, and what follows it
word_front : (w : Token) (o : Option (List ℕ)) (ts : List Token) (x : Term) (rest : List Token) → w.symbol ≡ symbol.Word → blob_or_name w.text o ts ≡ Ok (x, rest) → ((bytes : List ℕ) → o ≡ Some bytes → Front IsTerm (term.Blob bytes) (w ∷ ts) (drop 1 ts)) → Front IsTerm x (w ∷ ts) rest
word_front w None ts x rest is read digits = subst (λ z. Front IsTerm z (w ∷ ts) rest) (same_value (term.Name w.text) x ts rest _ refl read) (record { front = w ∷ []; is = name w w.text (ap (λ s. name_of s w.text) is); whole = ap (λ us. w ∷ us) (same_rest (term.Name w.text) x ts rest _ refl read) })
word_front w (Some bytes) ts x rest is read digits =
    let same = same_value (term.Blob bytes) x (drop 1 ts) rest _ refl read in
    let left = same_rest (term.Blob bytes) x (drop 1 ts) rest _ refl read in
    subst (λ z. Front IsTerm z (w ∷ ts) rest) same (subst (λ us. Front IsTerm (term.Blob bytes) (w ∷ ts) us) left (digits bytes refl))

decoded : (r : Result (List ℕ) FromHexError) (bytes : List ℕ) → ok_of r ≡ Some bytes → r ≡ Ok bytes
decoded (Ok bs) bytes is = let same : bs ≡ bytes = cc is in ap (λ b. Ok b) same
decoded (Err e) bytes is = cc is

pub blob_front : (w : Token) (ts : List Token) (bytes : List ℕ) → w.symbol ≡ symbol.Word → is_same_name w.text (codes "X") ≡ true → digits_behind ts ≡ Some bytes → Front IsTerm (term.Blob bytes) (w ∷ ts) (drop 1 ts)
blob_front w [] bytes is word digits = cc digits
blob_front w (t ∷ ts) bytes is word digits = by_digits (is_text t.symbol && length t.before == 0) refl digits
  where
    by_digits : (b : Bool) → (is_text t.symbol && length t.before == 0) ≡ b → cond b (ok_of (decode_of (without_quotes 39 t.text))) None ≡ Some bytes → Front IsTerm (term.Blob bytes) (w ∷ t ∷ ts) (drop 1 (t ∷ ts))
    by_digits true both value =
        let parts = and_parts (is_text t.symbol) (length t.before == 0) both in
        record { front = w ∷ t ∷ []; is = blob w t bytes is word (text_is t.symbol parts.0) (nil_from_length t.before (eqb-true (length t.before) 0 parts.1)) (decoded (decode_of (without_quotes 39 t.text)) bytes value); whole = refl }
    by_digits false both value = cc value

word_sound : (w : Token) (ts : List Token) (x : Term) (rest : List Token) → w.symbol ≡ symbol.Word → word_term_at (w ∷ ts) ≡ Ok (x, rest) → Front IsTerm x (w ∷ ts) rest
unfolding word_term_at
word_sound w ts x rest is read = word_front w (cond (is_same_name w.text (codes "X")) (digits_behind ts) None) ts x rest is read (λ bytes digits. by_word (is_same_name w.text (codes "X")) refl bytes digits)
  where
    by_word : (b : Bool) → is_same_name w.text (codes "X") ≡ b → (bytes : List ℕ) → cond b (digits_behind ts) None ≡ Some bytes → Front IsTerm (term.Blob bytes) (w ∷ ts) (drop 1 ts)
    by_word true word bytes digits = blob_front w ts bytes is word digits
    by_word false word bytes digits = cc digits

term_sound_by : (s : Symbol) (t : Token) (ts : List Token) (x : Term) (rest : List Token) → t.symbol ≡ s → term_at (t ∷ ts) ≡ Ok (x, rest) → Front IsTerm x (t ∷ ts) rest
term_sound_by (symbol.Keyword k) t ts x rest is read = other_sound t ts x rest (sym (term_at-symbol (symbol.Keyword k) (t ∷ ts) is) ∙ read)
term_sound_by symbol.Word t ts x rest is read = word_sound t ts x rest is (sym (term_at-symbol symbol.Word (t ∷ ts) is) ∙ read)
term_sound_by symbol.QuotedName t ts x rest is read = other_sound t ts x rest (sym (term_at-symbol symbol.QuotedName (t ∷ ts) is) ∙ read)
term_sound_by symbol.Text t ts x rest is read = other_sound t ts x rest (sym (term_at-symbol symbol.Text (t ∷ ts) is) ∙ read)
term_sound_by symbol.Number t ts x rest is read = number_sound t ts x rest (sym (term_at-symbol symbol.Number (t ∷ ts) is) ∙ read)
term_sound_by (symbol.Parameter n) t ts x rest is read = other_sound t ts x rest (sym (term_at-symbol (symbol.Parameter n) (t ∷ ts) is) ∙ read)
term_sound_by (symbol.Sign b) t ts x rest is read = by_minus (b == 45) refl (sym (term_at-symbol (symbol.Sign b) (t ∷ ts) is) ∙ read)
  where
    by_minus : (m : Bool) → (b == 45) ≡ m → cond m (number_at true ts) (other_term_at (t ∷ ts)) ≡ Ok (x, rest) → Front IsTerm x (t ∷ ts) rest
    by_minus true minus value = negative_sound t ts x rest (is ∙ ap (λ c. symbol.Sign c) (eqb-true b 45 minus)) value
    by_minus false minus value = other_sound t ts x rest value
term_sound_by symbol.Stray t ts x rest is read = other_sound t ts x rest (sym (term_at-symbol symbol.Stray (t ∷ ts) is) ∙ read)
term_sound_by symbol.End t ts x rest is read = other_sound t ts x rest (sym (term_at-symbol symbol.End (t ∷ ts) is) ∙ read)

term_none : (x : Term) (rest : List Token) → term_at [] ≡ Ok (x, rest) → ⊥
unfolding term_at other_term_at
term_none x rest is = cc is

term_sound : (ts : List Token) (x : Term) (rest : List Token) → term_at ts ≡ Ok (x, rest) → Front IsTerm x ts rest
term_sound [] x rest read = absurd (term_none x rest read)
term_sound (t ∷ ts) x rest read = term_sound_by t.symbol t ts x rest refl read

pub exact_term : Exact IsTerm no_text term_at
exact_term = record { sound = term_sound; complete = term_complete }

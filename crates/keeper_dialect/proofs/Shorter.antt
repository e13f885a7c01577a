-- Each production leaves no more tokens than there were, and each list goes on with fewer.
use Rattle.std.proofs.Common.{◌≡◌, ◌≤◌, ◌<◌, ℕ, Bool, true, false, cond, List, [], ◌∷◌, length, drop, Option, Some, None, Ok, refl, arith}
use Rattle.std.proofs.lemmas.List.{length-drop}
use Rattle.keeper_dialect.specs.declared.tokens.Keyword.{Keyword}
use Rattle.keeper_dialect.specs.declared.tokens.Keyword.TheVariants as keyword
use Rattle.keeper_dialect.specs.declared.query.ColDef.{ColDef}
use Rattle.keeper_dialect.specs.declared.query.ColExpr.{ColExpr}
use Rattle.keeper_dialect.specs.declared.tokens.Symbol.{Symbol}
use Rattle.keeper_dialect.specs.declared.tokens.Symbol.TheVariants as symbol
use Rattle.keeper_dialect.specs.declared.query.Add.{Add}
use Rattle.keeper_dialect.specs.Tokens.{Token}
use Rattle.keeper_dialect.specs.Reading.{Reading, and_then, behind_comma, symbol_at, text_at, is_sign, is_keyword, keyword_at, sign_at, separated}
use Rattle.keeper_dialect.specs.Terms.{one_at, name_of, name_at, number_of, number_at, blob_or_name, word_term_at, other_term_of, other_term_at, unsigned_term_by, term_at, operator_of, operand_at, add_at, adds_at, expr_at}
use Rattle.keeper_dialect.specs.Lists.{new_name_at, exprs_at, tuple_at, setting_at, set_at, item_at, is_plain_word, after_type, key_at, col_name_at, col_def_at}
use Rattle.keeper_dialect.proofs.ReadingLemmas.{Within, GoesOn, within_ok, within_err, within_then, within_if, drop_one_within, repeated_within}

one_within : {A : Type 0} (o : Option A) (ts : List Token) (n : ℕ) → length ts ≤ n → Within n (one_at o ts)
one_within None ts n few = within_err n _
one_within (Some x) ts n few = within_ok n x (drop 1 ts) (drop_one_within ts n few)

pub keyword_within : (k : Keyword) (ts : List Token) (n : ℕ) → length ts ≤ n → Within n (keyword_at k ts)
unfolding keyword_at
keyword_within k ts n few = within_if n (is_keyword k (symbol_at ts)) _ _ (within_ok n tt (drop 1 ts) (drop_one_within ts n few)) (within_err n _)

pub sign_within : (s : ℕ) (ts : List Token) (n : ℕ) → length ts ≤ n → Within n (sign_at s ts)
unfolding sign_at
sign_within s ts n few = within_if n (is_sign s (symbol_at ts)) _ _ (within_ok n tt (drop 1 ts) (drop_one_within ts n few)) (within_err n _)

pub name_within : (ts : List Token) (n : ℕ) → length ts ≤ n → Within n (name_at ts)
unfolding name_at
name_within ts n few = one_within (name_of (symbol_at ts) (text_at ts)) ts n few

number_within : (minus : Bool) (ts : List Token) (n : ℕ) → length ts ≤ n → Within n (number_at minus ts)
unfolding number_at
number_within minus ts n few = one_within (number_of minus (symbol_at ts) (text_at ts)) ts n few

blob_within : (word : List ℕ) (o : Option (List ℕ)) (ts : List Token) (n : ℕ) → length ts ≤ n → Within n (blob_or_name word o ts)
blob_within word None ts n few = within_ok n _ ts few
blob_within word (Some bytes) ts n few = within_ok n _ (drop 1 ts) (drop_one_within ts n few)

word_within : (ts : List Token) (n : ℕ) → length ts ≤ n → Within n (word_term_at ts)
unfolding word_term_at
word_within ts n few = blob_within (text_at ts) _ (drop 1 ts) n (drop_one_within ts n few)

other_within : (ts : List Token) (n : ℕ) → length ts ≤ n → Within n (other_term_at ts)
unfolding other_term_at
other_within ts n few = one_within (other_term_of (symbol_at ts) (text_at ts)) ts n few

unsigned_within : (s : Symbol) (ts : List Token) (n : ℕ) → length ts ≤ n → Within n (unsigned_term_by s ts)
unsigned_within (symbol.Keyword k) ts n few = other_within ts n few
unsigned_within symbol.Word ts n few = word_within ts n few
unsigned_within symbol.QuotedName ts n few = other_within ts n few
unsigned_within symbol.Text ts n few = other_within ts n few
unsigned_within symbol.Number ts n few = number_within false ts n few
unsigned_within (symbol.Parameter m) ts n few = other_within ts n few
unsigned_within (symbol.Sign b) ts n few = other_within ts n few
unsigned_within symbol.Stray ts n few = other_within ts n few
unsigned_within symbol.End ts n few = other_within ts n few

pub term_within : (ts : List Token) (n : ℕ) → length ts ≤ n → Within n (term_at ts)
unfolding term_at
term_within ts n few = within_if n (is_sign 45 (symbol_at ts)) _ _ (number_within true (drop 1 ts) n (drop_one_within ts n few)) (unsigned_within (symbol_at ts) ts n few)

drop_one_less : (t : Token) (ts : List Token) → length (drop 1 (t ∷ ts)) < length (t ∷ ts)
drop_one_less t ts = omega (arith, length-drop 1 (t ∷ ts))

operand_shortens : (o : Option Bool) (ts : List Token) (n : ℕ) (x : Add) (rest : List Token) → length ts ≤ n → operand_at o ts ≡ Some (Ok (x, rest)) → length rest ≤ n
operand_shortens None ts n x rest few is = cc is
operand_shortens (Some minus) ts n x rest few is =
    let reading : Reading Add = and_then (term_at ts) (λ t rest. Ok (record { minus = minus; term = t }, rest)) in
    let same : reading ≡ Ok (x, rest) = cc is in
    (within_then n (term_at ts) (λ t rest. Ok (record { minus = minus; term = t }, rest)) (term_within ts n few) (λ t after less. within_ok n _ after less)).few x rest same

pub adds_go_on : GoesOn add_at
adds_go_on = record { ends = λ done. refl; shortens = shorter }
  where
    shorter : (done : List Add) (ts : List Token) (x : Add) (rest : List Token) → add_at done ts ≡ Some (Ok (x, rest)) → length rest < length ts
    shorter done [] x rest is = cc is
    shorter done (t ∷ ts) x rest is =
        let less = operand_shortens (operator_of t.symbol) (drop 1 (t ∷ ts)) (length ts) x rest (omega (arith, drop_one_less t ts)) is in
        omega arith

pub adds_within : (ts : List Token) (n : ℕ) → length ts ≤ n → Within n (adds_at ts)
unfolding adds_at
adds_within ts n few = repeated_within add_at adds_go_on (length ts) n [] ts few

pub expr_within : (ts : List Token) (n : ℕ) → length ts ≤ n → Within n (expr_at ts)
unfolding expr_at
expr_within ts n few = within_then n (term_at ts) _ (term_within ts n few) (λ t after less. within_then n (adds_at after) _ (adds_within after n less) (λ adds rest short. within_ok n _ rest short))

-- a list behind commas goes on with fewer, where its parts leave no more
pub commas_go_on : {A : Type 0} (read : List A → List Token → Reading A) → ((done : List A) (ts : List Token) → Within (length ts) (read done ts)) → GoesOn (behind_comma read)
commas_go_on {A} read within = record { ends = λ done. refl; shortens = shorter }
  where
    by_test : (test : Bool) (r : Reading A) (x : A) (rest : List Token) (n : ℕ) → Within n r → cond test (Some r) None ≡ Some (Ok (x, rest)) → length rest ≤ n
    by_test true r x rest n few is = let same : r ≡ Ok (x, rest) = cc is in few.few x rest same
    by_test false r x rest n few is = cc is

    shorter : (done : List A) (ts : List Token) (x : A) (rest : List Token) → behind_comma read done ts ≡ Some (Ok (x, rest)) → length rest < length ts
    shorter done [] x rest is = cc is
    shorter done (t ∷ ts) x rest is =
        let less = by_test (is_sign 44 t.symbol) (read done (drop 1 (t ∷ ts))) x rest (length (drop 1 (t ∷ ts))) (within done (drop 1 (t ∷ ts))) is in
        omega (arith, drop_one_less t ts)

pub separated_within : {A : Type 0} (read : List A → List Token → Reading A) → ((done : List A) (ts : List Token) → Within (length ts) (read done ts)) → (ts : List Token) (n : ℕ) → length ts ≤ n → Within n (separated read ts)
unfolding separated
separated_within read within ts n few =
    within_then n (read [] ts) _ (record { few = λ x rest is. let less = (within [] ts).few x rest is in omega arith }) (λ x rest short. repeated_within (behind_comma read) (commas_go_on read within) (length rest) n (x ∷ []) rest short)

pub new_name_within : (is_taken : List ℕ → Bool) (ts : List Token) (n : ℕ) → length ts ≤ n → Within n (new_name_at is_taken ts)
unfolding new_name_at
new_name_within is_taken ts n few = within_then n (name_at ts) _ (name_within ts n few) (λ name rest short. within_if n _ _ _ (within_err n _) (within_ok n name rest short))

pub tuple_within : (ts : List Token) (n : ℕ) → length ts ≤ n → Within n (tuple_at ts)
unfolding tuple_at exprs_at
tuple_within ts n few =
    within_then n (sign_at 40 ts) _ (sign_within 40 ts n few) (λ _ inner short. within_then n (separated (λ done. expr_at) inner) _ (separated_within (λ done. expr_at) (λ done us. expr_within us (length us) (omega arith)) inner n short) (λ exprs after less. within_then n (sign_at 41 after) _ (sign_within 41 after n less) (λ _ rest last. within_ok n exprs rest last)))

pub set_within : (done : List ColExpr) (ts : List Token) (n : ℕ) → length ts ≤ n → Within n (set_at done ts)
unfolding setting_at
set_within done ts n few =
    within_then n (new_name_at _ ts) _ (new_name_within _ ts n few) (λ name after short. within_then n (sign_at 61 after) _ (sign_within 61 after n short) (λ _ right less. within_then n (expr_at right) _ (expr_within right n less) (λ e rest last. within_ok n _ rest last)))

pub item_within : (ts : List Token) (n : ℕ) → length ts ≤ n → Within n (item_at ts)
unfolding item_at
item_within ts n few = within_then n (expr_at ts) _ (expr_within ts n few) (λ e rest short. within_ok n _ rest short)

after_type_within : (s : Symbol) (ts : List Token) (n : ℕ) → length ts ≤ n → length (after_type s ts) ≤ n
after_type_within s ts n few = by_word (is_plain_word s)
  where
    by_word : (b : Bool) → length (cond b (drop 1 ts) ts) ≤ n
    by_word true = drop_one_within ts n few
    by_word false = few

key_within : (had : Bool) (ts : List Token) (n : ℕ) → length ts ≤ n → Within n (key_at had ts)
unfolding key_at
key_within had ts n few =
    within_if n _ _ _ (within_if n had _ _ (within_err n _) (within_then n (keyword_at keyword.Key (drop 1 ts)) _ (keyword_within keyword.Key (drop 1 ts) n (drop_one_within ts n few)) (λ _ rest short. within_ok n true rest short))) (within_ok n false ts few)

col_name_within : (done : List ColDef) (ts : List Token) (n : ℕ) → length ts ≤ n → Within n (col_name_at done ts)
unfolding col_name_at
col_name_within done ts n few = within_if n _ _ _ (new_name_within _ ts n few) (within_err n _)

pub col_def_within : (done : List ColDef) (ts : List Token) (n : ℕ) → length ts ≤ n → Within n (col_def_at done ts)
unfolding col_def_at
col_def_within done ts n few =
    within_then n (col_name_at done ts) _ (col_name_within done ts n few) (λ name after short. within_then n (key_at _ (after_type (symbol_at after) after)) _ (key_within _ (after_type (symbol_at after) after) n (after_type_within (symbol_at after) after n short)) (λ key rest less. within_ok n _ rest less))

-- Binding, parameter by parameter.
use Rattle.std.proofs.Common.{◌≡◌, ◌≤◌, ◌+◌, ◌-◌, ℕ, suc, zero, Bool, true, false, cond, List, [], ◌∷◌, ◌++◌, map, length, length-append, drop, Option, Some, None, Ok, Err, append_assoc, Bor, refl, sym, ap, ◌∙◌, subst, arith}
use Rattle.std.specs.Prelude.{slice_index_or, slice_get, is_some, is_none, unwrap_or, nat_le, Result, IfOk, ◌&&◌}
use Rattle.std.specs.Option.{option_or, option_copied}
use Rattle.std.specs.List.{find, list_all}
use Rattle.std.proofs.lemmas.Bool.{cond-true, cond-false, and_from, le-leb}
use Rattle.hrana_value.specs.declared.value.Value.{Value}
use Rattle.hrana_value.specs.declared.value.Value.TheVariants.{Null}
use Rattle.hrana_stmt.specs.declared.statements.NamedArg.{NamedArg}
use Rattle.sql_text.specs.declared.limits.TheConstants.{MAX_PARAMETERS}
use Rattle.sql_text.specs.declared.binding.BindFail.{BindFail}
use Rattle.sql_text.specs.declared.binding.BindFail.TheVariants as fail
use Rattle.std.proofs.lemmas.List.{drop_all, length-map}
use Rattle.sql_text.specs.Spans.{unclosed_at}
use Rattle.sql_text.specs.Pieces.{pieces}
use Rattle.sql_text.specs.Parameters.{Numbered, parameter_texts, all_fit, all_numbered, has_number, greatest}
use Rattle.sql_text.specs.Binding.{numbers_fit, parameters_of, all_expected, first_missing, is_missing, value_given, last_given, number_met, value_of, values_of, or_missing, or_unclosed, numbers_from, bound_values, bound_read, bound, ValueAs, AnswersAs, HasLast}
use Rattle.sql_text.specs.declared.scan.Scan.{Scan}
use Rattle.sql_text.specs.Found.{IsScanOf}
use Rattle.sql_text.proofs.PieceLists.{pieces-nil}

-- what holds while the parameters are read: those to come lead to those of the text, or a number didn't fit
pub record GoesOn (ps : List Numbered) (sql : List ℕ) (texts : List (List ℕ)) : Type 0 where
  pub fit : numbers_fit sql ≡ all_fit ps texts
  pub all : parameters_of sql ≡ all_numbered ps texts

abbrev pub SoFar : Bool → List Numbered → List ℕ → List (List ℕ) → Type 0
SoFar true ps sql texts = GoesOn ps sql texts
SoFar false ps sql texts = numbers_fit sql ≡ false

-- the texts of the parameters from a place on
abbrev pub texts_from : List ℕ → ℕ → List (List ℕ)
texts_from text at = parameter_texts (pieces (drop at text))

pub texts_from-end : (text : List ℕ) (at : ℕ) → length text ≤ at → texts_from text at ≡ []
texts_from-end text at past = ap (λ bytes. parameter_texts (pieces bytes)) (drop_all at text past) ∙ ap parameter_texts pieces-nil

pub so_far_start : (ps : List Numbered) (sql : List ℕ) → ps ≡ [] → GoesOn ps sql (texts_from sql 0)
so_far_start [] sql none = record { fit = refl; all = refl }
so_far_start (p ∷ ps) sql none = cc none

pub so_far_end : (fit : Bool) (ps : List Numbered) (sql : List ℕ) (texts : List (List ℕ)) → texts ≡ [] → SoFar fit ps sql texts → (numbers_fit sql ≡ fit) × (fit ≡ true → parameters_of sql ≡ ps)
so_far_end true ps sql [] none so_far = (so_far.fit, λ _. so_far.all)
so_far_end true ps sql (t ∷ ts) none so_far = cc none
so_far_end false ps sql texts none so_far = (so_far, λ is. cc is)

-- the numbers from one on to the last
numbers_from-front : (n most : ℕ) → n ≤ most → numbers_from n (most + 1 - n) ≡ n ∷ numbers_from (n + 1) (most + 1 - (n + 1))
numbers_from-front n most within = let one : most + 1 - n ≡ suc (most + 1 - (n + 1)) = omega arith in ap (numbers_from n) one

-- what holds before a number: the values so far, and that none was missing
pub record Goes (ps : List Numbered) (args : List Value) (named : List NamedArg) (values : List Value) (left : List ℕ) : Type 0 where
  pub all_values : values_of ps args named ≡ values ++ map (value_of ps args named) left
  pub none_missing : first_missing ps args named ≡ find (is_missing ps args named) left

module _ (ps : List Numbered) (args : List Value) (named : List NamedArg) where
  -- a number without a value refuses all, where those before it have theirs
  value_refused : (failure : BindFail) (n : ℕ) (rest : List ℕ) → first_missing ps args named ≡ find (is_missing ps args named) (n ∷ rest) → ValueAs (value_given ps args named n) (has_number ps n) n (Err failure) → AnswersAs (Err failure) (or_missing (first_missing ps args named) (values_of ps args named))
  value_refused (fail.Missing m) n rest missing is =
      ap (λ o. or_missing o (values_of ps args named)) (missing ∙ cond-true (is_missing ps args named n) (Some n) (find (is_missing ps args named) rest) is.1)
      ∙ ap (λ k. Err (fail.Missing k)) (sym is.0)
  value_refused fail.NoMemory n rest missing is = tt
  value_refused fail.BadNumber n rest missing is = absurd is
  value_refused fail.Unexpected n rest missing is = absurd is
  value_refused (fail.Unclosed at) n rest missing is = absurd is

  -- a number's value joins those before it
  values_more : (n : ℕ) (rest : List ℕ) (front : List Value) (value : Value) → ValueAs (value_given ps args named n) (has_number ps n) n (Ok value) → front ++ map (value_of ps args named) (n ∷ rest) ≡ (front ++ value ∷ []) ++ map (value_of ps args named) rest
  values_more n rest front value is = ap (λ v. front ++ v ∷ map (value_of ps args named) rest) (sym is.1) ∙ sym (append_assoc front (value ∷ []) (map (value_of ps args named) rest))

  missing_more : (n : ℕ) (rest : List ℕ) (value : Value) → ValueAs (value_given ps args named n) (has_number ps n) n (Ok value) → find (is_missing ps args named) (n ∷ rest) ≡ find (is_missing ps args named) rest
  missing_more n rest value is = cond-false (is_missing ps args named n) (Some n) (find (is_missing ps args named) rest) is.0

-- what one number is given, by the table and the positional arguments
value_given-table : (ps : List Numbered) (args : List Value) (named : List NamedArg) (table : List (Option (Bor Value))) (n place : ℕ) (given : Option (Bor Value)) → place ≡ n → option_copied given ≡ option_or (option_copied (slice_index_or table place None)) (slice_get args (place - 1)) → option_copied (slice_index_or table n None) ≡ last_given ps n None named → option_copied given ≡ value_given ps args named n
value_given-table ps args named table n place given same is last =
    is ∙ ap (λ m. option_or (option_copied (slice_index_or table m None)) (slice_get args (m - 1))) same ∙ ap (λ o. option_or o (slice_get args (n - 1))) last

-- what is given to one number, by a table, goes on or refuses
module _ (ps : List Numbered) (args : List Value) (table : List (Option (Bor Value))) (n most place : ℕ) (given : Option (Bor Value)) (within : n ≤ most) (small : most ≤ MAX_PARAMETERS) (same : place ≡ n) (is : option_copied given ≡ option_or (option_copied (slice_index_or table place None)) (slice_get args (place - 1))) where
  as_given : (named : List NamedArg) (answer : Result Value BindFail) → HasLast ps named table → ValueAs (option_copied given) (has_number ps n) n answer → ValueAs (value_given ps args named n) (has_number ps n) n answer
  as_given named answer last = subst (λ o. ValueAs o (has_number ps n) n answer) (value_given-table ps args named table n place given same is (last n (omega arith)))

  pub goes_more : (named : List NamedArg) (values more : List Value) (value : Value) → HasLast ps named table → ValueAs (option_copied given) (has_number ps n) n (Ok value) → more ≡ values ++ value ∷ [] → Goes ps args named values (numbers_from n (most + 1 - n)) → Goes ps args named more (numbers_from (n + 1) (most + 1 - (n + 1)))
  goes_more named values more value last here pushed goes =
      let front = numbers_from-front n most within in
      let rest : List ℕ = numbers_from (n + 1) (most + 1 - (n + 1)) in
      let value_is = as_given named (Ok value) last here in
      record {
        all_values = goes.all_values ∙ ap (λ ns. values ++ map (value_of ps args named) ns) front
            ∙ values_more ps args named n rest values value value_is ∙ ap (λ vs. vs ++ map (value_of ps args named) rest) (sym pushed);
        none_missing = goes.none_missing ∙ ap (find (is_missing ps args named)) front ∙ missing_more ps args named n rest value value_is;
      }

  pub goes_refused : (named : List NamedArg) (values : List Value) (failure : BindFail) → HasLast ps named table → ValueAs (option_copied given) (has_number ps n) n (Err failure) → Goes ps args named values (numbers_from n (most + 1 - n)) → AnswersAs (Err failure) (or_missing (first_missing ps args named) (values_of ps args named))
  goes_refused named values failure last here goes =
      value_refused ps args named failure n (numbers_from (n + 1) (most + 1 - (n + 1))) (goes.none_missing ∙ ap (find (is_missing ps args named)) (numbers_from-front n most within)) (as_given named (Err failure) last here)

-- the whole answer, where the pieces were read
bound-fit : (sql : List ℕ) (fit : Bool) (ps : List Numbered) (args : List Value) (named : List NamedArg) → unclosed_at sql ≡ None → numbers_fit sql ≡ fit → (fit ≡ true → parameters_of sql ≡ ps) → bound sql args named ≡ bound_read fit ps args named
unfolding bound
bound-fit sql true ps args named closed fit all =
    ap (λ o. or_unclosed o (bound_read (numbers_fit sql) (parameters_of sql) args named)) closed
    ∙ ap (λ v. bound_read v (parameters_of sql) args named) fit
    ∙ ap (λ qs. bound_values qs args named) (all refl)
bound-fit sql false ps args named closed fit all =
    ap (λ o. or_unclosed o (bound_read (numbers_fit sql) (parameters_of sql) args named)) closed
    ∙ ap (λ v. bound_read v (parameters_of sql) args named) fit

pub bound-scanned : (sql : List ℕ) (scan : Scan) (ps : List Numbered) (args : List Value) (named : List NamedArg) → IsScanOf sql scan ps → bound sql args named ≡ bound_read scan.fit ps args named
bound-scanned sql scan ps args named is = bound-fit sql scan.fit ps args named is.closed is.fit is.all

-- the whole answer, where a piece isn't closed
pub bound-unclosed : (sql : List ℕ) (at : ℕ) (args : List Value) (named : List NamedArg) → unclosed_at sql ≡ Some at → bound sql args named ≡ Err (fail.Unclosed at)
unfolding bound
bound-unclosed sql at args named is = ap (λ o. or_unclosed o (bound_read (numbers_fit sql) (parameters_of sql) args named)) is

unclosed_ok : (o : Option ℕ) (answer : Result (List Value) BindFail) (values : List Value) → or_unclosed o answer ≡ Ok values → answer ≡ Ok values
unclosed_ok None answer values is = is
unclosed_ok (Some at) answer values is = cc is

cond_ok : (test : Bool) (answer : Result (List Value) BindFail) (failure : BindFail) (values : List Value) → cond test answer (Err failure) ≡ Ok values → answer ≡ Ok values
cond_ok true answer failure values is = is
cond_ok false answer failure values is = cc is

missing_ok : (o : Option ℕ) (all values : List Value) → or_missing o all ≡ Ok values → all ≡ values
missing_ok None all values is = cc is
missing_ok (Some n) all values is = cc is

length-numbers_from : (n count : ℕ) → length (numbers_from n count) ≡ count
length-numbers_from n zero = refl
length-numbers_from n (suc count) = ap suc (length-numbers_from (n + 1) count)

-- the answer has one value for each number
bound_count : (sql : List ℕ) (args : List Value) (named : List NamedArg) (values : List Value) → bound sql args named ≡ Ok values → length values ≡ greatest (parameters_of sql)
unfolding bound
bound_count sql args named values is =
    let ps : List Numbered = parameters_of sql in
    let closed = unclosed_ok (unclosed_at sql) (cond (numbers_fit sql) (bound_values ps args named) (Err fail.BadNumber)) values is in
    let fit = cond_ok (numbers_fit sql) (bound_values ps args named) fail.BadNumber values closed in
    let expected = cond_ok (all_expected ps args named) (or_missing (first_missing ps args named) (values_of ps args named)) fail.Unexpected values fit in
    let all = missing_ok (first_missing ps args named) (values_of ps args named) values expected in
    ap length (sym all) ∙ length-map (numbers_from 1 (greatest ps)) (value_of ps args named) ∙ length-numbers_from 1 (greatest ps)

pub count_from : (sql : List ℕ) (args : List Value) (named : List NamedArg) (answer : Result (List Value) BindFail) → AnswersAs answer (bound sql args named) → IfOk answer (λ values. length values ≡ greatest (parameters_of sql))
count_from sql args named (Ok values) is = bound_count sql args named values is
count_from sql args named (Err failure) is = tt

-- Expressions, lists and names that are new go forward.
use Rattle.std.proofs.Common.{◌≡◌, ◌≤◌, ◌<◌, ℕ, Bool, true, false, cond, List, [], ◌∷◌, ◌++◌, length, drop, Option, Some, None, Ok, Err, refl, sym, ap, ◌∙◌, subst, append_assoc, append-nil, arith}
use Rattle.std.specs.Prelude.{◌||◌}
use Rattle.std.specs.List.{list_any}
use Rattle.std.specs.Str.{str_to_ascii_lowercase}
use Rattle.std.specs.Char.{to_ascii_lowercase}
use Rattle.std.proofs.lemmas.List.{length-append, length-map}
use Rattle.std.proofs.lemmas.Slice.Eq.{bytes_eq-Decides}
use Rattle.keeper_dialect.specs.declared.tokens.Symbol.TheVariants as symbol
use Rattle.keeper_dialect.specs.declared.query.Add.{Add}
use Rattle.keeper_dialect.specs.Tokens.{Token, is_same_name}
use Rattle.keeper_dialect.specs.Reading.{Reading, and_then, repeated, behind_comma, separated, symbol_at, is_sign, sign_at}
use Rattle.keeper_dialect.specs.Terms.{one_at, name_of, name_at, term_at, operator_of, operand_at, add_at, adds_at, expr_at}
use Rattle.keeper_dialect.specs.Lists.{new_name_at}
use Rattle.keeper_dialect.specs.Grammar.{Is, here, Then, both, Repeated, none, more, one, standing, Signed, IsTerm, IsAdd, IsExpr, unless, Separated, Bracketed, NewName}
use Rattle.keeper_dialect.proofs.ReadingLemmas.{GoesOn, Within, then_ok, then_err}
use Rattle.keeper_dialect.proofs.Shorter.{adds_go_on, commas_go_on}
use Rattle.keeper_dialect.proofs.ExactLists.{Behind, Operand, operand}
use Rattle.keeper_dialect.proofs.Exact.{end_is}
use Rattle.keeper_dialect.proofs.Forward.{Ended, last, next, Outcome, went, stopped, Forward, Begun, begun, Going, head_of, outcome_behind, going_as, going_is, going_then, NextOutcome, ends, part, Longer, forward_repeated}
use Rattle.keeper_dialect.proofs.ForwardTerms.{some_token, going_sign, going_term}

-- a list, each part of which goes forward
module _ {A : Type 0} (Q : List A → A → List Token → Type 0) where
  pub longer_none : (done : List A) → Longer Q done done []
  longer_none done = record { xs = []; is = none done; same = sym (append-nil done) }

  pub longer_early : (done : List A) (us : List Token) → Begun (Q done) us → Begun (Longer Q done) us
  longer_early done us (begun x vs q) = begun (done ++ x ∷ []) vs (record { xs = x ∷ []; is = subst (Repeated Q done (x ∷ [])) (append-nil (us ++ vs)) (more done x [] (us ++ vs) [] q (none (done ++ x ∷ []))); same = refl })

  pub longer_late : (done : List A) (x : A) (us vs : List Token) → Q done x us → Begun (Longer Q (done ++ x ∷ [])) vs → Begun (Longer Q done) (us ++ vs)
  longer_late done x us vs q (begun all ws l) = begun all ws (record { xs = x ∷ l.xs; is = subst (Repeated Q done (x ∷ l.xs)) (sym (append_assoc us vs ws)) (more done x l.xs us (vs ++ ws) q l.is); same = l.same ∙ append_assoc done (x ∷ []) l.xs })

  pub going_longer : (after : List A → List Token → Option (Reading A)) → GoesOn after → ((done : List A) (ts : List Token) → Ended ts → NextOutcome (Q done) (Begun (Q done)) (after done) ts) → (done : List A) → Going (Longer Q done) (λ ts. repeated after (length ts) done ts)
  going_longer after goes each done = record {
    forward = record { outcome = λ ts ended. forward_repeated Q after (λ done. Begun (Q done)) (λ done. Begun (Longer Q done)) goes each longer_early longer_late (length ts) done ts (omega arith) ended };
    able = record { value = done; tokens = []; is = longer_none done };
  }

going_operand : (minus : Bool) → Going (Operand minus) (operand minus)
unfolding operand
going_operand minus = going_then IsTerm (λ t. Is (record { minus = minus; term = t })) term_at (λ t rest. Ok (record { minus = minus; term = t }, rest)) going_term (λ t. going_is (record { minus = minus; term = t }))

add_outcome : (o : Option Bool) (done : List Add) (ts : List Token) → operator_of (symbol_at ts) ≡ o → Ended ts → NextOutcome IsAdd (Begun IsAdd) (add_at done) ts
unfolding operand
add_outcome None done ts is ended = ends (λ t other same. ap (λ o. operand_at o other) (ap operator_of same ∙ is))
add_outcome (Some minus) done ts is (last t us end) = let wrong : None ≡ Some minus = sym (ap operator_of (end_is t.symbol end)) ∙ is in cc wrong
add_outcome (Some minus) done ts is (next t us ended) =
    part (λ ws. operand minus (drop 1 ws)) (λ ws same. ap (λ o. operand_at o (drop 1 ws)) (ap operator_of same ∙ is))
    (outcome_behind (Operand minus) IsAdd (Begun (Operand minus)) (Begun IsAdd) (operand minus) (λ ws. operand minus (drop 1 ws)) t us ((going_operand minus).forward.outcome us ended) made begins (λ ws. refl))
  where
    made : (x : Add) (us : List Token) → Operand minus x us → IsAdd x (t ∷ us)
    made x us p = both minus x (t ∷ []) us (one t minus is) p

    begins : (us : List Token) → Begun (Operand minus) us → Begun IsAdd (t ∷ us)
    begins us (begun x vs p) = begun x vs (made x (us ++ vs) p)

going_adds : Going (Repeated (λ done. IsAdd) []) adds_at
unfolding adds_at
going_adds = going_as (Longer (λ done. IsAdd) []) (Repeated (λ done. IsAdd) []) (λ ts. repeated add_at (length ts) [] ts) adds_at (going_longer (λ done. IsAdd) add_at adds_go_on (λ done ts ended. add_outcome (operator_of (symbol_at ts)) done ts refl ended) []) (λ xs us l. subst (λ ys. Repeated (λ done. IsAdd) [] ys us) (sym l.same) l.is) (λ ts. refl)

pub going_expr : Going IsExpr expr_at
unfolding expr_at
going_expr =
    going_then IsTerm (λ t. Then (Repeated (λ done. IsAdd) []) (λ adds. Is (record { first = t; rest = adds }))) term_at _ going_term (λ t.
    going_then (Repeated (λ done. IsAdd) []) (λ adds. Is (record { first = t; rest = adds })) adds_at (λ adds rest. Ok (record { first = t; rest = adds }, rest)) going_adds (λ adds. going_is (record { first = t; rest = adds })))

-- what a list behind commas has next
pub comma_outcome : {A : Type 0} (P : List A → A → List Token → Type 0) (read : List A → List Token → Reading A) (G H : List Token → Type 0) (done : List A) → Forward (P done) H (read done) → ((t : Token) (us : List Token) → is_sign 44 t.symbol ≡ true → H us → G (t ∷ us)) → (ts : List Token) → Ended ts → NextOutcome (Behind P done) G (behind_comma read done) ts
comma_outcome {A = A} P read G H done forward begins ts ended = by_comma (is_sign 44 (symbol_at ts)) ts refl ended
  where
    by_comma : (b : Bool) (ts : List Token) → is_sign 44 (symbol_at ts) ≡ b → Ended ts → NextOutcome (Behind P done) G (behind_comma read done) ts
    by_comma false ts is ended = ends (λ t other same. ap (λ b. cond b (Some (read done other)) None) (ap (is_sign 44) same ∙ is))
    by_comma true ts is (last t us end) = let wrong : false ≡ true = sym (ap (is_sign 44) (end_is t.symbol end)) ∙ is in cc wrong
    by_comma true ts is (next t us ended) =
        part (λ ws. read done (drop 1 ws)) (λ ws same. ap (λ b. cond b (Some (read done (drop 1 ws))) None) (ap (is_sign 44) same ∙ is))
        (outcome_behind (P done) (Behind P done) H G (read done) (λ ws. read done (drop 1 ws)) t us (forward.outcome us ended) (λ x us p. both tt x (t ∷ []) us (one t tt (ap standing is)) p) (λ us h. begins t us is h) (λ ws. refl))

-- behind the first part of a list
pub rest_made : {A : Type 0} (P : List A → A → List Token → Type 0) (x : A) (all : List A) (us : List Token) → Longer (Behind P) (x ∷ []) all us → Then (Repeated (Behind P) (x ∷ [])) (λ xs. Is (x ∷ xs)) all us
rest_made P x all us l = subst (λ ys. Then (Repeated (Behind P) (x ∷ [])) (λ xs. Is (x ∷ xs)) ys us) (sym l.same) (subst (Then (Repeated (Behind P) (x ∷ [])) (λ xs. Is (x ∷ xs)) (x ∷ l.xs)) (append-nil us) (both l.xs (x ∷ l.xs) us [] l.is here))

pub going_separated : {A : Type 0} (P : List A → A → List Token → Type 0) (read : List A → List Token → Reading A) → ((done : List A) → Going (P done) (read done)) → ((done : List A) (ts : List Token) → Within (length ts) (read done ts)) → Going (Separated P) (separated read)
unfolding separated
going_separated {A = A} P read each within =
    going_then (P []) (λ x. Then (Repeated (Behind P) (x ∷ [])) (λ xs. Is (x ∷ xs))) (read []) (λ x rest. repeated (behind_comma read) (length rest) (x ∷ []) rest) (each []) (λ x.
    going_as (Longer (Behind P) (x ∷ [])) (Then (Repeated (Behind P) (x ∷ [])) (λ xs. Is (x ∷ xs))) (λ ts. repeated (behind_comma read) (length ts) (x ∷ []) ts) _ (going_longer (Behind P) (behind_comma read) (commas_go_on read within) (λ done ts ended. comma_outcome P read (Begun (Behind P done)) (Begun (P done)) done (each done).forward (begins done) ts ended) (x ∷ [])) (rest_made P x) (λ ts. refl))
  where
    begins : (done : List A) (t : Token) (us : List Token) → is_sign 44 t.symbol ≡ true → Begun (P done) us → Begun (Behind P done) (t ∷ us)
    begins done t us is (begun x vs p) = begun x vs (both tt x (t ∷ []) (us ++ vs) (one t tt (ap standing is)) p)

pub going_brackets : {A : Type 0} (P : A → List Token → Type 0) (at : List Token → Reading A) → Going P at → Going (Bracketed P) (λ ts. and_then (sign_at 40 ts) (λ _ inner. and_then (at inner) (λ x after. and_then (sign_at 41 after) (λ _ rest. Ok (x, rest)))))
going_brackets P at going =
    going_then (Signed 40) (λ _. Then P (λ x. Then (Signed 41) (λ _. Is x))) (sign_at 40) _ (going_sign 40 refl) (λ _.
    going_then P (λ x. Then (Signed 41) (λ _. Is x)) at (λ x after. and_then (sign_at 41 after) (λ _ rest. Ok (x, rest))) going (λ x.
    going_then (Signed 41) (λ _. Is x) (sign_at 41) (λ _ rest. Ok (x, rest)) (going_sign 41 refl) (λ _. going_is x)))

-- a name that isn't taken
pub record Fresh (is_taken : List ℕ → Bool) : Type 0 where
  pub name : List ℕ
  pub is : is_taken name ≡ false

-- a name, which is taken or not
judged : Bool → ℕ → List ℕ → List Token → Reading (List ℕ)
judged b n name rest = cond b (Err n) (Ok (name, rest))

new_name-none : (is_taken : List ℕ → Bool) (t : Token) (ts : List Token) → name_of t.symbol t.text ≡ None → new_name_at is_taken (t ∷ ts) ≡ Err t.start
unfolding new_name_at name_at
new_name-none is_taken t ts is = then_err (name_at (t ∷ ts)) _ t.start (ap (λ o. one_at o (t ∷ ts)) is)

new_name-some : (is_taken : List ℕ → Bool) (t : Token) (ts : List Token) (name : List ℕ) (b : Bool) → name_of t.symbol t.text ≡ Some name → is_taken name ≡ b → new_name_at is_taken (t ∷ ts) ≡ judged b t.start name ts
unfolding new_name_at name_at judged
new_name-some is_taken t ts name b is taken = then_ok (name_at (t ∷ ts)) _ name ts (ap (λ o. one_at o (t ∷ ts)) is) ∙ ap (λ b. judged b t.start name ts) taken

pub going_new_name : (is_taken : List ℕ → Bool) → Fresh is_taken → Going (NewName is_taken) (new_name_at is_taken)
unfolding judged
going_new_name is_taken fresh = record { forward = record { outcome = outcome }; able = record { value = fresh.name; tokens = some_token symbol.Word fresh.name ∷ []; is = some_name } }
  where
    some_name : NewName is_taken fresh.name (some_token symbol.Word fresh.name ∷ [])
    some_name = unless fresh.name (some_token symbol.Word fresh.name ∷ []) (one (some_token symbol.Word fresh.name) fresh.name refl) fresh.is

    refused : (t : Token) (us : List Token) → ((ws : List Token) → new_name_at is_taken (t ∷ ws) ≡ Err t.start) → Outcome (NewName is_taken) (Begun (NewName is_taken)) (new_name_at is_taken) (t ∷ us)
    refused t us is = stopped (record { front = []; token = t; rest = us; begins = begun fresh.name (some_token symbol.Word fresh.name ∷ []) some_name; whole = refl; stops = is })

    by_taken : (b : Bool) (name : List ℕ) (t : Token) (us : List Token) → name_of t.symbol t.text ≡ Some name → is_taken name ≡ b → Ended us → Outcome (NewName is_taken) (Begun (NewName is_taken)) (new_name_at is_taken) (t ∷ us)
    by_taken true name t us is taken ended = refused t us (λ ws. new_name-some is_taken t ws name true is taken)
    by_taken false name t us is taken ended =
        let h = head_of us ended in
        went (record { value = name; front = t ∷ []; token = h.token; rest = h.rest; is = unless name (t ∷ []) (one t name is) taken; ended = h.ended; whole = ap (λ us. t ∷ us) h.whole; goes = λ other. new_name-some is_taken t (h.token ∷ other) name false is taken })

    by_name : (o : Option (List ℕ)) (t : Token) (us : List Token) → name_of t.symbol t.text ≡ o → Ended us → Outcome (NewName is_taken) (Begun (NewName is_taken)) (new_name_at is_taken) (t ∷ us)
    by_name None t us is ended = refused t us (λ ws. new_name-none is_taken t ws is)
    by_name (Some name) t us is ended = by_taken (is_taken name) name t us is refl ended

    outcome : (ts : List Token) → Ended ts → Outcome (NewName is_taken) (Begun (NewName is_taken)) (new_name_at is_taken) ts
    outcome ts (last t us end) = refused t us (λ ws. new_name-none is_taken t ws (ap (λ s. name_of s t.text) (end_is t.symbol end)))
    outcome ts (next t us ended) = by_name (name_of t.symbol t.text) t us refl ended

-- longer than all of some names
longest : {A : Type 0} → (A → List ℕ) → List A → List ℕ
longest name_of [] = 97 ∷ []
longest name_of (x ∷ xs) = name_of x ++ longest name_of xs

longest-some : {A : Type 0} (name_of : A → List ℕ) (xs : List A) → 0 < length (longest name_of xs)
unfolding longest
longest-some name_of [] = omega arith
longest-some name_of (x ∷ xs) = omega (arith, length-append (name_of x) (longest name_of xs), longest-some name_of xs)

-- a longer name is another one
longer_differs : (a b : List ℕ) → length a < length b → is_same_name a b ≡ false
longer_differs a b less = by_test (is_same_name a b) refl
  where
    by_test : (t : Bool) → is_same_name a b ≡ t → t ≡ false
    by_test true is = let same : str_to_ascii_lowercase a ≡ str_to_ascii_lowercase b = (bytes_eq-Decides (str_to_ascii_lowercase a) (str_to_ascii_lowercase b)).0 is in absurd (omega (arith, ap length same, length-map a to_ascii_lowercase, length-map b to_ascii_lowercase))
    by_test false is = refl

none_same : {A : Type 0} (name_of : A → List ℕ) (xs : List A) (name : List ℕ) → length (longest name_of xs) ≤ length name → list_any (λ x. is_same_name (name_of x) name) xs ≡ false
unfolding longest
none_same name_of [] name less = refl
none_same name_of (x ∷ xs) name less =
    let size = length-append (name_of x) (longest name_of xs) in
    let some = longest-some name_of xs in
    ap (λ b. b || list_any (λ x. is_same_name (name_of x) name) xs) (longer_differs (name_of x) name (omega arith)) ∙ none_same name_of xs name (omega arith)

pub fresh_name : {A : Type 0} (name_of : A → List ℕ) (xs : List A) → Fresh (λ name. list_any (λ x. is_same_name (name_of x) name) xs)
fresh_name name_of xs = record { name = longest name_of xs; is = none_same name_of xs (longest name_of xs) (omega arith) }

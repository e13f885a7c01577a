-- Expressions and lists are read exactly.
use Rattle.std.proofs.Common.{◌≡◌, ℕ, Bool, true, false, cond, eqb-true, List, [], ◌∷◌, ◌++◌, length, drop, Option, Some, None, Ok, refl, sym, ap, ◌∙◌, subst, append_assoc}
use Rattle.std.specs.Prelude.{◌==◌, ◌&&◌, ◌||◌, not}
use Rattle.std.proofs.lemmas.Bool.{and_parts}
use Rattle.keeper_dialect.specs.declared.tokens.Keyword.TheVariants as keyword
use Rattle.keeper_dialect.specs.declared.tokens.Symbol.{Symbol}
use Rattle.keeper_dialect.specs.declared.tokens.Symbol.TheVariants as symbol
use Rattle.keeper_dialect.specs.declared.query.Term.{Term}
use Rattle.keeper_dialect.specs.declared.query.Add.{Add}
use Rattle.keeper_dialect.specs.declared.query.Expr.{Expr}
use Rattle.keeper_dialect.specs.Tokens.{Token}
use Rattle.keeper_dialect.specs.Reading.{Reading, and_then, repeated, behind_comma, separated, symbol_at, is_keyword, is_sign}
use Rattle.keeper_dialect.specs.Terms.{term_at, operator_of, operand_at, add_at, adds_at, expr_at}
use Rattle.keeper_dialect.specs.Grammar.{Is, here, Then, both, Repeated, none, more, one, Signed, IsTerm, IsAdd, IsExpr, Separated}
use Rattle.keeper_dialect.proofs.ReadingLemmas.{Within}
use Rattle.keeper_dialect.proofs.Shorter.{adds_go_on, commas_go_on}
use Rattle.keeper_dialect.proofs.Exact.{Front, Exact, ExactNext, exact_is, exact_then, repeated_sound, repeated_complete}
use Rattle.keeper_dialect.proofs.ExactTerms.{exact_term, no_text}

-- what may follow a part of a list, or an expression
abbrev pub closes : Symbol → Bool
closes (symbol.Keyword k) = is_keyword keyword.From (symbol.Keyword k) || is_keyword keyword.Where (symbol.Keyword k)
closes symbol.Word = false
closes symbol.QuotedName = false
closes symbol.Text = false
closes symbol.Number = false
closes (symbol.Parameter n) = false
closes (symbol.Sign b) = b == 44 || b == 41
closes symbol.Stray = false
closes symbol.End = true

-- what may follow a list
abbrev pub closes_list : Symbol → Bool
closes_list s = closes s && not (is_sign 44 s)

closes_text : (s : Symbol) → closes s ≡ true → no_text s ≡ true
closes_text (symbol.Keyword k) is = refl
closes_text symbol.Word is = refl
closes_text symbol.QuotedName is = refl
closes_text symbol.Text is = cc is
closes_text symbol.Number is = refl
closes_text (symbol.Parameter n) is = refl
closes_text (symbol.Sign b) is = refl
closes_text symbol.Stray is = refl
closes_text symbol.End is = refl

closes_sign : (b : ℕ) → (b == 44 || b == 41) ≡ true → operator_of (symbol.Sign b) ≡ None
closes_sign b is = by_tests (b == 43) refl (b == 45) refl
  where
    by_tests : (p : Bool) → (b == 43) ≡ p → (m : Bool) → (b == 45) ≡ m → cond p (Some false) (cond m (Some true) None) ≡ None
    by_tests true plus m minus = let same : b ≡ 43 = eqb-true b 43 plus in let other : (43 == 44 || 43 == 41) ≡ true = subst (λ c. (c == 44 || c == 41) ≡ true) same is in cc other
    by_tests false plus true minus = let same : b ≡ 45 = eqb-true b 45 minus in let other : (45 == 44 || 45 == 41) ≡ true = subst (λ c. (c == 44 || c == 41) ≡ true) same is in cc other
    by_tests false plus false minus = refl

closes_operator : (s : Symbol) → closes s ≡ true → operator_of s ≡ None
closes_operator (symbol.Keyword k) is = refl
closes_operator symbol.Word is = refl
closes_operator symbol.QuotedName is = refl
closes_operator symbol.Text is = refl
closes_operator symbol.Number is = refl
closes_operator (symbol.Parameter n) is = refl
closes_operator (symbol.Sign b) is = closes_sign b is
closes_operator symbol.Stray is = refl
closes_operator symbol.End is = refl

operator_text : (s : Symbol) (minus : Bool) → operator_of s ≡ Some minus → no_text s ≡ true
operator_text (symbol.Keyword k) minus is = refl
operator_text symbol.Word minus is = refl
operator_text symbol.QuotedName minus is = refl
operator_text symbol.Text minus is = cc is
operator_text symbol.Number minus is = refl
operator_text (symbol.Parameter n) minus is = refl
operator_text (symbol.Sign b) minus is = refl
operator_text symbol.Stray minus is = refl
operator_text symbol.End minus is = refl

-- the term behind an operator
unfoldable pub operand : Bool → List Token → Reading Add
operand minus ts = and_then (term_at ts) (λ t rest. Ok (record { minus = minus; term = t }, rest))

abbrev pub Operand : Bool → Add → List Token → Type 0
Operand minus = Then IsTerm (λ t. Is (record { minus = minus; term = t }))

exact_operand : (minus : Bool) → Exact (Operand minus) no_text (operand minus)
unfolding operand
exact_operand minus = exact_then IsTerm (λ t. Is (record { minus = minus; term = t })) no_text no_text term_at (λ t rest. Ok (record { minus = minus; term = t }, rest)) exact_term (λ t. exact_is (record { minus = minus; term = t }) no_text) (λ t y vs rest q follows. is_free t y vs rest q follows)
  where
    is_free : (t : Term) (y : Add) (vs rest : List Token) → Is (record { minus = minus; term = t }) y vs → no_text (symbol_at rest) ≡ true → no_text (symbol_at (vs ++ rest)) ≡ true
    is_free t y vs rest here follows = follows

operand_read : (minus : Bool) (x : Add) (vs rest : List Token) → Operand minus x vs → no_text (symbol_at rest) ≡ true → and_then (term_at (vs ++ rest)) (λ t rest. Ok (record { minus = minus; term = t }, rest)) ≡ Ok (x, rest)
unfolding operand
operand_read minus x vs rest q follows = (exact_operand minus).complete x vs rest q follows

add_front : (o : Option Bool) (t : Token) (ts : List Token) (x : Add) (rest : List Token) → operator_of t.symbol ≡ o → operand_at o ts ≡ Some (Ok (x, rest)) → Front IsAdd x (t ∷ ts) rest
unfolding operand
add_front None t ts x rest is read = cc read
add_front (Some minus) t ts x rest is read =
    let reading : operand minus ts ≡ Ok (x, rest) = cc read in
    let behind = (exact_operand minus).sound ts x rest reading in
    record { front = t ∷ behind.front; is = both minus x (t ∷ []) behind.front (one t minus is) behind.is; whole = ap (λ us. t ∷ us) behind.whole }

exact_adds : ExactNext (λ done. IsAdd) no_text closes add_at
exact_adds = record { sound = sound; complete = complete; stops = λ done ts is. ap (λ o. operand_at o (drop 1 ts)) (closes_operator (symbol_at ts) is); ends = λ ts is. closes_text (symbol_at ts) is; goes = goes }
  where
    sound : (done : List Add) (ts : List Token) (x : Add) (rest : List Token) → add_at done ts ≡ Some (Ok (x, rest)) → Front IsAdd x ts rest
    sound done [] x rest is = cc is
    sound done (t ∷ ts) x rest is = add_front (operator_of t.symbol) t ts x rest refl is

    complete : (done : List Add) (x : Add) (us rest : List Token) → IsAdd x us → no_text (symbol_at rest) ≡ true → add_at done (us ++ rest) ≡ Some (Ok (x, rest))
    complete done x us rest (both m y ws vs (one t minus is) q) follows = ap (λ o. operand_at o (vs ++ rest)) is ∙ ap (λ r. Some r) (operand_read m x vs rest q follows)

    goes : (done : List Add) (x : Add) (us rest : List Token) → IsAdd x us → no_text (symbol_at (us ++ rest)) ≡ true
    goes done x us rest (both m y ws vs (one t minus is) q) = operator_text t.symbol minus is

-- what may follow a list of operands is what may follow the term before it
adds_follow : (xs : List Add) (us rest : List Token) → Repeated (λ done. IsAdd) [] xs us → closes (symbol_at rest) ≡ true → no_text (symbol_at (us ++ rest)) ≡ true
adds_follow xs us rest (none same) ends = closes_text (symbol_at rest) ends
adds_follow xs us rest (more same x ys vs ws p ps) ends = subst (λ ts. no_text (symbol_at ts) ≡ true) (sym (append_assoc vs ws rest)) (exact_adds.goes [] x vs (ws ++ rest) p)

exact_adds_at : Exact (Repeated (λ done. IsAdd) []) closes adds_at
unfolding adds_at
exact_adds_at = record { sound = sound; complete = λ xs us rest is ends. repeated_complete (λ done. IsAdd) no_text closes add_at adds_go_on exact_adds [] xs us rest is ends }
  where
    sound : (ts : List Token) (xs : List Add) (rest : List Token) → repeated add_at (length ts) [] ts ≡ Ok (xs, rest) → Front (Repeated (λ done. IsAdd) []) xs ts rest
    sound ts xs rest is =
        let f = repeated_sound (λ done. IsAdd) no_text closes add_at adds_go_on exact_adds (length ts) [] xs ts rest is (add_at [] ts) refl in
        record { front = f.front; is = subst (λ ys. Repeated (λ done. IsAdd) [] ys f.front) (sym f.same) f.is; whole = f.whole }

pub exact_expr : Exact IsExpr closes expr_at
unfolding expr_at
exact_expr =
    exact_then IsTerm (λ t. Then (Repeated (λ done. IsAdd) []) (λ adds. Is (record { first = t; rest = adds }))) no_text closes term_at _ exact_term
    (λ t. exact_then (Repeated (λ done. IsAdd) []) (λ adds. Is (record { first = t; rest = adds })) closes closes adds_at _ exact_adds_at (λ adds. exact_is (record { first = t; rest = adds }) closes) (λ adds y vs rest q follows. is_free t adds y vs rest q follows))
    (λ t y vs rest q follows. fits t y vs rest q follows)
  where
    is_free : (t : Term) (adds : List Add) (y : Expr) (vs rest : List Token) → Is (record { first = t; rest = adds }) y vs → closes (symbol_at rest) ≡ true → closes (symbol_at (vs ++ rest)) ≡ true
    is_free t adds y vs rest here follows = follows

    fits : (t : Term) (y : Expr) (vs rest : List Token) → Then (Repeated (λ done. IsAdd) []) (λ adds. Is (record { first = t; rest = adds })) y vs → closes (symbol_at rest) ≡ true → no_text (symbol_at (vs ++ rest)) ≡ true
    fits t y vs rest (both adds z us ws p here) follows = subst (λ ts. no_text (symbol_at ts) ≡ true) (sym (append_assoc us [] rest)) (adds_follow adds us rest p follows)

-- lists behind commas, of which each part is exact
pub record Parts {A : Type 0} (P : List A → A → List Token → Type 0) (read : List A → List Token → Reading A) : Type 0 where
  pub each : (done : List A) → Exact (P done) closes (read done)
  pub within : (done : List A) (ts : List Token) → Within (length ts) (read done ts)

abbrev pub Behind : {A : Type 0} → (List A → A → List Token → Type 0) → List A → A → List Token → Type 0
Behind P done = Then (Signed 44) (λ _. P done)

closes_more : (s : Symbol) → closes_list s ≡ true → closes s ≡ true
closes_more s is = (and_parts (closes s) (not (is_sign 44 s)) is).0

not_false : (b : Bool) → not b ≡ true → b ≡ false
not_false true wrong = cc wrong
not_false false right = refl

closes_comma : (s : Symbol) → closes_list s ≡ true → is_sign 44 s ≡ false
closes_comma s is = not_false (is_sign 44 s) (and_parts (closes s) (not (is_sign 44 s)) is).1

pub sign_is : (b : ℕ) (s : Symbol) → is_sign b s ≡ true → s ≡ symbol.Sign b
sign_is b (symbol.Keyword k) is = cc is
sign_is b symbol.Word is = cc is
sign_is b symbol.QuotedName is = cc is
sign_is b symbol.Text is = cc is
sign_is b symbol.Number is = cc is
sign_is b (symbol.Parameter n) is = cc is
sign_is b (symbol.Sign c) is = ap (λ n. symbol.Sign n) (eqb-true c b is)
sign_is b symbol.Stray is = cc is
sign_is b symbol.End is = cc is

pub found_some : (b : Bool) (u : Unit {0}) → cond b (Some tt) None ≡ Some u → b ≡ true
found_some true u is = refl
found_some false u is = cc is

pub exact_behind : {A : Type 0} (P : List A → A → List Token → Type 0) (read : List A → List Token → Reading A) → Parts P read → ExactNext (Behind P) closes closes_list (behind_comma read)
exact_behind {A = A} P read parts = record { sound = sound; complete = complete; stops = λ done ts is. ap (λ b. cond b (Some (read done (drop 1 ts))) None) (closes_comma (symbol_at ts) is); ends = λ ts is. closes_more (symbol_at ts) is; goes = goes }
  where
    by_comma : (b : Bool) (done : List A) (t : Token) (ts : List Token) (x : A) (rest : List Token) → is_sign 44 t.symbol ≡ b → cond b (Some (read done ts)) None ≡ Some (Ok (x, rest)) → Front (Behind P done) x (t ∷ ts) rest
    by_comma true done t ts x rest comma is =
        let reading : read done ts ≡ Ok (x, rest) = cc is in
        let behind = (parts.each done).sound ts x rest reading in
        record { front = t ∷ behind.front; is = both tt x (t ∷ []) behind.front (one t tt (ap (λ b. cond b (Some tt) None) comma)) behind.is; whole = ap (λ us. t ∷ us) behind.whole }
    by_comma false done t ts x rest comma is = cc is

    sound : (done : List A) (ts : List Token) (x : A) (rest : List Token) → behind_comma read done ts ≡ Some (Ok (x, rest)) → Front (Behind P done) x ts rest
    sound done [] x rest is = cc is
    sound done (t ∷ ts) x rest is = by_comma (is_sign 44 t.symbol) done t ts x rest refl is

    complete : (done : List A) (x : A) (us rest : List Token) → Behind P done x us → closes (symbol_at rest) ≡ true → behind_comma read done (us ++ rest) ≡ Some (Ok (x, rest))
    complete done x us rest (both u y ws vs (one t v is) q) follows = ap (λ b. cond b (Some (read done (vs ++ rest))) None) (found_some (is_sign 44 t.symbol) v is) ∙ ap (λ r. Some r) ((parts.each done).complete x vs rest q follows)

    goes : (done : List A) (x : A) (us rest : List Token) → Behind P done x us → closes (symbol_at (us ++ rest)) ≡ true
    goes done x us rest (both u y ws vs (one t v is) q) = ap closes (sign_is 44 t.symbol (found_some (is_sign 44 t.symbol) v is))

rest_front : {A : Type 0} (P : List A → A → List Token → Type 0) (read : List A → List Token → Reading A) → Parts P read → (x : A) → Exact (Then (Repeated (Behind P) (x ∷ [])) (λ xs. Is (x ∷ xs))) closes_list (λ ts. repeated (behind_comma read) (length ts) (x ∷ []) ts)
rest_front {A = A} P read parts x = record { sound = sound; complete = complete }
  where
    sound : (ts : List Token) (all : List A) (rest : List Token) → repeated (behind_comma read) (length ts) (x ∷ []) ts ≡ Ok (all, rest) → Front (Then (Repeated (Behind P) (x ∷ [])) (λ xs. Is (x ∷ xs))) all ts rest
    sound ts all rest is =
        let f = repeated_sound (Behind P) closes closes_list (behind_comma read) (commas_go_on read parts.within) (exact_behind P read parts) (length ts) (x ∷ []) all ts rest is (behind_comma read (x ∷ []) ts) refl in
        subst (λ ys. Front (Then (Repeated (Behind P) (x ∷ [])) (λ xs. Is (x ∷ xs))) ys ts rest) (sym f.same) (record { front = f.front ++ []; is = both f.xs (x ∷ f.xs) f.front [] f.is here; whole = f.whole ∙ sym (append_assoc f.front [] rest) })

    complete : (all : List A) (us rest : List Token) → Then (Repeated (Behind P) (x ∷ [])) (λ xs. Is (x ∷ xs)) all us → closes_list (symbol_at rest) ≡ true → repeated (behind_comma read) (length (us ++ rest)) (x ∷ []) (us ++ rest) ≡ Ok (all, rest)
    complete all us rest (both xs y vs ws p here) ends = ap (λ ts. repeated (behind_comma read) (length ts) (x ∷ []) ts) (append_assoc vs [] rest) ∙ repeated_complete (Behind P) closes closes_list (behind_comma read) (commas_go_on read parts.within) (exact_behind P read parts) (x ∷ []) xs vs rest p ends

rest_follows : {A : Type 0} (P : List A → A → List Token → Type 0) (read : List A → List Token → Reading A) → Parts P read → (x : A) (y : List A) (vs rest : List Token) → Then (Repeated (Behind P) (x ∷ [])) (λ xs. Is (x ∷ xs)) y vs → closes_list (symbol_at rest) ≡ true → closes (symbol_at (vs ++ rest)) ≡ true
rest_follows P read parts x y vs rest (both xs z us ws (none same) here) ends = closes_more (symbol_at rest) ends
rest_follows P read parts x y vs rest (both xs z us ws (more same w ys ps1 ps2 p ps) here) ends = subst (λ ts. closes (symbol_at ts) ≡ true) (sym (append_assoc (ps1 ++ ps2) [] rest ∙ append_assoc ps1 ps2 rest)) ((exact_behind P read parts).goes (x ∷ []) w ps1 (ps2 ++ rest) p)

pub exact_separated : {A : Type 0} (P : List A → A → List Token → Type 0) (read : List A → List Token → Reading A) → Parts P read → Exact (Separated P) closes_list (separated read)
unfolding separated
exact_separated P read parts = exact_then (P []) (λ x. Then (Repeated (Behind P) (x ∷ [])) (λ xs. Is (x ∷ xs))) closes closes_list (read []) (λ x rest. repeated (behind_comma read) (length rest) (x ∷ []) rest) (parts.each []) (λ x. rest_front P read parts x) (λ x y vs rest q follows. rest_follows P read parts x y vs rest q follows)

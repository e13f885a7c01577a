-- Readings one after another, and lists.
use Rattle.std.proofs.Common.{◌≡◌, ◌≤◌, ◌<◌, ℕ, zero, suc, Bool, true, false, cond, List, [], ◌∷◌, ◌++◌, length, drop, Option, Some, None, Ok, Err, refl, sym, ap, ◌∙◌, subst, arith}
use Rattle.std.specs.Prelude.{Result, IfErr, IsErrAnd}
use Rattle.std.proofs.lemmas.List.{length-drop}
use Rattle.keeper_dialect.specs.declared.query.DialectFail.{DialectFail}
use Rattle.keeper_dialect.specs.declared.query.DialectFail.TheVariants as fail
use Rattle.keeper_dialect.specs.Tokens.{Token}
use Rattle.keeper_dialect.specs.Reading.{Reading, and_then, continued, repeated, behind_comma, symbol_at, is_sign, StopsAs}

-- what is read leaves at most so many tokens
pub record Within {A : Type 0} (n : ℕ) (reading : Reading A) : Type 0 where
  pub few : (x : A) (rest : List Token) → reading ≡ Ok (x, rest) → length rest ≤ n

left_by : {A : Type 0} → Reading A → List Token
left_by (Ok read) = read.1
left_by (Err at) = []

-- what is read is one value and one rest
pub same_rest : {A : Type 0} (x y : A) (rest other : List Token) (r : Reading A) → r ≡ Ok (x, rest) → r ≡ Ok (y, other) → rest ≡ other
unfolding left_by
same_rest {A = A} x y rest other r first second = let left : Reading A → List Token = left_by in sym (ap left first) ∙ ap left second

pub within_ok : {A : Type 0} (n : ℕ) (x : A) (rest : List Token) → length rest ≤ n → Within n (Ok (x, rest))
within_ok n x rest few = record { few = λ y other is. subst (λ ts. length ts ≤ n) (same_rest x y rest other _ refl is) few }

pub within_err : {A : Type 0} (n at : ℕ) → Within {A = A} n (Err at)
within_err n at = record { few = λ y other is. cc is }

pub within_then : {A B : Type 0} (n : ℕ) (r : Reading A) (k : A → List Token → Reading B) → Within n r → ((x : A) (rest : List Token) → length rest ≤ n → Within n (k x rest)) → Within n (and_then r k)
unfolding and_then
within_then n (Ok read) k first later = later read.0 read.1 (first.few read.0 read.1 refl)
within_then n (Err at) k first later = within_err n at

pub within_if : {A : Type 0} (n : ℕ) (test : Bool) (r s : Reading A) → Within n r → Within n s → Within n (cond test r s)
within_if n true r s first second = first
within_if n false r s first second = second

pub drop_one_within : (ts : List Token) (n : ℕ) → length ts ≤ n → length (drop 1 ts) ≤ n
drop_one_within ts n few = omega (arith, length-drop 1 ts)

-- a reading behind another one that is known
pub then_ok : {A B : Type 0} (r : Reading A) (k : A → List Token → Reading B) (x : A) (rest : List Token) → r ≡ Ok (x, rest) → and_then r k ≡ k x rest
unfolding and_then
then_ok r k x rest is = ap (λ q. and_then q k) is

pub then_err : {A B : Type 0} (r : Reading A) (k : A → List Token → Reading B) (at : ℕ) → r ≡ Err at → and_then r k ≡ Err at
unfolding and_then
then_err r k at is = ap (λ q. and_then q k) is

pub stops_then : {A B : Type 0} (r : Reading A) (k : A → List Token → Reading B) (e : DialectFail) → StopsAs r e → StopsAs (and_then r k) e
stops_then r k (fail.Syntax at) stops = then_err r k at stops
stops_then r k fail.NoMemory stops = tt

pub stops_behind : {A B : Type 0} (r : Reading A) (k : A → List Token → Reading B) (x : A) (rest : List Token) (e : DialectFail) → r ≡ Ok (x, rest) → StopsAs (k x rest) e → StopsAs (and_then r k) e
stops_behind r k x rest e is stops = subst (λ q. StopsAs q e) (sym (then_ok r k x rest is)) stops

-- a refusal that is handed on
pub handed_on : {A B : Type 0} (result : Result A DialectFail) (e : DialectFail) (r : Reading B) → IsErrAnd result (λ f. f ≡ e) → StopsAs r e → IfErr result (StopsAs r)
handed_on (Ok x) e r is stops = tt
handed_on (Err f) e r is stops = subst (StopsAs r) (sym is) stops

-- a list ends where no token is left, and each of its readings leaves fewer tokens
pub record GoesOn {A : Type 0} (next : List A → List Token → Option (Reading A)) : Type 0 where
  pub ends : (done : List A) → next done [] ≡ None
  pub shortens : (done : List A) (ts : List Token) (x : A) (rest : List Token) → next done ts ≡ Some (Ok (x, rest)) → length rest < length ts

module _ {A : Type 0} (next : List A → List Token → Option (Reading A)) where
  pub repeated-stops : (n : ℕ) (done : List A) (ts : List Token) → next done ts ≡ None → repeated next n done ts ≡ Ok (done, ts)
  unfolding repeated
  repeated-stops zero done ts is = refl
  repeated-stops (suc n) done ts is = ap (λ o. continued done ts o (λ x rest. repeated next n (done ++ x ∷ []) rest)) is

  pub repeated-one : (n : ℕ) (done : List A) (ts : List Token) (x : A) (rest : List Token) → next done ts ≡ Some (Ok (x, rest)) → repeated next (suc n) done ts ≡ repeated next n (done ++ x ∷ []) rest
  unfolding repeated and_then
  repeated-one n done ts x rest is = ap (λ o. continued done ts o (λ x rest. repeated next n (done ++ x ∷ []) rest)) is

  pub repeated-fail : (n : ℕ) (done : List A) (ts : List Token) (at : ℕ) → next done ts ≡ Some (Err at) → repeated next (suc n) done ts ≡ Err at
  unfolding repeated and_then
  repeated-fail n done ts at is = ap (λ o. continued done ts o (λ x rest. repeated next n (done ++ x ∷ []) rest)) is

  pub repeated-zero : (done : List A) (ts : List Token) → repeated next zero done ts ≡ Ok (done, ts)
  unfolding repeated
  repeated-zero done ts = refl

  -- enough rounds are as good as more
  enough_by : GoesOn next → (n m : ℕ) (done : List A) (ts : List Token) → length ts ≤ n → length ts ≤ m → (o : Option (Reading A)) → next done ts ≡ o → repeated next n done ts ≡ repeated next m done ts
  enough_by goes n m done ts few less None is = repeated-stops n done ts is ∙ sym (repeated-stops m done ts is)
  enough_by goes n m done [] few less (Some r) is = let no : Some r ≡ None = sym is ∙ goes.ends done in cc no
  enough_by goes zero m done (t ∷ ts) few less (Some r) is = absurd (omega arith)
  enough_by goes (suc n) zero done (t ∷ ts) few less (Some r) is = absurd (omega arith)
  enough_by goes (suc n) (suc m) done (t ∷ ts) few less (Some (Err at)) is = repeated-fail n done (t ∷ ts) at is ∙ sym (repeated-fail m done (t ∷ ts) at is)
  enough_by goes (suc n) (suc m) done (t ∷ ts) few less (Some (Ok read)) is =
      let shorter : length read.1 < length (t ∷ ts) = goes.shortens done (t ∷ ts) read.0 read.1 is in
      repeated-one n done (t ∷ ts) read.0 read.1 is ∙ enough_by goes n m (done ++ read.0 ∷ []) read.1 (omega arith) (omega arith) (next (done ++ read.0 ∷ []) read.1) refl ∙ sym (repeated-one m done (t ∷ ts) read.0 read.1 is)

  pub enough : GoesOn next → (n m : ℕ) (done : List A) (ts : List Token) → length ts ≤ n → length ts ≤ m → repeated next n done ts ≡ repeated next m done ts
  enough goes n m done ts few less = enough_by goes n m done ts few less (next done ts) refl

  -- a list that goes on, in as many rounds as there are tokens
  pub repeated-goes : GoesOn next → (done : List A) (ts : List Token) (x : A) (rest : List Token) → next done ts ≡ Some (Ok (x, rest)) → repeated next (length ts) done ts ≡ repeated next (length rest) (done ++ x ∷ []) rest
  repeated-goes goes done [] x rest is = let no : Some (Ok (x, rest)) ≡ None = sym is ∙ goes.ends done in cc no
  repeated-goes goes done (t ∷ ts) x rest is =
      let shorter : length rest < length (t ∷ ts) = goes.shortens done (t ∷ ts) x rest is in
      let count : length (t ∷ ts) ≡ suc (length ts) = omega arith in
      ap (λ n. repeated next n done (t ∷ ts)) count ∙ repeated-one (length ts) done (t ∷ ts) x rest is ∙ enough goes (length ts) (length rest) (done ++ x ∷ []) rest (omega arith) (omega arith)

  pub repeated-fails : GoesOn next → (done : List A) (ts : List Token) (at : ℕ) → next done ts ≡ Some (Err at) → repeated next (length ts) done ts ≡ Err at
  repeated-fails goes done [] at is = let no : Some (Err at) ≡ None = sym is ∙ goes.ends done in cc no
  repeated-fails goes done (t ∷ ts) at is =
      let count : length (t ∷ ts) ≡ suc (length ts) = omega arith in
      ap (λ n. repeated next n done (t ∷ ts)) count ∙ repeated-fail (length ts) done (t ∷ ts) at is

  none_within : (m : ℕ) (done : List A) (ts : List Token) → length ts ≤ m → Within m (repeated next zero done ts)
  unfolding repeated
  none_within m done ts few = within_ok m done ts few

  -- a list leaves no more tokens than there were
  repeated_within_by : GoesOn next → (n m : ℕ) (done : List A) (ts : List Token) → length ts ≤ m → (o : Option (Reading A)) → next done ts ≡ o → Within m (repeated next n done ts)
  repeated_within_by goes n m done ts few None is = subst (Within m) (sym (repeated-stops n done ts is)) (within_ok m done ts few)
  repeated_within_by goes zero m done ts few (Some r) is = none_within m done ts few
  repeated_within_by goes (suc n) m done ts few (Some (Err at)) is = subst (Within m) (sym (repeated-fail n done ts at is)) (within_err m at)
  repeated_within_by goes (suc n) m done ts few (Some (Ok read)) is =
      let shorter : length read.1 < length ts = goes.shortens done ts read.0 read.1 is in
      subst (Within m) (sym (repeated-one n done ts read.0 read.1 is)) (repeated_within_by goes n m (done ++ read.0 ∷ []) read.1 (omega arith) (next (done ++ read.0 ∷ []) read.1) refl)

  pub repeated_within : GoesOn next → (n m : ℕ) (done : List A) (ts : List Token) → length ts ≤ m → Within m (repeated next n done ts)
  repeated_within goes n m done ts few = repeated_within_by goes n m done ts few (next done ts) refl

-- a list that is refused where its next part is
pub stops_repeated : {A : Type 0} (next : List A → List Token → Option (Reading A)) → GoesOn next → (done : List A) (ts : List Token) (part : Reading A) (e : DialectFail) (whole : Reading (List A)) → repeated next (length ts) done ts ≡ whole → next done ts ≡ Some part → StopsAs part e → StopsAs whole e
stops_repeated next goes done ts part (fail.Syntax at) whole same is stops = sym same ∙ repeated-fails next goes done ts at (is ∙ ap (λ r. Some r) stops)
stops_repeated next goes done ts part fail.NoMemory whole same is stops = tt

-- a list that goes on
pub goes_repeated : {A : Type 0} (next : List A → List Token → Option (Reading A)) → GoesOn next → (done pushed : List A) (ts : List Token) (x : A) (rest : List Token) (whole : Reading (List A)) → repeated next (length ts) done ts ≡ whole → next done ts ≡ Some (Ok (x, rest)) → pushed ≡ done ++ x ∷ [] → repeated next (length rest) pushed rest ≡ whole
goes_repeated next goes done pushed ts x rest whole same is more = ap (λ xs. repeated next (length rest) xs rest) more ∙ sym (repeated-goes next goes done ts x rest is) ∙ same

-- a list that ends
pub ends_repeated : {A : Type 0} (next : List A → List Token → Option (Reading A)) (done : List A) (ts rest : List Token) (whole : Reading (List A)) → repeated next (length ts) done ts ≡ whole → next done ts ≡ None → rest ≡ ts → whole ≡ Ok (done, rest)
ends_repeated next done ts rest whole same is left = sym same ∙ repeated-stops next (length ts) done ts is ∙ ap (λ us. Ok (done, us)) (sym left)

-- behind a comma
pub comma_goes : {A : Type 0} (read : List A → List Token → Reading A) (done : List A) (ts : List Token) → is_sign 44 (symbol_at ts) ≡ true → behind_comma read done ts ≡ Some (read done (drop 1 ts))
comma_goes read done ts is = ap (λ test. cond test (Some (read done (drop 1 ts))) None) is

pub comma_ends : {A : Type 0} (read : List A → List Token → Reading A) (done : List A) (ts : List Token) → is_sign 44 (symbol_at ts) ≡ false → behind_comma read done ts ≡ None
comma_ends read done ts is = ap (λ test. cond test (Some (read done (drop 1 ts))) None) is

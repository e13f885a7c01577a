-- Readings that are exactly the parts of the grammar.
use Rattle.std.proofs.Common.{◌≡◌, ℕ, zero, suc, Bool, true, false, cond, List, [], ◌∷◌, ◌++◌, length, Option, Some, None, Ok, Err, refl, sym, ap, ◌∙◌, subst, append_assoc, append-nil}
use Rattle.keeper_dialect.specs.declared.tokens.Symbol.{Symbol}
use Rattle.keeper_dialect.specs.declared.tokens.Symbol.TheVariants as symbol
use Rattle.keeper_dialect.specs.Tokens.{Token}
use Rattle.keeper_dialect.specs.Reading.{Reading, and_then, repeated, symbol_at}
use Rattle.keeper_dialect.specs.Terms.{one_at}
use Rattle.keeper_dialect.specs.Query.{is_end}
use Rattle.keeper_dialect.specs.Grammar.{Is, here, Then, both, Either, first, second, Repeated, none, more, Single, one, Unless, unless}
use Rattle.keeper_dialect.proofs.ReadingLemmas.{GoesOn, then_ok, same_rest, repeated-goes, repeated-stops, repeated-one, repeated-fail, repeated-zero}

-- the end, where it is tested
pub end_is : (s : Symbol) → is_end s ≡ true → s ≡ symbol.End
end_is (symbol.Keyword k) is = cc is
end_is symbol.Word is = cc is
end_is symbol.QuotedName is = cc is
end_is symbol.Text is = cc is
end_is symbol.Number is = cc is
end_is (symbol.Parameter n) is = cc is
end_is (symbol.Sign b) is = cc is
end_is symbol.Stray is = cc is
end_is symbol.End is = refl

-- a value that stands at the front of tokens, before the others
pub record Front {A : Type 0} (P : A → List Token → Type 0) (x : A) (ts rest : List Token) : Type 0 where
  pub front : List Token
  pub is : P x front
  pub whole : ts ≡ front ++ rest

-- A reading gives a value exactly where the part stands, and what follows may follow it.
pub record Exact {A : Type 0} (P : A → List Token → Type 0) (follows : Symbol → Bool) (at : List Token → Reading A) : Type 0 where
  pub sound : (ts : List Token) (x : A) (rest : List Token) → at ts ≡ Ok (x, rest) → Front P x ts rest
  pub complete : (x : A) (us rest : List Token) → P x us → follows (symbol_at rest) ≡ true → at (us ++ rest) ≡ Ok (x, rest)

abbrev pub any : Symbol → Bool
any s = true

value_by : {A : Type 0} → A → Reading A → A
value_by d (Ok read) = read.0
value_by d (Err at) = d

pub same_value : {A : Type 0} (x y : A) (rest other : List Token) (r : Reading A) → r ≡ Ok (x, rest) → r ≡ Ok (y, other) → x ≡ y
unfolding value_by
same_value {A = A} x y rest other r left right = let value : Reading A → A = value_by x in sym (ap value left) ∙ ap value right

pub record Split {A B : Type 0} (r : Reading A) (k : A → List Token → Reading B) (y : B) (rest : List Token) : Type 0 where
  pub x : A
  pub mid : List Token
  pub before : r ≡ Ok (x, mid)
  pub behind : k x mid ≡ Ok (y, rest)

pub split : {A B : Type 0} (r : Reading A) (k : A → List Token → Reading B) (y : B) (rest : List Token) → and_then r k ≡ Ok (y, rest) → Split r k y rest
unfolding and_then
split (Ok read) k y rest is = record { x = read.0; mid = read.1; before = refl; behind = is }
split (Err at) k y rest is = cc is

pub exact_is : {A : Type 0} (x : A) (f : Symbol → Bool) → Exact (Is x) f (λ ts. Ok (x, ts))
exact_is {A = A} x f = record {
  sound = λ ts y rest is. subst (λ z. Front (Is x) z ts rest) (same_value x y ts rest _ refl is) (record { front = []; is = here; whole = same_rest x y ts rest _ refl is });
  complete = is_complete;
}
  where
    read : A → List Token → Reading A
    read y ts = Ok (y, ts)

    is_complete : (y : A) (us rest : List Token) → Is x y us → f (symbol_at rest) ≡ true → read x (us ++ rest) ≡ read y rest
    is_complete y us rest here follows = refl

pub exact_then : {A B : Type 0} (P : A → List Token → Type 0) (Q : A → B → List Token → Type 0) (f g : Symbol → Bool) (at : List Token → Reading A) (k : A → List Token → Reading B) → Exact P f at → ((x : A) → Exact (Q x) g (k x)) → ((x : A) (y : B) (vs rest : List Token) → Q x y vs → g (symbol_at rest) ≡ true → f (symbol_at (vs ++ rest)) ≡ true) → Exact (Then P Q) g (λ ts. and_then (at ts) k)
exact_then {A = A} {B = B} P Q f g at k early late fits = record { sound = sound; complete = complete }
  where
    sound : (ts : List Token) (y : B) (rest : List Token) → and_then (at ts) k ≡ Ok (y, rest) → Front (Then P Q) y ts rest
    sound ts y rest is =
        let s = split (at ts) k y rest is in
        let a = early.sound ts s.x s.mid s.before in
        let b = (late s.x).sound s.mid y rest s.behind in
        record { front = a.front ++ b.front; is = both s.x y a.front b.front a.is b.is; whole = a.whole ∙ ap (λ us. a.front ++ us) b.whole ∙ sym (append_assoc a.front b.front rest) }

    complete : (y : B) (ts rest : List Token) → Then P Q y ts → g (symbol_at rest) ≡ true → and_then (at (ts ++ rest)) k ≡ Ok (y, rest)
    complete y ts rest (both x z us vs p q) follows =
        ap (λ ws. and_then (at ws) k) (append_assoc us vs rest) ∙ then_ok (at (us ++ (vs ++ rest))) k x (vs ++ rest) (early.complete x us (vs ++ rest) p (fits x z vs rest q follows)) ∙ (late x).complete z vs rest q follows

-- a part that anything may follow
pub exact_next : {A B : Type 0} (P : A → List Token → Type 0) (Q : A → B → List Token → Type 0) (g : Symbol → Bool) (at : List Token → Reading A) (k : A → List Token → Reading B) → Exact P any at → ((x : A) → Exact (Q x) g (k x)) → Exact (Then P Q) g (λ ts. and_then (at ts) k)
exact_next P Q g at k early late = exact_then P Q any g at k early late (λ x y vs rest q follows. refl)

-- one token
pub exact_one : {A : Type 0} (value_of : Token → Option A) (at : List Token → Reading A) → ((t : Token) (ts : List Token) → at (t ∷ ts) ≡ one_at (value_of t) (t ∷ ts)) → ((x : A) (rest : List Token) → at [] ≡ Ok (x, rest) → ⊥) → Exact (Single value_of) any at
exact_one {A = A} value_of at at_token at_end = record { sound = sound; complete = complete }
  where
    by_value : (o : Option A) (t : Token) (ts : List Token) (x : A) (rest : List Token) → value_of t ≡ o → one_at o (t ∷ ts) ≡ Ok (x, rest) → Front (Single value_of) x (t ∷ ts) rest
    by_value None t ts x rest is read = cc read
    by_value (Some y) t ts x rest is read =
        subst (λ z. Front (Single value_of) z (t ∷ ts) rest) (same_value y x ts rest _ refl read) (record { front = t ∷ []; is = one t y is; whole = ap (λ us. t ∷ us) (same_rest y x ts rest _ refl read) })

    sound : (ts : List Token) (x : A) (rest : List Token) → at ts ≡ Ok (x, rest) → Front (Single value_of) x ts rest
    sound [] x rest is = absurd (at_end x rest is)
    sound (t ∷ ts) x rest is = by_value (value_of t) t ts x rest refl (sym (at_token t ts) ∙ is)

    complete : (x : A) (us rest : List Token) → Single value_of x us → true ≡ true → at (us ++ rest) ≡ Ok (x, rest)
    complete x us rest (one t y is) follows = at_token t rest ∙ ap (λ o. one_at o (t ∷ rest)) is

-- a list, each part of which is exact
pub record ExactNext {A : Type 0} (P : List A → A → List Token → Type 0) (f g : Symbol → Bool) (next : List A → List Token → Option (Reading A)) : Type 0 where
  pub sound : (done : List A) (ts : List Token) (x : A) (rest : List Token) → next done ts ≡ Some (Ok (x, rest)) → Front (P done) x ts rest
  pub complete : (done : List A) (x : A) (us rest : List Token) → P done x us → f (symbol_at rest) ≡ true → next done (us ++ rest) ≡ Some (Ok (x, rest))
  pub stops : (done : List A) (ts : List Token) → g (symbol_at ts) ≡ true → next done ts ≡ None
  pub ends : (ts : List Token) → g (symbol_at ts) ≡ true → f (symbol_at ts) ≡ true
  pub goes : (done : List A) (x : A) (us rest : List Token) → P done x us → f (symbol_at (us ++ rest)) ≡ true

-- a list behind what was read before
pub record Fronts {A : Type 0} (P : List A → A → List Token → Type 0) (done all : List A) (ts rest : List Token) : Type 0 where
  pub xs : List A
  pub front : List Token
  pub is : Repeated P done xs front
  pub same : all ≡ done ++ xs
  pub whole : ts ≡ front ++ rest

module _ {A : Type 0} (P : List A → A → List Token → Type 0) (f g : Symbol → Bool) (next : List A → List Token → Option (Reading A)) where
  pub repeated_sound : GoesOn next → ExactNext P f g next → (n : ℕ) (done all : List A) (ts rest : List Token) → repeated next n done ts ≡ Ok (all, rest) → (o : Option (Reading A)) → next done ts ≡ o → Fronts P done all ts rest
  repeated_sound goes exact n done all ts rest is None at =
      let read : repeated next n done ts ≡ Ok (done, ts) = repeated-stops next n done ts at in
      record { xs = []; front = []; is = none done; same = sym (same_value done all ts rest _ read is) ∙ sym (append-nil done); whole = same_rest done all ts rest _ read is }
  repeated_sound goes exact zero done all ts rest is (Some r) at =
      let read : repeated next zero done ts ≡ Ok (done, ts) = repeated-zero next done ts in
      record { xs = []; front = []; is = none done; same = sym (same_value done all ts rest _ read is) ∙ sym (append-nil done); whole = same_rest done all ts rest _ read is }
  repeated_sound goes exact (suc n) done all ts rest is (Some (Err place)) at =
      let no : Err place ≡ Ok (all, rest) = sym (repeated-fail next n done ts place at) ∙ is in cc no
  repeated_sound goes exact (suc n) done all ts rest is (Some (Ok read)) at =
      let a = exact.sound done ts read.0 read.1 at in
      let b = repeated_sound goes exact n (done ++ read.0 ∷ []) all read.1 rest (sym (repeated-one next n done ts read.0 read.1 at) ∙ is) (next (done ++ read.0 ∷ []) read.1) refl in
      record {
        xs = read.0 ∷ b.xs;
        front = a.front ++ b.front;
        is = more done read.0 b.xs a.front b.front a.is b.is;
        same = b.same ∙ append_assoc done (read.0 ∷ []) b.xs;
        whole = a.whole ∙ ap (λ us. a.front ++ us) b.whole ∙ sym (append_assoc a.front b.front rest);
      }

  -- what follows a part of the list: the next one, or what may follow the list
  follows_part : GoesOn next → ExactNext P f g next → (done xs : List A) (us rest : List Token) → Repeated P done xs us → g (symbol_at rest) ≡ true → f (symbol_at (us ++ rest)) ≡ true
  follows_part goes exact done xs us rest (none same) ends = exact.ends rest ends
  follows_part goes exact done xs us rest (more same x ys vs ws p ps) ends =
      subst (λ ts. f (symbol_at ts) ≡ true) (sym (append_assoc vs ws rest)) (exact.goes done x vs (ws ++ rest) p)

  pub repeated_complete : GoesOn next → ExactNext P f g next → (done xs : List A) (us rest : List Token) → Repeated P done xs us → g (symbol_at rest) ≡ true → repeated next (length (us ++ rest)) done (us ++ rest) ≡ Ok (done ++ xs, rest)
  repeated_complete goes exact done xs us rest (none same) ends =
      repeated-stops next (length rest) done rest (exact.stops done rest ends) ∙ ap (λ ys. Ok (ys, rest)) (sym (append-nil done))
  repeated_complete goes exact done xs us rest (more same x ys vs ws p ps) ends =
      let at = exact.complete done x vs (ws ++ rest) p (follows_part goes exact (done ++ x ∷ []) ys ws rest ps ends) in
      ap (λ ts. repeated next (length ts) done ts) (append_assoc vs ws rest) ∙ repeated-goes next goes done (vs ++ (ws ++ rest)) x (ws ++ rest) at ∙ repeated_complete goes exact (done ++ x ∷ []) ys ws rest ps ends ∙ ap (λ zs. Ok (zs, rest)) (append_assoc done (x ∷ []) ys)

-- the same reading in other words
pub exact_same : {A : Type 0} (P : A → List Token → Type 0) (f : Symbol → Bool) (at bt : List Token → Reading A) → ((ts : List Token) → bt ts ≡ at ts) → Exact P f at → Exact P f bt
exact_same P f at bt same exact = record { sound = λ ts x rest is. exact.sound ts x rest (sym (same ts) ∙ is); complete = λ x us rest p follows. same (us ++ rest) ∙ exact.complete x us rest p follows }

-- less may follow
pub exact_less : {A : Type 0} (P : A → List Token → Type 0) (f g : Symbol → Bool) (at : List Token → Reading A) → ((s : Symbol) → g s ≡ true → f s ≡ true) → Exact P f at → Exact P g at
exact_less P f g at less exact = record { sound = exact.sound; complete = λ x us rest p follows. exact.complete x us rest p (less (symbol_at rest) follows) }

-- one part or another, by the first token
pub exact_either : {A : Type 0} (P Q : A → List Token → Type 0) (f : Symbol → Bool) (test : Symbol → Bool) (at bt : List Token → Reading A) → Exact P f at → Exact Q f bt → ((x : A) (us rest : List Token) → P x us → test (symbol_at (us ++ rest)) ≡ true) → ((x : A) (us rest : List Token) → Q x us → f (symbol_at rest) ≡ true → test (symbol_at (us ++ rest)) ≡ false) → Exact (Either P Q) f (λ ts. cond (test (symbol_at ts)) (at ts) (bt ts))
exact_either {A = A} P Q f test at bt one_way other_way starts differs = record { sound = λ ts x rest is. sound (test (symbol_at ts)) ts x rest is; complete = complete }
  where
    sound : (b : Bool) (ts : List Token) (x : A) (rest : List Token) → cond b (at ts) (bt ts) ≡ Ok (x, rest) → Front (Either P Q) x ts rest
    sound true ts x rest is = let f = one_way.sound ts x rest is in record { front = f.front; is = first x f.front f.is; whole = f.whole }
    sound false ts x rest is = let f = other_way.sound ts x rest is in record { front = f.front; is = second x f.front f.is; whole = f.whole }

    complete : (x : A) (us rest : List Token) → Either P Q x us → f (symbol_at rest) ≡ true → cond (test (symbol_at (us ++ rest))) (at (us ++ rest)) (bt (us ++ rest)) ≡ Ok (x, rest)
    complete x us rest (first y vs p) follows = ap (λ b. cond b (at (vs ++ rest)) (bt (vs ++ rest))) (starts x vs rest p) ∙ one_way.complete x vs rest p follows
    complete x us rest (second y vs q) follows = ap (λ b. cond b (at (vs ++ rest)) (bt (vs ++ rest))) (differs x vs rest q follows) ∙ other_way.complete x vs rest q follows

-- a part whose value isn't refused
judged : {A : Type 0} → Bool → ℕ → A → List Token → Reading A
judged b n x rest = cond b (Err n) (Ok (x, rest))

pub exact_unless : {A : Type 0} (refused : A → Bool) (P : A → List Token → Type 0) (f : Symbol → Bool) (at : List Token → Reading A) (place : List Token → ℕ) → Exact P f at → Exact (Unless refused P) f (λ ts. and_then (at ts) (λ x rest. cond (refused x) (Err (place ts)) (Ok (x, rest))))
unfolding judged
exact_unless {A = A} refused P f at place exact = record { sound = sound; complete = complete }
  where
    by_test : (b : Bool) (n : ℕ) (x y : A) (ts mid rest : List Token) → refused x ≡ b → Front P x ts mid → judged b n x mid ≡ Ok (y, rest) → Front (Unless refused P) y ts rest
    by_test true n x y ts mid rest is p read = cc read
    by_test false n x y ts mid rest is p read = subst (λ z. Front (Unless refused P) z ts rest) (same_value x y mid rest _ refl read) (record { front = p.front; is = unless x p.front p.is is; whole = p.whole ∙ ap (λ us. p.front ++ us) (same_rest x y mid rest _ refl read) })

    sound : (ts : List Token) (y : A) (rest : List Token) → and_then (at ts) (λ x rest. cond (refused x) (Err (place ts)) (Ok (x, rest))) ≡ Ok (y, rest) → Front (Unless refused P) y ts rest
    sound ts y rest is =
        let s = split (at ts) (λ x rest. cond (refused x) (Err (place ts)) (Ok (x, rest))) y rest is in
        by_test (refused s.x) (place ts) s.x y ts s.mid rest refl (exact.sound ts s.x s.mid s.before) s.behind

    complete : (x : A) (us rest : List Token) → Unless refused P x us → f (symbol_at rest) ≡ true → and_then (at (us ++ rest)) (λ x more. cond (refused x) (Err (place (us ++ rest))) (Ok (x, more))) ≡ Ok (x, rest)
    complete x us rest (unless y vs p is) follows = then_ok (at (vs ++ rest)) _ x rest (exact.complete x vs rest p follows) ∙ ap (λ b. judged b (place (vs ++ rest)) x rest) is

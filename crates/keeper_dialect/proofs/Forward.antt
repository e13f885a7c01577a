-- Readings that go forward: what is read, and where a reading stops, rests on the tokens up to the next one alone.
use Rattle.std.proofs.Common.{◌≡◌, ◌≤◌, ◌<◌, ℕ, zero, suc, Bool, true, false, cond, List, [], ◌∷◌, ◌++◌, length, drop, Option, Some, None, Ok, Err, refl, sym, ap, ◌∙◌, subst, append_assoc, append-nil, arith}
use Rattle.keeper_dialect.specs.declared.tokens.Symbol.{Symbol}
use Rattle.keeper_dialect.specs.declared.tokens.Symbol.TheVariants as symbol
use Rattle.keeper_dialect.specs.Tokens.{Token}
use Rattle.keeper_dialect.specs.Reading.{Reading, and_then, repeated, symbol_at}
use Rattle.keeper_dialect.specs.Terms.{one_at}
use Rattle.keeper_dialect.specs.Query.{is_end}
use Rattle.keeper_dialect.specs.Grammar.{Is, here, Then, both, Either, first, second, Repeated, none, more, Single, one, standing}
use Rattle.keeper_dialect.proofs.Exact.{end_is}
use Rattle.keeper_dialect.proofs.ExactParts.{Led}
use Rattle.keeper_dialect.proofs.ReadingLemmas.{GoesOn, then_ok, then_err, repeated-goes, repeated-stops, repeated-fails}

-- tokens of which one is the end
pub data Ended : List Token → Type 0 where
  last : (t : Token) (ts : List Token) → is_end t.symbol ≡ true → Ended (t ∷ ts)
  next : (t : Token) (ts : List Token) → Ended ts → Ended (t ∷ ts)

-- a part that stands before a token, whatever follows that one
pub record Went {A : Type 0} (P : A → List Token → Type 0) (at : List Token → Reading A) (ts : List Token) : Type 0 where
  pub value : A
  pub front : List Token
  pub token : Token
  pub rest : List Token
  pub is : P value front
  pub ended : Ended (token ∷ rest)
  pub whole : ts ≡ front ++ token ∷ rest
  pub goes : (other : List Token) → at (front ++ token ∷ other) ≡ Ok (value, token ∷ other)

-- a token that is refused, whatever follows it, behind tokens that may begin
pub record Stopped {A : Type 0} (G : List Token → Type 0) (at : List Token → Reading A) (ts : List Token) : Type 0 where
  pub front : List Token
  pub token : Token
  pub rest : List Token
  pub begins : G front
  pub whole : ts ≡ front ++ token ∷ rest
  pub stops : (other : List Token) → at (front ++ token ∷ other) ≡ Err token.start

pub data Outcome {A : Type 0} (P : A → List Token → Type 0) (G : List Token → Type 0) (at : List Token → Reading A) (ts : List Token) : Type 0 where
  went : Went P at ts → Outcome P G at ts
  stopped : Stopped G at ts → Outcome P G at ts

pub record Forward {A : Type 0} (P : A → List Token → Type 0) (G : List Token → Type 0) (at : List Token → Reading A) : Type 0 where
  pub outcome : (ts : List Token) → Ended ts → Outcome P G at ts

-- tokens that a part begins with
pub data Begun {A : Type 0} (P : A → List Token → Type 0) (us : List Token) : Type 0 where
  begun : (x : A) (vs : List Token) → P x (us ++ vs) → Begun P us

-- some tokens are the part
pub record Able {A : Type 0} (P : A → List Token → Type 0) : Type 0 where
  pub value : A
  pub tokens : List Token
  pub is : P value tokens

pub record Going {A : Type 0} (P : A → List Token → Type 0) (at : List Token → Reading A) : Type 0 where
  pub forward : Forward P (Begun P) at
  pub able : Able P

-- the first of tokens that end
pub record Headed (ts : List Token) : Type 0 where
  pub token : Token
  pub rest : List Token
  pub ended : Ended (token ∷ rest)
  pub whole : ts ≡ token ∷ rest

pub head_of : (ts : List Token) → Ended ts → Headed ts
head_of ts (last t us end) = record { token = t; rest = us; ended = last t us end; whole = refl }
head_of ts (next t us e) = record { token = t; rest = us; ended = next t us e; whole = refl }

-- other tokens with the same first one
pub record SameHead (t : Token) (ws : List Token) : Type 0 where
  pub rest : List Token
  pub same : ws ≡ t ∷ rest

pub same_head : (t : Token) (left us : List Token) (u : Token) (rest : List Token) → t ∷ left ≡ us ++ u ∷ rest → (other : List Token) → SameHead t (us ++ u ∷ other)
same_head t left [] u rest is other = let head : t ≡ u = cc is in record { rest = other; same = ap (λ v. v ∷ other) (sym head) }
same_head t left (v ∷ vs) u rest is other = let head : t ≡ v = cc is in record { rest = vs ++ u ∷ other; same = ap (λ w. w ∷ (vs ++ u ∷ other)) (sym head) }

pub same_symbol : (us : List Token) (t : Token) (rest other : List Token) → symbol_at (us ++ t ∷ rest) ≡ symbol_at (us ++ t ∷ other)
same_symbol [] t rest other = refl
same_symbol (u ∷ us) t rest other = refl

-- the same reading under another name, where the first token says so
pub outcome_as : {A : Type 0} (P Q : A → List Token → Type 0) (G H : List Token → Type 0) (at bt : List Token → Reading A) (ts : List Token) → Outcome P G at ts → ((x : A) (us : List Token) → P x us → Q x us) → ((us : List Token) → G us → H us) → ((ws : List Token) → symbol_at ws ≡ symbol_at ts → bt ws ≡ at ws) → Outcome Q H bt ts
outcome_as P Q G H at bt ts (went w) made begins same = went (record { value = w.value; front = w.front; token = w.token; rest = w.rest; is = made w.value w.front w.is; ended = w.ended; whole = w.whole; goes = λ other. same (w.front ++ w.token ∷ other) (same_symbol w.front w.token other w.rest ∙ ap symbol_at (sym w.whole)) ∙ w.goes other })
outcome_as P Q G H at bt ts (stopped s) made begins same = stopped (record { front = s.front; token = s.token; rest = s.rest; begins = begins s.front s.begins; whole = s.whole; stops = λ other. same (s.front ++ s.token ∷ other) (same_symbol s.front s.token other s.rest ∙ ap symbol_at (sym s.whole)) ∙ s.stops other })

-- a reading behind a token
pub outcome_behind : {A : Type 0} (P Q : A → List Token → Type 0) (G H : List Token → Type 0) (at bt : List Token → Reading A) (t : Token) (ts : List Token) → Outcome P G at ts → ((x : A) (us : List Token) → P x us → Q x (t ∷ us)) → ((us : List Token) → G us → H (t ∷ us)) → ((ws : List Token) → bt (t ∷ ws) ≡ at ws) → Outcome Q H bt (t ∷ ts)
outcome_behind P Q G H at bt t ts (went w) made begins same = went (record { value = w.value; front = t ∷ w.front; token = w.token; rest = w.rest; is = made w.value w.front w.is; ended = w.ended; whole = ap (λ us. t ∷ us) w.whole; goes = λ other. same (w.front ++ w.token ∷ other) ∙ w.goes other })
outcome_behind P Q G H at bt t ts (stopped s) made begins same = stopped (record { front = t ∷ s.front; token = s.token; rest = s.rest; begins = begins s.front s.begins; whole = ap (λ us. t ∷ us) s.whole; stops = λ other. same (s.front ++ s.token ∷ other) ∙ s.stops other })

-- the first token is refused
pub stops_here : {A : Type 0} (P : A → List Token → Type 0) (G : List Token → Type 0) (at : List Token → Reading A) (ts : List Token) → Ended ts → G [] → ((t : Token) (other : List Token) → t.symbol ≡ symbol_at ts → at (t ∷ other) ≡ Err t.start) → Outcome P G at ts
stops_here P G at ts ended begins stops =
    let h = head_of ts ended in
    stopped (record { front = []; token = h.token; rest = h.rest; begins = begins; whole = h.whole; stops = λ other. stops h.token other (ap symbol_at (sym h.whole)) })

-- nothing is read
pub goes_here : {A : Type 0} (P : A → List Token → Type 0) (G : List Token → Type 0) (at : List Token → Reading A) (x : A) (ts : List Token) → Ended ts → P x [] → ((t : Token) (other : List Token) → t.symbol ≡ symbol_at ts → at (t ∷ other) ≡ Ok (x, t ∷ other)) → Outcome P G at ts
goes_here P G at x ts ended is goes =
    let h = head_of ts ended in
    went (record { value = x; front = []; token = h.token; rest = h.rest; is = is; ended = h.ended; whole = h.whole; goes = λ other. goes h.token other (ap symbol_at (sym h.whole)) })

pub going_as : {A : Type 0} (P Q : A → List Token → Type 0) (at bt : List Token → Reading A) → Going P at → ((x : A) (us : List Token) → P x us → Q x us) → ((ts : List Token) → bt ts ≡ at ts) → Going Q bt
going_as P Q at bt going made same = record {
  forward = record { outcome = λ ts ended. outcome_as P Q (Begun P) (Begun Q) at bt ts (going.forward.outcome ts ended) made begins (λ ws is. same ws) };
  able = record { value = going.able.value; tokens = going.able.tokens; is = made going.able.value going.able.tokens going.able.is };
}
  where
    begins : (us : List Token) → Begun P us → Begun Q us
    begins us (begun x vs p) = begun x vs (made x (us ++ vs) p)

pub going_is : {A : Type 0} (x : A) → Going (Is x) (λ ts. Ok (x, ts))
going_is x = record {
  forward = record { outcome = λ ts ended. goes_here (Is x) (Begun (Is x)) _ x ts ended here (λ t other is. refl) };
  able = record { value = x; tokens = []; is = here };
}

-- one token
pub going_one : {A : Type 0} (value_of : Token → Option A) (at : List Token → Reading A) → ((t : Token) (ts : List Token) → at (t ∷ ts) ≡ one_at (value_of t) (t ∷ ts)) → ((t : Token) → is_end t.symbol ≡ true → value_of t ≡ None) → (t : Token) (x : A) → value_of t ≡ Some x → Going (Single value_of) at
going_one {A = A} value_of at at_token at_end able x able_is = record { forward = record { outcome = outcome }; able = record { value = x; tokens = able ∷ []; is = one able x able_is } }
  where
    refused : (t : Token) (ts : List Token) → value_of t ≡ None → Outcome (Single value_of) (Begun (Single value_of)) at (t ∷ ts)
    refused t ts is = stopped (record { front = []; token = t; rest = ts; begins = begun x (able ∷ []) (one able x able_is); whole = refl; stops = λ other. at_token t other ∙ ap (λ o. one_at o (t ∷ other)) is })

    by_value : (o : Option A) (t : Token) (ts : List Token) → value_of t ≡ o → Ended ts → Outcome (Single value_of) (Begun (Single value_of)) at (t ∷ ts)
    by_value None t ts is ended = refused t ts is
    by_value (Some y) t ts is ended =
        let h = head_of ts ended in
        went (record { value = y; front = t ∷ []; token = h.token; rest = h.rest; is = one t y is; ended = h.ended; whole = ap (λ us. t ∷ us) h.whole; goes = λ other. at_token t (h.token ∷ other) ∙ ap (λ o. one_at o (t ∷ h.token ∷ other)) is })

    outcome : (ts : List Token) → Ended ts → Outcome (Single value_of) (Begun (Single value_of)) at ts
    outcome ts (last t us end) = refused t us (at_end t end)
    outcome ts (next t us ended) = by_value (value_of t) t us refl ended

-- one part after another
pub forward_then : {A B : Type 0} (P : A → List Token → Type 0) (Q : A → B → List Token → Type 0) (G W : List Token → Type 0) (H : A → List Token → Type 0) (at : List Token → Reading A) (k : A → List Token → Reading B) → Forward P G at → ((x : A) → Forward (Q x) (H x) (k x)) → ((us : List Token) → G us → W us) → ((x : A) (us vs : List Token) → P x us → H x vs → W (us ++ vs)) → Forward (Then P Q) W (λ ts. and_then (at ts) k)
forward_then {A = A} {B = B} P Q G W H at k early late early_begins late_begins = record { outcome = λ ts ended. by_early ts (early.outcome ts ended) }
  where
    passed : (ts : List Token) (w : Went P at ts) (us : List Token) (u : Token) (rest : List Token) → w.token ∷ w.rest ≡ us ++ u ∷ rest → (other : List Token) → and_then (at ((w.front ++ us) ++ u ∷ other)) k ≡ k w.value (us ++ u ∷ other)
    passed ts w us u rest is other =
        let s = same_head w.token w.rest us u rest is other in
        ap (λ ws. and_then (at ws) k) (append_assoc w.front us (u ∷ other)) ∙ then_ok (at (w.front ++ (us ++ u ∷ other))) k w.value (us ++ u ∷ other) (subst (λ ws. at (w.front ++ ws) ≡ Ok (w.value, ws)) (sym s.same) (w.goes s.rest))

    by_late : (ts : List Token) (w : Went P at ts) → Outcome (Q w.value) (H w.value) (k w.value) (w.token ∷ w.rest) → Outcome (Then P Q) W (λ ts. and_then (at ts) k) ts
    by_late ts w (went v) = went (record { value = v.value; front = w.front ++ v.front; token = v.token; rest = v.rest; is = both w.value v.value w.front v.front w.is v.is; ended = v.ended; whole = w.whole ∙ ap (λ us. w.front ++ us) v.whole ∙ sym (append_assoc w.front v.front (v.token ∷ v.rest)); goes = λ other. passed ts w v.front v.token v.rest v.whole other ∙ v.goes other })
    by_late ts w (stopped s) = stopped (record { front = w.front ++ s.front; token = s.token; rest = s.rest; begins = late_begins w.value w.front s.front w.is s.begins; whole = w.whole ∙ ap (λ us. w.front ++ us) s.whole ∙ sym (append_assoc w.front s.front (s.token ∷ s.rest)); stops = λ other. passed ts w s.front s.token s.rest s.whole other ∙ s.stops other })

    by_early : (ts : List Token) → Outcome P G at ts → Outcome (Then P Q) W (λ ts. and_then (at ts) k) ts
    by_early ts (went w) = by_late ts w ((late w.value).outcome (w.token ∷ w.rest) w.ended)
    by_early ts (stopped s) = stopped (record { front = s.front; token = s.token; rest = s.rest; begins = early_begins s.front s.begins; whole = s.whole; stops = λ other. then_err (at (s.front ++ s.token ∷ other)) k s.token.start (s.stops other) })

module _ {A B : Type 0} (P : A → List Token → Type 0) (Q : A → B → List Token → Type 0) where
  pub begun_early : ((x : A) → Able (Q x)) → (us : List Token) → Begun P us → Begun (Then P Q) us
  begun_early able us (begun x vs p) = let b = able x in begun b.value (vs ++ b.tokens) (subst (Then P Q b.value) (append_assoc us vs b.tokens) (both x b.value (us ++ vs) b.tokens p b.is))

  pub begun_late : (x : A) (us vs : List Token) → P x us → Begun (Q x) vs → Begun (Then P Q) (us ++ vs)
  begun_late x us vs p (begun y ws q) = begun y ws (subst (Then P Q y) (sym (append_assoc us vs ws)) (both x y us (vs ++ ws) p q))

pub going_then : {A B : Type 0} (P : A → List Token → Type 0) (Q : A → B → List Token → Type 0) (at : List Token → Reading A) (k : A → List Token → Reading B) → Going P at → ((x : A) → Going (Q x) (k x)) → Going (Then P Q) (λ ts. and_then (at ts) k)
going_then P Q at k early late = record {
  forward = forward_then P Q (Begun P) (Begun (Then P Q)) (λ x. Begun (Q x)) at k early.forward (λ x. (late x).forward) (begun_early P Q (λ x. (late x).able)) (begun_late P Q);
  able = let b = (late early.able.value).able in record { value = b.value; tokens = early.able.tokens ++ b.tokens; is = both early.able.value b.value early.able.tokens b.tokens early.able.is b.is };
}

-- one part or another, by the first token
pub going_either : {A : Type 0} (P Q : A → List Token → Type 0) (test : Symbol → Bool) (at bt : List Token → Reading A) → Going P at → Going Q bt → Going (Either P Q) (λ ts. cond (test (symbol_at ts)) (at ts) (bt ts))
going_either {A = A} P Q test at bt one_way other_way = record { forward = record { outcome = λ ts ended. by_test (test (symbol_at ts)) ts refl ended }; able = record { value = one_way.able.value; tokens = one_way.able.tokens; is = first one_way.able.value one_way.able.tokens one_way.able.is } }
  where
    first_begun : (us : List Token) → Begun P us → Begun (Either P Q) us
    first_begun us (begun x vs p) = begun x vs (first x (us ++ vs) p)

    second_begun : (us : List Token) → Begun Q us → Begun (Either P Q) us
    second_begun us (begun x vs q) = begun x vs (second x (us ++ vs) q)

    by_test : (b : Bool) (ts : List Token) → test (symbol_at ts) ≡ b → Ended ts → Outcome (Either P Q) (Begun (Either P Q)) (λ ts. cond (test (symbol_at ts)) (at ts) (bt ts)) ts
    by_test true ts is ended = outcome_as P (Either P Q) (Begun P) (Begun (Either P Q)) at _ ts (one_way.forward.outcome ts ended) (λ x us p. first x us p) first_begun (λ ws same. ap (λ b. cond b (at ws) (bt ws)) (ap test same ∙ is))
    by_test false ts is ended = outcome_as Q (Either P Q) (Begun Q) (Begun (Either P Q)) bt _ ts (other_way.forward.outcome ts ended) (λ x us q. second x us q) second_begun (λ ws same. ap (λ b. cond b (at ws) (bt ws)) (ap test same ∙ is))

-- a part led by a tested token, or another part
pub going_perhaps : {A : Type 0} (test : Symbol → Bool) (Q R : A → List Token → Type 0) (at bt : List Token → Reading A) → test symbol.End ≡ false → Going Q at → Going R bt → Going (Either (Led test Q) R) (λ ts. cond (test (symbol_at ts)) (at (drop 1 ts)) (bt ts))
going_perhaps {A = A} test Q R at bt no_end one_way other_way = record { forward = record { outcome = λ ts ended. by_test (test (symbol_at ts)) ts refl ended }; able = record { value = other_way.able.value; tokens = other_way.able.tokens; is = second other_way.able.value other_way.able.tokens other_way.able.is } }
  where
    made : (t : Token) → test t.symbol ≡ true → (x : A) (us : List Token) → Q x us → Either (Led test Q) R x (t ∷ us)
    made t is x us q = first x (t ∷ us) (both tt x (t ∷ []) us (one t tt (ap standing is)) q)

    first_begun : (t : Token) → test t.symbol ≡ true → (us : List Token) → Begun Q us → Begun (Either (Led test Q) R) (t ∷ us)
    first_begun t is us (begun x vs q) = begun x vs (made t is x (us ++ vs) q)

    second_begun : (us : List Token) → Begun R us → Begun (Either (Led test Q) R) us
    second_begun us (begun x vs r) = begun x vs (second x (us ++ vs) r)

    by_test : (b : Bool) (ts : List Token) → test (symbol_at ts) ≡ b → Ended ts → Outcome (Either (Led test Q) R) (Begun (Either (Led test Q) R)) (λ ts. cond (test (symbol_at ts)) (at (drop 1 ts)) (bt ts)) ts
    by_test true ts is (last t us end) = let wrong : false ≡ true = sym no_end ∙ ap test (sym (end_is t.symbol end)) ∙ is in cc wrong
    by_test true ts is (next t us ended) = outcome_behind Q (Either (Led test Q) R) (Begun Q) (Begun (Either (Led test Q) R)) at _ t us (one_way.forward.outcome us ended) (made t is) (first_begun t is) (λ ws. ap (λ b. cond b (at ws) (bt (t ∷ ws))) is)
    by_test false ts is ended = outcome_as R (Either (Led test Q) R) (Begun R) (Begun (Either (Led test Q) R)) bt _ ts (other_way.forward.outcome ts ended) (λ x us r. second x us r) second_begun (λ ws same. ap (λ b. cond b (at (drop 1 ws)) (bt ws)) (ap test same ∙ is))

-- What a list that goes on has next: nothing, or a part that is read.
pub data NextOutcome {A : Type 0} (Q : A → List Token → Type 0) (G : List Token → Type 0) (next : List Token → Option (Reading A)) (ts : List Token) : Type 0 where
  ends : ((t : Token) (other : List Token) → t.symbol ≡ symbol_at ts → next (t ∷ other) ≡ None) → NextOutcome Q G next ts
  part : (at : List Token → Reading A) → ((ws : List Token) → symbol_at ws ≡ symbol_at ts → next ws ≡ Some (at ws)) → Outcome Q G at ts → NextOutcome Q G next ts

-- a list behind what was read before
pub record Longer {A : Type 0} (Q : List A → A → List Token → Type 0) (done all : List A) (us : List Token) : Type 0 where
  pub xs : List A
  pub is : Repeated Q done xs us
  pub same : all ≡ done ++ xs

module _ {A : Type 0} (Q : List A → A → List Token → Type 0) (next : List A → List Token → Option (Reading A)) (G W : List A → List Token → Type 0) where
  pub forward_repeated : GoesOn next → ((done : List A) (ts : List Token) → Ended ts → NextOutcome (Q done) (G done) (next done) ts) → ((done : List A) (us : List Token) → G done us → W done us) → ((done : List A) (x : A) (us vs : List Token) → Q done x us → W (done ++ x ∷ []) vs → W done (us ++ vs)) → (n : ℕ) (done : List A) (ts : List Token) → length ts ≤ n → Ended ts → Outcome (Longer Q done) (W done) (λ ts. repeated next (length ts) done ts) ts
  forward_repeated goes each early late n done ts few ended = by_next n done ts few ended (each done ts ended)
    where
      nothing : (done : List A) → Longer Q done done []
      nothing done = record { xs = []; is = none done; same = sym (append-nil done) }

      found : (done : List A) (ts : List Token) (at : List Token → Reading A) (w : Went (Q done) at ts) → ((ws : List Token) → symbol_at ws ≡ symbol_at ts → next done ws ≡ Some (at ws)) → (other : List Token) → next done (w.front ++ w.token ∷ other) ≡ Some (Ok (w.value, w.token ∷ other))
      found done ts at w same other = same (w.front ++ w.token ∷ other) (same_symbol w.front w.token other w.rest ∙ ap symbol_at (sym w.whole)) ∙ ap (λ r. Some r) (w.goes other)

      shorter : (done : List A) (ts : List Token) (at : List Token → Reading A) (w : Went (Q done) at ts) → ((ws : List Token) → symbol_at ws ≡ symbol_at ts → next done ws ≡ Some (at ws)) → length (w.token ∷ w.rest) < length ts
      shorter done ts at w same = goes.shortens done ts w.value (w.token ∷ w.rest) (ap (next done) w.whole ∙ found done ts at w same w.rest)

      passed : (done : List A) (ts : List Token) (at : List Token → Reading A) (w : Went (Q done) at ts) → ((ws : List Token) → symbol_at ws ≡ symbol_at ts → next done ws ≡ Some (at ws)) → (us : List Token) (u : Token) (rest : List Token) → w.token ∷ w.rest ≡ us ++ u ∷ rest → (other : List Token) → repeated next (length ((w.front ++ us) ++ u ∷ other)) done ((w.front ++ us) ++ u ∷ other) ≡ repeated next (length (us ++ u ∷ other)) (done ++ w.value ∷ []) (us ++ u ∷ other)
      passed done ts at w same us u rest is other =
          let s = same_head w.token w.rest us u rest is other in
          ap (λ ws. repeated next (length ws) done ws) (append_assoc w.front us (u ∷ other)) ∙ repeated-goes next goes done (w.front ++ (us ++ u ∷ other)) w.value (us ++ u ∷ other) (subst (λ ws. next done (w.front ++ ws) ≡ Some (Ok (w.value, ws))) (sym s.same) (found done ts at w same s.rest))

      behind : (done : List A) (ts : List Token) (at : List Token → Reading A) (w : Went (Q done) at ts) → ((ws : List Token) → symbol_at ws ≡ symbol_at ts → next done ws ≡ Some (at ws)) → Outcome (Longer Q (done ++ w.value ∷ [])) (W (done ++ w.value ∷ [])) (λ ts. repeated next (length ts) (done ++ w.value ∷ []) ts) (w.token ∷ w.rest) → Outcome (Longer Q done) (W done) (λ ts. repeated next (length ts) done ts) ts
      behind done ts at w same (went v) = went (record {
        value = v.value;
        front = w.front ++ v.front;
        token = v.token;
        rest = v.rest;
        is = record { xs = w.value ∷ v.is.xs; is = more done w.value v.is.xs w.front v.front w.is v.is.is; same = v.is.same ∙ append_assoc done (w.value ∷ []) v.is.xs };
        ended = v.ended;
        whole = w.whole ∙ ap (λ us. w.front ++ us) v.whole ∙ sym (append_assoc w.front v.front (v.token ∷ v.rest));
        goes = λ other. passed done ts at w same v.front v.token v.rest v.whole other ∙ v.goes other;
      })
      behind done ts at w same (stopped s) = stopped (record { front = w.front ++ s.front; token = s.token; rest = s.rest; begins = late done w.value w.front s.front w.is s.begins; whole = w.whole ∙ ap (λ us. w.front ++ us) s.whole ∙ sym (append_assoc w.front s.front (s.token ∷ s.rest)); stops = λ other. passed done ts at w same s.front s.token s.rest s.whole other ∙ s.stops other })

      by_next : (n : ℕ) (done : List A) (ts : List Token) → length ts ≤ n → Ended ts → NextOutcome (Q done) (G done) (next done) ts → Outcome (Longer Q done) (W done) (λ ts. repeated next (length ts) done ts) ts
      by_next n done ts few ended (ends is) = goes_here (Longer Q done) (W done) _ done ts ended (nothing done) (λ t other same. repeated-stops next (length (t ∷ other)) done (t ∷ other) (is t other same))
      by_next n done ts few ended (part at same (stopped s)) = stopped (record { front = s.front; token = s.token; rest = s.rest; begins = early done s.front s.begins; whole = s.whole; stops = λ other. repeated-fails next goes done (s.front ++ s.token ∷ other) s.token.start (same (s.front ++ s.token ∷ other) (same_symbol s.front s.token other s.rest ∙ ap symbol_at (sym s.whole)) ∙ ap (λ r. Some r) (s.stops other)) })
      by_next zero done ts few ended (part at same (went w)) = let less = shorter done ts at w same in absurd (omega arith)
      by_next (suc n) done ts few ended (part at same (went w)) =
          let less = shorter done ts at w same in
          behind done ts at w same (by_next n (done ++ w.value ∷ []) (w.token ∷ w.rest) (omega arith) w.ended (each (done ++ w.value ∷ []) (w.token ∷ w.rest) w.ended))

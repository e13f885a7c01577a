-- Lists behind commas, as the loop reads them.
use Rattle.std.proofs.Common.{◌≡◌, ◌<◌, ℕ, Bool, true, false, List, [], ◌∷◌, ◌++◌, length, drop, Some, Ok, Err, refl, sym, ap, ◌∙◌, subst, arith}
use Rattle.std.proofs.lemmas.List.{length-drop}
use Rattle.keeper_dialect.specs.declared.query.DialectFail.{DialectFail}
use Rattle.keeper_dialect.specs.Tokens.{Token}
use Rattle.keeper_dialect.specs.Reading.{Reading, repeated, behind_comma, separated, separated_behind, symbol_at, is_sign, Shrinks, StopsAs}
use Rattle.keeper_dialect.proofs.ReadingLemmas.{then_ok, then_err, stops_then, repeated-goes, repeated-stops, repeated-fails, comma_goes, comma_ends}
use Rattle.keeper_dialect.proofs.Shorter.{commas_go_on}

module _ {A : Type 0} (read : List A → List Token → Reading A) where
  -- before the first part
  pub list_begins : (done : List A) (ts : List Token) → done ≡ [] → separated_behind read done ts ≡ separated read ts
  unfolding separated
  list_begins done ts none = ap (λ xs. separated_behind read xs ts) none

  pub next_stops : (done : List A) (ts : List Token) (e : DialectFail) (whole : Reading (List A)) → separated_behind read done ts ≡ whole → StopsAs (read done ts) e → StopsAs whole e
  next_stops done ts e whole same stops = subst (λ r. StopsAs r e) same (stops_then (read done ts) _ e stops)

  -- behind a part
  read_one : (done : List A) (ts : List Token) (x : A) (rest : List Token) → read done ts ≡ Ok (x, rest) → separated_behind read done ts ≡ repeated (behind_comma read) (length rest) (done ++ x ∷ []) rest
  read_one done ts x rest is = then_ok (read done ts) _ x rest is

  comma_step : {taken : List A → List ℕ → Bool} → Shrinks read taken → (done : List A) (ts : List Token) (r : Reading A) → is_sign 44 (symbol_at ts) ≡ true → read done (drop 1 ts) ≡ r → repeated (behind_comma read) (length ts) done ts ≡ separated_behind read done (drop 1 ts)
  comma_step shrinks done ts (Ok part) comma is =
      repeated-goes (behind_comma read) (commas_go_on read (λ done ts. record { few = shrinks.less done ts })) done ts part.0 part.1 (comma_goes read done ts comma ∙ ap (λ r. Some r) is) ∙ sym (read_one done (drop 1 ts) part.0 part.1 is)
  comma_step shrinks done ts (Err at) comma is =
      repeated-fails (behind_comma read) (commas_go_on read (λ done ts. record { few = shrinks.less done ts })) done ts at (comma_goes read done ts comma ∙ ap (λ r. Some r) is) ∙ sym (then_err (read done (drop 1 ts)) _ at is)

  pub list_goes : {taken : List A → List ℕ → Bool} → Shrinks read taken → (done pushed : List A) (ts : List Token) (x : A) (rest us : List Token) (whole : Reading (List A)) → separated_behind read done ts ≡ whole → read done ts ≡ Ok (x, rest) → true ≡ is_sign 44 (symbol_at rest) → us ≡ drop 1 rest → pushed ≡ done ++ x ∷ [] → separated_behind read pushed us ≡ whole
  list_goes shrinks done pushed ts x rest us whole same is comma left more =
      (λ i. separated_behind read (more i) (left i)) ∙ sym (comma_step shrinks (done ++ x ∷ []) rest _ (sym comma) refl) ∙ sym (read_one done ts x rest is) ∙ same

  some_left : (ts : List Token) → true ≡ is_sign 44 (symbol_at ts) → length (drop 1 ts) < length ts
  some_left [] comma = cc comma
  some_left (t ∷ ts) comma = omega (arith, length-drop 1 (t ∷ ts))

  pub list_shorter : {taken : List A → List ℕ → Bool} → Shrinks read taken → (done : List A) (ts : List Token) (x : A) (rest us : List Token) → read done ts ≡ Ok (x, rest) → true ≡ is_sign 44 (symbol_at rest) → us ≡ drop 1 rest → length us < length ts
  list_shorter shrinks done ts x rest us is comma left = omega (arith, shrinks.less done ts x rest is, some_left rest comma, ap length left)

  pub list_ends : (done pushed : List A) (ts : List Token) (x : A) (rest left : List Token) (whole : Reading (List A)) → separated_behind read done ts ≡ whole → read done ts ≡ Ok (x, rest) → false ≡ is_sign 44 (symbol_at rest) → left ≡ rest → pushed ≡ done ++ x ∷ [] → whole ≡ Ok (pushed, left)
  list_ends done pushed ts x rest left whole same is comma stays more =
      sym same ∙ read_one done ts x rest is ∙ repeated-stops (behind_comma read) (length rest) (done ++ x ∷ []) rest (comma_ends read (done ++ x ∷ []) rest (sym comma)) ∙ (λ i. Ok (sym more i, sym stays i))

-- The words of a request's text are those of no other request.
use Rattle.std.proofs.Common.{◌≡◌, ◌≢◌, ℕ, List, [], ◌∷◌, ◌++◌, All, Option, None, Some, refl, sym, ap, ◌∙◌, subst}
use Rattle.std.specs.Borrow.{Bor}
use Rattle.std.specs.Prelude.{IsUtf8, option_map}
use Rattle.std.proofs.lemmas.List.Elements.{All-head, All-tail}
use Rattle.http_wire.specs.declared.asks.HttpAsk.{HttpAsk}
use Rattle.hrana_serve.specs.Script.{AreWords, IsAskText, IsWord, behind, body_of, bearer_of, method_of}

abbrev Spaceless : List ℕ → Type 0
Spaceless word = All (λ byte. byte ≢ 32) word

abbrev IsOther : ℕ → Type 0
IsOther byte = byte ≢ 32

behind_one : (a b : Option (List ℕ)) → behind a ≡ behind b → a ≡ b
behind_one None None e = refl
behind_one None (Some r) e = absurd (cc)
behind_one (Some r) None e = absurd (cc)
behind_one (Some r) (Some q) e = (let same : r ≡ q = cc in ap Some same)

no_word : (a : Option (List ℕ)) (y : ℕ) (ys : List ℕ) → y ≢ 32 → behind a ≡ y ∷ ys → ⊥
no_word None y ys other e = cc
no_word (Some r) y ys other e = (let same : y ≡ 32 = cc in other same)

-- a text has one first word
pub first_one : (xs ys : List ℕ) (a b : Option (List ℕ)) → Spaceless xs → Spaceless ys → xs ++ behind a ≡ ys ++ behind b → (xs ≡ ys) × (a ≡ b)
first_one [] [] a b p q e = (refl, behind_one a b e)
first_one [] (y ∷ ys) a b p q e = absurd (no_word a y (ys ++ behind b) (All-head IsOther y ys q) e)
first_one (x ∷ xs) [] a b p q e = absurd (no_word b x (xs ++ behind a) (All-head IsOther x xs p) (sym e))
first_one (x ∷ xs) (y ∷ ys) a b p q e =
    let heads : x ≡ y = cc in
    let tails : xs ++ behind a ≡ ys ++ behind b = cc in
    let r = first_one xs ys a b (All-tail IsOther x xs p) (All-tail IsOther y ys q) tails in
    (ap (λ z. z ∷ xs) heads ∙ ap (λ zs. y ∷ zs) r.0, r.1)

pub record SameWords (m n p q t u : List ℕ) (a b : Option (List ℕ)) : Type 0 where
  pub methods : m ≡ n
  pub paths : p ≡ q
  pub tokens : t ≡ u
  pub rests : a ≡ b

one_rest : (a b : List ℕ) → ◌≡◌ {A = Option (List ℕ)} (Some a) (Some b) → a ≡ b
one_rest a b e = cc

pub words_one : (text m n p q t u : List ℕ) (a b : Option (List ℕ)) → AreWords text m p t a → AreWords text n q u b → SameWords m n p q t u a b
words_one text m n p q t u a b h k =
    let first = first_one m n (Some (p ++ 32 ∷ (t ++ behind a))) (Some (q ++ 32 ∷ (u ++ behind b))) h.method_is.whole k.method_is.whole (sym h.written ∙ k.written) in
    let second = first_one p q (Some (t ++ behind a)) (Some (u ++ behind b)) h.path_is.whole k.path_is.whole (one_rest _ _ first.1) in
    let third = first_one t u a b h.token_is.whole k.token_is.whole (one_rest _ _ second.1) in
    record { methods = first.0; paths = second.0; tokens = third.0; rests = third.1 }

-- a text is that of one request
pub ask_one : (text : List ℕ) (a b : HttpAsk) → IsAskText text a → IsAskText text b → a ≡ b
ask_one text a b h k =
    let same = words_one text h.method_word k.method_word a.path b.path h.token_word k.token_word h.rest k.rest h.words k.words in
    let methods : a.method ≡ b.method = h.method ∙ ap method_of same.methods ∙ sym k.method in
    let bearers : a.bearer ≡ b.bearer = h.bearer ∙ ap bearer_of same.tokens ∙ sym k.bearer in
    let bodies : a.body ≡ b.body = h.body ∙ ap body_of same.rests ∙ sym k.body in
    let closes : a.close ≡ b.close = h.stays ∙ sym k.stays in
    ap (λ x. record { method = x; path = a.path; bearer = a.bearer; body = a.body; close = a.close }) methods
    ∙ ap (λ x. record { method = b.method; path = x; bearer = a.bearer; body = a.body; close = a.close }) same.paths
    ∙ ap (λ x. record { method = b.method; path = b.path; bearer = x; body = a.body; close = a.close }) bearers
    ∙ ap (λ x. record { method = b.method; path = b.path; bearer = b.bearer; body = x; close = a.close }) bodies
    ∙ ap (λ x. record { method = b.method; path = b.path; bearer = b.bearer; body = b.body; close = x }) closes

-- ---- a text whose first word is known

-- the rest of a text that has the words
pub no_rest : (text w : List ℕ) → Spaceless w → text ≡ w ++ behind None → (m p t : List ℕ) (a : Option (List ℕ)) → AreWords text m p t a → ⊥
no_rest text w whole is m p t a h = (let first = first_one w m None (Some (p ++ 32 ∷ (t ++ behind a))) whole h.method_is.whole (sym is ∙ h.written) in cc (first.1))

pub record FirstIs (w after m p t : List ℕ) (a : Option (List ℕ)) : Type 0 where
  pub word : w ≡ m
  pub after_is : after ≡ p ++ 32 ∷ (t ++ behind a)

pub first_is : (text w after : List ℕ) → Spaceless w → text ≡ w ++ behind (Some after) → (m p t : List ℕ) (a : Option (List ℕ)) → AreWords text m p t a → FirstIs w after m p t a
first_is text w after whole is m p t a h = (let first = first_one w m (Some after) (Some (p ++ 32 ∷ (t ++ behind a))) whole h.method_is.whole (sym is ∙ h.written) in record { word = first.0; after_is = one_rest _ _ first.1 })

pub no_last : (after w : List ℕ) → Spaceless w → after ≡ w ++ behind None → (p t : List ℕ) (a : Option (List ℕ)) → IsWord p → after ≡ p ++ 32 ∷ (t ++ behind a) → ⊥
no_last after w whole is p t a path e = (let second = first_one w p None (Some (t ++ behind a)) whole path.whole (sym is ∙ e) in cc (second.1))

pub record SecondIs (w last p t : List ℕ) (a : Option (List ℕ)) : Type 0 where
  pub word : w ≡ p
  pub last_is : last ≡ t ++ behind a

pub second_is : (after w last : List ℕ) → Spaceless w → after ≡ w ++ behind (Some last) → (p t : List ℕ) (a : Option (List ℕ)) → IsWord p → after ≡ p ++ 32 ∷ (t ++ behind a) → SecondIs w last p t a
second_is after w last whole is p t a path e = (let second = first_one w p (Some last) (Some (t ++ behind a)) whole path.whole (sym is ∙ e) in record { word = second.0; last_is = one_rest _ _ second.1 })

pub third_is : (last w : List ℕ) (b : Option (List ℕ)) → Spaceless w → last ≡ w ++ behind b → (t : List ℕ) (a : Option (List ℕ)) → IsWord t → last ≡ t ++ behind a → w ≡ t
third_is last w b whole is t a token e = (first_one w t b a whole token.whole (sym is ∙ e)).0

-- a word that is none is none of the text
pub not_a_word : (w m : List ℕ) → ((w ≢ []) → IsUtf8 w → ⊥) → w ≡ m → IsWord m → ⊥
not_a_word w m none same is = none (λ e. is.filled (sym same ∙ e)) (subst IsUtf8 (sym same) is.text)

pub are_words : (text m after p last t : List ℕ) (rest : Option (List ℕ)) → text ≡ m ++ behind (Some after) → after ≡ p ++ behind (Some last) → last ≡ t ++ behind rest → IsWord m → IsWord p → IsWord t → AreWords text m p t rest
are_words text m after p last t rest a b c x y z = record { written = a ∙ ap (λ l. m ++ 32 ∷ l) (b ∙ ap (λ l. p ++ 32 ∷ l) c); method_is = x; path_is = y; token_is = z }

-- what stands behind the word is known
pub after_word : (text w : List ℕ) (o p : Option (Bor (List ℕ))) → text ≡ w ++ behind (option_map (λ r. r.now) o) → o ≡ p → text ≡ w ++ behind (option_map (λ r. r.now) p)
after_word text w o p e is = e ∙ ap (λ x. w ++ behind (option_map (λ r. r.now) x)) is

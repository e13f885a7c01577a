-- What bytes give is one thing, and stays however they go on.
use Rattle.std.proofs.Common.{◌≡◌, ℕ, List, [], ◌∷◌, ◌++◌, length, Result, Ok, Err, refl, sym, ap, ◌∙◌, inl, inr, arith, append_assoc}
use Rattle.std.proofs.lemmas.List.{append-nil}
use Rattle.httparse.specs.Grammar.{RequestHead}
use Rattle.httparse.proofs.GrammarLemmas.{request_unique, ReadsRequest-append}
use Rattle.http_wire.specs.declared.asks.HttpAsk.{HttpAsk}
use Rattle.http_wire.specs.declared.asks.Chosen.{Chosen}
use Rattle.http_wire.specs.declared.asks.Key.{Key}
use Rattle.http_wire.specs.declared.asks.Fed.{Fed}
use Rattle.http_wire.specs.declared.asks.Fed.TheVariants.{More, Ask, Upgrade}
use Rattle.http_wire.specs.declared.asks.WireFail.{WireFail}
use Rattle.http_wire.specs.declared.verdict.Verdict.TheVariants.{Refuse, Switch, Serve}
use Rattle.http_wire.specs.Request.{request_of, verdict_of, ask_of}
use Rattle.http_wire.specs.Wire.{HasHead, NeverHasHead, IsAsk, IsUpgrade, IsRefused, Gives}

pub HasHead-append : (bytes : List ℕ) (h : RequestHead) (rest more : List ℕ) → HasHead bytes h rest → HasHead (bytes ++ more) h (rest ++ more)
HasHead-append bytes h rest more x =
    record { reads = ReadsRequest-append bytes h rest more x.reads; few_fields = x.few_fields; short = x.short }

pub HasHead_unique : (bytes : List ℕ) (h k : RequestHead) (r q : List ℕ) → HasHead bytes h r → HasHead bytes k q → (h ≡ k) × (r ≡ q)
HasHead_unique bytes h k r q x y = request_unique bytes h k r q x.reads y.reads

pub NeverHasHead-append : (bytes more : List ℕ) → NeverHasHead bytes → NeverHasHead (bytes ++ more)
NeverHasHead-append bytes more never further h rest x = never (more ++ further) h rest (rw append_assoc at x)

pub never_now : (bytes : List ℕ) (h : RequestHead) (rest : List ℕ) → NeverHasHead bytes → HasHead bytes h rest → ⊥
never_now bytes h rest never x = never [] h rest (rw (append-nil bytes) x)

same_fronts : (a b r q : List ℕ) → length a ≡ length b → a ++ r ≡ b ++ q → (a ≡ b) × (r ≡ q)
same_fronts [] [] r q long e = (refl, e)
same_fronts [] (y ∷ b) r q long e = absurd (omega arith)
same_fronts (x ∷ a) [] r q long e = absurd (omega arith)
same_fronts (x ∷ a) (y ∷ b) r q long e =
    let tails : a ++ r ≡ b ++ q = cc in
    let long_tails : length a ≡ length b = omega arith in
    let same = same_fronts a b r q long_tails tails in
    let heads : x ≡ y = cc in
    let fronts = same.0 in
    (cc, same.1)

pub IsAsk_unique : (bytes : List ℕ) (a b : HttpAsk) (r q : List ℕ) → IsAsk bytes a r → IsAsk bytes b q → (a ≡ b) × (r ≡ q)
IsAsk_unique bytes a b r q x y =
    let same = HasHead_unique bytes x.0 y.0 _ _ x.1 y.1 in
    let verdicts : Serve (length a.body) ≡ Serve (length b.body) = sym x.2 ∙ ap (λ h. verdict_of (request_of h)) same.0 ∙ y.2 in
    let long : length a.body ≡ length b.body = cc in
    let cut = same_fronts a.body b.body r q long same.1 in
    (x.3 ∙ ap (λ h. ask_of (request_of h) a.body) same.0 ∙ ap (λ body. ask_of (request_of y.0) body) cut.0 ∙ sym y.3, cut.1)

pub IsUpgrade_unique : (bytes : List ℕ) (a b : Key) (c d : Chosen) (r q : List ℕ) → IsUpgrade bytes a c r → IsUpgrade bytes b d q → (a ≡ b) × (c ≡ d) × (r ≡ q)
IsUpgrade_unique bytes a b c d r q x y =
    let same = HasHead_unique bytes x.0 y.0 r q x.1 y.1 in
    let verdicts : Switch a c ≡ Switch b d = sym x.2 ∙ ap (λ h. verdict_of (request_of h)) same.0 ∙ y.2 in
    (cc, cc, same.1)

pub IsRefused_unique : (bytes : List ℕ) (a b : WireFail) → IsRefused bytes a → IsRefused bytes b → a ≡ b
IsRefused_unique bytes a b (inl x) (inl y) =
    let same = HasHead_unique bytes x.0 y.0 x.1 y.1 x.2 y.2 in
    let verdicts : Refuse a ≡ Refuse b = sym x.3 ∙ ap (λ h. verdict_of (request_of h)) same.0 ∙ y.3 in
    cc
IsRefused_unique bytes a b (inl x) (inr y) = absurd (never_now bytes x.0 x.1 y.1 x.2)
IsRefused_unique bytes a b (inr x) (inl y) = absurd (never_now bytes y.0 y.1 x.1 y.2)
IsRefused_unique bytes a b (inr x) (inr y) = x.0 ∙ sym y.0

no_ask_upgrade : (bytes : List ℕ) (a : HttpAsk) (b : Key) (c : Chosen) (r q : List ℕ) → IsAsk bytes a r → IsUpgrade bytes b c q → ⊥
no_ask_upgrade bytes a b c r q x y =
    let same = HasHead_unique bytes x.0 y.0 _ q x.1 y.1 in
    let verdicts : Serve (length a.body) ≡ Switch b c = sym x.2 ∙ ap (λ h. verdict_of (request_of h)) same.0 ∙ y.2 in
    cc

pub no_ask_refused : (bytes : List ℕ) (a : HttpAsk) (b : WireFail) (r : List ℕ) → IsAsk bytes a r → IsRefused bytes b → ⊥
no_ask_refused bytes a b r x (inl y) =
    let same = HasHead_unique bytes x.0 y.0 _ y.1 x.1 y.2 in
    let verdicts : Serve (length a.body) ≡ Refuse b = sym x.2 ∙ ap (λ h. verdict_of (request_of h)) same.0 ∙ y.3 in
    cc
no_ask_refused bytes a b r x (inr y) = never_now bytes x.0 _ y.1 x.1

pub no_upgrade_refused : (bytes : List ℕ) (a : Key) (c : Chosen) (b : WireFail) (r : List ℕ) → IsUpgrade bytes a c r → IsRefused bytes b → ⊥
no_upgrade_refused bytes a c b r x (inl y) =
    let same = HasHead_unique bytes x.0 y.0 _ y.1 x.1 y.2 in
    let verdicts : Switch a c ≡ Refuse b = sym x.2 ∙ ap (λ h. verdict_of (request_of h)) same.0 ∙ y.3 in
    cc
no_upgrade_refused bytes a c b r x (inr y) = never_now bytes x.0 _ y.1 x.1

pub Gives_unique : (bytes : List ℕ) (a b : Result Fed WireFail) (r q : List ℕ) → Gives bytes a r → Gives bytes b q → (a ≡ b) × (r ≡ q)
Gives_unique bytes (Ok More) b r q x y = absurd x
Gives_unique bytes (Ok (Ask a)) (Ok More) r q x y = absurd y
Gives_unique bytes (Ok (Ask a)) (Ok (Ask b)) r q x y =
    let same = IsAsk_unique bytes a b r q x y in (ap (λ v. Ok (Ask v)) same.0, same.1)
Gives_unique bytes (Ok (Ask a)) (Ok (Upgrade b c)) r q x y = absurd (no_ask_upgrade bytes a b c r q x y)
Gives_unique bytes (Ok (Ask a)) (Err f) r q x y = absurd (no_ask_refused bytes a f r x y.0)
Gives_unique bytes (Ok (Upgrade a d)) (Ok More) r q x y = absurd y
Gives_unique bytes (Ok (Upgrade a d)) (Ok (Ask b)) r q x y = absurd (no_ask_upgrade bytes b a d q r y x)
Gives_unique bytes (Ok (Upgrade a d)) (Ok (Upgrade b c)) r q x y =
    let same = IsUpgrade_unique bytes a b d c r q x y in
    let keys = same.0 in
    let choices = same.1 in
    (cc, same.2)
Gives_unique bytes (Ok (Upgrade a d)) (Err f) r q x y = absurd (no_upgrade_refused bytes a d f r x y.0)
Gives_unique bytes (Err f) (Ok More) r q x y = absurd y
Gives_unique bytes (Err f) (Ok (Ask b)) r q x y = absurd (no_ask_refused bytes b f q y x.0)
Gives_unique bytes (Err f) (Ok (Upgrade b c)) r q x y = absurd (no_upgrade_refused bytes b c f q y x.0)
Gives_unique bytes (Err f) (Err g) r q x y = (ap Err (IsRefused_unique bytes f g x.0 y.0), x.1 ∙ sym y.1)

pub IsAsk-append : (bytes : List ℕ) (a : HttpAsk) (rest more : List ℕ) → IsAsk bytes a rest → IsAsk (bytes ++ more) a (rest ++ more)
IsAsk-append bytes a rest more x =
    (x.0, rw append_assoc at (HasHead-append bytes x.0 (a.body ++ rest) more x.1), x.2, x.3)

pub IsUpgrade-append : (bytes : List ℕ) (k : Key) (c : Chosen) (rest more : List ℕ) → IsUpgrade bytes k c rest → IsUpgrade (bytes ++ more) k c (rest ++ more)
IsUpgrade-append bytes k c rest more x = (x.0, HasHead-append bytes x.0 rest more x.1, x.2)

pub IsRefused-append : (bytes : List ℕ) (f : WireFail) (more : List ℕ) → IsRefused bytes f → IsRefused (bytes ++ more) f
IsRefused-append bytes f more (inl x) = inl (x.0, x.1 ++ more, HasHead-append bytes x.0 x.1 more x.2, x.3)
IsRefused-append bytes f more (inr x) = inr (x.0, NeverHasHead-append bytes more x.1)

pub Gives-append : (bytes : List ℕ) (a : Result Fed WireFail) (rest more : List ℕ) → Gives bytes a rest → Gives (bytes ++ more) a (rest ++ more)
Gives-append bytes (Ok More) rest more x = absurd x
Gives-append bytes (Ok (Ask a)) rest more x = IsAsk-append bytes a rest more x
Gives-append bytes (Ok (Upgrade k c)) rest more x = IsUpgrade-append bytes k c rest more x
Gives-append bytes (Err f) rest more x = (IsRefused-append bytes f more x.0, ap (λ l. l ++ more) x.1)

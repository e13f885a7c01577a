-- What a line is, and that it stands for one event at most.
use Rattle.std.proofs.Common.{◌≡◌, ℕ, zero, suc, Some, None, length, take, drop, ◌-◌, ◌+◌, get_or, length-append, List, [], ◌∷◌, ◌++◌, Bool, true, false, cond, ◌∙◌, ap, sym, refl, ◌<◌, ◌^◌, ◌⊎◌, inl, inr, Ok, Err, Result, ◌==◌, ◌||◌, subst, arith}
use Rattle.std.specs.Fmt.{decimal}
use Rattle.std.proofs.lemmas.Fmt.{parse-decimal, decimal_injective, decimal_is_IsNumeral}
use Rattle.std.specs.Str.Parse.{ParsesUnsigned, AllDigits}
use Rattle.std.proofs.lemmas.Str.Parse.{digit_from_value}
use Rattle.std.proofs.Math.ListN.{get_or-append}
use Rattle.std.proofs.Math.Seq.{get_or-append_seam, take-append_seam, take-length}
use Rattle.std.proofs.lemmas.Bool.Decides.{Decides-eqb}
use Rattle.memchr.specs.Find.{IsFirstByte, is_byte}
use Rattle.http_wire.specs.declared.asks.HttpAsk.{HttpAsk}
use Rattle.hrana_hub.specs.declared.events.Event.{Event}
use Rattle.hrana_hub.specs.declared.events.Event.TheVariants.{Opened, Text, Binary, Exchange, Lost, Moment, Poll, Stop}
use Rattle.hrana_hub.specs.State.{State}
use Rattle.hrana_hub.specs.Step.{fits}
use Rattle.hrana_serve.specs.Script.{IsAskText, IsLineOf, IsBadLine, OneEventALine}
use Rattle.hrana_serve.proofs.AskLemmas.{ask_one}

-- ---- numbers

abbrev same_result : Result ℕ ℕ → Result ℕ ℕ → Type 0
same_result r s = r ≡ s

-- what is written as a number parses as it
not_both : (n : ℕ) → same_result (Err 0) (Ok n) → ⊥
not_both n q = cc

one_of : (m n : ℕ) → same_result (Ok m) (Ok n) → m ≡ n
one_of m n q = cc

pub no_number : (n : ℕ) (bs : List ℕ) → n < 2 ^ 64 → bs ≡ decimal n → ParsesUnsigned {E = ℕ} 64 10 bs (Err 0) → ⊥
no_number n bs lt e p = not_both n (parse-decimal 64 n bs (Err 0) lt lt e p)

pub one_number : (m n : ℕ) (bs : List ℕ) → n < 2 ^ 64 → bs ≡ decimal n → ParsesUnsigned {E = ℕ} 64 10 bs (Ok m) → m ≡ n
one_number m n bs lt e p = one_of m n (parse-decimal 64 n bs (Ok m) lt lt e p)

-- a number before the first space, and what follows the space
space_one : (xs ys t u : List ℕ) → AllDigits 10 xs → AllDigits 10 ys → xs ++ 32 ∷ t ≡ ys ++ 32 ∷ u → (xs ≡ ys) × (t ≡ u)
space_one [] [] t u p q e = (refl, cc)
space_one [] (c ∷ ys) t u p q e = let h : 32 ≡ c = cc in absurd (omega (arith, digit_from_value c q.0))
space_one (c ∷ xs) [] t u p q e = let h : c ≡ 32 = cc in absurd (omega (arith, digit_from_value c p.0))
space_one (c ∷ xs) (d ∷ ys) t u p q e = let h : c ≡ d = cc in
    let rest : xs ++ 32 ∷ t ≡ ys ++ 32 ∷ u = cc in
    let r = space_one xs ys t u p.1 q.1 rest in (cc (r.0), r.1)

pub digits : (n : ℕ) → n < 2 ^ 64 → AllDigits 10 (decimal n)
digits n h = (decimal_is_IsNumeral n h).0.1

-- a number has no space
space_in : (xs : List ℕ) (k : ℕ) → AllDigits 10 xs → k < length xs → get_or xs k 0 ≡ 32 → ⊥
space_in [] k p l e = omega arith
space_in (c ∷ xs) zero p l e = omega (arith, digit_from_value c p.0)
space_in (c ∷ xs) (suc k) p l e = space_in xs k p.1 (omega arith) e

-- so the first space is the one after it
pub space_after : (bytes t : List ℕ) (n at : ℕ) → n < 2 ^ 64 → bytes ≡ decimal n ++ 32 ∷ t → IsFirstByte (is_byte 32) bytes (Some at) → take at bytes ≡ decimal n
space_after bytes t n at lt e h =
    let ds = decimal n in
    let there : get_or bytes at 0 ≡ 32 = (Decides-eqb (get_or bytes at 0) 32).0 h.1 in
    let early : at < length ds → ⊥ = λ l. space_in ds at (digits n lt) l (sym (get_or-append ds (32 ∷ t) 0 at l) ∙ ap (λ l. get_or l at 0) (sym e) ∙ there) in
    let late : length ds < at → ⊥ = λ l. h.0.before (length ds) (omega arith) l ((Decides-eqb (get_or bytes (length ds) 0) 32).1 (ap (λ l. get_or l (length ds) 0) e ∙ get_or-append_seam ds 32 t 0)) in
    let place : at ≡ length ds = omega arith in
    ap (take at) e ∙ ap (λ k. take k (ds ++ 32 ∷ t)) place ∙ take-append_seam ds (32 ∷ t)

pub no_space : (bytes t : List ℕ) (n : ℕ) → bytes ≡ decimal n ++ 32 ∷ t → IsFirstByte (is_byte 32) bytes None → ⊥
no_space bytes t n e h =
    let ds = decimal n in
    let within : length ds < length bytes = omega (arith, ap length e, length-append ds (32 ∷ t)) in
    h (length ds) (omega arith) within ((Decides-eqb (get_or bytes (length ds) 0) 32).1 (ap (λ l. get_or l (length ds) 0) e ∙ get_or-append_seam ds 32 t 0))

-- a number and a space stand before one rest
pub rest_one : (bytes t u : List ℕ) (m n : ℕ) → m < 2 ^ 64 → n < 2 ^ 64 → bytes ≡ decimal m ++ 32 ∷ t → bytes ≡ decimal n ++ 32 ∷ u → (m ≡ n) × (t ≡ u)
rest_one bytes t u m n p q a b = let r = space_one (decimal m) (decimal n) t u (digits m p) (digits n q) (sym a ∙ b) in (decimal_injective m n p q r.0, r.1)

-- ---- the parts of a line that is no exchange's: its mark, a number, and where the mark is that of a text, a space and the text

abbrev is_text : ℕ → Bool
is_text mark = mark == 62

abbrev words : Bool → ℕ → List ℕ → List ℕ
words texts number text = cond texts (decimal number ++ 32 ∷ text) (decimal number)

abbrev made : Bool → ℕ → ℕ → List ℕ → Event
made texts mark number text = cond (mark == 43) (Opened number) (cond texts (Text number text) (cond (mark == 35) (Binary number) (cond (mark == 45) (Lost number) (cond (mark == 64) (Moment number) (Poll (record { 0 = number }))))))

abbrev bound : ℕ → ℕ
bound mark = cond (mark == 33 || mark == 64) (2 ^ 64) (2 ^ 32)

pub record IsMade (line : List ℕ) (event : Event) : Type 0 where
  pub mark : ℕ
  pub number : ℕ
  pub text : List ℕ
  pub is_made : event ≡ made (is_text mark) mark number text
  pub written : line ≡ mark ∷ 32 ∷ words (is_text mark) number text
  pub few : number < bound mark

abbrev pub NoExchange : Event → Type 0
NoExchange (Exchange c ask) = ⊥
NoExchange event = Unit {0}

pub made_of : (line : List ℕ) (e : Event) → NoExchange e → IsLineOf line e → IsMade line e
made_of line (Opened c) aside p = record { mark = 43; number = c; text = []; is_made = refl; written = p.written; few = p.numbers }
made_of line (Text c t) aside p = record { mark = 62; number = c; text = t; is_made = refl; written = p.written; few = p.numbers }
made_of line (Binary c) aside p = record { mark = 35; number = c; text = []; is_made = refl; written = p.written; few = p.numbers }
made_of line (Lost c) aside p = record { mark = 45; number = c; text = []; is_made = refl; written = p.written; few = p.numbers }
made_of line (Moment m) aside p = record { mark = 64; number = m; text = []; is_made = refl; written = p.written; few = p.numbers }
made_of line (Poll n) aside p = record { mark = 33; number = n.0; text = []; is_made = refl; written = p.written; few = p.numbers }
made_of line (Exchange c ask) aside p = absurd aside
made_of line Stop aside p = absurd p.written

-- ---- a line stands for one event at most

wide_if : (b : Bool) (n : ℕ) → n < cond b (2 ^ 64) (2 ^ 32) → n < 2 ^ 64
wide_if true n h = h
wide_if false n h = omega arith

words_one : (texts : Bool) (mark n k : ℕ) (t u : List ℕ) → n < 2 ^ 64 → k < 2 ^ 64 → words texts n t ≡ words texts k u → made texts mark n t ≡ made texts mark k u
words_one true mark n k t u p q e = let r = space_one (decimal n) (decimal k) t u (digits n p) (digits k q) e in
    ap (λ x. made true mark x t) (decimal_injective n k p q r.0) ∙ ap (λ x. made true mark k x) r.1
words_one false mark n k t u p q e = ap (λ x. made false mark x t) (decimal_injective n k p q e)

made_one : (line : List ℕ) (e f : Event) (a : IsMade line e) (b : IsMade line f) → a.mark ≡ b.mark → words (is_text a.mark) a.number a.text ≡ words (is_text b.mark) b.number b.text → e ≡ f
made_one line e f a b marks said =
    a.is_made
    ∙ words_one (is_text a.mark) a.mark a.number b.number a.text b.text (wide_if (a.mark == 33 || a.mark == 64) a.number a.few) (wide_if (b.mark == 33 || b.mark == 64) b.number b.few) (said ∙ ap (λ m. words (is_text m) b.number b.text) (sym marks))
    ∙ ap (λ m. made (is_text m) m b.number b.text) marks
    ∙ sym b.is_made

-- ---- the line of an exchange

-- its mark is that of no other event
marked : (line : List ℕ) (m n : ℕ) (t : List ℕ) → line ≡ m ∷ t → get_or line 0 0 ≡ n → (m ≡ n → ⊥) → ⊥
marked line m n t e is not = not (sym (ap (λ l. get_or l 0 0) e) ∙ is)

other_mark : (line : List ℕ) (e : Event) → NoExchange e → IsLineOf line e → get_or line 0 0 ≡ 63 → ⊥
other_mark line (Exchange c ask) aside p e = absurd aside
other_mark line (Opened c) aside p e = marked line 43 63 _ p.written e (omega arith)
other_mark line (Text c t) aside p e = marked line 62 63 _ p.written e (omega arith)
other_mark line (Binary c) aside p e = marked line 35 63 _ p.written e (omega arith)
other_mark line (Lost c) aside p e = marked line 45 63 _ p.written e (omega arith)
other_mark line (Moment m) aside p e = marked line 64 63 _ p.written e (omega arith)
other_mark line (Poll n) aside p e = marked line 33 63 _ p.written e (omega arith)
other_mark line Stop aside p e = p.written

not_marked : (line text : List ℕ) (e : Event) → NoExchange e → IsLineOf line e → line ≡ 63 ∷ 32 ∷ text → ⊥
not_marked line text e aside p is = other_mark line e aside p (ap (λ l. get_or l 0 0) is)

one_exchange : (line : List ℕ) (c d : ℕ) (a b : HttpAsk) → IsLineOf line (Exchange c a) → IsLineOf line (Exchange d b) → ◌≡◌ {A = Event} (Exchange c a) (Exchange d b)
one_exchange line c d a b p q =
    let x = p.written in
    let y = q.written in
    let texts : 63 ∷ 32 ∷ (decimal c ++ 32 ∷ x.0) ≡ 63 ∷ 32 ∷ (decimal d ++ 32 ∷ y.0) = sym x.1 ∙ y.1 in
    let same : decimal c ++ 32 ∷ x.0 ≡ decimal d ++ 32 ∷ y.0 = cc in
    let r = rest_one (decimal c ++ 32 ∷ x.0) x.0 y.0 c d (omega (arith, p.numbers)) (omega (arith, q.numbers)) refl same in
    let asks : a ≡ b = ask_one y.0 a b (subst (λ t. IsAskText t a) r.1 x.2) y.2 in
    ap (λ k. Exchange k a) r.0 ∙ ap (λ k. Exchange d k) asks

one_other : (line : List ℕ) (e f : Event) → NoExchange e → NoExchange f → IsLineOf line e → IsLineOf line f → e ≡ f
one_other line e f aside other p q =
    let a = made_of line e aside p in
    let b = made_of line f other q in
    let same : a.mark ∷ 32 ∷ words (is_text a.mark) a.number a.text ≡ b.mark ∷ 32 ∷ words (is_text b.mark) b.number b.text = sym a.written ∙ b.written in
    made_one line e f a b (cc) (cc)

record IsExchanged (e : Event) : Type 0 where
  conn : ℕ
  ask : HttpAsk
  is : e ≡ Exchange conn ask

kind_of : (e : Event) → IsExchanged e ⊎ NoExchange e
kind_of (Exchange c ask) = inl (record { conn = c; ask = ask; is = refl })
kind_of (Opened c) = inr tt
kind_of (Text c t) = inr tt
kind_of (Binary c) = inr tt
kind_of (Lost c) = inr tt
kind_of (Moment m) = inr tt
kind_of (Poll n) = inr tt
kind_of Stop = inr tt

written_exchange : (line : List ℕ) (e : Event) (x : IsExchanged e) → IsLineOf line e → IsLineOf line (Exchange x.conn x.ask)
written_exchange line e x p = subst (IsLineOf line) x.is p

pub IsLineOf-one : OneEventALine
IsLineOf-one line e f p q = elim (kind_of e) [
  | inl x ↦ elim (kind_of f) [
    | inl y ↦ x.is ∙ one_exchange line x.conn y.conn x.ask y.ask (written_exchange line e x p) (written_exchange line f y q) ∙ sym y.is
    | inr other ↦ absurd (not_marked line _ f other q (written_exchange line e x p).written.1)
  ]
  | inr aside ↦ elim (kind_of f) [
    | inl y ↦ absurd (not_marked line _ e aside p (written_exchange line f y q).written.1)
    | inr other ↦ one_other line e f aside other p q
  ]
]

-- the line begins with the mark of an exchange, and no exchange follows
pub no_exchange : (line : List ℕ) → ((conn : ℕ) (text : List ℕ) (ask : HttpAsk) → conn < 2 ^ 32 → take (length line - 2) (drop 2 line) ≡ decimal conn ++ 32 ∷ text → IsAskText text ask → ⊥) → get_or line 0 0 ≡ 63 → (event : Event) → IsLineOf line event → ⊥
no_exchange line none mark event h = elim (kind_of event) [
  | inl x ↦ (let p = written_exchange line event x h in
      let w = p.written in
      let rest : List ℕ = decimal x.conn ++ 32 ∷ w.0 in
      let long : length line ≡ length rest + 2 = ap (λ l. length l) w.1 ∙ omega arith in
      let short : length line - 2 ≡ length rest = omega (arith, long) in
      let same : take (length line - 2) (drop 2 line) ≡ rest = ap (λ l. take (length line - 2) (drop 2 l)) w.1 ∙ ap (λ k. take k rest) short ∙ take-length rest in
      none x.conn w.0 x.ask p.numbers same w.2)
  | inr aside ↦ other_mark line event aside h mark
]

-- the event of the line doesn't fit
pub bad_event : (s : State) (line : List ℕ) (e : Event) → (line ≡ [] → ⊥) → IsLineOf line e → (fits s e ≡ true → ⊥) → IsBadLine s line
bad_event s line e filled is none = record { filled = filled; unfit = λ f was fitted. none (subst (λ x. fits s x ≡ true) (IsLineOf-one line f e was is) fitted) }

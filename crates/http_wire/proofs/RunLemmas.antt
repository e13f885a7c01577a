-- Runs of calls, and the answer lists of whole byte lists.
use Rattle.std.proofs.Common.{◌≡◌, ◌⊎◌, ℕ, zero, suc, ◌<◌, List, [], ◌∷◌, ◌++◌, length, Result, Ok, Err, refl, sym, ap, ◌∙◌, subst, inl, inr, arith, append_assoc}
use Rattle.std.proofs.lemmas.List.{append-nil, length-append}
use Rattle.httparse.specs.Grammar.{RequestHead, IsRequestHead, print_request}
use Rattle.std.specs.Prelude.{⊤}
use Rattle.std.specs.List.{AllByRecursion}
use Rattle.http_wire.specs.declared.asks.HttpAsk.{HttpAsk}
use Rattle.http_wire.specs.declared.asks.Fed.{Fed}
use Rattle.http_wire.specs.declared.asks.Fed.TheVariants.{More, Ask, Upgrade}
use Rattle.http_wire.specs.declared.asks.WireFail.{WireFail}
use Rattle.http_wire.specs.declared.asks.WireFail.TheVariants.{Bad400, Expect417, Length411, TooLarge413, NoMemory}
use Rattle.http_wire.specs.declared.feeding.Stage.{Stage}
use Rattle.http_wire.specs.declared.feeding.Stage.TheVariants.{Reading, Upgraded, Refused}
use Rattle.http_wire.specs.Wire.{NeverHasHead, IsAsk, IsUpgrade, IsRefused, Gives, GoesOn, Takes, WireMeans, MayWait, Held, Feeds, Call, Runs, bytes_of, told_by, CountsOnce, LeavesRest, AnyCut, IsFrontOf, BeginsWith, OneAnswerList, FrontsStay, NothingHeldBack, NoneWithout}
use Rattle.http_wire.proofs.WireLemmas.{Gives_unique, Gives-append, IsAsk-append, IsUpgrade-append, IsRefused-append}

abbrev pub Answer : Type 0
Answer = Result Fed WireFail

-- ---- answer lists

GoesOn-map : (a : Answer) (P Q R : Type 0) → (P → Q) → GoesOn a P R → GoesOn a Q R
GoesOn-map (Ok More) P Q R f x = x
GoesOn-map (Ok (Ask ask)) P Q R f x = f x
GoesOn-map (Ok (Upgrade k c)) P Q R f x = x
GoesOn-map (Err e) P Q R f x = x

-- two things that follow the same answer
GoesOn-both : (a : Answer) (P Q R S T : Type 0) → (P → Q → T) → (R → S → T) → GoesOn a P R → GoesOn a Q S → T
GoesOn-both (Ok More) P Q R S T f g x y = g x y
GoesOn-both (Ok (Ask ask)) P Q R S T f g x y = f x y
GoesOn-both (Ok (Upgrade k c)) P Q R S T f g x y = g x y
GoesOn-both (Err e) P Q R S T f g x y = g x y

pub one_list : OneAnswerList
one_list bytes [] [] r q x y = (refl, x.0 ∙ sym y.0)
one_list bytes [] (b ∷ ys) r q x y = absurd (x.1 b y.0 y.1)
one_list bytes (a ∷ xs) [] r q x y = absurd (y.1 a x.0 x.1)
one_list bytes (a ∷ xs) (b ∷ ys) r q x y =
    let same = Gives_unique bytes a b x.0 y.0 x.1 y.1 in
    let tail_y : GoesOn a (WireMeans x.0 ys q) ((ys ≡ []) × (q ≡ x.0)) =
    subst (λ (p : Answer × List ℕ). GoesOn p.0 (WireMeans p.1 ys q) ((ys ≡ []) × (q ≡ p.1))) (λ i. (sym same.0 i, sym same.1 i)) y.2 in
    let tails : (xs ≡ ys) × (r ≡ q) =
    GoesOn-both a (WireMeans x.0 xs r) (WireMeans x.0 ys q) ((xs ≡ []) × (r ≡ x.0)) ((ys ≡ []) × (q ≡ x.0)) ((xs ≡ ys) × (r ≡ q))
    (λ u v. one_list x.0 xs ys r q u v) (λ u v. (u.0 ∙ sym v.0, u.1 ∙ sym v.1)) x.2 tail_y in
    let heads = same.0 in
    let rests = tails.0 in
    (cc, tails.1)

longer : (a : Answer) (xs ys : List Answer) → IsFrontOf xs ys → IsFrontOf (a ∷ xs) (a ∷ ys)
longer a xs ys x = (x.0, ap (λ l. a ∷ l) x.1)

both_end : (xs ys : List Answer) → xs ≡ [] → ys ≡ [] → IsFrontOf xs ys
both_end xs ys u v = ([], v ∙ sym (append-nil xs ∙ u))

-- answers that are taken off the bytes in order are a front of all that the bytes give
answers_front : (bytes : List ℕ) (given : List Answer) (rest : List ℕ) → Takes bytes given rest → BeginsWith bytes given
answers_front bytes [] rest x all left y = (all, refl)
answers_front bytes (a ∷ xs) rest x [] left y = absurd (y.1 a x.0 x.1)
answers_front bytes (a ∷ xs) rest x (b ∷ ys) left y =
    let same = Gives_unique bytes a b x.0 y.0 x.1 y.1 in
    let tail_y : GoesOn a (WireMeans x.0 ys left) ((ys ≡ []) × (left ≡ x.0)) =
    subst (λ (p : Answer × List ℕ). GoesOn p.0 (WireMeans p.1 ys left) ((ys ≡ []) × (left ≡ p.1))) (λ i. (sym same.0 i, sym same.1 i)) y.2 in
    let tails : IsFrontOf xs ys =
    GoesOn-both a (Takes x.0 xs rest) (WireMeans x.0 ys left) ((xs ≡ []) × (rest ≡ x.0)) ((ys ≡ []) × (left ≡ x.0)) (IsFrontOf xs ys)
    (λ u v. answers_front x.0 xs rest u ys left v) (λ u v. both_end xs ys u.0 v.0) x.2 tail_y in
    let P : Answer → Type 0 = λ b. IsFrontOf (a ∷ xs) (b ∷ ys) in
    subst P same.0 (longer a xs ys tails)

pub Takes-from_WireMeans : (bytes : List ℕ) (xs : List Answer) (rest : List ℕ) → WireMeans bytes xs rest → Takes bytes xs rest
Takes-from_WireMeans bytes [] rest x = x.0
Takes-from_WireMeans bytes (a ∷ xs) rest x =
    (x.0, x.1, GoesOn-map a (WireMeans x.0 xs rest) (Takes x.0 xs rest) ((xs ≡ []) × (rest ≡ x.0)) (Takes-from_WireMeans x.0 xs rest) x.2)

GoesOn-both_ways : (a : Answer) (P Q R S : Type 0) → (P → Q) → (R → S) → GoesOn a P R → GoesOn a Q S
GoesOn-both_ways (Ok More) P Q R S f g x = g x
GoesOn-both_ways (Ok (Ask ask)) P Q R S f g x = f x
GoesOn-both_ways (Ok (Upgrade k c)) P Q R S f g x = g x
GoesOn-both_ways (Err e) P Q R S f g x = g x

pub Takes-append : (bytes : List ℕ) (xs : List Answer) (rest more : List ℕ) → Takes bytes xs rest → Takes (bytes ++ more) xs (rest ++ more)
Takes-append bytes [] rest more x = ap (λ l. l ++ more) x
Takes-append bytes (a ∷ xs) rest more x = (
  x.0 ++ more,
  Gives-append bytes a x.0 more x.1,
  GoesOn-both_ways a (Takes x.0 xs rest) (Takes (x.0 ++ more) xs (rest ++ more)) ((xs ≡ []) × (rest ≡ x.0)) ((xs ≡ []) × (rest ++ more ≡ x.0 ++ more))
      (Takes-append x.0 xs rest more) (λ u. (u.0, ap (λ l. l ++ more) u.1)) x.2,
)

pub fronts_stay : FrontsStay
fronts_stay front more a b r q x y =
    answers_front (front ++ more) a (r ++ more) (Takes-append front a r more (Takes-from_WireMeans front a r x)) b q y

-- ---- runs

abbrev pub At : List ℕ → Stage → Held
At bytes stage = record { bytes = bytes; stage = stage }

abbrev pub RunLaw : List ℕ → List Call → Held → Type 0
RunLaw bytes calls end =
    (given : List Answer) × (rest : List ℕ)
    × CountsOnce (told_by calls) given × Takes (bytes ++ bytes_of calls) given rest × LeavesRest end.stage end.bytes rest

abbrev pub call_of : List ℕ → Answer → Call
call_of piece answer = record { piece = piece; answer = answer }

-- what a run after an upgrade comes to
abbrev pub KeptRun : List ℕ → List Call → Held → Type 0
KeptRun bytes calls end = (told_by calls ≡ []) × (end ≡ At (bytes ++ bytes_of calls) Upgraded)

kept_step : (calls : List Call) (bytes piece : List ℕ) (answer : Answer) (next end : Held)
    → ((b : List ℕ) → Runs (At b Upgraded) calls end → KeptRun b calls end)
    → Feeds (At bytes Upgraded) piece answer next → Runs next calls end → KeptRun bytes (call_of piece answer ∷ calls) end
kept_step calls bytes piece (Ok More) next end law y x =
    let P : Held → Type 0 = λ held. Runs held calls end in
    let later = law (bytes ++ piece) (subst P y x) in
    (later.0, later.1 ∙ ap (λ l. At l Upgraded) (append_assoc bytes piece (bytes_of calls)))
kept_step calls bytes piece (Ok (Ask ask)) next end law y x = absurd y
kept_step calls bytes piece (Ok (Upgrade k c)) next end law y x = absurd y
kept_step calls bytes piece (Err NoMemory) next end law y x =
    let P : Held → Type 0 = λ held. Runs held calls end in
    law bytes (subst P y x)
kept_step calls bytes piece (Err Bad400) next end law y x = absurd y
kept_step calls bytes piece (Err Expect417) next end law y x = absurd y
kept_step calls bytes piece (Err Length411) next end law y x = absurd y
kept_step calls bytes piece (Err TooLarge413) next end law y x = absurd y

pub upgraded_runs : (calls : List Call) (bytes : List ℕ) (end : Held) → Runs (At bytes Upgraded) calls end → KeptRun bytes calls end
upgraded_runs [] bytes end x = (refl, x ∙ ap (λ l. At l Upgraded) (sym (append-nil bytes)))
upgraded_runs (call ∷ calls) bytes end x =
    kept_step calls bytes call.piece call.answer x.0 end (λ b. upgraded_runs calls b end) x.1 x.2

-- after a refusal each call answers the same
abbrev pub SameRun : List ℕ → WireFail → List Call → Held → Type 0
SameRun bytes fail calls end = AllByRecursion (λ answer. answer ≡ Err fail) (told_by calls) × (end ≡ At bytes (Refused fail))

same_step : (calls : List Call) (bytes : List ℕ) (fail : WireFail) (piece : List ℕ) (answer : Answer) (end : Held)
    → SameRun bytes fail calls end → answer ≡ Err fail → SameRun bytes fail (call_of piece answer ∷ calls) end
same_step calls bytes fail piece (Ok More) end later y = later
same_step calls bytes fail piece (Ok (Ask ask)) end later y = ((y, later.0), later.1)
same_step calls bytes fail piece (Ok (Upgrade k c)) end later y = ((y, later.0), later.1)
same_step calls bytes fail piece (Err NoMemory) end later y = later
same_step calls bytes fail piece (Err Bad400) end later y = ((y, later.0), later.1)
same_step calls bytes fail piece (Err Expect417) end later y = ((y, later.0), later.1)
same_step calls bytes fail piece (Err Length411) end later y = ((y, later.0), later.1)
same_step calls bytes fail piece (Err TooLarge413) end later y = ((y, later.0), later.1)

pub refused_runs : (calls : List Call) (bytes : List ℕ) (fail : WireFail) (end : Held) → Runs (At bytes (Refused fail)) calls end
    → SameRun bytes fail calls end
refused_runs [] bytes fail end x = (tt, x)
refused_runs (call ∷ calls) bytes fail end x =
    let P : Held → Type 0 = λ held. Runs held calls end in
    same_step calls bytes fail call.piece call.answer end (refused_runs calls bytes fail end (subst P x.1.1 x.2)) x.1.0

-- a call that is refused, and the calls after it
refused_step : (calls : List Call) (bytes piece : List ℕ) (fail : WireFail) (next end : Held)
    → (next ≡ At (bytes ++ piece) (Refused fail)) × IsRefused (bytes ++ piece) fail → Runs next calls end
    → (rest : List ℕ) × AllByRecursion (λ answer. answer ≡ Err fail) (told_by calls)
    × Takes (bytes ++ (piece ++ bytes_of calls)) (Err fail ∷ []) rest × LeavesRest end.stage end.bytes rest
refused_step calls bytes piece fail next end y x =
    let P : Held → Type 0 = λ held. Runs held calls end in
    let later = refused_runs calls (bytes ++ piece) fail end (subst P y.0 x) in
    let all = bytes ++ (piece ++ bytes_of calls) in
    let Q : Held → Type 0 = λ held. LeavesRest held.stage held.bytes all in
    let R : List ℕ → Type 0 = λ l. IsRefused l fail in
    let refused : IsRefused all fail = subst R (append_assoc bytes piece (bytes_of calls)) (IsRefused-append (bytes ++ piece) fail (bytes_of calls) y.1) in
    (all, later.0, (all, (refused, refl), (refl, refl)), subst Q (sym later.1) tt)

reading_step : (calls : List Call) (bytes piece : List ℕ) (answer : Answer) (next end : Held)
    → ((b : List ℕ) → Runs (At b Reading) calls end → RunLaw b calls end)
    → Feeds (At bytes Reading) piece answer next → Runs next calls end → RunLaw bytes (call_of piece answer ∷ calls) end
reading_step calls bytes piece (Ok More) next end law y x =
    let P : Held → Type 0 = λ held. Runs held calls end in
    let later = law (bytes ++ piece) (subst P y.0 x) in
    let Q : List ℕ → Type 0 = λ l. Takes l later.0 later.1 in
    (later.0, later.1, later.2, subst Q (append_assoc bytes piece (bytes_of calls)) later.3, later.4)
reading_step calls bytes piece (Ok (Ask ask)) next end law y x =
    let P : Stage → Type 0 = λ stage. Runs (At next.bytes stage) calls end in
    let later = law next.bytes (subst P y.0 x) in
    let Q : List ℕ → Type 0 = λ l. IsAsk l ask (next.bytes ++ bytes_of calls) in
    let taken = subst Q (append_assoc bytes piece (bytes_of calls)) (IsAsk-append (bytes ++ piece) ask next.bytes (bytes_of calls) y.1) in
    (Ok (Ask ask) ∷ later.0, later.1, (later.0, later.2, refl), (next.bytes ++ bytes_of calls, taken, later.3), later.4)
reading_step calls bytes piece (Ok (Upgrade k c)) next end law y x =
    let P : Stage → Type 0 = λ stage. Runs (At next.bytes stage) calls end in
    let later = upgraded_runs calls next.bytes end (subst P y.0 x) in
    let rest = next.bytes ++ bytes_of calls in
    let Q : List ℕ → Type 0 = λ l. IsUpgrade l k c rest in
    let taken = subst Q (append_assoc bytes piece (bytes_of calls)) (IsUpgrade-append (bytes ++ piece) k c next.bytes (bytes_of calls) y.1) in
    let R : Held → Type 0 = λ held. LeavesRest held.stage held.bytes rest in
    let S : List Answer → Type 0 = λ told. CountsOnce told [] in
    (Ok (Upgrade k c) ∷ [], rest, ([], subst S (sym later.0) refl, refl), (rest, taken, (refl, refl)), subst R (sym later.1) refl)
reading_step calls bytes piece (Err NoMemory) next end law y x =
    let P : Held → Type 0 = λ held. Runs held calls end in
    law bytes (subst P y x)
reading_step calls bytes piece (Err Bad400) next end law y x =
    let z = refused_step calls bytes piece Bad400 next end y x in (Err Bad400 ∷ [], z.0, (z.1, refl), z.2, z.3)
reading_step calls bytes piece (Err Expect417) next end law y x =
    let z = refused_step calls bytes piece Expect417 next end y x in (Err Expect417 ∷ [], z.0, (z.1, refl), z.2, z.3)
reading_step calls bytes piece (Err Length411) next end law y x =
    let z = refused_step calls bytes piece Length411 next end y x in (Err Length411 ∷ [], z.0, (z.1, refl), z.2, z.3)
reading_step calls bytes piece (Err TooLarge413) next end law y x =
    let z = refused_step calls bytes piece TooLarge413 next end y x in (Err TooLarge413 ∷ [], z.0, (z.1, refl), z.2, z.3)

pub reading_runs : (calls : List Call) (bytes : List ℕ) (end : Held) → Runs (At bytes Reading) calls end → RunLaw bytes calls end
reading_runs [] bytes end x =
    let P : Held → Type 0 = λ held. LeavesRest held.stage held.bytes (bytes ++ []) in
    ([], bytes ++ [], refl, refl, subst P (sym x) (sym (append-nil bytes)))
reading_runs (call ∷ calls) bytes end x =
    reading_step calls bytes call.piece call.answer x.0 end (λ b. reading_runs calls b end) x.1 x.2

pub any_cut : AnyCut
any_cut calls end x =
    let law = reading_runs calls [] end x in
    (law.0, law.1, law.2, answers_front (bytes_of calls) law.0 law.1 law.3, law.3, law.4)

-- ---- what is held back

all_asks : (a : Answer) (P Q : Type 0) → GoesOn a ⊤ ⊥ → GoesOn a P Q → P
all_asks (Ok More) P Q ask x = absurd ask
all_asks (Ok (Ask a)) P Q ask x = x
all_asks (Ok (Upgrade k c)) P Q ask x = absurd ask
all_asks (Err e) P Q ask x = absurd ask

abbrev pub HeldBack : List Answer → List Answer → List ℕ → Type 0
HeldBack given all rest = (all ≡ given) ⊎ ((all ≡ given ++ Err Bad400 ∷ []) × NeverHasHead rest × (length rest < 16384))

only_refusal : (bytes : List ℕ) (a : Answer) (after : List ℕ) → NeverHasHead bytes → Gives bytes a after → a ≡ Err Bad400
only_refusal bytes a after never x = (Gives_unique bytes a (Err Bad400) after bytes x (inr (refl, never), refl)).0

held_at_end : (bytes : List ℕ) (all : List Answer) (left : List ℕ) → MayWait bytes → WireMeans bytes all left → HeldBack [] all bytes
held_at_end bytes [] left waits y = inl refl
held_at_end bytes (a ∷ xs) left waits y =
    let why = waits a y.0 y.1 in
    let bad = only_refusal bytes a y.0 why.0 y.1 in
    let P : Answer → Type 0 = λ b. GoesOn b (WireMeans y.0 xs left) ((xs ≡ []) × (left ≡ y.0)) in
    let none = (subst P bad y.2).0 in
    inr (cc, why.0, why.1)

one_more : (a : Answer) (given all : List Answer) (rest : List ℕ) → HeldBack given all rest → HeldBack (a ∷ given) (a ∷ all) rest
one_more a given all rest (inl x) = inl (ap (λ l. a ∷ l) x)
one_more a given all rest (inr x) = inr (ap (λ l. a ∷ l) x.0, x.1, x.2)

pub nothing_held_back : NothingHeldBack
nothing_held_back bytes [] all rest left x waits y asks =
    let P : List ℕ → Type 0 = λ l. MayWait l in
    let Q : List ℕ → Type 0 = λ l. HeldBack [] all l in
    subst Q (sym x) (held_at_end bytes all left (subst P x waits) y)
nothing_held_back bytes (a ∷ xs) [] rest left x waits y asks = absurd (y.1 a x.0 x.1)
nothing_held_back bytes (a ∷ xs) (b ∷ ys) rest left x waits y asks =
    let same = Gives_unique bytes a b x.0 y.0 x.1 y.1 in
    let tail_y : GoesOn a (WireMeans x.0 ys left) ((ys ≡ []) × (left ≡ x.0)) =
    subst (λ (p : Answer × List ℕ). GoesOn p.0 (WireMeans p.1 ys left) ((ys ≡ []) × (left ≡ p.1))) (λ i. (sym same.0 i, sym same.1 i)) y.2 in
    let wire = all_asks a (WireMeans x.0 ys left) ((ys ≡ []) × (left ≡ x.0)) asks.0 tail_y in
    let takes = all_asks a (Takes x.0 xs rest) ((xs ≡ []) × (rest ≡ x.0)) asks.0 x.2 in
    let later = one_more a xs ys rest (nothing_held_back x.0 xs ys rest left takes waits wire asks.1) in
    let P : Answer → Type 0 = λ c. HeldBack (a ∷ xs) (c ∷ ys) rest in
    subst P same.0 later

-- ---- each byte list has answers

some_bytes : (h : RequestHead) → IsRequestHead h → 0 < length (print_request h)
unfolding print_request
some_bytes h is =
    let method = is.method.0 in
    simp length-append (omega arith)

shorter : (bytes : List ℕ) (ask : HttpAsk) (after : List ℕ) → IsAsk bytes ask after → length after < length bytes
shorter bytes ask after x =
    let some = some_bytes x.0 x.1.reads.0 in
    omega (arith, ap length x.1.reads.1, length-append (print_request x.0) (ask.body ++ after), length-append ask.body after)

abbrev HasNone : List ℕ → Type 0
HasNone bytes = (answers : List Answer) (rest : List ℕ) → WireMeans bytes answers rest → ⊥

gives_nothing : (bytes : List ℕ) → HasNone bytes → ((ask : HttpAsk) (after : List ℕ) → IsAsk bytes ask after → HasNone after → ⊥)
    → (given : Answer) (after : List ℕ) → Gives bytes given after → ⊥
gives_nothing bytes none later (Ok More) after x = x
gives_nothing bytes none later (Ok (Ask ask)) after x = later ask after x (λ answers rest y. none (Ok (Ask ask) ∷ answers) rest (after, x, y))
gives_nothing bytes none later (Ok (Upgrade key chosen)) after x = none (Ok (Upgrade key chosen) ∷ []) after (after, x, (refl, refl))
gives_nothing bytes none later (Err fail) after x = none (Err fail ∷ []) after (after, x, (refl, refl))

none_below : (n : ℕ) (bytes : List ℕ) → length bytes < n → HasNone bytes → ⊥
none_below zero bytes below none = absurd (omega arith)
none_below (suc n) bytes below none =
    none [] bytes (refl, gives_nothing bytes none (λ ask after x later. none_below n after (omega (arith, shorter bytes ask after x)) later))

pub none_without : NoneWithout
none_without bytes none = none_below (suc (length bytes)) bytes (omega arith) none

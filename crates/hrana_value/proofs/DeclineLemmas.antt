-- The first kind of decline in a tree of several parts.
use Rattle.std.proofs.Common.{◌≡◌, ℕ, ◌<◌, ◌≤◌, inl, inr, Bool, true, false, List, [], ◌∷◌, ◌++◌, arith, refl, sym, ◌∙◌, subst}
use Rattle.std.specs.Prelude.{Result, Ok, Err, IfOk, IfErr, nat_lt, if◌then◌else◌, Vec}
use Rattle.std.specs.declared.alloc.Global.{Global}
use Rattle.serde_json.specs.Data.{Data}
use Rattle.std.proofs.lemmas.Bool.Decides.{nat_tests}
use Rattle.hrana_value.specs.declared.failures.Decline.{Decline}
use Rattle.hrana_value.specs.declared.failures.ReadFail.{ReadFail}
use Rattle.hrana_value.specs.declared.failures.ReadFail.TheVariants.{Declined, NoMemory}
use Rattle.hrana_value.specs.Declines.{rank_of, IsFirst, NoneStands, EitherStands, Only, IsDeclinedAs, Reads, earlier_of, both_of, more_of, items_of_reading}

-- ---- the answers of a reader

pub Reads-ok : {A : Type 0} {message : A → Type 0} {stands : Decline → Type 0} (m : A) → message m → NoneStands stands → Reads message stands (Ok m)
Reads-ok m is none = record { ok = is; undeclined = none; declined = tt }

pub Reads-declined : {A : Type 0} {message : A → Type 0} {stands : Decline → Type 0} (k : Decline) → IsFirst stands k → Reads message stands (Err (Declined k))
Reads-declined k first = record { ok = tt; undeclined = tt; declined = first }

pub Reads-no_memory : {A : Type 0} {message : A → Type 0} {stands : Decline → Type 0} → Reads message stands (Err NoMemory)
Reads-no_memory = record { ok = tt; undeclined = tt; declined = tt }

-- ---- first kinds

pub IsFirst-only : (k : Decline) (p : Type 0) → p → IsFirst (Only k p) k
IsFirst-only k p here = record { stands_itself = (refl, here); none_before = λ e less only. let same : rank_of e ≡ rank_of k = rw only.0 refl in absurd (omega arith) }

pub NoneStands-only : (k : Decline) (p : Type 0) → (p → ⊥) → NoneStands (Only k p)
NoneStands-only k p none = λ e only. none only.1

-- the same kinds stand
pub IsFirst-same : (s t : Decline → Type 0) (k : Decline) → ((e : Decline) → s e → t e) → ((e : Decline) → t e → s e) → IsFirst s k → IsFirst t k
IsFirst-same s t k to from first = record { stands_itself = to k first.stands_itself; none_before = λ e less here. first.none_before e less (from e here) }

pub Reads-same : {A : Type 0} (message : A → Type 0) (s t : Decline → Type 0) (answer : Result A ReadFail) → ((e : Decline) → s e → t e) → ((e : Decline) → t e → s e) → Reads message s answer
    → Reads message t answer
Reads-same message s t (Ok m) to from reads = Reads-ok m reads.ok (λ e here. reads.undeclined e (from e here))
Reads-same message s t (Err (Declined k)) to from reads = Reads-declined k (IsFirst-same s t k to from reads.declined)
Reads-same message s t (Err NoMemory) to from reads = Reads-no_memory

-- ---- two readings

NoneStands-either : (s t : Decline → Type 0) → NoneStands s → NoneStands t → NoneStands (EitherStands s t)
NoneStands-either s t p q = λ k here. elim here [ inl a ↦ p k a | inr b ↦ q k b ]

IsFirst-left : (s t : Decline → Type 0) (k : Decline) → IsFirst s k → NoneStands t → IsFirst (EitherStands s t) k
IsFirst-left s t k p q = record { stands_itself = inl p.stands_itself; none_before = λ e less here. elim here [ inl a ↦ p.none_before e less a | inr b ↦ q e b ] }

IsFirst-right : (s t : Decline → Type 0) (k : Decline) → NoneStands s → IsFirst t k → IsFirst (EitherStands s t) k
IsFirst-right s t k p q = record { stands_itself = inr q.stands_itself; none_before = λ e less here. elim here [ inl a ↦ p e a | inr b ↦ q.none_before e less b ] }

is_less : (m n : ℕ) → nat_lt m n ≡ true → m < n
is_less m n h = grind (arith, nat_tests)

is_not_less : (m n : ℕ) → nat_lt m n ≡ false → n ≤ m
is_not_less m n h = grind (arith, nat_tests)

both_first : (s t : Decline → Type 0) (a b : Decline) → IsFirst s a → IsFirst t b → (less : Bool) → nat_lt (rank_of b) (rank_of a) ≡ less
    → IsDeclinedAs (EitherStands s t) (if less then Declined b else Declined a)
both_first s t a b p q true is = record {
  stands_itself = inr q.stands_itself;
  none_before = λ e less here. elim here [
    | inl x ↦ p.none_before e (let h = is_less (rank_of b) (rank_of a) is in omega arith) x
    | inr y ↦ q.none_before e less y
  ];
}
both_first s t a b p q false is = record {
  stands_itself = inl p.stands_itself;
  none_before = λ e less here. elim here [
    | inl x ↦ p.none_before e less x
    | inr y ↦ q.none_before e (let h = is_not_less (rank_of b) (rank_of a) is in omega arith) y
  ];
}

pub IsDeclinedAs-earlier : (s t : Decline → Type 0) (e f : ReadFail) → IsDeclinedAs s e → IsDeclinedAs t f → IsDeclinedAs (EitherStands s t) (earlier_of e f)
IsDeclinedAs-earlier s t NoMemory f p q = tt
IsDeclinedAs-earlier s t (Declined a) NoMemory p q = tt
IsDeclinedAs-earlier s t (Declined a) (Declined b) p q = both_first s t a b p q (nat_lt (rank_of b) (rank_of a)) refl

failed_left : (s t : Decline → Type 0) (e : ReadFail) → IsDeclinedAs s e → NoneStands t → IsDeclinedAs (EitherStands s t) e
failed_left s t NoMemory p q = tt
failed_left s t (Declined k) p q = IsFirst-left s t k p q

failed_right : (s t : Decline → Type 0) (e : ReadFail) → NoneStands s → IsDeclinedAs t e → IsDeclinedAs (EitherStands s t) e
failed_right s t NoMemory p q = tt
failed_right s t (Declined k) p q = IsFirst-right s t k p q

failed : {A : Type 0} {message : A → Type 0} {stands : Decline → Type 0} (e : ReadFail) → IsDeclinedAs stands e → Reads message stands (Err e)
failed e is = record { ok = tt; undeclined = tt; declined = is }

pub Reads-both : {A B : Type 0} (m : A → Type 0) (n : B → Type 0) (s t : Decline → Type 0) (a : Result A ReadFail) (b : Result B ReadFail) → Reads m s a → Reads n t b
    → Reads (λ p. m p.0 × n p.1) (EitherStands s t) (both_of a b)
Reads-both m n s t (Ok x) (Ok y) p q = Reads-ok (x, y) (p.ok, q.ok) (NoneStands-either s t p.undeclined q.undeclined)
Reads-both m n s t (Ok x) (Err f) p q = failed f (failed_right s t f p.undeclined q.declined)
Reads-both m n s t (Err e) (Ok y) p q = failed e (failed_left s t e p.declined q.undeclined)
Reads-both m n s t (Err e) (Err f) p q = failed (earlier_of e f) (IsDeclinedAs-earlier s t e f p.declined q.declined)

-- a list and one item more
pub Reads-more : {A : Type 0} (m : List A → Type 0) (n : A → Type 0) (after : List A → Type 0) (s t : Decline → Type 0) (xs : Result (List A) ReadFail) (x : Result A ReadFail)
    → ((ys : List A) (y : A) → m ys → n y → after (ys ++ y ∷ [])) → Reads m s xs → Reads n t x → Reads after (EitherStands s t) (more_of xs x)
Reads-more m n after s t (Ok xs) (Ok x) join p q = Reads-ok (xs ++ x ∷ []) (join xs x p.ok q.ok) (NoneStands-either s t p.undeclined q.undeclined)
Reads-more m n after s t (Ok xs) (Err f) join p q = failed f (failed_right s t f p.undeclined q.declined)
Reads-more m n after s t (Err e) (Ok x) join p q = failed e (failed_left s t e p.declined q.undeclined)
Reads-more m n after s t (Err e) (Err f) join p q = failed (earlier_of e f) (IsDeclinedAs-earlier s t e f p.declined q.declined)

-- what `with_item` answers
pub Reads-with_item : {A : Type 0} (message : List A → Type 0) (stands : Decline → Type 0) (items : Result (List A) ReadFail) (item : Result A ReadFail) (answer : Result (Vec A Global) ReadFail)
    → IfOk answer (λ v. more_of items item ≡ Ok v.items) → IfErr answer (λ e. (k : Decline) → e ≡ Declined k → more_of items item ≡ Err (Declined k)) → Reads message stands (more_of items item)
    → Reads message stands (items_of_reading answer)
Reads-with_item message stands items item (Ok v) ok declined reads = subst (Reads message stands) ok reads
Reads-with_item message stands items item (Err NoMemory) ok declined reads = Reads-no_memory
Reads-with_item message stands items item (Err (Declined k)) ok declined reads = subst (Reads message stands) (declined k refl) reads

-- ---- what is made of two readings

pub Reads-made : {A B : Type 0} (m : A → Type 0) (after : B → Type 0) (s : Decline → Type 0) (answer : Result A ReadFail) (x : A) (y : B) → answer ≡ Ok x → Reads m s answer → (m x → after y) → Reads after s (Ok y)
Reads-made m after s answer x y is reads make = let read = subst (Reads m s) is reads in Reads-ok y (make read.ok) read.undeclined

pub Reads-failed : {A B : Type 0} (m : A → Type 0) (after : B → Type 0) (s : Decline → Type 0) (answer : Result A ReadFail) (e : ReadFail) → answer ≡ Err e → Reads m s answer → Reads after s (Err e)
Reads-failed m after s answer e is reads = failed e (subst (Reads m s) is reads).declined

-- nothing stands in either part
pub NoneStands-parts : (s t : Decline → Type 0) → NoneStands s → NoneStands t → NoneStands (EitherStands s t)
NoneStands-parts s t p q = NoneStands-either s t p q

pub NoneStands-left : (s t : Decline → Type 0) → NoneStands (EitherStands s t) → NoneStands s
NoneStands-left s t p = λ k here. p k (inl here)

pub NoneStands-right : (s t : Decline → Type 0) → NoneStands (EitherStands s t) → NoneStands t
NoneStands-right s t p = λ k here. p k (inr here)

-- what is read under another name
pub Reads-weaken : {A : Type 0} (m n : A → Type 0) (s : Decline → Type 0) (answer : Result A ReadFail) → ((x : A) → m x → n x) → Reads m s answer → Reads n s answer
Reads-weaken m n s (Ok x) to reads = Reads-ok x (to x reads.ok) reads.undeclined
Reads-weaken m n s (Err e) to reads = failed e reads.declined

-- a message that is made of two parts which `both` put together
pub Reads-both-ok : {A B C : Type 0} {m : A → Type 0} {n : B → Type 0} {after : C → Type 0} {s t : Decline → Type 0} {a : Result A ReadFail} {b : Result B ReadFail} {r : Result (A × B) ReadFail} {x : A} {y : B} {z : C}
    → r ≡ both_of a b → r ≡ Ok (x, y) → Reads m s a → Reads n t b → (m x × n y → after z) → Reads after (EitherStands s t) (Ok z)
Reads-both-ok {m = m} {n = n} {after = after} {s = s} {t = t} {a = a} {b = b} {r = r} {x = x} {y = y} {z = z} made is p q make =
    Reads-made (λ pair. m pair.0 × n pair.1) after (EitherStands s t) (both_of a b) (x, y) z (sym made ∙ is) (Reads-both m n s t a b p q) make

pub Reads-both-failed : {A B C : Type 0} {m : A → Type 0} {n : B → Type 0} {after : C → Type 0} {s t : Decline → Type 0} {a : Result A ReadFail} {b : Result B ReadFail} {r : Result (A × B) ReadFail} {e : ReadFail}
    → r ≡ both_of a b → r ≡ Err e → Reads m s a → Reads n t b → Reads after (EitherStands s t) (Err e)
Reads-both-failed {m = m} {n = n} {after = after} {s = s} {t = t} {a = a} {b = b} {r = r} {e = e} made is p q =
    Reads-failed (λ pair. m pair.0 × n pair.1) after (EitherStands s t) (both_of a b) e (sym made ∙ is) (Reads-both m n s t a b p q)

-- what `both` answers
pub Reads-joined : {A B : Type 0} {m : A → Type 0} {n : B → Type 0} {s t : Decline → Type 0} {a : Result A ReadFail} {b : Result B ReadFail} {r : Result (A × B) ReadFail} → r ≡ both_of a b → Reads m s a → Reads n t b
    → Reads (λ pair. m pair.0 × n pair.1) (EitherStands s t) r
Reads-joined {m = m} {n = n} {s = s} {t = t} {a = a} {b = b} made p q = subst (Reads (λ pair. m pair.0 × n pair.1) (EitherStands s t)) (sym made) (Reads-both m n s t a b p q)

-- a part was read, and it is that of the message
pub Reads-at : {A : Type 0} (tree : A → Data → Type 0) (stands : Data → Decline → Type 0) {part d : Data} {answer : Result A ReadFail} → part ≡ d → Reads (λ m. tree m part) (stands part) answer → Reads (λ m. tree m d) (stands d) answer
Reads-at tree stands {answer = answer} is reads = subst (λ t. Reads (λ m. tree m t) (stands t) answer) is reads

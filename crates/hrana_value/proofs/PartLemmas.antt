-- What readers of single parts answer.
use Rattle.std.proofs.Common.{◌≡◌, ◌⊎◌, inl, inr, ℕ, ◌<◌, ℤ, Option, None, Some, List, true, false, sym, ◌∙◌, subst, refl, arith, ap}
use Rattle.std.specs.Prelude.{Ok, Err, is_some, IsSomeAnd}
use Rattle.serde_json.specs.Data.{Data, null, boolean, number, string, array, object}
use Rattle.serde_json.specs.Find.{as_null, as_str}
use Rattle.hrana_value.specs.declared.failures.Decline.{Decline}
use Rattle.hrana_value.specs.declared.failures.Decline.TheVariants.{Unknown, Describe, Shape, BothSql, BadStep, Range, Float}
use Rattle.hrana_value.specs.declared.failures.ReadFail.{ReadFail}
use Rattle.hrana_value.specs.declared.failures.ReadFail.TheVariants.{Declined, NoMemory}
use Rattle.hrana_value.specs.Declines.{rank_of, NoneStands, Reads}
use Rattle.hrana_value.specs.Members.{whole_of, WholeStands, TextTree, TextStands}
use Rattle.std.specs.Str.Parse.{signed_digits_value}
use Rattle.hrana_value.specs.Tree.{IsIntegerText, FitsI64, Int64TextTree, Int64TextStands}
use Rattle.hrana_value.proofs.TextLemmas.{one}
use Rattle.hrana_value.specs.Trees.{OptionalTree, OptionalStands}
use Rattle.hrana_value.proofs.DeclineLemmas.{Reads-ok, Reads-declined, Reads-no_memory, IsFirst-only, NoneStands-only}

-- ---- whole numbers

pub WholeStands-none : (fits : ℤ → Type 0) (t : Data) (z : ℤ) → whole_of t ≡ Some z → fits z → NoneStands (WholeStands fits t)
WholeStands-none fits t z is fit Unknown here = here
WholeStands-none fits t z is fit Describe here = here
WholeStands-none fits t z is fit Shape here = cc (sym is ∙ here)
WholeStands-none fits t z is fit BothSql here = here
WholeStands-none fits t z is fit BadStep here = here
WholeStands-none fits t z is fit Range here = subst (λ o. IsSomeAnd o (λ y. fits y → ⊥)) is here fit
WholeStands-none fits t z is fit Float here = here

not_none : {A : Type 0} (o : Option A) (P : A → Type 0) → IsSomeAnd o P → o ≡ None → ⊥
not_none None P h e = h
not_none (Some x) P h e = cc e

before_shape : (fits : ℤ → Type 0) (t : Data) (k : Decline) → rank_of k < rank_of Shape → WholeStands fits t k → ⊥
before_shape fits t Unknown less here = here
before_shape fits t Describe less here = here
before_shape fits t Shape less here = absurd (omega arith)
before_shape fits t BothSql less here = here
before_shape fits t BadStep less here = here
before_shape fits t Range less here = absurd (omega arith)
before_shape fits t Float less here = here

before_range : (fits : ℤ → Type 0) (t : Data) → IsSomeAnd (whole_of t) (λ z. fits z → ⊥) → (k : Decline) → rank_of k < rank_of Range → WholeStands fits t k → ⊥
before_range fits t large Unknown less here = here
before_range fits t large Describe less here = here
before_range fits t large Shape less here = not_none (whole_of t) (λ z. fits z → ⊥) large here
before_range fits t large BothSql less here = here
before_range fits t large BadStep less here = here
before_range fits t large Range less here = absurd (omega arith)
before_range fits t large Float less here = here

pub whole_declined : {A : Type 0} (tree : A → Data → Type 0) (fits : ℤ → Type 0) (t : Data) (k : Decline) → (k ≡ Shape) ⊎ (k ≡ Range) → (k ≡ Shape → whole_of t ≡ None) → (k ≡ Range → IsSomeAnd (whole_of t) (λ z. fits z → ⊥))
    → Reads (λ n. tree n t) (WholeStands fits t) (Err (Declined k))
whole_declined tree fits t k (inl shape) p q =
    subst (λ e. Reads (λ n. tree n t) (WholeStands fits t) (Err (Declined e))) (sym shape) (Reads-declined Shape (record { stands_itself = p shape; none_before = before_shape fits t }))
whole_declined tree fits t k (inr range) p q =
    subst (λ e. Reads (λ n. tree n t) (WholeStands fits t) (Err (Declined e))) (sym range) (Reads-declined Range (record { stands_itself = q range; none_before = before_range fits t (q range) }))

-- ---- texts

pub TextTree-none : (s : List ℕ) (t : Data) → TextTree s t → NoneStands (TextStands t)
TextTree-none s t is = NoneStands-only Shape (as_str t ≡ None) (λ none. cc (sym is ∙ none))

pub text_read : (s : List ℕ) (t : Data) → TextTree s t → Reads (λ r. TextTree r t) (TextStands t) (Ok s)
text_read s t is = Reads-ok s is (TextTree-none s t is)

pub text_declined : {A : Type 0} (message : A → Type 0) (t : Data) → as_str t ≡ None → Reads message (TextStands t) (Err (Declined Shape))
text_declined message t none = Reads-declined Shape (IsFirst-only Shape (as_str t ≡ None) none)

-- ---- optional parts

pub is_null_true : (t : Data) → is_some (as_null t) ≡ true → t ≡ null
is_null_true null h = refl
is_null_true (boolean b) h = cc h
is_null_true (number n) h = cc h
is_null_true (string s) h = cc h
is_null_true (array ds) h = cc h
is_null_true (object ms) h = cc h

pub is_null_false : (t : Data) → is_some (as_null t) ≡ false → t ≡ null → ⊥
is_null_false t h e = let k = rw e at h in cc k

pub optional_none : {A : Type 0} (tree : A → Data → Type 0) (stands : Data → Decline → Type 0) (t : Data) → t ≡ null → Reads (λ o. OptionalTree tree o t) (OptionalStands stands t) (Ok None)
optional_none tree stands t is = Reads-ok None is (λ k here. here.0 is)

pub optional_some : {A : Type 0} (tree : A → Data → Type 0) (stands : Data → Decline → Type 0) (t : Data) (x : A) → (t ≡ null → ⊥) → Reads (λ y. tree y t) (stands t) (Ok x)
    → Reads (λ o. OptionalTree tree o t) (OptionalStands stands t) (Ok (Some x))
optional_some tree stands t x not reads = Reads-ok (Some x) (not, reads.ok) (λ k here. reads.undeclined k here.1)

pub optional_failed : {A : Type 0} (tree : A → Data → Type 0) (stands : Data → Decline → Type 0) (t : Data) (e : ReadFail) → (t ≡ null → ⊥) → Reads {A = A} (λ y. tree y t) (stands t) (Err e)
    → Reads (λ o. OptionalTree tree o t) (OptionalStands stands t) (Err e)
optional_failed tree stands t NoMemory not reads = Reads-no_memory
optional_failed tree stands t (Declined k) not reads =
    Reads-declined k (record { stands_itself = (not, reads.declined.stands_itself); none_before = λ e less here. reads.declined.none_before e less here.1 })

pub OptionalTree-none : {A : Type 0} (tree : A → Data → Type 0) (stands : Data → Decline → Type 0) → ((x : A) (t : Data) → tree x t → NoneStands (stands t)) → (o : Option A) (t : Data) → OptionalTree tree o t
    → NoneStands (OptionalStands stands t)
OptionalTree-none tree stands each None t is = λ k here. here.0 is
OptionalTree-none tree stands each (Some x) t is = λ k here. each x t is.1 k here.1

pub OptionalTree-one : {A : Type 0} (tree : A → Data → Type 0) → ((t : Data) (x y : A) → tree x t → tree y t → x ≡ y) → (t : Data) (o p : Option A) → OptionalTree tree o t → OptionalTree tree p t → o ≡ p
OptionalTree-one tree each t None None a b = refl
OptionalTree-one tree each t None (Some y) a b = absurd (b.0 a)
OptionalTree-one tree each t (Some x) None a b = absurd (a.0 b)
OptionalTree-one tree each t (Some x) (Some y) a b = ap Some (each t x y a.1 b.1)

-- ---- integers as texts

text_before_range : (t : Data) (s : List ℕ) → TextTree s t → IsIntegerText s → (k : Decline) → rank_of k < rank_of Range → Int64TextStands t k → ⊥
text_before_range t s is digits Unknown less here = here
text_before_range t s is digits Describe less here = here
text_before_range t s is digits Shape less here = here s is digits
text_before_range t s is digits BothSql less here = here
text_before_range t s is digits BadStep less here = here
text_before_range t s is digits Range less here = absurd (omega arith)
text_before_range t s is digits Float less here = here

text_before_shape : (t : Data) (k : Decline) → rank_of k < rank_of Shape → Int64TextStands t k → ⊥
text_before_shape t Unknown less here = here
text_before_shape t Describe less here = here
text_before_shape t Shape less here = absurd (omega arith)
text_before_shape t BothSql less here = here
text_before_shape t BadStep less here = here
text_before_shape t Range less here = absurd (omega arith)
text_before_shape t Float less here = here

pub int64_misshaped : {A : Type 0} (message : A → Type 0) (t : Data) → ((s : List ℕ) → TextTree s t → IsIntegerText s → ⊥) → Reads message (Int64TextStands t) (Err (Declined Shape))
int64_misshaped message t none = Reads-declined Shape (record { stands_itself = none; none_before = text_before_shape t })

pub int64_no_text : {A : Type 0} (message : A → Type 0) (t : Data) → as_str t ≡ None → Reads message (Int64TextStands t) (Err (Declined Shape))
int64_no_text message t none = int64_misshaped message t (λ s is digits. cc (sym is ∙ none))

pub int64_declined : {A : Type 0} (message : A → Type 0) (t : Data) (s : List ℕ) (k : Decline) → TextTree s t → (k ≡ Shape) ⊎ (k ≡ Range) → (k ≡ Shape → IsIntegerText s → ⊥)
    → (k ≡ Range → IsIntegerText s × (FitsI64 s → ⊥)) → Reads message (Int64TextStands t) (Err (Declined k))
int64_declined message t s k is (inl shape) p q =
    subst (λ e. Reads message (Int64TextStands t) (Err (Declined e))) (sym shape) (int64_misshaped message t (λ r h digits. p shape (subst IsIntegerText (one _ _ _ h is) digits)))
int64_declined message t s k is (inr range) p q =
    subst (λ e. Reads message (Int64TextStands t) (Err (Declined e))) (sym range)
    (Reads-declined Range (record { stands_itself = (s, is, (q range).0, (q range).1); none_before = text_before_range t s is (q range).0 }))

pub Int64TextTree-none : (z : ℤ) (t : Data) → Int64TextTree z t → NoneStands (Int64TextStands t)
Int64TextTree-none z t p Unknown here = here
Int64TextTree-none z t p Describe here = here
Int64TextTree-none z t p Shape here = here p.0 p.1 p.2.0.0
Int64TextTree-none z t p BothSql here = here
Int64TextTree-none z t p BadStep here = here
Int64TextTree-none z t p Range here = here.3 (subst FitsI64 (one _ _ _ p.1 here.1) p.2.0.1)
Int64TextTree-none z t p Float here = here

pub int64_read : (z : ℤ) (t : Data) → Int64TextTree z t → Reads (λ y. Int64TextTree y t) (Int64TextStands t) (Ok z)
int64_read z t p = Reads-ok z p (Int64TextTree-none z t p)

pub Int64TextTree-one : (t : Data) (y z : ℤ) → Int64TextTree y t → Int64TextTree z t → y ≡ z
Int64TextTree-one t y z p q = p.2.1 ∙ ap (signed_digits_value 10) (one _ _ _ p.1 q.1) ∙ sym q.2.1

-- In results and errors no kind of decline stands before `Shape`.
use Rattle.std.proofs.Common.{inl, inr, ◌≤◌, ap, arith, ◌≡◌, codes, ℤ}
use Rattle.serde_json.specs.Data.{Data, null, boolean, number, string, array, object, Items, no_items, item}
use Rattle.hrana_value.specs.declared.failures.Decline.{Decline}
use Rattle.hrana_value.specs.declared.failures.Decline.TheVariants.{Unknown, Describe, Shape, BothSql, BadStep, Range, Float}
use Rattle.hrana_value.specs.Declines.{rank_of, IsFirst, EitherStands, Only}
use Rattle.hrana_value.specs.Members.{part_at, TextStands, WholeStands, Uint64Stands, FitsUnsigned}
use Rattle.hrana_value.specs.Tree.{ValueStands, Int64TextStands}
use Rattle.hrana_value.specs.Trees.{ItemsStand, ArrayStands, OptionalStands}
use Rattle.hrana_stmt.specs.Tree.{ObjectStands, ColStands, RowStands, StmtResultStands, WireErrorStands}

-- no kind before `Shape` stands
abbrev pub FromShape : (Decline → Type 0) → Type 0
FromShape stands = (k : Decline) → stands k → 2 ≤ rank_of k

pub only_shape : (p : Type 0) → FromShape (Only Shape p)
only_shape p k here = let same : rank_of k ≡ rank_of Shape = ap rank_of here.0 in omega arith

pub either_from : (s t : Decline → Type 0) → FromShape s → FromShape t → FromShape (EitherStands s t)
either_from s t p q k (inl here) = p k here
either_from s t p q k (inr here) = q k here

pub optional_from : (stands : Data → Decline → Type 0) (d : Data) → FromShape (stands d) → FromShape (OptionalStands stands d)
optional_from stands d p k here = p k here.1

items_from : (stands : Data → Decline → Type 0) → ((d : Data) → FromShape (stands d)) → (ds : Items) → FromShape (ItemsStand stands ds)
items_from stands each no_items k here = absurd here
items_from stands each (item d ds) k (inl here) = each d k here
items_from stands each (item d ds) k (inr here) = items_from stands each ds k here

pub array_from : (stands : Data → Decline → Type 0) → ((d : Data) → FromShape (stands d)) → (d : Data) → FromShape (ArrayStands stands d)
array_from stands each null = only_shape (Unit {0})
array_from stands each (boolean b) = only_shape (Unit {0})
array_from stands each (number n) = only_shape (Unit {0})
array_from stands each (string s) = only_shape (Unit {0})
array_from stands each (array ds) = items_from stands each ds
array_from stands each (object ms) = only_shape (Unit {0})

value_from : (d : Data) → FromShape (ValueStands d)
value_from d Unknown here = absurd here
value_from d Describe here = absurd here
value_from d Shape here = omega arith
value_from d BothSql here = absurd here
value_from d BadStep here = absurd here
value_from d Range here = omega arith
value_from d Float here = omega arith

whole_from : (fits : ℤ → Type 0) (d : Data) → FromShape (WholeStands fits d)
whole_from fits d Unknown here = absurd here
whole_from fits d Describe here = absurd here
whole_from fits d Shape here = omega arith
whole_from fits d BothSql here = absurd here
whole_from fits d BadStep here = absurd here
whole_from fits d Range here = omega arith
whole_from fits d Float here = absurd here

integer_from : (d : Data) → FromShape (Int64TextStands d)
integer_from d Unknown here = absurd here
integer_from d Describe here = absurd here
integer_from d Shape here = omega arith
integer_from d BothSql here = absurd here
integer_from d BadStep here = absurd here
integer_from d Range here = omega arith
integer_from d Float here = absurd here

text_from : (d : Data) → FromShape (TextStands d)
text_from d k here = let same : rank_of k ≡ rank_of Shape = ap rank_of here.0 in omega arith

object_from : (d : Data) → FromShape (ObjectStands d)
object_from d k here = let same : rank_of k ≡ rank_of Shape = ap rank_of here.0 in omega arith

col_from : (d : Data) → FromShape (ColStands d)
col_from d = either_from (ObjectStands d) (OptionalStands TextStands (part_at (codes "name") d)) (object_from d) (optional_from TextStands (part_at (codes "name") d) (text_from (part_at (codes "name") d)))

row_from : (d : Data) → FromShape (RowStands d)
row_from d = array_from ValueStands value_from d

pub result_from : (d : Data) → FromShape (StmtResultStands d)
result_from d =
    let c = part_at (codes "cols") d in let w = part_at (codes "rows") d in let a = part_at (codes "affected_row_count") d in let i = part_at (codes "last_insert_rowid") d in
    either_from (EitherStands (ArrayStands ColStands c) (ArrayStands RowStands w)) (EitherStands (Uint64Stands a) (OptionalStands Int64TextStands i))
    (either_from (ArrayStands ColStands c) (ArrayStands RowStands w) (array_from ColStands col_from c) (array_from RowStands row_from w))
    (either_from (Uint64Stands a) (OptionalStands Int64TextStands i) (whole_from (FitsUnsigned 64) a) (optional_from Int64TextStands i (integer_from i)))

pub error_from : (d : Data) → FromShape (WireErrorStands d)
error_from d =
    let m = part_at (codes "message") d in let c = part_at (codes "code") d in
    either_from (TextStands m) (OptionalStands TextStands c) (text_from m) (optional_from TextStands c (text_from c))

-- where `Shape` stands, it is the first
pub first_shape : (stands : Decline → Type 0) → FromShape stands → stands Shape → IsFirst stands Shape
first_shape stands from here = record { stands_itself = here; none_before = λ k less h. let two = from k h in absurd (omega arith) }

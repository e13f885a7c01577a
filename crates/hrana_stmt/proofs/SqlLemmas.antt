-- What stands in the parts `sql` and `sql_id`.
use Rattle.std.proofs.Common.{◌≡◌, ◌⊎◌, inl, inr, ℕ, ◌<◌, ◌≤◌, ℤ, Option, None, Some, List, length, sym, ◌∙◌, subst, refl, arith}
use Rattle.std.specs.Prelude.{Ok, Err, IsSomeAnd, FitsSigned}
use Rattle.std.specs.Int.{w32}
use Rattle.serde_json.specs.Data.{Data, null}
use Rattle.serde_json.specs.Find.{as_str}
use Rattle.hrana_value.specs.declared.failures.Decline.{Decline}
use Rattle.hrana_value.specs.declared.failures.Decline.TheVariants.{Unknown, Describe, Shape, BothSql, BadStep, Range, Float}
use Rattle.hrana_value.specs.declared.failures.ReadFail.TheVariants.{Declined}
use Rattle.hrana_value.specs.Declines.{rank_of, NoneStands, Reads}
use Rattle.hrana_value.specs.Members.{whole_of, TextTree, Int32Tree}
use Rattle.hrana_value.proofs.DeclineLemmas.{Reads-ok, Reads-declined}
use Rattle.hrana_stmt.specs.declared.limits.TheConstants.{MAX_SQL_BYTES}
use Rattle.hrana_stmt.specs.Tree.{SqlPartsStand, IsGiven}
use Rattle.hrana_stmt.specs.Parts.{SqlPartsTree}
use Rattle.hrana_stmt.specs.declared.statements.SqlRef.TheVariants.{Text, Id}

-- ---- which kinds can't stand before another

before_shape : (sql id : Data) (k : Decline) → rank_of k < rank_of Shape → SqlPartsStand sql id k → ⊥
before_shape sql id Unknown less here = here
before_shape sql id Describe less here = here
before_shape sql id Shape less here = absurd (omega arith)
before_shape sql id BothSql less here = absurd (omega arith)
before_shape sql id BadStep less here = absurd (omega arith)
before_shape sql id Range less here = absurd (omega arith)
before_shape sql id Float less here = absurd (omega arith)

before_both : (sql id : Data) → (SqlPartsStand sql id Shape → ⊥) → (k : Decline) → rank_of k < rank_of BothSql → SqlPartsStand sql id k → ⊥
before_both sql id no_shape Unknown less here = here
before_both sql id no_shape Describe less here = here
before_both sql id no_shape Shape less here = no_shape here
before_both sql id no_shape BothSql less here = absurd (omega arith)
before_both sql id no_shape BadStep less here = absurd (omega arith)
before_both sql id no_shape Range less here = absurd (omega arith)
before_both sql id no_shape Float less here = absurd (omega arith)

before_range : (sql id : Data) → (SqlPartsStand sql id Shape → ⊥) → (SqlPartsStand sql id BothSql → ⊥) → (k : Decline) → rank_of k < rank_of Range → SqlPartsStand sql id k → ⊥
before_range sql id no_shape no_both Unknown less here = here
before_range sql id no_shape no_both Describe less here = here
before_range sql id no_shape no_both Shape less here = no_shape here
before_range sql id no_shape no_both BothSql less here = no_both here
before_range sql id no_shape no_both BadStep less here = here
before_range sql id no_shape no_both Range less here = absurd (omega arith)
before_range sql id no_shape no_both Float less here = absurd (omega arith)

none : (sql id : Data) → (SqlPartsStand sql id Shape → ⊥) → (SqlPartsStand sql id BothSql → ⊥) → (SqlPartsStand sql id Range → ⊥) → NoneStands (SqlPartsStand sql id)
none sql id no_shape no_both no_range Unknown here = here
none sql id no_shape no_both no_range Describe here = here
none sql id no_shape no_both no_range Shape here = no_shape here
none sql id no_shape no_both no_range BothSql here = no_both here
none sql id no_shape no_both no_range BadStep here = here
none sql id no_shape no_both no_range Range here = no_range here
none sql id no_shape no_both no_range Float here = here

pub sql_shape : (sql id : Data) → SqlPartsStand sql id Shape → Reads (λ s. SqlPartsTree s sql id) (SqlPartsStand sql id) (Err (Declined Shape))
sql_shape sql id here = Reads-declined Shape (record { stands_itself = here; none_before = before_shape sql id })

pub sql_both : (sql id : Data) → SqlPartsStand sql id BothSql → (SqlPartsStand sql id Shape → ⊥) → Reads (λ s. SqlPartsTree s sql id) (SqlPartsStand sql id) (Err (Declined BothSql))
sql_both sql id here no_shape = Reads-declined BothSql (record { stands_itself = here; none_before = before_both sql id no_shape })

sql_range : (sql id : Data) → SqlPartsStand sql id Range → (SqlPartsStand sql id Shape → ⊥) → (SqlPartsStand sql id BothSql → ⊥) → Reads (λ s. SqlPartsTree s sql id) (SqlPartsStand sql id) (Err (Declined Range))
sql_range sql id here no_shape no_both = Reads-declined Range (record { stands_itself = here; none_before = before_range sql id no_shape no_both })

-- ---- neither part

pub neither_sql : (sql id : Data) → sql ≡ null → id ≡ null → Reads (λ s. SqlPartsTree s sql id) (SqlPartsStand sql id) (Err (Declined BothSql))
neither_sql sql id p q = sql_both sql id (inl (p, q)) (λ here. elim here [ inl a ↦ a.0 p | inr b ↦ b.0 q ])

-- ---- a text alone

text_no_shape : (sql id : Data) (s : List ℕ) → TextTree s sql → id ≡ null → SqlPartsStand sql id Shape → ⊥
text_no_shape sql id s is absent (inl a) = cc (sym is ∙ a.1)
text_no_shape sql id s is absent (inr b) = b.0 absent

alone_no_both : (sql id : Data) → IsGiven sql → id ≡ null → SqlPartsStand sql id BothSql → ⊥
alone_no_both sql id given absent (inl a) = given a.0
alone_no_both sql id given absent (inr b) = b.1 absent

id_in_null : (id : Data) (P : ℤ → Type 0) → id ≡ null → IsSomeAnd (whole_of id) P → ⊥
id_in_null id P absent here = subst (λ d. IsSomeAnd (whole_of d) P) absent here

text_in_null : (sql : Data) (P : List ℕ → Type 0) → sql ≡ null → IsSomeAnd (as_str sql) P → ⊥
text_in_null sql P absent here = subst (λ d. IsSomeAnd (as_str d) P) absent here

text_no_range : (sql id : Data) (s : List ℕ) → TextTree s sql → id ≡ null → length s ≤ MAX_SQL_BYTES → SqlPartsStand sql id Range → ⊥
text_no_range sql id s is absent fits (inl a) = let long : MAX_SQL_BYTES < length s = subst (λ o. IsSomeAnd o (λ r. MAX_SQL_BYTES < length r)) is a in absurd (omega arith)
text_no_range sql id s is absent fits (inr b) = id_in_null id (λ z. FitsSigned w32 z → ⊥) absent b

pub text_given : (sql : Data) (s : List ℕ) → TextTree s sql → IsGiven sql
text_given sql s is absent = let e : as_str null ≡ Some s = subst (λ d. TextTree s d) absent is in cc e

pub sql_text_none : (sql id : Data) (s : List ℕ) → TextTree s sql → id ≡ null → length s ≤ MAX_SQL_BYTES → NoneStands (SqlPartsStand sql id)
sql_text_none sql id s is absent fits = none sql id (text_no_shape sql id s is absent) (alone_no_both sql id (text_given sql s is) absent) (text_no_range sql id s is absent fits)

pub sql_text_read : (sql id : Data) (s : List ℕ) → TextTree s sql → id ≡ null → length s ≤ MAX_SQL_BYTES → Reads (λ r. SqlPartsTree r sql id) (SqlPartsStand sql id) (Ok (Text s))
sql_text_read sql id s is absent fits = Reads-ok (Text s) (is, absent) (sql_text_none sql id s is absent fits)

pub sql_text_long : (sql id : Data) (s : List ℕ) → TextTree s sql → id ≡ null → MAX_SQL_BYTES < length s → Reads (λ r. SqlPartsTree r sql id) (SqlPartsStand sql id) (Err (Declined Range))
sql_text_long sql id s is absent long =
    sql_range sql id (inl (subst (λ o. IsSomeAnd o (λ r. MAX_SQL_BYTES < length r)) (sym is) long)) (text_no_shape sql id s is absent) (alone_no_both sql id (text_given sql s is) absent)

-- ---- a number alone

id_no_shape : (sql id : Data) (z : ℤ) → whole_of id ≡ Some z → sql ≡ null → SqlPartsStand sql id Shape → ⊥
id_no_shape sql id z is absent (inl a) = a.0 absent
id_no_shape sql id z is absent (inr b) = cc (sym is ∙ b.1)

id_no_both : (sql id : Data) → IsGiven id → sql ≡ null → SqlPartsStand sql id BothSql → ⊥
id_no_both sql id given absent (inl a) = given a.1
id_no_both sql id given absent (inr b) = b.0 absent

pub id_given : (id : Data) (z : ℤ) → whole_of id ≡ Some z → IsGiven id
id_given id z is absent = let e : whole_of null ≡ Some z = subst (λ d. whole_of d ≡ Some z) absent is in cc e

id_no_range : (sql id : Data) (z : ℤ) → Int32Tree z id → sql ≡ null → SqlPartsStand sql id Range → ⊥
id_no_range sql id z is absent (inl a) = text_in_null sql (λ s. MAX_SQL_BYTES < length s) absent a
id_no_range sql id z is absent (inr b) = subst (λ o. IsSomeAnd o (λ y. FitsSigned w32 y → ⊥)) is.is b is.fits

pub sql_id_none : (sql id : Data) (z : ℤ) → Int32Tree z id → sql ≡ null → NoneStands (SqlPartsStand sql id)
sql_id_none sql id z is absent = none sql id (id_no_shape sql id z is.is absent) (id_no_both sql id (id_given id z is.is) absent) (id_no_range sql id z is absent)

pub sql_id_read : (sql id : Data) (z : ℤ) → Int32Tree z id → sql ≡ null → Reads (λ r. SqlPartsTree r sql id) (SqlPartsStand sql id) (Ok (Id z))
sql_id_read sql id z is absent = Reads-ok (Id z) (is, absent) (sql_id_none sql id z is absent)

some_whole : (o : Option ℤ) (P : ℤ → Type 0) → IsSomeAnd o P → (z : ℤ) × (o ≡ Some z)
some_whole None P h = absurd h
some_whole (Some z) P h = (z, refl)

pub sql_id_declined : (sql id : Data) (k : Decline) → IsGiven id → sql ≡ null → (k ≡ Shape) ⊎ (k ≡ Range) → (k ≡ Shape → whole_of id ≡ None) → (k ≡ Range → IsSomeAnd (whole_of id) (λ z. FitsSigned w32 z → ⊥))
    → Reads (λ r. SqlPartsTree r sql id) (SqlPartsStand sql id) (Err (Declined k))
sql_id_declined sql id k given absent (inl shape) p q = subst (λ e. Reads (λ r. SqlPartsTree r sql id) (SqlPartsStand sql id) (Err (Declined e))) (sym shape) (sql_shape sql id (inr (given, p shape)))
sql_id_declined sql id k given absent (inr range) p q =
    let large = some_whole (whole_of id) (λ z. FitsSigned w32 z → ⊥) (q range) in
    subst (λ e. Reads (λ r. SqlPartsTree r sql id) (SqlPartsStand sql id) (Err (Declined e))) (sym range)
    (sql_range sql id (inr (q range)) (id_no_shape sql id large.0 large.1 absent) (id_no_both sql id given absent))

-- ---- both

both_no_shape : (sql id : Data) → (as_str sql ≡ None → ⊥) → (whole_of id ≡ None → ⊥) → SqlPartsStand sql id Shape → ⊥
both_no_shape sql id p q (inl a) = p a.1
both_no_shape sql id p q (inr b) = q b.1

pub both_given : (sql id : Data) → IsGiven sql → IsGiven id → (as_str sql ≡ None → ⊥) → (whole_of id ≡ None → ⊥) → Reads (λ s. SqlPartsTree s sql id) (SqlPartsStand sql id) (Err (Declined BothSql))
both_given sql id a b p q = sql_both sql id (inr (a, b)) (both_no_shape sql id p q)

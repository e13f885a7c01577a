-- The plain keeper's statements are lawful: a refusal leaves the column, and so does a read.
use Rattle.std.proofs.Common.{◌≡◌, List, Bool, true, false, refl, sym, subst, true≢false}
use Rattle.serial_order.specs.Serial.{Meaning}
use Rattle.hrana_value.specs.declared.value.Value.{Value}
use Rattle.hrana_stmt.specs.declared.codes.Code.{Code}
use Rattle.hrana_stmt.specs.declared.results.StmtResult.{StmtResult}
use Rattle.engine_core.specs.Engine.{is_read, is_write, is_refusal}
use Rattle.engine_core.specs.Plain.{plain_exec, exec_kind, kind_of, select_text, fits_result}
use Rattle.engine_core.specs.declared.entries.Answer.{Answer}
use Rattle.engine_core.specs.declared.entries.Answer.TheVariants.{Gave, Refused}
use Rattle.engine_core.specs.declared.statement.BoundStmt.{BoundStmt}
use Rattle.sql_text.specs.declared.class.Class.{Class}
use Rattle.sql_text.specs.declared.class.Class.TheVariants as class
use Rattle.engine_core.specs.declared.plain_keeper.Kind.{Kind}
use Rattle.engine_core.specs.declared.plain_keeper.Kind.TheVariants.{Insert, Select, Other}
use Rattle.std.specs.Prelude.{nat_lt, length, ◌+◌, ◌-◌, ◌^◌, if◌then◌else◌, nat_eq}
use Rattle.std.specs.Cmp.Lexicographic.{pointwise}

abbrev choice : Bool → List Value → Answer → List Value → Answer → List Value × Answer
choice b new given db refused = if b then (new, given) else (db, refused)

insert_refused : (b : Bool) (db new : List Value) (given : StmtResult) (code : Code) → is_refusal (choice b new (Gave given) db (Refused code)).1 ≡ true → (choice b new (Gave given) db (Refused code)).0 ≡ db
insert_refused true db new given code p = absurd (true≢false (sym p))
insert_refused false db new given code p = refl

select_leaves : (b : Bool) (db : List Value) (given refused : Answer) → (choice b db given db refused).0 ≡ db
select_leaves true db given refused = refl
select_leaves false db given refused = refl

kind_leaves : (k : Kind) (db values : List Value) → is_refusal (exec_kind k db values).1 ≡ true → (exec_kind k db values).0 ≡ db
kind_leaves Insert db values p = insert_refused (nat_lt (length db + 1) (2 ^ 63 - 1)) db _ _ _ p
kind_leaves Select db values p = select_leaves (fits_result db) db _ _
kind_leaves Other db values p = refl

select_or_other : (b : Bool) (db values : List Value) → (exec_kind (if b then Select else Other) db values).0 ≡ db
select_or_other true db values = select_leaves (fits_result db) db _ _
select_or_other false db values = refl

no_write : (c : Class) → is_read c ≡ true → is_write c ≡ false
no_write class.Read p = refl
no_write c p = absurd (true≢false (sym p))

pub refusal_leaves : (db : List Value) (stmt : BoundStmt) → is_refusal (plain_exec db stmt).1 ≡ true → (plain_exec db stmt).0 ≡ db
refusal_leaves db stmt p = kind_leaves (kind_of (is_write stmt.class) stmt.sql) db stmt.values p

pub read_leaves : (db : List Value) (stmt : BoundStmt) → is_read stmt.class ≡ true → (plain_exec db stmt).0 ≡ db
read_leaves db stmt p =
    subst (λ (w : Bool). (exec_kind (kind_of w stmt.sql) db stmt.values).0 ≡ db) (sym (no_write stmt.class p))
    (select_or_other (pointwise nat_eq stmt.sql select_text) db stmt.values)

abbrev pub plain_meaning : Meaning (List Value) BoundStmt Answer
plain_meaning = record {
  exec = plain_exec;
  is_read = λ stmt. is_read stmt.class;
  is_write = λ stmt. is_write stmt.class;
  is_refused = is_refusal;
  refusal_leaves = refusal_leaves;
  read_leaves = read_leaves;
}

-- What the readers of a statement answer, by its parts.
use Rattle.std.proofs.Common.{◌≡◌, Bool, true, None, Some, subst, sym, refl, codes}
use Rattle.std.specs.Prelude.{Result, Ok, Err}
use Rattle.serde_json.specs.Data.{Data, null, boolean, number, string, array, object}
use Rattle.serde_json.specs.Find.{as_bool}
use Rattle.hrana_value.specs.declared.failures.ReadFail.{ReadFail}
use Rattle.hrana_value.specs.declared.failures.ReadFail.TheVariants.{Declined}
use Rattle.hrana_value.specs.declared.failures.Decline.TheVariants.{Shape}
use Rattle.hrana_value.specs.Declines.{Reads}
use Rattle.hrana_value.specs.Members.{part_at}
use Rattle.hrana_value.proofs.DeclineLemmas.{Reads-ok, Reads-weaken, Reads-declined, IsFirst-only}
use Rattle.hrana_stmt.specs.Tree.{WantsRowsTree, WantsRowsStands, StmtTree, StmtStands}
use Rattle.hrana_stmt.specs.Parts.{StmtPartsTree, StmtPartsStand}
use Rattle.hrana_stmt.specs.declared.statements.Stmt.{Stmt}

pub want_rows_read : (t : Data) (wanted : Bool) → WantsRowsTree wanted t → Reads (λ w. WantsRowsTree w t) (WantsRowsStands t) (Ok wanted)
want_rows_read t wanted is = Reads-ok wanted is (λ k here. here.1 wanted is)

pub want_rows_null : (t : Data) → t ≡ null → WantsRowsTree true t
want_rows_null t e = subst (WantsRowsTree true) (sym e) refl

pub want_rows_boolean : (t : Data) (b : Bool) → as_bool t ≡ Some b → WantsRowsTree b t
want_rows_boolean null b e = cc e
want_rows_boolean (boolean c) b e = cc e
want_rows_boolean (number n) b e = cc e
want_rows_boolean (string s) b e = cc e
want_rows_boolean (array ds) b e = cc e
want_rows_boolean (object ms) b e = cc e

no_boolean : (t : Data) (b : Bool) → (t ≡ null → ⊥) → as_bool t ≡ None → WantsRowsTree b t → ⊥
no_boolean null b given e h = given refl
no_boolean (boolean c) b given e h = cc e
no_boolean (number n) b given e h = h
no_boolean (string s) b given e h = h
no_boolean (array ds) b given e h = h
no_boolean (object ms) b given e h = h

pub want_rows_misshaped : (t : Data) → (t ≡ null → ⊥) → as_bool t ≡ None → Reads (λ w. WantsRowsTree w t) (WantsRowsStands t) (Err (Declined Shape))
want_rows_misshaped t given e = Reads-declined Shape (IsFirst-only Shape ((wanted : Bool) → WantsRowsTree wanted t → ⊥) (λ b h. no_boolean t b given e h))

pub stmt_read : (t args named want_rows : Data) (r : Result Stmt ReadFail) → args ≡ part_at (codes "args") t → named ≡ part_at (codes "named_args") t → want_rows ≡ part_at (codes "want_rows") t
    → Reads (λ s. StmtPartsTree s t args named want_rows) (StmtPartsStand t args named want_rows) r → Reads (λ s. StmtTree s t) (StmtStands t) r
stmt_read t args named want_rows r p q e reads =
    let by_args = subst (λ a. Reads (λ s. StmtPartsTree s t a named want_rows) (StmtPartsStand t a named want_rows) r) p reads in
    let by_named = subst (λ n. Reads (λ s. StmtPartsTree s t (part_at (codes "args") t) n want_rows) (StmtPartsStand t (part_at (codes "args") t) n want_rows) r) q by_args in
    let by_all = subst (λ w. Reads (λ s. StmtPartsTree s t (part_at (codes "args") t) (part_at (codes "named_args") t) w) (StmtPartsStand t (part_at (codes "args") t) (part_at (codes "named_args") t) w) r) e by_named in
    Reads-weaken (λ s. StmtPartsTree s t (part_at (codes "args") t) (part_at (codes "named_args") t) (part_at (codes "want_rows") t)) (λ s. StmtTree s t) (StmtStands t) r
    (λ s h. record { sql = h.head.0; args = h.arguments.0; named = h.arguments.1; want_rows = h.head.1 }) by_all

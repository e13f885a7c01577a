-- What is written for a statement is a form of it.
use Rattle.std.proofs.Common.{◌≡◌, ℕ, List, [], ◌∷◌, Bool, true, false, None, Some, codes, refl, subst, sym, ap, ◌∙◌}
use Rattle.std.specs.Prelude.{pos, negsuc, ℤ, unwrap_or}
use Rattle.serde_json.specs.Data.{Data, null, boolean, number, string, array, object, Members, no_members, member}
use Rattle.serde_json.specs.Find.{get_member, of_integer, as_str}
use Rattle.hrana_value.specs.Members.{part_at, whole_of}
use Rattle.hrana_value.specs.Tree.{ValueTree}
use Rattle.hrana_value.specs.Written.{values_data}
use Rattle.hrana_value.specs.Trees.{ArrayTree, OptionalArrayTree}
use Rattle.hrana_stmt.specs.declared.statements.SqlRef.{SqlRef}
use Rattle.hrana_stmt.specs.declared.statements.SqlRef.TheVariants.{Text, Id}
use Rattle.hrana_stmt.specs.declared.statements.Stmt.{Stmt}
use Rattle.hrana_stmt.specs.Tree.{NamedArgTree, StmtTree, SqlTree, WantsRowsTree}
use Rattle.hrana_stmt.specs.Written.{is_empty, member_unless, sql_member, named_args_data, stmt_data}
use Rattle.hrana_stmt.specs.Puts.{SqlIdFits}

-- ---- what stands under each name

skip : (k l : List ℕ) (b : Bool) (d : Data) (ms : Members) → get_member k (member l d ms) ≡ get_member k ms → get_member k (member_unless b l d ms) ≡ get_member k ms
skip k l true d ms h = refl
skip k l false d ms h = h

skip_sql : (k : List ℕ) (sql : SqlRef) (ms : Members) → ((d : Data) → get_member k (member (codes "sql") d ms) ≡ get_member k ms) → ((d : Data) → get_member k (member (codes "sql_id") d ms) ≡ get_member k ms)
    → get_member k (sql_member sql ms) ≡ get_member k ms
skip_sql k (Text s) ms p q = p (string s)
skip_sql k (Id z) ms p q = q (number (of_integer z))

abbrev last : Bool → Members
last w = member_unless w (codes "want_rows") (boolean false) no_members

abbrev after_named : SqlRef → Bool → Members
after_named sql w = sql_member sql (last w)

abbrev after_args : Bool → Data → SqlRef → Bool → Members
after_args n named sql w = member_unless n (codes "named_args") named (after_named sql w)

abbrev all_members : Bool → Data → Bool → Data → SqlRef → Bool → Members
all_members a args n named sql w = member_unless a (codes "args") args (after_args n named sql w)

abbrev null_if : Bool → Data → Data
null_if true d = null
null_if false d = d

part_of : (k : List ℕ) (ms more : Members) → get_member k ms ≡ get_member k more → part_at k (object ms) ≡ part_at k (object more)
part_of k ms more e = ap (λ o. unwrap_or o null) e

none_last : (k : List ℕ) (w : Bool) → get_member k (member (codes "want_rows") (boolean false) no_members) ≡ None → get_member k (last w) ≡ None
none_last k true h = refl
none_last k false h = h

args_part : (a : Bool) (args : Data) (n : Bool) (named : Data) (sql : SqlRef) (w : Bool) → part_at (codes "args") (object (all_members a args n named sql w)) ≡ null_if a args
args_part false args n named sql w = refl
args_part true args n named sql w =
    ap (λ o. unwrap_or o null) (skip (codes "args") (codes "named_args") n named (after_named sql w) refl ∙ skip_sql (codes "args") sql (last w) (λ d. refl) (λ d. refl) ∙ none_last (codes "args") w refl)

named_part : (a : Bool) (args : Data) (n : Bool) (named : Data) (sql : SqlRef) (w : Bool) → part_at (codes "named_args") (object (all_members a args n named sql w)) ≡ null_if n named
named_part a args false named sql w = part_of (codes "named_args") (all_members a args false named sql w) (after_args false named sql w) (skip (codes "named_args") (codes "args") a args (after_args false named sql w) refl)
named_part a args true named sql w =
    ap (λ o. unwrap_or o null) (skip (codes "named_args") (codes "args") a args (after_args true named sql w) refl ∙ skip_sql (codes "named_args") sql (last w) (λ d. refl) (λ d. refl) ∙ none_last (codes "named_args") w refl)

past_args : (k : List ℕ) (a : Bool) (args : Data) (n : Bool) (named : Data) (sql : SqlRef) (w : Bool) → ((d : Data) (ms : Members) → get_member k (member (codes "args") d ms) ≡ get_member k ms)
    → ((d : Data) (ms : Members) → get_member k (member (codes "named_args") d ms) ≡ get_member k ms) → get_member k (all_members a args n named sql w) ≡ get_member k (after_named sql w)
past_args k a args n named sql w p q = skip k (codes "args") a args (after_args n named sql w) (p args (after_args n named sql w)) ∙ skip k (codes "named_args") n named (after_named sql w) (q named (after_named sql w))

want_part : (a : Bool) (args : Data) (n : Bool) (named : Data) (sql : SqlRef) (w : Bool) → part_at (codes "want_rows") (object (all_members a args n named sql w)) ≡ null_if w (boolean false)
want_part a args n named sql true =
    ap (λ o. unwrap_or o null) (past_args (codes "want_rows") a args n named sql true (λ d ms. refl) (λ d ms. refl) ∙ skip_sql (codes "want_rows") sql no_members (λ d. refl) (λ d. refl))
want_part a args n named sql false =
    ap (λ o. unwrap_or o null) (past_args (codes "want_rows") a args n named sql false (λ d ms. refl) (λ d ms. refl) ∙ skip_sql (codes "want_rows") sql (last false) (λ d. refl) (λ d. refl))

sql_part : (a : Bool) (args : Data) (n : Bool) (named : Data) (s : List ℕ) (w : Bool) → part_at (codes "sql") (object (all_members a args n named (Text s) w)) ≡ string s
sql_part a args n named s w = ap (λ o. unwrap_or o null) (past_args (codes "sql") a args n named (Text s) w (λ d ms. refl) (λ d ms. refl))

no_id_part : (a : Bool) (args : Data) (n : Bool) (named : Data) (s : List ℕ) (w : Bool) → part_at (codes "sql_id") (object (all_members a args n named (Text s) w)) ≡ null
no_id_part a args n named s w = ap (λ o. unwrap_or o null) (past_args (codes "sql_id") a args n named (Text s) w (λ d ms. refl) (λ d ms. refl) ∙ none_last (codes "sql_id") w refl)

id_part : (a : Bool) (args : Data) (n : Bool) (named : Data) (z : ℤ) (w : Bool) → part_at (codes "sql_id") (object (all_members a args n named (Id z) w)) ≡ number (of_integer z)
id_part a args n named z w = ap (λ o. unwrap_or o null) (past_args (codes "sql_id") a args n named (Id z) w (λ d ms. refl) (λ d ms. refl))

no_sql_part : (a : Bool) (args : Data) (n : Bool) (named : Data) (z : ℤ) (w : Bool) → part_at (codes "sql") (object (all_members a args n named (Id z) w)) ≡ null
no_sql_part a args n named z w = ap (λ o. unwrap_or o null) (past_args (codes "sql") a args n named (Id z) w (λ d ms. refl) (λ d ms. refl) ∙ none_last (codes "sql") w refl)

-- ---- the parts are forms of the statement's

whole-of_integer : (z : ℤ) → whole_of (number (of_integer z)) ≡ Some z
whole-of_integer (pos n) = refl
whole-of_integer (negsuc n) = refl

sql_back : (sql : SqlRef) (a : Bool) (args : Data) (n : Bool) (named : Data) (w : Bool) → SqlIdFits sql → SqlTree sql (object (all_members a args n named sql w))
sql_back (Text s) a args n named w fits = (ap as_str (sql_part a args n named s w), no_id_part a args n named s w)
sql_back (Id z) a args n named w fits =
    (record { is = ap whole_of (id_part a args n named z w) ∙ whole-of_integer z; fits = fits }, no_sql_part a args n named z w)

array_back : {A : Type 0} (tree : A → Data → Type 0) (xs : List A) (d : Data) → ArrayTree tree xs d → OptionalArrayTree tree xs d
array_back tree xs null t = absurd t
array_back tree xs (boolean b) t = absurd t
array_back tree xs (number n) t = absurd t
array_back tree xs (string s) t = absurd t
array_back tree xs (array ds) t = t
array_back tree xs (object ms) t = absurd t

list_back : {A : Type 0} (tree : A → Data → Type 0) (xs : List A) (d part : Data) → part ≡ null_if (is_empty xs) d → ArrayTree tree xs d → OptionalArrayTree tree xs part
list_back tree [] d part e t = subst (OptionalArrayTree tree []) (sym e) refl
list_back tree (x ∷ xs) d part e t = subst (OptionalArrayTree tree (x ∷ xs)) (sym e) (array_back tree (x ∷ xs) d t)

want_back : (w : Bool) (part : Data) → part ≡ null_if w (boolean false) → WantsRowsTree w part
want_back true part e = subst (WantsRowsTree true) (sym e) refl
want_back false part e = subst (WantsRowsTree false) (sym e) refl

pub stmt_back : (s : Stmt) → ArrayTree ValueTree s.args (array (values_data s.args)) → ArrayTree NamedArgTree s.named (named_args_data s.named) → SqlIdFits s.sql → StmtTree s (stmt_data s)
stmt_back s p q fits =
    let a = is_empty s.args in let n = is_empty s.named in let args = array (values_data s.args) in let named = named_args_data s.named in
    record {
      sql = sql_back s.sql a args n named s.want_rows fits;
      args = list_back ValueTree s.args args _ (args_part a args n named s.sql s.want_rows) p;
      named = list_back NamedArgTree s.named named _ (named_part a args n named s.sql s.want_rows) q;
      want_rows = want_back s.want_rows _ (want_part a args n named s.sql s.want_rows);
    }

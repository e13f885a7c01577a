-- What the readers of results and errors answer, by their parts.
use Rattle.std.proofs.Common.{◌≡◌, ap, ◌∙◌, List, Option, ℕ, ℤ, refl, codes}
use Rattle.std.specs.Prelude.{pos}
use Rattle.serde_json.specs.Data.{Data}
use Rattle.hrana_value.specs.declared.value.Value.{Value}
use Rattle.hrana_value.specs.Declines.{EitherStands, NoneStands}
use Rattle.hrana_value.specs.Members.{part_at, TextTree, TextStands, Uint64Tree, Uint64Stands, FitsUnsigned}
use Rattle.hrana_value.specs.Tree.{ValueTree, ValueStands, Int64TextTree, Int64TextStands}
use Rattle.hrana_value.specs.Trees.{ArrayStands, OptionalStands}
use Rattle.hrana_value.proofs.TextLemmas.{one}
use Rattle.hrana_value.proofs.TreeLemmas.{ValueTree-one, ValueTree-none}
use Rattle.hrana_value.proofs.ItemsLemmas.{ArrayTree-one}
use Rattle.hrana_value.proofs.ArrayLemmas.{ArrayTree-none}
use Rattle.hrana_value.proofs.PartLemmas.{OptionalTree-one, OptionalTree-none, TextTree-none, Int64TextTree-one, Int64TextTree-none, WholeStands-none}
use Rattle.hrana_value.proofs.DeclineLemmas.{NoneStands-parts}
use Rattle.hrana_stmt.specs.Tree.{ObjectStands, ColTree, ColStands, RowTree, RowStands, NoTreeIsTwoResults, NoTreeIsTwoErrors, ResultsAreRead, ErrorsAreRead}
use Rattle.hrana_stmt.specs.declared.results.Col.{Col}
use Rattle.hrana_stmt.specs.declared.results.StmtResult.{StmtResult}
use Rattle.hrana_stmt.specs.declared.errors.WireError.{WireError}

-- ---- a tree is one of at most one result or error

text_one : (t : Data) (s r : List ℕ) → TextTree s t → TextTree r t → s ≡ r
text_one t s r p q = one _ _ _ p q

abbrev col : Option (List ℕ) → Col
col name = record { name = name }

pub ColTree-one : (t : Data) (a b : Col) → ColTree a t → ColTree b t → a ≡ b
ColTree-one t a b p q = ap col (OptionalTree-one TextTree text_one (part_at (codes "name") t) a.name b.name p.name q.name)

RowTree-one : (t : Data) (a b : List Value) → RowTree a t → RowTree b t → a ≡ b
RowTree-one t a b p q = ArrayTree-one ValueTree ValueTree-one t a b p q

affected_one : (t : Data) (m n : ℕ) → Uint64Tree m t → Uint64Tree n t → m ≡ n
affected_one t m n p q = let same : pos m ≡ pos n = one _ _ _ p.is q.is in cc same

abbrev make : List Col → List (List Value) → ℕ → Option ℤ → StmtResult
make a b c d = record { cols = a; rows = b; affected = c; last_rowid = d }

pub StmtResultTree-one : NoTreeIsTwoResults
StmtResultTree-one t s r p q =
    let cols : s.cols ≡ r.cols = ArrayTree-one ColTree ColTree-one _ s.cols r.cols p.cols q.cols in
    let rows : s.rows ≡ r.rows = ArrayTree-one RowTree RowTree-one _ s.rows r.rows p.rows q.rows in
    let affected : s.affected ≡ r.affected = affected_one _ s.affected r.affected p.affected q.affected in
    let rowid : s.last_rowid ≡ r.last_rowid = OptionalTree-one Int64TextTree Int64TextTree-one _ s.last_rowid r.last_rowid p.last_rowid q.last_rowid in
    ap (λ a. make a s.rows s.affected s.last_rowid) cols ∙ ap (λ b. make r.cols b s.affected s.last_rowid) rows
    ∙ ap (λ c. make r.cols r.rows c s.last_rowid) affected ∙ ap (make r.cols r.rows r.affected) rowid

abbrev make_error : List ℕ → Option (List ℕ) → WireError
make_error m c = record { message = m; code = c }

pub WireErrorTree-one : NoTreeIsTwoErrors
WireErrorTree-one t e f p q =
    let message : e.message ≡ f.message = one _ _ _ p.message q.message in
    let code : e.code ≡ f.code = OptionalTree-one TextTree text_one _ e.code f.code p.code q.code in
    ap (λ m. make_error m e.code) message ∙ ap (make_error f.message) code

-- ---- results and errors are read

pub ColTree-none : (c : Col) (t : Data) → ColTree c t → NoneStands (ColStands t)
ColTree-none c t p =
    NoneStands-parts (ObjectStands t) (OptionalStands TextStands (part_at (codes "name") t)) (λ k here. here.1 p.is_object)
    (OptionalTree-none TextTree TextStands TextTree-none c.name (part_at (codes "name") t) p.name)

RowTree-none : (row : List Value) (t : Data) → RowTree row t → NoneStands (RowStands t)
RowTree-none row t p = ArrayTree-none ValueTree ValueStands ValueTree-none row t p

affected_none : (n : ℕ) (t : Data) → Uint64Tree n t → NoneStands (Uint64Stands t)
affected_none n t p = WholeStands-none (FitsUnsigned 64) t (pos n) p.is (n, refl, p.fits)

pub StmtResultTree-none : ResultsAreRead
StmtResultTree-none r t p =
    let c = part_at (codes "cols") t in let w = part_at (codes "rows") t in let a = part_at (codes "affected_row_count") t in let i = part_at (codes "last_insert_rowid") t in
    NoneStands-parts (EitherStands (ArrayStands ColStands c) (ArrayStands RowStands w)) (EitherStands (Uint64Stands a) (OptionalStands Int64TextStands i))
    (NoneStands-parts (ArrayStands ColStands c) (ArrayStands RowStands w) (ArrayTree-none ColTree ColStands ColTree-none r.cols c p.cols) (ArrayTree-none RowTree RowStands RowTree-none r.rows w p.rows))
    (NoneStands-parts (Uint64Stands a) (OptionalStands Int64TextStands i) (affected_none r.affected a p.affected) (OptionalTree-none Int64TextTree Int64TextStands Int64TextTree-none r.last_rowid i p.last_rowid))

pub WireErrorTree-none : ErrorsAreRead
WireErrorTree-none e t p =
    let m = part_at (codes "message") t in let c = part_at (codes "code") t in
    NoneStands-parts (TextStands m) (OptionalStands TextStands c) (TextTree-none e.message m p.message) (OptionalTree-none TextTree TextStands TextTree-none e.code c p.code)

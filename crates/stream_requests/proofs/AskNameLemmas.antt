-- The names of the kinds of asks are the rows of their table, and differ.
use Rattle.std.proofs.Common.{◌≡◌, ℕ, ◌<◌, List, [], ◌∷◌, length, get_or, codes, refl, ◌∙◌, lit<}
use Rattle.hrana_value.proofs.NameLemmas.{RowsDiffer-tested}
use Rattle.stream_requests.specs.declared.asks.AskKind.{AskKind}
use Rattle.stream_requests.specs.declared.asks.AskKind.TheVariants.{Execute, Batch, Sequence, Cursor, Fetch, CloseCursor, GetAutocommit, StoreSql, CloseSql, Close}
use Rattle.stream_requests.specs.AskNames.{ask_name}
use Rattle.stream_requests.proofs.NameLemmas.{one_name}

abbrev pub place_of : AskKind → ℕ
place_of Execute = 0
place_of Batch = 1
place_of Sequence = 2
place_of Cursor = 3
place_of Fetch = 4
place_of CloseCursor = 5
place_of GetAutocommit = 6
place_of StoreSql = 7
place_of CloseSql = 8
place_of Close = 9

abbrev all_kinds : List AskKind
all_kinds = Execute ∷ Batch ∷ Sequence ∷ Cursor ∷ Fetch ∷ CloseCursor ∷ GetAutocommit ∷ StoreSql ∷ CloseSql ∷ Close ∷ []

abbrev pub all_names : List (List ℕ)
all_names = codes "execute" ∷ codes "batch" ∷ codes "sequence" ∷ codes "open_cursor" ∷ codes "fetch_cursor" ∷ codes "close_cursor" ∷ codes "get_autocommit" ∷ codes "store_sql" ∷ codes "close_sql" ∷ codes "close" ∷ []

within : (k : AskKind) → place_of k < length all_names
within Execute = lit< tt
within k = lit< tt

named : (k : AskKind) → get_or all_names (place_of k) [] ≡ ask_name k
named Execute = refl
named k = refl

placed : (k : AskKind) → get_or all_kinds (place_of k) Execute ≡ k
placed Execute = refl
placed k = refl

pub names_differ : (k l : AskKind) → ask_name k ≡ ask_name l → k ≡ l
names_differ k l e = one_name ask_name place_of all_names all_kinds Execute (RowsDiffer-tested all_names refl) within named placed k l e

-- a text of no row is the name of no kind
pub none_named : (text : List ℕ) → ((i : ℕ) → i < length all_names → get_or all_names i [] ≡ text → ⊥) → (k : AskKind) → ask_name k ≡ text → ⊥
none_named text none k e = none (place_of k) (within k) (named k ∙ e)

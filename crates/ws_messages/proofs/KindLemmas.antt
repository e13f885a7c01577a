-- The names of the kinds of requests.
use Rattle.std.proofs.Common.{◌≡◌, ℕ, ◌<◌, List, [], ◌∷◌, length, get_or, Option, None, Some, codes, refl, sym, ap, ◌∙◌, lit<}
use Rattle.hrana_value.proofs.NameLemmas.{RowsDiffer-tested}
use Rattle.hrana_value.proofs.TextLemmas.{apart}
use Rattle.stream_requests.specs.declared.asks.AskKind.{AskKind}
use Rattle.stream_requests.specs.declared.asks.AskKind.TheVariants as ask
use Rattle.stream_requests.specs.AskNames.{ask_name}
use Rattle.stream_requests.proofs.NameLemmas.{one_name}
use Rattle.ws_messages.specs.declared.kinds.Kind.{Kind}
use Rattle.ws_messages.specs.declared.kinds.Kind.TheVariants.{OpenStream, CloseStream, Execute, Batch, OpenCursor, CloseCursor, FetchCursor, Sequence, StoreSql, CloseSql, GetAutocommit}
use Rattle.ws_messages.specs.Kinds.{name_of, kind_of, IsStreamAsk}

abbrev pub place_of : Kind → ℕ
place_of OpenStream = 0
place_of CloseStream = 1
place_of Execute = 2
place_of Batch = 3
place_of OpenCursor = 4
place_of CloseCursor = 5
place_of FetchCursor = 6
place_of Sequence = 7
place_of StoreSql = 8
place_of CloseSql = 9
place_of GetAutocommit = 10

abbrev all_kinds : List Kind
all_kinds = OpenStream ∷ CloseStream ∷ Execute ∷ Batch ∷ OpenCursor ∷ CloseCursor ∷ FetchCursor ∷ Sequence ∷ StoreSql ∷ CloseSql ∷ GetAutocommit ∷ []

abbrev pub all_names : List (List ℕ)
all_names = codes "open_stream" ∷ codes "close_stream" ∷ codes "execute" ∷ codes "batch" ∷ codes "open_cursor" ∷ codes "close_cursor" ∷ codes "fetch_cursor" ∷ codes "sequence" ∷ codes "store_sql" ∷ codes "close_sql" ∷ codes "get_autocommit" ∷ []

pub within : (k : Kind) → place_of k < length all_names
within OpenStream = lit< tt
within k = lit< tt

pub named : (k : Kind) → get_or all_names (place_of k) [] ≡ name_of k
named OpenStream = refl
named k = refl

placed : (k : Kind) → get_or all_kinds (place_of k) OpenStream ≡ k
placed OpenStream = refl
placed k = refl

pub name_of-one : (k l : Kind) → name_of k ≡ name_of l → k ≡ l
name_of-one k l e = one_name name_of place_of all_names all_kinds OpenStream (RowsDiffer-tested all_names refl) within named placed k l e

pub not_describe : (k : Kind) → name_of k ≡ codes "describe" → ⊥
not_describe OpenStream e = apart (Some (name_of OpenStream)) (name_of OpenStream) (codes "describe") refl refl (ap Some e)
not_describe k e = apart (Some (name_of k)) (name_of k) (codes "describe") refl refl (ap Some e)

-- ---- what is asked

abbrev ask_of : Kind → Option AskKind
ask_of OpenStream = None
ask_of CloseStream = Some ask.Close
ask_of Execute = Some ask.Execute
ask_of Batch = Some ask.Batch
ask_of OpenCursor = Some ask.Cursor
ask_of CloseCursor = Some ask.CloseCursor
ask_of FetchCursor = Some ask.Fetch
ask_of Sequence = Some ask.Sequence
ask_of StoreSql = Some ask.StoreSql
ask_of CloseSql = Some ask.CloseSql
ask_of GetAutocommit = Some ask.GetAutocommit

asked : (k : AskKind) → ask_of (kind_of k) ≡ Some k
asked ask.Execute = refl
asked k = refl

-- a text that is neither of the two names nor that of an ask is the name of no kind
pub none_named : (text : List ℕ) → (text ≡ codes "open_stream" → ⊥) → (text ≡ codes "close_stream" → ⊥) → ((j : AskKind) → ask_name j ≡ text → ⊥) → (k : Kind) → name_of k ≡ text → ⊥
none_named text opens closes asks OpenStream e = opens (sym e)
none_named text opens closes asks CloseStream e = closes (sym e)
none_named text opens closes asks Execute e = asks ask.Execute e
none_named text opens closes asks Batch e = asks ask.Batch e
none_named text opens closes asks OpenCursor e = asks ask.Cursor e
none_named text opens closes asks CloseCursor e = asks ask.CloseCursor e
none_named text opens closes asks FetchCursor e = asks ask.Fetch e
none_named text opens closes asks Sequence e = asks ask.Sequence e
none_named text opens closes asks StoreSql e = asks ask.StoreSql e
none_named text opens closes asks CloseSql e = asks ask.CloseSql e
none_named text opens closes asks GetAutocommit e = asks ask.GetAutocommit e

pub kind_of-one : (j k : AskKind) → kind_of j ≡ kind_of k → j ≡ k
kind_of-one j k e = let same : Some j ≡ Some k = sym (asked j) ∙ ap ask_of e ∙ asked k in cc same

-- the kinds that ask a stream
abbrev pub IsStreamKind : Kind → Type 0
IsStreamKind CloseStream = Unit {0}
IsStreamKind Execute = Unit {0}
IsStreamKind Batch = Unit {0}
IsStreamKind Sequence = Unit {0}
IsStreamKind GetAutocommit = Unit {0}
IsStreamKind k = ⊥

pub kind_of-stream : (k : AskKind) → IsStreamAsk k → IsStreamKind (kind_of k)
kind_of-stream ask.Execute h = tt
kind_of-stream k h = h

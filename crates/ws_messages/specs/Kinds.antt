-- The kinds of requests, their names, and what a request of each kind asks.
use Rattle.std.specs.Prelude.{◌≡◌, ℕ, List, codes}
use Rattle.stream_requests.specs.declared.asks.AskKind.{AskKind}
use Rattle.stream_requests.specs.declared.asks.AskKind.TheVariants as ask
use Rattle.stream_requests.specs.AskNames.{ask_name}
use Rattle.ws_messages.specs.declared.kinds.Kind.{Kind}
use Rattle.ws_messages.specs.declared.kinds.Kind.TheVariants.{OpenStream, CloseStream, Execute, Batch, OpenCursor, CloseCursor, FetchCursor, Sequence, StoreSql, CloseSql, GetAutocommit}

-- the names of asks, and two of its own: that a stream is closed has another over HTTP
abbrev pub name_of : Kind → List ℕ
name_of OpenStream = codes "open_stream"
name_of CloseStream = codes "close_stream"
name_of Execute = ask_name ask.Execute
name_of Batch = ask_name ask.Batch
name_of OpenCursor = ask_name ask.Cursor
name_of CloseCursor = ask_name ask.CloseCursor
name_of FetchCursor = ask_name ask.Fetch
name_of Sequence = ask_name ask.Sequence
name_of StoreSql = ask_name ask.StoreSql
name_of CloseSql = ask_name ask.CloseSql
name_of GetAutocommit = ask_name ask.GetAutocommit

-- the kind of request that asks so
abbrev pub kind_of : AskKind → Kind
kind_of ask.Execute = Execute
kind_of ask.Batch = Batch
kind_of ask.Sequence = Sequence
kind_of ask.Cursor = OpenCursor
kind_of ask.Fetch = FetchCursor
kind_of ask.CloseCursor = CloseCursor
kind_of ask.GetAutocommit = GetAutocommit
kind_of ask.StoreSql = StoreSql
kind_of ask.CloseSql = CloseSql
kind_of ask.Close = CloseStream

-- a request that names a stream and nothing else asks so
abbrev pub IsStreamAsk : AskKind → Type 0
IsStreamAsk ask.Execute = Unit {0}
IsStreamAsk ask.Batch = Unit {0}
IsStreamAsk ask.Sequence = Unit {0}
IsStreamAsk ask.GetAutocommit = Unit {0}
IsStreamAsk ask.Close = Unit {0}
IsStreamAsk k = ⊥

-- no two kinds have one name
abbrev pub KindsDiffer : Type 0
KindsDiffer = (j k : Kind) → name_of j ≡ name_of k → j ≡ k

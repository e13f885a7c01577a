-- The names of the kinds of asks.
use Rattle.std.specs.Prelude.{ℕ, List, codes}
use Rattle.stream_requests.specs.declared.asks.AskKind.{AskKind}
use Rattle.stream_requests.specs.declared.asks.AskKind.TheVariants.{Execute, Batch, Sequence, Cursor, Fetch, CloseCursor, GetAutocommit, StoreSql, CloseSql, Close}

-- the `type` of a request that asks so, and of the response to it; over a WebSocket a request to close its stream has another
abbrev pub ask_name : AskKind → List ℕ
ask_name Execute = codes "execute"
ask_name Batch = codes "batch"
ask_name Sequence = codes "sequence"
ask_name Cursor = codes "open_cursor"
ask_name Fetch = codes "fetch_cursor"
ask_name CloseCursor = codes "close_cursor"
ask_name GetAutocommit = codes "get_autocommit"
ask_name StoreSql = codes "store_sql"
ask_name CloseSql = codes "close_sql"
ask_name Close = codes "close"

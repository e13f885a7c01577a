-- What is written for a message of the server is not too deep to be read.
use Rattle.std.proofs.Common.{◌≡◌, ℕ, ◌≤◌, List, Some, arith}
use Rattle.std.specs.Prelude.{IsUtf8, Result, Ok, Err, IfOk, OnOk}
use Rattle.serde_json.specs.Data.{depth}
use Rattle.serde_json.specs.Read.{read, max_depth}
use Rattle.hrana_value.specs.declared.failures.NoMemory.{NoMemory}
use Rattle.hrana_stmt.proofs.Depths.{depth-result_data, depth-error_data}
use Rattle.hrana_batch.proofs.Depths.{depth-batch_result_data}
use Rattle.stream_requests.specs.declared.replies.Reply.{Reply}
use Rattle.stream_requests.specs.declared.replies.Reply.TheVariants.{Execute, Batch, Fetched}
use Rattle.stream_requests.proofs.Depths.{depth-entries_data}
use Rattle.ws_messages.specs.declared.kinds.Kind.{Kind}
use Rattle.ws_messages.specs.declared.messages.ServerMsg.{ServerMsg}
use Rattle.ws_messages.specs.declared.messages.ServerMsg.TheVariants as server
use Rattle.ws_messages.specs.Server.{ServerTree, HasServerForm, IsServerText}
use Rattle.ws_messages.specs.WrittenServer.{response_data, server_data}

-- ---- depth

depth_response : (r : Reply) (k : Kind) → depth (response_data k r) ≤ 7
depth_response (Execute s) k = omega (arith, depth-result_data s)
depth_response (Batch s) k = omega (arith, depth-batch_result_data s)
depth_response (Fetched entries done) k = omega (arith, depth-entries_data entries)
depth_response r k = omega arith

pub depth-server_data : (m : ServerMsg) → depth (server_data m) ≤ 8
depth-server_data server.HelloOk = omega arith
depth-server_data (server.HelloError e) = omega (arith, depth-error_data e)
depth-server_data (server.Ok id k r) = omega (arith, depth_response r k)
depth-server_data (server.Error id e) = omega (arith, depth-error_data e)

-- ---- the text

pub encoded : (m : ServerMsg) (r : Result (List ℕ) NoMemory) → HasServerForm m → IfOk r IsUtf8 → IfOk r (λ text. depth (server_data m) ≤ max_depth → read text ≡ Some (server_data m)) → OnOk r (HasServerForm m → ServerTree m (server_data m)) → IfOk r (λ text. IsServerText text m)
encoded m (Ok text) formed utf8 is back = let deep = depth-server_data m in (server_data m, (utf8, is (omega (arith, deep))), back formed)
encoded m (Err e) formed utf8 is back = tt

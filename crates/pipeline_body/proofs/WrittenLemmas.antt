-- What is written for a body or an answer of a pipeline is a form of it, and is not too deep to be read.
use Rattle.std.proofs.Common.{◌≡◌, ℕ, ◌≤◌, List, [], ◌∷◌, Option, None, Some, Ok, Err, map, refl, arith}
use Rattle.std.specs.Prelude.{Result, IfOk, OnOk, IsUtf8, All}
use Rattle.std.proofs.lemmas.List.Elements.{All-head, All-tail}
use Rattle.serde_json.specs.Data.{Data, Items, no_items, item, depth, items_depth}
use Rattle.serde_json.specs.Read.{read, max_depth}
use Rattle.serde_json.specs.View.{items_of}
use Rattle.hrana_value.specs.declared.failures.NoMemory.{NoMemory}
use Rattle.hrana_value.specs.Members.{TextTree}
use Rattle.hrana_value.specs.Trees.{OptionalTree, ItemsTree, ArrayTree}
use Rattle.hrana_value.proofs.Depths.{items_depth-map}
use Rattle.hrana_stmt.specs.declared.statements.SqlRef.TheVariants as sql
use Rattle.hrana_stmt.specs.Written.{optional_text}
use Rattle.hrana_stmt.proofs.Depths.{depth-stmt_data, depth-optional_text, depth-result_data, depth-error_data}
use Rattle.hrana_batch.specs.Written.{batch_data}
use Rattle.hrana_batch.proofs.Depths.{depth-batch_data, depth-batch_result_data}
use Rattle.stream_requests.specs.declared.asks.Ask.{Ask}
use Rattle.stream_requests.specs.declared.asks.Ask.TheVariants as asks
use Rattle.stream_requests.specs.declared.replies.Reply.{Reply}
use Rattle.stream_requests.specs.declared.replies.Reply.TheVariants as reply
use Rattle.stream_requests.specs.Asks.{ask_kind, AskFits, AskReadsBack}
use Rattle.stream_requests.specs.Results.{IsPipelineKind, IsPipelineReply, ResultTree}
use Rattle.stream_requests.specs.WrittenResults.{result_data}
use Rattle.stream_requests.proofs.AskLemmas.{AskMembers-fits}
use Rattle.stream_requests.proofs.AskWritten.{int32_back}
use Rattle.stream_requests.proofs.BatchFacts.{batches_fit}
use Rattle.stream_requests.proofs.Depths.{depth-entries_data}
use Rattle.pipeline_body.specs.declared.bodies.PipeAsk.{PipeAsk}
use Rattle.pipeline_body.specs.declared.bodies.PipeAsk.TheVariants as pipe
use Rattle.pipeline_body.specs.declared.bodies.PipelineBody.{PipelineBody}
use Rattle.pipeline_body.specs.declared.bodies.PipelineAnswer.{PipelineAnswer}
use Rattle.pipeline_body.specs.Requests.{RequestTree, PipeAskTree}
use Rattle.pipeline_body.specs.Bodies.{HasAskForm, HasBodyForm, FitsInPlace, BodyFits, IsBodyTree, IsBody}
use Rattle.pipeline_body.specs.Answers.{HasAnswerForm, AnswerTree, IsAnswer}
use Rattle.pipeline_body.specs.Written.{request_data, pipe_ask_data, asks_data, body_data, results_data, answer_data}
use Rattle.pipeline_body.proofs.RequestLemmas.{RequestTree-fits}

-- ---- requests

request_back : (a : Ask) → IsPipelineKind (ask_kind a) → AskReadsBack a → RequestTree a (request_data a)
request_back (asks.Execute stmt) formed h = record { kind = record { over_http = tt; name = refl }; members = h }
request_back (asks.Batch batch) formed h = record { kind = record { over_http = tt; name = refl }; members = h }
request_back (asks.Sequence (sql.Text s)) formed h = record { kind = record { over_http = tt; name = refl }; members = (refl, refl) }
request_back (asks.Sequence (sql.Id z)) formed h = record { kind = record { over_http = tt; name = refl }; members = (int32_back z h, refl) }
request_back asks.GetAutocommit formed h = record { kind = record { over_http = tt; name = refl }; members = tt }
request_back (asks.StoreSql id s) formed h = record { kind = record { over_http = tt; name = refl }; members = (int32_back id h, refl) }
request_back (asks.CloseSql id) formed h = record { kind = record { over_http = tt; name = refl }; members = int32_back id h }
request_back asks.Close formed h = record { kind = record { over_http = tt; name = refl }; members = tt }
request_back a formed h = absurd formed

pub pipe_back : (a : Ask) → AskReadsBack a → IsPipelineKind (ask_kind a) × AskFits a → PipeAskTree (pipe.Ask a) (request_data a)
pipe_back a h met = let tree = request_back a met.0 h in (tree, (RequestTree-fits (AskMembers-fits batches_fit) a (request_data a) tree).0 met.1)

request_depth : (a : Ask) → RequestTree a (request_data a) → AskFits a → depth (request_data a) ≤ 71
request_depth (asks.Execute stmt) p fits = omega (arith, depth-stmt_data stmt)
request_depth (asks.Batch batch) p fits = omega (arith, depth-batch_data batch (batch_data batch) p.members fits)
request_depth (asks.Sequence (sql.Text s)) p fits = omega arith
request_depth (asks.Sequence (sql.Id z)) p fits = omega arith
request_depth (asks.Cursor batch) p fits = omega (arith, depth-batch_data batch (batch_data batch) p.members fits)
request_depth (asks.Fetch count) p fits = omega arith
request_depth asks.CloseCursor p fits = omega arith
request_depth asks.GetAutocommit p fits = omega arith
request_depth (asks.StoreSql id s) p fits = omega arith
request_depth (asks.CloseSql id) p fits = omega arith
request_depth asks.Close p fits = omega arith

-- ---- lists

-- each item is a form of its own, where it meets what it needs for that
items_met : {A : Type 0} (met : A → Type 0) (tree : A → Data → Type 0) (xs : List A) (ds : Items) → ItemsTree (λ x t. met x → tree x t) xs ds → All met xs → ItemsTree tree xs ds
items_met met tree [] no_items p all = tt
items_met met tree [] (item d ds) p all = absurd p
items_met met tree (x ∷ xs) no_items p all = absurd p
items_met met tree (x ∷ xs) (item d ds) p all = (p.0 (All-head met x xs all), items_met met tree xs ds p.1 (All-tail met x xs all))

token_back : (o : Option (List ℕ)) → OptionalTree TextTree o (optional_text o)
token_back None = refl
token_back (Some s) = (λ e. cc e, refl)

-- ---- bodies

abbrev AskMet : PipeAsk → Type 0
AskMet x = HasAskForm x × FitsInPlace x

pub body_back : (b : PipelineBody) → ArrayTree (λ x t. HasAskForm x × FitsInPlace x → PipeAskTree x t) b.asks (asks_data b.asks) → HasBodyForm b → BodyFits b → IsBodyTree b (body_data b)
body_back b p formed fits = (record { baton = token_back b.baton; asks = items_met AskMet PipeAskTree b.asks (items_of (map pipe_ask_data b.asks)) p (λ k d h. (formed k d h, fits.asks k d h)) }, fits.count)

asks_depth : (xs : List PipeAsk) → ItemsTree PipeAskTree xs (items_of (map pipe_ask_data xs)) → All FitsInPlace xs → items_depth (items_of (map pipe_ask_data xs)) ≤ 71
asks_depth [] p fits = omega arith
asks_depth (pipe.Ask a ∷ xs) p fits = omega (arith, request_depth a p.0.0 (All-head FitsInPlace (pipe.Ask a) xs fits), asks_depth xs p.1 (All-tail FitsInPlace (pipe.Ask a) xs fits))
asks_depth (pipe.Declined d ∷ xs) p fits = absurd (All-head FitsInPlace (pipe.Declined d) xs fits)

body_depth : (b : PipelineBody) → ItemsTree PipeAskTree b.asks (items_of (map pipe_ask_data b.asks)) → BodyFits b → depth (body_data b) ≤ max_depth
body_depth b p fits = omega (arith, depth-optional_text b.baton, asks_depth b.asks p fits.asks)

pub encoded_body : (b : PipelineBody) (r : Result (List ℕ) NoMemory) → HasBodyForm b → IfOk r IsUtf8 → IfOk r (λ text. depth (body_data b) ≤ max_depth → read text ≡ Some (body_data b)) → OnOk r (HasBodyForm b → BodyFits b → IsBodyTree b (body_data b))
    → IfOk r (λ text. BodyFits b → IsBody text b)
encoded_body b (Ok text) formed utf8 reads back = λ fits. let tree = back formed fits in (body_data b, (utf8, reads (body_depth b tree.0.asks fits)), tree)
encoded_body b (Err e) formed utf8 reads back = tt

-- ---- answers

pub answer_back : (a : PipelineAnswer) → ArrayTree (λ r t. IsPipelineReply r → ResultTree r t) a.results (results_data a.results) → HasAnswerForm a → AnswerTree a (answer_data a)
answer_back a p formed = record { texts = (token_back a.baton, (None, refl)); results = items_met IsPipelineReply ResultTree a.results (items_of (map result_data a.results)) p formed }

result_depth : (r : Reply) → depth (result_data r) ≤ 8
result_depth reply.StreamOpened = omega arith
result_depth (reply.Execute s) = omega (arith, depth-result_data s)
result_depth (reply.Batch s) = omega (arith, depth-batch_result_data s)
result_depth reply.Sequence = omega arith
result_depth reply.Cursor = omega arith
result_depth (reply.Fetched entries done) = omega (arith, depth-entries_data entries)
result_depth reply.CursorClosed = omega arith
result_depth (reply.Autocommit auto) = omega arith
result_depth reply.SqlStored = omega arith
result_depth reply.SqlClosed = omega arith
result_depth reply.Closed = omega arith
result_depth (reply.Failed e) = omega (arith, depth-error_data e)

answer_depth : (a : PipelineAnswer) → depth (answer_data a) ≤ max_depth
answer_depth a = omega (arith, depth-optional_text a.baton, items_depth-map result_data 8 result_depth a.results)

pub encoded_answer : (a : PipelineAnswer) (r : Result (List ℕ) NoMemory) → HasAnswerForm a → IfOk r IsUtf8 → IfOk r (λ text. depth (answer_data a) ≤ max_depth → read text ≡ Some (answer_data a)) → OnOk r (HasAnswerForm a → AnswerTree a (answer_data a))
    → IfOk r (λ text. IsAnswer text a)
encoded_answer a (Ok text) formed utf8 reads back = (answer_data a, (utf8, reads (answer_depth a)), back formed)
encoded_answer a (Err e) formed utf8 reads back = tt

-- The members of an ask or a reply stand before the others of their object.
use Rattle.std.proofs.Common.{◌≡◌, ℕ, ◌+◌, List, None, Some, refl, subst, ap, ◌∙◌, arith}
use Rattle.std.specs.Option.{option_map_or}
use Rattle.serde.specs.Event.{Log, Logs, map_begins}
use Rattle.serde_json.specs.Data.{null, object, Members, no_members}
use Rattle.serde_json.specs.Events.{members_len, SendsMembers, SendsValue}
use Rattle.hrana_value.specs.Sent.{SendsFront}
use Rattle.hrana_value.specs.Whole.{IsWhole, PartsWhole}
use Rattle.hrana_value.proofs.SendingLemmas.{put_all, whole_object, whole_text}
use Rattle.hrana_stmt.specs.declared.statements.SqlRef.TheVariants as sql
use Rattle.hrana_batch.specs.Written.{type_member}
use Rattle.stream_requests.specs.declared.asks.Ask.{Ask}
use Rattle.stream_requests.specs.declared.asks.Ask.TheVariants as ask
use Rattle.stream_requests.specs.declared.asks.AskKind.{AskKind}
use Rattle.stream_requests.specs.declared.replies.Reply.{Reply}
use Rattle.stream_requests.specs.declared.replies.Reply.TheVariants as reply
use Rattle.stream_requests.specs.AskNames.{ask_name}
use Rattle.stream_requests.specs.Asks.{ask_front}
use Rattle.stream_requests.specs.Replies.{answered_kind, reply_front}
use Rattle.stream_requests.specs.WrittenResults.{response_object, response_data}

-- an object of which the front and the rest were sent
pub front_sent : (front : Members → Members) (ms : Members) (n : ℕ) (old first mid new : Log) → n ≡ members_len (front ms) → Logs old first (map_begins (Some n)) → SendsFront front first mid → SendsMembers ms mid new
    → SendsValue (object (front ms)) old new
front_sent front ms n old first mid new count begun sent rest = (first, subst (λ k. Logs old first (map_begins (Some k))) count begun, sent ms new rest)

-- ---- asks

pub ask_count : (a : Ask) (ms : Members) → members_len (ask_front a no_members) + members_len ms ≡ members_len (ask_front a ms)
ask_count (ask.Sequence (sql.Text t)) ms = omega arith
ask_count (ask.Sequence (sql.Id z)) ms = omega arith
ask_count (ask.Execute stmt) ms = omega arith
ask_count a ms = omega arith

pub ask_parts : (a : Ask) (ms : Members) → PartsWhole (ask_front a no_members) → PartsWhole ms → PartsWhole (ask_front a ms)
ask_parts (ask.Sequence (sql.Text t)) ms p q = (p.0, q)
ask_parts (ask.Sequence (sql.Id z)) ms p q = (p.0, q)
ask_parts (ask.Execute stmt) ms p q = (p.0, q)
ask_parts (ask.Batch batch) ms p q = (p.0, q)
ask_parts (ask.Cursor batch) ms p q = (p.0, q)
ask_parts (ask.Fetch count) ms p q = (p.0, q)
ask_parts (ask.StoreSql id t) ms p q = (p.0, (p.1.0, q))
ask_parts (ask.CloseSql id) ms p q = (p.0, q)
ask_parts ask.CloseCursor ms p q = q
ask_parts ask.GetAutocommit ms p q = q
ask_parts ask.Close ms p q = q

ask_stands : (a : Ask) (name : List ℕ) → put_all (ask_front a (type_member name)) no_members ≡ ask_front a (type_member name)
ask_stands (ask.Sequence (sql.Text t)) name = refl
ask_stands (ask.Sequence (sql.Id z)) name = refl
ask_stands (ask.Execute stmt) name = refl
ask_stands a name = refl

pub ask_whole : (a : Ask) (name : List ℕ) → PartsWhole (ask_front a no_members) → IsWhole (object (ask_front a (type_member name)))
ask_whole a name p = whole_object (ask_front a (type_member name)) (ask_stands a name) (ask_parts a (type_member name) p (whole_text name, tt))

-- ---- replies

pub reply_count : (r : Reply) (ms : Members) → members_len (reply_front r no_members) + members_len ms ≡ members_len (reply_front r ms)
reply_count (reply.Execute s) ms = omega arith
reply_count r ms = omega arith

reply_parts : (r : Reply) (ms : Members) → PartsWhole (reply_front r no_members) → PartsWhole ms → PartsWhole (reply_front r ms)
reply_parts (reply.Execute s) ms p q = (p.0, q)
reply_parts (reply.Batch s) ms p q = (p.0, q)
reply_parts (reply.Fetched entries done) ms p q = (p.0, (p.1.0, q))
reply_parts (reply.Autocommit auto) ms p q = (p.0, q)
reply_parts r ms p q = q

reply_stands : (r : Reply) (name : List ℕ) → put_all (reply_front r (type_member name)) no_members ≡ reply_front r (type_member name)
reply_stands (reply.Execute s) name = refl
reply_stands r name = refl

pub reply_whole : (r : Reply) (name : List ℕ) → PartsWhole (reply_front r no_members) → IsWhole (response_object r name)
reply_whole r name p = whole_object (reply_front r (type_member name)) (reply_stands r name) (reply_parts r (type_member name) p (whole_text name, tt))

pub response_some : (r : Reply) (k : AskKind) (name : List ℕ) → name ≡ ask_name k → Some k ≡ answered_kind r → response_object r name ≡ response_data r
response_some r k name named e = ap (response_object r) named ∙ ap (λ o. option_map_or (λ j. response_object r (ask_name j)) o null) e

pub response_none : (r : Reply) → None ≡ answered_kind r → null ≡ response_data r
response_none r e = ap (λ o. option_map_or (λ j. response_object r (ask_name j)) o null) e

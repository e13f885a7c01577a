-- The members of an ask stand before the id of its stream.
use Rattle.std.proofs.Common.{◌≡◌, ℕ, ℤ, ◌+◌, List, Some, refl, subst, ap, ◌∙◌}
use Rattle.std.specs.Prelude.{FitsSigned}
use Rattle.std.specs.Int.{w32, cast_signed, cast_unsigned}
use Rattle.std.proofs.lemmas.Int.{to_z-of_z}
use Rattle.serde.specs.Event.{Log, Logs, map_begins}
use Rattle.serde_json.specs.Data.{object, no_members, member}
use Rattle.serde_json.specs.Events.{members_len, SendsMembers, SendsValue}
use Rattle.hrana_value.specs.Sent.{SendsFront}
use Rattle.hrana_value.specs.Whole.{IsWhole, PartsWhole}
use Rattle.hrana_value.proofs.SendingLemmas.{put_all, whole_object, whole_text, whole_int32}
use Rattle.hrana_stmt.specs.declared.statements.SqlRef.TheVariants as sql
use Rattle.stream_requests.specs.declared.asks.Ask.{Ask}
use Rattle.stream_requests.specs.declared.asks.Ask.TheVariants as ask
use Rattle.stream_requests.specs.Asks.{ask_front}
use Rattle.stream_requests.proofs.FrontLemmas.{front_sent, ask_count, ask_parts}
use Rattle.ws_messages.specs.declared.kinds.Kind.{Kind}
use Rattle.ws_messages.specs.Kinds.{name_of}
use Rattle.ws_messages.specs.WrittenClient.{integer, kind_member, on_stream}

-- ---- numbers, as they are passed on

pub id_sent : (name : List ℕ) (z : ℤ) (old new : Log) → FitsSigned w32 z → SendsFront (member name (integer (cast_signed w32 (cast_unsigned w32 z)))) old new → SendsFront (member name (integer z)) old new
id_sent name z old new fits sent = subst (λ y. SendsFront (member name (integer y)) old new) (to_z-of_z w32 z fits) sent

pub stream_sent : (z : ℤ) (k : Kind) (old new : Log) → FitsSigned w32 z → SendsMembers (on_stream (cast_signed w32 (cast_unsigned w32 z)) k) old new → SendsMembers (on_stream z k) old new
stream_sent z k old new fits sent = subst (λ y. SendsMembers (on_stream y k) old new) (to_z-of_z w32 z fits) sent

pub kind_whole : (k : Kind) → PartsWhole (kind_member k)
kind_whole k = (whole_text (name_of k), tt)

pub stream_whole : (z : ℤ) (k : Kind) → FitsSigned w32 z → PartsWhole (on_stream z k)
stream_whole z k fits = (whole_int32 z fits, kind_whole k)

-- ---- asks

ask_stands : (a : Ask) (s : ℤ) (k : Kind) → put_all (ask_front a (on_stream s k)) no_members ≡ ask_front a (on_stream s k)
ask_stands (ask.Sequence (sql.Text t)) s k = refl
ask_stands (ask.Sequence (sql.Id z)) s k = refl
ask_stands (ask.Execute stmt) s k = refl
ask_stands a s k = refl

pub asked_sent : (a : Ask) (s : ℤ) (k : Kind) (n : ℕ) (old first mid new : Log) → n ≡ members_len (ask_front a no_members) → Logs old first (map_begins (Some (n + 2))) → SendsFront (ask_front a) first mid → SendsMembers (on_stream s k) mid new
    → SendsValue (object (ask_front a (on_stream s k))) old new
asked_sent a s k n old first mid new count begun sent rest = front_sent (ask_front a) (on_stream s k) (n + 2) old first mid new (ap (λ m. m + 2) count ∙ ask_count a (on_stream s k)) begun sent rest

pub asked_whole : (a : Ask) (s : ℤ) (k : Kind) → PartsWhole (ask_front a no_members) → PartsWhole (on_stream s k) → IsWhole (object (ask_front a (on_stream s k)))
asked_whole a s k p q = whole_object (ask_front a (on_stream s k)) (ask_stands a s k) (ask_parts a (on_stream s k) p q)

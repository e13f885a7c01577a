-- What is written for a result is a form of it.
use Rattle.std.proofs.Common.{◌≡◌, refl}
use Rattle.hrana_stmt.specs.declared.errors.WireError.{WireError}
use Rattle.stream_requests.specs.declared.asks.AskKind.TheVariants as ask
use Rattle.stream_requests.specs.declared.replies.Reply.{Reply}
use Rattle.stream_requests.specs.declared.replies.Reply.TheVariants.{StreamOpened, Execute, Batch, Sequence, Cursor, Fetched, CursorClosed, Autocommit, SqlStored, SqlClosed, Closed, Failed}
use Rattle.stream_requests.specs.Replies.{ReplyReadsBack}
use Rattle.stream_requests.specs.Results.{IsPipelineReply, ResultTree}
use Rattle.stream_requests.specs.WrittenResults.{replied_data, result_data}

pub replied : (r : Reply) → ((e : WireError) → r ≡ Failed e → ⊥) → replied_data r ≡ result_data r
replied (Failed e) other = absurd (other e refl)
replied r other = refl

pub replied_back : (r : Reply) → ((e : WireError) → r ≡ Failed e → ⊥) → ReplyReadsBack r → IsPipelineReply r → ResultTree r (result_data r)
replied_back StreamOpened other h formed = absurd formed
replied_back (Execute s) other h formed = (refl, record { asked = ask.Execute; kind = record { over_http = tt; name = refl }; reply = record { answers = refl; members = h } })
replied_back (Batch s) other h formed = (refl, record { asked = ask.Batch; kind = record { over_http = tt; name = refl }; reply = record { answers = refl; members = h } })
replied_back Sequence other h formed = (refl, record { asked = ask.Sequence; kind = record { over_http = tt; name = refl }; reply = record { answers = refl; members = tt } })
replied_back Cursor other h formed = absurd formed
replied_back (Fetched entries done) other h formed = absurd formed
replied_back CursorClosed other h formed = absurd formed
replied_back (Autocommit auto) other h formed = (refl, record { asked = ask.GetAutocommit; kind = record { over_http = tt; name = refl }; reply = record { answers = refl; members = refl } })
replied_back SqlStored other h formed = (refl, record { asked = ask.StoreSql; kind = record { over_http = tt; name = refl }; reply = record { answers = refl; members = tt } })
replied_back SqlClosed other h formed = (refl, record { asked = ask.CloseSql; kind = record { over_http = tt; name = refl }; reply = record { answers = refl; members = tt } })
replied_back Closed other h formed = (refl, record { asked = ask.Close; kind = record { over_http = tt; name = refl }; reply = record { answers = refl; members = tt } })
replied_back (Failed e) other h formed = absurd (other e refl)

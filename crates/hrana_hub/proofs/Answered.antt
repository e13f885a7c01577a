-- A poll that found memory leaves as many ids as requests that wait.
use Rattle.std.proofs.Common.{◌≡◌, ◌≢◌, ◌+◌, ℤ, Bool, List, length, Option, ap, sym, ◌∙◌, arith}
use Rattle.engine_core.specs.declared.entries.Entry.{Entry}
use Rattle.stream_task.specs.Polls.{Task, PollsFirst, answer_of, asks_left}
use Rattle.stream_task.specs.Table.{Seen}
use Rattle.stream_task.specs.declared.task.Poll.{Poll}
use Rattle.stream_task.specs.declared.task.Poll.TheVariants.{Ready}
use Rattle.stream_task.specs.declared.task.Stepped.{Stepped}
use Rattle.stream_task.specs.declared.task.Stepped.TheVariants as stepped
use Rattle.stream_task.specs.declared.work.Work.{Work}
use Rattle.hrana_hub.specs.Polled.{reply_in, still_wait, later_ids}

pub first_paired : (shared : Bool) (seen : Seen) (old : Task) (w : Work) (rest : List Work) (added : Option Entry) (result : Poll Stepped) (new : Task) (ids : List ℤ)
    → PollsFirst shared seen old w rest added result new → result ≢ Ready stepped.Broke → length ids ≡ length rest + 1 → length (later_ids ids) ≡ length rest
    → length (still_wait (reply_in result) ids) ≡ length new.asks
first_paired shared seen old w rest added result new ids h found long later =
    ap (λ r. length (still_wait (reply_in r) ids)) h.answer ∙ left h.advanced (λ e. found (h.answer ∙ e)) ∙ ap (λ (t : Task). length t.asks) (sym h.after)
  where
    left : (a : _) → answer_of a ≢ Ready stepped.Broke → length (still_wait (reply_in (answer_of a)) ids) ≡ length (asks_left rest a)
    left a n = grind (arith, n, long, later)

-- The waiters of every run.
use Rattle.std.proofs.Common.{◌≡◌, ◌≢◌, true, not, List, Some, sym, ap, subst, ◌∙◌, arith}
use Rattle.std.specs.List.{All, AllPairs}
use Rattle.std.proofs.lemmas.List.Elements.{All-filter, All-weaker}
use Rattle.std.proofs.lemmas.List.Kept.{AllPairs-filter}
use Rattle.hrana_value.specs.declared.StreamNo.{StreamNo}
use Rattle.txn_table.specs.Turns.{Turns, same_stream, has, without, grant_of, after_grant, with_place}
use Rattle.txn_table.specs.History.{nothing, reserves, refuses, wants, commits, ends, loses}
use Rattle.txn_table.specs.Laws.{AreOrderly, WaitersOrderly}
use Rattle.txn_table.specs.declared.table.Grant.{Grant}
use Rattle.txn_table.specs.declared.table.Grant.TheVariants.{Now, Wait, Stale, Held}
use Rattle.txn_table.proofs.StreamLemmas.{still_placed, has_without, none_left, All-queued, apart_queued}
use Rattle.txn_table.proofs.LawLemmas.{some_one, none_some, given_some}

abbrev Apart : List StreamNo → Type 0
Apart xs = AllPairs (λ (a b : StreamNo). a ≢ b) xs

without_apart : (s : StreamNo) (xs : List StreamNo) → Apart xs → Apart (without s xs)
without_apart s xs apart = AllPairs-filter (λ (a b : StreamNo). a ≢ b) (λ (x : StreamNo). not (same_stream x s)) xs apart

without_all : (P : StreamNo → Type 0) (s : StreamNo) (xs : List StreamNo) → All P xs → All P (without s xs)
without_all P s xs all = All-filter (λ (x : StreamNo). not (same_stream x s)) P xs all

orderly_want : (t : Turns) (stream : StreamNo) (grant : Grant) → has stream t.reserved ≡ true → t.turn ≢ Some stream → AreOrderly t → AreOrderly (after_grant t stream grant)
orderly_want t stream (Now v) place free o = record {
  once = without_apart stream t.waiters o.once;
  placed = without_all (λ (s : StreamNo). has s t.reserved ≡ true) stream t.waiters o.placed;
  holder_placed = λ s e. subst (λ (x : StreamNo). has x t.reserved ≡ true) (some_one e) place;
  holder_apart = λ s e. subst (λ (x : StreamNo). All (λ (w : StreamNo). w ≢ x) (without stream t.waiters)) (some_one e) (none_left t.waiters stream);
}
orderly_want t stream (Wait holder) place free o = record {
  once = apart_queued stream t.waiters o.once;
  placed = All-queued (λ (s : StreamNo). has s t.reserved ≡ true) stream t.waiters o.placed place;
  holder_placed = o.holder_placed;
  holder_apart = λ s e. All-queued (λ (w : StreamNo). w ≢ s) stream t.waiters (o.holder_apart s e) (λ f. free (e ∙ ap Some (sym f)));
}
orderly_want t stream (Stale had now) place free o = o
orderly_want t stream (Held holder) place free o = o

pub orderly : WaitersOrderly
orderly past t nothing = record {
  once = λ i j d lt inside. absurd (omega arith);
  placed = λ k d lt. absurd (omega arith);
  holder_placed = λ s e. absurd (none_some e);
  holder_apart = λ s e. absurd (none_some e);
}
orderly past t (reserves {past = p} {t = u} run stream) =
    let o = orderly p u run in
    record {
      once = o.once;
      placed = All-weaker (λ (s : StreamNo). has s u.reserved ≡ true) (λ (s : StreamNo). has s (with_place u stream).reserved ≡ true) (λ s h. still_placed s stream u.reserved h) u.waiters o.placed;
      holder_placed = λ s e. still_placed s stream u.reserved (o.holder_placed s e);
      holder_apart = o.holder_apart;
    }
orderly past t (refuses {past = p} {t = u} run stream) = orderly p u run
orderly past t (wants {past = p} {t = u} run stream need place free) = orderly_want u stream (grant_of u need) place free (orderly p u run)
orderly past t (commits {past = p} {t = u} run stream holds few) =
    let o = orderly p u run in
    record { once = o.once; placed = o.placed; holder_placed = λ s e. absurd (none_some e); holder_apart = λ s e. absurd (none_some e) }
orderly past t (ends {past = p} {t = u} run stream) =
    let o = orderly p u run in
    record {
      once = o.once;
      placed = o.placed;
      holder_placed = λ s e. o.holder_placed s (given_some u.turn stream s e).0;
      holder_apart = λ s e. o.holder_apart s (given_some u.turn stream s e).0;
    }
orderly past t (loses {past = p} {t = u} run stream) =
    let o = orderly p u run in
    record {
      once = without_apart stream u.waiters o.once;
      placed = λ k d lt. has_without _ stream u.reserved (none_left u.waiters stream k d lt) (without_all (λ (s : StreamNo). has s u.reserved ≡ true) stream u.waiters o.placed k d lt);
      holder_placed = λ s e. let g = given_some u.turn stream s e in has_without s stream u.reserved (λ f. g.1 (sym f)) (o.holder_placed s g.0);
      holder_apart = λ s e. without_all (λ (w : StreamNo). w ≢ s) stream u.waiters (o.holder_apart s (given_some u.turn stream s e).0);
    }

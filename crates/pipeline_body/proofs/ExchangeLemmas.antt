-- The results of a pipeline, one for each of its requests, and what its stream is asked.
use Rattle.std.proofs.Common.{◌≡◌, ◌≤◌, nat_eq, length, map, All, List, [], ◌∷◌, ◌++◌, Option, None, Some, refl, sym, ap, ◌∙◌, append-nil, append_assoc, arith}
use Rattle.std.proofs.lemmas.List.Elements.{All-nil, All-cons}
use Rattle.serde_json.specs.Data.{Data, null, boolean, number, string, array, object, Items, no_items, item}
use Rattle.hrana_value.specs.declared.failures.Decline.{Decline}
use Rattle.hrana_value.specs.Trees.{ItemsTree, ArrayTree}
use Rattle.stream_requests.specs.declared.asks.Ask.{Ask}
use Rattle.stream_requests.specs.Asks.{ask_kind, AskFits}
use Rattle.stream_requests.specs.Results.{IsPipelineKind}
use Rattle.stream_requests.specs.declared.replies.Reply.{Reply}
use Rattle.pipeline_body.specs.declared.bodies.PipeAsk.{PipeAsk}
use Rattle.pipeline_body.specs.declared.bodies.PipeAsk.TheVariants as pipe
use Rattle.pipeline_body.specs.Requests.{PipeAskTree, FittingAsksAreTaken}
use Rattle.pipeline_body.specs.Exchanges.{Progress, passed, place_of, declined, after, results_of, asked_in, is_over, EachHasItsResult, AsksOfBodiesFit}

-- the results stand, and it is over exactly where no request is left
record Stands (done : List Reply) (asks : List PipeAsk) (replies : List Reply) (p : Progress) : Type 0 where
  pub results : p.results ≡ done ++ results_of asks replies
  pub over : is_over p ≡ nat_eq (length replies) (length (asked_in asks))

stands : (done : List Reply) (asks : List PipeAsk) (replies : List Reply) → length replies ≤ length (asked_in asks) → Stands done asks replies (after replies (passed done (map place_of asks)))
stands done [] [] l = record { results = sym (append-nil done); over = refl }
stands done [] (r ∷ rs) l = absurd (omega (arith, l))
stands done (pipe.Declined why ∷ asks) rs l =
    let h = stands (done ++ declined why ∷ []) asks rs l in
    record { results = h.results ∙ append_assoc done (declined why ∷ []) (results_of asks rs); over = h.over }
stands done (pipe.Ask ask ∷ asks) [] l = record { results = sym (append-nil done); over = grind (arith) }
stands done (pipe.Ask ask ∷ asks) (r ∷ rs) l =
    let h = stands (done ++ r ∷ []) asks rs (omega (arith, l)) in
    record { results = h.results ∙ append_assoc done (r ∷ []) (results_of asks rs); over = h.over ∙ grind (arith) }

-- it goes on where the first request that is left is declined
pub passed_on : (results : List Reply) (why : Decline) (left rest : List (Option Decline)) → left ≡ Some why ∷ rest → passed results left ≡ passed (results ++ declined why ∷ []) rest
passed_on results why left rest e = ap (passed results) e

-- and ends where none is left, or the stream was asked
pub passed_none : (results : List Reply) (left : List (Option Decline)) → left ≡ [] → passed results left ≡ record { results = results; left = left }
passed_none results left e = rw e refl

pub passed_asked : (results : List Reply) (left rest : List (Option Decline)) → left ≡ None ∷ rest → passed results left ≡ record { results = results; left = left }
passed_asked results left rest e = rw e refl

pub each_has : EachHasItsResult
each_has asks replies l = (let h = stands [] asks replies l in (h.results, h.over))

-- ---- what the stream is asked

abbrev MayAsk : Ask → Type 0
MayAsk a = IsPipelineKind (ask_kind a) × AskFits a

items_may : FittingAsksAreTaken → (asks : List PipeAsk) (ds : Items) → ItemsTree PipeAskTree asks ds → All MayAsk (asked_in asks)
items_may laws [] ds h = All-nil MayAsk
items_may laws (x ∷ asks) no_items h = absurd h
items_may laws (pipe.Ask a ∷ asks) (item d ds) h =
    let tree = h.0.0 in
    All-cons MayAsk a (asked_in asks) (tree.kind.over_http, (laws a d tree).1 h.0.1) (items_may laws asks ds h.1)
items_may laws (pipe.Declined why ∷ asks) (item d ds) h = items_may laws asks ds h.1

array_may : FittingAsksAreTaken → (asks : List PipeAsk) (d : Data) → ArrayTree PipeAskTree asks d → All MayAsk (asked_in asks)
array_may laws asks null h = absurd h
array_may laws asks (boolean b) h = absurd h
array_may laws asks (number n) h = absurd h
array_may laws asks (string s) h = absurd h
array_may laws asks (array ds) h = items_may laws asks ds h
array_may laws asks (object ms) h = absurd h

pub asks_fit : FittingAsksAreTaken → AsksOfBodiesFit
asks_fit laws bytes body h = array_may laws body.asks _ h.2.0.asks

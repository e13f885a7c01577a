use Rattle.std.proofs.Common.{◌≡◌, ◌∙◌, Option, sym, ap, subst, Some, None, Ok, refl}
use Rattle.std.specs.Prelude.{IfSome}
use Rattle.std.proofs.lemmas.Int.{to_z-of_z}
use Rattle.hrana_stmt.specs.declared.codes.Code.TheVariants as code
use Rattle.stream_requests.specs.declared.asks.Ask.{Ask}
use Rattle.stream_task.specs.Doing.{MayBeAsked}
use Rattle.hrana_hub.specs.Arrivals.{saying, quiet, refusal, asks, unopened, with_request}
use Rattle.hrana_hub.specs.Maps.{at, id_at}
use Rattle.hrana_hub.specs.State.{Seen}
use Rattle.hrana_hub.specs.Texts.{put_ask}
use Rattle.hrana_hub.proofs.ArrivalLemmas.{after, arrives_as, arrives_same, asks_none, asks_unknown, asks_is, unopened_arrives, none_at, some_at}
use Rattle.hrana_hub.proofs.hub.Hub.ask.Goals as goal

pub returns-in_default : goal.returns-in_default
returns-in_default c = λ k known.
    let old = c.args.self.now in
    let its = c.ranges.request_id in
    let fits = c.ranges.stream in
    let none : id_at c.args.stream k.ids ≡ None = sym (simp to_z-of_z at (c.named.ensures k known)) ∙ c.in_default.is in
    arrives_as (unopened c.args.conn c.args.request_id c.args.ask old.state) (asks (id_at c.args.stream k.ids) c.args.conn k c.args.stream c.args.request_id c.args.ask old.state) c.unopened.result old old
    (asks_none (id_at c.args.stream k.ids) c.args.conn k c.args.stream c.args.request_id c.args.ask old.state none)
    (unopened_arrives c.args.conn c.args.request_id c.args.ask old c.unopened.result (simp to_z-of_z at c.unopened.ensures))

pub returns-then-not-contains : goal.returns-then-not-contains
returns-then-not-contains c = λ k known.
    let old = c.args.self.now in
    let n = c.in-Some.number in
    let its = c.ranges.request_id in
    let fits = c.ranges.stream in
    let is : id_at c.args.stream k.ids ≡ Some n = sym (simp to_z-of_z at (c.named.ensures k known)) ∙ c.in-Some.is in
    let unknown : at n old.state.streams ≡ None = ap (λ (s : Seen). at n s.state.streams) (sym c.self.view_is) ∙ none_at (at n c.self.inside.streams) (sym c.if-not-contains.ensures) in
    arrives_as (unopened c.args.conn c.args.request_id c.args.ask old.state) (asks (id_at c.args.stream k.ids) c.args.conn k c.args.stream c.args.request_id c.args.ask old.state) c.unopened-then-not-contains.result old old
    (asks_unknown (id_at c.args.stream k.ids) n c.args.conn k c.args.stream c.args.request_id c.args.ask old.state is unknown)
    (unopened_arrives c.args.conn c.args.request_id c.args.ask old c.unopened-then-not-contains.result (simp to_z-of_z at c.unopened-then-not-contains.ensures))

pub returns-in_default-2 : goal.returns-in_default-2
returns-in_default-2 c = λ k known.
    let old = c.args.self.now in
    let n = c.in-Some.number in
    let its = c.ranges.request_id in
    let fits = c.ranges.stream in
    let is : id_at c.args.stream k.ids ≡ Some n = sym (simp to_z-of_z at (c.named.ensures k known)) ∙ c.in-Some.is in
    let x = some_at (at n c.self.inside.streams) (sym c.if-not-contains.ensures) in
    let there : at n old.state.streams ≡ Some x.0 = ap (λ (s : Seen). at n s.state.streams) (sym c.self.view_is) ∙ x.1 in
    let put : put_ask k.texts c.args.ask ≡ None = sym (c.in_ok-ask.ensures.put k known) ∙ c.in_default-2.is in
    arrives_as (saying c.args.conn (refusal c.args.request_id code.NoSqlId) old.state) (asks (id_at c.args.stream k.ids) c.args.conn k c.args.stream c.args.request_id c.args.ask old.state) c.refuses.result old old
    (asks_is (id_at c.args.stream k.ids) n x.0 c.args.conn k c.args.stream c.args.request_id c.args.ask None old.state is there put)
    (arrives_same (saying c.args.conn (refusal c.args.request_id code.NoSqlId) old.state) old c.refuses.result refl (simp to_z-of_z at c.refuses.ensures))

pub queue-requires-clause-asked : goal.queue-requires-clause-asked
queue-requires-clause-asked c = subst (λ (o : Option Ask). IfSome o MayBeAsked) c.in-Some-2.is (c.in_ok-ask.ensures.asked c.requires.asked)

pub returns : goal.returns
returns c = λ k known.
    let old = c.args.self.now in
    let n = c.in-Some.number in
    let its = c.ranges.request_id in
    let fits = c.ranges.stream in
    let is : id_at c.args.stream k.ids ≡ Some n = sym (simp to_z-of_z at (c.named.ensures k known)) ∙ c.in-Some.is in
    let x = some_at (at n c.self.inside.streams) (sym c.if-not-contains.ensures) in
    let there : at n old.state.streams ≡ Some x.0 = ap (λ (s : Seen). at n s.state.streams) (sym c.self.view_is) ∙ x.1 in
    let put : put_ask k.texts c.args.ask ≡ Some c.in-Some-2.ask = sym (c.in_ok-ask.ensures.put k known) ∙ c.in-Some-2.is in
    let s = with_request c.args.conn k c.args.stream n x.0 c.args.request_id c.in-Some-2.ask old.state in
    arrives_as (quiet s) (asks (id_at c.args.stream k.ids) c.args.conn k c.args.stream c.args.request_id c.args.ask old.state) (Ok c.nothing.result) old c.queue.new.self
    (asks_is (id_at c.args.stream k.ids) n x.0 c.args.conn k c.args.stream c.args.request_id c.args.ask (Some c.in-Some-2.ask) old.state is there put)
    (c.nothing.ensures, after s old c.queue.new.self (simp to_z-of_z at (c.in_ok-queue.ensures.ok k x.0 known there)) refl)

use Rattle.std.proofs.Common.{rules, refl, w32, Ok, Err}
use Rattle.std.specs.Prelude.{FitsSigned}
use Rattle.std.proofs.lemmas.Int.{to_z-of_z}
use Rattle.ws_messages.specs.Client.{is_message, breaks, is_declined}
use Rattle.hrana_hub.specs.Arrivals.{with_conn, shut}
use Rattle.hrana_hub.proofs.ArrivalLemmas.{after, reads}
use Rattle.hrana_hub.proofs.hub.Hub.read.Goals as goal

pub returns-in-Ok-Hello : goal.returns-in-Ok-Hello
returns-in-Ok-Hello c = λ k known.
    let old = c.args.self.now in
    let arm = c.in-Ok-Hello in
    reads old.token c.args.conn k c.args.text.now (Ok arm.field-0) c.hello.result old c.hello.new.self (is_message arm.field-0 arm.ensures.ok) (rw arm.field-0-is (c.hello.ensures k known))

pub returns-in-Ok-Request : goal.returns-in-Ok-Request
returns-in-Ok-Request c = λ k known.
    let old = c.args.self.now in
    let arm = c.in-Ok-Request in
    let fits : FitsSigned w32 arm.request_id = search rules in
    reads old.token c.args.conn k c.args.text.now (Ok arm.field-0) c.numbered.result old c.numbered.new.self (is_message arm.field-0 arm.ensures.ok)
    (rw arm.field-0-is (simp to_z-of_z at (c.numbered.ensures k known)))

pub returns-in-Err-Declined : goal.returns-in-Err-Declined
returns-in-Err-Declined c = λ k known.
    let old = c.args.self.now in
    let arm = c.in-Err-Declined in
    let fits : FitsSigned w32 arm.request_id = search rules in
    reads old.token c.args.conn k c.args.text.now (Err arm.field-0) c.numbered-in-Err-Declined.result old c.numbered-in-Err-Declined.new.self
    (rw arm.field-0-is (is_declined arm.request_id arm.decline (arm.ensures.declined arm.request_id arm.decline arm.field-0-is)))
    (rw arm.field-0-is (simp to_z-of_z at (c.numbered-in-Err-Declined.ensures k known)))

pub returns-in-Err-Violation : goal.returns-in-Err-Violation
returns-in-Err-Violation c = λ k known.
    let old = c.args.self.now in
    let arm = c.in-Err-Violation in
    reads old.token c.args.conn k c.args.text.now (Err arm.field-0) (Ok c.close.result) old c.close.new.self
    (rw arm.field-0-is (breaks arm.field-0-0 (arm.ensures.violation arm.field-0-0 arm.field-0-is)))
    (rw arm.field-0-is (c.close.ensures.given, after (with_conn c.args.conn (shut k) old.state) old c.close.new.self (c.close.ensures.hub k known) refl))

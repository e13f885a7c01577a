use Rattle.std.proofs.Common.{length, arith, ap, inr, refl, subst}
use Rattle.httparse.specs.Grammar.{HasNoRequest}
use Rattle.http_wire.proofs.LookLemmas.{bad_is_no_memory, same_count, many_in_front, head_in_front, sized_in_front, never_after_refusal, copied, same_number}
use Rattle.http_wire.proofs.look.look_at.Goals as goal

pub returns-then-request-gt-MAX_FIELDS : goal.returns-then-request-gt-MAX_FIELDS
returns-then-request-gt-MAX_FIELDS c =
    let found = rw c.in-Ok-Complete.field-0-is at c.in-Ok-Complete.ensures.complete in
    let many = c.if-request-gt-MAX_FIELDS.true in
    (bad_is_no_memory, inr (refl, many_in_front c.args.held.now c.front_of-front.result.now found.0 _ c.front_of-front.ensures found.1.reads (omega (arith, same_count c.parse.new.self.headers.now found.0.fields found.1.fields))))

pub settle-requires-clause-head : goal.settle-requires-clause-head
settle-requires-clause-head c =
    let found = rw c.in-Ok-Complete.field-0-is at c.in-Ok-Complete.ensures.complete in
    let few = c.if-request-gt-MAX_FIELDS.false in (
      found.0,
      head_in_front c.args.held.now c.front_of-front.result.now c.in-Ok-Complete.count found.0 c.front_of-front.ensures found.1.reads found.1.len_is (omega (arith, same_count c.parse.new.self.headers.now found.0.fields found.1.fields)),
      λ i. record {
        method = copied _ _ _ c.unwrap.ensures found.1.method i;
        target = copied _ _ _ c.unwrap-in-Ok-Complete.ensures found.1.path i;
        minor = same_number _ _ _ c.unwrap-in-Ok-Complete-2.ensures found.1.version i;
        fields = found.1.fields i;
      },
    )

pub without_head-requires : goal.without_head-requires
without_head-requires c =
    let none = rw c.in-Ok-Partial.field-0-is at c.in-Ok-Partial.ensures.partial in
    subst HasNoRequest c.front_of-front.ensures none

pub returns-in-Err : goal.returns-in-Err
returns-in-Err c =
    (bad_is_no_memory, inr (refl, never_after_refusal 16384 c.args.held.now (λ more h rest x. omega (arith, ap length c.new-request.ensures.room, c.in-Err.ensures.no_room more h rest (rw (← c.front_of-front.ensures) at x)))))

pub settle-requires-clause-within : goal.settle-requires-clause-within
settle-requires-clause-within c =
    let found = rw c.in-Ok-Complete.field-0-is at c.in-Ok-Complete.ensures.complete in
    (sized_in_front c.args.held.now c.front_of-front.result.now c.in-Ok-Complete.count found.0 c.front_of-front.ensures found.1.reads found.1.len_is).0

pub settle-requires-clause-short : goal.settle-requires-clause-short
settle-requires-clause-short c =
    let found = rw c.in-Ok-Complete.field-0-is at c.in-Ok-Complete.ensures.complete in
    (sized_in_front c.args.held.now c.front_of-front.result.now c.in-Ok-Complete.count found.0 c.front_of-front.ensures found.1.reads found.1.len_is).1

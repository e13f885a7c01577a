use Rattle.std.proofs.Common.{not, rules, refl, w32}
use Rattle.std.specs.Ordering.{int_eq}
use Rattle.std.proofs.lemmas.Fn.{filter_same}
use Rattle.std.proofs.lemmas.Int.{to_z-of_z}
use Rattle.stream_task.specs.declared.texts.StoredText.{StoredText}
use Rattle.stream_task.proofs.texts.forget_text.Goals as goal

pub returns : goal.returns
returns c =
    let same = to_z-of_z w32 c.args.id c.ranges.id in
    let e = filter_same _ (λ (text : StoredText). not (int_eq text.id c.args.id)) _ (λ x b f called. search (rules, to_z-of_z)) _ _ c.retain.ensures.filtered in
    rw e refl

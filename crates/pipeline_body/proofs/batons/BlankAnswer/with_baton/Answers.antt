use Rattle.std.proofs.Common.{◌≡◌, ap, ◌∙◌, length}
use Rattle.std.proofs.lemmas.List.{with_items_is}
use borrow.Rule.Slice.PartMut.{put_mid, same_len_mid}
use Rattle.pipeline_body.proofs.BatonLemmas.{put_answer}
use Rattle.pipeline_body.proofs.batons.BlankAnswer.with_baton.Goals as goal

pub returns : goal.returns
returns c results close is =
    let body = c.self.inside.body in
    let put = put_mid 26 32 c.deref_mut.result.now c.copy_from_slice.new.self in
    let same : length put ≡ body.len = same_len_mid 26 32 c.deref_mut.result.now c.copy_from_slice.new.self c.copy_from_slice.ensures.len ∙ c.deref_mut.ensures.len in
    let new : c.from_vec.result ≡ put_mid 26 32 body.items c.args.text.now =
    c.from_vec.ensures ∙ (with_items_is body put same ∙ (ap (λ b. put_mid 26 32 b c.copy_from_slice.new.self) c.deref_mut.ensures.value ∙ ap (put_mid 26 32 body.items) c.copy_from_slice.ensures.after)) in
    put_answer results close c.self.inside.close body.items c.args.text.now c.from_vec.result (c.self.view_is ∙ is) c.requires.plain new

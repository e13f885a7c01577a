use Rattle.hrana_value.proofs.SendingLemmas.{EndsItems, EndsWhole, EndsTree}
use Rattle.hrana_value.proofs.sending.send_list.Given as goal

abbrev pub invariant-loop-item : goal.invariant-loop-item
invariant-loop-item g l =
    EndsItems g.T.JsonText.form l.items l.item-index (g.S.Serializer.written l.initial.out) (g.S.Serializer.written l.out) × EndsWhole g.T.JsonText.form l.items l.item-index
    × EndsTree g.T.JsonText.tree g.T.JsonText.form l.items l.item-index

use Rattle.hrana_value.proofs.SendingLemmas.{EndsItems, EndsWhole, EndsTree}
use Rattle.hrana_batch.specs.Tree.{CondTree}
use Rattle.hrana_batch.specs.Written.{cond_data}
use Rattle.hrana_batch.proofs.sending.+sending.Given as goal

abbrev pub invariant-send_conds-loop-cond : goal.invariant-send_conds-loop-cond
invariant-send_conds-loop-cond g l =
    EndsItems cond_data l.conds l.cond-index (g.S.Serializer.written l.initial.out) (g.S.Serializer.written l.out) × EndsWhole cond_data l.conds l.cond-index
    × EndsTree CondTree cond_data l.conds l.cond-index

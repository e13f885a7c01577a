-- The table of turns once a stream is lost.
use Rattle.std.proofs.Common.{◌≡◌, ◌≢◌, All, sym, subst}
use Rattle.hrana_value.specs.declared.StreamNo.{StreamNo}
use Rattle.txn_table.specs.Turns.{Turns, after_loss}
use Rattle.txn_table.proofs.StreamLemmas.{none_left}

pub none_waits : (stream : StreamNo) (t t' : Turns) → t' ≡ after_loss t stream → All (λ (x : StreamNo). x ≢ stream) t'.waiters
none_waits stream t t' e = subst (λ (y : Turns). All (λ (x : StreamNo). x ≢ stream) y.waiters) (sym e) (none_left t.waiters stream)

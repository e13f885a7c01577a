use Rattle.std.proofs.Common.{Some, codes, sym, ap, refl}
use Rattle.hrana_value.proofs.TextLemmas.{apart}
use Rattle.ws_messages.proofs.KindLemmas.{none_named}
use Rattle.ws_messages.proofs.kinds.kind_of_name.Goals as goal

pub returns-in-None : goal.returns-in-None
returns-in-None c =
    let s = c.args.text.now in
    none_named s (λ e. apart (Some s) s (codes "open_stream") (sym c.if-eq.ensures) refl (ap Some e)) (λ e. apart (Some s) s (codes "close_stream") (sym c.if-eq-2.ensures) refl (ap Some e)) c.in-None.ensures

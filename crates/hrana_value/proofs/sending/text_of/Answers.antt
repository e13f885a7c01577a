use Rattle.std.proofs.Common.{◌≡◌, ap, ◌∙◌, subst, sym}
use Rattle.std.specs.Prelude.{IsUtf8}
use Rattle.std.proofs.lemmas.Str.{IsUtf8-string_bytes}
use Rattle.serde_json.specs.Read.{read}
use Rattle.serde_json.specs.Written.{compact_text}
use Rattle.serde_json.proofs.FreeTexts.{text_of_value}
use Rattle.hrana_value.proofs.SendingLemmas.{read_compact}
use Rattle.hrana_value.proofs.sending.text_of.Goals as goal

pub returns-in-Ok : goal.returns-in-Ok
returns-in-Ok g c =
    let d = g.T.JsonText.form c.args.value.now in let sent = c.in-Ok.ensures.events in
    let same : c.from_string.result ≡ compact_text d = c.from_string.ensures ∙ text_of_value d sent.0 _ sent.1.0 sent.2 sent.1.1.no_float in
    record {
      text = same;
      utf8 = subst IsUtf8 (sym c.from_string.ensures) (IsUtf8-string_bytes c.in-Ok.text);
      reads_back = λ shallow. ap read same ∙ read_compact d sent.1.1 shallow;
      back = sent.1.2;
    }

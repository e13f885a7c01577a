-- Bytes are JSON of one tree at most.
use Rattle.std.proofs.Common.{◌≡◌, ℕ, List, sym, ◌∙◌}
use Rattle.serde_json.specs.Data.{Data}
use Rattle.hrana_value.proofs.TextLemmas.{one}
use Rattle.stream_requests.specs.JsonTexts.{IsJson, IsNoJson}

pub json_one : (bytes : List ℕ) (t u : Data) → IsJson bytes t → IsJson bytes u → t ≡ u
json_one bytes t u p q = one _ _ _ p.1 q.1

pub not_both : (bytes : List ℕ) (t : Data) → IsNoJson bytes → IsJson bytes t → ⊥
not_both bytes t p q = cc (sym (p q.0) ∙ q.1)

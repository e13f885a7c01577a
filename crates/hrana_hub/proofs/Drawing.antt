-- What a step draws, put together of what its parts draw.
use Rattle.std.proofs.Common.{◌≡◌, ℕ, List, [], Option, Some, append-nil, sym, ap, ◌∙◌, arith}
use Rattle.engine_core.specs.Draws.{Draw}
use Rattle.hrana_hub.specs.Drawn.{DrawsFrom}

module _ {T : Type 0} (drawn : T → Option (List Draw)) (faults : T → ℕ) (tokens tokens' : T) where
  -- nothing is drawn
  pub nothing_drawn : (P : List Draw → Type 0) → tokens' ≡ tokens → P [] → DrawsFrom drawn faults tokens tokens' P
  nothing_drawn P same p = record {
    draws = [];
    told = λ before e few. ap drawn same ∙ e ∙ ap Some (sym (append-nil before));
    cause = (let f = ap faults same in omega (arith, f));
    holds = p;
  }

  pub drawn_as : (P Q : List Draw → Type 0) → ((draws : List Draw) → P draws → Q draws) → DrawsFrom drawn faults tokens tokens' P → DrawsFrom drawn faults tokens tokens' Q
  drawn_as P Q more d = record { draws = d.draws; told = d.told; cause = d.cause; holds = more d.draws d.holds }

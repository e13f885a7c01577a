-- The events of one line more.
use Rattle.std.proofs.Common.{◌≡◌, ℕ, List, [], ◌∷◌, ◌++◌, length, arith, ap, refl}
use Rattle.hrana_hub.specs.declared.events.Event.{Event}
use Rattle.hrana_serve.specs.Script.{IsLineOf, ReadsAs}

-- one line more: an empty one, and one of an event
pub reads_blank : (L : List (List ℕ)) (V : List Event) → ReadsAs L V → ReadsAs (L ++ [] ∷ []) V
reads_blank [] V p = p
reads_blank ([] ∷ L) V p = reads_blank L V p
reads_blank ((b ∷ bs) ∷ L) [] p = absurd p
reads_blank ((b ∷ bs) ∷ L) (v ∷ V) p = (p.0, reads_blank L V p.1)

last_line : (line : List ℕ) (v : Event) (V : List Event) → (line ≡ [] → ⊥) → V ≡ [] → IsLineOf line v → ReadsAs (line ∷ []) (V ++ v ∷ [])
last_line [] v V filled e is = absurd (filled refl)
last_line (b ∷ bs) v [] filled e is = (is, refl)
last_line (b ∷ bs) v (x ∷ V) filled e is = absurd (omega (arith, ap length e))

pub reads_more : (L : List (List ℕ)) (V : List Event) (line : List ℕ) (v : Event) → (line ≡ [] → ⊥) → ReadsAs L V → IsLineOf line v → ReadsAs (L ++ line ∷ []) (V ++ v ∷ [])
reads_more [] V line v filled p is = last_line line v V filled p is
reads_more ([] ∷ L) V line v filled p is = reads_more L V line v filled p is
reads_more ((b ∷ bs) ∷ L) [] line v filled p is = absurd p
reads_more ((b ∷ bs) ∷ L) (x ∷ V) line v filled p is = (p.0, reads_more L V line v filled p.1 is)

-- Kinds whose names are the rows of a table that differ.
use Rattle.std.proofs.Common.{◌≡◌, ℕ, ◌<◌, List, [], length, get_or, sym, ◌∙◌, ap}
use Rattle.hrana_value.specs.Names.{RowsDiffer}

-- the kinds of one name are one, where each stands in its place
pub one_name : {K : Type 0} (name : K → List ℕ) (place : K → ℕ) (rows : List (List ℕ)) (kinds : List K) (first : K) → RowsDiffer rows → ((k : K) → place k < length rows) → ((k : K) → get_or rows (place k) [] ≡ name k)
    → ((k : K) → get_or kinds (place k) first ≡ k) → (k l : K) → name k ≡ name l → k ≡ l
one_name name place rows kinds first differ within named placed k l e =
    let same : place k ≡ place l = differ (place k) (place l) (within k) (within l) (named k ∙ e ∙ sym (named l)) in
    sym (placed k) ∙ ap (λ i. get_or kinds i first) same ∙ placed l

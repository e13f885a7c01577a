-- A tree is one of at most one result of a batch, in which nothing is declined.
use Rattle.std.proofs.Common.{◌≡◌, inl, inr, List, [], ◌∷◌, codes, refl, ap, subst, arith}
use Rattle.serde_json.specs.Data.{Data, null, boolean, number, string, array, object, Items, no_items, item}
use Rattle.hrana_value.specs.Declines.{EitherStands, Only}
use Rattle.hrana_value.specs.Members.{part_at}
use Rattle.hrana_value.specs.declared.failures.Decline.TheVariants.{Shape}
use Rattle.hrana_value.specs.Trees.{ItemsTree, ArrayTree, ArrayStands, OptionalStands}
use Rattle.hrana_value.proofs.DeclineLemmas.{NoneStands-parts}
use Rattle.hrana_value.proofs.ArrayLemmas.{ArrayTree-none}
use Rattle.hrana_value.proofs.PartLemmas.{OptionalTree-one, OptionalTree-none}
use Rattle.hrana_stmt.specs.Tree.{IsGiven, StmtResultTree, StmtResultStands, WireErrorTree, WireErrorStands, items_count}
use Rattle.hrana_stmt.proofs.ResultReadings.{StmtResultTree-one, StmtResultTree-none, WireErrorTree-one, WireErrorTree-none}
use Rattle.hrana_batch.specs.declared.outcomes.Outcome.{Outcome}
use Rattle.hrana_batch.specs.declared.outcomes.Outcome.TheVariants.{Skipped, Done, Failed}
use Rattle.hrana_batch.specs.declared.outcomes.BatchResult.{BatchResult}
use Rattle.hrana_batch.specs.Tree.{result_of, error_in, ResultEntryTree, ErrorEntryTree, BothGiven, PartsClash, NoTreeIsTwoBatchResults, BatchResultsAreRead}

-- ---- a tree is one of at most one result of a batch

outcome_one : (o p : Outcome) → result_of o ≡ result_of p → error_in o ≡ error_in p → o ≡ p
outcome_one Skipped Skipped a b = refl
outcome_one Skipped (Done s) a b = cc a
outcome_one Skipped (Failed f) a b = cc b
outcome_one (Done r) Skipped a b = cc a
outcome_one (Done r) (Done s) a b = cc a
outcome_one (Done r) (Failed f) a b = cc a
outcome_one (Failed e) Skipped a b = cc b
outcome_one (Failed e) (Done s) a b = cc b
outcome_one (Failed e) (Failed f) a b = cc b

entry_one : (r e : Data) (o p : Outcome) → ResultEntryTree o r → ErrorEntryTree o e → ResultEntryTree p r → ErrorEntryTree p e → o ≡ p
entry_one r e o p a b c d =
    outcome_one o p (OptionalTree-one StmtResultTree StmtResultTree-one r (result_of o) (result_of p) a c) (OptionalTree-one WireErrorTree WireErrorTree-one e (error_in o) (error_in p) b d)

entries_one : (rs es : Items) (os ps : List Outcome) → ItemsTree ResultEntryTree os rs → ItemsTree ErrorEntryTree os es → ItemsTree ResultEntryTree ps rs → ItemsTree ErrorEntryTree ps es → os ≡ ps
entries_one no_items es [] [] a b c d = refl
entries_one no_items es [] (p ∷ ps) a b c d = absurd c
entries_one no_items es (o ∷ os) ps a b c d = absurd a
entries_one (item r rs) es [] ps a b c d = absurd a
entries_one (item r rs) es (o ∷ os) [] a b c d = absurd c
entries_one (item r rs) no_items (o ∷ os) (p ∷ ps) a b c d = absurd b
entries_one (item r rs) (item e es) (o ∷ os) (p ∷ ps) a b c d = cc (entry_one r e o p a.0 b.0 c.0 d.0, entries_one rs es os ps a.1 b.1 c.1 d.1)

-- the items of an array, where it is one
pub items_of_array : {A : Type 0} (tree : A → Data → Type 0) (xs : List A) (d : Data) → ArrayTree tree xs d → (ds : Items) × (d ≡ array ds) × ItemsTree tree xs ds
items_of_array tree xs null h = absurd h
items_of_array tree xs (boolean b) h = absurd h
items_of_array tree xs (number n) h = absurd h
items_of_array tree xs (string s) h = absurd h
items_of_array tree xs (array ds) h = (ds, refl, h)
items_of_array tree xs (object ms) h = absurd h

parts_one : (results errors : Data) (os ps : List Outcome) → ArrayTree ResultEntryTree os results → ArrayTree ErrorEntryTree os errors → ArrayTree ResultEntryTree ps results → ArrayTree ErrorEntryTree ps errors → os ≡ ps
parts_one results errors os ps a b c d =
    let rs = items_of_array ResultEntryTree os results a in
    let es = items_of_array ErrorEntryTree os errors b in
    entries_one rs.0 es.0 os ps rs.2 es.2 (subst (ArrayTree ResultEntryTree ps) rs.1 c) (subst (ArrayTree ErrorEntryTree ps) es.1 d)

abbrev make : List Outcome → BatchResult
make os = record { outcomes = os }

pub BatchResultTree-one : NoTreeIsTwoBatchResults
BatchResultTree-one t r s p q =
    let same : r.outcomes ≡ s.outcomes = parts_one (part_at (codes "step_results") t) (part_at (codes "step_errors") t) r.outcomes s.outcomes p.results p.errors q.results q.errors in
    ap make same

-- ---- nothing is declined in the form of a result of a batch

both_counts : (os : List Outcome) (rs es : Items) → ItemsTree ResultEntryTree os rs → ItemsTree ErrorEntryTree os es → items_count rs ≡ items_count es
both_counts [] no_items no_items a b = refl
both_counts [] no_items (item e es) a b = absurd b
both_counts [] (item r rs) es a b = absurd a
both_counts (o ∷ os) no_items es a b = absurd a
both_counts (o ∷ os) (item r rs) no_items a b = absurd b
both_counts (o ∷ os) (item r rs) (item e es) a b = omega (arith, both_counts os rs es a.1 b.1)

one_absent : (o : Outcome) (r e : Data) → ResultEntryTree o r → ErrorEntryTree o e → IsGiven r → IsGiven e → ⊥
one_absent Skipped r e a b given its = given a
one_absent (Done x) r e a b given its = its b
one_absent (Failed x) r e a b given its = given a

never_both : (os : List Outcome) (rs es : Items) → ItemsTree ResultEntryTree os rs → ItemsTree ErrorEntryTree os es → BothGiven rs es → ⊥
never_both os no_items es a b h = h
never_both os (item r rs) no_items a b h = h
never_both [] (item r rs) (item e es) a b h = a
never_both (o ∷ os) (item r rs) (item e es) a b (inl h) = one_absent o r e a.0 b.0 h.0 h.1
never_both (o ∷ os) (item r rs) (item e es) a b (inr h) = never_both os rs es a.1 b.1 h

no_clash : (os : List Outcome) (results errors : Data) → ArrayTree ResultEntryTree os results → ArrayTree ErrorEntryTree os errors → PartsClash results errors → ⊥
no_clash os results errors a b clash =
    let rs = subst (ArrayTree ResultEntryTree os) clash.2 a in
    let es = subst (ArrayTree ErrorEntryTree os) clash.3 b in
    elim clash.4 [ inl differ ↦ differ (both_counts os clash.0 clash.1 rs es) | inr both ↦ never_both os clash.0 clash.1 rs es both ]

pub BatchResultTree-none : BatchResultsAreRead
BatchResultTree-none r t p =
    let results = part_at (codes "step_results") t in let errors = part_at (codes "step_errors") t in
    let R = OptionalStands StmtResultStands in let E = OptionalStands WireErrorStands in
    NoneStands-parts (EitherStands (ArrayStands R results) (ArrayStands E errors)) (Only Shape (PartsClash results errors))
    (NoneStands-parts (ArrayStands R results) (ArrayStands E errors)
    (ArrayTree-none ResultEntryTree R (λ o d. OptionalTree-none StmtResultTree StmtResultStands StmtResultTree-none (result_of o) d) r.outcomes results p.results)
    (ArrayTree-none ErrorEntryTree E (λ o d. OptionalTree-none WireErrorTree WireErrorStands WireErrorTree-none (error_in o) d) r.outcomes errors p.errors))
    (λ k here. no_clash r.outcomes results errors p.results p.errors here.1)

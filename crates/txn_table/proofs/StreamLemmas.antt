-- On lists of streams.
use Rattle.std.proofs.Common.{◌≡◌, ◌≢◌, ℕ, Bool, true, false, not, ◌||◌, List, [], ◌∷◌, get_or, refl, sym, ap, ◌∙◌, arith, inl, inr, nat_lt}
use Rattle.std.specs.List.{All, AllPairs}
use Rattle.std.proofs.lemmas.Bool.{cases_Bool, eq-eqb, eqb-true, ne_eqb}
use Rattle.std.proofs.lemmas.List.Elements.{All-cons, All-push, filter_passes}
use Rattle.std.proofs.lemmas.List.Quantifiers.{all_pairs_push}
use Rattle.hrana_value.specs.declared.StreamNo.{StreamNo}
use Rattle.txn_table.specs.Turns.{same_stream, has, without, queued, placed}

pub stream_one : (x y : StreamNo) → x.0 ≡ y.0 → x ≡ y
stream_one x y e = ap (λ (n : ℕ). let s : StreamNo = record { 0 = n } in s) e

pub same : (x y : StreamNo) → x ≡ y → same_stream x y ≡ true
same x y e = eq-eqb x.0 y.0 (ap (λ (s : StreamNo). s.0) e)

pub other : (x y : StreamNo) → x ≢ y → same_stream x y ≡ false
other x y ne = ne_eqb x.0 y.0 (λ e. ne (stream_one x y e))

pub one_of_same : (x y : StreamNo) → same_stream x y ≡ true → x ≡ y
one_of_same x y e = stream_one x y (eqb-true x.0 y.0 e)

pub true_not_false : true ≡ false → ⊥
true_not_false e = cc

pub or_true : (a : Bool) → (a || true) ≡ true
or_true true = refl
or_true false = refl

-- ---- which streams stand in a list

pub still_placed : (k s : StreamNo) (xs : List StreamNo) → has k xs ≡ true → has k (placed s xs) ≡ true
still_placed k s [] h = absurd (true_not_false (sym h))
still_placed k s (x ∷ xs) h = elim (cases_Bool (nat_lt x.0 s.0)) [
  | inl below ↦ rw below (elim (cases_Bool (same_stream x k)) [
    | inl e ↦ rw e refl
    | inr ne ↦
        let rest : has k xs ≡ true = rw ne at h in
        rw (still_placed k s xs rest) (or_true (same_stream x k))
  ])
  | inr above ↦ elim (cases_Bool (same_stream x s)) [
    | inl e ↦ rw (above, e) h
    | inr ne ↦ rw (above, ne, h) (or_true (same_stream s k))
  ]
]

pub has_without : (k s : StreamNo) (xs : List StreamNo) → k ≢ s → has k xs ≡ true → has k (without s xs) ≡ true
has_without k s [] ne h = h
has_without k s (x ∷ xs) ne h = elim (cases_Bool (same_stream x s)) [
  | inl e ↦
      let apart : same_stream x k ≡ false = other x k (λ f. ne (sym f ∙ one_of_same x s e)) in
      let rest : has k xs ≡ true = rw apart at h in
      rw e (has_without k s xs ne rest)
  | inr out ↦ rw out (elim (cases_Bool (same_stream x k)) [
    | inl e ↦ rw e refl
    | inr apart ↦
        let rest : has k xs ≡ true = rw apart at h in
        rw (has_without k s xs ne rest) (or_true (same_stream x k))
  ])
]

-- a stream that isn't in a list differs from each that is
pub none_of_has : (s : StreamNo) (xs : List StreamNo) → has s xs ≡ false → All (λ (x : StreamNo). x ≢ s) xs
none_of_has s [] out = λ k d lt. absurd (omega arith)
none_of_has s (x ∷ xs) out = elim (cases_Bool (same_stream x s)) [
  | inl e ↦ absurd (let f : true ≡ false = rw e at out in true_not_false f)
  | inr ne ↦
      let rest : has s xs ≡ false = rw ne at out in
      All-cons (λ (y : StreamNo). y ≢ s) x xs (λ e. true_not_false (sym (same x s e) ∙ ne)) (none_of_has s xs rest)
]

pub none_left : (xs : List StreamNo) (stream : StreamNo) → All (λ (x : StreamNo). x ≢ stream) (without stream xs)
none_left xs stream k d lt e =
    let passes : not (same_stream (get_or (without stream xs) k d) stream) ≡ true = filter_passes (λ (x : StreamNo). not (same_stream x stream)) xs k d lt in
    true_not_false (sym passes ∙ ap not (same _ _ e))

-- ---- a stream is put at the end

pub All-queued : (P : StreamNo → Type 0) (s : StreamNo) (xs : List StreamNo) → All P xs → P s → All P (queued s xs)
All-queued P s xs all one = elim (cases_Bool (has s xs)) [
  | inl here ↦ rw here all
  | inr out ↦ rw out (All-push P xs s all one)
]

pub apart_queued : (s : StreamNo) (xs : List StreamNo) → AllPairs (λ (a b : StreamNo). a ≢ b) xs → AllPairs (λ (a b : StreamNo). a ≢ b) (queued s xs)
apart_queued s xs apart = elim (cases_Bool (has s xs)) [
  | inl here ↦ rw here apart
  | inr out ↦ rw out (all_pairs_push (λ (a b : StreamNo). a ≢ b) xs s apart (none_of_has s xs out))
]

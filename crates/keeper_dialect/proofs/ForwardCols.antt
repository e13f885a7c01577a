-- The columns of a table go forward, up to one column too many.
use Rattle.std.proofs.Common.{◌≡◌, ℕ, Bool, true, false, cond, List, [], ◌∷◌, ◌++◌, length, drop, Ok, Err, refl, sym, ap, ◌∙◌, subst, append_assoc, append-nil, arith}
use Rattle.std.specs.Prelude.{not, nat_lt}
use Rattle.keeper_dialect.specs.declared.limits.TheConstants.{MAX_COLUMNS}
use Rattle.keeper_dialect.specs.declared.tokens.Keyword.TheVariants as keyword
use Rattle.keeper_dialect.specs.declared.query.ColDef.{ColDef}
use Rattle.keeper_dialect.specs.Tokens.{Token}
use Rattle.keeper_dialect.specs.Reading.{Reading, and_then, repeated, behind_comma, separated, symbol_at, place_at, is_keyword, is_sign, keyword_at, sign_at}
use Rattle.keeper_dialect.specs.Lists.{is_col, has_key, new_name_at, is_plain_word, key_at, col_name_at, col_def_at, cols_at, col_defs_at}
use Rattle.keeper_dialect.specs.Grammar.{Is, here, Then, both, second, Repeated, none, more, one, standing, Keyed, Signed, unless, Separated, Bracketed, NewName, Nothing, TypeName, KeyMark, IsColDef}
use Rattle.keeper_dialect.specs.Stops.{FullCols}
use Rattle.keeper_dialect.proofs.ReadingLemmas.{GoesOn, then_err}
use Rattle.keeper_dialect.proofs.Shorter.{commas_go_on, col_def_within}
use Rattle.keeper_dialect.proofs.ExactLists.{Behind}
use Rattle.keeper_dialect.proofs.ExactParts.{and_false, type_at, KeyWords, ColName, KeyedCol, col_rest, typed_rest, same_typed}
use Rattle.keeper_dialect.proofs.Forward.{Ended, Outcome, Forward, Begun, begun, Able, Going, stops_here, goes_here, outcome_as, going_as, going_is, forward_then, begun_early, begun_late, going_then, going_perhaps, NextOutcome, Longer, forward_repeated}
use Rattle.keeper_dialect.proofs.ForwardTerms.{going_keyword, going_sign}
use Rattle.keeper_dialect.proofs.ForwardLists.{going_new_name, fresh_name, longer_none, longer_early, longer_late, comma_outcome, rest_made}

pub able_then : {A B : Type 0} (P : A → List Token → Type 0) (Q : A → B → List Token → Type 0) → Able P → ((x : A) → Able (Q x)) → Able (Then P Q)
able_then P Q early late = let b = late early.value in record { value = b.value; tokens = early.tokens ++ b.tokens; is = both early.value b.value early.tokens b.tokens early.is b.is }

-- tokens that a part begins with, or that are another part
pub data Partly {A : Type 0} (P : A → List Token → Type 0) (F : Unit {0} → List Token → Type 0) (us : List Token) : Type 0 where
  partly : Begun P us → Partly P F us
  filled : F tt us → Partly P F us

-- the other part may stand behind the first of two
pub partly_behind : {A B : Type 0} (P : A → List Token → Type 0) (Q : A → B → List Token → Type 0) (F : Unit {0} → List Token → Type 0) (at : List Token → Reading A) (k : A → List Token → Reading B) → Going P at → ((x : A) → Forward (Q x) (Partly (Q x) F) (k x)) → ((x : A) → Able (Q x)) → Forward (Then P Q) (Partly (Then P Q) (Then P (λ _. F))) (λ ts. and_then (at ts) k)
partly_behind {A = A} P Q F at k early late able = forward_then P Q (Begun P) (Partly (Then P Q) (Then P (λ _. F))) (λ x. Partly (Q x) F) at k early.forward late (λ us b. partly (begun_early P Q able us b)) late_begins
  where
    late_begins : (x : A) (us vs : List Token) → P x us → Partly (Q x) F vs → Partly (Then P Q) (Then P (λ _. F)) (us ++ vs)
    late_begins x us vs p (partly b) = partly (begun_late P Q x us vs p b)
    late_begins x us vs p (filled f) = filled (both x tt us vs p f)

-- the other part may stand in place of the first of two
pub partly_before : {A B : Type 0} (P : A → List Token → Type 0) (Q : A → B → List Token → Type 0) (F : Unit {0} → List Token → Type 0) (at : List Token → Reading A) (k : A → List Token → Reading B) → Forward P (Partly P F) at → ((x : A) → Going (Q x) (k x)) → Forward (Then P Q) (Partly (Then P Q) F) (λ ts. and_then (at ts) k)
partly_before {A = A} P Q F at k early late = forward_then P Q (Partly P F) (Partly (Then P Q) F) (λ x. Begun (Q x)) at k early (λ x. (late x).forward) early_begins (λ x us vs p b. partly (begun_late P Q x us vs p b))
  where
    early_begins : (us : List Token) → Partly P F us → Partly (Then P Q) F us
    early_begins us (partly b) = partly (begun_early P Q (λ x. (late x).able) us b)
    early_begins us (filled f) = filled f

going_col_name : (done : List ColDef) → nat_lt (length done) MAX_COLUMNS ≡ true → Going (ColName done) (col_name_at done)
unfolding col_name_at
going_col_name done few = going_as (NewName (is_col done)) (ColName done) (new_name_at (is_col done)) (col_name_at done) (going_new_name (is_col done) (fresh_name (λ (col : ColDef). col.name) done)) (λ x us p. unless x us p (ap not few)) (λ ts. ap (λ b. cond b (new_name_at (is_col done) ts) (Err (place_at ts))) few)

going_type : Going TypeName type_at
unfolding type_at
going_type = going_perhaps is_plain_word Nothing Nothing (λ ts. Ok (tt, ts)) (λ ts. Ok (tt, ts)) refl (going_is tt) (going_is tt)

key_words_at : List Token → Reading Bool
key_words_at ts = cond (is_keyword keyword.Primary (symbol_at ts)) (and_then (keyword_at keyword.Key (drop 1 ts)) (λ _ rest. Ok (true, rest))) (Ok (false, ts))

going_key_words : Going KeyWords key_words_at
unfolding key_words_at
going_key_words = going_perhaps (is_keyword keyword.Primary) (Then (Keyed keyword.Key) (λ _. Is true)) (Is false) (λ ts. and_then (keyword_at keyword.Key ts) (λ _ rest. Ok (true, rest))) (λ ts. Ok (false, ts)) refl (going_then (Keyed keyword.Key) (λ _. Is true) (keyword_at keyword.Key) (λ _ rest. Ok (true, rest)) (going_keyword keyword.Key) (λ _. going_is true)) (going_is false)

no_key : KeyMark true false []
no_key = unless false [] (second false [] here) refl

going_key : (had : Bool) → Going (KeyMark had) (key_at had)
unfolding key_at key_words_at
going_key false = going_as KeyWords (KeyMark false) key_words_at (key_at false) going_key_words (λ x us p. unless x us p (and_false x)) (λ ts. refl)
going_key true = record { forward = record { outcome = λ ts ended. by_test (is_keyword keyword.Primary (symbol_at ts)) ts refl ended }; able = record { value = false; tokens = []; is = no_key } }
  where
    by_test : (b : Bool) (ts : List Token) → is_keyword keyword.Primary (symbol_at ts) ≡ b → Ended ts → Outcome (KeyMark true) (Begun (KeyMark true)) (key_at true) ts
    by_test true ts is ended = stops_here (KeyMark true) (Begun (KeyMark true)) (key_at true) ts ended (begun false [] no_key) (λ t other same. ap (λ b. cond b (Err t.start) (Ok (false, t ∷ other))) (ap (is_keyword keyword.Primary) same ∙ is))
    by_test false ts is ended = goes_here (KeyMark true) (Begun (KeyMark true)) (key_at true) false ts ended no_key (λ t other same. ap (λ b. cond b (Err t.start) (Ok (false, t ∷ other))) (ap (is_keyword keyword.Primary) same ∙ is))

going_col_rest : (done : List ColDef) (name : List ℕ) → Going (Then TypeName (λ _. KeyedCol done name)) (col_rest done name)
unfolding typed_rest
going_col_rest done name =
    going_as (Then TypeName (λ _. KeyedCol done name)) (Then TypeName (λ _. KeyedCol done name)) (typed_rest done name) (col_rest done name)
    (going_then TypeName (λ _. KeyedCol done name) type_at _ going_type (λ _.
    going_then (KeyMark (has_key done)) (λ key. Is (record { name = name; key = key })) (key_at (has_key done)) (λ key rest. Ok (record { name = name; key = key }, rest)) (going_key (has_key done)) (λ key. going_is (record { name = name; key = key }))))
    (λ x us p. p) (same_typed done name)

going_col_def : (done : List ColDef) → nat_lt (length done) MAX_COLUMNS ≡ true → Going (IsColDef done) (col_def_at done)
unfolding col_def_at col_rest
going_col_def done few = going_then (ColName done) (λ name. Then TypeName (λ _. KeyedCol done name)) (col_name_at done) (col_rest done) (going_col_name done few) (going_col_rest done)

-- one column more is refused where it starts
pub col_def_at-full : (done : List ColDef) (t : Token) (other : List Token) → nat_lt (length done) MAX_COLUMNS ≡ false → col_def_at done (t ∷ other) ≡ Err t.start
unfolding col_def_at col_name_at
col_def_at-full done t other full = then_err (col_name_at done (t ∷ other)) _ t.start (ap (λ b. cond b (new_name_at (is_col done) (t ∷ other)) (Err t.start)) full)

full_col_def : (done : List ColDef) → nat_lt (length done) MAX_COLUMNS ≡ false → Forward (IsColDef done) (λ us. us ≡ []) (col_def_at done)
full_col_def done full = record { outcome = λ ts ended. stops_here (IsColDef done) (λ us. us ≡ []) (col_def_at done) ts ended refl (λ t other same. col_def_at-full done t other full) }

-- tokens that columns behind others begin with, or that are all the columns that a table may have, and a comma
data ColsBegun (done : List ColDef) (us : List Token) : Type 0 where
  open_cols : Begun (Longer (Behind IsColDef) done) us → ColsBegun done us
  full_cols : (xs : List ColDef) (ws : List Token) (comma : Token) → Repeated (Behind IsColDef) done xs ws → is_sign 44 comma.symbol ≡ true → nat_lt (length (done ++ xs)) MAX_COLUMNS ≡ false → us ≡ ws ++ comma ∷ [] → ColsBegun done us

cols_next : (done : List ColDef) (ts : List Token) → Ended ts → NextOutcome (Behind IsColDef done) (ColsBegun done) (behind_comma col_def_at done) ts
cols_next done ts ended = by_count (nat_lt (length done) MAX_COLUMNS) refl
  where
    begins_open : (t : Token) (us : List Token) → is_sign 44 t.symbol ≡ true → Begun (IsColDef done) us → ColsBegun done (t ∷ us)
    begins_open t us is (begun x vs p) = open_cols (longer_early (Behind IsColDef) done (t ∷ us) (begun x vs (both tt x (t ∷ []) (us ++ vs) (one t tt (ap standing is)) p)))

    by_count : (b : Bool) → nat_lt (length done) MAX_COLUMNS ≡ b → NextOutcome (Behind IsColDef done) (ColsBegun done) (behind_comma col_def_at done) ts
    by_count true few = comma_outcome IsColDef col_def_at (ColsBegun done) (Begun (IsColDef done)) done (going_col_def done few).forward begins_open ts ended
    by_count false full = comma_outcome IsColDef col_def_at (ColsBegun done) (λ us. us ≡ []) done (full_col_def done full) (λ t us is empty. full_cols [] [] t (none done) is (ap (λ cols. nat_lt (length cols) MAX_COLUMNS) (append-nil done) ∙ full) (ap (λ vs. t ∷ vs) empty)) ts ended

cols_late : (done : List ColDef) (x : ColDef) (us vs : List Token) → Behind IsColDef done x us → ColsBegun (done ++ x ∷ []) vs → ColsBegun done (us ++ vs)
cols_late done x us vs p (open_cols b) = open_cols (longer_late (Behind IsColDef) done x us vs p b)
cols_late done x us vs p (full_cols xs ws comma q is full whole) = full_cols (x ∷ xs) (us ++ ws) comma (more done x xs us ws p q) is (ap (λ cols. nat_lt (length cols) MAX_COLUMNS) (sym (append_assoc done (x ∷ []) xs)) ∙ full) (ap (λ vs. us ++ vs) whole ∙ sym (append_assoc us ws (comma ∷ [])))

pub cols_go_on : GoesOn (behind_comma col_def_at)
cols_go_on = commas_go_on col_def_at (λ done ts. col_def_within done ts (length ts) (omega arith))

abbrev ColsBehind : ColDef → List ColDef → List Token → Type 0
ColsBehind x = Then (Repeated (Behind IsColDef) (x ∷ [])) (λ xs. Is (x ∷ xs))

forward_cols_behind : (x : ColDef) → Forward (ColsBehind x) (ColsBegun (x ∷ [])) (λ ts. repeated (behind_comma col_def_at) (length ts) (x ∷ []) ts)
forward_cols_behind x = record { outcome = λ ts ended. outcome_as (Longer (Behind IsColDef) (x ∷ [])) (ColsBehind x) (ColsBegun (x ∷ [])) (ColsBegun (x ∷ [])) _ _ ts (forward_repeated (Behind IsColDef) (behind_comma col_def_at) ColsBegun ColsBegun cols_go_on cols_next (λ done us b. b) cols_late (length ts) (x ∷ []) ts (omega arith) ended) (rest_made IsColDef x) (λ us b. b) (λ ws same. refl) }

able_behind : (x : ColDef) → Able (ColsBehind x)
able_behind x = record { value = x ∷ []; tokens = []; is = rest_made IsColDef x (x ∷ []) [] (longer_none (Behind IsColDef) (x ∷ [])) }

abbrev Cols : List ColDef → List Token → Type 0
Cols = Separated IsColDef

able_cols : Able Cols
able_cols = able_then (IsColDef []) ColsBehind (going_col_def [] refl).able able_behind

forward_cols : Forward Cols (Partly Cols FullCols) cols_at
unfolding cols_at separated
forward_cols = forward_then (IsColDef []) ColsBehind (Begun (IsColDef [])) (Partly Cols FullCols) (λ x. ColsBegun (x ∷ [])) (col_def_at []) (λ x rest. repeated (behind_comma col_def_at) (length rest) (x ∷ []) rest) (going_col_def [] refl).forward forward_cols_behind (λ us b. partly (begun_early (IsColDef []) ColsBehind able_behind us b)) late_begins
  where
    behind_begun : (x : ColDef) (vs : List Token) → Begun (Longer (Behind IsColDef) (x ∷ [])) vs → Begun (ColsBehind x) vs
    behind_begun x vs (begun all ws l) = begun all ws (rest_made IsColDef x all (vs ++ ws) l)

    late_begins : (x : ColDef) (us vs : List Token) → IsColDef [] x us → ColsBegun (x ∷ []) vs → Partly Cols FullCols (us ++ vs)
    late_begins x us vs p (open_cols b) = partly (begun_late (IsColDef []) ColsBehind x us vs p (behind_begun x vs b))
    late_begins x us vs p (full_cols xs ws comma q is full whole) =
        let cols : Cols (x ∷ xs) (us ++ ws) = both x (x ∷ xs) us ws p (rest_made IsColDef x (x ∷ xs) ws (record { xs = xs; is = q; same = refl })) in
        filled (subst (FullCols tt) (append_assoc us ws (comma ∷ []) ∙ ap (λ vs. us ++ vs) (sym whole)) (both (x ∷ xs) tt (us ++ ws) (comma ∷ []) (unless (x ∷ xs) (us ++ ws) cols full) (one comma tt (ap standing is))))

abbrev Closed : List ColDef → List ColDef → List Token → Type 0
Closed cols = Then (Signed 41) (λ _. Is cols)

going_closed : (cols : List ColDef) → Going (Closed cols) (λ after. and_then (sign_at 41 after) (λ _ rest. Ok (cols, rest)))
going_closed cols = going_then (Signed 41) (λ _. Is cols) (sign_at 41) (λ _ rest. Ok (cols, rest)) (going_sign 41 refl) (λ _. going_is cols)

able_closed : Able (Then Cols Closed)
able_closed = able_then Cols Closed able_cols (λ cols. (going_closed cols).able)

pub able_col_defs : Able (Bracketed Cols)
able_col_defs = able_then (Signed 40) (λ _. Then Cols Closed) (going_sign 40 refl).able (λ _. able_closed)

pub forward_col_defs : Forward (Bracketed Cols) (Partly (Bracketed Cols) (Then (Signed 40) (λ _. FullCols))) col_defs_at
unfolding col_defs_at
forward_col_defs =
    partly_behind (Signed 40) (λ _. Then Cols Closed) FullCols (sign_at 40) _ (going_sign 40 refl) (λ _.
    partly_before Cols Closed FullCols cols_at (λ cols after. and_then (sign_at 41 after) (λ _ rest. Ok (cols, rest))) forward_cols going_closed) (λ _. able_closed)

-- Closed pieces cut out of a text, and the one statement of a text.
use Rattle.std.proofs.Common.{◌≡◌, ◌<◌, ◌≤◌, ◌+◌, ◌-◌, ℕ, Bool, true, false, cond, List, [], ◌∷◌, ◌++◌, length, take, drop, Option, Some, None, Err, refl, sym, ap, ap₂, ◌∙◌, subst, arith, append_assoc, append-nil, zero-add, add-zero, take_all, map}
use Rattle.std.specs.Prelude.{All, slice_range}
use Rattle.std.proofs.lemmas.Bool.{cond-false}
use Rattle.std.proofs.lemmas.List.{length-append, drop_at, take_at, take-take, length-take-le}
use Rattle.std.proofs.lemmas.List.Concat.{flat_map-append}
use Rattle.std.proofs.lemmas.List.Elements.{All-nil, All-cons, All-head, All-tail}
use Rattle.hrana_value.specs.declared.value.Value.{Value}
use Rattle.hrana_stmt.specs.declared.statements.NamedArg.{NamedArg}
use Rattle.sql_text.specs.declared.pieces.PieceKind.{PieceKind}
use Rattle.sql_text.specs.declared.pieces.PieceKind.TheVariants as kind
use Rattle.sql_text.specs.declared.class.Keyword.{Keyword}
use Rattle.sql_text.specs.declared.class.Role.{Role}
use Rattle.sql_text.specs.declared.class.Role.TheVariants as role
use Rattle.sql_text.specs.declared.spans.Span.{Span}
use Rattle.sql_text.specs.Pieces.{Token, token, pieces, joined, bytes_of, first_piece, first_token, ArePieces, EachIsFirst}
use Rattle.sql_text.specs.Words.{words, words_by, role_of}
use Rattle.sql_text.specs.Class.{class_of_words, keyword_of_token}
use Rattle.sql_text.specs.Parameters.{is_parameter, parameter_texts, all_fit, all_numbered}
use Rattle.sql_text.specs.Binding.{bound, bound_values, or_unclosed}
use Rattle.sql_text.specs.declared.binding.BindFail.TheVariants as fail
use Rattle.sql_text.specs.Spans.{Placed, placed, spans_of, is_unclosed, first_unclosed, unclosed_at, closed_span, grown, spans_from, resume, cuts}
use Rattle.sql_text.specs.Statements.{IsClosed, EachRunHasItsPieces, ReadsAsItsText, EachStatementReadsAsItsText}
use Rattle.sql_text.proofs.PieceSizes.{first_piece_within}
use Rattle.sql_text.proofs.PieceLists.{each_text_has_one_list}
use Rattle.sql_text.proofs.ClassLemmas.{class_of_text-words}
use Rattle.sql_text.proofs.SpanLemmas.{spans-skipped, spans-cuts, spans-stands, spans-end}
use Rattle.sql_text.proofs.CutLemmas.{Closed, first_piece_cut}

-- the same with its bytes
first_token_cut : (n : ℕ) (rest : List ℕ) → 0 < n → Closed n (first_piece rest) → first_token (take n rest) ≡ first_token rest
first_token_cut n rest positive closed =
    let same : first_piece (take n rest) ≡ first_piece rest = first_piece_cut n rest positive closed in
    (λ i. token (same i).kind (take (same i).size (take n rest))) ∙ ap (token (first_piece rest).kind) (take-take (first_piece rest).size n rest closed.0)

first_tail : (before tokens : List Token) → EachIsFirst (before ++ tokens) → EachIsFirst tokens
first_tail [] tokens first = first
first_tail (t ∷ before) tokens first = first_tail before tokens first.2

-- a piece at the front of a run
run_step : (t : Token) (part whole rest : List ℕ) → t ≡ first_token whole → 0 < length t.bytes → length t.bytes ≤ length part → whole ≡ part ++ rest → IsClosed t → t ≡ first_token part
run_step t part whole rest is some long cut closed =
    let n : ℕ = length part in
    let nonempty : 0 < length whole = omega (arith, ap length cut, length-append part rest) in
    let within = first_piece_within whole nonempty in
    let size : length t.bytes ≡ (first_piece whole).size = ap (λ u. length u.bytes) is ∙ length-take-le (first_piece whole).size whole within.fits in
    let kind_is : is_unclosed (first_piece whole).kind ≡ false = ap (λ u. is_unclosed u.kind) (sym is) ∙ closed in
    let taken : take n whole ≡ part = ap (take n) cut ∙ take_at part rest n refl in
    is ∙ sym (first_token_cut n whole (omega arith) (omega arith, kind_is)) ∙ ap first_token taken

run_first : (run after : List Token) → EachIsFirst (run ++ after) → All IsClosed run → EachIsFirst run
run_first [] after first closed = tt
run_first (t ∷ run) after first closed =
    (run_step t (joined (t ∷ run)) (joined (t ∷ run ++ after)) (joined after) first.0 first.1 (omega (arith, length-append t.bytes (joined run))) (flat_map-append bytes_of (t ∷ run) after) (All-head IsClosed t run closed), first.1, run_first run after first.2 (All-tail IsClosed t run closed))

-- the slice of joined pieces
run_slice : (sql : List ℕ) (before run after : List Token) (start end : ℕ) → sql ≡ joined (before ++ (run ++ after)) → start ≡ length (joined before) → end ≡ start + length (joined run) → slice_range sql start end ≡ joined run
run_slice sql before run after start end is starts ends =
    let size : end - start ≡ length (joined run) = omega arith in
    let front : sql ≡ joined before ++ joined (run ++ after) = is ∙ flat_map-append bytes_of before (run ++ after) in
    ap₂ (λ n bytes. take n (drop start bytes)) size front
    ∙ ap (take (length (joined run))) (drop_at (joined before) (joined (run ++ after)) start (sym starts) ∙ flat_map-append bytes_of run after)
    ∙ take_at (joined run) (joined after) (length (joined run)) refl

run_pieces : (sql : List ℕ) (before run after : List Token) → pieces sql ≡ before ++ (run ++ after) → All IsClosed run → pieces (joined run) ≡ run
run_pieces sql before run after is closed =
    let are : ArePieces sql (pieces sql) = each_text_has_one_list.one sql in
    sym (each_text_has_one_list.only (joined run) run (record { joined = refl; first = run_first run after (first_tail before (run ++ after) (subst EachIsFirst is are.first)) closed }))

pub each_run_has_its_pieces : EachRunHasItsPieces
each_run_has_its_pieces sql before run after is closed =
    let parts : pieces sql ≡ before ++ (run ++ after) = is ∙ append_assoc before run after in
    let cut : slice_range sql (length (joined before)) (length (joined (before ++ run))) ≡ joined run = run_slice sql before run after (length (joined before)) (length (joined (before ++ run))) (sym (each_text_has_one_list.one sql).joined ∙ ap joined parts) refl (ap length (flat_map-append bytes_of before run) ∙ length-append (joined before) (joined run)) in
    ap pieces cut ∙ run_pieces sql before run after parts closed

-- no piece here stands in a part
abbrev Quiet : List Token → Type 0
Quiet [] = Unit {0}
Quiet (t ∷ tokens) = (role_of t.kind ≡ role.Stands → ⊥) × Quiet tokens

quiet_append : (xs ys : List Token) → Quiet xs → Quiet ys → Quiet (xs ++ ys)
quiet_append [] ys one other = other
quiet_append (x ∷ xs) ys one other = (one.0, quiet_append xs ys one.1 other)

-- what a role other than standing does to words
words_by-none : (r : Role) (begun : Bool) (word : Keyword) (same next : List Keyword) → (r ≡ role.Stands → ⊥) → same ≡ [] → words_by r begun word same next ≡ []
words_by-none role.Skipped begun word same next quiet none = none
words_by-none role.Cuts true word same next quiet none = refl
words_by-none role.Cuts false word same next quiet none = none
words_by-none role.Stands begun word same next quiet none = absurd (quiet refl)

words_by-same : (r : Role) (word : Keyword) (same next : List Keyword) → (r ≡ role.Stands → ⊥) → words_by r false word same next ≡ same
words_by-same role.Skipped word same next quiet = refl
words_by-same role.Cuts word same next quiet = refl
words_by-same role.Stands word same next quiet = absurd (quiet refl)

words_quiet : (begun : Bool) (tokens : List Token) → Quiet tokens → words begun tokens ≡ []
unfolding words
words_quiet begun [] quiet = refl
words_quiet begun (t ∷ tokens) quiet = words_by-none (role_of t.kind) begun (keyword_of_token t) (words begun tokens) (words true tokens) quiet.0 (words_quiet begun tokens quiet.1)

words_before : (before tokens : List Token) → Quiet before → words false (before ++ tokens) ≡ words false tokens
unfolding words
words_before [] tokens quiet = refl
words_before (t ∷ before) tokens quiet = words_by-same (role_of t.kind) (keyword_of_token t) (words false (before ++ tokens)) (words true (before ++ tokens)) quiet.0 ∙ words_before before tokens quiet.1

words_after : (begun : Bool) (tokens after : List Token) → Quiet after → words begun (tokens ++ after) ≡ words begun tokens
unfolding words
words_after begun [] after quiet = words_quiet begun after quiet
words_after begun (t ∷ tokens) after quiet = ap₂ (words_by (role_of t.kind) begun (keyword_of_token t)) (words_after begun tokens after quiet) (words_after true tokens after quiet)

quiet_parameter : (k : PieceKind) → (role_of k ≡ role.Stands → ⊥) → is_parameter k ≡ false
quiet_parameter kind.Blank quiet = refl
quiet_parameter kind.Comment quiet = refl
quiet_parameter kind.Quoted quiet = refl
quiet_parameter kind.Parameter quiet = absurd (quiet refl)
quiet_parameter kind.Word quiet = refl
quiet_parameter kind.Number quiet = refl
quiet_parameter (kind.Sign b) quiet = refl
quiet_parameter kind.Unclosed quiet = refl

parameters_before : (before tokens : List Token) → Quiet before → parameter_texts (before ++ tokens) ≡ parameter_texts tokens
parameters_before [] tokens quiet = refl
parameters_before (t ∷ before) tokens quiet = cond-false (is_parameter t.kind) (t.bytes ∷ parameter_texts (before ++ tokens)) (parameter_texts (before ++ tokens)) (quiet_parameter t.kind quiet.0) ∙ parameters_before before tokens quiet.1

parameters_quiet : (tokens : List Token) → Quiet tokens → parameter_texts tokens ≡ []
parameters_quiet [] quiet = refl
parameters_quiet (t ∷ tokens) quiet = cond-false (is_parameter t.kind) (t.bytes ∷ parameter_texts tokens) (parameter_texts tokens) (quiet_parameter t.kind quiet.0) ∙ parameters_quiet tokens quiet.1

parameters_after : (tokens after : List Token) → Quiet after → parameter_texts (tokens ++ after) ≡ parameter_texts tokens
parameters_after [] after quiet = parameters_quiet after quiet
parameters_after (t ∷ tokens) after quiet = ap (λ texts. cond (is_parameter t.kind) (t.bytes ∷ texts) texts) (parameters_after tokens after quiet)

-- the spans at a piece, by its role
at-skipped : (current : Option Span) (t : Token) (tokens : List Token) (at : ℕ) → role_of t.kind ≡ role.Skipped → spans_from current (placed at (t ∷ tokens)) ≡ spans_from current (placed (at + length t.bytes) tokens)
at-skipped current t tokens at is = spans-skipped current (record { token = t; start = at }) (placed (at + length t.bytes) tokens) is

at-cuts : (current : Option Span) (t : Token) (tokens : List Token) (at : ℕ) → role_of t.kind ≡ role.Cuts → spans_from current (placed at (t ∷ tokens)) ≡ closed_span current ++ spans_from None (placed (at + length t.bytes) tokens)
at-cuts current t tokens at is = spans-cuts current (record { token = t; start = at }) (placed (at + length t.bytes) tokens) is

at-stands : (current : Option Span) (t : Token) (tokens : List Token) (at : ℕ) → role_of t.kind ≡ role.Stands → spans_from current (placed at (t ∷ tokens)) ≡ spans_from (Some (grown current at (at + length t.bytes))) (placed (at + length t.bytes) tokens)
at-stands current t tokens at is = spans-stands current (record { token = t; start = at }) (placed (at + length t.bytes) tokens) is

-- a span that stands open is one of those that come
open_some : (span : Span) (parts : List (List Placed)) → resume (Some span) parts ≡ [] → ⊥
open_some span [] is = cc is
open_some span (part ∷ parts) is = cc is

-- where no span comes, no piece stands
none_by : (r : Role) (t : Token) (tokens : List Token) (at : ℕ) → role_of t.kind ≡ r → spans_from None (placed at (t ∷ tokens)) ≡ [] → (role_of t.kind ≡ role.Stands → ⊥) × (spans_from None (placed (at + length t.bytes) tokens) ≡ [])
none_by role.Skipped t tokens at is none = (λ stands. cc (sym is ∙ stands), sym (at-skipped None t tokens at is) ∙ none)
none_by role.Cuts t tokens at is none = (λ stands. cc (sym is ∙ stands), sym (at-cuts None t tokens at is) ∙ none)
none_by role.Stands t tokens at is none = absurd (open_some (record { start = at; end = at + length t.bytes }) (cuts (placed (at + length t.bytes) tokens)) (sym (at-stands None t tokens at is) ∙ none))

none_quiet : (tokens : List Token) (at : ℕ) → spans_from None (placed at tokens) ≡ [] → Quiet tokens
none_quiet [] at none = tt
none_quiet (t ∷ tokens) at none = let step = none_by (role_of t.kind) t tokens at refl none in (step.0, none_quiet tokens (at + length t.bytes) step.1)

-- the pieces up to the end of the one span that stands open, and quiet ones after it
record Rest (tokens : List Token) (start end : ℕ) (span : Span) : Type 0 where
  run : List Token
  after : List Token
  is : tokens ≡ run ++ after
  quiet : Quiet after
  starts : span.start ≡ start
  ends : span.end ≡ end + length (joined run)

head_is : (x y : Span) (xs ys : List Span) → x ∷ xs ≡ y ∷ ys → (x ≡ y) × (xs ≡ ys)
head_is x y xs ys is = (cc is, cc is)

abbrev standing : ℕ → ℕ → Option Span
standing start end = Some (record { start = start; end = end })

rest_stands : (t : Token) (tokens passed : List Token) (start end at : ℕ) (span : Span) → at ≡ end + length (joined passed) → Rest tokens start (at + length t.bytes) span → Rest (passed ++ t ∷ tokens) start end span
rest_stands t tokens passed start end at span place more = record {
  run = passed ++ t ∷ more.run;
  after = more.after;
  is = ap (λ ts. passed ++ t ∷ ts) more.is ∙ sym (append_assoc passed (t ∷ more.run) more.after);
  quiet = more.quiet;
  starts = more.starts;
  ends = omega (arith, more.ends, ap length (flat_map-append bytes_of passed (t ∷ more.run)), length-append (joined passed) (joined (t ∷ more.run)), length-append t.bytes (joined more.run));
}

-- `passed` are the pieces since the end of what stands open
rest_by : (r : Role) (t : Token) (tokens passed : List Token) (start end at : ℕ) (span : Span) → role_of t.kind ≡ r → at ≡ end + length (joined passed) → Quiet passed
    → spans_from (standing start end) (placed at (t ∷ tokens)) ≡ span ∷ []
    → ((passed' : List Token) (end' : ℕ) → at + length t.bytes ≡ end' + length (joined passed') → Quiet passed' → spans_from (standing start end') (placed (at + length t.bytes) tokens) ≡ span ∷ [] → Rest (passed' ++ tokens) start end' span)
    → Rest (passed ++ t ∷ tokens) start end span
rest_by role.Skipped t tokens passed start end at span role_is place quiet is later =
    let more = later (passed ++ t ∷ []) end (omega (arith, ap length (flat_map-append bytes_of passed (t ∷ [])), length-append (joined passed) (joined (t ∷ [])), length-append t.bytes []))
    (quiet_append passed (t ∷ []) quiet (λ stands. cc (sym role_is ∙ stands), tt))
    (sym (at-skipped (standing start end) t tokens at role_is) ∙ is) in
    subst (λ tokens. Rest tokens start end span) (append_assoc passed (t ∷ []) tokens) more
rest_by role.Cuts t tokens passed start end at span role_is place quiet is later =
    let both = head_is (record { start = start; end = end }) span (spans_from None (placed (at + length t.bytes) tokens)) [] (sym (at-cuts (standing start end) t tokens at role_is) ∙ is) in
    record {
      run = [];
      after = passed ++ t ∷ tokens;
      is = refl;
      quiet = quiet_append passed (t ∷ tokens) quiet (λ stands. cc (sym role_is ∙ stands), none_quiet tokens (at + length t.bytes) both.1);
      starts = ap (λ s. s.start) (sym both.0);
      ends = let same : span.end ≡ end = ap (λ s. s.end) (sym both.0) in omega arith;
    }
rest_by role.Stands t tokens passed start end at span role_is place quiet is later =
    rest_stands t tokens passed start end at span place (later [] (at + length t.bytes) (omega arith) tt (sym (at-stands (standing start end) t tokens at role_is) ∙ is))

rest_of : (tokens passed : List Token) (start end at : ℕ) (span : Span) → at ≡ end + length (joined passed) → Quiet passed → spans_from (standing start end) (placed at tokens) ≡ span ∷ [] → Rest (passed ++ tokens) start end span
rest_of [] passed start end at span place quiet is =
    let both = head_is (record { start = start; end = end }) span [] [] (sym (spans-end (standing start end)) ∙ is) in
    record {
      run = [];
      after = passed ++ [];
      is = refl;
      quiet = quiet_append passed [] quiet tt;
      starts = ap (λ s. s.start) (sym both.0);
      ends = let same : span.end ≡ end = ap (λ s. s.end) (sym both.0) in omega arith;
    }
rest_of (t ∷ tokens) passed start end at span place quiet is =
    rest_by (role_of t.kind) t tokens passed start end at span refl place quiet is (λ passed' end' place' quiet' is'. rest_of tokens passed' start end' (at + length t.bytes) span place' quiet' is')

-- the pieces of the one span of these, with quiet ones on both sides
record Around (tokens : List Token) (at : ℕ) (span : Span) : Type 0 where
  before : List Token
  run : List Token
  after : List Token
  is : tokens ≡ before ++ (run ++ after)
  quiet_before : Quiet before
  quiet_after : Quiet after
  starts : span.start ≡ at + length (joined before)
  ends : span.end ≡ span.start + length (joined run)

around_more : (t : Token) (tokens : List Token) (at : ℕ) (span : Span) → (role_of t.kind ≡ role.Stands → ⊥) → Around tokens (at + length t.bytes) span → Around (t ∷ tokens) at span
around_more t tokens at span quiet later = record {
  before = t ∷ later.before;
  run = later.run;
  after = later.after;
  is = ap (λ ts. t ∷ ts) later.is;
  quiet_before = (quiet, later.quiet_before);
  quiet_after = later.quiet_after;
  starts = omega (arith, later.starts, length-append t.bytes (joined later.before));
  ends = later.ends;
}

around_stands : (t : Token) (tokens : List Token) (at : ℕ) (span : Span) → Rest tokens at (at + length t.bytes) span → Around (t ∷ tokens) at span
around_stands t tokens at span rest = record {
  before = [];
  run = t ∷ rest.run;
  after = rest.after;
  is = ap (λ ts. t ∷ ts) rest.is;
  quiet_before = tt;
  quiet_after = rest.quiet;
  starts = omega (arith, rest.starts);
  ends = omega (arith, rest.starts, rest.ends, length-append t.bytes (joined rest.run));
}

around_by : (r : Role) (t : Token) (tokens : List Token) (at : ℕ) (span : Span) → role_of t.kind ≡ r → spans_from None (placed at (t ∷ tokens)) ≡ span ∷ [] → (spans_from None (placed (at + length t.bytes) tokens) ≡ span ∷ [] → Around tokens (at + length t.bytes) span) → Around (t ∷ tokens) at span
around_by role.Skipped t tokens at span role_is is later = around_more t tokens at span (λ stands. cc (sym role_is ∙ stands)) (later (sym (at-skipped None t tokens at role_is) ∙ is))
around_by role.Cuts t tokens at span role_is is later = around_more t tokens at span (λ stands. cc (sym role_is ∙ stands)) (later (sym (at-cuts None t tokens at role_is) ∙ is))
around_by role.Stands t tokens at span role_is is later =
    around_stands t tokens at span (rest_of tokens [] at (at + length t.bytes) (at + length t.bytes) span (omega arith) tt (sym (at-stands None t tokens at role_is) ∙ is))

around : (tokens : List Token) (at : ℕ) (span : Span) → spans_from None (placed at tokens) ≡ span ∷ [] → Around tokens at span
around [] at span is = cc (sym (spans-end None) ∙ is)
around (t ∷ tokens) at span is = around_by (role_of t.kind) t tokens at span refl is (λ later. around tokens (at + length t.bytes) span later)

-- the spans from a piece on, by its role and what follows
abbrev by_role : Role → Option Span → ℕ → ℕ → (Option Span → List Span) → List Span
by_role role.Skipped current start end later = later current
by_role role.Cuts current start end later = closed_span current ++ later None
by_role role.Stands current start end later = later (Some (grown current start end))

spans-at_role : (r : Role) (current : Option Span) (t : Token) (tokens : List Token) (at : ℕ) → role_of t.kind ≡ r → spans_from current (placed at (t ∷ tokens)) ≡ by_role r current at (at + length t.bytes) (λ next. spans_from next (placed (at + length t.bytes) tokens))
spans-at_role role.Skipped current t tokens at is = at-skipped current t tokens at is
spans-at_role role.Cuts current t tokens at is = at-cuts current t tokens at is
spans-at_role role.Stands current t tokens at is = at-stands current t tokens at is

spans-at : (current : Option Span) (t : Token) (tokens : List Token) (at : ℕ) → spans_from current (placed at (t ∷ tokens)) ≡ by_role (role_of t.kind) current at (at + length t.bytes) (λ next. spans_from next (placed (at + length t.bytes) tokens))
spans-at current t tokens at = spans-at_role (role_of t.kind) current t tokens at refl

by_role_same : (r : Role) (current : Option Span) (start end : ℕ) (one other : Option Span → List Span) → ((next : Option Span) → one next ≡ other next) → by_role r current start end one ≡ by_role r current start end other
by_role_same role.Skipped current start end one other same = same current
by_role_same role.Cuts current start end one other same = ap (λ spans. closed_span current ++ spans) (same None)
by_role_same role.Stands current start end one other same = same (Some (grown current start end))

by_role_quiet : (r : Role) (current : Option Span) (start end : ℕ) (later : Option Span → List Span) → (r ≡ role.Stands → ⊥) → ((next : Option Span) → later next ≡ closed_span next) → by_role r current start end later ≡ closed_span current
by_role_quiet role.Skipped current start end later quiet closes = closes current
by_role_quiet role.Cuts current start end later quiet closes = ap (λ spans. closed_span current ++ spans) (closes None) ∙ append-nil (closed_span current)
by_role_quiet role.Stands current start end later quiet closes = absurd (quiet refl)

by_role_before : (r : Role) (start end : ℕ) (later : Option Span → List Span) → (r ≡ role.Stands → ⊥) → by_role r None start end later ≡ later None
by_role_before role.Skipped start end later quiet = refl
by_role_before role.Cuts start end later quiet = refl
by_role_before role.Stands start end later quiet = absurd (quiet refl)

-- quiet pieces change no span
spans_quiet : (tokens : List Token) (current : Option Span) (at : ℕ) → Quiet tokens → spans_from current (placed at tokens) ≡ closed_span current
spans_quiet [] current at quiet = spans-end current
spans_quiet (t ∷ tokens) current at quiet =
    spans-at current t tokens at ∙ by_role_quiet (role_of t.kind) current at (at + length t.bytes) (λ next. spans_from next (placed (at + length t.bytes) tokens)) quiet.0 (λ next. spans_quiet tokens next (at + length t.bytes) quiet.1)

spans_after : (tokens after : List Token) (current : Option Span) (at : ℕ) → Quiet after → spans_from current (placed at (tokens ++ after)) ≡ spans_from current (placed at tokens)
spans_after [] after current at quiet = spans_quiet after current at quiet ∙ sym (spans-end current)
spans_after (t ∷ tokens) after current at quiet =
    spans-at current t (tokens ++ after) at
    ∙ by_role_same (role_of t.kind) current at (at + length t.bytes) (λ next. spans_from next (placed (at + length t.bytes) (tokens ++ after))) (λ next. spans_from next (placed (at + length t.bytes) tokens)) (λ next. spans_after tokens after next (at + length t.bytes) quiet)
    ∙ sym (spans-at current t tokens at)

spans_before : (before tokens : List Token) (at place : ℕ) → Quiet before → place ≡ at + length (joined before) → spans_from None (placed at (before ++ tokens)) ≡ spans_from None (placed place tokens)
spans_before [] tokens at place quiet is = let same : at ≡ place = omega arith in ap (λ n. spans_from None (placed n tokens)) same
spans_before (t ∷ before) tokens at place quiet is =
    spans-at None t (before ++ tokens) at
    ∙ by_role_before (role_of t.kind) at (at + length t.bytes) (λ next. spans_from next (placed (at + length t.bytes) (before ++ tokens))) quiet.0
    ∙ spans_before before tokens (at + length t.bytes) place quiet.1 (omega (arith, length-append t.bytes (joined before)))

-- a span so many bytes further on
abbrev moved : ℕ → Span → Span
moved n span = record { start = n + span.start; end = n + span.end }

abbrev moved_open : ℕ → Option Span → Option Span
moved_open n None = None
moved_open n (Some span) = Some (moved n span)

closed_moved : (n : ℕ) (current : Option Span) → closed_span (moved_open n current) ≡ map (moved n) (closed_span current)
closed_moved n None = refl
closed_moved n (Some span) = refl

by_role_moved : (r : Role) (n : ℕ) (current : Option Span) (start end : ℕ) (later there : Option Span → List Span) → ((next : Option Span) → there (moved_open n next) ≡ map (moved n) (later next)) → by_role r (moved_open n current) (n + start) (n + end) there ≡ map (moved n) (by_role r current start end later)
by_role_moved role.Skipped n current start end later there move = move current
by_role_moved role.Cuts n None start end later there move = move None
by_role_moved role.Cuts n (Some span) start end later there move = ap (λ spans. moved n span ∷ spans) (move None)
by_role_moved role.Stands n None start end later there move = move (Some (record { start = start; end = end }))
by_role_moved role.Stands n (Some span) start end later there move = move (Some (record { start = span.start; end = end }))

spans_moved : (tokens : List Token) (n : ℕ) (current : Option Span) (at : ℕ) → spans_from (moved_open n current) (placed (n + at) tokens) ≡ map (moved n) (spans_from current (placed at tokens))
spans_moved [] n current at = spans-end (moved_open n current) ∙ closed_moved n current ∙ ap (map (moved n)) (sym (spans-end current))
spans_moved (t ∷ tokens) n current at =
    let place : n + at + length t.bytes ≡ n + (at + length t.bytes) = omega arith in
    spans-at (moved_open n current) t tokens (n + at)
    ∙ ap (λ end. by_role (role_of t.kind) (moved_open n current) (n + at) end (λ next. spans_from next (placed end tokens))) place
    ∙ by_role_moved (role_of t.kind) n current at (at + length t.bytes) (λ next. spans_from next (placed (at + length t.bytes) tokens)) (λ next. spans_from next (placed (n + (at + length t.bytes)) tokens)) (λ next. spans_moved tokens n next (at + length t.bytes))
    ∙ ap (map (moved n)) (sym (spans-at current t tokens at))

moved_one : (n size : ℕ) (spans : List Span) (span : Span) → map (moved n) spans ≡ span ∷ [] → span.start ≡ n → span.end ≡ n + size → spans ≡ record { start = 0; end = size } ∷ []
moved_one n size [] span is starts ends = cc is
moved_one n size (one ∷ other ∷ later) span is starts ends = let more = (head_is (moved n one) span (moved n other ∷ map (moved n) later) [] is).1 in cc more
moved_one n size (one ∷ []) span is starts ends =
    let same : moved n one ≡ span = (head_is (moved n one) span [] [] is).0 in
    let start : one.start ≡ 0 = omega (arith, ap (λ s. s.start) same) in
    let end : one.end ≡ size = omega (arith, ap (λ s. s.end) same) in
    (λ i. record { start = start i; end = end i } ∷ [])

-- where nothing is unclosed, each piece is closed, and the other way round
closed_by : (v : Bool) (start : ℕ) (later : Option ℕ) → cond v (Some start) later ≡ None → (v ≡ false) × (later ≡ None)
closed_by true start later is = cc is
closed_by false start later is = (refl, is)

all_closed : (tokens : List Token) (at : ℕ) → first_unclosed (placed at tokens) ≡ None → All IsClosed tokens
all_closed [] at is = All-nil IsClosed
all_closed (t ∷ tokens) at is = let both = closed_by (is_unclosed t.kind) at (first_unclosed (placed (at + length t.bytes) tokens)) is in All-cons IsClosed t tokens both.0 (all_closed tokens (at + length t.bytes) both.1)

none_unclosed : (tokens : List Token) (at : ℕ) → All IsClosed tokens → first_unclosed (placed at tokens) ≡ None
none_unclosed [] at closed = refl
none_unclosed (t ∷ tokens) at closed = cond-false (is_unclosed t.kind) (Some at) (first_unclosed (placed (at + length t.bytes) tokens)) (All-head IsClosed t tokens closed) ∙ none_unclosed tokens (at + length t.bytes) (All-tail IsClosed t tokens closed)

all_after : (before tokens : List Token) → All IsClosed (before ++ tokens) → All IsClosed tokens
all_after [] tokens closed = closed
all_after (t ∷ before) tokens closed = all_after before tokens (All-tail IsClosed t (before ++ tokens) closed)

all_before : (tokens after : List Token) → All IsClosed (tokens ++ after) → All IsClosed tokens
all_before [] after closed = All-nil IsClosed
all_before (t ∷ tokens) after closed = All-cons IsClosed t tokens (All-head IsClosed t (tokens ++ after) closed) (all_before tokens after (All-tail IsClosed t (tokens ++ after) closed))

unclosed_pieces : (sql : List ℕ) → unclosed_at sql ≡ first_unclosed (placed 0 (pieces sql))
unfolding unclosed_at
unclosed_pieces sql = refl

spans_pieces : (sql : List ℕ) → spans_of sql ≡ spans_from None (placed 0 (pieces sql))
unfolding spans_of
spans_pieces sql = refl

same_bound : (sql statement : List ℕ) (args : List Value) (named : List NamedArg) → unclosed_at statement ≡ unclosed_at sql → parameter_texts (pieces statement) ≡ parameter_texts (pieces sql) → bound statement args named ≡ bound sql args named
unfolding bound
same_bound sql statement args named closed texts =
    ap₂ (λ o ts. or_unclosed o (cond (all_fit [] ts) (bound_values (all_numbered [] ts) args named) (Err fail.BadNumber))) closed texts

-- the pieces of the one span, alone, have that one span
run_spans : (sql : List ℕ) (span : Span) (near : Around (pieces sql) 0 span) → spans_of sql ≡ span ∷ [] → spans_from None (placed 0 near.run) ≡ record { start = 0; end = length (joined near.run) } ∷ []
run_spans sql span near one =
    let n : ℕ = length (joined near.before) in
    let whole : spans_from None (placed 0 (near.before ++ (near.run ++ near.after))) ≡ span ∷ [] = ap (λ ts. spans_from None (placed 0 ts)) (sym near.is) ∙ sym (spans_pieces sql) ∙ one in
    let at : spans_from None (placed n near.run) ≡ span ∷ [] = sym (spans_after near.run near.after None n near.quiet_after) ∙ sym (spans_before near.before (near.run ++ near.after) 0 n near.quiet_before (sym (zero-add n))) ∙ whole in
    moved_one n (length (joined near.run)) (spans_from None (placed 0 near.run)) span (sym (spans_moved near.run n None 0) ∙ ap (λ m. spans_from None (placed m near.run)) (add-zero n) ∙ at) (near.starts ∙ zero-add n) (omega (arith, near.starts, near.ends))

-- what is cut out around a text's pieces that stand in its one part
reads_from : (sql statement : List ℕ) (span : Span) → unclosed_at sql ≡ None → spans_of sql ≡ span ∷ [] → statement ≡ slice_range sql span.start span.end → Around (pieces sql) 0 span → ReadsAsItsText sql statement
reads_from sql statement span whole one cut near =
    let all : All IsClosed (near.before ++ (near.run ++ near.after)) = subst (All IsClosed) near.is (all_closed (pieces sql) 0 (sym (unclosed_pieces sql) ∙ whole)) in
    let closed : All IsClosed near.run = all_before near.run near.after (all_after near.before (near.run ++ near.after) all) in
    let text : statement ≡ joined near.run = cut ∙ run_slice sql near.before near.run near.after span.start span.end (sym (each_text_has_one_list.one sql).joined ∙ ap joined near.is) (near.starts ∙ zero-add (length (joined near.before))) near.ends in
    let run_is : pieces statement ≡ near.run = ap pieces text ∙ run_pieces sql near.before near.run near.after near.is closed in
    let none : unclosed_at statement ≡ None = unclosed_pieces statement ∙ ap (λ ts. first_unclosed (placed 0 ts)) run_is ∙ none_unclosed near.run 0 closed in
    let same_words : words false near.run ≡ words false (pieces sql) = sym (words_after false near.run near.after near.quiet_after) ∙ sym (words_before near.before (near.run ++ near.after) near.quiet_before) ∙ ap (words false) (sym near.is) in
    let same_texts : parameter_texts near.run ≡ parameter_texts (pieces sql) = sym (parameters_after near.run near.after near.quiet_after) ∙ sym (parameters_before near.before (near.run ++ near.after) near.quiet_before) ∙ ap parameter_texts (sym near.is) in
    record {
      itself = record {
        span = record { start = 0; end = length statement };
        closed = none;
        one = spans_pieces statement ∙ ap (λ ts. spans_from None (placed 0 ts)) run_is ∙ run_spans sql span near one ∙ ap (λ bytes. record { start = 0; end = length bytes } ∷ []) (sym text);
        cut = sym (take_all (length statement - 0) statement (omega arith));
      };
      class = class_of_text-words statement ∙ ap (λ ts. class_of_words (words false ts)) run_is ∙ ap class_of_words same_words ∙ sym (class_of_text-words sql);
      values = λ args named. same_bound sql statement args named (none ∙ sym whole) (ap parameter_texts run_is ∙ same_texts);
    }

pub each_statement_reads_as_its_text : EachStatementReadsAsItsText
each_statement_reads_as_its_text sql statement is =
    reads_from sql statement is.span is.closed is.one is.cut (around (pieces sql) 0 is.span (sym (spans_pieces sql) ∙ is.one))

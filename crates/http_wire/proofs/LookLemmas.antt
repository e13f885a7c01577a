-- What a parser's answer on the front says of all that is held.
use Rattle.std.proofs.Common.{◌≡◌, ◌≢◌, ℕ, zero, suc, ◌+◌, ◌-◌, ◌<◌, ◌≤◌, List, [], ◌∷◌, ◌++◌, length, take, drop, Ok, Err, refl, sym, ap, ◌∙◌, subst, inl, inr, arith, append_assoc}
use Rattle.std.specs.Prelude.{Option, Some, option_copied}
use Rattle.std.specs.Borrow.{Bor}
use Rattle.std.proofs.lemmas.List.{append-nil, length-append, length-take, length-drop, length-map, take-append-drop, drop-drop, take_rest}
use Rattle.httparse.specs.Grammar.{Field, RequestHead, ReadsRequest, HasNoRequest, print_request}
use Rattle.httparse.specs.Borrowed.{header_parts, AreFields}
use Rattle.httparse.specs.declared.borrowed.Header.{Header}
use Rattle.httparse.specs.Spans.{RequestOverflows, name_and_value}
use Rattle.httparse.proofs.GrammarLemmas.{request_unique, ReadsRequest-append}
use Rattle.http_wire.specs.declared.asks.HttpAsk.{HttpAsk}
use Rattle.http_wire.specs.declared.asks.Fed.TheVariants.{More, Ask, Upgrade}
use Rattle.http_wire.specs.declared.asks.WireFail.{WireFail}
use Rattle.http_wire.specs.declared.asks.WireFail.TheVariants.{Bad400, Expect417, Length411, TooLarge413, NoMemory}
use Rattle.http_wire.specs.declared.feeding.Stage.{Stage}
use Rattle.http_wire.specs.declared.feeding.Stage.TheVariants.{Reading, Refused}
use Rattle.http_wire.specs.declared.verdict.Verdict.TheVariants.{Refuse, Switch, Serve}
use Rattle.http_wire.specs.Request.{Request, request_of, verdict_of, ask_of}
use Rattle.http_wire.specs.Wire.{HasHead, NeverHasHead, IsAsk, IsRefused, MayWait, WaitsBelow, Held, FeedsAt, Feeds}
use Rattle.http_wire.proofs.WireLemmas.{HasHead-append, HasHead_unique, NeverHasHead-append, never_now}

-- a and then more is b and then rest, where b is no longer than a
pub front_of : (a b more rest : List ℕ) → length b ≤ length a → a ++ more ≡ b ++ rest → a ≡ b ++ drop (length b) a
front_of a [] more rest short e = refl
front_of [] (y ∷ b) more rest short e = absurd (omega arith)
front_of (x ∷ a) (y ∷ b) more rest short e =
    let tails : a ++ more ≡ b ++ rest = cc in
    let heads : x ≡ y = cc in
    let later = front_of a b more rest (omega arith) tails in
    cc

-- without a head and below the limit nothing has to be answered
pub waits_without_head : (bytes : List ℕ) → HasNoRequest bytes → length bytes < 16384 → MayWait bytes
waits_without_head bytes none short (Ok More) after x = absurd x
waits_without_head bytes none short (Ok (Ask ask)) after x = absurd (none x.0 _ x.1.reads)
waits_without_head bytes none short (Ok (Upgrade key chosen)) after x = absurd (none x.0 _ x.1.reads)
waits_without_head bytes none short (Err fail) after x = elim x.0 [
  | inl y ↦ absurd (none y.0 y.1 y.2.reads)
  | inr y ↦ (y.1, short)
]

no_more : (bytes more : List ℕ) → length (bytes ++ more) < length bytes + 1 → more ≡ []
no_more bytes [] short = refl
no_more bytes (x ∷ more) short = absurd (omega (arith, length-append bytes (x ∷ more)))

pub waits_for_one : (bytes : List ℕ) → HasNoRequest bytes → length bytes < 16384 → WaitsBelow (length bytes + 1) bytes
waits_for_one bytes none short more below =
    let whole : bytes ++ more ≡ bytes = ap (λ l. bytes ++ l) (no_more bytes more below) ∙ append-nil bytes in
    let P : List ℕ → Type 0 = λ l. MayWait l in
    subst P (sym whole) (waits_without_head bytes none short)

rejoined : (n : ℕ) (held more : List ℕ) → take n held ++ (drop n held ++ more) ≡ held ++ more
rejoined n held more = sym (append_assoc (take n held) (drop n held) more) ∙ ap (λ l. l ++ more) (take-append-drop n held)

-- the parser refused the front
pub never_after_refusal : (n : ℕ) (held : List ℕ) → RequestOverflows 64 (take n held) → NeverHasHead held
never_after_refusal n held over more h rest x =
    let P : List ℕ → Type 0 = λ l. ReadsRequest l h rest in
    let fields = over (drop n held ++ more) h rest (subst P (sym (rejoined n held more)) x.reads) in
    let few = x.few_fields in
    omega arith

-- a front of 16,384 bytes without a head
pub never_after_limit : (held : List ℕ) → HasNoRequest (take 16384 held) → 16384 ≤ length held → NeverHasHead held
never_after_limit held none long more h rest x =
    let front = take 16384 held in
    let whole : length front ≡ 16384 = omega (arith, length-take 16384 held) in
    let short = x.short in
    let fits : length (print_request h) ≤ length front = omega arith in
    let all = rejoined 16384 held more ∙ x.reads.1 in
    none h _ (x.reads.0, front_of front (print_request h) (drop 16384 held ++ more) rest fits all)

-- a head with more fields than are allowed
pub never_with_many : (held : List ℕ) (h : RequestHead) (rest : List ℕ) → ReadsRequest held h rest → 64 < length h.fields → NeverHasHead held
never_with_many held h rest reads many more k left x =
    let same = request_unique (held ++ more) h k (rest ++ more) left (ReadsRequest-append held h rest more reads) x.reads in
    let few : length k.fields ≤ 64 = x.few_fields in
    let P : RequestHead → Type 0 = λ g. length g.fields ≤ 64 in
    let here : length h.fields ≤ 64 = subst P (sym same.0) few in
    omega arith

drop_within : (n : ℕ) (a b : List ℕ) → n ≤ length a → drop n (a ++ b) ≡ drop n a ++ b
drop_within zero a b within = refl
drop_within (suc n) [] b within = absurd (omega arith)
drop_within (suc n) (x ∷ a) b within = drop_within n a b (omega arith)

-- a head that was found in the front
pub head_of_front : (n count : ℕ) (held : List ℕ) (h : RequestHead) → ReadsRequest (take n held) h (drop count (take n held))
    → count ≤ length (take n held) → length (print_request h) ≤ 16384 → length h.fields ≤ 64 → HasHead held h (drop count held)
head_of_front n count held h reads within short few =
    let whole = take-append-drop n held in
    let P : List ℕ → Type 0 = λ l. ReadsRequest l h (drop count l) in
    let Q : List ℕ → Type 0 = λ l. ReadsRequest (take n held ++ drop n held) h l in
    let longer = subst Q (sym (drop_within count (take n held) (drop n held) within)) (ReadsRequest-append (take n held) h (drop count (take n held)) (drop n held) reads) in
    record { reads = subst P whole longer; few_fields = few; short = short }

-- a head whose body isn't whole
pub waits_for_body : (held : List ℕ) (count length_ : ℕ) (h : RequestHead) → HasHead held h (drop count held)
    → verdict_of (request_of h) ≡ Serve length_ → count + length (drop count held) ≡ length held → WaitsBelow (count + length_) held
waits_for_body held count size h head verdict sizes more below (Ok More) after x = absurd x
waits_for_body held count size h head verdict sizes more below (Ok (Ask ask)) after x =
    let same = HasHead_unique (held ++ more) h x.0 (drop count held ++ more) (ask.body ++ after) (HasHead-append held h (drop count held) more head) x.1 in
    let verdicts : Serve size ≡ Serve (length ask.body) = sym verdict ∙ ap (λ k. verdict_of (request_of k)) same.0 ∙ x.2 in
    let body : size ≡ length ask.body = cc in
    let lengths : length (drop count held ++ more) ≡ length (ask.body ++ after) = ap length same.1 in
    absurd (omega (arith, length-append (drop count held) more, length-append ask.body after, length-append held more, lengths))
waits_for_body held count size h head verdict sizes more below (Ok (Upgrade key chosen)) after x =
    let same = HasHead_unique (held ++ more) h x.0 (drop count held ++ more) after (HasHead-append held h (drop count held) more head) x.1 in
    let verdicts : Serve size ≡ Switch key chosen = sym verdict ∙ ap (λ k. verdict_of (request_of k)) same.0 ∙ x.2 in
    cc
waits_for_body held count size h head verdict sizes more below (Err fail) after x = elim x.0 [
  | inl y ↦
      let same = HasHead_unique (held ++ more) h y.0 (drop count held ++ more) y.1 (HasHead-append held h (drop count held) more head) y.2 in
      let verdicts : Serve size ≡ Refuse fail = sym verdict ∙ ap (λ k. verdict_of (request_of k)) same.0 ∙ y.3 in
      cc
  | inr y ↦ absurd (never_now (held ++ more) h (drop count held ++ more) y.1 (HasHead-append held h (drop count held) more head))
]

-- the request whose body is the bytes after the head
pub found_at : (held : List ℕ) (count size : ℕ) (h : RequestHead) (r : Request) (body : List ℕ) (ask : HttpAsk)
    → HasHead held h (drop count held) → r ≡ request_of h → verdict_of r ≡ Serve size → ask ≡ ask_of r body
    → body ≡ take size (drop count held) → count + size ≤ length held → IsAsk held ask (drop (count + size) held)
found_at held count size h r body ask head same verdict is cut within =
    let its : ask.body ≡ body = ap (λ a. a.body) is in
    let long : length body ≡ size = ap length cut ∙ omega (arith, length-take size (drop count held), length-drop count held) in
    let tail : drop (count + size) held ≡ drop size (drop count held) = sym (drop-drop size count held) in
    let whole : drop count held ≡ ask.body ++ drop (count + size) held =
    sym (take-append-drop size (drop count held)) ∙ ap (λ l. l ++ drop size (drop count held)) (sym (its ∙ cut)) ∙ ap (λ l. ask.body ++ l) (sym tail) in
    let P : List ℕ → Type 0 = λ l. HasHead held h l in (
      h,
      subst P whole head,
      ap verdict_of (sym same) ∙ verdict ∙ ap Serve (sym (ap length its ∙ long)),
      is ∙ ap (λ q. ask_of q body) same ∙ ap (ask_of (request_of h)) (sym its),
    )

pub same_count : (headers : List Header) (fields : List Field) → AreFields headers fields → length headers ≡ length fields
same_count headers fields are = sym (length-map headers header_parts) ∙ ap length are ∙ length-map fields name_and_value

pub many_in_front : (held front : List ℕ) (h : RequestHead) (rest : List ℕ) → front ≡ take 16384 held → ReadsRequest front h rest
    → 64 < length h.fields → NeverHasHead held
many_in_front held front h rest cut reads many =
    let P : List ℕ → Type 0 = λ l. NeverHasHead l in
    let Q : List ℕ → Type 0 = λ l. NeverHasHead (l ++ drop 16384 held) in
    subst P (take-append-drop 16384 held) (subst Q cut (NeverHasHead-append front (drop 16384 held) (never_with_many front h rest reads many)))

pub head_in_front : (held front : List ℕ) (count : ℕ) (h : RequestHead) → front ≡ take 16384 held → ReadsRequest front h (drop count front)
    → count ≡ length (print_request h) → length h.fields ≤ 64 → HasHead held h (drop count held)
head_in_front held front count h cut reads sized few =
    let lengths : length front ≡ length (print_request h) + length (drop count front) =
    ap length reads.1 ∙ length-append (print_request h) (drop count front) in
    let short : length front ≤ 16384 = omega (arith, ap length cut, length-take 16384 held) in
    let P : List ℕ → Type 0 = λ l. ReadsRequest l h (drop count l) in
    head_of_front 16384 count held h (subst P cut reads) (omega (arith, ap length cut)) (omega arith) few

pub sized_in_front : (held front : List ℕ) (count : ℕ) (h : RequestHead) → front ≡ take 16384 held → ReadsRequest front h (drop count front)
    → count ≡ length (print_request h) → (count ≤ length held) × (count ≤ 16384)
sized_in_front held front count h cut reads sized =
    let lengths : length front ≡ length (print_request h) + length (drop count front) =
    ap length reads.1 ∙ length-append (print_request h) (drop count front) in
    (omega (arith, ap length cut, length-take 16384 held), omega (arith, ap length cut, length-take 16384 held))

pub joined_is : (new items piece bytes : List ℕ) (from : ℕ) → new ≡ items ++ piece → from ≤ length items → drop from items ≡ bytes
    → drop from new ≡ bytes ++ piece
joined_is new items piece bytes from grown within cut =
    ap (drop from) grown ∙ drop_within from items piece within ∙ ap (λ l. l ++ piece) cut

pub held_is : (whole new items piece bytes : List ℕ) (from : ℕ) → whole ≡ new → new ≡ items ++ piece → from ≤ length items
    → drop from items ≡ bytes → take (length whole - from) (drop from whole) ≡ bytes ++ piece
held_is whole new items piece bytes from same grown within cut =
    take_rest whole from ∙ joined_is whole items piece bytes from (same ∙ grown) within cut

pub copied : (o : Option (Bor (List ℕ))) (x : Bor (List ℕ)) (y : List ℕ) → o ≡ Some x → option_copied o ≡ Some y → x.now ≡ y
copied o x y is same =
    let both : Some x.now ≡ Some y = sym (ap option_copied is) ∙ same in
    cc

pub same_number : (o : Option ℕ) (x y : ℕ) → o ≡ Some x → o ≡ Some y → x ≡ y
same_number o x y is same = cc

pub waits_now : (need : ℕ) (bytes : List ℕ) → length bytes < need → WaitsBelow need bytes → MayWait bytes
waits_now need bytes below waits =
    let P : List ℕ → Type 0 = λ l. length l < need → MayWait l in
    subst P (append-nil bytes) (waits []) below

pub bad_is_no_memory : Bad400 ≢ NoMemory
bad_is_no_memory e = cc

pub feeds_refusal : (old new : Held) (piece : List ℕ) (fail : WireFail) → old.stage ≡ Reading
    → new ≡ record { bytes = old.bytes ++ piece; stage = Refused fail } → fail ≢ NoMemory
    → IsRefused (old.bytes ++ piece) fail → Feeds old piece (Err fail) new
feeds_refusal old new piece Bad400 reading refused other why =
    let P : Stage → Type 0 = λ stage. FeedsAt stage old piece (Err Bad400) new in subst P (sym reading) (refused, why)
feeds_refusal old new piece Expect417 reading refused other why =
    let P : Stage → Type 0 = λ stage. FeedsAt stage old piece (Err Expect417) new in subst P (sym reading) (refused, why)
feeds_refusal old new piece Length411 reading refused other why =
    let P : Stage → Type 0 = λ stage. FeedsAt stage old piece (Err Length411) new in subst P (sym reading) (refused, why)
feeds_refusal old new piece TooLarge413 reading refused other why =
    let P : Stage → Type 0 = λ stage. FeedsAt stage old piece (Err TooLarge413) new in subst P (sym reading) (refused, why)
feeds_refusal old new piece NoMemory reading refused other why = absurd (other refl)

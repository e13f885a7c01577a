-- A baton stands in an answer as it is, and all around it is the same for each baton.
use Rattle.std.proofs.Common.{◌≡◌, ℕ, ◌≤◌, Bool, true, List, [], ◌∷◌, ◌++◌, None, Some, All, length, take, drop, codes, refl, sym, ap, ◌∙◌, append_assoc, arith}
use Rattle.std.proofs.lemmas.Bool.Decides.{nat_tests}
use Rattle.std.proofs.lemmas.List.{length-append, take_at, drop_at}
use Rattle.std.proofs.lemmas.List.Elements.{All-head, All-tail}
use borrow.Rule.Slice.PartMut.{put_mid}
use Rattle.json.specs.Print.{escape_byte, escape, quoted, token_text}
use Rattle.json.specs.Token as token
use Rattle.serde_json.specs.Data.{member, no_members}
use Rattle.serde_json.specs.Written.{compact_text, members_text}
use Rattle.http_wire.specs.declared.outs.HttpAnswer.{HttpAnswer}
use Rattle.stream_requests.specs.declared.replies.Reply.{Reply}
use Rattle.pipeline_body.specs.Batons.{IsPlain, blank}
use Rattle.pipeline_body.specs.Exchanges.{pipeline_answer}
use Rattle.pipeline_body.specs.Written.{results_data, answer_data}

-- ---- plain text

escape_byte-plain : (byte : ℕ) → IsPlain byte → escape_byte byte ≡ byte ∷ []
unfolding escape_byte
escape_byte-plain byte plain = grind (arith, nat_tests)

escape-plain : (text : List ℕ) → All IsPlain text → escape text ≡ text
escape-plain [] plain = refl
escape-plain (byte ∷ text) plain =
    ap (λ (x : List ℕ). x ++ escape text) (escape_byte-plain byte (All-head IsPlain byte text plain)) ∙ ap (λ (x : List ℕ). byte ∷ x) (escape-plain text (All-tail IsPlain byte text plain))

-- ---- an answer

-- what stands before the baton, with its first quote
abbrev front : List ℕ
front = 123 ∷ (quoted (codes "base_url") ++ 58 ∷ (token_text token.null ++ 44 ∷ (quoted (codes "baton") ++ 58 ∷ 34 ∷ [])))

-- what stands behind it, with its last quote
abbrev back : List Reply → List ℕ
back results = 34 ∷ members_text true (member (codes "results") (results_data results) no_members)

abbrev pub body_of : List Reply → List ℕ → List ℕ
body_of results baton = compact_text (answer_data (record { baton = Some baton; results = results }))

length-front : length front ≡ 26
unfolding escape_byte
length-front = refl

around : (text rest : List ℕ) → escape text ≡ text → (escape text ++ 34 ∷ []) ++ rest ≡ text ++ 34 ∷ rest
around text rest e = ap (λ (x : List ℕ). (x ++ 34 ∷ []) ++ rest) e ∙ append_assoc text (34 ∷ []) rest

body_parts : (results : List Reply) (baton : List ℕ) → escape baton ≡ baton → body_of results baton ≡ front ++ (baton ++ back results)
unfolding escape_byte
body_parts results baton e = ap (λ (x : List ℕ). front ++ x) (around baton (members_text true (member (codes "results") (results_data results) no_members)) e)

escape-blank : escape blank ≡ blank
unfolding escape_byte
escape-blank = refl

-- ---- a baton is put in the place of the blank one

put_body : (results : List Reply) (body text : List ℕ) → body ≡ body_of results blank → All IsPlain text → put_mid 26 32 body text ≡ body_of results text
put_body results body text is plain =
    let parts : body ≡ front ++ (blank ++ back results) = is ∙ body_parts results blank escape-blank in
    let before : take 26 body ≡ front = ap (take 26) parts ∙ take_at front (blank ++ back results) 26 length-front in
    let behind : drop 32 (drop 26 body) ≡ back results = ap (λ (x : List ℕ). drop 32 (drop 26 x)) parts ∙ (ap (drop 32) (drop_at front (blank ++ back results) 26 length-front) ∙ drop_at blank (back results) 32 refl) in
    ap (λ (x : List ℕ). x ++ (text ++ drop 32 (drop 26 body))) before ∙ (ap (λ (x : List ℕ). front ++ (text ++ x)) behind ∙ sym (body_parts results text (escape-plain text plain)))

abbrev answer_of : List ℕ → Bool → HttpAnswer
answer_of body close = record { status = 200; allow = None; body = body; close = close }

pub put_answer : (results : List Reply) (close closed : Bool) (body text new : List ℕ) → answer_of body closed ≡ pipeline_answer results (Some blank) close → All IsPlain text
    → new ≡ put_mid 26 32 body text → answer_of new closed ≡ pipeline_answer results (Some text) close
put_answer results close closed body text new e plain put =
    let is : body ≡ body_of results blank = ap (λ (a : HttpAnswer). a.body) e in
    let same : closed ≡ close = ap (λ (a : HttpAnswer). a.close) e in
    ap (λ (x : List ℕ). answer_of x closed) (put ∙ put_body results body text is plain) ∙ ap (answer_of (body_of results text)) same

-- a blank baton has its place in the body
pub has_place : (results : List Reply) (body : List ℕ) → body ≡ body_of results blank → 58 ≤ length body
has_place results body is =
    let n : length blank ≡ 32 = refl in
    omega (arith, ap length (is ∙ body_parts results blank escape-blank), length-append front (blank ++ back results), length-append blank (back results), length-front)

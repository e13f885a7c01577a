-- What is printed, piece by piece.
use Rattle.std.proofs.Common.{◌≡◌, ℕ, List, [], ◌∷◌, ◌++◌, ◌∙◌, sym, ap, append_assoc, append-nil, flat_map, Vec, Global, String, string_bytes}
use Rattle.std.specs.String.{string_vec}
use Rattle.std.specs.Fmt.{decimal}
use Rattle.engine_core.specs.Bytes.{lines_of}
use Rattle.hrana_serve.specs.Printed.{told_on, print_line, print_out, print_answer}
use Rattle.http_wire.specs.declared.outs.Out.TheVariants.{Message}

pub vec_bytes : (bytes : Vec ℕ Global) (text : String Global) → bytes ≡ string_vec text → bytes.items ≡ string_bytes text
vec_bytes bytes text e = ap (λ (v : Vec ℕ Global). v.items) e

pub message_is : (line : List ℕ) (conn : ℕ) (said text : List ℕ) → said ≡ text → line ≡ 60 ∷ 32 ∷ (decimal conn ++ 32 ∷ (said ++ 10 ∷ [])) → line ≡ print_out conn (Message text)
message_is line conn said text same e = rw same at e ∙ simp append_assoc

head_is : (head : List ℕ) (conn status : ℕ) → head ≡ 60 ∷ 32 ∷ (decimal conn ++ 32 ∷ decimal status) → head ≡ told_on conn ++ 32 ∷ [] ++ decimal status
head_is head conn status e = e ∙ simp append_assoc

-- all lines of an answer were printed
pub answer_is : (printed head body : List ℕ) (conn status : ℕ) → head ≡ 60 ∷ 32 ∷ (decimal conn ++ 32 ∷ decimal status) → printed ++ [] ≡ flat_map (print_line head) (lines_of body) → printed ≡ print_answer conn status body
answer_is printed head body conn status is e = sym (append-nil printed) ∙ e ∙ ap (λ h. flat_map (print_line h) (lines_of body)) (head_is head conn status is)

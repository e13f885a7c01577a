-- What an event's outs are printed as.
use Rattle.std.specs.Prelude.{ℕ, List, [], ◌∷◌, ◌++◌, Option, None, Some, codes, decimal, flat_map}
use Rattle.engine_core.specs.Bytes.{lines_of}
use Rattle.http_wire.specs.declared.outs.Out.{Out}
use Rattle.http_wire.specs.declared.outs.Out.TheVariants.{Message, Answer}
use Rattle.http_wire.specs.declared.outs.Outs.{Outs}

-- how each line begins that is told on a connection
abbrev pub told_on : ℕ → List ℕ
told_on conn = codes "< " ++ decimal conn

-- a line that begins so, and has a space before the rest where there is a rest
abbrev pub print_line : List ℕ → List ℕ → List ℕ
print_line head [] = head ++ 10 ∷ []
print_line head (byte ∷ bytes) = head ++ 32 ∷ byte ∷ bytes ++ 10 ∷ []

-- Each line of an answer's body stands in a line of its own, after the status. Where the body is empty that is one line.
abbrev pub print_answer : ℕ → ℕ → List ℕ → List ℕ
print_answer conn status body = flat_map (print_line (told_on conn ++ 32 ∷ [] ++ decimal status)) (lines_of body)

abbrev pub print_out : ℕ → Out → List ℕ
print_out conn (Message text) = told_on conn ++ 32 ∷ [] ++ text ++ 10 ∷ []
print_out conn (Answer answer) = print_answer conn answer.status answer.body

abbrev pub print_told : ℕ → Option Out → List ℕ
print_told conn None = []
print_told conn (Some out) = print_out conn out

abbrev pub print_close : ℕ → Option ℕ → List ℕ
print_close conn None = []
print_close conn (Some code) = codes "x " ++ decimal conn ++ 32 ∷ [] ++ decimal code ++ 10 ∷ []

-- what is told on the connection, and then its close
abbrev pub print_outs : Outs → List ℕ
print_outs outs = print_told outs.conn outs.out ++ print_close outs.conn outs.close

abbrev pub print : List Outs → List ℕ
print outs = flat_map print_outs outs

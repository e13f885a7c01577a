-- The bytes of answers (RFC 9112, section 4; RFC 9110, sections 10.2.1, 11.6.1 and 15; RFC 6455, section 4.2.2).
use Rattle.std.specs.Prelude.{ℕ, ◌==◌, Bool, true, List, [], ◌++◌, length, codes, decimal, Option, Some, None, if◌then◌else◌}
use Rattle.base64.specs.Engines.{standard}
use Rattle.base64.specs.GeneralPurpose.{encode_of}
use Rattle.sha1.specs.Sha1.{sha1}
use Rattle.httparse.specs.Ascii.{crlf_bytes}
use Rattle.http_wire.specs.declared.outs.Allow.{Allow}
use Rattle.http_wire.specs.declared.outs.Allow.TheVariants.{Get, Post}
use Rattle.http_wire.specs.declared.asks.Chosen.{Chosen}
use Rattle.http_wire.specs.declared.asks.Chosen.TheVariants.{Hrana3}
use Rattle.http_wire.specs.declared.asks.Key.{Key}
use Rattle.http_wire.specs.declared.outs.HttpAnswer.{HttpAnswer}
use Rattle.http_wire.specs.declared.asks.WireFail.{WireFail}
use Rattle.http_wire.specs.declared.asks.WireFail.TheVariants.{Bad400, Expect417, Length411, TooLarge413, NoMemory}

-- the status that a refusal is named after
abbrev pub status_of : WireFail → ℕ
status_of Bad400 = 400
status_of Expect417 = 417
status_of Length411 = 411
status_of TooLarge413 = 413
status_of NoMemory = 503

-- the empty answer to a refusal, after which the connection ends
abbrev pub refusal_of : WireFail → HttpAnswer
refusal_of fail = record { status = status_of fail; allow = None; body = []; close = true }

-- the reason phrase, empty for a status that is never given
abbrev pub reason_of : ℕ → List ℕ
reason_of status =
    if status == 200 then codes "OK"
    else (if status == 400 then codes "Bad Request"
    else (if status == 401 then codes "Unauthorized"
    else (if status == 404 then codes "Not Found"
    else (if status == 405 then codes "Method Not Allowed"
    else (if status == 411 then codes "Length Required"
    else (if status == 413 then codes "Content Too Large"
    else (if status == 417 then codes "Expectation Failed"
    else (if status == 503 then codes "Service Unavailable" else []))))))))

-- a line of a head
abbrev pub line : List ℕ → List ℕ
line text = text ++ crlf_bytes

unfoldable pub status_line : ℕ → List ℕ
status_line status = line (codes "HTTP/1.1 " ++ decimal status ++ codes " " ++ reason_of status)

unfoldable pub length_line : ℕ → List ℕ
length_line size = line (codes "Content-Length: " ++ decimal size)

-- how a client may show that it is allowed in
abbrev pub challenge_line : ℕ → List ℕ
challenge_line status = if status == 401 then line (codes "WWW-Authenticate: Bearer realm=\"hrana\"") else []

abbrev pub allow_line : Option Allow → List ℕ
allow_line None = []
allow_line (Some Get) = line (codes "Allow: GET")
allow_line (Some Post) = line (codes "Allow: POST")

abbrev pub close_line : Bool → List ℕ
close_line close = if close then line (codes "Connection: close") else []

abbrev pub bytes_of_answer : HttpAnswer → List ℕ
bytes_of_answer answer =
    status_line answer.status
    ++ line (codes "Content-Type: application/json")
    ++ length_line (length answer.body)
    ++ challenge_line answer.status ++ allow_line answer.allow ++ close_line answer.close
    ++ crlf_bytes ++ answer.body

-- what shows that the key was read (RFC 6455, section 1.3)
abbrev pub accept_of : Key → List ℕ
accept_of key = encode_of standard (sha1 (key.text ++ codes "258EAFA5-E914-47DA-95CA-C5AB0DC85B11"))

abbrev pub name_of : Chosen → List ℕ
name_of Hrana3 = codes "hrana3"

abbrev pub bytes_of_upgrade : Key → Chosen → List ℕ
bytes_of_upgrade key chosen =
    line (codes "HTTP/1.1 101 Switching Protocols")
    ++ line (codes "Upgrade: websocket")
    ++ line (codes "Connection: Upgrade")
    ++ line (codes "Sec-WebSocket-Accept: " ++ accept_of key)
    ++ line (codes "Sec-WebSocket-Protocol: " ++ name_of chosen)
    ++ crlf_bytes

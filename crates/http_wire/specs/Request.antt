-- What the head of a request asks for (RFC 9110, RFC 9112, and section 4 of RFC 6455).
use Rattle.std.specs.Prelude.{ℕ, ◌==◌, ◌≢◌, ◌≤◌, ⊤, nat_lt, nat_le, Bool, false, not, ◌&&◌, ◌||◌, List, [], length, take, drop, map, codes, Option, Some, None, option_map, unwrap_or, Result, Ok, Err, if◌then◌else◌, bytes_eq}
use Rattle.std.specs.List.{count_by}
use Rattle.std.specs.Str.{str_eq_ignore_ascii_case, all_ascii_digits, is_utf8}
use Rattle.std.specs.Str.Parse.{digits_value}
use Rattle.base64.specs.Engines.{standard}
use Rattle.base64.specs.GeneralPurpose.{decode_of}
use Rattle.base64.specs.declared.decode.DecodeError.{DecodeError}
use Rattle.httparse.specs.Grammar.{RequestHead}
use Rattle.httparse.specs.Spans.{name_and_value}
use Rattle.http_wire.specs.declared.asks.Method.{Method}
use Rattle.http_wire.specs.declared.asks.Method.TheVariants.{Get, Post, Other}
use Rattle.http_wire.specs.declared.asks.HttpAsk.{HttpAsk}
use Rattle.http_wire.specs.declared.asks.Chosen.TheVariants.{Hrana3}
use Rattle.http_wire.specs.declared.asks.Key.{Key}
use Rattle.http_wire.specs.declared.asks.WireFail.TheVariants.{Bad400, Expect417, Length411, TooLarge413, NoMemory}
use Rattle.http_wire.specs.declared.verdict.Verdict.{Verdict}
use Rattle.http_wire.specs.declared.verdict.Verdict.TheVariants.{Refuse, Switch, Serve}
use Rattle.http_wire.specs.declared.limits.TheConstants.{MAX_BODY_BYTES}
use Rattle.http_wire.specs.declared.fields.Comparison.TheVariants.{AnyCase, Exact}
use Rattle.http_wire.specs.Fields.{Named, is_named, has_field, first_value, any_value, every_value, lists}

-- a head without its spelling
pub record Request : Type 0 where
  pub method : List ℕ
  pub target : List ℕ
  pub minor : ℕ
  pub fields : List Named

abbrev pub request_of : RequestHead → Request
request_of h = record { method = h.method; target = h.target; minor = h.minor; fields = map name_and_value h.fields }

-- methods compare exactly
abbrev pub method_of : List ℕ → Method
method_of name = if bytes_eq name (codes "GET") then Get else (if bytes_eq name (codes "POST") then Post else Other)

-- version 1.1 needs a `Host`, and no version may have two
abbrev pub has_bad_host : Request → Bool
has_bad_host r =
    let hosts = count_by (is_named (codes "host")) r.fields in
    nat_lt 1 hosts || ((r.minor == 1) && (hosts == 0))

-- 1 to 18 digits
abbrev pub is_length : List ℕ → Bool
is_length value = nat_lt 0 (length value) && (nat_le (length value) 18 && all_ascii_digits value)

-- the first `Content-Length` isn't 1 to 18 digits, or another is spelled otherwise
abbrev pub spells_no_length : List Named → Option (List ℕ) → Bool
spells_no_length fields None = false
spells_no_length fields (Some value) = not (is_length value && every_value (λ other. bytes_eq other value) (codes "content-length") fields)

abbrev pub has_bad_length : Request → Bool
has_bad_length r = spells_no_length r.fields (first_value (codes "content-length") r.fields)

-- the number of bytes in the body, none without a `Content-Length`
abbrev pub body_length : Request → ℕ
body_length r = unwrap_or (option_map (digits_value 10) (first_value (codes "content-length") r.fields)) 0

-- a `GET` of version 1.1 that would go over to WebSocket
abbrev pub is_upgrade : Request → Bool
is_upgrade r =
    bytes_eq r.method (codes "GET") && ((r.minor == 1)
    && (any_value (λ value. str_eq_ignore_ascii_case value (codes "websocket")) (codes "upgrade") r.fields
    && any_value (lists AnyCase (codes "upgrade")) (codes "connection") r.fields))

-- what decodes to 16 bytes
abbrev pub is_sixteen : Result (List ℕ) DecodeError → Bool
is_sixteen (Ok bytes) = length bytes == 16
is_sixteen (Err e) = false

-- the base64 of 16 bytes, with padding
abbrev pub is_key : List ℕ → Bool
is_key text = (length text == 24) && is_sixteen (decode_of standard text)

abbrev pub is_some_key : Option (List ℕ) → Bool
is_some_key None = false
is_some_key (Some text) = is_key text

-- the first `Sec-WebSocket-Key`
abbrev pub key_of : Request → Key
key_of r = record { text = unwrap_or (first_value (codes "sec-websocket-key") r.fields) [] }

-- the version is 13, there is a key, and a subprotocol that is served is offered
abbrev pub is_good_upgrade : Request → Bool
is_good_upgrade r =
    (has_field (codes "sec-websocket-version") r.fields && every_value (λ value. bytes_eq value (codes "13")) (codes "sec-websocket-version") r.fields)
    && (is_some_key (first_value (codes "sec-websocket-key") r.fields)
    && any_value (lists Exact (codes "hrana3")) (codes "sec-websocket-protocol") r.fields)

abbrev pub is_bad : Request → Bool
is_bad r = has_bad_host r || (has_bad_length r || (is_upgrade r && not (is_good_upgrade r)))

-- a body that isn't framed by a `Content-Length`
abbrev pub lacks_length : Request → Bool
lacks_length r =
    has_field (codes "transfer-encoding") r.fields
    || (bytes_eq r.method (codes "POST") && not (has_field (codes "content-length") r.fields))

-- the first refusal that stands; else the upgrade, or the bytes of body to wait for
abbrev pub verdict_of : Request → Verdict
verdict_of r =
    if is_bad r then Refuse Bad400
    else (if has_field (codes "expect") r.fields then Refuse Expect417
    else (if lacks_length r then Refuse Length411
    else (if nat_lt MAX_BODY_BYTES (body_length r) then Refuse TooLarge413
    else (if is_upgrade r then Switch (key_of r) Hrana3
    else Serve (body_length r)))))

-- no body is awaited that is above the limit, and want of memory is no refusal
abbrev pub IsSettled : Verdict → Type 0
IsSettled (Refuse fail) = fail ≢ NoMemory
IsSettled (Switch key chosen) = ⊤
IsSettled (Serve count) = count ≤ MAX_BODY_BYTES

-- the value begins with the word, in any case, and one space
abbrev pub names_bearer : List ℕ → Bool
names_bearer value = str_eq_ignore_ascii_case (take 7 value) (codes "bearer ")

-- what follows `Bearer` and one space, where that is UTF-8
abbrev pub bearer_in : Option (List ℕ) → Option (List ℕ)
bearer_in None = None
bearer_in (Some value) = if names_bearer value && is_utf8 (drop 7 value) then Some (drop 7 value) else None

-- the connection is to end with the answer
abbrev pub closes : Request → Bool
closes r = (r.minor == 0) || any_value (lists AnyCase (codes "close")) (codes "connection") r.fields

abbrev pub ask_of : Request → List ℕ → HttpAsk
ask_of r body = record {
  method = method_of r.method;
  path = r.target;
  bearer = bearer_in (first_value (codes "authorization") r.fields);
  body = body;
  close = closes r;
}

-- Texts that are sent event by event, and read back.
use Rattle.std.proofs.Common.{◌≡◌, ℕ, suc, ◌≤◌, List, [], ◌∷◌, length, drop, map, Bool, false, Option, None, Some, refl, subst, sym, ap, ◌∙◌, arith, append-nil, option_and_then}
use Rattle.std.specs.Prelude.{option_map, ℤ, pos, negsuc, FitsSigned, ◌<◌, ◌^◌}
use Rattle.std.proofs.lemmas.List.{drop_all}
use Rattle.std.specs.Int.{w32}
use Rattle.serde_json.specs.Find.{of_integer}
use Rattle.serde.specs.Event.{Log, Logs, seq_begins, seq_ends}
use Rattle.json.specs.Token.{Token}
use Rattle.json.specs.Lex.{tokens}
use Rattle.json.specs.Json as json
use Rattle.json.specs.Tree as tree
use Rattle.json.specs.Tree.{json_tokens, HasNumbers, ItemsHaveNumbers, MembersHaveNumbers}
use Rattle.json.proofs.Printed.Trees.{value-json_tokens, ArePrintable-json_tokens}
use Rattle.json.proofs.Printed.Tokens.{tokens-print}
use Rattle.serde_json.specs.Data.{unsigned, negative, Data, null, boolean, number, string, array, object, Items, no_items, item, Members, no_members, member, put, depth, items_depth, members_depth}
use Rattle.serde_json.specs.Events.{items_len, SendsItems, SendsValue}
use Rattle.serde_json.specs.Read.{read, of_json, of_items, of_members, max_depth}
use Rattle.serde_json.specs.View.{items_of}
use Rattle.serde_json.specs.Written.{outline, items_outline, members_outline, members_have_float, compact_text}
use Rattle.serde_json.proofs.Texts.{print-outline}
use Rattle.serde_json.proofs.Numbers.{number_of-decimal, number_of-negative}
use Rattle.json.proofs.Printed.Decimals.{IsNumber-decimal, IsNumber-signed_decimal}
use Rattle.hrana_value.specs.Trees.{ItemsTree}
use Rattle.hrana_value.specs.Whole.{IsWhole, PartsWhole}
use Rattle.hrana_value.specs.Written.{value_data}
use Rattle.hrana_value.specs.declared.value.Value.{Value}
use Rattle.hrana_value.specs.declared.value.Value.TheVariants.{Null, Integer, Text, Blob}
use Rattle.hrana_value.proofs.NoFloats.{neither}

-- ---- a text reads back

mutual
  depth-outline : (d : Data) → tree.depth (outline d) ≡ depth d
  depth-outline null = refl
  depth-outline (boolean b) = refl
  depth-outline (number n) = refl
  depth-outline (string s) = refl
  depth-outline (array ds) = ap suc (items_depth-outline ds)
  depth-outline (object ms) = ap suc (members_depth-outline ms)

  items_depth-outline : (ds : Items) → tree.items_depth (items_outline ds) ≡ items_depth ds
  items_depth-outline no_items = refl
  items_depth-outline (item d ds) = cc (depth-outline d, items_depth-outline ds)

  members_depth-outline : (ms : Members) → tree.members_depth (members_outline ms) ≡ members_depth ms
  members_depth-outline no_members = refl
  members_depth-outline (member k d ms) = cc (depth-outline d, members_depth-outline ms)

abbrev last_whole : Option (json.Json × List Token) → Option Data
last_whole r = option_and_then of_json (option_and_then (λ p. json.if_last p.0 p.1) r)

pub read_compact : (d : Data) → IsWhole d → depth d ≤ max_depth → read (compact_text d) ≡ Some d
read_compact d whole shallow =
    let same : tokens (compact_text d) ≡ json_tokens (outline d) = ap tokens (sym (print-outline d)) ∙ tokens-print (json_tokens (outline d)) (ArePrintable-json_tokens (outline d) whole.numbers) in
    let within : tree.depth (outline d) ≤ max_depth = subst (λ n. n ≤ max_depth) (sym (depth-outline d)) shallow in
    ap last_whole (ap (json.value max_depth) (same ∙ sym (append-nil _)) ∙ value-json_tokens (outline d) max_depth [] within) ∙ whole.in_order

-- ---- lists

pub items_len-map : {A : Type 0} (f : A → Data) (xs : List A) → items_len (items_of (map f xs)) ≡ length xs
items_len-map f [] = refl
items_len-map f (x ∷ xs) = ap suc (items_len-map f xs)

-- whatever ends the items that are left well from `now` ends all of them well from `first`
abbrev pub EndsItems : {A : Type 0} → (A → Data) → List A → ℕ → Log → Log → Type 0
EndsItems f xs i first now = (end : Log) → SendsItems (items_of (map f (drop i xs))) now end → SendsItems (items_of (map f xs)) first end

pub list_sent : {A : Type 0} (f : A → Data) (xs : List A) (i n : ℕ) (old first now end : Log) → n ≡ length xs → length xs ≤ i
    → Logs old first (seq_begins (Some n)) → EndsItems f xs i first now → Logs now end seq_ends → SendsValue (array (items_of (map f xs))) old end
list_sent f xs i n old first now end count over begun inv ends = (
  first,
  subst (λ k. Logs old first (seq_begins (Some k))) (count ∙ sym (items_len-map f xs)) begun,
  inv end (subst (λ ys. SendsItems (items_of (map f ys)) now end) (sym (drop_all i xs over)) ends),
)

-- whatever is left, what is whole there makes all of it whole
abbrev pub EndsWhole : {A : Type 0} → (A → Data) → List A → ℕ → Type 0
EndsWhole f xs i = IsWhole (array (items_of (map f (drop i xs)))) → IsWhole (array (items_of (map f xs)))

-- whatever is left, what is a form of it there makes all of it one of all
abbrev pub EndsTree : {A : Type 0} → (A → Data → Type 0) → (A → Data) → List A → ℕ → Type 0
EndsTree tree f xs i = ItemsTree tree (drop i xs) (items_of (map f (drop i xs))) → ItemsTree tree xs (items_of (map f xs))

some_item : (d : Data) (ds : Items) → of_json (outline d) ≡ Some d → option_map array (of_items (items_outline ds)) ≡ Some (array ds) → option_map array (of_items (items_outline (item d ds))) ≡ Some (array (item d ds))
some_item d ds p q = rw p (over (of_items (items_outline ds)) q) where
  over : (o : Option Items) → option_map array o ≡ Some (array ds) → option_map array (option_map (item d) o) ≡ Some (array (item d ds))
  over None q = cc q
  over (Some es) q = let same : es ≡ ds = cc q in ap (λ x. Some (array (item d x))) same

pub whole_item : (d : Data) (ds : Items) → IsWhole d → IsWhole (array ds) → IsWhole (array (item d ds))
whole_item d ds p q = record { no_float = neither _ _ p.no_float q.no_float; numbers = (p.numbers, q.numbers); in_order = some_item d ds p.in_order q.in_order }

pub whole_none : IsWhole (array no_items)
whole_none = record { no_float = refl; numbers = tt; in_order = refl }

-- ---- values

pub whole_value : (v : Value) → IsWhole (value_data v)
whole_value Null = record { no_float = refl; numbers = (tt, tt); in_order = refl }
whole_value (Integer z) = record { no_float = refl; numbers = (tt, (tt, tt)); in_order = refl }
whole_value (Text s) = record { no_float = refl; numbers = (tt, (tt, tt)); in_order = refl }
whole_value (Blob b) = record { no_float = refl; numbers = (tt, (tt, tt)); in_order = refl }

-- ---- whole numbers

pub whole_unsigned : (n : ℕ) → n < 2 ^ 64 → IsWhole (number (unsigned n))
whole_unsigned n fits = record { no_float = refl; numbers = IsNumber-decimal n fits; in_order = ap (option_map number) (number_of-decimal n fits) }

pub whole_negative : (n : ℕ) → n < 2 ^ 63 → IsWhole (number (negative (negsuc n)))
whole_negative n fits = record { no_float = refl; numbers = IsNumber-signed_decimal (negsuc n) fits; in_order = ap (option_map number) (number_of-negative n fits) }

pub whole_int32 : (z : ℤ) → FitsSigned w32 z → IsWhole (number (of_integer z))
whole_int32 (pos n) fits = whole_unsigned n (let small : n < 2 ^ 31 = fits.sfits in omega arith)
whole_int32 (negsuc n) fits = whole_negative n (let small : n < 2 ^ 31 = fits.sfits in omega arith)

-- ---- objects

-- the members, put into an object one after another
abbrev pub put_all : Members → Members → Members
put_all no_members found = found
put_all (member k d ms) found = put_all ms (put k d found)

parts_no_float : (ms : Members) → PartsWhole ms → members_have_float ms ≡ false
parts_no_float no_members parts = refl
parts_no_float (member k d ms) parts = neither _ _ parts.0.no_float (parts_no_float ms parts.1)

parts_numbers : (ms : Members) → PartsWhole ms → MembersHaveNumbers (members_outline ms)
parts_numbers no_members parts = tt
parts_numbers (member k d ms) parts = (parts.0.numbers, parts_numbers ms parts.1)

parts_read : (ms found : Members) → PartsWhole ms → of_members (members_outline ms) found ≡ Some (put_all ms found)
parts_read no_members found parts = refl
parts_read (member k d ms) found parts = rw parts.0.in_order (parts_read ms (put k d found) parts.1)

-- an object whose members stand in byte order, each once, so that putting them in changes nothing: `refl` where keys are literals
pub whole_object : (ms : Members) → put_all ms no_members ≡ ms → PartsWhole ms → IsWhole (object ms)
whole_object ms stand parts = record {
  no_float = parts_no_float ms parts;
  numbers = parts_numbers ms parts;
  in_order = ap (option_map object) (parts_read ms no_members parts ∙ ap Some stand);
}

pub whole_text : (s : List ℕ) → IsWhole (string s)
whole_text s = record { no_float = refl; numbers = tt; in_order = refl }

pub whole_null : IsWhole null
whole_null = record { no_float = refl; numbers = tt; in_order = refl }

pub whole_boolean : (b : Bool) → IsWhole (boolean b)
whole_boolean b = record { no_float = refl; numbers = tt; in_order = refl }

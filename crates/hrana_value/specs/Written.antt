-- The tree that a value is written as.
use Rattle.std.specs.Prelude.{List, map, codes}
use Rattle.std.specs.Fmt.{signed_decimal}
use Rattle.base64.specs.Engines.{standard}
use Rattle.base64.specs.GeneralPurpose.{encode_of}
use Rattle.serde_json.specs.Data.{Data, string, object, Items, member, no_members}
use Rattle.serde_json.specs.View.{items_of}
use Rattle.hrana_value.specs.declared.value.Value.{Value}
use Rattle.hrana_value.specs.declared.value.Value.TheVariants.{Null, Integer, Text, Blob}

abbrev pub value_data : Value → Data
value_data Null = object (member (codes "type") (string (codes "null")) no_members)
value_data (Integer z) = object (member (codes "type") (string (codes "integer")) (member (codes "value") (string (signed_decimal z)) no_members))
value_data (Text s) = object (member (codes "type") (string (codes "text")) (member (codes "value") (string s) no_members))
value_data (Blob b) = object (member (codes "base64") (string (encode_of standard b)) (member (codes "type") (string (codes "blob")) no_members))

abbrev pub values_data : List Value → Items
values_data vs = items_of (map value_data vs)

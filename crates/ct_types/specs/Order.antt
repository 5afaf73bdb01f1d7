-- The order of values and keys: NULL, then numbers, then texts, then bytes; keys column by column, a proper prefix
-- first. The bytes of UTF-8 texts stand in the order of their code points.
use Rattle.std.specs.declared.cmp.Ordering.{Ordering}
use Rattle.std.specs.declared.cmp.Ordering.TheVariants.{Less, Equal, Greater}
use Rattle.std.specs.Ordering.{nat_cmp, int_cmp}
use Rattle.std.specs.Cmp.Lexicographic.{slice_cmp}
use Rattle.ct_types.specs.declared.value.Value.{Value}
use Rattle.ct_types.specs.declared.value.Value.TheVariants.{Null, Int, Text, Bytes}
use Rattle.ct_types.specs.declared.value.Key.{Key}

abbrev pub value_cmp : Value → Value → Ordering
value_cmp Null Null = Equal
value_cmp Null (Int b) = Less
value_cmp Null (Text b) = Less
value_cmp Null (Bytes b) = Less
value_cmp (Int a) Null = Greater
value_cmp (Int a) (Int b) = int_cmp a b
value_cmp (Int a) (Text b) = Less
value_cmp (Int a) (Bytes b) = Less
value_cmp (Text a) Null = Greater
value_cmp (Text a) (Int b) = Greater
value_cmp (Text a) (Text b) = slice_cmp nat_cmp a b
value_cmp (Text a) (Bytes b) = Less
value_cmp (Bytes a) Null = Greater
value_cmp (Bytes a) (Int b) = Greater
value_cmp (Bytes a) (Text b) = Greater
value_cmp (Bytes a) (Bytes b) = slice_cmp nat_cmp a b

abbrev pub key_cmp : Key → Key → Ordering
key_cmp a b = slice_cmp value_cmp a.0 b.0

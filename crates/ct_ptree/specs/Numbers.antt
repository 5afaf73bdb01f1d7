-- The number that a key begins with, which decides how two keys stand where they begin with different ones. This project's own.
use Rattle.std.specs.Prelude.{ℤ, negsuc, List, [], ◌∷◌}
use Rattle.ct_types.specs.declared.value.Value.{Value}
use Rattle.ct_types.specs.declared.value.Value.TheVariants.{Null, Int, Text, Bytes}
use Rattle.ct_types.specs.declared.value.Key.{Key}

-- stands for the number where there is none: the least number of 64 bits, -2^63
abbrev pub no_number : ℤ
no_number = negsuc 9223372036854775807

abbrev pub value_number : Value → ℤ
value_number Null = no_number
value_number (Int number) = number
value_number (Text text) = no_number
value_number (Bytes bytes) = no_number

abbrev pub first_number : List Value → ℤ
first_number [] = no_number
first_number (value ∷ rest) = value_number value

abbrev pub key_number : Key → ℤ
key_number key = first_number key.0

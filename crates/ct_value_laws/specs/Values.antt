-- The values that rows, variables and expressions may have: every number has 64 bits, and every text is one of code points. Of bytes
-- nothing is asked. This project's own.
use Rattle.std.specs.Prelude.{List, map}
use Rattle.std.specs.List.{AllByRecursion}
use Rattle.std.specs.Str.{IsUtf8}
use Rattle.ct_types.specs.ColumnFit.{IsBigInt}
use Rattle.ct_types.specs.declared.catalogue.Variable.{Variable}
use Rattle.ct_types.specs.declared.value.Row.{Row}
use Rattle.ct_types.specs.declared.value.Value.{Value}
use Rattle.ct_types.specs.declared.value.Value.TheVariants.{Null, Int, Text, Bytes}

abbrev pub IsRepresentable : Value → Type 0
IsRepresentable Null = Unit {0}
IsRepresentable (Int n) = IsBigInt n
IsRepresentable (Text t) = IsUtf8 t
IsRepresentable (Bytes b) = Unit {0}

abbrev pub AreRepresentable : List Value → Type 0
AreRepresentable values = AllByRecursion IsRepresentable values

-- each value of each row is
abbrev pub HaveRepresentable : List Row → Type 0
HaveRepresentable rows = AllByRecursion (λ row. AreRepresentable row.0) rows

-- each variable has such a value
abbrev pub HoldRepresentable : List Variable → Type 0
HoldRepresentable variables = AreRepresentable (map (λ variable. variable.value) variables)

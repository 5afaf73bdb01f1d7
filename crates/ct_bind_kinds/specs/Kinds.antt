-- The kinds of expressions. This project's own: in T-SQL a value of one type converts to many others.
use Rattle.std.specs.Prelude.{Bool, true, false, ◌&&◌, List, [], ◌∷◌, map}
use Rattle.ct_types.specs.declared.schema.ColType.{ColType}
use Rattle.ct_types.specs.declared.schema.ColType.TheVariants as type
use Rattle.ct_types.specs.declared.catalogue.Variable.{Variable}
use Rattle.ct_types.specs.declared.value.Value.{Value}
use Rattle.ct_types.specs.declared.value.Value.TheVariants as value
use Rattle.ct_bind_kinds.specs.declared.kind.Kind.{Kind}
use Rattle.ct_bind_kinds.specs.declared.kind.Kind.TheVariants.{Number, Text, Bytes, Condition, Null}

-- the kind of a column or a variable
abbrev pub kind_of_type : ColType → Kind
kind_of_type type.Int = Number
kind_of_type type.BigInt = Number
kind_of_type (type.NVarChar most) = Text
kind_of_type (type.VarBinary most) = Bytes

-- two kinds agree where they are one, or one is that of NULL
abbrev pub agree : Kind → Kind → Bool
agree Null b = true
agree a Null = true
agree Number Number = true
agree Text Text = true
agree Bytes Bytes = true
agree Condition Condition = true
agree a b = false

-- a condition is no value; NULL is one
abbrev pub is_value : Kind → Bool
is_value Number = true
is_value Text = true
is_value Bytes = true
is_value Condition = false
is_value Null = true

-- a value of this kind may stand where that kind is wanted
abbrev pub suits : Kind → Kind → Bool
suits kind wanted = is_value kind && agree kind wanted

-- the first, or the second where the first is that of NULL
abbrev pub either : Kind → Kind → Kind
either Null b = b
either Number b = Number
either Text b = Text
either Bytes b = Bytes
either Condition b = Condition

-- a value is of a kind: NULL of each that values have, and any other of its own
abbrev pub IsOfKind : Kind → Value → Type 0
IsOfKind Number value.Null = Unit {0}
IsOfKind Number (value.Int n) = Unit {0}
IsOfKind Text value.Null = Unit {0}
IsOfKind Text (value.Text t) = Unit {0}
IsOfKind Bytes value.Null = Unit {0}
IsOfKind Bytes (value.Bytes b) = Unit {0}
IsOfKind Null value.Null = Unit {0}
IsOfKind kind v = ⊥

-- a row has as many values as there are kinds, each of its own
abbrev pub AreOfKinds : List Kind → List Value → Type 0
AreOfKinds [] [] = Unit {0}
AreOfKinds (kind ∷ kinds) (v ∷ values) = IsOfKind kind v × AreOfKinds kinds values
AreOfKinds kinds values = ⊥

-- each variable is of the kind of its type
abbrev pub AreOfTheirTypes : List Variable → Type 0
AreOfTheirTypes variables = AreOfKinds (map (λ variable. kind_of_type variable.kind) variables) (map (λ variable. variable.value) variables)

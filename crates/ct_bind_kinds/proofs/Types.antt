-- The kinds of types: each is one that values have, and none is that of NULL.
use Rattle.std.proofs.Common.{◌≡◌, ◌≢◌, true, refl}
use Rattle.ct_types.specs.declared.schema.ColType.{ColType}
use Rattle.ct_types.specs.declared.schema.ColType.TheVariants as type
use Rattle.ct_bind_kinds.specs.declared.kind.Kind.TheVariants.{Null}
use Rattle.ct_bind_kinds.specs.Kinds.{kind_of_type, is_value}

pub type_kind : (t : ColType) → kind_of_type t ≢ Null
type_kind type.Int same = cc
type_kind type.BigInt same = cc
type_kind (type.NVarChar most) same = cc
type_kind (type.VarBinary most) same = cc

pub type_value : (t : ColType) → is_value (kind_of_type t) ≡ true
type_value type.Int = refl
type_value type.BigInt = refl
type_value (type.NVarChar most) = refl
type_value (type.VarBinary most) = refl

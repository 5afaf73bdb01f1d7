-- A value of the kind of a type has the type's kind.
use Rattle.std.proofs.Common.{◌≡◌, true, Option, Some, None, Ok, refl, ◌∙◌}
use Rattle.ct_types.specs.ColumnFit.{has_kind}
use Rattle.ct_types.specs.declared.schema.ColType.{ColType}
use Rattle.ct_types.specs.declared.schema.ColType.TheVariants as type
use Rattle.ct_types.specs.declared.value.Value.{Value}
use Rattle.ct_types.specs.declared.value.Value.TheVariants as v
use Rattle.ct_types.specs.Answers.{Answer}
use Rattle.ct_bind_kinds.specs.declared.kind.Kind.{Kind}
use Rattle.ct_bind_kinds.specs.Kinds.{kind_of_type, agree, is_value, IsOfKind}
use Rattle.ct_bind_kinds.specs.WellFormed.{kind_of, is_of}
use Rattle.ct_expr.specs.Meaning.{value}
use Rattle.ct_expr_laws.specs.Laws.{ValuesHaveTheirType}
use Rattle.ct_bind_kinds.proofs.Types.{type_kind, type_value}
use Rattle.ct_expr_laws.proofs.Fitting.{fits_other, agree_sym}
use Rattle.ct_types.proofs.Tests.{both}
use Rattle.ct_expr_laws.proofs.Rules.{Of}
use Rattle.ct_expr_laws.proofs.Values.{every}

null_kind : (t : ColType) → has_kind t v.Null ≡ true
null_kind type.Int = refl
null_kind type.BigInt = refl
null_kind (type.NVarChar most) = refl
null_kind (type.VarBinary most) = refl

has_its_kind : (t : ColType) (x : Value) → IsOfKind (kind_of_type t) x → has_kind t x ≡ true
has_its_kind t v.Null fits = null_kind t
has_its_kind type.Int (v.Int n) fits = refl
has_its_kind type.BigInt (v.Int n) fits = refl
has_its_kind (type.NVarChar most) (v.Text t) fits = refl
has_its_kind (type.VarBinary most) (v.Bytes b) fits = refl
has_its_kind t x fits = absurd fits

of_type : (t : ColType) (found : Option Kind) (answer : Answer Value) (x : Value) → Of found answer → is_of (kind_of_type t) found ≡ true → answer ≡ Ok x → has_kind t x ≡ true
of_type t None answer x of suited came = absurd cc
of_type t (Some kind) answer x of suited came =
    let it = both (is_value kind) (agree kind (kind_of_type t)) suited in
    has_its_kind t x (fits_other (kind_of_type t) kind x (type_kind t) (type_value t) (agree_sym (kind_of_type t) kind ∙ it.1) ((of kind refl it.0).holds x came))

pub values_have_their_type : ValuesHaveTheirType
values_have_their_type scope scene expr t x fits suited came = of_type t (kind_of scope expr) (value scene expr) x (every scope scene fits expr) suited came

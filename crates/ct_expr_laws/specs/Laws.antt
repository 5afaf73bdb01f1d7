-- The laws that an expression comes to a value of the kind that its form has.
use Rattle.std.specs.Prelude.{◌≡◌, true, map, Some, Ok}
use Rattle.ct_types.specs.ColumnFit.{has_kind}
use Rattle.ct_types.specs.declared.bound.BoundExpr.{BoundExpr}
use Rattle.ct_types.specs.declared.schema.ColType.{ColType}
use Rattle.ct_types.specs.declared.value.Value.{Value}
use Rattle.ct_bind_kinds.specs.declared.kind.Kind.{Kind}
use Rattle.ct_bind_kinds.specs.Kinds.{kind_of_type, is_value, IsOfKind, AreOfKinds}
use Rattle.ct_bind_kinds.specs.WellFormed.{Scope, kind_of, is_of}
use Rattle.ct_expr.specs.Meaning.{Scene, value}

-- a scene is one of those on which a scope lets expressions be evaluated: each value of the row is of its column's kind,
-- and that of each variable of the kind of the variable's type
pub record IsSceneOf (scope : Scope) (scene : Scene) : Type 0 where
  pub row : AreOfKinds scope.columns scene.row.0
  pub variables : AreOfKinds (map kind_of_type scope.variables) (map (λ variable. variable.value) scene.env.variables.0)

-- what a well-formed expression comes to is of its kind; a condition has no value
abbrev pub ValuesHaveTheirKind : Type 0
ValuesHaveTheirKind =
    (scope : Scope) (scene : Scene) (expr : BoundExpr) (kind : Kind) (v : Value)
    → IsSceneOf scope scene → kind_of scope expr ≡ Some kind → is_value kind ≡ true → value scene expr ≡ Ok v → IsOfKind kind v

-- where the kind of an expression may stand for that of a column's type, the expression comes to a value that has the type's
-- kind
abbrev pub ValuesHaveTheirType : Type 0
ValuesHaveTheirType =
    (scope : Scope) (scene : Scene) (expr : BoundExpr) (type : ColType) (v : Value)
    → IsSceneOf scope scene → is_of (kind_of_type type) (kind_of scope expr) ≡ true → value scene expr ≡ Ok v → has_kind type v ≡ true

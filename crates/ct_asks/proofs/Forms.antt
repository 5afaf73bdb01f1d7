-- What each form of an expression asks, by what its parts ask.
use Rattle.std.proofs.Common.{◌≡◌, ℕ, Bool, true, false, ◌||◌, List, [], ◌∷◌, map, refl, sym, ap, ap₂, ◌∙◌}
use Rattle.std.specs.List.{list_any}
use Rattle.ct_types.specs.declared.expr.ColumnName.{ColumnName}
use Rattle.ct_types.specs.declared.expr.Comparison.{Comparison}
use Rattle.ct_types.specs.declared.expr.Expr.{Expr, roll-Expr, map-Expr}
use Rattle.ct_types.specs.declared.expr.Expr.TheFolds.{fold-roll-Expr, fold_out-Term, fold-RowVersion, fold-Scalar, fold-Term}
use Rattle.ct_types.specs.declared.expr.Expr.TheOpen as e
use Rattle.ct_types.specs.declared.expr.Expr.TheVariants as form
use Rattle.ct_types.specs.declared.expr.RowVersion.{RowVersion}
use Rattle.ct_types.specs.declared.expr.Scalar.{Scalar}
use Rattle.ct_types.specs.declared.expr.Term.{Term}
use Rattle.ct_asks.specs.Asks.{asks, some, of_expr, of_version, of_scalar, of_term, term_asks}

abbrev version_told : RowVersion → Bool
version_told = fold-RowVersion Bool Bool Bool Bool of_expr of_version of_scalar of_term

abbrev scalar_told : Scalar → Bool
scalar_told = fold-Scalar Bool Bool Bool Bool of_expr of_version of_scalar of_term

abbrev term_told : Term → Bool
term_told = fold-Term Bool Bool Bool Bool of_expr of_version of_scalar of_term

layer : (x : e.Expr-F Expr RowVersion Scalar Term) → asks (roll-Expr x) ≡ of_expr (map-Expr _ _ _ _ Bool Bool Bool Bool asks version_told scalar_told term_told x)
unfolding asks
layer x = fold-roll-Expr Bool Bool Bool Bool of_expr of_version of_scalar of_term x

told : (t : Term) → term_told t ≡ term_asks t
unfolding asks
told t = fold_out-Term Bool Bool Bool Bool of_expr of_version of_scalar of_term t

-- one of the parts
some_told : {A : Type 0} (f g : A → Bool) → ((x : A) → f x ≡ g x) → (all : List A) → some (map f all) ≡ list_any g all
some_told f g same [] = refl
some_told f g same (x ∷ more) = ap₂ (λ (here later : Bool). here || later) (same x) (some_told f g same more)

pub opens_Null : asks form.Null ≡ false
opens_Null = ap asks (sym form.rolls-Null) ∙ layer e.Null

pub opens_Number : (digits : List ℕ) → asks (form.Number digits) ≡ false
opens_Number digits = ap asks (sym (form.rolls-Number digits)) ∙ layer (e.Number digits)

pub opens_Text : (text : List ℕ) → asks (form.Text text) ≡ false
opens_Text text = ap asks (sym (form.rolls-Text text)) ∙ layer (e.Text text)

pub opens_Bytes : (bytes : List ℕ) → asks (form.Bytes bytes) ≡ false
opens_Bytes bytes = ap asks (sym (form.rolls-Bytes bytes)) ∙ layer (e.Bytes bytes)

pub opens_Variable : (name : List ℕ) → asks (form.Variable name) ≡ false
opens_Variable name = ap asks (sym (form.rolls-Variable name)) ∙ layer (e.Variable name)

pub opens_Column : (name : ColumnName) → asks (form.Column name) ≡ false
opens_Column name = ap asks (sym (form.rolls-Column name)) ∙ layer (e.Column name)

pub opens_CurrentVersion : asks form.CurrentVersion ≡ false
opens_CurrentVersion = ap asks (sym form.rolls-CurrentVersion) ∙ layer e.CurrentVersion

pub opens_Scalar : (scalar : Scalar) → asks (form.Scalar scalar) ≡ true
opens_Scalar scalar = ap asks (sym (form.rolls-Scalar scalar)) ∙ layer (e.Scalar scalar)

pub opens_MinValidVersion : (value : Expr) → asks (form.MinValidVersion value) ≡ asks value
opens_MinValidVersion value = ap asks (sym (form.rolls-MinValidVersion value)) ∙ layer (e.MinValidVersion value)

pub opens_ObjectId : (value : Expr) → asks (form.ObjectId value) ≡ asks value
opens_ObjectId value = ap asks (sym (form.rolls-ObjectId value)) ∙ layer (e.ObjectId value)

pub opens_Negative : (value : Expr) → asks (form.Negative value) ≡ asks value
opens_Negative value = ap asks (sym (form.rolls-Negative value)) ∙ layer (e.Negative value)

pub opens_IsNull : (value : Expr) → asks (form.IsNull value) ≡ asks value
opens_IsNull value = ap asks (sym (form.rolls-IsNull value)) ∙ layer (e.IsNull value)

pub opens_IsNotNull : (value : Expr) → asks (form.IsNotNull value) ≡ asks value
opens_IsNotNull value = ap asks (sym (form.rolls-IsNotNull value)) ∙ layer (e.IsNotNull value)

pub opens_Not : (value : Expr) → asks (form.Not value) ≡ asks value
opens_Not value = ap asks (sym (form.rolls-Not value)) ∙ layer (e.Not value)

pub opens_IsColumnInMask : (left : Expr) (right : Expr) → asks (form.IsColumnInMask left right) ≡ (asks left || asks right)
opens_IsColumnInMask left right = ap asks (sym (form.rolls-IsColumnInMask left right)) ∙ layer (e.IsColumnInMask left right)

pub opens_IfNull : (left : Expr) (right : Expr) → asks (form.IfNull left right) ≡ (asks left || asks right)
opens_IfNull left right = ap asks (sym (form.rolls-IfNull left right)) ∙ layer (e.IfNull left right)

pub opens_Compare : (operator : Comparison) (left : Expr) (right : Expr) → asks (form.Compare operator left right) ≡ (asks left || asks right)
opens_Compare operator left right = ap asks (sym (form.rolls-Compare operator left right)) ∙ layer (e.Compare operator left right)

pub opens_ColumnProperty : (table : Expr) (column : Expr) (property : Expr) → asks (form.ColumnProperty table column property) ≡ (asks table || (asks column || asks property))
opens_ColumnProperty table column property = ap asks (sym (form.rolls-ColumnProperty table column property)) ∙ layer (e.ColumnProperty table column property)

pub opens_Product : (operands : List Expr) → asks (form.Product operands) ≡ list_any asks operands
opens_Product operands = ap asks (sym (form.rolls-Product operands)) ∙ layer (e.Product operands) ∙ some_told asks asks (λ x. refl) operands

pub opens_And : (operands : List Expr) → asks (form.And operands) ≡ list_any asks operands
opens_And operands = ap asks (sym (form.rolls-And operands)) ∙ layer (e.And operands) ∙ some_told asks asks (λ x. refl) operands

pub opens_Or : (operands : List Expr) → asks (form.Or operands) ≡ list_any asks operands
opens_Or operands = ap asks (sym (form.rolls-Or operands)) ∙ layer (e.Or operands) ∙ some_told asks asks (λ x. refl) operands

pub opens_Sum : (first : Expr) (more : List Term) → asks (form.Sum first more) ≡ (asks first || list_any term_asks more)
opens_Sum first more = ap asks (sym (form.rolls-Sum first more)) ∙ layer (e.Sum first more) ∙ ap (λ (later : Bool). asks first || later) (some_told term_told term_asks told more)

pub ruleset forms = (opens_Null, opens_Number, opens_Text, opens_Bytes, opens_Variable, opens_Column, opens_CurrentVersion, opens_Scalar, opens_MinValidVersion, opens_ObjectId, opens_Negative, opens_IsNull, opens_IsNotNull, opens_Not, opens_IsColumnInMask, opens_IfNull, opens_Compare, opens_ColumnProperty, opens_Product, opens_And, opens_Or, opens_Sum)

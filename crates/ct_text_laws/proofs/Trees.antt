-- The text literals of each form of expression are of code points where those of its parts are.
use Rattle.std.proofs.Common.{◌≡◌, ℕ, List, [], ◌∷◌, ◌++◌, map, sym, subst}
use Rattle.std.specs.List.{AllByRecursion}
use Rattle.std.specs.Str.{IsUtf8}
use Rattle.ct_types.specs.declared.expr.ColumnName.{ColumnName}
use Rattle.ct_types.specs.declared.expr.Comparison.{Comparison}
use Rattle.ct_types.specs.declared.expr.Expr.{Expr, roll-Expr}
use Rattle.ct_types.specs.declared.expr.Expr.TheVariants as e
use Rattle.ct_types.specs.declared.expr.Expr.TheOpen as f
use Rattle.ct_types.specs.declared.expr.RowVersion.{RowVersion}
use Rattle.ct_types.specs.declared.expr.Scalar.{Scalar}
use Rattle.ct_types.specs.declared.expr.Term.{Term}
use Rattle.ct_types.proofs.Lists.{all_append, all_joined}
use Rattle.ct_value_laws.specs.Texts.{joined, texts_of, IsOfCodePoints, AreOfCodePoints}
use Rattle.ct_value_laws.proofs.Layers.{version_texts_of, scalar_texts_of, term_texts_of, texts_at, layer, opened_version, opened_scalar, opened_term}

made : (x : f.Expr-F Expr RowVersion Scalar Term) (y : Expr) → roll-Expr x ≡ y → AllByRecursion IsUtf8 (texts_at x) → IsOfCodePoints y
made x y is all = subst IsOfCodePoints is (subst (AllByRecursion IsUtf8) (sym (layer x)) all)

both : (x y : Expr) → IsOfCodePoints x → IsOfCodePoints y → AllByRecursion IsUtf8 (texts_of x ++ texts_of y)
both x y first second = all_append IsUtf8 (texts_of x) (texts_of y) first second

each_text : {X : Type 0} (texts : X → List (List ℕ)) (xs : List X) → AllByRecursion (λ x. AllByRecursion IsUtf8 (texts x)) xs → AllByRecursion (AllByRecursion IsUtf8) (map texts xs)
each_text texts [] all = tt
each_text texts (x ∷ xs) all = (all.0, each_text texts xs all.1)

all_texts : {X : Type 0} (texts : X → List (List ℕ)) (xs : List X) → AllByRecursion (λ x. AllByRecursion IsUtf8 (texts x)) xs → AllByRecursion IsUtf8 (joined (map texts xs))
all_texts texts xs all = all_joined IsUtf8 (map texts xs) (each_text texts xs all)

-- ---- no part

pub of_Null : IsOfCodePoints e.Null
of_Null = made f.Null e.Null e.rolls-Null tt

pub of_Number : (digits : List ℕ) → IsOfCodePoints (e.Number digits)
of_Number digits = made (f.Number digits) (e.Number digits) (e.rolls-Number digits) tt

pub of_Text : (text : List ℕ) → IsUtf8 text → IsOfCodePoints (e.Text text)
of_Text text is = made (f.Text text) (e.Text text) (e.rolls-Text text) (is, tt)

pub of_Bytes : (bytes : List ℕ) → IsOfCodePoints (e.Bytes bytes)
of_Bytes bytes = made (f.Bytes bytes) (e.Bytes bytes) (e.rolls-Bytes bytes) tt

pub of_Variable : (name : List ℕ) → IsOfCodePoints (e.Variable name)
of_Variable name = made (f.Variable name) (e.Variable name) (e.rolls-Variable name) tt

pub of_Column : (name : ColumnName) → IsOfCodePoints (e.Column name)
of_Column name = made (f.Column name) (e.Column name) (e.rolls-Column name) tt

pub of_CurrentVersion : IsOfCodePoints e.CurrentVersion
of_CurrentVersion = made f.CurrentVersion e.CurrentVersion e.rolls-CurrentVersion tt

-- ---- one part, two, three

pub of_MinValidVersion : (x : Expr) → IsOfCodePoints x → IsOfCodePoints (e.MinValidVersion x)
of_MinValidVersion x is = made (f.MinValidVersion x) (e.MinValidVersion x) (e.rolls-MinValidVersion x) is

pub of_ObjectId : (x : Expr) → IsOfCodePoints x → IsOfCodePoints (e.ObjectId x)
of_ObjectId x is = made (f.ObjectId x) (e.ObjectId x) (e.rolls-ObjectId x) is

pub of_Negative : (x : Expr) → IsOfCodePoints x → IsOfCodePoints (e.Negative x)
of_Negative x is = made (f.Negative x) (e.Negative x) (e.rolls-Negative x) is

pub of_IsNull : (x : Expr) → IsOfCodePoints x → IsOfCodePoints (e.IsNull x)
of_IsNull x is = made (f.IsNull x) (e.IsNull x) (e.rolls-IsNull x) is

pub of_IsNotNull : (x : Expr) → IsOfCodePoints x → IsOfCodePoints (e.IsNotNull x)
of_IsNotNull x is = made (f.IsNotNull x) (e.IsNotNull x) (e.rolls-IsNotNull x) is

pub of_Not : (x : Expr) → IsOfCodePoints x → IsOfCodePoints (e.Not x)
of_Not x is = made (f.Not x) (e.Not x) (e.rolls-Not x) is

pub of_IsColumnInMask : (x y : Expr) → IsOfCodePoints x → IsOfCodePoints y → IsOfCodePoints (e.IsColumnInMask x y)
of_IsColumnInMask x y first second = made (f.IsColumnInMask x y) (e.IsColumnInMask x y) (e.rolls-IsColumnInMask x y) (both x y first second)

pub of_IfNull : (x y : Expr) → IsOfCodePoints x → IsOfCodePoints y → IsOfCodePoints (e.IfNull x y)
of_IfNull x y first second = made (f.IfNull x y) (e.IfNull x y) (e.rolls-IfNull x y) (both x y first second)

pub of_Compare : (operator : Comparison) (x y : Expr) → IsOfCodePoints x → IsOfCodePoints y → IsOfCodePoints (e.Compare operator x y)
of_Compare operator x y first second = made (f.Compare operator x y) (e.Compare operator x y) (e.rolls-Compare operator x y) (both x y first second)

pub of_ColumnProperty : (x y z : Expr) → IsOfCodePoints x → IsOfCodePoints y → IsOfCodePoints z → IsOfCodePoints (e.ColumnProperty x y z)
of_ColumnProperty x y z first second third =
    made (f.ColumnProperty x y z) (e.ColumnProperty x y z) (e.rolls-ColumnProperty x y z) (all_append IsUtf8 (texts_of x ++ texts_of y) (texts_of z) (both x y first second) third)

-- ---- chains and sums

pub of_Product : (xs : List Expr) → AreOfCodePoints xs → IsOfCodePoints (e.Product xs)
of_Product xs all = made (f.Product xs) (e.Product xs) (e.rolls-Product xs) (all_texts texts_of xs all)

pub of_And : (xs : List Expr) → AreOfCodePoints xs → IsOfCodePoints (e.And xs)
of_And xs all = made (f.And xs) (e.And xs) (e.rolls-And xs) (all_texts texts_of xs all)

pub of_Or : (xs : List Expr) → AreOfCodePoints xs → IsOfCodePoints (e.Or xs)
of_Or xs all = made (f.Or xs) (e.Or xs) (e.rolls-Or xs) (all_texts texts_of xs all)

abbrev pub TermOfCodePoints : Term → Type 0
TermOfCodePoints term = AllByRecursion IsUtf8 (term_texts_of term)

pub of_term : (term : Term) → IsOfCodePoints term.value → TermOfCodePoints term
of_term term is = subst (AllByRecursion IsUtf8) (sym (opened_term term)) is

pub of_Sum : (x : Expr) (more : List Term) → IsOfCodePoints x → AllByRecursion TermOfCodePoints more → IsOfCodePoints (e.Sum x more)
of_Sum x more first all = made (f.Sum x more) (e.Sum x more) (e.rolls-Sum x more) (all_append IsUtf8 (texts_of x) (joined (map term_texts_of more)) first (all_texts term_texts_of more all))

-- ---- the scalar form

abbrev pub VersionOfCodePoints : RowVersion → Type 0
VersionOfCodePoints version = AllByRecursion IsUtf8 (version_texts_of version)

pub of_version : (version : RowVersion) → AreOfCodePoints version.values → VersionOfCodePoints version
of_version version all = subst (AllByRecursion IsUtf8) (sym (opened_version version)) (all_texts texts_of version.values all)

abbrev pub ScalarOfCodePoints : Scalar → Type 0
ScalarOfCodePoints scalar = AllByRecursion IsUtf8 (scalar_texts_of scalar)

pub of_scalar : (scalar : Scalar) → VersionOfCodePoints scalar.version → ScalarOfCodePoints scalar
of_scalar scalar is = subst (AllByRecursion IsUtf8) (sym (opened_scalar scalar)) is

pub of_Scalar : (scalar : Scalar) → ScalarOfCodePoints scalar → IsOfCodePoints (e.Scalar scalar)
of_Scalar scalar is = made (f.Scalar scalar) (e.Scalar scalar) (e.rolls-Scalar scalar) is

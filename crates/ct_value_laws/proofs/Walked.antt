-- What an expression is bound to comes to a representable value: by induction over the expression, one case for each form.
use Rattle.std.proofs.Common.{◌≡◌, ℕ, zero, suc, ◌==◌, Bool, true, false, if◌then◌else◌, List, [], ◌∷◌, map, length, Option, Some, None, IfSome, Ok, refl, sym, subst}
use Rattle.std.specs.List.{AllByRecursion, slice_get, cons_option, filter_map}
use Rattle.std.specs.Option.{option_and_then}
use Rattle.std.specs.Str.{IsUtf8}
use Rattle.ct_types.specs.ColumnFit.{IsBigInt}
use Rattle.ct_types.specs.declared.bound.BoundExpr.{BoundExpr}
use Rattle.ct_types.specs.declared.bound.BoundExpr.TheVariants as bound
use Rattle.ct_types.specs.declared.bound.BoundRowVersion.{BoundRowVersion, roll-BoundRowVersion}
use Rattle.ct_types.specs.declared.bound.BoundScalar.{roll-BoundScalar}
use Rattle.ct_types.specs.declared.bound.BoundTerm.{BoundTerm}
use Rattle.ct_types.specs.declared.catalogue.Catalogued.{Catalogued}
use Rattle.ct_types.specs.declared.catalogue.Variable.{Variable}
use Rattle.ct_types.specs.declared.expr.ColumnName.{ColumnName}
use Rattle.ct_types.specs.declared.expr.Comparison.{Comparison}
use Rattle.ct_types.specs.declared.expr.Expr.{Expr, roll-Expr}
use Rattle.ct_types.specs.declared.expr.Expr.TheOpen as e
use Rattle.ct_types.specs.declared.expr.RowVersion.{RowVersion, roll-RowVersion}
use Rattle.ct_types.specs.declared.expr.Scalar.{Scalar, roll-Scalar}
use Rattle.ct_types.specs.declared.expr.Term.{Term}
use Rattle.ct_types.specs.declared.refusal.Refusal.TheVariants.{NoColumn, Ambiguous, TypeClash, CountClash}
use Rattle.ct_types.specs.declared.schema.Column.{Column}
use Rattle.ct_types.specs.declared.schema.Schema.{Schema}
use Rattle.ct_types.specs.Answers.{Answer, ◌>>=◌, each}
use Rattle.ct_types.proofs.AnswersKept.{Kept, ok_kept, err_kept, then_kept, after_kept, demand_kept}
use Rattle.ct_types.proofs.Lists.{all_front, all_back, all_parts, all_mapped}
use Rattle.ct_bind_kinds.specs.declared.kind.Kind.{Kind}
use Rattle.ct_bind_kinds.specs.declared.kind.Kind.TheVariants.{Number, Text, Bytes, Condition, Null}
use Rattle.ct_bind_kinds.specs.Kinds.{kind_of_type, either}
use Rattle.ct_bind_names.specs.Names.{same, place_of}
use Rattle.ct_bind_names.specs.Numbers.{literal}
use Rattle.ct_bind_names.specs.Catalogue.{tracked_table, declared_variable}
use Rattle.ct_bind_expr.specs.declared.place.Typed.{Typed}
use Rattle.ct_bind_expr.specs.declared.place.Output.{Output}
use Rattle.ct_bind_expr.specs.declared.place.Spot.{Spot}
use Rattle.ct_bind_expr.specs.declared.place.Place.{Place}
use Rattle.ct_bind_expr.specs.Places.{typed, is_a, of_kind, any_value, go_together, column_at, named_in, named_of, only, output_at, plain_by, plain_column, column_of_source, column_in, column}
use Rattle.ct_bind_expr.specs.Versions.{Walk, operand, values, tuple, key_columns, listed_kinds, value_of, in_key_order, version_of, version_column}
use Rattle.ct_bind_expr.specs.Walk as spec
use Rattle.ct_bind_expr.specs.Walk.{VersionWalk, TermWalk, two, property, both_of_kind, chain, term, further_term, sum, sum_typed, number_typed, walk, version_walk, scalar_walk, term_walk, scalar_column}
use Rattle.ct_bind_expr.proofs.Arms as arms
use Rattle.ct_bind_expr.proofs.Arms.{come}
use Rattle.ct_bind_expr.proofs.Forms.{Known, Form, parts, version_parts, scalar_parts, by_forms, form_walk}
use Rattle.ct_bind_expr.proofs.Opened as opened
use Rattle.ct_expr.specs.Meaning.{Scene, value}
use Rattle.ct_value_laws.specs.Values.{AreRepresentable, HoldRepresentable}
use Rattle.ct_value_laws.specs.Texts.{IsOfCodePoints, AreOfCodePoints, texts_of}
use Rattle.ct_value_laws.specs.Laws.{WalkedAreRepresentable}
use Rattle.ct_value_laws.proofs.Layers.{version_texts_of, scalar_texts_of, texts_at, layer, opened_version, opened_scalar}
use Rattle.ct_value_laws.proofs.Represented.{literal_fits}
use Rattle.ct_value_laws.proofs.Forms.{Sound, AllSound, of_Null, of_Number, of_Text, of_Bytes, of_Column, of_Variable, of_CurrentVersion, of_MinValidVersion, of_IsColumnInMask, of_ObjectId, of_ColumnProperty, of_Negative, of_Product, of_Compare, of_IsNull, of_IsNotNull, of_Not, of_And, of_Or, of_IfNull, of_Sum, of_Scalar}

-- ---- what is chosen of a list

module _ {X : Type 0} (P : X → Type 0) where
  at_place : (xs : List X) (i : ℕ) → AllByRecursion P xs → IfSome (slice_get xs i) P
  at_place [] i all = tt
  at_place (x ∷ xs) zero all = all.0
  at_place (x ∷ xs) (suc i) all = at_place xs i all.1

  at_found : (xs : List X) (found : Option ℕ) → AllByRecursion P xs → IfSome (option_and_then (slice_get xs) found) P
  at_found xs None all = tt
  at_found xs (Some i) all = at_place xs i all

  before_all : (found : Option X) (xs : List X) → IfSome found P → AllByRecursion P xs → AllByRecursion P (cons_option found xs)
  before_all None xs here all = all
  before_all (Some x) xs here all = (here, all)

  chosen_all : {Y : Type 0} (choose : Y → Option X) → ((y : Y) → IfSome (choose y) P) → (ys : List Y) → AllByRecursion P (filter_map choose ys)
  chosen_all choose go [] = tt
  chosen_all choose go (y ∷ ys) = before_all (choose y) (filter_map choose ys) (go y) (chosen_all choose go ys)

module _ (tables : List Catalogued) (variables : List Variable) (scene : Scene) (row : AreRepresentable scene.row.0) (held : HoldRepresentable scene.env.variables.0) where
  abbrev Good : BoundExpr → Type 0
  Good x = Sound scene x

  abbrev AllGood : List BoundExpr → Type 0
  AllGood xs = AllSound scene xs

  abbrev GoodTyped : Typed → Type 0
  GoodTyped it = Good it.expr

  -- what is walked is good
  abbrev Goes : Answer Typed → Type 0
  Goes answer = Kept GoodTyped answer

  -- ---- kinds that are wanted

  kind_kept : (wanted : Kind) (it : Typed) → GoodTyped it → Kept Good (of_kind wanted it)
  kind_kept wanted it good = demand_kept Good (is_a it.kind wanted) TypeClash _ (λ _. ok_kept Good it.expr good)

  pub operand_kept : (wanted : Kind) (answer : Answer Typed) → Goes answer → Kept Good (answer >>= of_kind wanted)
  operand_kept wanted answer goes = then_kept GoodTyped Good answer (of_kind wanted) goes (kind_kept wanted)

  -- ---- operators

  one_kept : (judge : Typed → Answer BoundExpr) (make : BoundExpr → BoundExpr) (kind : Kind) → ((x : BoundExpr) → Good (make x)) → (it : Typed) → Goes (judge it >>= (λ x. Ok (typed (make x) kind)))
  one_kept judge make kind good it = after_kept GoodTyped (judge it) _ (λ x. ok_kept GoodTyped (typed (make x) kind) (good x))

  min_valid_version : (it : Typed) → Goes (spec.min_valid_version it)
  unfolding spec.min_valid_version
  min_valid_version = one_kept (of_kind Number) bound.MinValidVersion Number (of_MinValidVersion scene)

  object_id : (it : Typed) → Goes (spec.object_id it)
  unfolding spec.object_id
  object_id = one_kept (of_kind Text) bound.ObjectId Number (of_ObjectId scene)

  negative : (it : Typed) → Goes (spec.negative it)
  unfolding spec.negative
  negative = one_kept (of_kind Number) bound.Negative Number (of_Negative scene)

  negated : (it : Typed) → Goes (spec.negated it)
  unfolding spec.negated
  negated = one_kept (of_kind Condition) bound.Not Condition (of_Not scene)

  is_null : (it : Typed) → Goes (spec.is_null it)
  unfolding spec.is_null
  is_null = one_kept any_value bound.IsNull Condition (of_IsNull scene)

  is_not_null : (it : Typed) → Goes (spec.is_not_null it)
  unfolding spec.is_not_null
  is_not_null = one_kept any_value bound.IsNotNull Condition (of_IsNotNull scene)

  is_column_in_mask : (column mask : Typed) → Goes (spec.is_column_in_mask column mask)
  unfolding spec.is_column_in_mask
  is_column_in_mask column mask =
      after_kept GoodTyped (of_kind Number column) _ (λ x. after_kept GoodTyped (of_kind Bytes mask) _ (λ y. ok_kept GoodTyped (typed (bound.IsColumnInMask x y) Number) (of_IsColumnInMask scene x y)))

  column_property : (table column asked : Typed) → Goes (spec.column_property table column asked)
  unfolding spec.column_property
  column_property table column asked =
      after_kept GoodTyped (of_kind Number table) _ (λ x. after_kept GoodTyped (of_kind Text column) _ (λ y. after_kept GoodTyped (of_kind Text asked) _
      (λ z. ok_kept GoodTyped (typed (bound.ColumnProperty x y z) Number) (of_ColumnProperty scene x y z))))

  compare : (operator : Comparison) (left right : Typed) → Goes (spec.compare operator left right)
  unfolding spec.compare
  compare operator left right =
      demand_kept GoodTyped (go_together left.kind right.kind) TypeClash _ (λ _. ok_kept GoodTyped (typed (bound.Compare operator left.expr right.expr) Condition) (of_Compare scene operator left.expr right.expr))

  if_null : (left right : Typed) → GoodTyped left → GoodTyped right → Goes (spec.if_null left right)
  unfolding spec.if_null
  if_null left right first second =
      demand_kept GoodTyped (go_together left.kind right.kind) TypeClash _
      (λ _. ok_kept GoodTyped (typed (bound.IfNull left.expr right.expr) (either left.kind right.kind)) (of_IfNull scene left.expr right.expr first second))

  -- ---- names

  column_good : (it : Spot) → GoodTyped (column_at it)
  column_good it = of_Column scene row it.place

  only_kept : (name : List ℕ) (spots : List Spot) → Goes (only name spots)
  unfolding only
  only_kept name [] = err_kept GoodTyped (NoColumn name)
  only_kept name (one ∷ []) = ok_kept GoodTyped (column_at one) (column_good one)
  only_kept name (one ∷ other ∷ more) = err_kept GoodTyped (Ambiguous name)

  plain_kept : (place : Place) (name : List ℕ) (found : Option Output) → Goes (plain_by place name found)
  plain_kept place name (Some output) = ok_kept GoodTyped (column_at output.spot) (column_good output.spot)
  plain_kept place name None = only_kept name (named_in name 0 place.sources)

  column_in_kept : (place : Place) (source : Option (List ℕ)) (name : List ℕ) → Goes (column_in place source name)
  unfolding plain_column column_of_source
  column_in_kept place None name = plain_kept place name (output_at name place.outputs)
  column_in_kept place (Some source) name = after_kept GoodTyped (named_of source name 0 place.sources) (only name) (only_kept name)

  either_kept : (test : Bool) (one other : Answer Typed) → Goes one → Goes other → Goes (if test then one else other)
  either_kept true one other first second = first
  either_kept false one other first second = second

  column_kept : (place : Place) (name : ColumnName) → Goes (column place name)
  unfolding column
  column_kept place name = either_kept place.is_closed _ (column_in place name.source name.column) (err_kept GoodTyped TypeClash) (column_in_kept place name.source name.column)

  variable_kept : (name : List ℕ) → Goes (spec.variable tables variables name)
  unfolding spec.variable
  variable_kept name = after_kept GoodTyped (declared_variable variables name) _ (λ at. ok_kept GoodTyped (typed (bound.Variable at.0) (kind_of_type at.1)) (of_Variable scene held at.0))

  number_kept : (digits : List ℕ) → Goes (spec.number_literal digits)
  unfolding spec.number_literal
  number_kept digits = then_kept IsBigInt GoodTyped (literal digits) _ (literal_fits digits) (λ n is. ok_kept GoodTyped (number_typed n) (of_Number scene n is))

  module _ (place : Place) where
    -- ---- two operands, and sums

    abbrev BothGood : Typed × Typed → Type 0
    BothGood both = GoodTyped both.0 × GoodTyped both.1

    two_kept : (left right : Walk) → Goes (left place) → Goes (right place) → Kept BothGood (two place left right)
    unfolding two
    two_kept left right first second =
        then_kept GoodTyped BothGood (left place) _ first (λ a of_a. then_kept GoodTyped BothGood (right place) _ second (λ b of_b. ok_kept BothGood (a, b) (of_a, of_b)))

    abbrev LeftGood : Typed × Typed → Type 0
    LeftGood both = GoodTyped both.0

    left_kept : (left right : Walk) → Goes (left place) → Kept LeftGood (two place left right)
    unfolding two
    left_kept left right first = then_kept GoodTyped LeftGood (left place) _ first (λ a good. after_kept LeftGood (right place) _ (λ b. ok_kept LeftGood (a, b) good))

    abbrev FirstGood : BoundExpr × BoundExpr → Type 0
    FirstGood both = Good both.0

    first_kept : (wanted : Kind) (left right : Typed) → GoodTyped left → Kept FirstGood (both_of_kind wanted left right)
    unfolding both_of_kind
    first_kept wanted left right good =
        then_kept Good FirstGood (of_kind wanted left) _ (kind_kept wanted left good) (λ a here. after_kept FirstGood (of_kind wanted right) _ (λ b. ok_kept FirstGood (a, b) here))

    abbrev SumGood : BoundExpr × List BoundTerm → Type 0
    SumGood made = Good made.0

    sum_kept : (first : Walk) (more : List TermWalk) → Goes (first place) → Kept SumGood (sum place first more)
    unfolding sum operand
    sum_kept first [] goes = then_kept Good SumGood (first place >>= of_kind Number) _ (operand_kept Number (first place) goes) (λ x good. ok_kept SumGood (x, []) good)
    sum_kept first (second ∷ more) goes =
        then_kept LeftGood SumGood (two place first second.1) _ (left_kept first second.1 goes)
        (λ walked good. then_kept FirstGood SumGood (both_of_kind Number walked.0 walked.1) _ (first_kept Number walked.0 walked.1 good)
        (λ both here. after_kept SumGood (each (further_term place) more) _ (λ made. ok_kept SumGood (both.0, term second.0 both.1 ∷ made) here)))

    property_kept : (table named asked : Walk) → Goes (property place table named asked)
    unfolding property
    property_kept table named asked = after_kept GoodTyped (two place table named) _ (λ both. after_kept GoodTyped (asked place) _ (λ it. column_property both.0 both.1 it))

    -- ---- tuples

    abbrev pub AllGo : List Walk → Type 0
    AllGo walks = AllByRecursion (λ walk. Goes (walk place)) walks

    values_kept : (kinds : List Kind) (walks : List Walk) → AllGo walks → Kept AllGood (values place kinds walks)
    unfolding values operand
    values_kept [] walks all = ok_kept AllGood [] tt
    values_kept (kind ∷ kinds) [] all = ok_kept AllGood [] tt
    values_kept (kind ∷ kinds) (walk ∷ walks) all =
        then_kept Good AllGood (walk place >>= of_kind kind) _ (operand_kept kind (walk place) all.0)
        (λ x good. then_kept AllGood AllGood (values place kinds walks) _ (values_kept kinds walks all.1) (λ made rest. ok_kept AllGood (x ∷ made) (good, rest)))

    pub tuple_kept : (kinds : List Kind) (walks : List Walk) → AllGo walks → Kept AllGood (tuple place kinds walks)
    unfolding tuple
    tuple_kept kinds walks all = demand_kept AllGood (length walks == length kinds) (CountClash (length kinds) (length walks)) _ (λ _. values_kept kinds walks all)

    -- ---- CHANGETABLE(VERSION ..)

    in_order : (key : List Column) (names : List (List ℕ)) (made : List BoundExpr) → AllGood made → AllGood (in_key_order key names made)
    unfolding in_key_order
    in_order key names made all = chosen_all Good (value_of names made) (λ column. at_found Good made (place_of column.name names) all) key

    abbrev VersionGood : BoundRowVersion → Type 0
    VersionGood version = AllGood version.values

    version_kept : (table : Schema) (names : List (List ℕ)) (walks : List Walk) → AllGo walks → Kept VersionGood (version_of table names walks place)
    unfolding version_of
    version_kept table names walks all =
        after_kept VersionGood (listed_kinds (key_columns table) names) _
        (λ kinds. then_kept AllGood VersionGood (tuple place kinds walks) _ (tuple_kept kinds walks all)
        (λ made good. ok_kept VersionGood (roll-BoundRowVersion (record { table = table.id; values = in_key_order (key_columns table) names made })) (in_order (key_columns table) names made good)))

    scalar_kept : (table : Schema) (source alias column : List ℕ) (version : BoundRowVersion) → AllGood version.values → Goes (scalar_column table source alias column version)
    unfolding scalar_column
    scalar_kept table source alias column version all =
        demand_kept GoodTyped (same source alias) (NoColumn source) _
        (λ _. after_kept GoodTyped (version_column table column) _
        (λ shown. ok_kept GoodTyped (typed (bound.Scalar (roll-BoundScalar (record { version = version; column = shown.0 }))) shown.1)
        (of_Scalar scene (roll-BoundScalar (record { version = version; column = shown.0 })) all)))

    -- ---- expressions

    abbrev OfExpr : Expr → Type 0
    OfExpr x = IsOfCodePoints x → Goes (come tables variables place x)

    abbrev VersionsGood : Schema × BoundRowVersion → Type 0
    VersionsGood it = AllGood it.1.values

    abbrev OfRowVersion : RowVersion → Type 0
    OfRowVersion x = AllByRecursion IsUtf8 (version_texts_of x) → Kept VersionsGood (version_walk tables variables x place)

    abbrev OfScalar : Scalar → Type 0
    OfScalar x = AllByRecursion IsUtf8 (scalar_texts_of x) → Goes (scalar_walk tables variables x place)

    abbrev OfTerm : Term → Type 0
    OfTerm x = Unit {0}

    abbrev Part : Type 0
    Part = Known OfExpr

    -- parts, without what is known of them
    abbrev exprs : List Part → List Expr
    exprs all = map (λ (p : Part). p.0) all

    all_go : (all : List Part) → AreOfCodePoints (exprs all) → AllGo (map (walk tables variables) (exprs all))
    all_go [] texts = tt
    all_go (part ∷ all) texts = (part.1 texts.0, all_go all texts.1)

    of_one : (rule : Typed → Answer Typed) → ((it : Typed) → Goes (rule it)) → (x : Expr) → Goes (come tables variables place x >>= rule)
    of_one rule goes x = after_kept GoodTyped (come tables variables place x) rule goes

    of_two : (rule : Typed → Typed → Answer Typed) → ((left right : Typed) → Goes (rule left right)) → (x y : Expr)
        → Goes (two place (walk tables variables x) (walk tables variables y) >>= (λ both. rule both.0 both.1))
    of_two rule goes x y = after_kept GoodTyped (two place (walk tables variables x) (walk tables variables y)) _ (λ both. goes both.0 both.1)

    of_chain : (wanted : Kind) (make : List BoundExpr → BoundExpr) → ((made : List BoundExpr) → Good (make made)) → (all : List Walk) → Goes (chain wanted place all >>= (λ made. Ok (typed (make made) wanted)))
    of_chain wanted make good all = after_kept GoodTyped (chain wanted place all) _ (λ made. ok_kept GoodTyped (typed (make made) wanted) (good made))

    of_if_null : (x y : Part) → IsOfCodePoints x.0 → IsOfCodePoints y.0 → Goes (two place (walk tables variables x.0) (walk tables variables y.0) >>= (λ both. spec.if_null both.0 both.1))
    of_if_null x y first second =
        then_kept BothGood GoodTyped (two place (walk tables variables x.0) (walk tables variables y.0)) _ (two_kept (walk tables variables x.0) (walk tables variables y.0) (x.1 first) (y.1 second))
        (λ both good. if_null both.0 both.1 good.0 good.1)

    of_sum : (first : Part) (more : List TermWalk) → IsOfCodePoints first.0 → Goes (sum place (walk tables variables first.0) more >>= (λ operands. Ok (sum_typed operands.0 operands.1)))
    of_sum first more texts =
        then_kept SumGood GoodTyped (sum place (walk tables variables first.0) more) _ (sum_kept (walk tables variables first.0) more (first.1 texts))
        (λ made good. ok_kept GoodTyped (sum_typed made.0 made.1) (of_Sum scene made.0 made.1 good))

    form : (y : Form OfExpr OfRowVersion OfScalar OfTerm) → AllByRecursion IsUtf8 (texts_at (parts OfExpr OfRowVersion OfScalar OfTerm y)) → Goes (form_walk tables variables (parts OfExpr OfRowVersion OfScalar OfTerm y) place)
    form e.Null texts = ok_kept GoodTyped (typed bound.Null Null) (of_Null scene)
    form (e.Number digits) texts = number_kept digits
    form (e.Text text) texts = ok_kept GoodTyped (spec.text_typed text) (of_Text scene text texts.0)
    form (e.Bytes bytes) texts = ok_kept GoodTyped (spec.bytes_typed bytes) (of_Bytes scene bytes)
    form (e.Variable name) texts = variable_kept name
    form (e.Column name) texts = column_kept place name
    form e.CurrentVersion texts = ok_kept GoodTyped (typed bound.CurrentVersion Number) (of_CurrentVersion scene)
    form (e.MinValidVersion table) texts = of_one spec.min_valid_version min_valid_version table.0
    form (e.IsColumnInMask column mask) texts = of_two spec.is_column_in_mask is_column_in_mask column.0 mask.0
    form (e.ObjectId name) texts = of_one spec.object_id object_id name.0
    form (e.ColumnProperty table column asked) texts = property_kept (walk tables variables table.0) (walk tables variables column.0) (walk tables variables asked.0)
    form (e.IfNull value instead) texts = of_if_null value instead (all_front IsUtf8 (texts_of value.0) (texts_of instead.0) texts) (all_back IsUtf8 (texts_of value.0) (texts_of instead.0) texts)
    form (e.Scalar scalar) texts = scalar.1 texts
    form (e.Negative value) texts = of_one spec.negative negative value.0
    form (e.Product factors) texts = of_chain Number bound.Product (of_Product scene) _
    form (e.Sum first more) texts = of_sum first _ (all_front IsUtf8 (texts_of first.0) _ texts)
    form (e.Compare operator left right) texts = of_two (spec.compare operator) (compare operator) left.0 right.0
    form (e.IsNull value) texts = of_one spec.is_null is_null value.0
    form (e.IsNotNull value) texts = of_one spec.is_not_null is_not_null value.0
    form (e.Not value) texts = of_one spec.negated negated value.0
    form (e.And operands) texts = of_chain Condition bound.And (of_And scene) _
    form (e.Or operands) texts = of_chain Condition bound.Or (of_Or scene) _

    -- ---- the parts of forms

    of_version : (v : RowVersion) (all : List Part) → exprs all ≡ v.values → OfRowVersion v
    of_version v all are texts =
        let each_text : AllByRecursion (AllByRecursion IsUtf8) (map texts_of v.values) = all_parts IsUtf8 (map texts_of v.values) (subst (AllByRecursion IsUtf8) (opened_version v) texts) in
        let of_values : AreOfCodePoints v.values = all_mapped texts_of (AllByRecursion IsUtf8) v.values each_text in
        let go : AllGo (map (walk tables variables) v.values) =
        subst (λ (es : List Expr). AllGo (map (walk tables variables) es)) are (all_go all (subst AreOfCodePoints (sym are) of_values)) in
        subst (λ (w : VersionWalk). Kept VersionsGood (w place)) (sym (opened.opened_version tables variables v))
        (after_kept VersionsGood (tracked_table tables v.table) _
        (λ table. then_kept VersionGood VersionsGood (version_of table.schema v.columns (map (walk tables variables) v.values) place) _
        (version_kept table.schema v.columns (map (walk tables variables) v.values) go)
        (λ version good. ok_kept VersionsGood (table.schema, version) good)))

    of_scalar : (s : Scalar) → OfRowVersion s.version → OfScalar s
    of_scalar s known texts =
        subst (λ (w : Walk). Goes (w place)) (sym (opened.opened_scalar tables variables s))
        (then_kept VersionsGood GoodTyped (version_walk tables variables s.version place) _ (known (subst (AllByRecursion IsUtf8) (opened_scalar s) texts))
        (λ it good. scalar_kept it.0 s.source s.alias s.column it.1 good))

    rolled : (y : Form OfExpr OfRowVersion OfScalar OfTerm) → OfExpr (roll-Expr (parts OfExpr OfRowVersion OfScalar OfTerm y))
    rolled y texts =
        subst Goes (sym (arms.layer tables variables place (parts OfExpr OfRowVersion OfScalar OfTerm y)))
        (form y (subst (AllByRecursion IsUtf8) (layer (parts OfExpr OfRowVersion OfScalar OfTerm y)) texts))

    every : (x : Expr) → OfExpr x
    every = by_forms OfExpr OfRowVersion OfScalar OfTerm rolled (λ y. of_version (roll-RowVersion (version_parts OfExpr OfRowVersion OfScalar OfTerm y)) y.values refl)
        (λ y. of_scalar (roll-Scalar (scalar_parts OfExpr OfRowVersion OfScalar OfTerm y)) y.version.1) (λ y. tt)

  pub walked_good : (place : Place) (x : Expr) → IsOfCodePoints x → Goes (walk tables variables x place)
  walked_good place x = every place x

pub walked_are_representable : WalkedAreRepresentable
walked_are_representable tables variables place expr it scene v texts row held came gives = ((walked_good tables variables scene row held place expr texts).holds it came).holds v gives

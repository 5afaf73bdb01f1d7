-- The text literals of an expression that is read are of code points: by the levels that are left, one rule after another.
use Rattle.std.proofs.Common.{ℕ, zero, suc, List, [], ◌∷◌, Option, Some, None, IfSome}
use Rattle.std.specs.List.{AllByRecursion}
use Rattle.std.specs.Str.{IsUtf8}
use Rattle.ct_types.specs.declared.expr.Expr.{Expr}
use Rattle.ct_types.specs.declared.expr.Expr.TheVariants as e
use Rattle.ct_types.specs.declared.expr.RowVersion.{roll-RowVersion}
use Rattle.ct_types.specs.declared.expr.Scalar.{roll-Scalar}
use Rattle.ct_types.specs.declared.expr.Term.{Term}
use Rattle.ct_grammar.specs.declared.kind.Kind.{Kind}
use Rattle.ct_grammar.specs.declared.kind.Kind.TheVariants as k
use Rattle.ct_grammar.specs.Lexemes.{Lexeme}
use Rattle.ct_grammar.specs.Rules.{text}
use Rattle.ct_parse_expr.specs.declared.level.Entry.{Entry}
use Rattle.ct_parse_expr.specs.declared.level.Entry.TheVariants.{Whole, Negated, Signed}
use Rattle.ct_parse_expr.specs.declared.level.Test.{Test}
use Rattle.ct_parse_expr.specs.declared.level.Test.TheVariants as test
use Rattle.ct_parse_expr.specs.Grammar as g
use Rattle.ct_value_laws.specs.Texts.{IsOfCodePoints, AreOfCodePoints}
use Rattle.ct_text_laws.proofs.Lexemes.{HasCodePoints, text_in_utf8}
use Rattle.ct_text_laws.proofs.Trees.{of_Null, of_Number, of_Text, of_Bytes, of_Variable, of_Column, of_CurrentVersion, of_MinValidVersion, of_ObjectId, of_Negative, of_IsNull, of_IsNotNull, of_Not, of_IsColumnInMask, of_IfNull, of_Compare, of_ColumnProperty, of_Product, of_And, of_Or, TermOfCodePoints, of_term, of_Sum, VersionOfCodePoints, of_version, ScalarOfCodePoints, of_scalar, of_Scalar}
use Rattle.ct_text_laws.proofs.Yields.{Yields, yields_token, yields_both, yields_first, yields_second, yields_either, yields_of, yields_made, yields_maybe, yields_many, yields_below, yields_never}

-- what the rule reads has the property
abbrev pub Reads : {A : Type 0} → (A → List Lexeme → Type 0) → (A → Type 0) → Type 0
Reads L P = Yields HasCodePoints L P

text_read : Reads text IsUtf8
text_read = yields_of (yields_token (k.Text ∷ [])) (λ x h. text_in_utf8 x.word h.0)

-- ---- what the parts of a rule make

one_called : (kind : Kind) (x : Expr) → IsOfCodePoints x → IsOfCodePoints (g.call_one kind x)
one_called k.ObjectId x is = of_ObjectId x is
one_called _ x is = of_MinValidVersion x is

two_called : (kind : Kind) (x y : Expr) → IsOfCodePoints x → IsOfCodePoints y → IsOfCodePoints (g.call_two kind x y)
two_called k.IsNull x y first second = of_IfNull x y first second
two_called _ x y first second = of_IsColumnInMask x y first second

chained : (make : List Expr → Expr) → ((xs : List Expr) → AreOfCodePoints xs → IsOfCodePoints (make xs)) → (first : Expr) (more : List Expr) → IsOfCodePoints first → AreOfCodePoints more
    → IsOfCodePoints (g.any_of make first more)
chained make makes first [] is all = is
chained make makes first (x ∷ more) is all = makes (first ∷ x ∷ more) (is, all)

summed : (first : Expr) (more : List Term) → IsOfCodePoints first → AllByRecursion TermOfCodePoints more → IsOfCodePoints (g.sum_of first more)
summed first [] is all = is
summed first (x ∷ more) is all = of_Sum first (x ∷ more) is all

abbrev TestOfCodePoints : Test → Type 0
TestOfCodePoints (test.Compared operator right) = IsOfCodePoints right
TestOfCodePoints test.Null = Unit {0}
TestOfCodePoints test.NotNull = Unit {0}

null_tests : (o : _) → TestOfCodePoints (g.null_test o)
null_tests None = tt
null_tests (Some x) = tt

tested : (left : Expr) (given : Option Test) → IsOfCodePoints left → IfSome given TestOfCodePoints → IsOfCodePoints (g.tested left given)
tested left None is given = is
tested left (Some (test.Compared operator right)) is given = of_Compare operator left right is given
tested left (Some test.Null) is given = of_IsNull left is
tested left (Some test.NotNull) is given = of_IsNotNull left is

module _ (inner : Entry → Expr → List Lexeme → Type 0) (deeper : (entry : Entry) → Reads (inner entry) IsOfCodePoints) where
  pub tuple_read : Reads (g.tuple inner) AreOfCodePoints
  unfolding g.tuple
  tuple_read = yields_of (yields_second (yields_both (deeper Whole) (yields_first (yields_many (yields_of (yields_second (deeper Whole)) (λ p h. h)))))) (λ p h. (h.0, h.1))

  tail_read : Reads (g.version_tail inner) VersionOfCodePoints
  unfolding g.version_tail
  tail_read =
      yields_of (yields_second (yields_second (yields_second (yields_second (yields_second (yields_first tuple_read))))))
      (λ p h. of_version (roll-RowVersion (record { table = p.1.0; columns = p.1.1.1.0; values = p.1.1.1.1.1.0 })) h)

  version_read : Reads (g.version inner) VersionOfCodePoints
  unfolding g.version
  version_read = yields_of (yields_second (yields_second tail_read)) (λ p h. h)

  scalar_read : Reads (g.scalar inner) ScalarOfCodePoints
  unfolding g.scalar
  scalar_read =
      yields_of (yields_second (yields_second (yields_second (yields_second (yields_second (yields_first version_read))))))
      (λ p h. of_scalar (roll-Scalar (record { source = p.1.0; column = p.1.1.1.0; version = p.1.1.1.1.1.0; alias = p.1.1.1.1.1.1 })) h)

  module _ (n : ℕ) where
    enclosed_read : Reads (g.enclosed inner n) IsOfCodePoints
    unfolding g.enclosed
    enclosed_read = yields_of (yields_first (yields_either (yields_of scalar_read of_Scalar) (deeper Whole))) (λ p h. h)

    one_read : Reads (g.one_argument inner n) IsOfCodePoints
    unfolding g.one_argument
    one_read = yields_of (yields_first (deeper Whole)) (λ p h. h)

    two_read : Reads (g.two_arguments inner n) (λ p. IsOfCodePoints p.0 × IsOfCodePoints p.1)
    unfolding g.two_arguments
    two_read = yields_of (yields_both (deeper Whole) (yields_second (yields_first (deeper Whole)))) (λ p h. h)

    three_read : Reads (g.three_arguments inner n) (λ p. IsOfCodePoints p.0 × (IsOfCodePoints p.1.0 × IsOfCodePoints p.1.1))
    unfolding g.three_arguments
    three_read = yields_of (yields_both (deeper Whole) (yields_second (yields_both (deeper Whole) (yields_second (yields_first (deeper Whole)))))) (λ p h. h)

    column_read : Reads g.column IsOfCodePoints
    unfolding g.column
    column_read = yields_made (λ p. of_Column (g.column_of p.0 p.1))

    reference_read : Reads (g.reference inner n) IsOfCodePoints
    unfolding g.reference
    reference_read =
        yields_either (yields_made (λ p. of_CurrentVersion))
        (yields_either (yields_of (yields_second (yields_second (yields_below n one_read))) (λ p h. one_called p.0 p.1.1 h))
        (yields_either (yields_of (yields_second (yields_second (yields_below n two_read))) (λ p h. two_called p.0 p.1.1.0 p.1.1.1 h.0 h.1))
        (yields_either (yields_of (yields_second (yields_second (yields_below n three_read))) (λ p h. of_ColumnProperty p.1.1.0 p.1.1.1.0 p.1.1.1.1 h.0 h.1.0 h.1.1))
        column_read)))

    primary_read : Reads (g.primary inner n) IsOfCodePoints
    unfolding g.primary
    primary_read =
        yields_either (yields_made (λ x. of_Null))
        (yields_either (yields_made of_Number)
        (yields_either (yields_of text_read of_Text)
        (yields_either (yields_made of_Bytes)
        (yields_either (yields_made of_Variable)
        (yields_either (yields_of (yields_second (yields_below n enclosed_read)) (λ p h. h))
        reference_read)))))

    unary_read : Reads (g.unary inner n) IsOfCodePoints
    unfolding g.unary
    unary_read = yields_either (yields_of (yields_second (deeper Signed)) (λ p h. of_Negative p.1 h)) primary_read

    product_read : Reads (g.product inner n) IsOfCodePoints
    unfolding g.product
    product_read = yields_of (yields_both unary_read (yields_many (yields_of (yields_second unary_read) (λ p h. h)))) (λ p h. chained e.Product of_Product p.0 p.1 h.0 h.1)

    sum_read : Reads (g.sum inner n) IsOfCodePoints
    unfolding g.sum
    sum_read = yields_of (yields_both product_read (yields_many (yields_of (yields_second product_read) (λ p h. of_term (g.term_of p.0 p.1) h)))) (λ p h. summed p.0 p.1 h.0 h.1)

    predicate_read : Reads (g.predicate inner n) IsOfCodePoints
    unfolding g.predicate
    predicate_read =
        yields_of (yields_both sum_read (yields_maybe (yields_either (yields_of (yields_second sum_read) (λ p h. h)) (yields_made (λ p. null_tests p.1.0)))))
        (λ p h. tested p.0 p.1 h.0 h.1)

    negation_read : Reads (g.negation inner n) IsOfCodePoints
    unfolding g.negation
    negation_read = yields_either (yields_of (yields_second (deeper Negated)) (λ p h. of_Not p.1 h)) predicate_read

    conjunction_read : Reads (g.conjunction inner n) IsOfCodePoints
    unfolding g.conjunction
    conjunction_read = yields_of (yields_both negation_read (yields_many (yields_of (yields_second negation_read) (λ p h. h)))) (λ p h. chained e.And of_And p.0 p.1 h.0 h.1)

    disjunction_read : Reads (g.disjunction inner n) IsOfCodePoints
    unfolding g.disjunction
    disjunction_read = yields_of (yields_both conjunction_read (yields_many (yields_of (yields_second conjunction_read) (λ p h. h)))) (λ p h. chained e.Or of_Or p.0 p.1 h.0 h.1)

    level_read : (entry : Entry) → Reads (g.level inner n entry) IsOfCodePoints
    level_read Whole = disjunction_read
    level_read Negated = negation_read
    level_read Signed = unary_read

pub expr_read : (n : ℕ) (entry : Entry) → Reads (g.expr n entry) IsOfCodePoints
expr_read zero entry = yields_never
expr_read (suc n) entry = level_read (g.expr n) (expr_read n) n entry

-- How expressions are read: each reader mirrors a rule of the grammar, and chooses by the next lexemes.
use Rattle.std.specs.Prelude.{ℕ, zero, suc, List, [], ◌∷◌, ◌++◌, Option, Err}
use Rattle.ct_types.specs.declared.expr.Expr.{Expr}
use Rattle.ct_types.specs.declared.expr.Expr.TheVariants as e
use Rattle.ct_types.specs.declared.expr.Term.{Term}
use Rattle.ct_types.specs.declared.expr.Scalar.{Scalar, roll-Scalar}
use Rattle.ct_types.specs.declared.expr.RowVersion.{RowVersion, roll-RowVersion}
use Rattle.ct_grammar.specs.declared.kind.Kind.TheVariants as k
use Rattle.ct_grammar.specs.declared.fault.Fault.TheVariants.{TooDeep}
use Rattle.ct_grammar.specs.Rules.{numbers}
use Rattle.ct_grammar.specs.ReadNames.{second_part, table_name}
use Rattle.ct_grammar.specs.Reading.{Reader, both, making, pick, ahead, option, repeat, guard, need, kind, name, number, variable, text, bytes}
use Rattle.ct_parse_expr.specs.declared.level.Entry.{Entry}
use Rattle.ct_parse_expr.specs.declared.level.Entry.TheVariants.{Whole, Negated, Signed}
use Rattle.ct_parse_expr.specs.declared.level.Test.{Test}
use Rattle.ct_parse_expr.specs.declared.level.Test.TheVariants as test
use Rattle.ct_parse_expr.specs.Grammar.{comparisons, signs, with_none, with_one, with_two, with_three, column_of, call_one, call_two, any_of, sum_of, term_of, comparison_of, null_test, tested}

-- ---- names

unfoldable pub alias : Reader (List ℕ)
alias = making (λ p. p.1) (both (option (k.As ∷ []) (need k.As)) name)

unfoldable pub next_name : Reader (List ℕ)
next_name = making (λ p. p.1) (both (need k.Comma) name)

unfoldable pub more_names : Reader (List (List ℕ))
more_names = repeat (k.Comma ∷ []) next_name

unfoldable pub name_list : Reader (List (List ℕ))
name_list = making (λ p. p.1.0 ∷ p.1.1.0) (both (need k.Open) (both name (both more_names (need k.Close))))

unfoldable pub column : Reader Expr
column = making (λ p. e.Column (column_of p.0 p.1)) (both name (option (k.Dot ∷ []) second_part))

-- ---- expressions

module _ (inner : Entry → Reader Expr) where
  unfoldable pub next_value : Reader Expr
  next_value = making (λ p. p.1) (both (need k.Comma) (inner Whole))

  unfoldable pub more_values : Reader (List Expr)
  more_values = repeat (k.Comma ∷ []) next_value

  unfoldable pub tuple : Reader (List Expr)
  tuple = making (λ p. p.1.0 ∷ p.1.1.0) (both (need k.Open) (both (inner Whole) (both more_values (need k.Close))))

  unfoldable pub version_tail : Reader RowVersion
  version_tail = making (λ p. roll-RowVersion (record { table = p.1.0; columns = p.1.1.1.0; values = p.1.1.1.1.1.0 }))
      (both (need k.Version) (both table_name (both (need k.Comma) (both name_list (both (need k.Comma) (both tuple (need k.Close)))))))

  unfoldable pub version : Reader RowVersion
  version = making (λ p. p.1.1) (both (need k.ChangeTable) (both (need k.Open) version_tail))

  unfoldable pub scalar : Reader Scalar
  scalar = making (λ p. roll-Scalar (record { source = p.1.0; column = p.1.1.1.0; version = p.1.1.1.1.1.0; alias = p.1.1.1.1.1.1 }))
      (both (need k.Select) (both name (both (need k.Dot) (both name (both (need k.From) (both version alias))))))

  unfoldable pub scalar_value : Reader Expr
  scalar_value = making (λ s. e.Scalar s) scalar

  unfoldable pub enclosed_value : Reader Expr
  enclosed_value = pick (k.Select ∷ []) scalar_value (inner Whole)

  module _ (n : ℕ) where
    unfoldable pub enclosed : Reader Expr
    enclosed = making (λ p. p.0) (both enclosed_value (need k.Close))

    unfoldable pub brackets : Reader Expr
    brackets = making (λ p. p.1) (both (need k.Open) (guard n enclosed))

    unfoldable pub one_argument : Reader Expr
    one_argument = making (λ p. p.0) (both (inner Whole) (need k.Close))

    unfoldable pub two_arguments : Reader (Expr × Expr)
    two_arguments = making (λ p. (p.0, p.1.1.0)) (both (inner Whole) (both (need k.Comma) (both (inner Whole) (need k.Close))))

    unfoldable pub three_arguments : Reader (Expr × (Expr × Expr))
    three_arguments = making (λ p. (p.0, (p.1.1.0, p.1.1.1.1.0)))
        (both (inner Whole) (both (need k.Comma) (both (inner Whole) (both (need k.Comma) (both (inner Whole) (need k.Close))))))

    unfoldable pub call_none : Reader Expr
    call_none = making (λ p. e.CurrentVersion) (both (kind with_none) (both (need k.Open) (guard n (need k.Close))))

    unfoldable pub call_with_one : Reader Expr
    call_with_one = making (λ p. call_one p.0 p.1.1) (both (kind with_one) (both (need k.Open) (guard n one_argument)))

    unfoldable pub call_with_two : Reader Expr
    call_with_two = making (λ p. call_two p.0 p.1.1.0 p.1.1.1) (both (kind with_two) (both (need k.Open) (guard n two_arguments)))

    unfoldable pub call_with_three : Reader Expr
    call_with_three = making (λ p. e.ColumnProperty p.1.1.0 p.1.1.1.0 p.1.1.1.1) (both (kind with_three) (both (need k.Open) (guard n three_arguments)))

    unfoldable pub reference : Reader Expr
    reference =
        ahead (with_none ∷ (k.Open ∷ []) ∷ []) call_none
        (ahead (with_one ∷ (k.Open ∷ []) ∷ []) call_with_one
        (ahead (with_two ∷ (k.Open ∷ []) ∷ []) call_with_two
        (ahead (with_three ∷ (k.Open ∷ []) ∷ []) call_with_three column)))

    unfoldable pub literal_or_reference : Reader Expr
    literal_or_reference =
        pick (k.Text ∷ []) (making (λ value. e.Text value) text)
        (pick (k.Bytes ∷ []) (making (λ value. e.Bytes value) bytes)
        (pick (k.Variable ∷ []) (making (λ name. e.Variable name) variable)
        (pick (k.Open ∷ []) brackets reference)))

    unfoldable pub primary : Reader Expr
    primary =
        pick (k.Null ∷ []) (making (λ x. e.Null) (need k.Null))
        (pick numbers (making (λ digits. e.Number digits) number) literal_or_reference)

    unfoldable pub unary : Reader Expr
    unary = pick (k.Minus ∷ []) (making (λ p. e.Negative p.1) (both (need k.Minus) (inner Signed))) primary

    unfoldable pub factor : Reader Expr
    factor = making (λ p. p.1) (both (need k.Star) unary)

    unfoldable pub factors : Reader (List Expr)
    factors = repeat (k.Star ∷ []) factor

    unfoldable pub product : Reader Expr
    product = making (λ p. any_of e.Product p.0 p.1) (both unary factors)

    unfoldable pub term : Reader Term
    term = making (λ p. term_of p.0 p.1) (both (kind signs) product)

    unfoldable pub terms : Reader (List Term)
    terms = repeat signs term

    unfoldable pub sum : Reader Expr
    sum = making (λ p. sum_of p.0 p.1) (both product terms)

    unfoldable pub compared : Reader Test
    compared = making (λ p. test.Compared (comparison_of p.0) p.1) (both (kind comparisons) sum)

    unfoldable pub null_tested : Reader Test
    null_tested = making (λ p. null_test p.1.0) (both (need k.Is) (both (option (k.Not ∷ []) (need k.Not)) (need k.Null)))

    unfoldable pub behind_sum : Reader (Option Test)
    behind_sum = option (comparisons ++ k.Is ∷ []) (pick comparisons compared null_tested)

    unfoldable pub predicate : Reader Expr
    predicate = making (λ p. tested p.0 p.1) (both sum behind_sum)

    unfoldable pub negation : Reader Expr
    negation = pick (k.Not ∷ []) (making (λ p. e.Not p.1) (both (need k.Not) (inner Negated))) predicate

    unfoldable pub and_one : Reader Expr
    and_one = making (λ p. p.1) (both (need k.And) negation)

    unfoldable pub and_more : Reader (List Expr)
    and_more = repeat (k.And ∷ []) and_one

    unfoldable pub conjunction : Reader Expr
    conjunction = making (λ p. any_of e.And p.0 p.1) (both negation and_more)

    unfoldable pub or_one : Reader Expr
    or_one = making (λ p. p.1) (both (need k.Or) conjunction)

    unfoldable pub or_more : Reader (List Expr)
    or_more = repeat (k.Or ∷ []) or_one

    unfoldable pub disjunction : Reader Expr
    disjunction = making (λ p. any_of e.Or p.0 p.1) (both conjunction or_more)

    abbrev pub level : Entry → Reader Expr
    level Whole = disjunction
    level Negated = negation
    level Signed = unary

unfoldable pub expr : ℕ → Entry → Reader Expr
expr zero entry = λ i. Err TooDeep
expr (suc n) entry = level (expr n) n entry

-- The grammar of the language: which lexemes spell which tree. The head comment of each rule is the rule as it is
-- published. `[ ]` is optional, `{ }` repeats, `|` chooses.
use Rattle.std.specs.Prelude.{ℕ, zero, suc, Bool, true, false, List, [], ◌∷◌, Option, Some, None}
use Rattle.ct_types.specs.declared.expr.Comparison.{Comparison}
use Rattle.ct_types.specs.declared.expr.Comparison.TheVariants as comparison
use Rattle.ct_types.specs.declared.expr.Expr.{Expr}
use Rattle.ct_types.specs.declared.expr.Expr.TheVariants as e
use Rattle.ct_types.specs.declared.expr.Term.{Term, roll-Term}
use Rattle.ct_types.specs.declared.expr.Scalar.{Scalar, roll-Scalar}
use Rattle.ct_types.specs.declared.expr.RowVersion.{RowVersion, roll-RowVersion}
use Rattle.ct_types.specs.declared.expr.ColumnName.{ColumnName}
use Rattle.ct_grammar.specs.declared.kind.Kind.{Kind}
use Rattle.ct_grammar.specs.declared.kind.Kind.TheVariants as k
use Rattle.ct_grammar.specs.Kinds.{Set}
use Rattle.ct_grammar.specs.Lexemes.{Lexeme}
use Rattle.ct_grammar.specs.Rules.{Rule, ◌and◌, ◌or◌, ◌of◌, maybe, many, never, below, one, kind, name, number, variable, text, bytes}
use Rattle.ct_grammar.specs.Names.{second_part, table_name}
use Rattle.ct_parse_expr.specs.declared.level.Entry.{Entry}
use Rattle.ct_parse_expr.specs.declared.level.Entry.TheVariants.{Whole, Negated, Signed}
use Rattle.ct_parse_expr.specs.declared.level.Test.{Test}
use Rattle.ct_parse_expr.specs.declared.level.Test.TheVariants as test

-- ---- sets of kinds

abbrev pub comparisons : Set
comparisons = k.Equal ∷ k.Different ∷ k.Unlike ∷ k.Less ∷ k.AtMost ∷ k.More ∷ k.AtLeast ∷ []

abbrev pub signs : Set
signs = k.Plus ∷ k.Minus ∷ []

-- functions by the number of their arguments
abbrev pub with_none : Set
with_none = k.CurrentVersion ∷ []

abbrev pub with_one : Set
with_one = k.MinValidVersion ∷ k.ObjectId ∷ []

abbrev pub with_two : Set
with_two = k.IsColumnInMask ∷ k.IsNull ∷ []

abbrev pub with_three : Set
with_three = k.ColumnProperty ∷ []

-- ---- what the parts of a rule make

abbrev pub column_of : List ℕ → Option (List ℕ) → ColumnName
column_of first None = record { source = None; column = first }
column_of first (Some second) = record { source = Some first; column = second }

abbrev pub call_one : Kind → Expr → Expr
call_one k.ObjectId a = e.ObjectId a
call_one _ a = e.MinValidVersion a

abbrev pub call_two : Kind → Expr → Expr → Expr
call_two k.IsNull a b = e.IfNull a b
call_two _ a b = e.IsColumnInMask a b

-- a chain of one operator: one operand stands for itself
abbrev pub any_of : (List Expr → Expr) → Expr → List Expr → Expr
any_of make first [] = first
any_of make first (x ∷ more) = make (first ∷ x ∷ more)

abbrev pub sum_of : Expr → List Term → Expr
sum_of first [] = first
sum_of first (x ∷ more) = e.Sum first (x ∷ more)

abbrev pub is_minus : Kind → Bool
is_minus k.Minus = true
is_minus _ = false

abbrev pub term_of : Kind → Expr → Term
term_of sign value = roll-Term (record { subtracts = is_minus sign; value = value })

abbrev pub comparison_of : Kind → Comparison
comparison_of k.Equal = comparison.Equal
comparison_of k.Less = comparison.Less
comparison_of k.AtMost = comparison.AtMost
comparison_of k.More = comparison.More
comparison_of k.AtLeast = comparison.AtLeast
comparison_of _ = comparison.NotEqual

abbrev pub null_test : Option Unit → Test
null_test None = test.Null
null_test (Some _) = test.NotNull

abbrev pub tested : Expr → Option Test → Expr
tested left None = left
tested left (Some (test.Compared operator right)) = e.Compare operator left right
tested left (Some test.Null) = e.IsNull left
tested left (Some test.NotNull) = e.IsNotNull left

-- ---- names

-- [AS] name
unfoldable pub alias : Rule (List ℕ)
alias = (λ p. p.1) of (maybe (one k.As) and name)

-- "(" name {"," name} ")"
unfoldable pub name_list : Rule (List (List ℕ))
name_list = (λ p. p.1.0 ∷ p.1.1.0) of (one k.Open and name and many ((λ p. p.1) of (one k.Comma and name)) and one k.Close)

-- name ["." name]
unfoldable pub column : Rule Expr
column = (λ p. e.Column (column_of p.0 p.1)) of (name and maybe second_part)

-- ---- expressions, by the number n of levels that are left below, and the rules one level deeper

module _ (inner : Entry → Expr → List Lexeme → Type 0) where
  -- tuple = "(" expr {"," expr} ")"
  unfoldable pub tuple : Rule (List Expr)
  tuple = (λ p. p.1.0 ∷ p.1.1.0) of (one k.Open and inner Whole and many ((λ p. p.1) of (one k.Comma and inner Whole)) and one k.Close)

  -- what stands behind CHANGETABLE "(" in: version = CHANGETABLE "(" VERSION tname "," "(" name {"," name} ")" "," tuple ")"
  unfoldable pub version_tail : Rule RowVersion
  version_tail = (λ p. roll-RowVersion (record { table = p.1.0; columns = p.1.1.1.0; values = p.1.1.1.1.1.0 }))
      of (one k.Version and table_name and one k.Comma and name_list and one k.Comma and tuple and one k.Close)

  unfoldable pub version : Rule RowVersion
  version = (λ p. p.1.1) of (one k.ChangeTable and one k.Open and version_tail)

  -- scalar = SELECT name "." name FROM version [AS] name
  unfoldable pub scalar : Rule Scalar
  scalar = (λ p. roll-Scalar (record { source = p.1.0; column = p.1.1.1.0; version = p.1.1.1.1.1.0; alias = p.1.1.1.1.1.1 }))
      of (one k.Select and name and one k.Dot and name and one k.From and version and alias)

  module _ (n : ℕ) where
    -- what stands behind the bracket in: "(" expr ")" | "(" scalar ")"
    unfoldable pub enclosed : Rule Expr
    enclosed = (λ p. p.0) of ((((λ s. e.Scalar s) of scalar) or inner Whole) and one k.Close)

    -- the arguments of a function, with the bracket that ends them
    unfoldable pub one_argument : Rule Expr
    one_argument = (λ p. p.0) of (inner Whole and one k.Close)

    unfoldable pub two_arguments : Rule (Expr × Expr)
    two_arguments = (λ p. (p.0, p.1.1.0)) of (inner Whole and one k.Comma and inner Whole and one k.Close)

    unfoldable pub three_arguments : Rule (Expr × (Expr × Expr))
    three_arguments = (λ p. (p.0, (p.1.1.0, p.1.1.1.1.0))) of (inner Whole and one k.Comma and inner Whole and one k.Comma and inner Whole and one k.Close)

    -- name ["." name], or a function: the words of functions are names where no bracket follows
    unfoldable pub reference : Rule Expr
    reference =
        ((λ p. e.CurrentVersion) of (kind with_none and one k.Open and below n (one k.Close)))
        or ((λ p. call_one p.0 p.1.1) of (kind with_one and one k.Open and below n one_argument))
        or ((λ p. call_two p.0 p.1.1.0 p.1.1.1) of (kind with_two and one k.Open and below n two_arguments))
        or ((λ p. e.ColumnProperty p.1.1.0 p.1.1.1.0 p.1.1.1.1) of (kind with_three and one k.Open and below n three_arguments))
        or column

    -- primary = NULL | number | text | bytes | variable | name ["." name] | function | "(" expr ")" | "(" scalar ")"
    unfoldable pub primary : Rule Expr
    primary =
        ((λ x. e.Null) of one k.Null)
        or ((λ digits. e.Number digits) of number)
        or ((λ value. e.Text value) of text)
        or ((λ value. e.Bytes value) of bytes)
        or ((λ name. e.Variable name) of variable)
        or ((λ p. p.1) of (one k.Open and below n enclosed))
        or reference

    -- unary = "-" unary | primary
    unfoldable pub unary : Rule Expr
    unary = ((λ p. e.Negative p.1) of (one k.Minus and inner Signed)) or primary

    -- prod = unary {"*" unary}
    unfoldable pub product : Rule Expr
    product = (λ p. any_of e.Product p.0 p.1) of (unary and many ((λ p. p.1) of (one k.Star and unary)))

    -- sum = prod {("+" | "-") prod}
    unfoldable pub sum : Rule Expr
    sum = (λ p. sum_of p.0 p.1) of (product and many ((λ p. term_of p.0 p.1) of (kind signs and product)))

    -- test = sum [("=" | "<>" | "!=" | "<" | "<=" | ">" | ">=") sum | IS [NOT] NULL]
    unfoldable pub predicate : Rule Expr
    predicate = (λ p. tested p.0 p.1) of (sum and maybe (
        ((λ p. test.Compared (comparison_of p.0) p.1) of (kind comparisons and sum))
        or ((λ p. null_test p.1.0) of (one k.Is and maybe (one k.Not) and one k.Null))))

    -- neg = NOT neg | test
    unfoldable pub negation : Rule Expr
    negation = ((λ p. e.Not p.1) of (one k.Not and inner Negated)) or predicate

    -- conj = neg {AND neg}
    unfoldable pub conjunction : Rule Expr
    conjunction = (λ p. any_of e.And p.0 p.1) of (negation and many ((λ p. p.1) of (one k.And and negation)))

    -- expr = conj {OR conj}
    unfoldable pub disjunction : Rule Expr
    disjunction = (λ p. any_of e.Or p.0 p.1) of (conjunction and many ((λ p. p.1) of (one k.Or and conjunction)))

    abbrev pub level : Entry → Rule Expr
    level Whole = disjunction
    level Negated = negation
    level Signed = unary

-- Expressions of at most so many levels less one. A level deeper is what stands in the brackets of `primary` and of a
-- function, behind NOT, and behind the sign `-`.
abbrev pub expr : ℕ → Entry → Rule Expr
expr zero entry = never
expr (suc n) entry = level (expr n) n entry

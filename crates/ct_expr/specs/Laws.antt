-- Laws of conditions: De Morgan's, double negation, and that a comparison is its mirror. Which table a text names.
use Rattle.std.specs.Prelude.{◌≡◌, ℕ, List, None}
use Rattle.ct_types.specs.declared.expr.Comparison.{Comparison}
use Rattle.ct_types.specs.declared.expr.Comparison.TheVariants as comparison
use Rattle.ct_types.specs.declared.expr.ObjectName.{ObjectName}
use Rattle.ct_types.specs.declared.catalogue.Catalogued.{Catalogued}
use Rattle.ct_types.specs.declared.value.Value.{Value}
use Rattle.ct_bind_names.specs.Catalogue as of_name
use Rattle.ct_bind_names.specs.Names.{table_name}
use Rattle.ct_grammar.specs.TableTexts.{IsTableText}
use Rattle.ct_expr.specs.Logic.{Truth, not3, and3, or3}
use Rattle.ct_expr.specs.Numbers.{compare}
use Rattle.ct_expr.specs.Tables.{table_named}

abbrev pub DeMorgan : Type 0
DeMorgan = (a b : Truth) → (not3 (and3 a b) ≡ or3 (not3 a) (not3 b)) × (not3 (or3 a b) ≡ and3 (not3 a) (not3 b))

abbrev pub DoubleNegation : Type 0
DoubleNegation = (a : Truth) → not3 (not3 a) ≡ a

-- the comparison that says the same with its sides exchanged
abbrev pub mirrored : Comparison → Comparison
mirrored comparison.Equal = comparison.Equal
mirrored comparison.NotEqual = comparison.NotEqual
mirrored comparison.Less = comparison.More
mirrored comparison.AtMost = comparison.AtLeast
mirrored comparison.More = comparison.Less
mirrored comparison.AtLeast = comparison.AtMost

abbrev pub Mirror : Type 0
Mirror = (operator : Comparison) (a b : Value) → compare operator a b ≡ compare (mirrored operator) b a

-- where a text is a name of a table, it names the table of that name, and else none
pub record TextNames : Type 0 where
  pub some : (tables : List Catalogued) (text : List ℕ) (name : ObjectName) → IsTableText text name → table_named tables text ≡ of_name.table_named tables (table_name name)
  pub none : (tables : List Catalogued) (text : List ℕ) → ((name : ObjectName) → IsTableText text name → ⊥) → table_named tables text ≡ None

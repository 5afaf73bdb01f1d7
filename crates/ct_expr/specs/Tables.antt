-- The table that a text names, as the argument of T-SQL's OBJECT_ID does: its tokens are a sentence of the grammar's rule of
-- a table's name, and the table has that name. T-SQL takes names of up to three parts there; these of one or two are this
-- project's own.
use Rattle.std.specs.Prelude.{ℕ, List, Option}
use Rattle.std.specs.Option.{option_and_then}
use Rattle.ct_types.specs.declared.expr.ObjectName.{ObjectName}
use Rattle.ct_types.specs.declared.catalogue.Catalogued.{Catalogued}
use Rattle.ct_bind_names.specs.Catalogue as of_name
use Rattle.ct_bind_names.specs.Names.{table_name}
use Rattle.ct_grammar.specs.TableTexts.{Tells}
use Rattle.ct_grammar.proofs.TableTexts.{one_or_none}

-- a name of a table, or none, such that the text is this name, or is none
abbrev pub told : (text : List ℕ) → (name : Option ObjectName) × Tells text name
told text = one_or_none text

abbrev pub text_name : List ℕ → Option ObjectName
text_name text = (told text).0

-- the table that a text names
unfoldable pub table_named : List Catalogued → List ℕ → Option Catalogued
table_named tables text = option_and_then (λ name. of_name.table_named tables (table_name name)) (text_name text)

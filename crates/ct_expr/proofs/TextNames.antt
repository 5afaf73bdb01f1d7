-- The name that a text is, and the table that it names.
use Rattle.std.proofs.Common.{◌≡◌, ℕ, List, Option, Some, None, Ok, Err, Result, ap, sym}
use Rattle.std.specs.Prelude.{IfOk}
use Rattle.std.specs.Option.{option_and_then}
use Rattle.ct_types.specs.declared.expr.ObjectName.{ObjectName}
use Rattle.ct_bind_names.specs.Catalogue as of_name
use Rattle.ct_bind_names.specs.Names.{table_name}
use Rattle.ct_grammar.specs.TableTexts.{Tells}
use Rattle.ct_grammar.proofs.TableTexts.{one_answer}
use Rattle.ct_expr.specs.Laws.{TextNames}
use Rattle.ct_expr.specs.Tables.{told, text_name, table_named}

is_name : (text : List ℕ) (name : Option ObjectName) → Tells text name → name ≡ text_name text
is_name text name tells = one_answer text name (text_name text) tells (told text).1

pub name_told : {E : Type 0} (text : List ℕ) (r : Result (Option ObjectName) E) → IfOk r (Tells text) → IfOk r (λ name. name ≡ text_name text)
name_told text (Ok name) tells = is_name text name tells
name_told text (Err fault) tells = tt

pub text_names : TextNames
unfolding table_named
text_names = record {
  some = λ tables text name is. ap (λ o. option_and_then (λ name. of_name.table_named tables (table_name name)) o) (sym (is_name text (Some name) is));
  none = λ tables text no_name. ap (λ o. option_and_then (λ name. of_name.table_named tables (table_name name)) o) (sym (is_name text None no_name));
}

-- Data definition is read with names that are names.
use Rattle.std.proofs.Common.{Bool, Option, Some, None, IfSome}
use Rattle.ct_types.specs.declared.expr.ObjectName.{ObjectName}
use Rattle.ct_types.specs.declared.stmt.ColumnDef.{ColumnDef}
use Rattle.ct_model.specs.Names.{IsName}
use Rattle.ct_grammar.specs.Kinds.{names}
use Rattle.ct_grammar.specs.Rules.{name}
use Rattle.ct_grammar.specs.Names.{table_name}
use Rattle.ct_parse_definition.specs.Grammar as g
use Rattle.ct_parse_definition.specs.Grammar.{tracking_of}
use Rattle.ct_machine_laws.specs.Spelled.{IsSpelled}
use Rattle.ct_machine_laws.proofs.Yields.{Yields, yields_token, yields_both, yields_first, yields_second, yields_either, yields_of, yields_made, yields_maybe, IfMore, yields_until}

-- ---- names

name_named : Yields name IsName
name_named = yields_of (yields_token names) (λ x h. h.0 h.1)

-- the parts of a table's name are names
abbrev HasNames : ObjectName → Type 0
HasNames table = IsName table.first × IfSome table.second IsName

table_named : Yields table_name HasNames
unfolding table_name
table_named = yields_of (yields_both name_named (yields_maybe (yields_of (yields_second name_named) (λ p h. h)))) (λ p h. h)

-- a column's name is a name
abbrev IsNamed : ColumnDef → Type 0
IsNamed column = IsName column.name

column_named : Yields g.column IsNamed
unfolding g.column
column_named = yields_of (yields_first name_named) (λ p h. h)

part_named : Yields g.table_part (IfMore IsNamed)
unfolding g.table_part
part_named = yields_of (yields_second (yields_either (yields_of column_named (λ column h. h)) (yields_made (λ key. tt)))) (λ p h. h)

-- ---- the rules of statements

pub create_spelled : Yields g.create IsSpelled
unfolding g.create
create_spelled =
    yields_of (yields_second (yields_second (yields_both table_named (yields_second (yields_both column_named (yields_first (yields_until part_named)))))))
    (λ p h. record { first = h.0.0; second = h.0.1; columns = h.1 })

switch_spelled : (table : ObjectName) (columns_updated : Option Bool) → IsSpelled (tracking_of table columns_updated)
switch_spelled table None = tt
switch_spelled table (Some on) = tt

pub alter_spelled : Yields g.alter IsSpelled
unfolding g.alter g.database g.tracking
alter_spelled =
    yields_of (yields_second (yields_either (yields_made (λ p. tt)) (yields_made (λ p. switch_spelled p.1.0 p.1.1)))) (λ p h. h)

pub truncate_spelled : Yields g.truncate IsSpelled
unfolding g.truncate
truncate_spelled = yields_made (λ p. tt)

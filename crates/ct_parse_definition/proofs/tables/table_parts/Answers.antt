use Rattle.std.proofs.Common.{rules}
use Rattle.ct_parse_definition.specs.ReadDdl.{table_part, table_parts}
use Rattle.ct_parse_definition.proofs.tables.table_parts.Goals as goal

pub returns : goal.returns
unfolding table_parts
returns c = c.read_until.ensures table_part (record { reads = λ old new r h. search rules })

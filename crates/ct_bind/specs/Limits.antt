-- What binding asks of a catalogue, and what it keeps. A table has at most 64 columns, as CREATE TABLE takes.
use Rattle.std.specs.Prelude.{◌≤◌, ◌<◌, List, length, map}
use Rattle.std.specs.List.{All, AllByRecursion}
use Rattle.ct_types.specs.declared.bound.Bound.{Bound}
use Rattle.ct_types.specs.declared.bound.Bound.TheVariants.{CreateTable, Write}
use Rattle.ct_types.specs.declared.bound.RowChange.{RowChange}
use Rattle.ct_types.specs.declared.bound.RowChange.TheVariants.{Update}
use Rattle.ct_types.specs.declared.catalogue.Catalogued.{Catalogued}

abbrev pub HaveFewColumns : List Catalogued → Type 0
HaveFewColumns tables = AllByRecursion (λ table. length table.schema.columns ≤ 64) tables

-- the columns of a SET list have ids from 1 to 64
abbrev pub ChangeKeepsLimits : RowChange → Type 0
ChangeKeepsLimits (Update sets filter) = All (λ id. (0 < id) × (id ≤ 64)) (map (λ set. set.column) sets)
ChangeKeepsLimits _ = Unit {0}

-- What a bound statement keeps of the limits: a created table has at most 64 columns, and a SET list sets columns with ids
-- from 1 to 64.
abbrev pub KeepsLimits : Bound → Type 0
KeepsLimits (CreateTable schema) = length schema.columns ≤ 64
KeepsLimits (Write write) = ChangeKeepsLimits write.change
KeepsLimits _ = Unit {0}

-- How the rows of a source are found in two steps, as the code does it. No promise speaks of them.
use Rattle.std.specs.Prelude.{List, [], ◌∷◌, Option, None, Some, Ok}
use Rattle.ct_types.specs.declared.bound.BoundSource.{BoundSource}
use Rattle.ct_types.specs.declared.bound.Join.{Join}
use Rattle.ct_types.specs.declared.bound.Join.TheVariants.{Apply}
use Rattle.ct_types.specs.declared.bound.BoundSource.TheVariants as source
use Rattle.ct_types.specs.declared.value.Row.{Row}
use Rattle.ct_database.specs.declared.committed.Committed.{Committed}
use Rattle.ct_expr.specs.Functions.{counted}
use Rattle.ct_model.specs.declared.db.Db.{Db}
use Rattle.ct_model.specs.Tables.{table_of}
use Rattle.ct_types.specs.Answers.{Answer, each}
use Rattle.ct_machine.specs.Reads.{rows_of, source_rows, version_on}
use Rattle.ct_state.specs.Seen.{Seen}

-- the rows that are made for a source; those of a table are lent
abbrev pub made_rows : Seen → Option BoundSource → Answer (List Row)
made_rows seen None = Ok []
made_rows seen (Some (source.Table id)) = Ok []
made_rows seen (Some other) = source_rows seen other

-- the rows that are made for the right source: in CROSS APPLY one for each left row
abbrev pub made_right : Seen → Join → Option BoundSource → List Row → Answer (List Row)
made_right seen Apply (Some (source.Version version)) lefts = each (version_on seen version) lefts
made_right seen join right lefts = made_rows seen right

-- the rows of a source, of which some were made
abbrev pub chosen_rows : Db → Option BoundSource → List Row → List Row
chosen_rows db None made = made
chosen_rows db (Some (source.Table id)) made = rows_of (table_of db.tables id)
chosen_rows db (Some (source.Changes id since)) made = made
chosen_rows db (Some (source.Version version)) made = made
chosen_rows db (Some source.CommitTable) made = made
chosen_rows db (Some source.TrackingTables) made = made

-- the row of sys.dm_tran_commit_table, by what a database tells of a commit
abbrev pub shown_committed : Committed → Row
shown_committed one = record { 0 = counted one.version ∷ counted one.xdes ∷ counted one.time ∷ [] }

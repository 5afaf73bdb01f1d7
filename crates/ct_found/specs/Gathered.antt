-- The database that pieces make, one after the other: by it a list of pieces is that of one database.
use Rattle.std.specs.Prelude.{Bool, true, false, List, [], ◌∷◌, ◌++◌, if◌then◌else◌}
use Rattle.ct_types.specs.declared.value.Row.{Row}
use Rattle.ct_types.specs.declared.piece.Piece.{Piece}
use Rattle.ct_types.specs.declared.piece.Piece.TheVariants as piece
use Rattle.ct_model.specs.declared.db.Table.{Table}
use Rattle.ct_model.specs.declared.db.Db.{Db}

-- rows go to the last table
abbrev pub with_rows : List Table → List Row → List Table
with_rows [] rows = []
with_rows (table ∷ []) rows = record table { rows = table.rows ++ rows } ∷ []
with_rows (table ∷ other ∷ more) rows = table ∷ with_rows (other ∷ more) rows

-- what the pieces so far make, and whether they have ended
pub record Made : Type 0 where
  pub db : Db
  pub ended : Bool

abbrev pub goes_on : Db → Piece → Made
goes_on db (piece.Head version time last_xdes keep) = record { db = record db { version = version; time = time; last_xdes = last_xdes; keep = keep }; ended = false }
goes_on db (piece.Table schema tracked) = record { db = record db { tables = db.tables ++ record { schema = schema; rows = []; tracked = tracked } ∷ [] }; ended = false }
goes_on db (piece.Rows id rows) = record { db = record db { tables = with_rows db.tables rows }; ended = false }
goes_on db (piece.Kept kept) = record { db = record db { kept = db.kept ++ kept ∷ [] }; ended = false }
goes_on db piece.End = record { db = db; ended = true }

abbrev pub gather : Made → Piece → Made
gather made p = if made.ended then made else goes_on made.db p

-- What may follow in a checkpoint, piece by piece. This project's own.
--
-- The first piece is a head. Behind it stand the tables, each with its rows in groups, then the kept commits, then the end.
-- So the pieces so far, as long as they have not ended, are those of one valid database without its end. This is the state of
-- the reading: the next piece has to go on in it.
use Rattle.std.specs.Prelude.{◌≡◌, ◌-◌, ◌%◌, ◌^◌, ◌<◌, ◌≤◌, ℕ, false, List, [], ◌∷◌, ◌++◌, length, slice_get, Option}
use Rattle.std.specs.List.{AllByRecursion}
use Rattle.std.specs.Option.{IsSomeAnd}
use Rattle.ct_types.specs.declared.value.Row.{Row}
use Rattle.ct_types.specs.declared.entry.Keep.{Keep}
use Rattle.ct_types.specs.declared.piece.Piece.{Piece}
use Rattle.ct_types.specs.declared.piece.Piece.TheVariants as piece
use Rattle.ct_model.specs.declared.db.Table.{Table}
use Rattle.ct_model.specs.declared.db.Db.{Db}
use Rattle.ct_model.specs.Applies.{IsNewSchema}
use Rattle.ct_model.specs.Apply.{no_db}
use Rattle.ct_model.specs.Schemas.{RowFits}
use Rattle.ct_model.specs.Valid.{IsKeepValid, IsTrackedValid, AreRising, IsKeptValid, ComesBefore}
use Rattle.ct_found.specs.Gathered.{Made, gather}

-- a head that a valid database may have
pub record IsHead (version time last_xdes : ℕ) (keep : Option Keep) : Type 0 where
  pub version_within : version ≤ 2 ^ 62
  pub time_within : time ≤ 2 ^ 62
  pub xdes_within : last_xdes ≤ 2 ^ 62
  pub keep_valid : IsKeepValid keep

-- the first piece is such a head
abbrev pub Starts : Piece → Type 0
Starts (piece.Head version time last_xdes keep) = IsHead version time last_xdes keep
Starts (piece.Table schema tracked) = ⊥
Starts (piece.Rows id rows) = ⊥
Starts (piece.Kept kept) = ⊥
Starts piece.End = ⊥

-- rows are the next group of a table: they are for it, and its groups so far are full; there are 1 to 256 of them, and each
-- fits the table
pub record IsNextGroup (id : ℕ) (rows : List Row) (table : Table) : Type 0 where
  pub id_is : id ≡ table.schema.id
  pub full : length table.rows % 256 ≡ 0
  pub some : 0 < length rows
  pub few : length rows ≤ 256
  pub fit : AllByRecursion (RowFits table.schema) rows

-- a table takes rows: they are its next group, and with them its rows go on to rise
pub record TakesRows (id : ℕ) (rows : List Row) (table : Table) : Type 0 where
  pub group : IsNextGroup id rows table
  pub rising : AreRising table.schema (table.rows ++ rows)

-- a piece goes on with a database:
-- * a head does not;
-- * a table does where no kept commit stands yet, its schema is new, and it is tracked as it may be;
-- * a group of rows does where no kept commit stands yet, and the last table takes it;
-- * a kept commit does where the database may have it, and each one so far comes before it;
-- * the end does.
abbrev pub Follows : Db → Piece → Type 0
Follows db (piece.Head version time last_xdes keep) = ⊥
Follows db (piece.Table schema tracked) = (db.kept ≡ []) × IsNewSchema db.tables schema × IsTrackedValid db.version db.keep tracked
Follows db (piece.Rows id rows) = (db.kept ≡ []) × IsSomeAnd (slice_get db.tables (length db.tables - 1)) (TakesRows id rows)
Follows db (piece.Kept kept) = IsKeptValid db kept × AllByRecursion (λ earlier. ComesBefore earlier kept) db.kept
Follows db piece.End = Unit {0}

-- pieces go on, each with what those before it made, and none behind the end
abbrev pub GoOn : Made → List Piece → Type 0
GoOn made [] = Unit {0}
GoOn made (p ∷ pieces) = (made.ended ≡ false) × Follows made.db p × GoOn (gather made p) pieces

-- nothing was gathered yet
abbrev pub at_first : Made
at_first = record { db = no_db; ended = false }

-- pieces follow each other from the first one on
abbrev pub AreInOrder : List Piece → Type 0
AreInOrder [] = Unit {0}
AreInOrder (p ∷ pieces) = Starts p × GoOn (gather at_first p) pieces

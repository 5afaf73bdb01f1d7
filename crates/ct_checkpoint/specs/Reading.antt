-- What the steps of the reading of a checkpoint answer.
use Rattle.std.specs.Prelude.{◌≡◌, ◌<◌, ℕ, List, ◌++◌, length, drop, Some}
use Rattle.std.specs.List.{AllByRecursion}
use Rattle.ct_types.specs.declared.piece.Piece.{Piece}
use Rattle.ct_types.specs.declared.piece.Piece.TheVariants as piece
use Rattle.ct_model.specs.declared.db.Db.{Db}
use Rattle.ct_model.specs.Valid.{IsValid}
use Rattle.ct_codec.specs.EntryReaders.{piece_of}
use Rattle.ct_codec.specs.Spellings.{spell_piece, PieceFits}
use Rattle.ct_found.specs.Checkpoint.{PiecesStop}
use Rattle.ct_found.specs.Gathered.{goes_on}
use Rattle.ct_found.specs.Pieces.{pieces_of, front_of, spell_pieces}
use Rattle.ct_checkpoint.specs.declared.reading.Step.{Step}
use Rattle.ct_checkpoint.specs.declared.reading.Step.TheVariants.{More, Ended, Stopped}

-- the bytes begin with these pieces, up to this offset
pub record ReadsPieces (bytes : List ℕ) (pieces : List Piece) (at : ℕ) : Type 0 where
  pub split : bytes ≡ spell_pieces pieces ++ drop at bytes
  pub fit : AllByRecursion PieceFits pieces
  pub at_is : at ≡ length (spell_pieces pieces)

-- up to this offset they have the pieces of a valid database, without its end
pub record ReadsUpTo (bytes : List ℕ) (db : Db) (at : ℕ) : Type 0 where
  pub valid : IsValid db
  pub so_far : ReadsPieces bytes (front_of db) at

-- up to this offset they have all its pieces
pub record ReadsWhole (bytes : List ℕ) (db : Db) (at : ℕ) : Type 0 where
  pub valid : IsValid db
  pub so_far : ReadsPieces bytes (pieces_of db) at

-- the bytes begin with this piece, which has so many of them
pub record BeginsWith (bytes : List ℕ) (p : Piece) (size : ℕ) : Type 0 where
  pub read : piece_of bytes ≡ Some (p, drop size bytes)
  pub size_is : size ≡ length (spell_piece p)

-- what a step from this offset finds
abbrev pub StepsTo : List ℕ → ℕ → Step → Type 0
StepsTo bytes at (More db to) = ReadsUpTo bytes db to × (at < to)
StepsTo bytes at (Ended db to) = ReadsWhole bytes db to
StepsTo bytes at Stopped = PiecesStop bytes at

-- the step behind a piece that goes on with a database
abbrev pub stepped : Db → Piece → ℕ → Step
stepped db (piece.Head version time last_xdes keep) to = More (goes_on db (piece.Head version time last_xdes keep)).db to
stepped db (piece.Table schema tracked) to = More (goes_on db (piece.Table schema tracked)).db to
stepped db (piece.Rows id rows) to = More (goes_on db (piece.Rows id rows)).db to
stepped db (piece.Kept kept) to = More (goes_on db (piece.Kept kept)).db to
stepped db piece.End to = Ended db to

-- What the bytes of a checkpoint's area stand for, and where their reading stops. This project's own.
--
-- A slot states the length of its checkpoint. The bytes up to there are the pieces of one valid database, and what follows
-- them is ignored. Their reading goes piece by piece.
use Rattle.std.specs.Prelude.{◌≡◌, ◌⊎◌, ℕ, ◌<◌, ◌≤◌, List, [], ◌∷◌, ◌++◌, length, take}
use Rattle.std.specs.List.{AllByRecursion}
use Rattle.ct_types.specs.declared.piece.Piece.{Piece}
use Rattle.ct_model.specs.declared.db.Db.{Db}
use Rattle.ct_model.specs.Valid.{IsValid}
use Rattle.ct_codec.specs.Spellings.{spell_piece, PieceFits}
use Rattle.ct_found.specs.Pieces.{pieces_of, spell_pieces}

-- the area begins with the pieces of a valid database, and they have exactly this length
pub record IsCheckpoint (bytes : List ℕ) (size : ℕ) (db : Db) : Type 0 where
  pub ignored : List ℕ
  pub split : bytes ≡ spell_pieces (pieces_of db) ++ ignored
  pub size_is : size ≡ length (spell_pieces (pieces_of db))
  pub fit : AllByRecursion PieceFits (pieces_of db)
  pub valid : IsValid db

-- some valid database has these pieces first
pub record BeginDatabase (pieces : List Piece) : Type 0 where
  pub db : Db
  pub more : List Piece
  pub valid : IsValid db
  pub is : pieces_of db ≡ pieces ++ more

-- the pieces of a checkpoint stop at this offset. Up to there stand pieces that some valid database has first. They are not
-- the whole: bytes follow them, or no valid database has these pieces alone. And no piece follows that, put after them, begins
-- some valid database. So bytes behind an end piece are a fault, at the offset behind it
pub record PiecesStop (bytes : List ℕ) (offset : ℕ) : Type 0 where
  pub pieces : List Piece
  pub rest : List ℕ
  pub split : bytes ≡ spell_pieces pieces ++ rest
  pub fit : AllByRecursion PieceFits pieces
  pub begin : BeginDatabase pieces
  pub unfinished : (db : Db) → IsValid db → pieces_of db ≡ pieces → rest ≡ [] → ⊥
  pub none : (piece : Piece) (tail : List ℕ) → PieceFits piece → rest ≡ spell_piece piece ++ tail → BeginDatabase (pieces ++ piece ∷ []) → ⊥
  pub offset_is : offset ≡ length (spell_pieces pieces)

-- there is no checkpoint of this length, by this offset: the area ends before it, or its pieces stop
abbrev pub IsNoCheckpoint : List ℕ → ℕ → ℕ → Type 0
IsNoCheckpoint bytes size offset = ((length bytes < size) × (offset ≡ length bytes)) ⊎ ((size ≤ length bytes) × PiecesStop (take size bytes) offset)

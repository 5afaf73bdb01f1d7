-- What the steps of the writing of a checkpoint do.
use Rattle.std.specs.Prelude.{◌≡◌, ℕ, List, ◌++◌}
use Rattle.std.specs.List.{AllByRecursion}
use Rattle.ct_types.specs.declared.piece.Piece.{Piece}
use Rattle.ct_codec.specs.Spellings.{PieceFits}
use Rattle.ct_found.specs.Pieces.{spell_pieces}

-- the spellings of these pieces were appended, and each of them can be spelled
pub record Appends (pieces : List Piece) (old new : List ℕ) : Type 0 where
  pub spelled : new ≡ old ++ spell_pieces pieces
  pub fit : AllByRecursion PieceFits pieces

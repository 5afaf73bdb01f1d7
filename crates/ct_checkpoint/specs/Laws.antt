-- The law of the reading piece by piece.
use Rattle.std.specs.Prelude.{◌↔◌, List}
use Rattle.ct_types.specs.declared.piece.Piece.{Piece}
use Rattle.ct_found.specs.Checkpoint.{BeginDatabase}
use Rattle.ct_checkpoint.specs.Following.{AreInOrder}

-- pieces follow each other exactly where some valid database has them first
abbrev pub OrderIsExact : Type 0
OrderIsExact = (pieces : List Piece) → AreInOrder pieces ↔ BeginDatabase pieces

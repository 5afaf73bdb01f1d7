-- The checkpoint in an area.
use Rattle.std.proofs.Common.{ℕ, ◌≤◌, List, ◌++◌, length, take, drop, sym, ◌∙◌, ap, append_assoc, take-append-drop}
use Rattle.std.proofs.lemmas.List.{length-take-le}
use Rattle.ct_model.specs.declared.db.Db.{Db}
use Rattle.ct_found.specs.Pieces.{pieces_of, spell_pieces}
use Rattle.ct_found.specs.Checkpoint.{IsCheckpoint}

-- what follows the stated length is ignored
pub checkpoint_of_front : (bytes : List ℕ) (size : ℕ) (db : Db) → size ≤ length bytes → IsCheckpoint (take size bytes) (length (take size bytes)) db → IsCheckpoint bytes size db
checkpoint_of_front bytes size db fits is = record {
  ignored = is.ignored ++ drop size bytes;
  split = sym (take-append-drop size bytes) ∙ ap (λ l. l ++ drop size bytes) is.split ∙ append_assoc (spell_pieces (pieces_of db)) is.ignored (drop size bytes);
  size_is = sym (length-take-le size bytes fits) ∙ is.size_is;
  fit = is.fit;
  valid = is.valid;
}

use Rattle.std.proofs.Common.{arith, ◌≡◌, ◌-◌, Some, length, drop, sym, ap, ◌∙◌}
use Rattle.ct_codec.specs.EntryReaders.{piece_of}
use Rattle.ct_codec.specs.Spellings.{spell_piece}
use Rattle.ct_codec.proofs.PieceLaws.{behind}
use Rattle.ct_codec.proofs.piece.get_piece.Goals as goal

pub overflow_sub-result : goal.overflow_sub-result
overflow_sub-result c =
    let part = behind c.args.bytes.now c.read_piece.new.input c.in_ok-piece.piece (ap (λ l. piece_of l) (sym c.new-input.ensures) ∙ c.in_ok-piece.ensures) in
    omega (arith, part.0, c.left.ensures)

pub returns-clause-piece : goal.returns-clause-piece
returns-clause-piece c =
    let bytes = c.args.bytes.now in
    let read : piece_of bytes ≡ Some (c.in_ok-piece.piece, c.read_piece.new.input) = ap (λ l. piece_of l) (sym c.new-input.ensures) ∙ c.in_ok-piece.ensures in
    let part = behind bytes c.read_piece.new.input c.in_ok-piece.piece read in
    read ∙ ap (λ l. Some (c.in_ok-piece.piece, l)) (sym part.1) ∙ ap (λ n. Some (c.in_ok-piece.piece, drop (length bytes - n) bytes)) (sym c.left.ensures)

pub returns-clause-length : goal.returns-clause-length
returns-clause-length c =
    let part = behind c.args.bytes.now c.read_piece.new.input c.in_ok-piece.piece (ap (λ l. piece_of l) (sym c.new-input.ensures) ∙ c.in_ok-piece.ensures) in
    let long : length c.args.bytes.now - c.left.result ≡ length (spell_piece c.in_ok-piece.piece) = omega (arith, part.0, c.left.ensures) in
    long
